-- What was read of a reply, and what is left to read.
use Rattle.broker_types.specs.Words.{length-take, length-drop, take-append-le, none-some}
use Rattle.api_client.specs.Words.{◌≡◌, ◌-◌, ◌<◌, ◌≤◌, ◌++◌, ℕ, List, length, take, drop, map, Option, Some, None, refl}
use Rattle.api_client.specs.Words.{sym, ap, ◌∙◌, subst, inl, inr, arith, append_assoc, length-append, take-append_seam}
use Rattle.api_client.specs.Words.{take-append-drop, take_all, same_Some, Consumes, ResponseHead, ReadsResponse}
use Rattle.api_client.specs.Words.{HasNoResponse, print_response, name_and_value, response_unique, ReadsResponse-append}
use Rattle.api_client.specs.Words.{BeginsWithReply, longest_reply_head, reply_length, BeginsWithHead, Reply, ReplyError}
use Rattle.api_client.specs.Words.{BadReply, Fault, ReplyHead}
use Rattle.api_client.specs.ReplyReads.{EndsInBody, HasNoReply, HasNoReplyHead, IsReplyError, ReadsBody, ReadsHead}

-- ---- known bytes

-- what was read of known bytes is their front
pub known : (old new : Option (List ℕ)) (bs input : List ℕ) → Consumes old new bs → old ≡ Some input
    → (rest : List ℕ) × (new ≡ Some rest) × (input ≡ bs ++ rest)
known None new bs input c e = absurd (none-some input e)
known (Some x) None bs input c e = absurd c
known (Some x) (Some y) bs input c e = (y, refl, sym (same_Some x input e) ∙ c)

-- all that follows the first bytes
pub rest_of : (n : ℕ) (xs : List ℕ) → take (length xs - n) (drop n xs) ≡ drop n xs
rest_of n xs = take_all (length xs - n) (drop n xs) (omega (arith, length-drop n xs))

-- a shorter beginning of the same bytes is a beginning of the longer one
pub begins_longer : (a x b y : List ℕ) → a ++ x ≡ b ++ y → length b ≤ length a → a ≡ b ++ drop (length b) a
begins_longer a x b y same shorter =
    let front : take (length b) a ≡ b =
    sym (take-append-le (length b) a x shorter) ∙ ap (take (length b)) same ∙ take-append_seam b y in
    sym (take-append-drop (length b) a) ∙ ap (λ (l : List ℕ). l ++ drop (length b) a) front

-- no head within the limit, if none had ended in so many bytes
pub no_head_later : (old new : Option (List ℕ)) (bytes : List ℕ) → Consumes old new bytes → HasNoResponse bytes
    → longest_reply_head ≤ length bytes
    → HasNoReplyHead old
no_head_later old new bytes consumed unended long input is head rest reads short few =
    let k = known old new bytes input consumed is in
    let same : bytes ++ k.0 ≡ print_response head ++ rest = sym k.2 ∙ reads.1 in
    unended head (drop (length (print_response head)) bytes)
    (reads.0, begins_longer bytes k.0 (print_response head) rest same (omega arith))

-- ---- errors

pub error_weaker : (failed : _) (P Q : Type 0) (e : ReplyError) → (P → Q) → IsReplyError failed P e
    → IsReplyError failed Q e
error_weaker failed P Q BadReply f (inl read) = inl read
error_weaker failed P Q BadReply f (inr p) = inr (f p)
error_weaker failed P Q (Fault fault) f h = h

pub no_reply : (left : Option (List ℕ)) → HasNoReplyHead left → HasNoReply left
no_reply left none input is reply begins =
    none input is begins.head (reply.body ++ begins.after) begins.reads begins.short begins.few

-- ---- after the head

-- the head tells the length of the body of any reply that the bytes begin with, and its body comes next
pub tells : (bytes rest : List ℕ) (h : ReplyHead) (b : BeginsWithHead bytes h) (reply : Reply)
    (r : BeginsWithReply (bytes ++ rest) reply)
    → (h.body_len ≡ Some (length reply.body)) × (drop h.len bytes ++ rest ≡ reply.body ++ r.after)
tells bytes rest h b reply r =
    let same = response_unique (bytes ++ rest) b.head r.head (drop h.len bytes ++ rest) (reply.body ++ r.after)
    (ReadsResponse-append bytes b.head (drop h.len bytes) rest b.reads) r.reads in
    (b.told ∙ ap (λ (k : ResponseHead). reply_length (map name_and_value k.fields)) same.0 ∙ r.told, same.1)

-- a head that tells no length begins no reply
pub no_length : (old new : Option (List ℕ)) (h : ReplyHead) (bytes : List ℕ) → ReadsHead old new h bytes
    → h.body_len ≡ None → HasNoReply old
no_length old new h bytes read none input is reply begins =
    let k = known old new bytes input read.consumed is in
    let t = tells bytes k.0 h read.begins reply (subst (λ (s : List ℕ). BeginsWithReply s reply) k.2 begins) in
    none-some (length reply.body) (sym none ∙ t.0)

-- a body that does not end is that of no reply
pub no_end : (old new : Option (List ℕ)) (h : ReplyHead) (bytes : List ℕ) (len : ℕ) → ReadsHead old new h bytes
    → h.body_len ≡ Some len
    → EndsInBody len (drop h.len bytes) new → HasNoReply old
no_end old new h bytes len read told ends input is reply begins =
    let k = known old new bytes input read.consumed is in
    let r = subst (λ (s : List ℕ). BeginsWithReply s reply) k.2 begins in
    let t = tells bytes k.0 h read.begins reply r in
    let same : len ≡ length reply.body = same_Some len (length reply.body) (sym told ∙ t.0) in
    omega (arith, ends k.0 k.1, ap length t.1, length-append reply.body r.after, same)

-- ---- the body

-- one read more
pub body_more : (len : ℕ) (begun more p body new : List ℕ) → body ≡ take len (begun ++ more) → length body < len
    → new ≡ body ++ p
    → length p ≤ len - length body → new ≡ take len (begun ++ (more ++ p))
body_more len begun more p body new front short added fits =
    let all : length (begun ++ more) < len = omega (arith, ap length front, length-take len (begun ++ more)) in
    let whole : body ≡ begun ++ more = front ∙ take_all len (begun ++ more) (omega arith) in
    let grown : new ≡ begun ++ (more ++ p) = added ∙ ap (λ (l : List ℕ). l ++ p) whole ∙ append_assoc begun more p in
    grown ∙ sym (take_all len (begun ++ (more ++ p))
    (omega (arith, ap length (sym grown), ap length added, length-append body p)))

-- a head and its body are a reply
pub reply_read : (old mid new : Option (List ℕ)) (h : ReplyHead) (bytes : List ℕ) (len : ℕ) (body : List ℕ)
    → ReadsHead old mid h bytes → h.body_len ≡ Some len
    → ReadsBody mid new len (drop h.len bytes) body → (input : List ℕ) → old ≡ Some input
    → BeginsWithReply input (record { status = h.status; body = body })
reply_read old mid new h bytes len body read told had input is =
    let k = known old mid bytes input read.consumed is in
    let m = known mid new had.more k.0 had.consumed k.1 in
    let begun = drop h.len bytes in
    let next : begun ++ k.0 ≡ body ++ (drop len (begun ++ had.more) ++ m.0) =
    ap (λ (l : List ℕ). begun ++ l) m.2 ∙ sym (append_assoc begun had.more m.0)
    ∙ ap (λ (l : List ℕ). l ++ m.0) (sym (take-append-drop len (begun ++ had.more)))
    ∙ append_assoc (take len (begun ++ had.more)) (drop len (begun ++ had.more)) m.0
    ∙ ap (λ (l : List ℕ). l ++ (drop len (begun ++ had.more) ++ m.0)) (sym had.front) in
    let reads : ReadsResponse (bytes ++ k.0) read.begins.head (begun ++ k.0) =
    ReadsResponse-append bytes read.begins.head begun k.0 read.begins.reads in
    record {
      head = read.begins.head;
      after = drop len (begun ++ had.more) ++ m.0;
      reads = subst (λ (s : List ℕ). ReadsResponse s read.begins.head (body ++ (drop len (begun ++ had.more) ++ m.0)))
          (sym k.2)
          (subst (λ (s : List ℕ). ReadsResponse (bytes ++ k.0) read.begins.head s) next reads);
      short = subst (λ (n : ℕ). n ≤ longest_reply_head) read.begins.len read.short;
      few = read.begins.few;
      status = read.begins.status;
      told = sym read.begins.told ∙ told ∙ ap (λ (n : ℕ). Some n) (sym had.whole);
    }
