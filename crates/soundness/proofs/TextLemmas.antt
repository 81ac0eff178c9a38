-- Texts that are split, and texts without what they begin with.
use Rattle.std.proofs.Common.{◌≡◌, ◌<◌, ◌^◌, ◌+◌, ◌-◌, ◌++◌, ◌∷◌, if◌then◌else◌, ℕ, length, drop, codes, true, false}
use Rattle.broker_model.specs.Words.{is_some, IfSome, Option, Some, None, option_map, option_and_then, option_map_or}
use Rattle.broker_model.specs.Words.{is_utf8, Bor, refl, sym, ◌∙◌, ap, subst, arith, append_assoc, drop-append-add}
use Rattle.broker_model.specs.Words.{false≢true, length-append, none-some, IsSplitOnceResult, id, id-length, is_name}
use Rattle.broker_model.specs.Words.{is_mount_name, lease_identifier, IsIdentifier, IsLeaseId, Text, same, tree}
use Rattle.broker_model.specs.Words.{without_floats, members_in, is_object, slash, split_once, lacking_split, cut_some}
use Rattle.broker_model.specs.Words.{cut_none}
use Rattle.serde_json.specs.Data.{Data, null, boolean, number, string, array, object, Members}
use Rattle.serde_json.specs.Find.{as_object}
use Rattle.serde_json.specs.Read.{read}
use Rattle.serde_json.specs.Written.{compact_text}

-- a text is what is before the byte, the byte and what is after it
pub cut_at : (c : ℕ) → c < 128 → (text : Text) (r : Option (Bor Text × Bor Text)) → IsSplitOnceResult c text r
    → (x : Bor Text × Bor Text) → r ≡ Some x → text ≡ x.0.now ++ c ∷ x.1.now
cut_at c small text r split x is =
    (lacking_split c text (x.0.now, x.1.now) (cut_some c small text r split x is)).0

-- what a split answers
pub cut_result : (c : ℕ) → c < 128 → (text : Text) (r : Option (Bor Text × Bor Text)) → IsSplitOnceResult c text r
    → IfSome r (λ p. text ≡ p.0.now ++ c ∷ p.1.now)
cut_result c small text r split = by r refl
  where
    by : (o : Option (Bor Text × Bor Text)) → r ≡ o → IfSome o (λ p. text ≡ p.0.now ++ c ∷ p.1.now)
    by None is = tt
    by (Some x) is = cut_at c small text r split x is

pub cut_exact : (c : ℕ) → c < 128 → (text : Text) (r : Option (Bor Text × Bor Text)) → IsSplitOnceResult c text r
    → option_map (λ p. (p.0.now, p.1.now)) r ≡ split_once c text
cut_exact c small text r split = by r refl
  where
    by : (o : Option (Bor Text × Bor Text)) → r ≡ o → option_map (λ p. (p.0.now, p.1.now)) o ≡ split_once c text
    by None is = sym (cut_none c small text r split is)
    by (Some x) is = sym (cut_some c small text r split x is)

-- the parts at which a text was cut
pub parts_of : (text : Text) (r : Option (Bor Text × Bor Text)) (x : Bor Text × Bor Text) → r ≡ Some x
    → IfSome r (λ p. text ≡ p.0.now ++ slash ∷ p.1.now) → text ≡ x.0.now ++ slash ∷ x.1.now
parts_of text r x is parts = subst (λ o. IfSome o (λ p. text ≡ p.0.now ++ slash ∷ p.1.now)) is parts

-- the same, as a name of two parts has them
pub name_parts : (text : Text) (r : Option (Bor Text × Bor Text)) (x : Bor Text × Bor Text) → r ≡ Some x
    → IfSome r (λ p. text ≡ p.0.now ++ slash ∷ p.1.now) → text ≡ (x.0.now ++ codes "/") ++ x.1.now
name_parts text r x is parts = parts_of text r x is parts ∙ sym (append_assoc x.0.now (codes "/") x.1.now)

-- what follows a token and a slash
pub path_at : (key token : Text) (r : Option (Bor Text)) (x : Bor Text) → r ≡ Some x
    → IfSome r (λ path. key ≡ token ++ slash ∷ path.now) → key ≡ token ++ slash ∷ x.now
path_at key token r x is found = subst (λ o. IfSome o (λ path. key ≡ token ++ slash ∷ path.now)) is found

-- a text with an identifier of a lease at its end is the id of one
pub id_of : (key : Text) (r : Option (Bor Text)) → is_some r ≡ true
    → IfSome r (λ i. IsLeaseId key × (i.now ≡ lease_identifier key)) → IsLeaseId key
id_of key None some found = absurd (false≢true some)
id_of key (Some i) some found = found.0

pub issued_parts : (text : Text) (r : Option (Bor Text × Bor Text)) (x : Bor Text × Bor Text) → r ≡ Some x
    → IfSome r (λ p. text ≡ codes "creds/" ++ (p.0.now ++ slash ∷ p.1.now))
    → text ≡ codes "creds/" ++ (x.0.now ++ slash ∷ x.1.now)
issued_parts text r x is parts =
    subst (λ o. IfSome o (λ p. text ≡ codes "creds/" ++ (p.0.now ++ slash ∷ p.1.now))) is parts

-- the text of a word is an identifier
pub identified : (o : Option ℕ) (text : Text) (word : ℕ) → o ≡ Some word
    → IfSome o (λ w. (w < 2 ^ 128) × (text ≡ id w)) → IsIdentifier text
identified o text word is found =
    let of = subst (λ o. IfSome o (λ w. (w < 2 ^ 128) × (text ≡ id w))) is found in
    (word, of.0, of.1)

-- a text that is followed by its last part
abbrev EndsWith : Text → Text → Type 0
EndsWith text last = (front : Text) × (text ≡ front ++ last)

-- the last 36 bytes of a text that ends with as many
last_part : (text last : Text) → EndsWith text last → length last ≡ 36 → drop (length text - 36) text ≡ last
last_part text last ends long =
    let whole : length text ≡ length ends.0 + length last = ap length ends.1 ∙ length-append ends.0 last in
    let place : length text - 36 ≡ length ends.0 + 0 = omega (arith, whole, long) in
    ap (λ n. drop n text) place ∙ ap (drop (length ends.0 + 0)) ends.1 ∙ drop-append-add ends.0 last 0

-- the id of a lease, from its parts
pub lease_id_of : (text mount rest role identifier : Text) → text ≡ mount ++ slash ∷ rest
    → rest ≡ codes "creds/" ++ (role ++ slash ∷ identifier)
    → (is_mount_name mount ≡ true) × (is_name role ≡ true) × IsIdentifier identifier
    → IsLeaseId text × (identifier ≡ lease_identifier text)
lease_id_of text mount rest role identifier first more good = (
  record {
    mount = mount;
    role = role;
    identifier = identifier;
    mount_name = good.0;
    role_name = good.1;
    is_identifier = good.2;
    parts = whole;
  },
  sym (last_part text identifier (front, whole) (ap length good.2.2 ∙ id-length good.2.0)),
)
  where
    front : Text
    front = ((mount ++ codes "/creds/") ++ role) ++ codes "/"

    nested : (((mount ++ codes "/creds/") ++ role) ++ codes "/") ++ identifier
        ≡ mount ++ (codes "/creds/" ++ (role ++ (codes "/" ++ identifier)))
    nested =
        append_assoc ((mount ++ codes "/creds/") ++ role) (codes "/") identifier
        ∙ append_assoc (mount ++ codes "/creds/") role (codes "/" ++ identifier)
        ∙ append_assoc mount (codes "/creds/") (role ++ (codes "/" ++ identifier))

    whole : text ≡ (((mount ++ codes "/creds/") ++ role) ++ codes "/") ++ identifier
    whole = first ∙ ap (λ r. mount ++ slash ∷ r) more ∙ sym nested

-- ---- objects

-- an object has members, and is that of its members
object_of : (d : Data) → is_some (as_object d) ≡ true → (ms : Members) × (members_in d ≡ Some ms) × (object ms ≡ d)
object_of (object ms) h = (ms, refl, refl)
object_of null h = absurd (false≢true h)
object_of (boolean b) h = absurd (false≢true h)
object_of (number n) h = absurd (false≢true h)
object_of (string s) h = absurd (false≢true h)
object_of (array ds) h = absurd (false≢true h)

read_as : (text : Text) (d : Data) → tree text ≡ Some d → option_and_then without_floats (read text) ≡ Some d
read_as text d =
    elim (is_utf8 text) as (λ v. option_and_then without_floats (if v then read text else None) ≡ Some d
    → option_and_then without_floats (read text) ≡ Some d) [
      | true ↦ λ is. is
      | false ↦ λ none. absurd (none-some _ none)
    ]

-- the text that an object is printed as is kept
pub printed_object : (text : Text) (d : Data) → tree text ≡ Some d → is_some (as_object d) ≡ true
    → same (compact_text d) text ≡ true → is_object text ≡ true
unfolding is_object
printed_object text d reads holds printed =
    let o = object_of d holds in
    ap (λ o. option_map_or (λ ms. same (compact_text (object ms)) text) (option_and_then members_in o) false)
    (read_as text d reads)
    ∙ ap (λ o. option_map_or (λ ms. same (compact_text (object ms)) text) o false) o.1
    ∙ ap (λ z. same (compact_text z) text) o.2 ∙ printed
