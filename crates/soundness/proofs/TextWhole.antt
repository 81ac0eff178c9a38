-- Texts that pass each test of names, paths and identifiers.
use Rattle.std.proofs.Common.{◌≡◌, ◌<◌, ◌^◌, ◌-◌, ◌++◌, ◌∷◌, ◌+◌, if◌then◌else◌, [], ℕ, List, length, take, cond, Bool}
use lib.Utf8.{encode}
use Rattle.broker_model.specs.Words.{true, false, codes, Option, Some, None, option_map, nat_lt, nat_le, drop}
use Rattle.broker_model.specs.Words.{option_and_then, is_some, is_none, from_be_bytes, w128, list_all, option_map_or}
use Rattle.broker_model.specs.Words.{is_utf8, chars, Bor, refl, sym, ◌∙◌, ap, inl, inr, append_assoc, drop-append-add}
use Rattle.broker_model.specs.Words.{and_parts, false≢true, ltb-true, none-some, same_Some, id, is_path, is_path_byte}
use Rattle.broker_model.specs.Words.{is_segment, without_slash, IsLeaseId, IsSecretName, found_or_not, Text, same}
use Rattle.broker_model.specs.Words.{same_true, slash_not_last, reads_back, tree, without_floats, members_in, is_object}
use Rattle.broker_model.specs.Words.{slash, split_once, lacks, split-lacking}
use Rattle.uuid.specs.Text.{parsed}
use Rattle.uuid.proofs.OrderLemmas.{from_be_bytes-to_be_bytes_16}
use Rattle.json.specs.Json.{value}
use Rattle.json.specs.Lex.{lex, punctuate}
use Rattle.json.specs.Text.{content}
use Rattle.serde_json.specs.Data.{Data, null, boolean, number, string, array, object, Members, no_members}
use Rattle.serde_json.specs.Find.{as_object}
use Rattle.serde_json.specs.Read.{read}
use Rattle.serde_json.specs.Written.{compact_text}
use Rattle.broker_types.specs.Path.{segments}
use Rattle.soundness.specs.Words.{IsRoleName}

-- ---- identifiers

-- and then as its word
pub word_back : (w : ℕ) (bytes : List ℕ) → w < 2 ^ 128 → Some bytes ≡ parsed (id w) → from_be_bytes w128 bytes ≡ w
word_back w bytes small is =
    ap (from_be_bytes w128) (same_Some _ _ (is ∙ sym (reads_back w))) ∙ from_be_bytes-to_be_bytes_16 w small

-- ---- a path has no slash at its end

-- so it is a path as it stands
pub path_whole : (p : Text) → is_path p ≡ true → without_slash p ≡ p
path_whole p good =
    let a = and_parts _ (list_all is_segment (segments [] p)) good in
    let b = and_parts _ (list_all is_path_byte p) a.0 in
    let c = and_parts (nat_lt 0 (length p)) (nat_le (length p) 512) b.0 in
    ap (λ (v : Bool). cond v (take (length p - 1) p) p) (slash_not_last p [] (ltb-true 0 (length p) c.0) a.1)

-- ---- texts that are cut at the first slash

-- no text with the parts is cut nowhere
pub cut_somewhere : (text front rest : Text) (r : Option (Bor Text × Bor Text)) → r ≡ None
    → option_map (λ (p : Bor Text × Bor Text). (p.0.now, p.1.now)) r ≡ split_once slash text → lacks slash front ≡ true
    → text ≡ front ++ slash ∷ rest → ⊥
cut_somewhere text front rest r none exact lack is =
    none-some _
    (sym (ap (option_map (λ (p : Bor Text × Bor Text). (p.0.now, p.1.now))) none)
    ∙ exact ∙ ap (split_once slash) is ∙ split-lacking slash front rest lack)

-- and it is cut into them
pub cut_there : (text front rest : Text) (r : Option (Bor Text × Bor Text)) (x : Bor Text × Bor Text) → r ≡ Some x
    → option_map (λ (p : Bor Text × Bor Text). (p.0.now, p.1.now)) r ≡ split_once slash text → lacks slash front ≡ true
    → text ≡ front ++ slash ∷ rest → (front ≡ x.0.now) × (rest ≡ x.1.now)
cut_there text front rest r x there exact lack is =
    let pair : ◌≡◌ {A = Text × Text} (front, rest) (x.0.now, x.1.now) =
    same_Some _ _
    (sym (split-lacking slash front rest lack) ∙ ap (split_once slash) (sym is) ∙ sym exact
    ∙ ap (option_map (λ (p : Bor Text × Bor Text). (p.0.now, p.1.now))) there) in
    (ap (λ (p : Text × Text). p.0) pair, ap (λ (p : Text × Text). p.1) pair)

-- the parts of the name of a secret, and of a role
pub secret_parts : (q : Text) (s : IsSecretName q) → q ≡ s.mount ++ slash ∷ s.path
secret_parts q s = s.parts ∙ append_assoc s.mount (codes "/") s.path

pub role_parts : (q : Text) (s : IsRoleName q) → q ≡ s.mount ++ slash ∷ s.role
role_parts q s = s.parts ∙ append_assoc s.mount (codes "/") s.role

-- of the id of a lease
pub lease_parts : (q : Text) (s : IsLeaseId q)
    → q ≡ s.mount ++ slash ∷ (codes "creds/" ++ (s.role ++ slash ∷ s.identifier))
lease_parts q s =
    s.parts
    ∙ append_assoc ((s.mount ++ codes "/creds/") ++ s.role) (codes "/") s.identifier
    ∙ append_assoc (s.mount ++ codes "/creds/") s.role (codes "/" ++ s.identifier)
    ∙ append_assoc s.mount (codes "/creds/") (s.role ++ (codes "/" ++ s.identifier))

-- ---- rests

-- what follows a text and a slash
pub same_rest : (t p q : Text) → t ++ slash ∷ p ≡ t ++ slash ∷ q → p ≡ q
same_rest t p q is =
    sym (drop-append-add t (slash ∷ p) 1) ∙ ap (drop (length t + 1)) is ∙ drop-append-add t (slash ∷ q) 1

-- ---- objects

read_of : Text → Option Data
read_of text = option_and_then without_floats (read text)

-- a text of braces alone is no `null`
empty_read : read_of (compact_text (object no_members)) ≡ Some null → ⊥
unfolding read_of same encode is_utf8 chars value lex punctuate content
empty_read is = false≢true (ap (λ (o : Option Data). option_map_or (λ d. is_none (as_object d)) o true) is)

-- a text that is kept as an object is read as it
pub object_read : (text : Text) → is_utf8 text ≡ true → is_object text ≡ true
    → (d : Data) × (tree text ≡ Some d) × (is_some (as_object d) ≡ true) × (same (compact_text d) text ≡ true)
unfolding is_object read_of
object_read text utf8 is = elim (found_or_not (read_of text)) [
  | inl none ↦ absurd (false≢true (sym (ap (kept none_of) none) ∙ is))
  | inr d ↦ by d.0 d.1 (sym (ap (kept none_of) d.1) ∙ is)
]
  where
    none_of : Members → Bool
    none_of ms = same (compact_text (object ms)) text

    kept : (Members → Bool) → Option Data → Bool
    kept f o = option_map_or f (option_and_then members_in o) false

    reads : (d : Data) → read_of text ≡ Some d → tree text ≡ Some d
    reads d found = ap (λ v. option_and_then without_floats (if v then read text else None)) utf8 ∙ found

    by : (d : Data) → read_of text ≡ Some d → kept none_of (Some d) ≡ true
        → (d : Data) × (tree text ≡ Some d) × (is_some (as_object d) ≡ true) × (same (compact_text d) text ≡ true)
    by (object ms) found one = (object ms, reads (object ms) found, refl, one)
    by null found one =
        absurd (empty_read (ap read_of (same_true (compact_text (object no_members)) text one) ∙ found))
    by (boolean b) found one = absurd (false≢true one)
    by (number n) found one = absurd (false≢true one)
    by (string s) found one = absurd (false≢true one)
    by (array ds) found one = absurd (false≢true one)
