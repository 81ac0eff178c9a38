-- Names of secrets have no line feed, and names of mounts and roles no slash.
use Rattle.std.proofs.Common.{◌≡◌, ◌∷◌, ◌++◌, ◌&&◌, ◌==◌, ℕ, List, [], not, Bool, true, refl, ◌∙◌, ap, arith}
use Rattle.broker_types.specs.Words.{list_all, append_assoc, and_parts, nat_tests, list_all-append, Text, is_name}
use Rattle.broker_types.specs.Words.{is_name_byte, is_mount_name, is_path, is_path_byte, IsSecretName}
use Rattle.records.specs.Splits.{slash, line_feed, lacks}

-- bytes that pass one test pass each that follows from it
pub weaker : (p q : ℕ → Bool) → ((x : ℕ) → p x ≡ true → q x ≡ true) → (xs : List ℕ) → list_all p xs ≡ true
    → list_all q xs ≡ true
weaker p q h [] e = refl
weaker p q h (x ∷ xs) e = λ i. h x (and_parts _ _ e).0 i && weaker p q h xs (and_parts _ _ e).1 i

name_byte : (x : ℕ) → is_name_byte x ≡ true → not (x == line_feed) ≡ true
name_byte x h = grind (arith, nat_tests)

path_byte : (x : ℕ) → is_path_byte x ≡ true → not (x == line_feed) ≡ true
path_byte x h = grind (arith, nat_tests)

-- the name of a mount has none
pub mount_lacks : (mount : Text) → is_mount_name mount ≡ true → lacks line_feed mount ≡ true
mount_lacks mount h = weaker is_name_byte (λ x. not (x == line_feed)) name_byte mount
    (and_parts _ _ (and_parts _ _ (and_parts _ _ h).0).1).1

-- nor has a path
pub path_lacks : (path : Text) → is_path path ≡ true → lacks line_feed path ≡ true
path_lacks path h = weaker is_path_byte (λ x. not (x == line_feed)) path_byte path (and_parts _ _ (and_parts _ _ h).0).1

-- nor have the two with a slash between them
pub parts_lack : (mount path : Text) → is_mount_name mount ≡ true → is_path path ≡ true
    → lacks line_feed (mount ++ slash ∷ path) ≡ true
parts_lack mount path h k = list_all-append (λ x. not (x == line_feed)) mount (slash ∷ path)
    ∙ (λ i. mount_lacks mount h i && path_lacks path k i)

-- nor has the name of a secret, which is that
pub name_lacks : (q : Text) → IsSecretName q → lacks line_feed q ≡ true
name_lacks q n = ap (lacks line_feed) (n.parts ∙ append_assoc n.mount (slash ∷ []) n.path)
    ∙ parts_lack n.mount n.path n.mount_name n.is_path_text.good

-- ---- no slash

no_slash : (x : ℕ) → is_name_byte x ≡ true → not (x == slash) ≡ true
no_slash x h = grind (arith, nat_tests)

pub name_no_slash : (name : Text) → is_name name ≡ true → lacks slash name ≡ true
name_no_slash name h = weaker is_name_byte (λ x. not (x == slash)) no_slash name (and_parts _ _ (and_parts _ _ h).1).1

pub mount_no_slash : (mount : Text) → is_mount_name mount ≡ true → lacks slash mount ≡ true
mount_no_slash mount h = name_no_slash mount (and_parts _ _ h).0
