-- Names of secrets.
use Rattle.std.proofs.Common.{◌≡◌, ◌<◌, ◌==◌, ◌&&◌, ◌∷◌, [], not, true, refl, sym, ◌∙◌, lit<}
use Rattle.records.specs.Words.{and_parts, All-cons, All-nil, list_all-append, IsUtf8-from_ascii, IsAscii-from_all}
use Rattle.records.specs.Words.{Text, is_mount_name, IsPathText, slash, line_feed, lacks}
use Rattle.kv2.specs.Words.{secret_name, is_secret_name}
use Rattle.kv2.proofs.Digits.{KeyLaws, name_lacks}

a_path : IsPathText (97 ∷ [])
a_path = record {
  good = refl;
  utf8 = IsUtf8-from_ascii (97 ∷ [])
      (IsAscii-from_all (97 ∷ []) (All-cons (λ b. b < 128) 97 [] (lit< tt) (All-nil (λ b. b < 128))));
}

-- how the names of a mount's secrets begin has no line feed
pub mount_lacks : KeyLaws → (mount : Text) → is_mount_name mount ≡ true → lacks line_feed (secret_name mount []) ≡ true
mount_lacks laws mount m =
    let one = name_lacks laws (secret_name mount (97 ∷ [])) (is_secret_name mount (97 ∷ []) m a_path) in
    let front = (and_parts _ _ (sym (list_all-append (λ x. not (x == line_feed)) mount (slash ∷ 97 ∷ [])) ∙ one)).0 in
    list_all-append (λ x. not (x == line_feed)) mount (slash ∷ []) ∙ (λ i. front i && true)
