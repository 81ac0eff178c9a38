-- The numbers of bodies that words are typed for are whole.
use Rattle.std.proofs.Common.{◌≡◌, ℕ, ◌∷◌, List, [], Option, Some, None, Result, Ok, Err, Bool, true, false, refl}
use Rattle.std.proofs.Common.{subst, Ordering, Less, Equal, Greater}
use Rattle.std.specs.Prelude.{if◌then◌else◌}
use Rattle.std.specs.Ordering.{nat_cmp, match_ordering}
use Rattle.std.specs.Cmp.Lexicographic.{slice_cmp}
use Rattle.std.proofs.lemmas.Bool.{or_from, or_parts}
use Rattle.broker_types.specs.Words.{Text}
use Rattle.serde_json.specs.Data.{Data, null, boolean, number, string, array, object, Members, no_members, member, put}
use Rattle.serde_json.specs.Find.{as_object}
use Rattle.serde_json.specs.Read.{read}
use Rattle.serde_json.specs.Written.{has_float, members_have_float}
use Rattle.command_line.specs.BodyWords.{json_name, parts_of}
use Rattle.command_line.specs.Bodies.{◌>>=◌, data_given, data_in, json_given, json_in, member_from}
use Rattle.command_line.specs.Bodies.{member_given, member_in, members_given, members_of, members_with, text_of}
use Rattle.command_line.specs.Bodies.{version_object, whole_given}
use Rattle.command_line.specs.declared.body_words.BodyWord.{BodyWord}
use Rattle.command_line.specs.declared.no_body.BodyMistake.{BodyMistake}
use Rattle.command_line.specs.declared.no_body.BodyMistake.TheVariants as mistake

kept : (float : Bool) (e d : Data) → (if float then Err mistake.Float else Ok e) ≡ Ok d → has_float e ≡ float
    → has_float d ≡ false
kept true e d made is = cc
kept false e d made is = cc

json_in-whole : (otherwise : BodyMistake) (o : Option Data) (d : Data) → json_in otherwise o ≡ Ok d
    → has_float d ≡ false
json_in-whole otherwise None d made = cc
json_in-whole otherwise (Some e) d made = kept (has_float e) e d made refl

json_given-whole : (otherwise : BodyMistake) (text : Text) (d : Data) → json_given otherwise text ≡ Ok d
    → has_float d ≡ false
unfolding json_given
json_given-whole otherwise text d made = json_in-whole otherwise (read text) d made

json_member : (name : Text) (r : Result Data BodyMistake) (m : Text × Data)
    → ((d : Data) → r ≡ Ok d → has_float d ≡ false) → (r >>= (λ d. Ok (name, d))) ≡ Ok m → has_float m.1 ≡ false
json_member name (Ok d) m whole made =
    let same : (name, d) ≡ m = cc in subst (λ (q : Text × Data). has_float q.1 ≡ false) same (whole d refl)
json_member name (Err e) m whole made = cc

member_from-whole : (word : BodyWord) (p : Text × Text) (o : Option Text) (m : Text × Data)
    → member_from word p o ≡ Ok m → has_float m.1 ≡ false
member_from-whole word p None m made =
    let same : (p.0, string (text_of word p.1)) ≡ m = cc in
    subst (λ (q : Text × Data). has_float q.1 ≡ false) same refl
member_from-whole word p (Some name) m made =
    json_member name (json_given mistake.NoJson p.1) m (json_given-whole mistake.NoJson p.1) made

member_in-whole : (word : BodyWord) (o : Option (Text × Text)) (m : Text × Data) → member_in word o ≡ Ok m
    → has_float m.1 ≡ false
member_in-whole word None m made = cc
member_in-whole word (Some p) m made = member_from-whole word p (json_name p.0) m made

member_given-whole : (word : BodyWord) (m : Text × Data) → member_given word ≡ Ok m → has_float m.1 ≡ false
unfolding member_given
member_given-whole word m made = member_in-whole word (parts_of word.word.now) m made

put_at-whole : (o : Ordering) (a b c : Members) → members_have_float a ≡ false → members_have_float b ≡ false
    → members_have_float c ≡ false → members_have_float (match_ordering o a b c) ≡ false
put_at-whole Less a b c p q r = p
put_at-whole Equal a b c p q r = q
put_at-whole Greater a b c p q r = r

pub put-whole : (k : Text) (d : Data) (ms : Members) → has_float d ≡ false → members_have_float ms ≡ false
    → members_have_float (put k d ms) ≡ false
put-whole k d no_members one all = or_from (has_float d) false one refl
put-whole k d (member l e ms) one all =
    let (first, rest) = or_parts (has_float e) (members_have_float ms) all in
    put_at-whole (slice_cmp nat_cmp k l) _ _ _ (or_from _ _ one all) (or_from _ _ one rest)
    (or_from _ _ first (put-whole k d ms one rest))

next-whole : (m : Result (Text × Data) BodyMistake) (words : List BodyWord) (ms r : Members)
    → ((x : Text × Data) → m ≡ Ok x → has_float x.1 ≡ false) → members_have_float ms ≡ false
    → ((new : Members) → members_have_float new ≡ false → members_with new words ≡ Ok r → members_have_float r ≡ false)
    → (m >>= (λ x. members_with (put x.0 x.1 ms) words)) ≡ Ok r → members_have_float r ≡ false
next-whole (Ok x) words ms r whole all later made =
    later (put x.0 x.1 ms) (put-whole x.0 x.1 ms (whole x refl) all) made
next-whole (Err e) words ms r whole all later made = cc

members_with-whole : (words : List BodyWord) (ms r : Members) → members_have_float ms ≡ false
    → members_with ms words ≡ Ok r → members_have_float r ≡ false
members_with-whole [] ms r all made = cc
members_with-whole (word ∷ words) ms r all made =
    next-whole (member_given word) words ms r (member_given-whole word) all
    (λ new whole after. members_with-whole words new r whole after) made

pub members_given-whole : (words : List BodyWord) (ms : Members) → members_given words ≡ Ok ms
    → members_have_float ms ≡ false
unfolding members_given
members_given-whole words ms made = members_with-whole words no_members ms refl made

object_members : (d : Data) (ms : Members) → has_float d ≡ false → members_of (as_object d) ≡ Ok ms
    → members_have_float ms ≡ false
object_members null ms whole made = cc
object_members (boolean b) ms whole made = cc
object_members (number n) ms whole made = cc
object_members (string s) ms whole made = cc
object_members (array ds) ms whole made = cc
object_members (object ns) ms whole made = cc

text_members : (r : Result Data BodyMistake) (ms : Members) → ((d : Data) → r ≡ Ok d → has_float d ≡ false)
    → (r >>= (λ d. members_of (as_object d))) ≡ Ok ms → members_have_float ms ≡ false
text_members (Ok d) ms whole made = object_members d ms (whole d refl) made
text_members (Err e) ms whole made = cc

data_in-whole : (words : List BodyWord) (o : Option Text) (ms : Members) → data_in words o ≡ Ok ms
    → members_have_float ms ≡ false
data_in-whole words None ms made = members_given-whole words ms made
data_in-whole words (Some text) ms made =
    text_members (json_given mistake.NoObject text) ms (json_given-whole mistake.NoObject text) made

pub data_given-whole : (words : List BodyWord) (ms : Members) → data_given words ≡ Ok ms
    → members_have_float ms ≡ false
unfolding data_given
data_given-whole words ms made = data_in-whole words (whole_given words) ms made

pub version_object-whole : (ms : Members) (cas : Option ℕ) → members_have_float ms ≡ false
    → has_float (version_object ms cas) ≡ false
version_object-whole ms None whole = rw whole refl
version_object-whole ms (Some before) whole = rw whole refl
