-- A creation beside its definition: what is refused, and what is made.
use Rattle.std.proofs.Common.{◌≡◌, ◌≢◌, ◌||◌, ◌∷◌, if◌then◌else◌, All, List, [], Bool, true, false, Option, Some, None}
use Rattle.broker_model.specs.Words.{Result, Ok, Err, ⊤, AllByRecursion, sym, ◌∙◌, ap, All-nil, All-cons, none-some}
use Rattle.broker_model.specs.Words.{same_Some, Broker, Map, get, Names, Done, ◌>>=◌, some_or, Text, Token, Refusal}
use Rattle.broker_model.specs.Words.{Verb, table_of, TokenEntry, token_entry, Rows, TokenCreation, allows, grants}
use Rattle.broker_model.specs.Words.{rules_of, ArePoliciesAt, Rules, Sudo, makes_orphans, making_path, is_privileged}
use Rattle.broker_model.specs.Words.{new_policies, may_make, new_parent, new_token, create, create_with, made}
use Rattle.broker_types.specs.declared.ask.Verb.TheVariants as verb
use Rattle.broker_types.specs.declared.refusal.Denial.TheVariants as denial
use Rattle.broker_types.specs.declared.refusal.Refusal.TheVariants as refusal
use Rattle.broker_model.specs.declared.making.Making.{Making}
use Rattle.broker_rows.specs.Words.{AreRulesAt}
use Rattle.token_operations.specs.TokenEntries.{token_told}
use Rattle.token_operations.specs.TokenRanges.{IsTextPair}

-- pairs of texts, one by one
pub each_pair : (es : List (Text × Text)) → AllByRecursion IsTextPair es → All IsTextPair es
each_pair [] h = All-nil IsTextPair
each_pair (e ∷ es) h = All-cons IsTextPair e es h.0 (each_pair es h.1)

-- no token has an empty parent
pub parent_named : (c : Text) (making : Making) (asked : TokenCreation) (parent : Option Text)
    → parent ≡ new_parent c making asked → c ≢ []
    → parent ≢ Some []
parent_named c making asked parent is named empty = by (makes_orphans making || asked.no_parent) (sym is ∙ empty)
  where
    by : (v : Bool) → (if v then None else Some c) ≡ Some [] → ⊥
    by true e = none-some _ e
    by false e = named (same_Some _ _ e)

-- ---- what rules allow

-- rules that the rows of policies say allow `sudo` for a write as the policies do, whichever verb they were read for
pub sudo_told : (rows : Rows) (names : List Text) (v : Verb) (rules : Rules) (policies : Map Text) (path : Text)
    (p : Bool)
    → AreRulesAt rows names v rules → ArePoliciesAt (table_of rows) names policies
    → p ≡ allows (record rules { verb = verb.Write }) path Sudo → p ≡ grants policies names verb.Write path Sudo
unfolding rules_of
sudo_told rows names v rules policies path p are known is =
    is ∙ ap (λ (rs : Rules). allows (record rs { verb = verb.Write }) path Sudo) (are policies known)

-- ---- what is made

module _ (b : Broker) (c : Text) (names : Names) (making : Making) (asked : TokenCreation) where
  abbrev made_by : Option Token → Result Done Refusal
  made_by o = some_or (refusal.Forbidden denial.BadToken) o
      >>= (λ x. create_with b c x names making (is_privileged b (making_path making) x)
      (new_policies (is_privileged b (making_path making) x) x asked) asked)

  module _ (x : Token) (here : get b.tokens c ≡ Some x) where
    abbrev privileged : Bool
    privileged = is_privileged b (making_path making) x

    abbrev policies : List Text
    policies = new_policies privileged x asked

    abbrev may : Result ⊤ Refusal
    may = may_make privileged making x policies asked

    abbrev new : Token
    new = new_token b.clock (new_parent c making asked) names.accessor policies asked

    -- one that may not is refused
    pub create_refused : (r : Refusal) → may ≡ Err r → create b c names making asked ≡ Err r
    create_refused r denied = ap made_by here ∙ ap (λ (v : Result ⊤ Refusal). v >>= (λ _. Ok (made b names new))) denied

    -- and one that may makes the token
    pub create_made : (u : ⊤) → may ≡ Ok u → create b c names making asked ≡ Ok (made b names new)
    create_made u granted = ap made_by here ∙ ap (λ (v : Result ⊤ Refusal). v >>= (λ _. Ok (made b names new))) granted

    -- ---- by the row of the caller

    module _ (e : TokenEntry) (told : e ≡ token_entry x) (p : Bool)
        (sudo : p ≡ grants b.policies e.policies verb.Write (making_path making) Sudo) (ps : List Text)
        (given : ps ≡ new_policies p (token_told e) asked) where
      same_sudo : p ≡ privileged
      same_sudo = sudo ∙ ap (λ (e : TokenEntry). grants b.policies e.policies verb.Write (making_path making) Sudo) told

      -- the policies are those of the definition
      pub same_policies_told : ps ≡ policies
      same_policies_told = given ∙ (λ i. new_policies (same_sudo i) (token_told (told i)) asked)

      -- and so are the tests
      pub same_may : (r : Result ⊤ Refusal) → r ≡ may_make p making (token_told e) ps asked → may ≡ r
      same_may r is = sym (is ∙ (λ i. may_make (same_sudo i) making (token_told (told i)) (same_policies_told i) asked))
