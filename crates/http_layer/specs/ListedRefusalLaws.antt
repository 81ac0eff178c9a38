-- Laws of refusals: what is refused without asking the broker is listed.
use Rattle.std.specs.Prelude.{◌+◌, ◌||◌, ◌&&◌, ◌∷◌, ℕ, Bool, true, false, cond, List, [], length, take, drop, codes, Ok}
use Rattle.broker_types.specs.Words.{bytes_eq, slice_range, Result, Err, IfErr, nat_le, nat_lt, refl, sym, subst}
use Rattle.broker_types.specs.Words.{Option, Some, None, min, inl, inr, lit<, option_map_or, is_utf8, digits_value}
use Rattle.broker_types.specs.Words.{duration_of, longest_body, longest_ttl, is_path, without_slash, Text}
use Rattle.percent_encoding.specs.Percent.{percent_decode}
use Rattle.broker_types.specs.declared.refusal.Reason.TheVariants.{InvalidDuration}
use Rattle.broker_types.specs.declared.status.Status.{Status}
use Rattle.broker_types.specs.declared.status.Status.TheVariants.{BadRequest, PayloadTooLarge, NotImplemented}
use Rattle.http_layer.specs.Front.{Front, need, refused_with, whole, HeadFront, unended, too_long, malformed, read}
use Rattle.http_layer.specs.Front.{front_of_body, front_of_head, content_length, body_length, may_have_hosts, is_number}
use Rattle.http_layer.specs.HeadParts.{HeadField, HeadParts, values_named}
use Rattle.http_layer.specs.Asked.{asked, verb_asked, value_asked, token_asked, wrap_ttl_asked, wrap_ttl_read}
use Rattle.http_layer.specs.Asked.{path_asked, bad_request}
use Rattle.http_layer.specs.Query.{target_path, target_query}
use Rattle.http_layer.specs.Laws.{FrontRefusalIsListed, AskRefusalIsListed}
use Rattle.http_layer.specs.ListedRefusals.{IsFrontRefusal, IsAskRefusal}
use Rattle.http_layer.specs.Refusing.{◌>>=◌, RefusalParts}

-- ---- refusals of two cases

cond_refuses : {A E : Type 0} (P : E → Type 0) (test : Bool) (x y : Result A E) → IfErr x P → IfErr y P
    → IfErr (cond test x y) P
cond_refuses P true x y left right = left
cond_refuses P false x y left right = right

-- ---- fronts

bad_request_listed : IsFrontRefusal BadRequest
bad_request_listed = (0, lit< tt, refl)

too_large_listed : IsFrontRefusal PayloadTooLarge
too_large_listed = (1, lit< tt, refl)

coding_listed : IsFrontRefusal NotImplemented
coding_listed = (3, lit< tt, refl)

length_refuses : (vs : List (List ℕ)) → IfErr (content_length vs) IsFrontRefusal
length_refuses [] = tt
length_refuses (v ∷ []) =
    cond_refuses IsFrontRefusal (is_number v) _ _
    (cond_refuses IsFrontRefusal (nat_le (digits_value 10 v) longest_body) _ _ tt too_large_listed)
    bad_request_listed
length_refuses (v ∷ w ∷ vs) = bad_request_listed

body_refuses : (p : HeadParts) → IfErr (body_length p) IsFrontRefusal
body_refuses p =
    cond_refuses IsFrontRefusal (nat_lt 0 (length (values_named (codes "transfer-encoding") p.fields))) _ _
    coding_listed
    (cond_refuses IsFrontRefusal (may_have_hosts p.minor (length (values_named (codes "host") p.fields))) _ _
    (length_refuses (values_named (codes "content-length") p.fields)) bad_request_listed)

-- if the front is refused, its status is a listed one
abbrev Refuses : Front → Type 0
Refuses need = Unit {0}
Refuses (refused_with status) = IsFrontRefusal status
Refuses (whole len head body) = Unit {0}

whole_or_need : (test : Bool) (len : ℕ) (head : HeadParts) (body : List ℕ)
    → Refuses (cond test (whole len head body) need)
whole_or_need true len head body = tt
whole_or_need false len head body = tt

of_body : (s : List ℕ) (p : HeadParts) (r : Result ℕ Status) → IfErr r IsFrontRefusal
    → Refuses (front_of_body s p r)
of_body s p (Ok n) listed =
    whole_or_need (nat_le (p.size + n) (length s)) (p.size + n) p (slice_range s p.size (p.size + n))
of_body s p (Err status) listed = listed

of_head : (s : List ℕ) (h : HeadFront) → Refuses (front_of_head s h)
of_head s unended = tt
of_head s too_long = (2, lit< tt, refl)
of_head s malformed = bad_request_listed
of_head s (read p) = of_body s p (body_length p) (body_refuses p)

-- the status that refuses a front is listed
pub front_refuses : FrontRefusalIsListed
front_refuses s status a = subst Refuses (sym a.front) (of_head s a.head)

-- ---- asks

verb_refuses : (method query : List ℕ) → IfErr (verb_asked method query) IsAskRefusal
verb_refuses method query =
    cond_refuses IsAskRefusal (bytes_eq method (codes "GET")) _ _ tt
    (cond_refuses IsAskRefusal (bytes_eq method (codes "LIST")) _ _ tt
    (cond_refuses IsAskRefusal (bytes_eq method (codes "POST") || bytes_eq method (codes "PUT")) _ _ tt
    (cond_refuses IsAskRefusal (bytes_eq method (codes "DELETE")) _ _ tt (inl (inl refl)))))

-- a step, and the next one
step_refuses : {A B : Type 0} (step : Result A RefusalParts) (next : A → Result B RefusalParts)
    → IfErr step IsAskRefusal → ((x : A) → IfErr (next x) IsAskRefusal) → IfErr (step >>= next) IsAskRefusal
step_refuses (Ok x) next first then = then x
step_refuses (Err r) next first then = first

value_refuses : (vs : List (List ℕ)) → IfErr (value_asked vs) IsAskRefusal
value_refuses [] = tt
value_refuses (v ∷ []) = cond_refuses IsAskRefusal (is_utf8 v) _ _ tt (inr (inl refl))
value_refuses (v ∷ w ∷ vs) = inr (inl refl)

token_refuses : (fields : List HeadField) → IfErr (token_asked fields) IsAskRefusal
token_refuses fields =
    step_refuses (value_asked (values_named (codes "x-vault-token") fields)) _
    (value_refuses (values_named (codes "x-vault-token") fields))
    (λ vault. step_refuses (value_asked (values_named (codes "authorization") fields)) _
    (value_refuses (values_named (codes "authorization") fields)) (λ authorization. tt))

-- the seconds of a duration, if it is one
duration_refuses : (seconds : Option ℕ)
    → IfErr (option_map_or (λ n. Ok (min n longest_ttl)) seconds (Err (bad_request InvalidDuration))) IsAskRefusal
duration_refuses None = inr (inr (inr refl))
duration_refuses (Some n) = tt

ttl_refuses : (text : Option Text) → IfErr (wrap_ttl_read text) IsAskRefusal
ttl_refuses None = tt
ttl_refuses (Some text) = duration_refuses (duration_of text)

path_refuses : (target : List ℕ) → IfErr (path_asked target) IsAskRefusal
path_refuses target =
    let bytes = percent_decode (drop 4 (target_path target)) in
    cond_refuses IsAskRefusal (bytes_eq (take 4 target) (codes "/v1/")) _ _
    (cond_refuses IsAskRefusal (is_utf8 bytes && is_path (without_slash bytes)) _ _ tt (inr (inr (inl refl))))
    (inl (inr refl))

-- the refusal of a request that asks nothing is listed
pub ask_refuses : AskRefusalIsListed
unfolding asked
ask_refuses head body =
    step_refuses (verb_asked head.method (target_query head.target)) _
    (verb_refuses head.method (target_query head.target))
    (λ verb. step_refuses (token_asked head.fields) _ (token_refuses head.fields)
    (λ token. step_refuses (wrap_ttl_asked head.fields) _
    (value_refuses (values_named (codes "x-vault-wrap-ttl") head.fields))
    (λ ttl. step_refuses (path_asked head.target) _ (path_refuses head.target)
    (λ path. step_refuses (wrap_ttl_read ttl) _ (ttl_refuses ttl) (λ wrap_ttl. tt)))))
