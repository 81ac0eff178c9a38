-- What is sent for a command asks what the command means.
use Rattle.http_layer.specs.Words.{asked, bad_request, client_token, path_asked, path_read, token_asked, value_asked}
use Rattle.http_layer.specs.Words.{verb_asked, wrap_ttl_asked, IsFront, whole, parts_of, PrintedRequestIsFront}
use Rattle.broker_types.specs.Words.{option_or, is_utf8, is_utf8-from_IsUtf8}
use Rattle.api_client.specs.Words.{◌≡◌, ◌&&◌, ◌==◌, ◌<◌, ◌∷◌, ◌++◌, if◌then◌else◌, ℕ, Bool, true, false, cond, List, []}
use Rattle.api_client.specs.Words.{length, drop, map, Option, Some, None, Ok, Err, codes, option_map, unwrap_or, refl}
use Rattle.api_client.specs.Words.{ap, ◌∙◌, subst, arith, nat_tests, is_path, without_slash, trim_ows, name_and_value}
use Rattle.api_client.specs.Words.{percent_decode, Reason, HeadField, same_in_any_case, PrintedLengthIsRead}
use Rattle.api_client.specs.Words.{printed_head, Verb, version_asked, Asks, IsOptionalField, IsPathText, IsSendable}
use Rattle.api_client.specs.Words.{verb_of, version_text, is_field_text, body_of, method_of, path_of, sent, version_of}
use Rattle.api_client.specs.Words.{Command, Request}
use Rattle.api_client.proofs.PathLemmas.{lists_no_version, percent_decode-escaped, query_text, target_path-target}
use Rattle.api_client.proofs.PathLemmas.{target_query-target, target_to, version_asked-query, without_slash-path}
use Rattle.api_client.proofs.SentLemmas.{optional_field, can_be_sent, client_token_sent, no_credentials, path_good}
use Rattle.api_client.proofs.SentLemmas.{printed, sent_fields, values_in, wrap_ttl_sent}
use Rattle.api_client.proofs.TextLemmas.{field_parts, trim_visible, visible_text}

verb : (r : Request) → IsSendable r → verb_asked (method_of r) (query_text (version_of r)) ≡ Ok (verb_of r)
verb (Request.Read path version) good =
    ap (λ (b : Bool). Ok (if b then Verb.List else Verb.Get)) (lists_no_version version good.1)
verb (Request.Write path body) good = refl
verb (Request.List path) good = refl
verb (Request.Delete path) good = refl
verb (Request.Unwrap t) good = refl

-- the version that the query asks for
version_sent : (r : Request) → IsSendable r → version_asked (query_text (version_of r)) ≡ version_text (version_of r)
version_sent (Request.Read path version) good = version_asked-query version good.1
version_sent (Request.Write path body) good = refl
version_sent (Request.List path) good = refl
version_sent (Request.Delete path) good = refl
version_sent (Request.Unwrap t) good = refl

-- the path that the target names
path : (p : List ℕ) (version : Option ℕ) → IsPathText p → path_asked (target_to p version) ≡ Ok p
path p version good =
    ap (λ (t : List ℕ). path_read (percent_decode (drop 4 t))) (target_path-target p version)
    ∙ ap path_read (percent_decode-escaped p good.bytes)
    ∙ ap (λ (b : Bool). cond (b && is_path (without_slash p)) (Ok (without_slash p))
    (Err (bad_request Reason.InvalidPath))) (is_utf8-from_IsUtf8 p good.text)
    ∙ ap (λ (q : List ℕ). cond (is_path q) (Ok q) (Err (bad_request Reason.InvalidPath)))
    (without_slash-path p good.good)
    ∙ ap (λ (b : Bool). cond b (Ok p) (Err (bad_request Reason.InvalidPath))) good.good

-- the value of an option, under its name in any case
value_sent : (name sent : List ℕ) (o : Option (List ℕ)) → same_in_any_case sent name ≡ true → IsOptionalField o
    → value_asked (values_in name (optional_field sent o)) ≡ Ok o
value_sent name sent None same good = refl
value_sent name sent (Some t) same good =
    let parts = field_parts t good in
    ap (λ (b : Bool). value_asked (map (λ (f : HeadField). f.1) (cond b ((sent, trim_ows (32 ∷ t)) ∷ []) []))) same
    ∙ ap (λ (v : List ℕ). cond (is_utf8 v) (Ok (Some v)) (Err (bad_request Reason.MalformedRequest)))
    (trim_visible t parts.2)
    ∙ ap (λ (b : Bool). cond b (Ok (Some t)) (Err (bad_request Reason.MalformedRequest)))
    (is_utf8-from_IsUtf8 t (visible_text t parts.2))

-- the client token
alone : (o : Option (List ℕ)) → IsOptionalField o → client_token o None ≡ o
alone None good = refl
alone (Some t) good = ap (λ (b : Bool). option_or (cond b None (Some t)) None) (some (length t) (field_parts t good).0)
  where
    some : (n : ℕ) → 0 < n → (n == 0) ≡ false
    some n more = grind (arith, nat_tests)

token : (c : Command) (len : Option ℕ) → IsOptionalField c.token
    → token_asked (map name_and_value (sent_fields c len)) ≡ Ok c.token
token c len good =
    rw (
      client_token_sent c len,
      no_credentials c len,
      value_sent (codes "x-vault-token")
          (codes "X-Vault-Token") c.token refl good,
    ) (ap (λ (o : Option (List ℕ)). Ok o) (alone c.token good))

-- the text of the wrap TTL
wrap_ttl : (c : Command) (len : Option ℕ) → IsOptionalField c.wrap_ttl
    → wrap_ttl_asked (map name_and_value (sent_fields c len)) ≡ Ok c.wrap_ttl
wrap_ttl c len good =
    ap value_asked (wrap_ttl_sent c len) ∙ value_sent (codes "x-vault-wrap-ttl")
    (codes "X-Vault-Wrap-TTL") c.wrap_ttl refl good

-- what is sent is read as it was meant
pub sent_asks : PrintedRequestIsFront → PrintedLengthIsRead → (c : Command) → is_field_text c.address ≡ true
    → IsOptionalField c.token → IsOptionalField c.wrap_ttl
    → IsSendable c.request → Asks (sent c) c
unfolding sent asked
sent_asks law length_law c address vault ttl good =
    let len = option_map length (body_of c.request) in
    let body = unwrap_or (body_of c.request) [] in
    let p = path_of c.request in
    let v = version_of c.request in
    let h = printed_head (method_of c.request) (target_to p v) (sent_fields c len) in
    let front = law (method_of c.request) (target_to p v) (sent_fields c len) body
    (can_be_sent length_law c address vault ttl good) in
    record {
      head = parts_of h;
      body = body;
      front = subst (λ (bytes : List ℕ). IsFront (bytes ++ body) (whole (length (bytes ++ body)) (parts_of h) body))
          (printed c len) front;
      asks = rw (
        target_query-target p v,
        verb c.request good,
        version_sent c.request good,
        token c len vault,
        wrap_ttl c len ttl,
        path p v (path_good c.request good),
      ) refl;
    }
