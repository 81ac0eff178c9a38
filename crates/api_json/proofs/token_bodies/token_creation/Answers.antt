use Rattle.std.proofs.Common.{◌≡◌, ◌<◌, ◌^◌, ◌+◌, ◌∙◌, Bool, ℕ, List, Result, Ok, length, ap, sym, subst, unwrap_or}
use Rattle.api_json.specs.Words.{Refusal, IsKeptMeta, members_of, token_creation}
use Rattle.broker_types.specs.declared.refusal.Field.TheVariants as field
use Rattle.broker_types.specs.Words.{◌>>=◌, unless}
use Rattle.api_json.proofs.KeptObjects.{given_members}
use Rattle.api_json.proofs.KeptMeta.{few_policies, meta_kept}
use Rattle.api_json.proofs.token_bodies.token_creation.Goals as goal

-- a step that was not refused
goes : {A B : Type 0} {d : Result A Refusal} (f : A → Result B Refusal) {x : A} {r : Result B Refusal} → d ≡ Ok x
    → f x ≡ r → (d >>= f) ≡ r
goes f is next = ap (λ v. v >>= f) is ∙ next

accepted : {a b : Bool} (r : Refusal) → b ≡ a → unless b r ≡ Ok tt → unless a r ≡ Ok tt
accepted r e is = ap (λ t. unless t r) (sym e) ∙ is

pub returns-clause-reads : goal.returns-clause-reads
unfolding token_creation
returns-clause-reads c =
    goes _ c.in_ok-policies.ensures (goes _ c.in_ok-meta.ensures (goes _ c.in_ok-ttl.ensures
    (goes _ c.in_ok-explicit_max_ttl.ensures (goes _ c.in_ok-num_uses.ensures (goes _ c.in_ok-no_parent.ensures
    (goes _ c.in_ok-no_default_policy.ensures (goes _ c.in_ok-period.ensures (goes _ c.in_ok-renewable.ensures
    (goes _ (accepted _ c.unwrap_or.ensures c.in_ok-unless.ensures) (goes _ c.in_ok-id.ensures
    (goes _ (accepted _ c.is_empty.ensures c.in_ok-unless-2.ensures) (goes _ c.in_ok-type_name.ensures
    (goes _ (accepted _ c.is_service.ensures c.in_ok-unless-3.ensures) (cc))))))))))))))

pub returns-clause-storable : goal.returns-clause-storable
returns-clause-storable c bytes fits is =
    let ms = members_of c.args.body.now in
    let read = given_members bytes ms is in
    let policies = c.unwrap_or-2.ensures ∙ ap (unwrap_or c.in_ok-policies.policies)
    (c.new-2.ensures ∙ c.new.ensures.items) in
    let meta = c.unwrap_or-3.ensures ∙ ap (unwrap_or c.in_ok-meta.meta) (c.new-4.ensures ∙ c.new-3.ensures.items) in
    record {
      few_policies =
          subst (λ (ts : List (List ℕ)). length ts + 1 < 2 ^ 32) (sym policies)
          (few_policies bytes ms field.Policies _ fits read c.in_ok-policies.ensures);
      meta = subst IsKeptMeta (sym meta) (meta_kept bytes ms field.Meta _ fits read c.in_ok-meta.ensures);
    }
