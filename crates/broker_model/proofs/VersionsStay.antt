-- Why the versions of each secret stay so, by what changes it.
use Rattle.std.proofs.Common.{◌≡◌, ◌≢◌, ◌<◌, ◌⊎◌, ◌+◌, ◌-◌, ◌==◌, if◌then◌else◌, ℕ, List, Bool, true, false, cond, Some}
use Rattle.broker_model.specs.Words.{nat_lt, is_none, Option, None, Ok, option_map, refl, sym, ◌∙◌, ap, subst, inl, inr}
use Rattle.broker_model.specs.Words.{arith, eqb-true, none-some, same_Some, Text, same, Map, get, keep, change, without}
use Rattle.broker_model.specs.Words.{valued_is, without_is, put_is, Broker, mapped, kept_get, Key, Version, Written}
use Rattle.broker_model.specs.Words.{secret_name, write_is, get-change_versions, next_versions, Settings, described}
use Rattle.broker_model.specs.Words.{destroyed, is_among, key_or_new, new_version, restored, soft_deleted}
use Rattle.broker_model.specs.Words.{versions_kept, with_changed, with_version, it_stays, versions_self, AllGiven}
use Rattle.broker_model.specs.Words.{AreGiven, SecretsStay, VersionsStay}
use Rattle.std.specs.FinMap as fin
use Rattle.kv2.specs.Secrets as secrets

-- ---- versions

-- what f makes of a version holds what that held, or nothing
abbrev Holds : (Version → Version) → Type 0
Holds f = (v : Version) → ((f v).secret ≡ v.secret) ⊎ ((f v).secret ≡ None)

pub changed_stay : (f : Version → Version) → Holds f → (ns : List ℕ) (k : Key) → VersionsStay k (with_changed f ns k)
changed_stay f holds ns k = record {
  current = omega (arith);
  numbers = λ n there. inl (λ none. there (get-change_versions f (is_among ns) k.versions n
      ∙ ap (option_map (λ (v : Version). if is_among ns n then f v else v)) none));
  held = λ n v w one other.
      let x = mapped (λ (v : Version). if is_among ns n then f v else v) (fin.get k.versions n) w
      (sym (get-change_versions f (is_among ns) k.versions n) ∙ other) in
      subst (λ (z : Version). (w.secret ≡ z.secret) ⊎ (w.secret ≡ None)) (same_Some _ _ (sym x.1 ∙ one))
      (subst (λ (z : Version). (z.secret ≡ x.0.secret) ⊎ (z.secret ≡ None)) (sym x.2)
      (elim (is_among ns n) as
      (λ v. ((if v then f x.0 else x.0).secret ≡ x.0.secret) ⊎ ((if v then f x.0 else x.0).secret ≡ None)) [
        | true ↦ holds x.0
        | false ↦ inl refl
      ]));
}

pub soft_holds : (now : ℕ) → Holds (soft_deleted now)
soft_holds now v =
    elim (is_none v.deleted) as
    (λ b. ((if b then record v { deleted = Some now } else v).secret ≡ v.secret)
    ⊎ ((if b then record v { deleted = Some now } else v).secret ≡ None)) [
      | true ↦ inl refl
      | false ↦ inl refl
    ]

pub restored_holds : Holds restored
restored_holds v =
    elim (is_none v.secret) as
    (λ b. ((if b then v else record v { deleted = None }).secret ≡ v.secret)
    ⊎ ((if b then v else record v { deleted = None }).secret ≡ None)) [
      | true ↦ inl refl
      | false ↦ inl refl
    ]

pub destroyed_holds : Holds destroyed
destroyed_holds v = inr refl

module _ (now limit : ℕ) (object : Text) (k : Key) (given_ : AreGiven k) where
  abbrev after : Key
  after = with_version now limit object k

  abbrev number : ℕ
  number = k.current + 1

  -- a version after a write is the new one, or it was there
  by_number : (n : ℕ) (P : Type 0) → ((n ≡ number) → P) → (fin.get after.versions n ≡ fin.get k.versions n → P)
      → (fin.get after.versions n ≡ None → P) → P
  by_number n P first old gone =
      elim (nat_lt (number - limit) n) as
      (λ kept. fin.get after.versions n ≡ cond kept
      (cond (n == number) (Some (new_version now object)) (fin.get k.versions n)) None → P) [
        | true ↦ λ e. elim (n == number) as
            (λ here. (n == number) ≡ here → fin.get after.versions n
            ≡ cond here (Some (new_version now object)) (fin.get k.versions n) → P) [
              | true ↦ λ here _. first (eqb-true n number here)
              | false ↦ λ _ f. old f
            ] refl e
        | false ↦ λ e. gone e
      ] (next_versions now limit object (Some k) n)

  written_stay : VersionsStay k after
  written_stay = record {
    current = omega (arith);
    numbers = λ n there. by_number n ((fin.get k.versions n ≢ None) ⊎ (k.current < n))
        (λ here. inr (omega (arith, here)))
        (λ was. inl (λ none. there (was ∙ none)))
        (λ gone. absurd (there gone));
    held = λ n v w one other. by_number n ((w.secret ≡ v.secret) ⊎ (w.secret ≡ None))
        (λ here. absurd (omega (arith, here, given_ n v one)))
        (λ was. inl (ap (λ (x : Version). x.secret) (same_Some _ _ (sym other ∙ was ∙ one))))
        (λ gone. absurd (none-some _ (sym gone ∙ other)));
  }

-- settings leave all versions as they were
described_stay : (now : ℕ) (settings : Settings) (k : Key) → VersionsStay k (described now settings k)
described_stay now settings k = record {
  current = omega (arith);
  numbers = λ n there. inl there;
  held = λ n v w one other. inl (ap (λ (x : Version). x.secret) (same_Some _ _ (sym other ∙ one)));
}

-- ---- secrets

pub all_fewer : (ks : Map Key) (passes : Text → Bool) → SecretsStay ks (keep passes ks)
all_fewer ks passes q k m one other = it_stays k m (same_Some _ _ (sym (kept_get passes ks q m other).0 ∙ one))

pub all_but : (ks : Map Key) (name : Text) → SecretsStay ks (without ks name)
all_but ks name q k m one other = it_stays k m (same_Some _ _ (sym (without_is ks name q m other).1 ∙ one))

pub one_changed : (ks : Map Key) (name : Text) (f : Key → Key) → ((k : Key) → VersionsStay k (f k))
    → SecretsStay ks (change ks name f)
one_changed ks name f stays q k m one other =
    let x = valued_is (λ u (z : Key). if same u name then f z else z) ks q m other in
    subst (λ z. VersionsStay z m) (same_Some _ _ (sym x.1 ∙ one)) (subst (VersionsStay x.0) (sym x.2)
    (elim (same q name) as (λ v. VersionsStay x.0 (if v then f x.0 else x.0)) [
      | true ↦ stays x.0
      | false ↦ versions_self x.0
    ]))

pub write_stays : (b : Broker) → AllGiven b → (mount path : Text) (cas : Option ℕ) (object : Text) (w : Written)
    → secrets.write b mount path cas object ≡ Ok w → SecretsStay b.secrets w.next.secrets
write_stays b given_ mount path cas object w e =
    let x = write_is b mount path cas object w e in
    let name = secret_name mount path in
    let over = key_or_new b.clock (get b.secrets name) in
    subst (λ (z : Written). SecretsStay b.secrets z.next.secrets) (sym x.3)
    (λ q k m one other.
    put_is b.secrets name (with_version b.clock (versions_kept x.0 over) object over) q m (VersionsStay k m) other
    (λ at here.
    let is : over ≡ k = ap (key_or_new b.clock) (ap (get b.secrets) (sym at) ∙ one) in
    subst (VersionsStay k) (sym here)
    (subst (λ z. VersionsStay k (with_version b.clock (versions_kept x.0 z) object z)) (sym is)
    (written_stay b.clock (versions_kept x.0 k) object k (given_ q k one))))
    (λ was. it_stays k m (same_Some _ _ (sym was ∙ one))))

-- settings change no version, and none is there of a secret that is new
pub metadata_stays : (b : Broker) (mount path : Text) (settings : Settings)
    → SecretsStay b.secrets (secrets.set_metadata b mount path settings).secrets
metadata_stays b mount path settings q k m one other =
    let name = secret_name mount path in
    put_is b.secrets name (described b.clock settings (key_or_new b.clock (get b.secrets name))) q m
    (VersionsStay k m) other
    (λ at here.
    let is : key_or_new b.clock (get b.secrets name) ≡ k =
    ap (key_or_new b.clock) (ap (get b.secrets) (sym at) ∙ one) in
    subst (VersionsStay k) (sym here)
    (subst (λ z. VersionsStay k (described b.clock settings z)) (sym is) (described_stay b.clock settings k)))
    (λ was. it_stays k m (same_Some _ _ (sym was ∙ one)))
