-- What the paths mean in a mount that was enabled, and those of policies, of mounts and of cubbyholes.
use Rattle.std.proofs.Common.{◌≡◌, ◌&&◌, ◌||◌, ◌++◌, ◌∷◌, if◌then◌else◌}
use Rattle.broker_model.specs.Words.{is_mount_name, split-lacking, mount_no_slash}
use Rattle.histories.specs.Words.{[], ℕ, Bool, true, false, not, Option, Some, None, Result, codes, unwrap_or}
use Rattle.histories.specs.Words.{list_all, refl, ◌∙◌, ap, and_parts, false≢true, is_name, Engine, Mount, issued, kv}
use Rattle.histories.specs.Words.{◌>>=◌, Text, same, Verb, Refusal, or_else, slash, are_bytes, parameter, AreInOrder}
use Rattle.histories.specs.Words.{FoundByForm, NoneFoundByForm, Route, operation_for, route_of, route_rows}
use Rattle.histories.specs.Words.{engine_type, fixed_type, type_at, type_of, MountType, Operation, Cubbyholes, Mounts}
use Rattle.histories.specs.Words.{Policies, Secrets, Command, command_for, CubbyholeOperation, IssuedOperation}
use Rattle.histories.specs.Words.{MountOperation, Issued, PolicyOperation, SecretOperation, MeansIn, PathsOfIssued}
use Rattle.histories.specs.Words.{PathsOfSecrets, PathsOfSettings}
use Rattle.histories.proofs.Routes.{StandsFor, asked, route_to, routed_at}

-- ---- the name of a mount

weaker : (p q : ℕ → Bool) → ((x : ℕ) → p x ≡ true → q x ≡ true) → (xs : Text) → list_all p xs ≡ true
    → list_all q xs ≡ true
weaker p q h [] e = refl
weaker p q h (x ∷ xs) e = λ i. h x (and_parts _ _ e).0 i && weaker p q h xs (and_parts _ _ e).1 i

-- and is none of those that are always there
not_fixed : (name : Text) → is_mount_name name ≡ true → fixed_type name ≡ None
not_fixed name h =
    by (same name (codes "sys")) (same name (codes "auth")) (same name (codes "cubbyhole"))
    (same name (codes "identity")) (and_parts (is_name name) _ h).1
  where
    by : (x y z w : Bool) → not (x || (y || (z || (w || false)))) ≡ true
        → (if y then Some MountType.Token else (if x then Some MountType.System else
        (if z then Some MountType.Cubbyhole else None)))
        ≡ None
    by true y z w h = absurd (false≢true h)
    by false true z w h = absurd (false≢true h)
    by false false true w h = absurd (false≢true h)
    by false false false w h = refl

-- ---- paths below it

module _ (found : FoundByForm) (none : NoneFoundByForm) (ordered : AreInOrder) where
  -- what the verb means there
  in_mount : (engine : Engine) (v : Verb) (rest pattern p : Text) (operation : Operation) → are_bytes rest ≡ true
      → StandsFor (route_rows (engine_type engine)) pattern rest
      → operation_for (route_rows (engine_type engine)) pattern v ≡ Some operation → parameter pattern rest ≡ p
      → MeansIn engine v rest (λ name. command_for (route_to name operation p))
  in_mount engine v rest pattern p operation bytes stands row parameter_is mounts m name a there is named verb_is here =
      let go : Result Route Refusal → Result Command Refusal = λ x. x >>= (λ r. command_for r a) in
      let path = name ++ slash ∷ rest in
      ap (λ q. go (route_of mounts a.verb q)) here
      ∙ ap (λ w. go (route_of mounts w path)) verb_is
      ∙ ap go (routed_at found none ordered (engine_type engine) v name rest path pattern p operation mounts
      (ap (λ (o : Option Mount). type_at o name) there
      ∙ ap (λ (t : Option MountType). or_else t (Some (type_of m))) (not_fixed name named)
      ∙ ap (λ (e : Engine). Some (engine_type e)) is)
      (ap (λ (o : Option (Text × Text)). unwrap_or o (path, []))
      (split-lacking slash name rest (mount_no_slash name named)))
      bytes stands row parameter_is)

  pub paths_of_secrets : PathsOfSecrets
  unfolding same
  paths_of_secrets = record {
    show_settings =
        in_mount kv Verb.Get (codes "config") (codes "config") [] (Secrets SecretOperation.ShowSettings) refl
        (record { listed = refl; form = refl; alone = refl }) refl refl;
    set_settings =
        in_mount kv Verb.Write (codes "config") (codes "config") [] (Secrets SecretOperation.SetSettings) refl
        (record { listed = refl; form = refl; alone = refl }) refl refl;
    read =
        λ c path bytes. in_mount kv Verb.Get (codes "data/" ++ c ∷ path) (codes "data/{*path}") (c ∷ path)
        (Secrets SecretOperation.Read) bytes (record { listed = refl; form = refl; alone = refl }) refl refl;
    write =
        λ c path bytes. in_mount kv Verb.Write (codes "data/" ++ c ∷ path) (codes "data/{*path}") (c ∷ path)
        (Secrets SecretOperation.Write) bytes (record { listed = refl; form = refl; alone = refl }) refl refl;
    delete_current =
        λ c path bytes. in_mount kv Verb.Delete (codes "data/" ++ c ∷ path) (codes "data/{*path}") (c ∷ path)
        (Secrets SecretOperation.DeleteCurrent) bytes (record { listed = refl; form = refl; alone = refl }) refl refl;
    delete =
        λ c path bytes. in_mount kv Verb.Write (codes "delete/" ++ c ∷ path) (codes "delete/{*path}") (c ∷ path)
        (Secrets SecretOperation.Delete) bytes (record { listed = refl; form = refl; alone = refl }) refl refl;
    undelete =
        λ c path bytes. in_mount kv Verb.Write (codes "undelete/" ++ c ∷ path) (codes "undelete/{*path}") (c ∷ path)
        (Secrets SecretOperation.Undelete) bytes (record { listed = refl; form = refl; alone = refl }) refl refl;
    destroy =
        λ c path bytes. in_mount kv Verb.Write (codes "destroy/" ++ c ∷ path) (codes "destroy/{*path}") (c ∷ path)
        (Secrets SecretOperation.Destroy) bytes (record { listed = refl; form = refl; alone = refl }) refl refl;
    list_whole =
        in_mount kv Verb.List (codes "metadata") (codes "metadata") [] (Secrets SecretOperation.List) refl
        (record { listed = refl; form = refl; alone = refl }) refl refl;
    list =
        λ c path bytes. in_mount kv Verb.List (codes "metadata/" ++ c ∷ path) (codes "metadata/{*path}") (c ∷ path)
        (Secrets SecretOperation.List) bytes (record { listed = refl; form = refl; alone = refl }) refl refl;
    show_metadata =
        λ c path bytes. in_mount kv Verb.Get (codes "metadata/" ++ c ∷ path) (codes "metadata/{*path}") (c ∷ path)
        (Secrets SecretOperation.ShowMetadata) bytes (record { listed = refl; form = refl; alone = refl }) refl refl;
    set_metadata =
        λ c path bytes. in_mount kv Verb.Write (codes "metadata/" ++ c ∷ path) (codes "metadata/{*path}") (c ∷ path)
        (Secrets SecretOperation.SetMetadata) bytes (record { listed = refl; form = refl; alone = refl }) refl refl;
    remove =
        λ c path bytes. in_mount kv Verb.Delete (codes "metadata/" ++ c ∷ path) (codes "metadata/{*path}") (c ∷ path)
        (Secrets SecretOperation.Remove) bytes (record { listed = refl; form = refl; alone = refl }) refl refl;
  }

  pub paths_of_issued : PathsOfIssued
  unfolding same
  paths_of_issued = record {
    show_role =
        λ c name bytes one. in_mount issued Verb.Get (codes "roles/" ++ c ∷ name) (codes "roles/{name}") (c ∷ name)
        (Issued IssuedOperation.ShowRole) bytes (record { listed = refl; form = one; alone = refl }) refl refl;
    set_role =
        λ c name bytes one. in_mount issued Verb.Write (codes "roles/" ++ c ∷ name) (codes "roles/{name}") (c ∷ name)
        (Issued IssuedOperation.SetRole) bytes (record { listed = refl; form = one; alone = refl }) refl refl;
    remove_role =
        λ c name bytes one. in_mount issued Verb.Delete (codes "roles/" ++ c ∷ name) (codes "roles/{name}") (c ∷ name)
        (Issued IssuedOperation.RemoveRole) bytes (record { listed = refl; form = one; alone = refl }) refl refl;
    issue =
        λ c name bytes one. in_mount issued Verb.Get (codes "creds/" ++ c ∷ name) (codes "creds/{name}") (c ∷ name)
        (Issued IssuedOperation.Issue) bytes (record { listed = refl; form = one; alone = refl }) refl refl;
    verify =
        in_mount issued Verb.Write (codes "verify") (codes "verify") [] (Issued IssuedOperation.Verify) refl
        (record { listed = refl; form = refl; alone = refl }) refl refl;
  }

  -- ---- paths that are always there

  pub paths_of_settings : PathsOfSettings
  unfolding same
  paths_of_settings = record {
    list_policies =
        asked found none ordered MountType.System Verb.List (codes "sys") (codes "policies/acl")
        (codes "sys/policies/acl") (codes "policies/acl") []
        (Policies PolicyOperation.List) (λ o. refl) refl refl (record { listed = refl; form = refl; alone = refl }) refl
        refl;
    show_policy =
        λ c name bytes one. asked found none ordered MountType.System Verb.Get (codes "sys")
        (codes "policies/acl/" ++ c ∷ name)
        (codes "sys/policies/acl/" ++ c ∷ name) (codes "policies/acl/{name}") (c ∷ name)
        (Policies PolicyOperation.Show) (λ o. refl) refl bytes (record { listed = refl; form = one; alone = refl }) refl
        refl;
    set_policy =
        λ c name bytes one. asked found none ordered MountType.System Verb.Write (codes "sys")
        (codes "policies/acl/" ++ c ∷ name)
        (codes "sys/policies/acl/" ++ c ∷ name) (codes "policies/acl/{name}") (c ∷ name)
        (Policies PolicyOperation.Set) (λ o. refl) refl bytes (record { listed = refl; form = one; alone = refl }) refl
        refl;
    remove_policy =
        λ c name bytes one. asked found none ordered MountType.System Verb.Delete (codes "sys")
        (codes "policies/acl/" ++ c ∷ name)
        (codes "sys/policies/acl/" ++ c ∷ name) (codes "policies/acl/{name}") (c ∷ name)
        (Policies PolicyOperation.Remove) (λ o. refl) refl bytes (record { listed = refl; form = one; alone = refl })
        refl
        refl;
    list_mounts =
        asked found none ordered MountType.System Verb.Get (codes "sys") (codes "mounts") (codes "sys/mounts")
        (codes "mounts") []
        (Mounts MountOperation.List) (λ o. refl) refl refl (record { listed = refl; form = refl; alone = refl }) refl
        refl;
    enable_mount =
        λ c name bytes one. asked found none ordered MountType.System Verb.Write (codes "sys")
        (codes "mounts/" ++ c ∷ name)
        (codes "sys/mounts/" ++ c ∷ name) (codes "mounts/{name}") (c ∷ name)
        (Mounts MountOperation.Enable) (λ o. refl) refl bytes (record { listed = refl; form = one; alone = refl }) refl
        refl;
    write_object =
        λ c path bytes. asked found none ordered MountType.Cubbyhole Verb.Write (codes "cubbyhole") (c ∷ path)
        (codes "cubbyhole/" ++ c ∷ path) (codes "{*path}") (c ∷ path)
        (Cubbyholes CubbyholeOperation.Write) (λ o. refl) refl bytes
        (record { listed = refl; form = refl; alone = refl })
        refl refl;
    list_objects =
        λ c path bytes. asked found none ordered MountType.Cubbyhole Verb.List (codes "cubbyhole") (c ∷ path)
        (codes "cubbyhole/" ++ c ∷ path) (codes "{*path}") (c ∷ path)
        (Cubbyholes CubbyholeOperation.List) (λ o. refl) refl bytes
        (record { listed = refl; form = refl; alone = refl })
        refl refl;
    list_cubbyhole =
        asked found none ordered MountType.Cubbyhole Verb.List (codes "cubbyhole") [] (codes "cubbyhole") [] []
        (Cubbyholes CubbyholeOperation.List) (λ o. refl) refl refl (record { listed = refl; form = refl; alone = refl })
        refl refl;
  }
