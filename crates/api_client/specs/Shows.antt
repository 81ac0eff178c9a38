-- What is printed of a reply (this project's definition).
use Rattle.std.proofs.Common.{◌≡◌, ◌==◌, ◌&&◌, ◌||◌, ◌∷◌, ◌++◌, if◌then◌else◌, ℕ, Bool, true, false, List, [], codes}
use Rattle.std.proofs.Common.{decimal, Option, Some, None}
use Rattle.broker_types.specs.Words.{Text}
use Rattle.api_client.specs.declared.field.Field.TheVariants.{Found, Missing, NoJson}
use Rattle.api_client.specs.Fields.{IsField}
use Rattle.api_client.specs.declared.field.Field.{Field}
use Rattle.api_client.specs.declared.manner.Manner.{Manner}
use Rattle.api_client.specs.declared.reply.Reply.{Reply}
use Rattle.api_client.specs.declared.shown.Shown.{Shown}

-- the status is 200 (OK) or 204 (No Content)
abbrev pub is_success : ℕ → Bool
is_success code = (code == 200) || (code == 204)

-- the exit status after a reply that is printed whatever its status
abbrev pub status_after : ℕ → ℕ
status_after code = if is_success code then 0 else 1

-- the exit status after a refusal
abbrev pub refusal_status : Bool → ℕ → ℕ
refusal_status exit_codes code =
    if exit_codes && (code == 403) then 4 else if exit_codes && (code == 404) then 5 else 1

-- what is printed on standard output and on standard error, and the exit status
abbrev pub show : Text → Text → ℕ → Shown
show out err status = record { out = out; err = err; status = status }

-- the line that tells a missing member
abbrev pub missing_line : Text → Text
missing_line name = codes "client: no field " ++ name ++ 10 ∷ []

-- what is printed of a member
abbrev pub field_shown : Text → Field → Shown
field_shown name (Found line) = show line [] 0
field_shown name Missing = show [] (missing_line name) 1
field_shown name NoJson = show [] (codes "bad reply" ++ 10 ∷ []) 1

abbrev pub IsFieldShown : List ℕ → Text → Shown → Type 0
IsFieldShown body name shown = (field : Field) × IsField body name field × (shown ≡ field_shown name field)

-- the same by whether the reply has no content (204), and so no members
abbrev pub IsMemberShown : Bool → List ℕ → Text → Shown → Type 0
IsMemberShown true body name shown = shown ≡ field_shown name Missing
IsMemberShown false body name shown = IsFieldShown body name shown

-- Of a refusal the status is told, and after it why, in words of which this says nothing.
abbrev pub IsRefusalShown : Bool → Reply → Shown → Type 0
IsRefusalShown exit_codes reply shown =
    (why : Text)
    × (shown ≡ show [] (codes "client: " ++ decimal reply.status ++ why ++ 10 ∷ [])
    (refusal_status exit_codes reply.status))

-- what is printed of a reply that is no refusal: the member that is asked for, or nothing, or the body
abbrev pub IsSuccessShown : Option Text → Bool → Reply → Shown → Type 0
IsSuccessShown (Some name) silent reply shown = IsMemberShown (reply.status == 204) reply.body name shown
IsSuccessShown None silent reply shown = shown ≡ show (if silent then [] else reply.body) [] 0

-- the same by whether the reply is no refusal
abbrev pub IsShownBy : Bool → Manner → Reply → Shown → Type 0
IsShownBy true manner reply shown = IsSuccessShown manner.field manner.silent reply shown
IsShownBy false manner reply shown = IsRefusalShown manner.exit_codes reply shown

-- the same by whether the manner is plain
abbrev pub IsShownIn : Bool → Manner → Reply → Shown → Type 0
IsShownIn true manner reply shown = shown ≡ show reply.body [] (status_after reply.status)
IsShownIn false manner reply shown = IsShownBy (is_success reply.status) manner reply shown

-- What is printed of a reply: its body, in the plain manner; else what was asked for, or the refusal.
abbrev pub IsShown : Manner → Reply → Shown → Type 0
IsShown manner reply shown = IsShownIn manner.plain manner reply shown
