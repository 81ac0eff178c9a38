-- The texts of the statements, and their parameters (this project's).
use Rattle.std.specs.Prelude.{◌∷◌, codes, List, ℕ, [], pos, Option}
use Rattle.sqlite.specs.declared.types.Value.TheVariants.{Int, Text, Blob}
use Rattle.sqlite.specs.Order.{Row}
use Rattle.records.specs.declared.row.Row.{Row as Fields}
use Rattle.records.specs.Words.{RowKey as Key, kind_number, Text as Words}
use Rattle.records_sql.specs.Bounds.{bound_value}
use Rattle.records_sql.specs.SqlTable.{due_value}

-- ---- the eight statements

abbrev pub get_text : List ℕ
get_text = codes "SELECT owner, due, body FROM broker_rows WHERE kind = ?1 AND key = ?2"

abbrev pub put_text : List ℕ
put_text =
    codes "INSERT INTO broker_rows (kind, key, owner, due, body) VALUES (?1, ?2, ?3, ?4, ?5) ON CONFLICT (kind, key) DO UPDATE SET owner = excluded.owner, due = excluded.due, body = excluded.body"

abbrev pub remove_text : List ℕ
remove_text = codes "DELETE FROM broker_rows WHERE kind = ?1 AND key = ?2"

abbrev pub under_text : List ℕ
under_text =
    codes "SELECT key, owner, due, body FROM broker_rows WHERE kind = ?1 AND key >= ?2 AND key < ?3 ORDER BY key"

abbrev pub from_text : List ℕ
from_text =
    codes "SELECT key, owner, due, body FROM broker_rows WHERE kind = ?1 AND key >= ?2 AND key < ?3 ORDER BY key LIMIT ?4"

abbrev pub upto_text : List ℕ
upto_text =
    codes "SELECT key, owner, due, body FROM broker_rows WHERE kind = ?1 AND key >= ?2 AND key <= ?3 ORDER BY key"

abbrev pub owner_text : List ℕ
owner_text = codes "SELECT key, owner, due, body FROM broker_rows WHERE kind = ?1 AND owner = ?2 ORDER BY key"

abbrev pub due_text : List ℕ
due_text =
    codes "SELECT kind, key, owner, due, body FROM broker_rows WHERE due >= 0 AND due <= ?1 ORDER BY due, kind, key"

-- ---- what a table that was there before is asked

abbrev pub numbers_text : List ℕ
numbers_text = codes "SELECT rowid, kind, due FROM broker_rows ORDER BY rowid"

-- ---- the parameters of the eight

abbrev pub key_params : Key → Row
key_params q = Int (pos (kind_number q.0)) ∷ Text q.1 ∷ []

abbrev pub put_params : Key → Fields → Row
put_params q row = Int (pos (kind_number q.0)) ∷ Text q.1 ∷ Text row.owner ∷ due_value row.due ∷ Blob row.body ∷ []

abbrev pub under_params : Key → Option Words → Row
under_params q bound = Int (pos (kind_number q.0)) ∷ Text q.1 ∷ bound_value bound ∷ []

abbrev pub from_params : Key → Option Words → ℕ → Row
from_params q bound count = Int (pos (kind_number q.0)) ∷ Text q.1 ∷ bound_value bound ∷ Int (pos count) ∷ []

abbrev pub upto_params : Key → Words → Row
upto_params q last = Int (pos (kind_number q.0)) ∷ Text q.1 ∷ Text last ∷ []

abbrev pub due_params : ℕ → Row
due_params moment = Int (pos moment) ∷ []

-- ---- the table, and transactions

abbrev pub create_text : List ℕ
create_text =
    codes "CREATE TABLE broker_rows (kind INTEGER NOT NULL, key TEXT NOT NULL, owner TEXT NOT NULL, due INTEGER, body BLOB NOT NULL, PRIMARY KEY (kind, key)) STRICT"

abbrev pub create_owner_text : List ℕ
create_owner_text = codes "CREATE INDEX broker_owner ON broker_rows (kind, owner, key)"

abbrev pub create_due_text : List ℕ
create_due_text = codes "CREATE INDEX broker_due ON broker_rows (due, kind, key)"

abbrev pub begin_text : List ℕ
begin_text = codes "BEGIN"

abbrev pub commit_text : List ℕ
commit_text = codes "COMMIT"

abbrev pub rollback_text : List ℕ
rollback_text = codes "ROLLBACK"
