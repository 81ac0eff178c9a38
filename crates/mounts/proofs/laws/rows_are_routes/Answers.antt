use Rattle.records.specs.Words.{and_parts}
use Rattle.mounts.specs.Words.{fits}
use Rattle.mounts.proofs.TableRows.{each_route}
use Rattle.mounts.proofs.laws.rows_are_routes.Goals as goal

pub returns : goal.returns
returns c rows ordered = each_route rows (and_parts _ _ (and_parts _ _ (and_parts (fits rows) _ ordered).1).1).1
