use Rattle.api_json.proofs.Whole.{some_member}
use Rattle.api_json.proofs.parsed.Body.has_members.Goals as goal

pub returns : goal.returns
returns c = some_member c.is_empty.result c.args.self.now.members.entries c.is_empty.ensures
