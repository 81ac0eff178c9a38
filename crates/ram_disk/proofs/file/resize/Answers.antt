use Rattle.ram_disk.proofs.ZeroLemmas.{filled_up}
use Rattle.ram_disk.proofs.file.resize.Goals as goal

pub returns-clause-filled : goal.returns-clause-filled
returns-clause-filled c =
    filled_up c.resize.result c.args.len _ c.args.bytes.now.items c.resize.new.self.items c.resize.ensures.items
