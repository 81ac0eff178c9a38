use Rattle.histories.proofs.Routes.{paths_mean_commands, creates_at}
use Rattle.histories.proofs.LeaseRoutes.{paths_end_leases}
use Rattle.histories.proofs.MountRoutes.{paths_of_issued, paths_of_secrets, paths_of_settings}
use Rattle.histories.proofs.laws.paths_mean_their_commands.Goals as goal

pub returns : goal.returns
returns c =
    let by = c.patterns_are_found_by_form.ensures in
    let ordered = c.tables_are_in_order.ensures in
    record {
      commands = paths_mean_commands by.found by.none ordered;
      ends_of_leases = paths_end_leases by.found by.none ordered;
      secrets = paths_of_secrets by.found by.none ordered;
      credentials = paths_of_issued by.found by.none ordered;
      settings = paths_of_settings by.found by.none ordered;
      creations = creates_at by.found ordered;
    }
