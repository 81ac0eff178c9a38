use Rattle.command_line.specs.CommandLine.{client_app}
use Rattle.command_line.proofs.parser.client.Goals as goal

pub returns : goal.returns
unfolding client_app
returns c =
    let one = c.with_paths-client.ensures _ c.options.ensures in
    let two = c.with_secrets-client.ensures _ one in
    let three = c.with_tokens-client.ensures _ two in
    let four = c.with_policies-client.ensures _ three in
    c.with_leases.ensures _ four
