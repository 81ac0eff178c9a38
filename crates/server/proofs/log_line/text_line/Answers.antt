use Rattle.std.proofs.Common.{◌/◌, ◌++◌, ◌∙◌, List, ℕ, ap, codes, decimal, []}
use Rattle.std.specs.Net.Text.{socket_text}
use Rattle.records.specs.Words.{time_text}
use Rattle.server.specs.LogLine.{asked_text, identifier_text, moment_of, status_text}
use Rattle.server.proofs.LogLemmas.{more}
use Rattle.server.proofs.log_line.text_line.Goals as goal

pub returns : goal.returns
returns c =
    let noted = c.args.noted.now in
    more (decimal noted.traffic.bytes_out) c.in_ok-push_decimal-3.ensures
    (more (codes " out=") c.in_ok-extend_from_slice-9.ensures.items
    (more (decimal noted.traffic.bytes_in) c.in_ok-push_decimal-2.ensures
    (more (codes " in=") c.in_ok-extend_from_slice-8.ensures.items
    (more (identifier_text [] (codes "-") noted.request_id) c.in_ok-push_identifier-2.ensures
    (more (codes " request_id=") c.in_ok-extend_from_slice-7.ensures.items
    (more (identifier_text [] (codes "-") noted.accessor) c.in_ok-push_identifier.ensures
    (more (codes " accessor=") c.in_ok-extend_from_slice-6.ensures.items
    (more (socket_text noted.traffic.peer) c.in_ok-push_address.ensures
    (more (codes " peer=") c.in_ok-extend_from_slice-5.ensures.items
    (more (asked_text noted.asked) c.in_ok-push_asked.ensures
    (more (codes "ms ") c.in_ok-extend_from_slice-4.ensures.items
    (more (decimal (noted.micros / 1000)) c.in_ok-push_decimal.ensures
    (more (codes " ") c.in_ok-extend_from_slice-3.ensures.items
    (more (status_text (codes "-") noted.status) c.in_ok-push_status.ensures
    (more (codes " ") c.in_ok-extend_from_slice-2.ensures.items
    (more (time_text (moment_of c.args.time.now)) (c.in_ok-extend_from_slice.ensures.items
    ∙ ap (λ (l : List ℕ). c.in_ok-line.line.items ++ l) c.as_bytes.ensures) c.in_ok-line.ensures.items))))))))))))))))
