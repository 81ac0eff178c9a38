use Rattle.std.proofs.Common.{◌++◌, ◌∙◌, List, ℕ, ap, codes, decimal}
use Rattle.std.specs.Net.Text.{socket_text}
use Rattle.records.specs.Words.{time_text}
use Rattle.server.specs.LogLine.{identifier_text, method_member, moment_of, path_member}
use Rattle.server.specs.LogLine.{status_text}
use Rattle.server.proofs.LogLemmas.{more}
use Rattle.server.proofs.log_line.object_line.Goals as goal

pub returns : goal.returns
returns c =
    let noted = c.args.noted.now in
    more (codes "}") c.in_ok-extend_from_slice-10.ensures.items
    (more (decimal noted.traffic.bytes_out) c.in_ok-push_decimal-3.ensures
    (more (codes ",\"bytes_out\":") c.in_ok-extend_from_slice-9.ensures.items
    (more (decimal noted.traffic.bytes_in) c.in_ok-push_decimal-2.ensures
    (more (codes ",\"bytes_in\":") c.in_ok-extend_from_slice-8.ensures.items
    (more (identifier_text (codes "\"") (codes "null") noted.request_id) c.in_ok-push_identifier-2.ensures
    (more (codes ",\"request_id\":") c.in_ok-extend_from_slice-7.ensures.items
    (more (identifier_text (codes "\"") (codes "null") noted.accessor) c.in_ok-push_identifier.ensures
    (more (codes "\",\"accessor\":") c.in_ok-extend_from_slice-6.ensures.items
    (more (socket_text noted.traffic.peer) c.in_ok-push_address.ensures
    (more (codes ",\"peer\":\"") c.in_ok-extend_from_slice-5.ensures.items
    (more (path_member noted.asked) c.in_ok-push_path_member.ensures
    (more (method_member noted.asked) c.in_ok-push_method_member.ensures
    (more (decimal noted.micros) c.in_ok-push_decimal.ensures
    (more (codes ",\"micros\":") c.in_ok-extend_from_slice-4.ensures.items
    (more (status_text (codes "null") noted.status) c.in_ok-push_status.ensures
    (more (codes "\",\"status\":") c.in_ok-extend_from_slice-3.ensures.items
    (more (time_text (moment_of c.args.time.now)) (c.in_ok-extend_from_slice-2.ensures.items
    ∙ ap (λ (l : List ℕ). c.extend_from_slice.new.self.items ++ l) c.as_bytes.ensures)
    (more (codes "{\"time\":\"") c.in_ok-extend_from_slice.ensures.items
    c.in_ok-line.ensures.items))))))))))))))))))
