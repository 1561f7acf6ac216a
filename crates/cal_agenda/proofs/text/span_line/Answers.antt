use Rattle.std.proofs.Common.{◌≡◌, string_bytes, to_z, of_z, w64, to_z-of_z, rules, FitsSigned}
use Rattle.cal_agenda.proofs.text.span_line.Goals as goal

pub returns : goal.returns
returns c =
    let span = c.args.span in
    let start_fits : FitsSigned w64 span.start = search rules in
    let start : to_z w64 (of_z w64 span.start) ≡ span.start = to_z-of_z start_fits in
    let end_fits : FitsSigned w64 span.end = search rules in
    let end : to_z w64 (of_z w64 span.end) ≡ span.end = to_z-of_z end_fits in
    (string_bytes c.in_ok-times.times, rw (start, end) at c.in_ok-times.ensures, c.in_ok-format.ensures.ok)
