use Rattle.std.proofs.Common.{ap, sym, ◌∙◌}
use Rattle.std.proofs.lemmas.Result.{err_from_is_err_and}
use Rattle.profile.specs.text.Lines.{logical_lines}
use Rattle.ical_lines.specs.Breaks.{lines_of}
use Rattle.ical_lines.specs.Limits.{is_bounded}
use Rattle.ical_lines.proofs.BreakLemmas.{lines_refuse, all_read}
use Rattle.ical_lines.proofs.FirstLemmas.{lines_first, lines_at}
use Rattle.ical_lines.proofs.Utf8Lemmas.{text_utf8}
use Rattle.ical_lines.proofs.text.Unfolded.read.Goals as goal

pub returns-in_err-check_lines-clause-fault : goal.returns-in_err-check_lines-clause-fault
returns-in_err-check_lines-clause-fault c =
    let p = err_from_is_err_and c.from_residual-in_err-check_lines.result c.from_residual-in_err-check_lines.ensures.1 in
    rw (p.1, p.2) (lines_refuse (is_bounded c.args.limits) c.in_err-check_lines.field-0.0.number c.args.bytes.now (lines_of c.as_str.result.now) (ap lines_of c.as_str.ensures ∙ c.in_ok-text.ensures.lines) c.in_err-check_lines.ensures.fault)

pub returns-in_err-check_lines-clause-first : goal.returns-in_err-check_lines-clause-first
returns-in_err-check_lines-clause-first c =
    let p = err_from_is_err_and c.from_residual-in_err-check_lines.result c.from_residual-in_err-check_lines.ensures.1 in
    rw (p.1, p.2) (lines_first (is_bounded c.args.limits) c.in_err-check_lines.field-0.0.number c.args.bytes.now (lines_of c.as_str.result.now) (ap lines_of c.as_str.ensures ∙ c.in_ok-text.ensures.lines) (text_utf8 c.as_str.result.now (logical_lines c.args.bytes.now) (ap lines_of c.as_str.ensures ∙ c.in_ok-text.ensures.lines) c.as_str.utf8) (sym c.exceeds_octets.ensures ∙ c.if-exceeds_octets.false) c.in_err-check_lines.ensures.first)

pub returns-clause-reads : goal.returns-clause-reads
returns-clause-reads c =
    all_read (is_bounded c.args.limits) c.args.bytes.now (lines_of c.as_str.result.now) (ap lines_of c.as_str.ensures ∙ c.in_ok-text.ensures.lines) (text_utf8 c.as_str.result.now (logical_lines c.args.bytes.now) (ap lines_of c.as_str.ensures ∙ c.in_ok-text.ensures.lines) c.as_str.utf8) c.in_ok-check_lines.ensures.fault.0 c.in_ok-check_lines.ensures.fault.1 (sym c.exceeds_octets.ensures ∙ c.if-exceeds_octets.false)

pub returns-in_err-check_lines-clause-at : goal.returns-in_err-check_lines-clause-at
returns-in_err-check_lines-clause-at c =
    let p = err_from_is_err_and c.from_residual-in_err-check_lines.result c.from_residual-in_err-check_lines.ensures.1 in
    rw (p.1, p.2) (lines_at (is_bounded c.args.limits) c.in_err-check_lines.field-0.0.line c.args.bytes.now (lines_of c.as_str.result.now) (ap lines_of c.as_str.ensures ∙ c.in_ok-text.ensures.lines) (text_utf8 c.as_str.result.now (logical_lines c.args.bytes.now) (ap lines_of c.as_str.ensures ∙ c.in_ok-text.ensures.lines) c.as_str.utf8) (sym c.exceeds_octets.ensures ∙ c.if-exceeds_octets.false) c.in_err-check_lines.ensures.at)
