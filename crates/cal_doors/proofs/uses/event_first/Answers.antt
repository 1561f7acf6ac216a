use Rattle.std.proofs.Common.{◌≡◌, ◌∙◌, ap, sym, arith, rules, to_z, of_z, w64, to_z-of_z}
use Rattle.jiff_core.proofs.SignedLemmas.{signed_arith}
use Rattle.ical_tree.specs.Runs.{lines_left}
use Rattle.ical_lines.specs.Text.{line_text}
use Rattle.cal_doors.proofs.UsesScans.{none_scanned, one_scanned, all_scanned}
use Rattle.cal_doors.proofs.UsesLines.{begins_earlier}
use Rattle.cal_doors.proofs.uses.event_first.Goals as goal

pub loop-line-init : goal.loop-line-init
loop-line-init c = none_scanned _ _ _ (sym c.lines-line-items.ensures ∙ ap lines_left (sym c.into_iter-line-iterator.ensures.into_iter_gives))

pub loop-line-preserved : goal.loop-line-preserved
loop-line-preserved c =
    let new : to_z w64 (of_z w64 c.min-first.result) ≡ c.min-first.result = to_z-of_z {w = w64} (record { sfits = c.min-first.type_inv }) in
    let said : to_z w64 (of_z w64 c.in_ok-line_first.field-0) ≡ c.in_ok-line_first.field-0 = to_z-of_z {w = w64} (search rules) in
    one_scanned _ _ _ _ _ (line_text c.in-Some.line) c.in-Some.ensures.steps
    (λ line b. begins_earlier c.lasts_days-days.result line _ _ (omega (arith, signed_arith, new, c.min-first.ensures.self_bound)) b)
    (begins_earlier c.lasts_days-days.result (line_text c.in-Some.line) c.in_ok-line_first.field-0 _ (omega (arith, signed_arith, new, said, c.min-first.ensures.other_bound)) c.in_ok-line_first.ensures) c.loop-line.invariant

pub returns : goal.returns
returns c = record {
  days = c.lasts_days-days.result;
  no_days = c.lasts_days-days.ensures;
  each = all_scanned _ _ _ c.in-None.ensures.steps.0 c.loop-line.invariant;
}
