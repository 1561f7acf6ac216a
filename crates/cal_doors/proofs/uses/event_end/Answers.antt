use Rattle.std.proofs.Common.{◌≡◌, ◌∙◌, ap, sym, subst, ℤ, arith, rules, to_z, of_z, w64, to_z-of_z}
use Rattle.jiff_core.proofs.SignedLemmas.{signed_arith}
use Rattle.ical_tree.specs.Runs.{lines_left}
use Rattle.ical_lines.specs.Text.{line_text}
use Rattle.std.specs.Prelude.{Option, IfSome}
use Rattle.cal_doors.specs.Used.{LineEndsBy}
use Rattle.ical_tree.specs.Tree.{component_lines}
use Rattle.cal_doors.proofs.UsesScans.{none_scanned, one_scanned, all_scanned}
use Rattle.cal_doors.proofs.UsesLines.{ends_later, all_end}
use Rattle.cal_doors.proofs.uses.event_end.Goals as goal

pub loop-line-init : goal.loop-line-init
loop-line-init c = none_scanned _ _ _ (sym c.lines-line-items.ensures ∙ ap lines_left (sym c.into_iter-line-iterator.ensures.into_iter_gives))

pub loop-line-preserved : goal.loop-line-preserved
loop-line-preserved c =
    let new : to_z w64 (of_z w64 c.max-last.result) ≡ c.max-last.result = to_z-of_z {w = w64} (record { sfits = c.max-last.type_inv }) in
    let said : to_z w64 (of_z w64 c.in-Some-2.end) ≡ c.in-Some-2.end = to_z-of_z {w = w64} (search rules) in
    one_scanned _ _ _ _ _ (line_text c.in-Some.line) c.in-Some.ensures.steps
    (λ line b. ends_later line _ _ (omega (arith, signed_arith, new, c.max-last.ensures.self_bound)) b)
    (ends_later (line_text c.in-Some.line) c.in-Some-2.end _ (omega (arith, signed_arith, new, said, c.max-last.ensures.other_bound)) (subst (λ (o : Option ℤ). IfSome o (LineEndsBy (line_text c.in-Some.line))) c.in-Some-2.is c.in_ok-end.ensures)) c.loop-line.invariant

pub returns : goal.returns
returns c = all_end (component_lines c.args.event.now) _ (all_scanned _ _ _ c.in-None.ensures.steps.0 c.loop-line.invariant)
