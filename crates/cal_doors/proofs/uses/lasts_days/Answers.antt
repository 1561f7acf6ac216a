use Rattle.std.proofs.Common.{◌∙◌, ap, sym}
use Rattle.ical_tree.specs.Runs.{lines_left}
use Rattle.ical_lines.specs.Text.{line_text}
use Rattle.ical_tree.specs.Tree.{component_lines}
use Rattle.cal_doors.proofs.UsesScans.{none_scanned, one_scanned, all_scanned}
use Rattle.cal_doors.proofs.UsesLines.{no_days_last}
use Rattle.cal_doors.proofs.uses.lasts_days.Goals as goal

pub loop-line-init : goal.loop-line-init
loop-line-init c = none_scanned _ _ _ (sym c.lines-line-items.ensures ∙ ap lines_left (sym c.into_iter-line-iterator.ensures.into_iter_gives))

pub loop-line-preserved : goal.loop-line-preserved
loop-line-preserved c =
    one_scanned _ _ _ _ _ (line_text c.in-Some.line) c.in-Some.ensures.steps (λ line b. b) (c.has_days.ensures c.if-has_days.false) c.loop-line.invariant

pub returns : goal.returns
returns c = λ _. no_days_last (component_lines c.args.event.now) (all_scanned _ _ _ c.in-None.ensures.steps.0 c.loop-line.invariant)
