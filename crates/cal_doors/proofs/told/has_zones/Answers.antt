use Rattle.std.proofs.Common.{sym, subst}
use Rattle.ical_lines.specs.Text.{line_text}
use Rattle.ical_tree.specs.Runs.{lines_left}
use Rattle.ical_tree.specs.Tree.{tree_of}
use Rattle.profile.specs.doors.Uses.{IsLineIn}
use Rattle.cal_doors.specs.Told.{HasItsZone}
use Rattle.cal_doors.proofs.ToldWords.{each_line, no_line}
use Rattle.cal_doors.proofs.told.has_zones.Goals as goal

pub loop-line-init : goal.loop-line-init
loop-line-init c = λ all name line is. all name line (subst (λ i. IsLineIn name (lines_left i) line) (sym c.into_iter-line-iterator.ensures.into_iter_gives) is)

pub loop-line-preserved : goal.loop-line-preserved
loop-line-preserved c = λ later. c.loop-line.invariant (λ name line is.
    each_line (HasItsZone (tree_of c.args.zones.now.object.now) (tree_of c.args.asked.now.object.now) (tree_of c.args.read.now.object.now)) (line_text c.in-Some.line)
    (lines_left c.next.new.self) (c.has_zone.ensures c.if-not-has_zone.false) later name line (subst (λ l. IsLineIn name l line) c.in-Some.ensures.steps is))

pub returns : goal.returns
returns c = λ _. c.loop-line.invariant (λ name line is. absurd (no_line name line (subst (λ l. IsLineIn name l line) c.in-None.ensures.steps.0 is)))
