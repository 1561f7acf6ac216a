use Rattle.ical_lines.specs.Text.{line_text}
use Rattle.ical_tree.specs.Runs.{lines_left}
use Rattle.ical_tree.specs.Tree.{component_lines}
use Rattle.fault_places.proofs.RefusedLemmas.{rest_among}
use Rattle.fault_places.proofs.refused_zone.refused_in_event.Goals as goal

pub loop-line-preserved-in_default : goal.loop-line-preserved-in_default
loop-line-preserved-in_default c =
    rest_among (component_lines c.args.event.now) (lines_left c.loop-line.line-iterator) (lines_left c.next.new.self) (line_text c.in-Some.line) c.loop-line.invariant c.in-Some.ensures.steps

pub loop-line-preserved : goal.loop-line-preserved
loop-line-preserved c =
    rest_among (component_lines c.args.event.now) (lines_left c.loop-line.line-iterator) (lines_left c.next.new.self) (line_text c.in-Some.line) c.loop-line.invariant c.in-Some.ensures.steps
