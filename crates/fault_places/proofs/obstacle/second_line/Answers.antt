use Rattle.std.proofs.lemmas.Option.{IfSome_then}
use Rattle.ical_lines.specs.Text.{line_text}
use Rattle.ical_tree.specs.Runs.{lines_left}
use Rattle.ical_tree.specs.Tree.{component_lines}
use Rattle.profile.specs.events.Properties.{lines_named}
use Rattle.fault_places.proofs.ObstacleLemmas.{is_second}
use Rattle.fault_places.proofs.obstacle.second_line.Goals as goal

pub returns-clause-found : goal.returns-clause-found
returns-clause-found c =
    let name = c.args.name.now in
    IfSome_then c.next_line-2.result c.next_line-2.ensures.found
    (λ line e. is_second name (component_lines c.args.part.now) (lines_left c.lines-lines.result) (lines_named name (lines_left c.next_line.new.lines)) (lines_named name (lines_left c.next_line-2.new.lines))
    (line_text c.in_ok-next_line.field-0) (line_text line) c.lines-lines.ensures c.in_ok-next_line.ensures.found e)
