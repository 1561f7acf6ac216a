use Rattle.std.proofs.Common.{◌≡◌, false, rules}
use Rattle.std.specs.Option.{is_none}
use Rattle.ical_values.proofs.Exits.{if_none}
use Rattle.ical_lines.specs.Text.{line_text}
use Rattle.ical_tree.specs.Tree.{component_lines}
use Rattle.fault_places.specs.Obstacles.{time_name}
use Rattle.fault_places.proofs.ObstacleLemmas.{once_there}
use Rattle.fault_places.proofs.obstacle.once_cause.Goals as goal

pub returns-in_err-line-clause-none : goal.returns-in_err-line-clause-none
returns-in_err-line-clause-none c =
    let some : is_none c.first_line.result ≡ false = search rules in
    if_none c.from_residual.result
    (once_there line_text (time_name c.args.time) c.name.result.now c.name-2.result.now (component_lines c.args.part.now) c.first_line.result c.name.ensures c.name-2.ensures some c.first_line.ensures.found c.in_err-line.ensures.none)
