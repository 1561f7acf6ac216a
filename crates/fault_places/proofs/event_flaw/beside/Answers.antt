use Rattle.std.proofs.Common.{codes, subst, sym}
use Rattle.ical_lines.specs.Text.{line_text}
use Rattle.ical_tree.specs.Tree.{component_lines}
use Rattle.fault_places.specs.Obstacles.{IsFirstLine}
use Rattle.fault_places.proofs.event_flaw.beside.Goals as goal

pub returns-clause-found : goal.returns-clause-found
returns-clause-found c =
    let lines = component_lines c.args.event.now in
    let end = line_text c.in_ok-first_line.field-0 in
    let first = subst (λ n. IsFirstLine n lines end) c.name.ensures c.in_ok-first_line.ensures.found in
    let second = subst (λ n. IsFirstLine n lines (line_text c.in_ok-line.line)) c.name-property.ensures c.in_ok-line.ensures.found in
    (c.name-property.ensures, end, first, subst (λ t. IsFirstLine (codes "DURATION") lines t) (sym c.text.ensures.value) second)
