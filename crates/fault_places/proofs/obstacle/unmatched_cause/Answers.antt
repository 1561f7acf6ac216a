use Rattle.std.proofs.Common.{◌≡◌, rules}
use Rattle.ical_lines.specs.Text.{line_text}
use Rattle.ical_tree.specs.Tree.{component_lines}
use Rattle.fault_places.proofs.CauseLemmas.{has_unmatched, is_unmatched}
use Rattle.fault_places.proofs.obstacle.unmatched_cause.Goals as goal

pub returns : goal.returns
returns c =
    let part = c.args.part.component.now in
    let other = c.args.other.component.now in
    let line = line_text c.in_ok-line.line in
    let differ : c.seconds.result ≡ c.seconds-2.result → ⊥ = search rules in
    has_unmatched part other c.with.result c.at.result line c.with.ensures.component c.with.ensures.cause c.at.ensures.obstacle c.at.ensures.line
    (is_unmatched (component_lines part) (component_lines other) line (line_text c.in_ok-others.others) c.value.result.now c.value-2.result.now c.read.result c.read-2.result c.in_ok-from.from c.in_ok-to.to c.seconds.result c.seconds-2.result
    c.in_ok-line.ensures.found c.in_ok-others.ensures.found c.value.ensures c.value-2.ensures c.read.ensures.reads c.read-2.ensures.reads c.in_ok-from.ensures.value c.in_ok-to.ensures.value
    c.seconds.ensures.value c.seconds-2.ensures.value differ)
