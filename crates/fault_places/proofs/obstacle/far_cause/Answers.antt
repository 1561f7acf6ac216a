use Rattle.std.proofs.Common.{◌≡◌, ◌∙◌, ◌<◌, arith, FitsSigned, to_z, of_z, w32, rules, to_z-of_z}
use Rattle.ical_lines.specs.Text.{line_text}
use Rattle.ical_tree.specs.Tree.{component_lines}
use Rattle.fault_places.proofs.CauseLemmas.{has_far, is_far}
use Rattle.fault_places.proofs.obstacle.far_cause.Goals as goal

pub returns : goal.returns
returns c =
    let part = c.args.part.component.now in
    let line = line_text c.in_ok-line.line in
    let to_fits : FitsSigned w32 c.seconds.result = search rules in
    let from_fits : FitsSigned w32 c.seconds-2.result = search rules in
    let to : to_z w32 (of_z w32 c.seconds.result) ≡ c.seconds.result = to_z-of_z to_fits in
    let from : to_z w32 (of_z w32 c.seconds-2.result) ≡ c.seconds-2.result = to_z-of_z from_fits in
    let far : 43_200 < c.abs_diff.result = omega arith in
    has_far part c.with.result c.at.result line c.with.ensures.component c.with.ensures.cause c.at.ensures.obstacle c.at.ensures.line
    (is_far (component_lines part) line (line_text c.in_ok-others.others) c.value.result.now c.value-2.result.now c.read.result c.read-2.result c.in_ok-to.to c.in_ok-from.from (to_z w32 (of_z w32 c.seconds.result)) (to_z w32 (of_z w32 c.seconds-2.result)) c.abs_diff.result
    c.in_ok-line.ensures.found c.in_ok-others.ensures.found c.value.ensures c.value-2.ensures c.read.ensures.reads c.read-2.ensures.reads c.in_ok-to.ensures.value c.in_ok-from.ensures.value
    (to ∙ c.seconds.ensures.value) (from ∙ c.seconds-2.ensures.value) c.abs_diff.ensures far)
