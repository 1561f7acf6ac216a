use Rattle.std.proofs.Common.{◌≡◌, refl, to_z, of_z, w64, to_z-of_z}
use Rattle.cal_events.proofs.single_starts_lemmas.SingleStartLemmas.{left_over, not_left_over}
use Rattle.cal_events.specs.Component.{component_of}
use Rattle.cal_events.proofs.single_starts.is_single.Goals as goal

pub is_on_rule-requires-clause-not_excepted : goal.is_on_rule-requires-clause-not_excepted
is_on_rule-requires-clause-not_excepted c = λ h. (c.if-is_start.ensures.0 refl).1 ((c.requires.hidden _).1 h)

pub returns-then-is_start : goal.returns-then-is_start
returns-then-is_start c =
    let given : to_z w64 (of_z w64 c.args.instant) ≡ c.args.instant = to_z-of_z c.ranges.instant in
    left_over (component_of c.args.master.now) c.args.hidden.now c.args.instant c.is_on_rule.result c.requires.hidden (rw given at (c.if-is_start.ensures.0 refl)) (rw given at c.is_on_rule.ensures)

pub returns-else-is_start : goal.returns-else-is_start
returns-else-is_start c =
    let given : to_z w64 (of_z w64 c.args.instant) ≡ c.args.instant = to_z-of_z c.ranges.instant in
    not_left_over (component_of c.args.master.now) c.args.hidden.now c.args.instant c.is_start.result c.requires.hidden c.if-is_start.false (rw given at c.is_start.ensures)
