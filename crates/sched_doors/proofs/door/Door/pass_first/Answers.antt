use Rattle.std.proofs.Common.{◌∙◌, ap, map, string_bytes}
use Rattle.sched_doors.proofs.Passing.{first_front, first_preamble}
use Rattle.sched_doors.proofs.door.Door.pass_first.Goals as goal

pub returns-then-comes-clause-passes : goal.returns-then-comes-clause-passes
returns-then-comes-clause-passes g c =
    let f = c.requires.forgotten in
    let q = c.pass_preamble.ensures.quiet in
    first_preamble c.pass_preamble.result _ _ (g.R.Input.remaining c.begins_with_preamble.new.reader) _ _ _ _ _ _ _ _ _ c.requires.place f.kept (q.0 ∙ f.plain)
    (ap (λ v. map string_bytes v.items) q.1 ∙ ap (map string_bytes) f.none) c.begins_with_preamble.ensures.keeps c.if-comes.true c.in_ok-comes.ensures.begins c.pass_preamble.ensures.lends

pub returns-else-comes-clause-passes : goal.returns-else-comes-clause-passes
returns-else-comes-clause-passes g c =
    let f = c.requires.forgotten in
    let q = c.pass_front.ensures.quiet in
    first_front c.pass_front.result _ _ (g.R.Input.remaining c.begins_with_preamble.new.reader) _ _ _ _ _ _ _ _ _ _ c.requires.place f.kept (q.0 ∙ f.plain)
    (ap (λ v. map string_bytes v.items) q.1 ∙ ap (map string_bytes) f.none) c.begins_with_preamble.ensures.keeps c.if-comes.false c.new.ensures c.in_ok-comes.ensures.begins c.pass_front.ensures.lends
