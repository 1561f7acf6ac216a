use Rattle.std.proofs.Common.{◌∙◌, ap, map, string_bytes, sym}
use Rattle.sched_doors.proofs.Passing.{between, next_front, next_preamble, still_before}
use Rattle.sched_doors.proofs.door.Door.pass_next.Goals as goal

pub returns-in-Preamble-clause-passes : goal.returns-in-Preamble-clause-passes
returns-in-Preamble-clause-passes g c =
    let q = c.pass_preamble.ensures.quiet in
    next_preamble c.pass_preamble.result _ _ _ _ _ _ _ _ _ _ _ c.in-Preamble.is c.requires.kept (q.0 ∙ c.requires.plain) (ap (λ v. map string_bytes v.items) q.1 ∙ ap (map string_bytes) c.requires.none)
    c.pass_preamble.ensures.lends

pub returns-in-Between-clause-passes : goal.returns-in-Between-clause-passes
returns-in-Between-clause-passes g c =
    let q = c.pass_front.ensures.quiet in
    next_front c.pass_front.result _ _ _ _ _ _ _ _ _ _ _ (between _ _ _ c.in-Between.is c.new.ensures) c.requires.kept (q.0 ∙ c.requires.plain)
    (ap (λ v. map string_bytes v.items) q.1 ∙ ap (map string_bytes) c.requires.none) c.pass_front.ensures.lends

pub returns-else-has_begun-clause-passes : goal.returns-else-has_begun-clause-passes
returns-else-has_begun-clause-passes g c =
    let pass = c.pass_front-else-has_begun in
    let q = pass.ensures.quiet in
    next_front pass.result _ _ _ _ _ _ _ _ _ _ _ (still_before _ c.in-Front.front _ c.in-Front.is (sym c.has_begun.ensures ∙ c.if-has_begun.false)) c.requires.kept (q.0 ∙ c.requires.plain)
    (ap (λ v. map string_bytes v.items) q.1 ∙ ap (map string_bytes) c.requires.none) pass.ensures.lends
