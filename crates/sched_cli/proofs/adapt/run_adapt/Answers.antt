use Rattle.std.proofs.Common.{◌∙◌, ap, refl, subst}
use Rattle.cal_doors.specs.Adapted.{list_of}
use Rattle.sched_doors.specs.Handing.{begun_at}
use Rattle.sched_doors.specs.Streams.{none_passed}
use Rattle.sched_cli.specs.Adapting.{PassesOn}
use Rattle.sched_cli.proofs.Adapted.{one_more, whole_pieces, whole_so}
use Rattle.sched_cli.proofs.adapt.run_adapt.Goals as goal

pub loop-init : goal.loop-init
loop-init g c = (none_passed _ _, refl, refl, refl, λ silent. refl)

pub returns-in_default-clause-front : goal.returns-in_default-clause-front
returns-in_default-clause-front g c =
    λ other. whole_pieces _ _ _ _ _ _ (one_more _ _ _ _ _ _ _ _ _ (ap list_of c.loop.invariant.3) c.loop.invariant.0 c.in-Ok-true.ensures.passes)

pub loop-preserved : goal.loop-preserved
loop-preserved g c =
    let i = c.loop.invariant in
    let p = c.in-Ok-true.ensures in (
      one_more _ _ _ _ _ _ _ _ _ (ap list_of i.3) i.0 p.passes,
      p.mark ∙ i.1,
      p.sent ∙ i.2,
      p.listed ∙ i.3,
      λ silent. c.in-Ok.ensures.silent silent ∙ i.4 silent,
    )

pub returns-in-Ok-false-clause-stream : goal.returns-in-Ok-false-clause-stream
returns-in-Ok-false-clause-stream g c =
    λ done start. whole_so _ _ _ _ _ _ _ _ (ap list_of c.loop.invariant.3) start (ap (λ p. begun_at p c.args.door.now.octets.items) start) c.loop.invariant.0
    (subst (PassesOn _ _ _ _ _) c.in-Ok-false.field-0-test c.in-Ok-false.ensures.passes)
