use Rattle.std.proofs.Common.{◌≡◌, sym, subst}
use Rattle.profile.specs.text.Trees.{vevents}
use Rattle.profile.specs.doors.InstancesOnClocks.{IsClockInRoom, IsInstanceOn}
use Rattle.sched_doors.proofs.law.adapted_takes_place_as_before.Goals as goal

pub returns : goal.returns
returns c listed octets going_on adapted a words room method meeting i named has_start bars says =
    let same : vevents a.after ≡ vevents a.before = c.adapted_has_the_same_instances.ensures.events listed octets going_on adapted a in
    let before = c.adapted_has_the_same_instances.ensures.instances listed octets going_on adapted a words room named (vevents a.before) (λ lines there. there) i in
    let after = c.instances_are_on_clocks.ensures.meeting words room a.after method meeting i named has_start bars says in (
      λ h. before.1 (subst (λ events. IsInstanceOn (IsClockInRoom a.after) room events i) same (after.0 h)),
      λ h. after.1 (subst (λ events. IsInstanceOn (IsClockInRoom a.after) room events i) (sym same) (before.0 h)),
    )
