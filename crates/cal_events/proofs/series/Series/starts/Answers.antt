use Rattle.std.proofs.Common.{◌≡◌, subst, to_z, of_z, w64, to_z-of_z}
use Rattle.std.specs.Prelude.{◌↔◌, ◌≤ℤ◌}
use Rattle.profile.specs.checker.Instances.{Instance as SaidInstance}
use Rattle.profile.specs.events.Starts.{IsInstance}
use Rattle.cal_events.specs.Event.{said_meeting}
use Rattle.cal_events.specs.Left.{IsLeft}
use Rattle.cal_events.specs.declared.event.Event.{Event}
use Rattle.cal_events.proofs.series.Series.starts.Goals as goal

pub returns-clause-left : goal.returns-clause-left
returns-clause-left c =
    let same : to_z w64 (of_z w64 c.args.from) ≡ c.args.from = to_z-of_z c.ranges.from in
    subst (λ (e : Event). (b : SaidInstance) → IsLeft c.instances.result b ↔ (IsInstance (said_meeting e) b × (c.args.from ≤ℤ b.start))) c.deref.ensures (rw same at c.instances.ensures.left)
