use Rattle.std.proofs.Common.{◌≡◌, ◌∙◌, [], refl, sym, subst, to_z, of_z, w64, to_z-of_z}
use Rattle.std.proofs.lemmas.Option.{same_Some}
use Rattle.std.specs.Prelude.{None}
use Rattle.cal_events.specs.Recurrence.{recurring}
use Rattle.cal_events.specs.declared.recurrence.Recurrence.{Recurrence}
use Rattle.cal_events.specs.declared.instances.Bound.{Bound}
use Rattle.cal_events.specs.Instances.{AreWalked}
use Rattle.cal_events.proofs.instances.days_from.Goals as goal

pub returns-in-Some : goal.returns-in-Some
returns-in-Some c d is =
    let days = c.days_of.result in
    let same : to_z w64 (of_z w64 c.args.from) ≡ c.args.from = to_z-of_z c.ranges.from in
    let bound : Bound = record { start = c.args.from; slot = None } in
    subst (λ (x : Recurrence). AreWalked (recurring x) [] bound days) (same_Some c.in-Some.recurrence d (sym c.in-Some.is ∙ is))
    ((rw same at c.days_of.ensures) (recurring c.in-Some.recurrence) [] refl refl)
