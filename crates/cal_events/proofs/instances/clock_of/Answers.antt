use Rattle.std.proofs.Common.{◌∙◌, sym, ap, subst}
use Rattle.std.proofs.lemmas.Option.{same_Some}
use Rattle.cal_zones.specs.Kinds.{zone_of}
use Rattle.cal_events.specs.Recurrence.{recurring}
use Rattle.cal_events.specs.Instances.{IsOfClock}
use Rattle.cal_events.specs.declared.recurrence.Recurrence.{Recurrence}
use Rattle.cal_events.proofs.instances_lemmas.ClockLemmas.{own_clock}
use Rattle.cal_events.proofs.instances.clock_of.Goals as goal

pub returns-in-Some : goal.returns-in-Some
returns-in-Some c d is =
    let same = same_Some c.in-Some.recurrence d (sym c.in-Some.is ∙ is) in
    subst (λ (x : Recurrence). IsOfClock (recurring x) c.of.result) same
    (own_clock c.in-Some.recurrence c.of.result (ap zone_of c.of.ensures ∙ c.clock.ensures) c.in-Some.recurrence.steady.meaning)
