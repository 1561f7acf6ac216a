use Rattle.std.proofs.Common.{◌≡◌, List, subst}
use Rattle.std.specs.Prelude.{IfNone}
use Rattle.profile.specs.checker.Instances.{Instance}
use Rattle.profile.specs.events.Events.{Event}
use Rattle.profile.specs.events.Confirmed.{IsInSeries}
use Rattle.cal_events.specs.Calendar.{owned_key_of}
use Rattle.clash_check.proofs.ClashLemmas.{none_of_both}
use Rattle.clash_check.proofs.checking.confirmed_of.Goals as goal

pub returns-in-None-clause-none : goal.returns-in-None-clause-none
returns-in-None-clause-none c =
    let key = owned_key_of c.args.key.now in
    none_of_both c.args.calendar.now key c.of_series.result c.in-None.ensures.none
    (subst (λ (l : List Event). IfNone c.of_series.result ((b : Instance) → IsInSeries l b → b.key ≡ key → ⊥)) c.series.ensures.are c.of_series.ensures.none)
