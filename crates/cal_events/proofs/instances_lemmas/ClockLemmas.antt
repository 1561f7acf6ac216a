-- What the clocks that an iterator keeps say of DTSTART's zone.
-- Cited by clock_of, first_on_rule.
use Rattle.std.proofs.Common.{◌≡◌, subst, ℤ, pos}
use Rattle.std.specs.Prelude.{Some, None}
use Rattle.profile.specs.series.Zones.{Zone, Constant, Means, IsOneMeaning}
use Rattle.profile.specs.events.ZonedTimes.{clock_of}
use Rattle.cal_zones.specs.Kinds.{zone_of}
use Rattle.cal_zones.specs.declared.clock.Clock.{Clock}
use Rattle.cal_zones.specs.declared.zone.Zone as kept
use Rattle.cal_zones.proofs.Meant.{meant_alone}
use Rattle.cal_events.specs.Component.{zone_said}
use Rattle.cal_events.specs.Recurrence.{recurring}
use Rattle.cal_events.specs.Instances.{IsOfClock}
use Rattle.cal_events.specs.declared.recurrence.Recurrence.{Recurrence}
use Rattle.cal_events.specs.declared.when.When.{When}
use Rattle.cal_events.specs.declared.when.When.TheVariants.{Utc, Zoned, Floating, WholeDay}
use Rattle.cal_events.proofs.shared_lemmas.Meanings.{utc_means}

utc_there : (local r : ℤ) → ((u : ℤ) → Means (Constant (pos 0)) local u → u ≡ r) → Means (Constant (pos 0)) local r
utc_there local r f = subst (Means (Constant (pos 0)) local) (f local (utc_means local)) (utc_means local)

-- what they say a local time means is what it means there
pub means_there : (time : When) (local r : ℤ) → ((u : ℤ) → Means (clock_of (zone_said time)) local u → u ≡ r) → Means (clock_of (zone_said time)) local r
means_there (Utc shown) local r f = utc_there local r f
means_there (Zoned shown zone) local r f = meant_alone zone local r f
means_there (Floating shown None) local r f = utc_there local r f
means_there (Floating shown (Some zone)) local r f = meant_alone zone local r f
means_there (WholeDay shown None) local r f = utc_there local r f
means_there (WholeDay shown (Some zone)) local r f = meant_alone zone local r f

pub means_by : (master : Recurrence) (clock : Clock) (local r : ℤ) → IsOfClock (recurring master) clock → Means (zone_of clock.zone) local r → Means (clock_of (recurring master).times.zone) local r
means_by master clock local r same means = means_there master.times.start local r (λ u m. same local r u means m)

-- clocks of one zone say the same
pub same_clock : (master : Recurrence) (old new : Clock) → new.zone ≡ old.zone → IsOfClock (recurring master) old → IsOfClock (recurring master) new
same_clock master old new e same = λ local t u m k. same local t u (subst (λ (z : kept.Zone). Means (zone_of z) local t) e m) k

pub own_clock : (master : Recurrence) (clock : Clock) → zone_of clock.zone ≡ clock_of (recurring master).times.zone → IsOneMeaning (clock_of (recurring master).times.zone) → IsOfClock (recurring master) clock
own_clock master clock e one = λ local t u m k. one local u t k (subst (λ (z : Zone). Means z local t) e m)
