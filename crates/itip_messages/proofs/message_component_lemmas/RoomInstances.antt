-- The instances of a component in a room: made once where they are the same in each, else there.
use Rattle.std.proofs.Common.{◌≡◌, true, false, List, [], map, sym, Some, None, subst, Option}
use Rattle.std.specs.Prelude.{MatchOption}
use Rattle.profile.specs.series.Zones.{Zone}
use Rattle.profile.specs.events.EventComponents.{AreOfWritten, EventComponent as SaidComponent}
use Rattle.profile.specs.events.Confirmed.{AreApart, has_series}
use Rattle.profile.specs.events.Placed.{is_all_fixed}
use Rattle.cal_events.specs.Component.{component_of}
use Rattle.cal_events.specs.InRoom.{AreInstancesIn, AreInstancesOf}
use Rattle.cal_events.specs.OwnInstances.{IsTimely, own_instance_at}
use Rattle.cal_events.specs.Series.{IsSeriesOf, series_said}
use Rattle.cal_events.specs.declared.component.EventComponent.{EventComponent}
use Rattle.cal_events.specs.declared.instance.Single.{Single}
use Rattle.cal_events.specs.declared.series.Series.{Series}
use Rattle.cal_events.proofs.shared_lemmas.InRooms.{fixed_placed, instances_in_plain, instances_of_back}
use Rattle.itip_messages.specs.MessageEvents.{HaveInstances, unattended}

pub copied_series : (event : SaidComponent) (own : List Single) (series left : Series) → AreInstancesOf event own (Some series) → series_said left ≡ series_said series → AreInstancesOf event own (Some left)
copied_series event own series left h same = record { singles = h.singles; series = subst (IsSeriesOf event) (sym same) h.series }

-- those of an event that is the same in each room
pub instances_there : (zone : Option Zone) (event : SaidComponent) (own copy : List Single) (given left : Option Series) (by_room : Option EventComponent) → IsTimely event → HaveInstances event own given by_room → by_room ≡ None
    → copy ≡ own → (AreInstancesOf event own given → AreInstancesOf event own left) → AreInstancesIn zone event copy left
instances_there zone event own copy given left by_room timely has is same more =
    let (fixed, written, are) = subst (HaveInstances event own given) is has in
    record {
      placed = event;
      is_placed = fixed_placed zone event fixed written;
      timely = timely;
      are = subst (λ (l : List Single). AreInstancesOf event l left) (sym same) (more are);
    }

-- those of an event that is another in each room
pub instances_here : (zone : Option Zone) (event : SaidComponent) (own found : List Single) (given more : Option Series) (by_room : Option EventComponent) (kept : EventComponent) → HaveInstances event own given by_room → by_room ≡ Some kept
    → AreInstancesIn zone (component_of kept) found more → AreInstancesIn zone event found more
instances_here zone event own found given more by_room kept has is are =
    instances_in_plain zone event [] [] found more (subst (λ (x : SaidComponent). AreInstancesIn zone x found more) (subst (HaveInstances event own given) is has) are)

-- made without SUMMARY and who attends
pub made_once : (event kept : SaidComponent) (own : List Single) (given : Option Series) → kept ≡ unattended event → is_all_fixed kept ≡ true → AreOfWritten kept.written kept.recurrence kept.additions kept.exceptions
    → AreApart kept (map (own_instance_at kept) own) → MatchOption given (has_series kept ≡ false) (λ series. IsSeriesOf kept (series_said series))
    → (is_all_fixed event ≡ true) × AreOfWritten event.written event.recurrence event.additions event.exceptions × AreInstancesOf event own given
made_once event kept own given is fixed written apart series = (
  subst (λ (x : SaidComponent). is_all_fixed x ≡ true) is fixed,
  subst (λ (x : SaidComponent). AreOfWritten x.written x.recurrence x.additions x.exceptions) is written,
  instances_of_back event event.written [] [] own given (subst (λ (x : SaidComponent). AreInstancesOf x own given) is (record { singles = apart; series = series })),
)
