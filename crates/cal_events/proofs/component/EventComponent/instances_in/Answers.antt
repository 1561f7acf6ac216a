use Rattle.std.proofs.Common.{subst, []}
use Rattle.profile.specs.events.EventComponents.{EventComponent as SaidComponent}
use Rattle.cal_events.specs.InRoom.{AreInstancesOf}
use Rattle.cal_events.specs.OwnInstances.{IsTimely}
use Rattle.cal_events.specs.Times.{none_written}
use Rattle.cal_events.proofs.component_lemmas.OwnInstances.{timely}
use Rattle.cal_events.proofs.shared_lemmas.InRooms.{instances_of_unwritten, timely_back}
use Rattle.cal_events.proofs.component.EventComponent.instances_in.Goals as goal

pub returns : goal.returns
returns c =
    let copy = c.in_ok-placed.placed in
    let p = c.in_ok-placed.ensures in
    let own = c.in_ok-singles.singles.items in
    let given = c.in_ok-series.series in
    record {
      placed = p.placed;
      is_placed = p.is_placed;
      timely = timely_back p.placed none_written [] [] (subst IsTimely p.is (timely copy));
      are = instances_of_unwritten p.placed own given
          (subst (λ (e : SaidComponent). AreInstancesOf e own given) p.is (record { singles = c.in_ok-singles.ensures.apart; series = c.in_ok-series.ensures }));
    }
