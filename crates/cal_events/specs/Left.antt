-- What an iterator over the instances of an event has left, and what it gives.
use Rattle.std.specs.Prelude.{◌≡◌, MatchOption, Option, Some}
use Rattle.profile.specs.checker.Instances.{Instance as SaidInstance}
use Rattle.profile.specs.events.Starts.{IsInstance, ComesBefore}
use Rattle.cal_events.specs.Calendar.{instance_of}
use Rattle.cal_events.specs.Event.{said_meeting}
use Rattle.cal_events.specs.Instances.{IsAfter}
use Rattle.cal_events.specs.declared.instance.Instance.{Instance}
use Rattle.cal_events.specs.declared.instances.Instances.{Instances}

-- the instances of its event that are still to come
abbrev pub IsLeft : Instances → SaidInstance → Type 0
IsLeft instances b = IsInstance (said_meeting instances.event.now) b × IsAfter instances.after b.start b.key.slot

-- it gave one that was left and before which none was, and then those are left that come after it; or none was left, and none is
abbrev pub GivesFirst : Instances → Option Instance → Instances → Type 0
GivesFirst old found new =
    (new.event ≡ old.event)
    × MatchOption found (((b : SaidInstance) → IsLeft old b → ⊥) × (new.after ≡ old.after))
    (λ i. IsLeft old (instance_of i) × ((b : SaidInstance) → IsLeft old b → ComesBefore b (instance_of i) → ⊥)
    × (new.after ≡ record { start = i.start; slot = Some i.key.slot }))
