-- The times of an event in a room make the event there, and are such as some VEVENT says.
-- Cited by EventComponent::times_in, EventComponent::placed, EventComponent::placed_copy of place.
use Rattle.std.proofs.Common.{◌≡◌, ◌∙◌, ℕ, List, true, subst, sym, refl, ap, ℤ}
use Rattle.std.proofs.Math.Logic.{∥∥₁_elim, ∥∥₁_map}
use Rattle.std.proofs.Math.Dec.{T_prop}
use Rattle.std.specs.Prelude.{Option, is_some, ◌≤ℤ◌, ◌<ℤ◌}
use Rattle.std.specs.Int.Signed.{le_z, lt_z}
use Rattle.std.specs.List.{AllZip}
use Rattle.profile.specs.series.Zones.{Zone}
use Rattle.profile.specs.series.RoomZones.{IsRoomZone}
use Rattle.profile.specs.checker.Instances.{horizon}
use Rattle.profile.specs.events.Properties.{BothOrNeither, first_second}
use Rattle.profile.specs.events.Occurrences.{Time as SaidTime}
use Rattle.profile.specs.events.ZonedTimes.{EventTimes, clock_of}
use Rattle.profile.specs.events.EventComponents.{EventComponent as SaidComponent}
use Rattle.profile.specs.events.Placed.{IsInstantIn, IsAt, IsPlaced, zone_in}
use Rattle.cal_events.specs.Clocks.{IsSteady}
use Rattle.cal_events.specs.InRoom.{ArePlacedTimes}
use Rattle.cal_events.specs.MeetingComponents.{IsInEventDates}
use Rattle.cal_events.specs.Said.{AreSaidWith, IsWritten}
use Rattle.cal_events.specs.Times.{times_of}
use Rattle.cal_events.specs.declared.place.PlacedTimes.{PlacedTimes}
use Rattle.cal_events.proofs.shared_lemmas.Placing.{written_start, zone_steady}
use Rattle.cal_events.proofs.shared_lemmas.RoomClocks.{room_clock}

-- ---- that an instant is in the dates of events is known in one way

le_prop : (a b : ℤ) → IsProp (a ≤ℤ b)
le_prop a b x y = λ i. record { le = T_prop (le_z a b) x.le y.le i }

lt_prop : (a b : ℤ) → IsProp (a <ℤ b)
lt_prop a b x y = λ i. record { lt = T_prop (lt_z a b) x.lt y.lt i }

dates_prop : (u : ℤ) → IsProp (IsInEventDates u)
dates_prop u x y = λ i. (le_prop first_second u x.0 y.0 i, lt_prop u horizon x.1 y.1 i)

pub start_there : (words : List ℕ) (room : Option Zone) → IsRoomZone words room → (event : SaidComponent) → ∥ IsWritten event ∥₁ → (u : ℤ) → IsInstantIn room event.times.form event.times.start u → IsInEventDates u
start_there words room named event written u p = ∥∥₁_elim written (dates_prop u) (λ w. written_start words room named event w u p)

-- ---- the event there

abbrev pub event_at : SaidComponent → PlacedTimes → SaidComponent
event_at event t = record event { recurrence = t.recurrence; times = times_of t.times; additions = t.additions.items; exceptions = t.exceptions.items }

pub times_placed : (room : Option Zone) (event : SaidComponent) (t : PlacedTimes) → ArePlacedTimes room event t → IsPlaced room event (event_at event t)
times_placed room event t h = record {
  start = (times_of t.times).start;
  recurrence = t.recurrence;
  additions = t.additions.items;
  exceptions = t.exceptions.items;
  starts = h.starts;
  slot = h.slot;
  adds = h.adds;
  takes = h.takes;
  is = ap (λ (x : EventTimes). record event { recurrence = t.recurrence; times = x; additions = t.additions.items; exceptions = t.exceptions.items }) h.is;
}

-- ---- what a VEVENT that was read knows of itself

module _ (words : List ℕ) (room : Option Zone) (named : IsRoomZone words room) (event : SaidComponent) (t : PlacedTimes) (h : ArePlacedTimes room event t) where
  pub times_steady : IsSteady (clock_of event.times.zone) → IsSteady (clock_of (times_of t.times).zone)
  times_steady own =
      subst (λ (x : EventTimes). IsSteady (clock_of x.zone)) (sym h.is) (zone_steady room event.times.form event.times.zone own (room_clock words room named).steady)

  pub times_named : ∥ IsWritten event ∥₁ → IsInEventDates (times_of t.times).start
  times_named written = start_there words room named event written (times_of t.times).start h.starts

  said_with : is_some event.rule ≡ true → IsWritten event → AreSaidWith (times_of t.times) event.rule
  said_with recurs w = record {
    words = words;
    room = room;
    named = named;
    object = w.object;
    method = w.method;
    lines = w.lines;
    event = event_at w.said t;
    says = (
      w.said,
      w.says,
      times_placed room w.said t (record {
        starts = subst (λ (x : EventTimes). IsInstantIn room x.form x.start (times_of t.times).start) w.times h.starts;
        is = h.is ∙ ap (λ (x : EventTimes). record x { zone = zone_in room x.form x.zone; start = (times_of t.times).start }) w.times;
        slot = subst (λ (x : Option SaidTime). BothOrNeither (IsAt room) x t.recurrence) (w.slot recurs) h.slot;
        adds = subst (λ (x : List SaidTime). AllZip (IsAt room) x t.additions.items) w.additions h.adds;
        takes = subst (λ (x : List SaidTime). AllZip (IsAt room) x t.exceptions.items) w.exceptions h.takes;
      }),
    );
    times_are = refl;
    rule_is = w.rule;
  }

  pub times_said : ∥ IsWritten event ∥₁ → is_some event.rule ≡ true → ∥ AreSaidWith (times_of t.times) event.rule ∥₁
  times_said written recurs = ∥∥₁_map written (said_with recurs)
