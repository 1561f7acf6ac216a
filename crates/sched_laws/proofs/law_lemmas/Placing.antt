-- An event has its place in each room in whose zone local times mean something.
-- Behind schedules_hold.
use Rattle.std.proofs.Common.{◌≡◌, ℕ, ℤ, List, [], ◌∷◌, Option, None, Some, refl}
use Rattle.std.specs.List.{AllZip}
use Rattle.profile.specs.events.EventComponents.{EventComponent, SaysEventComponent}
use Rattle.profile.specs.events.Occurrences.{Time}
use Rattle.profile.specs.events.Placed.{IsAt, IsInstantIn, IsPlaced, SaysPlaced, zone_in}
use Rattle.profile.specs.events.Properties.{BothOrNeither, Form, Fixed, Floating, WholeDay}
use Rattle.profile.specs.events.ZonedTimes.{clock_of}
use Rattle.profile.specs.series.Zones.{Zone}
use Rattle.profile.specs.text.Trees.{Tree}
use Rattle.sched_laws.proofs.law_lemmas.RoomMeant.{IsTotal}

module _ (zone : Option Zone) (total : IsTotal (clock_of zone)) where
  instant_there : (form : Form) (time : ℤ) → (t : ℤ) × IsInstantIn zone form time t
  instant_there Fixed time = (time, refl)
  instant_there Floating time = total time
  instant_there WholeDay time = total time

  one_there : (time : Option Time) → (t : Option ℤ) × BothOrNeither (IsAt zone) time t
  one_there None = (None, tt)
  one_there (Some time) = let found = instant_there time.form time.instant in (Some found.0, found.1)

  each_there : (times : List Time) → (ts : List ℤ) × AllZip (IsAt zone) times ts
  each_there [] = ([], tt)
  each_there (time ∷ times) =
      let found = instant_there time.form time.instant in
      let rest = each_there times in
      (found.0 ∷ rest.0, (found.1, rest.1))

  event_there : (event : EventComponent) → (placed : EventComponent) × IsPlaced zone event placed
  event_there event =
      let start = instant_there event.times.form event.times.start in
      let slot = one_there event.written.recurrence in
      let adds = each_there event.written.additions in
      let takes = each_there event.written.exceptions in (
        record event {
          recurrence = slot.0;
          times = record event.times { zone = zone_in zone event.times.form event.times.zone; start = start.0 };
          additions = adds.0;
          exceptions = takes.0;
        },
        record { start = start.0; recurrence = slot.0; additions = adds.0; exceptions = takes.0; starts = start.1; slot = slot.1; adds = adds.1; takes = takes.1; is = refl },
      )

  pub events_there : (events : List EventComponent) → (placed : List EventComponent) × AllZip (IsPlaced zone) events placed
  events_there [] = ([], tt)
  events_there (event ∷ events) =
      let found = event_there event in
      let rest = events_there events in
      (found.0 ∷ rest.0, (found.1, rest.1))

-- lines that say an event say it in the room
pub said_there : (zone : Option Zone) (object : Tree) (lines : List (List (List ℕ))) (said placed : List EventComponent) → AllZip (SaysEventComponent object None) lines said → AllZip (IsPlaced zone) said placed
    → AllZip (SaysPlaced zone object None) lines placed
said_there zone object [] [] [] says there = tt
said_there zone object [] [] (p ∷ placed) says there = absurd there
said_there zone object [] (s ∷ said) placed says there = absurd says
said_there zone object (l ∷ lines) [] placed says there = absurd says
said_there zone object (l ∷ lines) (s ∷ said) [] says there = absurd there
said_there zone object (l ∷ lines) (s ∷ said) (p ∷ placed) says there = ((s, says.0, there.0), said_there zone object lines said placed says.1 there.1)
