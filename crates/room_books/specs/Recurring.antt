-- Series beside what else a room has confirmed.
use Rattle.std.specs.Prelude.{◌≡◌, ◌≢◌, ◌⊎◌, ◌↔◌, ◌≤◌, ◌++◌, ℕ, ℤ, List, [], map, take, Contains, Option, Some, None, slice_get}
use denote.Ref.{Bor}
use Rattle.profile.specs.checker.Instances.{Instance, IsClear}
use Rattle.profile.specs.events.Events.{Event as Whole}
use Rattle.profile.specs.events.Confirmed.{Confirmed, IsOneOf}
use Rattle.profile.specs.rooms.Rooms.{NamesClash}
use Rattle.clash_cert.specs.declared.making.Clash.{Clash}
use Rattle.cal_events.specs.Calendar.{owned_key_of}
use Rattle.cal_events.specs.declared.instance.Single.{Single}
use Rattle.cal_events.specs.declared.series.Series.{Series}
use Rattle.room_books.specs.declared.decide.SharedInstant.{SharedInstant}
use Rattle.room_books.specs.declared.meeting.MeetingKey.{MeetingKey}
use Rattle.room_books.specs.declared.recurring.Recurring.{Recurring}
use Rattle.room_books.specs.Gone.{HaveInstant, Overlap}
use Rattle.room_books.specs.Taking.{AreOfOneMeeting}
use Rattle.room_books.specs.Meeting.{instance_list, joined, series_of, AreBusyIn, IsClearIn, Recurs, RecursIn}

-- a series as one of its meeting
abbrev pub recurring_said : Recurring → Whole
recurring_said recurring = series_of recurring.key.now recurring.series.now

-- a series with the key of its meeting
abbrev pub keyed_of : Recurring → MeetingKey × Series
keyed_of recurring = (recurring.key.now, recurring.series.now)

-- the instance is one of a series of these, of the meeting with this key
pub record IsAmong (all : List Recurring) (key : MeetingKey) (single : Single) : Type 0 where
  pub recurring : Recurring
  pub among : Contains all recurring
  pub of : recurring.key.now ≡ key
  pub is : Recurs recurring.series.now single

-- no instance of these series shares an instant with the single, or this one does
abbrev pub IsBesideOne : Single → List Recurring → Option (Bor MeetingKey × Single) → Type 0
IsBesideOne single all None = (r : Recurring) (other : Single) (t : ℤ) → Contains all r → Recurs r.series.now other → HaveInstant single.span other.span t → ⊥
IsBesideOne single all (Some p) = IsAmong all p.0.now p.1 × Overlap single.span p.1.span

-- no instance of these series shares an instant with one of those, or such two are named
abbrev pub AreBeside : (Single → Type 0) → List Recurring → Option SharedInstant → Type 0
AreBeside those all None = (single : Single) → those single → IsBesideOne single all None
AreBeside those all (Some x) = those x.asked × IsAmong all x.other.now x.booked × Overlap x.asked.span x.booked.span

-- no two instances of a series with different original starts share an instant, or these two do
abbrev pub IsSharedByItself : Series → Option (Single × Single) → Type 0
IsSharedByItself series None = (a b : Single) (t : ℤ) → Recurs series a → Recurs series b → a.slot ≢ b.slot → HaveInstant a.span b.span t → ⊥
IsSharedByItself series (Some p) = Recurs series p.0 × Recurs series p.1 × (p.0.slot ≢ p.1.slot) × Overlap p.0.span p.1.span

-- the two are of the series in a place: one of it and one of a series before it, or both of it
pub record IsFoundAt (all : List Recurring) (place : ℕ) (recurring : Recurring) (x : SharedInstant) : Type 0 where
  pub at : slice_get all place ≡ Some recurring
  pub found : AreBeside (Recurs recurring.series.now) (take place all) (Some x) ⊎ (IsSharedByItself recurring.series.now (Some (x.asked, x.booked)) × (x.other.now ≡ recurring.key.now))

-- each series from a place on is clear of those before it and by itself, or two instances are named
abbrev pub AreClearFrom : List Recurring → ℕ → Option SharedInstant → Type 0
AreClearFrom all from None = (place : ℕ) (r : Recurring) → from ≤ place → slice_get all place ≡ Some r
    → AreBeside (Recurs r.series.now) (take place all) None × IsSharedByItself r.series.now None
AreClearFrom all from (Some x) = (place : ℕ) × (r : Recurring) × (from ≤ place) × IsFoundAt all place r x

-- all of these series, each of which may occur more than once
abbrev pub AreAllOf : List Whole → List Recurring → Type 0
AreAllOf series all = (one : Whole) → Contains series one ↔ Contains (map recurring_said all) one

-- each series from a place on, which are these, is clear of all before it, by itself, and of these singles; or two instances are named
abbrev pub AreNewClear : List Instance → List Recurring → ℕ → List Series → Option SharedInstant → Type 0
AreNewClear singles all from wanted None = (wanted ≢ [] → AreClearFrom all from None) × AreBusyIn singles (RecursIn wanted) None
AreNewClear singles all from wanted (Some x) = AreClearFrom all from (Some x) ⊎ AreBusyIn singles (RecursIn wanted) (Some x)

-- where what stays confirmed is clear, and all singles are, so is all with what is asked for; or two of all clash, where the instances of the
-- meeting are of one
abbrev pub AreClearBeside : Confirmed → MeetingKey → List Single → List Series → List Single → List Series → Option Clash → Type 0
AreClearBeside others key own kept singles wanted None =
    IsClearIn (joined others key own kept) → IsClear (Contains (others.singles ++ instance_list key (own ++ singles))) → IsClearIn (joined others key (own ++ singles) (kept ++ wanted))
AreClearBeside others key own kept singles wanted (Some clash) =
    AreOfOneMeeting (own ++ singles) (kept ++ wanted)
    → NamesClash (IsOneOf (joined others key (own ++ singles) (kept ++ wanted))) (owned_key_of clash.first) (owned_key_of clash.second) clash.instant
