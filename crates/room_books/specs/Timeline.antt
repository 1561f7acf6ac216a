-- What is confirmed in a room, in order of time, by the places of meetings.
use Rattle.std.specs.Prelude.{◌≡◌, ◌≢◌, ◌≤◌, ℕ, ℤ, ◌<ℤ◌, ◌≤ℤ◌, int_lt, Bool, false, not, ◌==◌, ◌&&◌, ◌||◌, List, ◌++◌, length, take, drop, Contains, AllPairs, Option, Some, None}
use Rattle.std.specs.Ordering.{int_eq}
use Rattle.std.specs.List.{list_any}
use Rattle.profile.specs.checker.Instances.{horizon}
use Rattle.cal_events.specs.declared.sweep.Span.{Span}
use Rattle.cal_events.specs.declared.instance.Single.{Single}
use Rattle.room_books.specs.declared.timeline.Busy.{Busy}
use Rattle.room_books.specs.Gone.{HaveInstant, AreSeparate, Overlap}

-- the span holds an instant before the horizon
abbrev pub HoldsInstants : Span → Type 0
HoldsInstants span = (span.start <ℤ span.end) × (span.start <ℤ horizon)

abbrev pub holds_instants : Span → Bool
holds_instants span = int_lt span.start span.end && int_lt span.start horizon

-- the same original start, and the same span
abbrev pub same_single : Single → Single → Bool
same_single a b = int_eq a.slot b.slot && (int_eq a.span.start b.span.start && int_eq a.span.end b.span.end)

abbrev pub has_single : Single → List Single → Bool
has_single single singles = list_any (same_single single) singles

abbrev pub same_busy : Busy → Busy → Bool
same_busy a b = same_single a.single b.single && (a.place == b.place)

abbrev pub has_busy : Busy → List Busy → Bool
has_busy busy items = list_any (same_busy busy) items

-- an instance of the meeting in a place
abbrev pub busy_in : ℕ → Single → Busy
busy_in place single = record { single = single; place = place }

-- all hold an instant, and each ends before the later ones start
pub record AreBusy (items : List Busy) : Type 0 where
  pub hold : (b : Busy) → Contains items b → HoldsInstants b.single.span
  pub apart : AllPairs (λ b c. b.single.span.end ≤ℤ c.single.span.start) items

-- those before the place end by the instant, the others after it
pub record IsPlaceAfter (items : List Busy) (instant : ℤ) (place : ℕ) : Type 0 where
  pub within : place ≤ length items
  pub before : (b : Busy) → Contains (take place items) b → b.single.span.end ≤ℤ instant
  pub after : (b : Busy) → Contains (drop place items) b → instant <ℤ b.single.span.end

-- the place is `own`
abbrev pub is_own_place : Option ℕ → ℕ → Bool
is_own_place None place = false
is_own_place (Some own) place = own == place

-- it is of the meeting in the place `own`, and one of these that are gone
abbrev pub is_leaving : Option ℕ → List Single → Busy → Bool
is_leaving own gone b = is_own_place own b.place && has_single b.single gone

abbrev pub stays : (Busy → Bool) → Busy → Bool
stays leaves b = not (leaves b)

abbrev pub starts_before : ℤ → Busy → Bool
starts_before end b = int_lt b.single.span.start end

-- one that doesn't leave shares an instant with the span, or none does
abbrev pub IsSharedIn : (Busy → Bool) → List Busy → Span → Option Busy → Type 0
IsSharedIn leaves items span None = (b : Busy) (t : ℤ) → Contains items b → leaves b ≡ false → HaveInstant span b.single.span t → ⊥
IsSharedIn leaves items span (Some b) = Contains items b × (leaves b ≡ false) × Overlap span b.single.span

-- one that doesn't leave shares an instant with one of these, or none does
abbrev pub AreTaken : (Busy → Bool) → List Busy → (Single → Type 0) → Option (Single × Busy) → Type 0
AreTaken leaves items wanted None = (s : Single) → wanted s → IsSharedIn leaves items s.span None
AreTaken leaves items wanted (Some p) = wanted p.0 × IsSharedIn leaves items p.0.span (Some p.1)

-- none of these shares an instant with the span
abbrev pub IsFreeAmong : List Busy → Span → Type 0
IsFreeAmong items span = (b : Busy) (t : ℤ) → Contains items b → HaveInstant span b.single.span t → ⊥

-- none of these, those in the place aside, does
abbrev pub IsFreeBut : ℕ → List Busy → Span → Type 0
IsFreeBut place items span = (b : Busy) (t : ℤ) → Contains items b → b.place ≢ place → HaveInstant span b.single.span t → ⊥

-- of the meeting in the place exactly those of these are there that hold an instant
abbrev pub AreAt : ℕ → List Single → List Busy → Type 0
AreAt place singles items = (x : Busy) → x.place ≡ place → has_busy x items ≡ (holds_instants x.single.span && has_single x.single singles)

-- the meeting in the place confirms these now, and the others what they did
pub record IsChanged (place : ℕ) (singles : List Single) (old new : List Busy) : Type 0 where
  pub own : AreAt place singles new
  pub others : (x : Busy) → x.place ≢ place → has_busy x new ≡ has_busy x old

-- of what the meeting in the place confirms some goes, some is kept and some is added, which all others among these leave room for
pub record ShiftsTimeline (place : ℕ) (gone kept added : List Single) (items : List Busy) : Type 0 where
  pub held : AreAt place (gone ++ kept) items
  pub apart : AreSeparate (gone ++ kept)
  pub after : AreSeparate (kept ++ added)
  pub free : (s : Single) → Contains added s → IsFreeBut place items s.span

-- it is gone, and the others are there as before
abbrev pub IsTakenOut : Busy → List Busy → List Busy → Type 0
IsTakenOut x old new = (y : Busy) → has_busy y new ≡ (has_busy y old && not (same_busy y x))

-- it is there where it holds an instant, and the others are as before
abbrev pub IsPut : Busy → List Busy → List Busy → Type 0
IsPut x old new = (y : Busy) → has_busy y new ≡ (has_busy y old || (holds_instants y.single.span && same_busy y x))

-- what the meeting in each place confirms is there, where it holds an instant, and nothing else
pub record IsTimelineOf (at : ℕ → List Single) (items : List Busy) : Type 0 where
  pub held : (x : Busy) → has_busy x items ≡ (holds_instants x.single.span && has_single x.single (at x.place))
