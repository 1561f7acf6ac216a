-- Each start that a room makes of a VEVENT is one that its lines let it have on the clocks of its zone. For `starts_are_known`.
use Rattle.std.proofs.Common.{◌≡◌, ◌∙◌, sym, refl, subst, arith, inl, inr, ℕ, ◌==◌, false, List, [], ◌∷◌, Option, Some, None, ℤ, pos}
use Rattle.std.specs.Prelude.{◌⊎◌, Contains, All, codes, unsigned_abs}
use Rattle.std.specs.List.{AllZip, slice_split}
use Rattle.std.proofs.lemmas.Int.{ints}
use Rattle.std.proofs.lemmas.List.Elements.{All-contains, All-contains_itself, All-nil, All-head, All-tail, All-cons, Contains-push}
use Rattle.profile.specs.text.Lines.{line_value, line_param}
use Rattle.profile.specs.text.Trees.{Tree}
use Rattle.profile.specs.text.Values.{SpellsStamp, WritesOffset, IsOffset}
use Rattle.profile.specs.series.RoomZones.{IsRoomZone}
use Rattle.profile.specs.series.Rules.{Rule, RuleText}
use Rattle.profile.specs.series.RuleTexts.{SpellsRule}
use Rattle.profile.specs.series.Zones.{Zone, Constant, Means, local_time}
use Rattle.profile.specs.events.Properties.{Form, Fixed, Floating, WholeDay, Says, BothOrNeither, OccursAtMostOnce, lines_named}
use Rattle.profile.specs.events.ZonedTimes.{SaysEventTimes, clock_of, zone_named, SaysZoneOf, SpellsForm}
use Rattle.profile.specs.events.EventRules.{GivesRule, SaysEventRule, GivesBeside, IsRuleText}
use Rattle.profile.specs.events.Occurrences.{Time, ListedTime, IsListed, entries_named}
use Rattle.profile.specs.events.EventComponents.{EventComponent, Method, SaysEventComponent}
use Rattle.profile.specs.events.Placed.{IsAt, IsInstantIn, IsPlaced, zone_in}
use Rattle.profile.specs.events.Starts.{IsGiven}
use Rattle.profile.specs.doors.OnClocks.{IsRuleStartOn, MayStart, by_rule, added, added_local}
use Rattle.profile.specs.doors.OnClocks as clocks
use Rattle.cal_doors.proofs.LawClocks.{AreNear}
use Rattle.profile.proofs.ZoneClocks.{rule_there}
use Rattle.profile.proofs.ListedTimes.{IsEntryOf, entries_among}
use Rattle.cal_doors.proofs.LawOffsets.{second_bound, IsZoneShort, short_near, zone_near}

-- ---- the times of RDATE

-- what holds of each entry as it is read in a room holds of all instants
each_read : (P : ListedTime → Type 0) (R : ℤ → Type 0) (room : Option Zone) (object : Tree)
    → ((entry : ListedTime) (time : Time) (t : ℤ) → P entry → IsListed object (codes "RDATE") entry time → IsAt room time t → R t)
    → (entries : List ListedTime) (times : List Time) (instants : List ℤ) → All P entries → AllZip (IsListed object (codes "RDATE")) entries times → AllZip (IsAt room) times instants → All R instants
each_read P R room object one entries [] [] all listed at = All-nil R
each_read P R room object one entries [] (t ∷ instants) all listed at = absurd at
each_read P R room object one entries (time ∷ times) [] all listed at = absurd at
each_read P R room object one [] (time ∷ times) (t ∷ instants) all listed at = absurd listed
each_read P R room object one (entry ∷ entries) (time ∷ times) (t ∷ instants) all listed at =
    All-cons R t instants (one entry time t (All-head P entry entries all) listed.0 at.0)
    (each_read P R room object one entries times instants (All-tail P entry entries all) listed.1 at.1)

-- UTC is a clock that shows each instant as it is
pub in_utc : (local t : ℤ) → Means (Constant (pos 0)) local t → local ≡ t
in_utc local t (inl h) = let s = h.shown in let e = s.2 in let o : s.0 ≡ pos 0 = s.1 in omega (arith, ints, e, o)
in_utc local t (inr h) = absurd h.listed

-- ---- the clocks of a room

written_short : (text : List ℕ) (offset : ℤ) → WritesOffset text offset → IsOffset offset
written_short text offset (time, s, e) = second_bound time (unsigned_abs offset) s

pub room_short : (words : List ℕ) (room : Option Zone) → IsRoomZone words room → IsZoneShort (clock_of room)
room_short words None is = omega arith
room_short words (Some zone) (inl (offset, some, written, e)) = subst IsZoneShort (sym e) (written_short words offset written)
room_short words (Some zone) (inr h) =
    let s = written_short h.standard_text h.standard h.writes_standard in
    let d = written_short h.daylight_text h.daylight h.writes_daylight in
    subst IsZoneShort (sym h.zone_is) (
      (subst IsOffset (sym h.begins_standard.offset_from) d, subst IsOffset (sym h.begins_standard.offset_to) s),
      (subst IsOffset (sym h.begins_daylight.offset_from) s, subst IsOffset (sym h.begins_daylight.offset_to) d),
    )

-- ---- the starts of a VEVENT in a room

near_of : (part : Option Tree) (z : Zone) → SaysZoneOf part z → AreNear (Means z)
near_of None z says = absurd says
near_of (Some part) z says = zone_near part z says

module _ (room : Option Zone) (near_room : AreNear (Means (clock_of room))) (object : Tree) (M : ℤ → ℤ → Type 0) (lines : List (List ℕ)) (local : ℤ) where
  -- a time of RDATE, by its form
  by_form : (form : Form) (line text : List ℕ) (zone : Option Zone) (name : Option (List ℕ)) (at instant t : ℤ) → Contains (lines_named (codes "RDATE") lines) line
      → Contains (slice_split (λ c. c == 44) (line_value line)) text → SpellsForm object name text form zone at → Means (clock_of zone) at instant
      → IsInstantIn room form instant t → MayStart M lines local t
  by_form Fixed line text None None at instant t there among spelled means read =
      added line there (text, among, subst (SpellsStamp text) (in_utc at instant means ∙ sym read) spelled)
  by_form Fixed line text (Some zone) (Some name) at instant t there among (spelled, says) means read =
      let n = (near_of (zone_named name object) zone says).earlier at instant means in
      added_local line at there (text, among, inl spelled) (omega (arith, ints, n, read))
  by_form Fixed line text None (Some name) at instant t there among spelled means read = absurd spelled
  by_form Fixed line text (Some zone) None at instant t there among spelled means read = absurd spelled
  by_form Floating line text clock name at instant t there among (no_name, no_zone, spelled) means read =
      let e = in_utc at instant (subst (λ z. Means (clock_of z) at instant) no_zone means) in
      let n = near_room.earlier instant t read in
      added_local line at there (text, among, inl spelled) (omega (arith, ints, n, e))
  by_form WholeDay line text clock name at instant t there among (no_name, no_zone, spelled) means read =
      let e = in_utc at instant (subst (λ z. Means (clock_of z) at instant) no_zone means) in
      let n = near_room.earlier instant t read in
      added_local line at there (text, among, inr spelled) (omega (arith, ints, n, e))

  by_date : (times : List Time) (instants : List ℤ) (t : ℤ) → AllZip (IsListed object (codes "RDATE")) (entries_named (codes "RDATE") lines) times → AllZip (IsAt room) times instants
      → Contains instants t → MayStart M lines local t
  by_date times instants t listed at there =
      All-contains (MayStart M lines local) instants t
      (each_read (IsEntryOf (Contains (lines_named (codes "RDATE") lines))) (MayStart M lines local) room object
      (λ entry time i of is read. by_form time.form entry.0 entry.1 is.1.0 (line_param (codes "TZID") entry.0) is.1.1 time.instant i of.0 of.1 is.1.2.1 is.1.3 read)
      (entries_named (codes "RDATE") lines) times instants
      (entries_among (Contains (lines_named (codes "RDATE") lines)) (lines_named (codes "RDATE") lines) (All-contains_itself (lines_named (codes "RDATE") lines))) listed at) there

-- its rule, whose text a line spells
spelled_by : (lines : List (List ℕ)) (text : RuleText) → Says (codes "RRULE") false IsRuleText lines (Some text)
    → (line : List ℕ) × Contains (lines_named (codes "RRULE") lines) line × SpellsRule (line_value line) text
spelled_by lines text says = by says.line says.once says.is
  where
    by : (line : Option (List ℕ)) → OccursAtMostOnce (codes "RRULE") lines line → BothOrNeither IsRuleText line (Some text)
        → (line : List ℕ) × Contains (lines_named (codes "RRULE") lines) line × SpellsRule (line_value line) text
    by None once is = absurd is
    by (Some line) once is = (line, subst (λ ls. Contains ls line) (sym once) (Contains-push [] line), is)

rule_said : (lines : List (List ℕ)) (z : Zone) (local : ℤ) (text : Option RuleText) (rule : Rule) → Says (codes "RRULE") false IsRuleText lines text
    → BothOrNeither (GivesRule z local) text (Some rule) → (t : ℤ) → IsRuleStartOn (Means z) local rule t → MayStart (Means z) lines local t
rule_said lines z local None rule says gives t h = absurd gives
rule_said lines z local (Some text) rule says gives t h =
    let l = spelled_by lines text says in
    by_rule l.0 text rule l.1 l.2 (rule_there z local text rule gives) h

zone_same : (room : Option Zone) (form : Form) (zone : Option Zone) → form ≡ Fixed → zone_in room form zone ≡ zone
zone_same room form zone e = subst (λ f. zone_in room f zone ≡ zone) (sym e) refl

start_same : (room : Option Zone) (form : Form) (start t : ℤ) → form ≡ Fixed → IsInstantIn room form start t → t ≡ start
start_same room form start t e is = subst (λ f. IsInstantIn room f start t) e is

module _ (words : List ℕ) (room : Option Zone) (is_room : IsRoomZone words room) (object : Tree) (method : Option Method) (lines : List (List ℕ)) (event placed : EventComponent)
    (says : SaysEventComponent object method lines event) (times : SaysEventTimes object lines event.times) (fixed : event.times.form ≡ Fixed) (p : IsPlaced room event placed) where
  given : (rule : Option Rule) (t : ℤ) → SaysEventRule lines event.times rule
      → IsGiven (record event.times { zone = zone_in room event.times.form event.times.zone; start = p.start }) rule t → MayStart (Means (clock_of event.times.zone)) lines event.times.local t
  given None t r h =
      clocks.first (subst (Means (clock_of event.times.zone) event.times.local) (sym (h ∙ start_same room event.times.form event.times.start p.start fixed p.starts)) times.means)
  given (Some rule) t r h =
      rule_said lines (clock_of event.times.zone) event.times.local r.text rule r.spells (subst (λ ls. GivesBeside ls event.times r.text (Some rule)) times.once r.gives) t (record {
        first = h.first;
        second = h.second;
        on = h.on;
        day = h.day;
        listed = h.listed;
        means = subst (λ z. Means (clock_of z) (local_time h.day h.second) t) (zone_same room event.times.form event.times.zone fixed) h.means;
      })

  pub may_start : (t : ℤ) → IsGiven placed.times placed.rule t ⊎ Contains placed.additions t → MayStart (Means (clock_of event.times.zone)) lines event.times.local t
  may_start t h =
      elim (subst (λ (x : EventComponent). IsGiven x.times x.rule t ⊎ Contains x.additions t) p.is h) [
        | inl g ↦ given event.rule t says.rule g
        | inr there ↦ by_date room (short_near (clock_of room) (room_short words room is_room)) object (Means (clock_of event.times.zone)) lines event.times.local event.written.additions p.additions t says.occurrences.adds.0 p.adds there
      ]
