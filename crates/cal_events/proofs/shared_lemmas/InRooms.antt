-- Events in rooms, as the crates above need them: what their instances don't depend on; that an event whose times are all fixed is the same in each
-- room; where its times lie there; and what is written.
-- Cited by EventComponent::instances_in of place, and above.
use Rattle.std.proofs.Common.{◌≡◌, ◌∙◌, ℕ, zero, suc, Bool, true, false, ◌&&◌, ◌||◌, List, [], ◌∷◌, map, filter, length, cond, codes, subst, sym, refl, ap, inl, inr, ◌⊎◌, arith, ℤ}
use Rattle.std.specs.Prelude.{Option, Some, None, Contains, MatchOption, option_map, is_some, unwrap_or, get_or}
use Rattle.std.specs.Option.{option_to_list}
use Rattle.std.specs.List.{AllZip, list_all, list_any}
use Rattle.std.proofs.lemmas.Bool.{true≢false, and_parts}
use Rattle.profile.specs.text.Trees.{Tree}
use Rattle.profile.specs.series.Zones.{Zone}
use Rattle.profile.specs.series.Rules.{Rule, RuleText}
use Rattle.profile.specs.series.RoomZones.{IsRoomZone}
use Rattle.profile.specs.checker.Instances.{Instance}
use Rattle.profile.specs.events.Properties.{Form, Fixed, Floating, WholeDay, is_fixed, is_of, lines_named, BothOrNeither}
use Rattle.profile.specs.events.Occurrences.{Time, WrittenTimes, recurs_as_instance}
use Rattle.profile.specs.events.ZonedTimes.{clock_of, EventTimes}
use Rattle.profile.specs.events.EventRules.{GivesBeside, GivesRule, IsRuleText}
use Rattle.profile.specs.events.EventComponents.{Method, Store, Request, Add, Cancel, Reply, Refresh, Attendee, EventComponent, SaysEventComponent, AreOfWritten, instants_of, bars_recurrence}
use Rattle.profile.specs.events.Events.{Event, as_added, start_written, taken_by}
use Rattle.profile.specs.events.Starts.{IsStart, IsInstance}
use Rattle.profile.specs.events.Confirmed.{alone, has_series, AreApart, IsOfSeries, IsByItsRule}
use Rattle.profile.specs.events.Placed.{IsInstantIn, IsAt, zone_in, IsPlaced, is_all_fixed}
use Rattle.cal_events.specs.InRoom.{AreInstancesIn, AreInstancesOf, unwritten}
use Rattle.cal_events.specs.MeetingComponents.{AreOfObject, IsInEventDates}
use Rattle.cal_events.specs.OwnInstances.{IsTimely, own_instance_at}
use Rattle.cal_events.specs.Said.{IsWritten}
use Rattle.cal_events.specs.Series.{IsSeriesOf, series_said}
use Rattle.cal_events.specs.declared.instance.Single.{Single}
use Rattle.cal_events.specs.declared.series.Series.{Series}
use Rattle.cal_events.proofs.shared_lemmas.InOneOrder.{none_in, later, of_mapped}
use Rattle.cal_events.proofs.shared_lemmas.OwnSingles.{of_both, master_alone, alone_master, override_alone, alone_override}
use Rattle.cal_events.proofs.shared_lemmas.Placing.{starts_there, slot_there, is_written}
use Rattle.cal_events.proofs.shared_lemmas.RoomClocks.{room_clock}

abbrev Lines : Type 0
Lines = List (List ℕ)

-- ---- its instances depend on neither SUMMARY nor who attends, nor on how its times are written

abbrev pub with_texts : EventComponent → WrittenTimes → List ℕ → List Attendee → EventComponent
with_texts event written summary attendees = record event { written = written; summary = summary; attendees = attendees }

start_so : (event : EventComponent) (w : WrittenTimes) (s : List ℕ) (a : List Attendee) (t : ℤ) → IsStart event [] t → IsStart (with_texts event w s a) [] t
start_so event w s a t h = record { given = h.given; in_dates = h.in_dates; not_excepted = h.not_excepted; not_replaced = h.not_replaced }

instance_so : (event : EventComponent) (w : WrittenTimes) (s : List ℕ) (a : List Attendee) (b : Instance) → IsInstance (alone event) b → IsInstance (alone (with_texts event w s a)) b
instance_so event w s a b h = go (of_both event)
  where
    go : (event.recurrence ≡ None) ⊎ ((slot : ℤ) × (event.recurrence ≡ Some slot)) → IsInstance (alone (with_texts event w s a)) b
    go (inl none) =
        let x = master_alone event b none h in
        alone_master (with_texts event w s a) b none (record { starts = start_so event w s a b.start x.starts; key = x.key; ends = x.ends })
    go (inr (slot, is)) =
        let x = override_alone event b slot is h in alone_override (with_texts event w s a) b slot is (record { slot = x.slot; key = x.key; starts = x.starts; ends = x.ends })

series_so : (event : EventComponent) (w : WrittenTimes) (s : List ℕ) (a : List Attendee) (b : Instance) → IsOfSeries event b → IsOfSeries (with_texts event w s a) b
series_so event w s a b h = record { master = h.master; rule = h.rule; has = h.has; starts = h.starts }

ruled_so : (event : EventComponent) (w : WrittenTimes) (s : List ℕ) (a : List Attendee) (series : Event) → IsByItsRule event (Contains event.exceptions) series
    → IsByItsRule (with_texts event w s a) (Contains event.exceptions) series
ruled_so event w s a series h = record { exceptions = h.exceptions; are = h.are; is = h.is }

module _ (event : EventComponent) (w : WrittenTimes) (s : List ℕ) (a : List Attendee) where
  abbrev other : EventComponent
  other = with_texts event w s a

  instance_back : (b : Instance) → IsInstance (alone other) b → IsInstance (alone event) b
  instance_back b h = instance_so other event.written event.summary event.attendees b h

  series_back : (b : Instance) → IsOfSeries other b → IsOfSeries event b
  series_back b h = record { master = h.master; rule = h.rule; has = h.has; starts = h.starts }

  apart_so : (all : List Instance) → AreApart event all → AreApart other all
  apart_so all h = record {
    each = λ k d l. let x = h.each k d l in (instance_so event w s a (get_or all k d) x.0, λ series. x.1 (series_back (get_or all k d) series));
    ordered = h.ordered;
    all = λ b is not. h.all b (instance_back b is) (λ series. not (series_so event w s a b series));
  }

  series_of_so : (series : Event) → IsSeriesOf event series → IsSeriesOf other series
  series_of_so series h = record {
    has = h.has;
    instances = λ b. (
      λ is. let x = (h.instances b).0 is in (instance_so event w s a b x.0, series_so event w s a b x.1),
      λ of. (h.instances b).1 (instance_back b of.0, series_back b of.1),
    );
    ruled = ruled_so event w s a series h.ruled;
  }

  given_so : (given : Option Series) → MatchOption given (has_series event ≡ false) (λ series. IsSeriesOf event (series_said series))
      → MatchOption given (has_series other ≡ false) (λ series. IsSeriesOf other (series_said series))
  given_so None h = h
  given_so (Some series) h = series_of_so (series_said series) h

  pub instances_of_so : (own : List Single) (given : Option Series) → AreInstancesOf event own given → AreInstancesOf other own given
  instances_of_so own given h = record { singles = apart_so (map (own_instance_at event) own) h.singles; series = given_so given h.series }

  pub timely_so : IsTimely event → IsTimely other
  timely_so h = record { steady = h.steady; starts = h.starts }

-- those of an event are those of the same with other texts
pub instances_of_back : (event : EventComponent) (w : WrittenTimes) (s : List ℕ) (a : List Attendee) (own : List Single) (given : Option Series) → AreInstancesOf (with_texts event w s a) own given
    → AreInstancesOf event own given
instances_of_back event w s a own given h = instances_of_so (with_texts event w s a) event.written event.summary event.attendees own given h

pub timely_back : (event : EventComponent) (w : WrittenTimes) (s : List ℕ) (a : List Attendee) → IsTimely (with_texts event w s a) → IsTimely event
timely_back event w s a h = record { steady = h.steady; starts = h.starts }

-- with another SUMMARY and other attendees, in a room
abbrev pub with_others : EventComponent → List ℕ → List Attendee → EventComponent
with_others event summary attendees = record event { summary = summary; attendees = attendees }

pub placed_others : (room : Option Zone) (event placed : EventComponent) (s : List ℕ) (a : List Attendee) → IsPlaced room event placed → IsPlaced room (with_others event s a) (with_others placed s a)
placed_others room event placed s a p = record {
  start = p.start;
  recurrence = p.recurrence;
  additions = p.additions;
  exceptions = p.exceptions;
  starts = p.starts;
  slot = p.slot;
  adds = p.adds;
  takes = p.takes;
  is = ap (λ (x : EventComponent). with_others x s a) p.is;
}

pub instances_in_others : (room : Option Zone) (event : EventComponent) (s : List ℕ) (a : List Attendee) (own : List Single) (given : Option Series) → AreInstancesIn room event own given
    → AreInstancesIn room (with_others event s a) own given
instances_in_others room event s a own given h = record {
  placed = with_others h.placed s a;
  is_placed = placed_others room event h.placed s a h.is_placed;
  timely = timely_so h.placed h.placed.written s a h.timely;
  are = instances_of_so h.placed h.placed.written s a own given h.are;
}

-- and without them
pub instances_in_plain : (room : Option Zone) (event : EventComponent) (s : List ℕ) (a : List Attendee) (own : List Single) (given : Option Series) → AreInstancesIn room (with_others event s a) own given
    → AreInstancesIn room event own given
instances_in_plain room event s a own given h = instances_in_others room (with_others event s a) event.summary event.attendees own given h

-- those of a copy without all that
pub instances_of_unwritten : (event : EventComponent) (own : List Single) (given : Option Series) → AreInstancesOf (unwritten event) own given → AreInstancesOf event own given
instances_of_unwritten event own given h = instances_of_back event (record { recurrence = None; additions = []; exceptions = [] }) [] [] own given h

-- ---- an event whose times are all fixed is as it is written in each room

fixed_instant : (room : Option Zone) (form : Form) (t : ℤ) → is_fixed form ≡ true → IsInstantIn room form t t
fixed_instant room Fixed t f = refl
fixed_instant room Floating t f = cc
fixed_instant room WholeDay t f = cc

fixed_zone : (room : Option Zone) (form : Form) (own : Option Zone) → is_fixed form ≡ true → zone_in room form own ≡ own
fixed_zone room Fixed own f = refl
fixed_zone room Floating own f = cc
fixed_zone room WholeDay own f = cc

fixed_slot : (room : Option Zone) (w : Option Time) → unwrap_or (option_map (λ t. is_fixed t.form) w) true ≡ true → BothOrNeither (IsAt room) w (option_map (λ time. time.instant) w)
fixed_slot room None f = tt
fixed_slot room (Some w) f = fixed_instant room w.form w.instant f

fixed_times : (room : Option Zone) (ws : List Time) → list_all (λ t. is_fixed t.form) ws ≡ true → AllZip (IsAt room) ws (instants_of ws)
fixed_times room [] f = tt
fixed_times room (w ∷ ws) f = let p = and_parts (is_fixed w.form) (list_all (λ t. is_fixed t.form) ws) f in (fixed_instant room w.form w.instant p.0, fixed_times room ws p.1)

pub fixed_placed : (room : Option Zone) (event : EventComponent) → is_all_fixed event ≡ true → AreOfWritten event.written event.recurrence event.additions event.exceptions → IsPlaced room event event
fixed_placed room event fixed are =
    let start = is_fixed event.times.form in
    let slot = unwrap_or (option_map (λ (t : Time). is_fixed t.form) event.written.recurrence) true in
    let adds = list_all (λ (t : Time). is_fixed t.form) event.written.additions in
    let takes = list_all (λ (t : Time). is_fixed t.form) event.written.exceptions in
    let outer = and_parts (start && slot && adds) takes fixed in
    let middle = and_parts (start && slot) adds outer.0 in
    let inner = and_parts start slot middle.0 in
    record {
      start = event.times.start;
      recurrence = event.recurrence;
      additions = event.additions;
      exceptions = event.exceptions;
      starts = fixed_instant room event.times.form event.times.start inner.0;
      slot = subst (BothOrNeither (IsAt room) event.written.recurrence) (sym are.slot) (fixed_slot room event.written.recurrence inner.1);
      adds = subst (AllZip (IsAt room) event.written.additions) (sym are.added) (fixed_times room event.written.additions middle.1);
      takes = subst (AllZip (IsAt room) event.written.exceptions) (sym are.taken) (fixed_times room event.written.exceptions outer.1);
      is = ap (λ (z : Option Zone). record event { times = record event.times { zone = z } }) (sym (fixed_zone room event.times.form event.times.zone inner.0));
    }

-- the instants of what an ADD takes are those written, too
pub added_of_written : (event : EventComponent) → AreOfWritten event.written event.recurrence event.additions event.exceptions
    → AreOfWritten (as_added event).written (as_added event).recurrence (as_added event).additions (as_added event).exceptions
added_of_written event are = record { slot = refl; added = are.added; taken = are.taken }

-- ---- where its times lie in a room

module _ (words : List ℕ) (room : Option Zone) (named : IsRoomZone words room) (object : Tree) (m : Option Method) (lines : Lines) (event : EventComponent) (says : SaysEventComponent object m lines event) where
  pub slot_in_dates : (slot : Option ℤ) (t : ℤ) → BothOrNeither (IsAt room) event.written.recurrence slot → slot ≡ Some t → IsInEventDates t
  slot_in_dates slot t both is = slot_there room (room_clock words room named) object says.occurrences.is.line event.written.recurrence slot t says.occurrences.is.is both is

  -- that of DTSTART
  pub start_in_dates : (t : ℤ) → IsAt room (start_written event) t → IsInEventDates t
  start_in_dates t at = starts_there room (room_clock words room named) object lines event.times t says.times at

-- ---- what an ADD says has no rule

none_of : (p q : List ℕ → Bool) (lines : Lines) → list_any (λ line. p line || q line) lines ≡ false → filter p lines ≡ []
none_of p q [] h = refl
none_of p q (line ∷ lines) h = go (p line) (q line) (none_of p q lines) h
  where
    go : (b c : Bool) → (list_any (λ line. p line || q line) lines ≡ false → filter p lines ≡ []) → (b || c || list_any (λ line. p line || q line) lines) ≡ false
        → cond b (line ∷ filter p lines) (filter p lines) ≡ []
    go true c rest h = absurd (true≢false h)
    go false true rest h = absurd (true≢false h)
    go false false rest h = rest h

text_none : (line : Option (List ℕ)) (text : Option RuleText) → option_to_list line ≡ [] → BothOrNeither IsRuleText line text → text ≡ None
text_none None None e h = refl
text_none None (Some t) e h = absurd h
text_none (Some l) text e h = let n = ap length e in absurd (omega (arith, n))

rule_none : (starts : Lines) (times : EventTimes) (text : Option RuleText) (rule : Option Rule) → text ≡ None → GivesBeside starts times text rule → rule ≡ None
rule_none [] times text rule e h = h
rule_none (s ∷ ss) times text rule e h = go rule (subst (λ (t : Option RuleText). BothOrNeither (GivesRule (clock_of times.zone) times.local) t rule) e h)
  where
    go : (r : Option Rule) → BothOrNeither (GivesRule (clock_of times.zone) times.local) None r → r ≡ None
    go None h = refl
    go (Some r) h = absurd h

module _ (object : Tree) (m : Option Method) (lines : Lines) (event : EventComponent) (says : SaysEventComponent object m lines event) (adds : bars_recurrence m ≡ true) where
  pub added_has_no_rule : event.rule ≡ None
  added_has_no_rule =
      let none : lines_named (codes "RRULE") lines ≡ [] =
      none_of (is_of (codes "RRULE")) (is_of (codes "RDATE")) lines (ap (λ (b : Bool). recurs_as_instance b lines) (sym adds) ∙ says.occurrences.alone) in
      let spells = says.rule.spells in
      rule_none (lines_named (codes "DTSTART") lines) event.times says.rule.text event.rule (text_none spells.line says.rule.text (sym spells.once ∙ none) spells.is) says.rule.gives

  -- and so it is written as the instance of its start, too
  pub added_is_written : IsWritten (as_added event)
  added_is_written = record {
    object = object;
    method = m;
    lines = lines;
    said = event;
    says = says;
    times = refl;
    rule = refl;
    additions = refl;
    exceptions = refl;
    slot = λ has. absurd (true≢false (sym has ∙ ap (λ (r : Option Rule). is_some r) added_has_no_rule));
  }

-- ---- what is written, also with another SUMMARY and other attendees

pub written_others : (event : EventComponent) (s : List ℕ) (a : List Attendee) → IsWritten event → IsWritten (with_others event s a)
written_others event s a w = record {
  object = w.object;
  method = w.method;
  lines = w.lines;
  said = w.said;
  says = w.says;
  times = w.times;
  rule = w.rule;
  additions = w.additions;
  exceptions = w.exceptions;
  slot = w.slot;
}

-- ---- what a method takes of an object

-- some VEVENT says the event, as the method takes it
pub record IsTakenFrom (object : Tree) (m : Option Method) (vs : List Lines) (event : EventComponent) : Type 0 where
  pub lines : Lines
  pub among : Contains vs lines
  pub said : EventComponent
  pub says : SaysEventComponent object m lines said
  pub is : (event ≡ said) ⊎ ((bars_recurrence m ≡ true) × (event ≡ as_added said))

as_said : (object : Tree) (m : Option Method) (vs : List Lines) (es : List EventComponent) → AllZip (SaysEventComponent object m) vs es → (event : EventComponent) → Contains es event
    → (lines : Lines) × Contains vs lines × SaysEventComponent object m lines event
as_said object m vs [] z event c = absurd (none_in event c)
as_said object m [] (e ∷ es) z event c = absurd z
as_said object m (v ∷ vs) (e ∷ es) z event (zero, l, is) = (v, (zero, omega arith, refl), subst (SaysEventComponent object m v) is z.0)
as_said object m (v ∷ vs) (e ∷ es) z event (suc k, l, is) = let r = as_said object m vs es z.1 event (k, omega (arith, l), is) in (r.0, later v r.0 vs r.1, r.2)

taken_said : (object : Tree) (m : Option Method) (vs : List Lines) (es : List EventComponent) → AllZip (SaysEventComponent object m) vs es → (event : EventComponent) → Contains es event → IsTakenFrom object m vs event
taken_said object m vs es z event c = let r = as_said object m vs es z event c in record { lines = r.0; among = r.1; said = event; says = r.2; is = inl refl }

taken_added : (object : Tree) (m : Option Method) (vs : List Lines) (es : List EventComponent) → bars_recurrence m ≡ true → AllZip (SaysEventComponent object m) vs es → (event : EventComponent) → Contains (map as_added es) event
    → IsTakenFrom object m vs event
taken_added object m vs es adds z event c =
    let e = of_mapped as_added es event c in
    let r = as_said object m vs es z e.0 e.1 in
    record { lines = r.0; among = r.1; said = e.0; says = r.2; is = inr (adds, sym e.2) }

taken_so : (object : Tree) (m : Option Method) (vs : List Lines) (es : List EventComponent) → AllZip (SaysEventComponent object m) vs es → (event : EventComponent) → Contains (taken_by m es) event → IsTakenFrom object m vs event
taken_so object None vs es z event c = taken_said object None vs es z event c
taken_so object (Some Store) vs es z event c = taken_said object (Some Store) vs es z event c
taken_so object (Some Request) vs es z event c = taken_said object (Some Request) vs es z event c
taken_so object (Some Add) vs es z event c = taken_added object (Some Add) vs es refl z event c
taken_so object (Some Cancel) vs es z event c = taken_said object (Some Cancel) vs es z event c
taken_so object (Some Reply) vs es z event c = taken_said object (Some Reply) vs es z event c
taken_so object (Some Refresh) vs es z event c = taken_said object (Some Refresh) vs es z event c

pub taken_from : (object : Tree) (m : Option Method) (vs : List Lines) (events : List EventComponent) → AreOfObject object m vs events → (event : EventComponent) → Contains events event → IsTakenFrom object m vs event
taken_from object m vs events h event c = taken_so object m vs h.said h.says event (subst (λ (l : List EventComponent). Contains l event) h.taken c)

module _ (object : Tree) (m : Option Method) (vs : List Lines) (event : EventComponent) (from : IsTakenFrom object m vs event) where
  pub taken_is_written : IsWritten event
  taken_is_written =
      elim from.is [
        | inl e ↦ subst IsWritten (sym e) (is_written object m from.lines from.said from.says)
        | inr (adds, e) ↦ subst IsWritten (sym e) (added_is_written object m from.lines from.said from.says adds)
      ]

  pub taken_of_written : AreOfWritten event.written event.recurrence event.additions event.exceptions
  taken_of_written =
      elim from.is [
        | inl e ↦ subst (λ (x : EventComponent). AreOfWritten x.written x.recurrence x.additions x.exceptions) (sym e) from.says.instants
        | inr (adds, e) ↦ subst (λ (x : EventComponent). AreOfWritten x.written x.recurrence x.additions x.exceptions) (sym e) (added_of_written from.said from.says.instants)
      ]

  module _ (words : List ℕ) (room : Option Zone) (named : IsRoomZone words room) where
    -- the instant that it is for, in a room of that room
    pub taken_slot_in_dates : (slot : Option ℤ) (t : ℤ) → BothOrNeither (IsAt room) event.written.recurrence slot → slot ≡ Some t → IsInEventDates t
    taken_slot_in_dates slot t both is = go from.is
      where
        go : (event ≡ from.said) ⊎ ((bars_recurrence m ≡ true) × (event ≡ as_added from.said)) → IsInEventDates t
        go (inl e) = slot_in_dates words room named object m from.lines from.said from.says slot t (subst (λ (x : EventComponent). BothOrNeither (IsAt room) x.written.recurrence slot) e both) is
        go (inr (adds, e)) =
            let there : BothOrNeither (IsAt room) (as_added from.said).written.recurrence (Some t) =
            subst (λ (s : Option ℤ). BothOrNeither (IsAt room) (as_added from.said).written.recurrence s) is (subst (λ (x : EventComponent). BothOrNeither (IsAt room) x.written.recurrence slot) e both) in
            start_in_dates words room named object m from.lines from.said from.says t there

    -- and that of its start
    pub taken_start_in_dates : (t : ℤ) → IsAt room (start_written event) t → IsInEventDates t
    taken_start_in_dates t at = go from.is
      where
        go : (event ≡ from.said) ⊎ ((bars_recurrence m ≡ true) × (event ≡ as_added from.said)) → IsInEventDates t
        go (inl e) = start_in_dates words room named object m from.lines from.said from.says t (subst (λ (x : EventComponent). IsAt room (start_written x) t) e at)
        go (inr (adds, e)) = start_in_dates words room named object m from.lines from.said from.says t (subst (λ (x : EventComponent). IsAt room (start_written x) t) e at)
