-- The instances of a meeting that an object says in a room are those that its VEVENTs have on the clocks of the zones that a room reads in it.
-- Behind instances_are_on_clocks.
use Rattle.std.proofs.Common.{◌≡◌, ◌∙◌, ℕ, Bool, true, false, List, [], ◌∷◌, codes, subst, sym, refl, ap, inl, inr, ◌⊎◌, arith, ℤ, pos, ◌+ℤ◌, zero, filter, cond}
use Rattle.std.specs.Prelude.{◌↔◌, Option, Some, None, Contains, is_some, unwrap_or, not}
use Rattle.std.specs.Option.{option_to_list}
use Rattle.std.specs.List.{AllZip}
use Rattle.std.proofs.lemmas.Int.{ints}
use Rattle.std.proofs.lemmas.Bool.{true≢false, false≢true}
use Rattle.std.proofs.lemmas.Option.{same_Some}
use Rattle.profile.specs.text.Lines.{line_value, line_param}
use Rattle.profile.specs.text.Trees.{Tree, vevents}
use Rattle.profile.specs.checker.Instances.{Key, Instance}
use Rattle.profile.specs.series.Rules.{Rule, RuleText}
use Rattle.profile.specs.series.RuleTexts.{SpellsRule}
use Rattle.profile.specs.series.RoomZones.{IsRoomZone}
use Rattle.profile.specs.series.Zones.{Zone, IsOneMeaning, Means}
use Rattle.profile.specs.events.Properties.{Form, Fixed, Floating, WholeDay, BothOrNeither, Says, OccursAtMostOnce, IsMissing, lines_named, Length, length_seconds, LastsFor, IsAddressLine, IsUidLine}
use Rattle.profile.specs.events.ZonedTimes.{SaysZonedTime, SpellsForm, SaysInstant, clock_of, EventTimes, SaysEventTimes, SaysTimes, LastsSo, LastsUntil, length_alone}
use Rattle.profile.specs.events.EventRules.{GivesRule, GivesBeside, IsRuleText}
use Rattle.profile.specs.events.Confirmed.{alone}
use Rattle.profile.specs.events.EventComponents.{Method, Store, Request, Add, Cancel, Reply, Refresh, EventComponent, SaysEventComponent, may_lack_start, bars_recurrence}
use Rattle.profile.specs.events.Events.{Event, SaysEvent, is_master, is_override, taken_by}
use Rattle.profile.specs.events.Placed.{zone_in, IsPlaced, SaysPlaced}
use Rattle.profile.specs.events.Starts.{IsDaysLater, EndsAt, IsGiven, IsReplaced, key_at, IsOfMaster, IsOfOverride, IsInstance}
use Rattle.profile.specs.doors.OnClocks.{GivesRuleOn, IsRuleStartOn}
use Rattle.profile.specs.doors.InstancesOnClocks.{Clock, Read, MeansOn, IsClockInRoom, ClockTime, ListsOn, ReplacesOn, counted_by, StartOn, StartsOn, first, by_rule, added, LastsOn, until, lasting, neither, IsLaterOn, EndsOn, IsOfMasterOn, IsOfOverrideOn, HasKey, IsInstanceOn}
use Rattle.profile.proofs.ZoneClocks.{rule_there, rule_back}
use Rattle.ical_tree.proofs.OneLine.{the_line, only_line, at_one}
use Rattle.cal_events.proofs.shared_lemmas.OneTimes.{Lines, OneZonedTime, OneDuration, one_instant, dated, length_one, counted_same, clock_by}
use Rattle.cal_events.proofs.shared_lemmas.Placing.{no_zone}
use Rattle.cal_events.proofs.shared_lemmas.RoomClocks.{room_clock}
use Rattle.cal_events.proofs.shared_lemmas.InOneOrder.{in_filtered, of_filtered}
use Rattle.cal_events.proofs.shared_lemmas.SeriesLemmas.{zip_with, zip_back}
use Rattle.cal_events.proofs.shared_lemmas.OwnSingles.{alone_if, is_a_master}
use Rattle.cal_events.proofs.component_lemmas.Said.{same_said, said_by}
use Rattle.cal_events.proofs.component_lemmas.OneEvent.{uid_one, address_one}
use Rattle.cal_events.proofs.component_lemmas.OneEventRule.{OneRule, same_given}
use Rattle.cal_events.proofs.on_clocks_lemmas.TimesOnClocks.{zone_of_clock, clock_of_zone, read_back, lists_there, lists_back, replaces_there, replaces_back, missing_there, missing_back}

-- ---- what a VEVENT is on clocks, and in the room

pub record IsSame (room : Option Zone) (object : Tree) (lines : Lines) (placed : EventComponent) : Type 0 where
  pub whole : IsMissing (codes "RECURRENCE-ID") lines ↔ (placed.recurrence ≡ None)
  pub replaces : (u : ℤ) → ReplacesOn (IsClockInRoom object) room lines u ↔ (placed.recurrence ≡ Some u)
  pub excepted : (u : ℤ) → ListsOn (IsClockInRoom object) room (codes "EXDATE") lines u ↔ Contains placed.exceptions u
  pub key : (key : Key) → HasKey lines key ↔ ((key.organiser ≡ unwrap_or placed.organiser []) × (key.uid ≡ placed.uid))
  pub start : ClockTime
  pub clock : Clock
  pub counted : ℤ
  pub says : StartOn (IsClockInRoom object) room lines start clock counted
  pub at_start : (s : ClockTime) (c : Clock) (n : ℤ) → StartOn (IsClockInRoom object) room lines s c n → (u : ℤ) → MeansOn c s.local u ↔ (u ≡ placed.times.start)
  pub starts : (s : ClockTime) (c : Clock) (n : ℤ) → StartOn (IsClockInRoom object) room lines s c n → (u : ℤ)
      → StartsOn (IsClockInRoom object) room lines s c u ↔ (IsGiven placed.times placed.rule u ⊎ Contains placed.additions u)
  pub ends : (s : ClockTime) (c : Clock) (n : ℤ) → StartOn (IsClockInRoom object) room lines s c n → (u end : ℤ)
      → EndsOn (IsClockInRoom object) room lines s.form c n u end ↔ EndsAt placed.times u end

needed_or_not : {V : Type 0} (R : List ℕ → V → Type 0) (name : List ℕ) (needed : Bool) (lines : Lines) (v : Option V) → Says name needed R lines v → Says name false R lines v
needed_or_not R name needed lines v s = record { line = s.line; once = s.once; present = λ f. absurd (false≢true f); is = s.is }

same_uid : (lines : Lines) (a b : List ℕ) → Says (codes "UID") true IsUidLine lines (Some a) → Says (codes "UID") true IsUidLine lines (Some b) → a ≡ b
same_uid lines a b s t = same_Some a b (same_said IsUidLine (codes "UID") true lines (Some a) (Some b) uid_one s t)

module _ (one : OneZonedTime) (two : OneDuration) (rules : OneRule) (words : List ℕ) (room : Option Zone) (named : IsRoomZone words room) (object : Tree) (method : Option Method)
    (has_start : may_lack_start method ≡ false) where
  meaning : IsOneMeaning (clock_of room)
  meaning = (room_clock words room named).steady.meaning

  module _ (lines : Lines) (event placed : EventComponent) (says : SaysEventComponent object method lines event) (p : IsPlaced room event placed) where
    abbrev form : Form
    form = event.times.form

    abbrev zone : Option Zone
    zone = event.times.zone

    abbrev local : ℤ
    local = event.times.local

    -- the clocks of its starts in the room, and the event there
    abbrev shown : Option Zone
    shown = zone_in room event.times.form event.times.zone

    abbrev times_in : EventTimes
    times_in = record event.times { zone = zone_in room event.times.form event.times.zone; start = p.start }

    abbrev in_room : EventComponent
    in_room = record event {
      recurrence = p.recurrence;
      times = record event.times { zone = zone_in room event.times.form event.times.zone; start = p.start };
      additions = p.additions;
      exceptions = p.exceptions;
    }

    abbrev Named : List ℕ → Clock → Type 0
    Named = IsClockInRoom object

    said_times : SaysTimes (may_lack_start method) object lines event.times → SaysEventTimes object lines event.times
    said_times (inl t) = t
    said_times (inr (may, t)) = absurd (true≢false (sym may ∙ has_start))

    times : SaysEventTimes object lines event.times
    times = said_times says.times

    one_time : IsOneMeaning (clock_of event.times.zone)
    one_time = clock_by object lines event.times says.times

    shown_one : (f : Form) → IsOneMeaning (clock_of (zone_in room f event.times.zone))
    shown_one Fixed = one_time
    shown_one Floating = meaning
    shown_one WholeDay = meaning

    -- ---- DTSTART

    clock_there : (t : SaysEventTimes object lines event.times) → StartOn Named room lines (record { form = form; name = line_param (codes "TZID") t.line; local = local }) (Read (clock_of shown)) event.times.start
    clock_there t =
        let c = clock_of_zone room object form (line_param (codes "TZID") t.line) (line_value t.line) zone local t.says.1 in
        record {
          line = t.line;
          there = the_line (codes "DTSTART") lines t.line t.once;
          says = record { allowed = t.says.0; named = refl; spelled = c.0 };
          shown = c.1;
          counts = subst (λ k. MeansOn k local event.times.start) (sym c.2) t.means;
          in_dates = t.in_dates;
        }

    -- whatever is said of it
    record IsKnown (s : ClockTime) (c : Clock) (n : ℤ) : Type 0 where
      of_form : s.form ≡ event.times.form
      at : s.local ≡ event.times.local
      by : c ≡ Read (clock_of (zone_in room event.times.form event.times.zone))
      counted_so : counted_by s.form c ≡ Read (clock_of event.times.zone)
      from : n ≡ event.times.start

    known : (s : ClockTime) (c : Clock) (n : ℤ) → StartOn Named room lines s c n → IsKnown s c n
    known s c n k =
        let line : times.line ≡ k.line = same_Some times.line k.line (only_line (codes "DTSTART") lines (Some times.line) k.line times.once k.there) in
        let z = zone_of_clock room object s.form s.name (line_value k.line) s.local c k.says.spelled k.shown in
        let said : SaysZonedTime object k.line s.form z.0 s.local = (k.says.allowed, subst (λ m. SpellsForm object m (line_value k.line) s.form z.0 s.local) (sym k.says.named) z.1) in
        let here : SaysZonedTime object k.line form zone local = subst (λ l. SaysZonedTime object l form zone local) line times.says in
        let e = one object k.line (line_value k.line) s.form form z.0 zone s.local local said here in
        let counted : counted_by s.form c ≡ Read (clock_of zone) = z.3 ∙ ap (λ x. Read (clock_of x)) e.1 in
        let means : Means (clock_of zone) local n = subst (λ x. MeansOn x local n) counted (subst (λ l. MeansOn (counted_by s.form c) l n) e.2 k.counts) in
        record {
          of_form = e.0;
          at = e.2;
          by = z.2 ∙ ap (λ f. Read (clock_of (zone_in room f z.0))) e.0 ∙ ap (λ x. Read (clock_of (zone_in room form x))) e.1;
          counted_so = counted;
          from = one_time local n event.times.start means times.means;
        }

    -- what holds of the clocks and the local time that are known
    module _ (s : ClockTime) (c : Clock) (n : ℤ) (k : IsKnown s c n) where
      to_known : (P : ℤ → Clock → Clock → Type 0) → P s.local c (counted_by s.form c) → P event.times.local (Read (clock_of (zone_in room event.times.form event.times.zone))) (Read (clock_of event.times.zone))
      to_known P h = subst (λ x. P event.times.local (Read (clock_of shown)) x) k.counted_so (subst (λ x. P event.times.local x (counted_by s.form c)) k.by (subst (λ l. P l c (counted_by s.form c)) k.at h))

      of_known : (P : ℤ → Clock → Clock → Type 0) → P event.times.local (Read (clock_of (zone_in room event.times.form event.times.zone))) (Read (clock_of event.times.zone)) → P s.local c (counted_by s.form c)
      of_known P h = subst (λ l. P l c (counted_by s.form c)) (sym k.at) (subst (λ x. P event.times.local x (counted_by s.form c)) (sym k.by) (subst (λ x. P event.times.local (Read (clock_of shown)) x) (sym k.counted_so) h))

    -- ---- its starts

    start_means : Means (clock_of shown) local p.start
    start_means =
        read_back room object form (line_param (codes "TZID") times.line) (line_value times.line) zone local event.times.start p.start times.says.1 times.means p.starts

    start_only : (u : ℤ) → Means (clock_of shown) local u → u ≡ p.start
    start_only u m = shown_one form local u p.start m start_means

    -- the rule of the event, and the line that says it
    record HasRule (rule : Rule) : Type 0 where
      line : List ℕ
      text : RuleText
      there : Contains (lines_named (codes "RRULE") lines) line
      spelled : SpellsRule (line_value line) text
      gives : GivesRule (clock_of event.times.zone) event.times.local text rule

    gives_rule : BothOrNeither (GivesRule (clock_of event.times.zone) event.times.local) says.rule.text event.rule
    gives_rule = subst (λ ls. GivesBeside ls event.times says.rule.text event.rule) times.once says.rule.gives

    has_rule : (rule : Rule) → event.rule ≡ Some rule → HasRule rule
    has_rule rule e = go says.rule.spells.line says.rule.text event.rule says.rule.spells.once says.rule.spells.is gives_rule e
      where
        go : (line : Option (List ℕ)) (text : Option RuleText) (r : Option Rule) → OccursAtMostOnce (codes "RRULE") lines line → BothOrNeither IsRuleText line text
            → BothOrNeither (GivesRule (clock_of event.times.zone) event.times.local) text r → r ≡ Some rule → HasRule rule
        go line text None once is gives e = cc
        go line None (Some r) once is gives e = absurd gives
        go None (Some text) (Some r) once is gives e = absurd is
        go (Some line) (Some text) (Some r) once is gives e = record {
          line = line;
          text = text;
          there = the_line (codes "RRULE") lines line once;
          spelled = is;
          gives = subst (GivesRule (clock_of event.times.zone) event.times.local text) (same_Some r rule e) gives;
        }

    rule_given : (line : List ℕ) (text : RuleText) (rule : Rule) → Contains (lines_named (codes "RRULE") lines) line → SpellsRule (line_value line) text
        → GivesRule (clock_of event.times.zone) event.times.local text rule → event.rule ≡ Some rule
    rule_given line text rule there spelled gives =
        let f = said_by IsRuleText (λ _. Unit {0}) (codes "RRULE") false lines says.rule.text says.rule.spells (line, there, tt) in
        let g = subst (λ t. BothOrNeither (GivesRule (clock_of event.times.zone) event.times.local) t event.rule) f.2 gives_rule in
        both event.rule refl f.0 (subst (λ t. GivesRule (clock_of event.times.zone) event.times.local t rule) (rules (line_value line) text f.0 spelled f.1) gives) g
      where
        both : (r : Option Rule) → event.rule ≡ r → (t : RuleText) → GivesRule (clock_of event.times.zone) event.times.local t rule
            → BothOrNeither (GivesRule (clock_of event.times.zone) event.times.local) (Some t) r → event.rule ≡ Some rule
        both None e t h g = absurd g
        both (Some r) e t h g = e ∙ ap Some (same_given (clock_of event.times.zone) event.times.local one_time t r rule g h)

    first_given : (u : ℤ) → Means (clock_of shown) local u → (r : Option Rule) → event.rule ≡ r → IsGiven times_in r u
    first_given u m None e = start_only u m
    first_given u m (Some rule) e =
        let h = has_rule rule e in
        record {
          first = h.gives.day;
          second = h.gives.second;
          on = h.gives.on;
          day = h.gives.day;
          listed = h.gives.starts;
          means = subst (λ l. Means (clock_of shown) l u) h.gives.on.1 m;
        }

    starts_there : (s : ClockTime) (c : Clock) (n : ℤ) → IsKnown s c n → (u : ℤ) → StartsOn Named room lines s c u → IsGiven times_in event.rule u ⊎ Contains p.additions u
    starts_there s c n k u (first m) = inl (first_given u (to_known s c n k (λ l x y. MeansOn x l u) m) event.rule refl)
    starts_there s c n k u (by_rule line text rule there spelled gives h) =
        let g : GivesRule (clock_of zone) local text rule = rule_back (clock_of zone) local text rule (to_known s c n k (λ l x y. GivesRuleOn (MeansOn y) l text rule) gives) in
        let r : IsRuleStartOn (Means (clock_of shown)) local rule u = to_known s c n k (λ l x y. IsRuleStartOn (MeansOn x) l rule u) h in
        inl (subst (λ o. IsGiven times_in o u) (sym (rule_given line text rule there spelled g)) (
        record { first = r.first; second = r.second; on = r.on; day = r.day; listed = r.listed; means = r.means }
        ))
    starts_there s c n k u (added l) = inr (lists_there one room meaning object (codes "RDATE") lines event.written.additions p.additions u says.occurrences.adds.0 p.adds l)

    given_back : (s : ClockTime) (c : Clock) (n : ℤ) → IsKnown s c n → (u : ℤ) (r : Option Rule) → event.rule ≡ r → IsGiven times_in r u → StartsOn Named room lines s c u
    given_back s c n k u None e g = first (of_known s c n k (λ l x y. MeansOn x l u) (subst (Means (clock_of shown) local) (sym g) start_means))
    given_back s c n k u (Some rule) e g =
        let h = has_rule rule e in
        by_rule h.line h.text rule h.there h.spelled (of_known s c n k (λ l x y. GivesRuleOn (MeansOn y) l h.text rule) (rule_there (clock_of zone) local h.text rule h.gives))
        (of_known s c n k (λ l x y. IsRuleStartOn (MeansOn x) l rule u) (record { first = g.first; second = g.second; on = g.on; day = g.day; listed = g.listed; means = g.means }))

    starts_back : (s : ClockTime) (c : Clock) (n : ℤ) → IsKnown s c n → (u : ℤ) → IsGiven times_in event.rule u ⊎ Contains p.additions u → StartsOn Named room lines s c u
    starts_back s c n k u (inl g) = given_back s c n k u event.rule refl g
    starts_back s c n k u (inr there) = added (lists_back one room meaning object (codes "RDATE") lines event.written.additions p.additions u says.occurrences.adds.0 p.adds there)

    -- ---- its end

    abbrev start_at : ℤ
    start_at = event.times.start

    until_there : (line : List ℕ) (e d : Option (List ℕ)) → e ≡ Some line → LastsSo object event.times.form event.times.start e d event.times.length
        → LastsUntil object event.times.form event.times.start line event.times.length
    until_there line None d is lasts = cc
    until_there line (Some x) (Some y) is lasts = absurd lasts
    until_there line (Some x) None is lasts = subst (λ y. LastsUntil object event.times.form event.times.start y event.times.length) (same_Some x line is) lasts

    lasting_there : (line : List ℕ) (e d : Option (List ℕ)) → d ≡ Some line → LastsSo object event.times.form event.times.start e d event.times.length → LastsFor line event.times.length
    lasting_there line e None is lasts = cc
    lasting_there line (Some x) (Some y) is lasts = absurd lasts
    lasting_there line None (Some y) is lasts = subst (λ x. LastsFor x event.times.length) (same_Some y line is) lasts.0

    alone_there : (e d : Option (List ℕ)) → option_to_list e ≡ [] → option_to_list d ≡ [] → LastsSo object event.times.form event.times.start e d event.times.length
        → event.times.length ≡ length_alone event.times.form
    alone_there (Some x) d e f lasts = cc
    alone_there None (Some y) e f lasts = cc
    alone_there None None e f lasts = lasts

    length_there : (length : Length) → LastsOn Named lines form start_at length → length ≡ event.times.length
    length_there length (until line end c there said e by means counts) =
        let here = until_there line times.end_line times.duration_line (only_line (codes "DTEND") lines times.end_line line times.end_once there) times.lasts in
        let z = zone_of_clock None object end.form end.name (line_value line) end.local c said.spelled by in
        let as_it_is = no_zone object end.name (line_value line) end.form z.0 end.local z.1 in
        let means_so : Means (clock_of z.0) end.local (start_at +ℤ pos (length_seconds length)) =
        subst (λ x. Means (clock_of x) end.local (start_at +ℤ pos (length_seconds length))) as_it_is (subst (λ x. MeansOn x end.local (start_at +ℤ pos (length_seconds length))) z.2 means) in
        let spelled = subst (λ m. SpellsForm object m (line_value line) end.form z.0 end.local) (sym said.named) z.1 in
        let instant : SaysInstant object line end.form (start_at +ℤ pos (length_seconds length)) = (z.0, end.local, (said.allowed, spelled), means_so) in
        let same = one_instant one object line end.form form (start_at +ℤ pos (length_seconds length)) (start_at +ℤ pos (length_seconds event.times.length)) instant (dated true object line form _ here.1) in
        counted_same form length event.times.length counts here.0 (omega (arith, ints, same.1))
    length_there length (lasting line there lasts suits) =
        length_one two line length event.times.length lasts
        (lasting_there line times.end_line times.duration_line (only_line (codes "DURATION") lines times.duration_line line times.duration_once there) times.lasts)
    length_there length (neither no_end no_duration is) =
        is ∙ sym (alone_there times.end_line times.duration_line (sym times.end_once ∙ no_end) (sym times.duration_once ∙ no_duration) times.lasts)

    length_back : LastsOn Named lines form start_at event.times.length
    length_back = go times.end_line times.duration_line times.end_once times.duration_once times.lasts
      where
        go : (e d : Option (List ℕ)) → OccursAtMostOnce (codes "DTEND") lines e → OccursAtMostOnce (codes "DURATION") lines d
            → LastsSo object event.times.form event.times.start e d event.times.length → LastsOn Named lines form start_at event.times.length
        go None None no_end no_duration lasts = neither no_end no_duration lasts
        go (Some x) (Some y) ends lasts_for lasts = absurd lasts
        go None (Some y) ends once lasts = lasting y (the_line (codes "DURATION") lines y once) lasts.0 lasts.1
        go (Some x) None once no_duration (counts, (z, l, said, means, dates)) =
            let c = clock_of_zone None object form (line_param (codes "TZID") x) (line_value x) z l said.1 in
            let as_it_is = no_zone object (line_param (codes "TZID") x) (line_value x) form z l said.1 in
            until x (record { form = form; name = line_param (codes "TZID") x; local = l }) (Read (clock_of (zone_in None form z))) (the_line (codes "DTEND") lines x once)
            (record { allowed = said.0; named = refl; spelled = c.0 }) refl c.1
            (subst (λ y. Means (clock_of y) l (start_at +ℤ pos (length_seconds event.times.length))) (sym as_it_is) means) counts

    later_there : (f : Form) (days : ℕ) (u later : ℤ) → IsLaterOn f (Read (clock_of (zone_in room f event.times.zone))) room days u later
        → IsDaysLater f (clock_of (zone_in room f event.times.zone)) days u later
    later_there Fixed days u later h = h
    later_there Floating days u later h = h
    later_there WholeDay days u later h = h

    later_back : (f : Form) (days : ℕ) (u later : ℤ) → IsDaysLater f (clock_of (zone_in room f event.times.zone)) days u later
        → IsLaterOn f (Read (clock_of (zone_in room f event.times.zone))) room days u later
    later_back Fixed days u later h = h
    later_back Floating days u later h = h
    later_back WholeDay days u later h = h

    ends_there : (s : ClockTime) (c : Clock) (n : ℤ) → IsKnown s c n → (u end : ℤ) → EndsOn Named room lines s.form c n u end → EndsAt times_in u end
    ends_there s c n k u end h =
        let here : EndsOn Named room lines form (Read (clock_of shown)) start_at u end =
        subst (λ x. EndsOn Named room lines form (Read (clock_of shown)) x u end) k.from
        (subst (λ x. EndsOn Named room lines form x n u end) k.by (subst (λ f. EndsOn Named room lines f c n u end) k.of_form h)) in
        let same = length_there here.length here.lasts in (
          here.later,
          subst (λ (l : Length). IsDaysLater form (clock_of shown) l.days u here.later) same (later_there form here.length.days u here.later here.days),
          subst (λ (l : Length). end ≡ here.later +ℤ pos l.seconds) same here.seconds,
        )

    ends_back : (s : ClockTime) (c : Clock) (n : ℤ) → IsKnown s c n → (u end : ℤ) → EndsAt times_in u end → EndsOn Named room lines s.form c n u end
    ends_back s c n k u end (later, days, seconds) =
        let here : EndsOn Named room lines form (Read (clock_of shown)) start_at u end =
        record { length = event.times.length; lasts = length_back; later = later; days = later_back form event.times.length.days u later days; seconds = seconds } in
        subst (λ f. EndsOn Named room lines f c n u end) (sym k.of_form)
        (subst (λ x. EndsOn Named room lines form x n u end) (sym k.by) (subst (λ x. EndsOn Named room lines form (Read (clock_of shown)) x u end) (sym k.from) here))

    -- ---- together

    key_there : (key : Key) → HasKey lines key → (key.organiser ≡ unwrap_or event.organiser []) × (key.uid ≡ event.uid)
    key_there key h = (
      h.is ∙ ap (λ o. unwrap_or o []) (same_said IsAddressLine (codes "ORGANIZER") false lines h.organiser event.organiser address_one h.says_organiser (
          needed_or_not IsAddressLine (codes "ORGANIZER") _ lines event.organiser says.organiser
          )),
      same_uid lines key.uid event.uid h.uid says.uid,
    )

    key_back : (key : Key) → (key.organiser ≡ unwrap_or event.organiser []) × (key.uid ≡ event.uid) → HasKey lines key
    key_back key (organiser, uid) = record {
      organiser = event.organiser;
      says_organiser = needed_or_not IsAddressLine (codes "ORGANIZER") _ lines event.organiser says.organiser;
      is = organiser;
      uid = subst (λ u. Says (codes "UID") true IsUidLine lines (Some u)) (sym uid) says.uid;
    }

    pub is_same : IsSame room object lines in_room
    is_same = record {
      whole = (
        missing_there one room meaning object lines event.written.recurrence p.recurrence says.occurrences.is p.slot,
        missing_back one room meaning object lines event.written.recurrence p.recurrence says.occurrences.is p.slot,
      );
      replaces = λ u. (
        replaces_there one room meaning object lines event.written.recurrence p.recurrence says.occurrences.is p.slot u,
        replaces_back one room meaning object lines event.written.recurrence p.recurrence says.occurrences.is p.slot u,
      );
      excepted = λ u. (
        lists_there one room meaning object (codes "EXDATE") lines event.written.exceptions p.exceptions u says.occurrences.takes.0 p.takes,
        lists_back one room meaning object (codes "EXDATE") lines event.written.exceptions p.exceptions u says.occurrences.takes.0 p.takes,
      );
      key = λ key. (key_there key, key_back key);
      start = record { form = form; name = line_param (codes "TZID") times.line; local = local };
      clock = Read (clock_of shown);
      counted = start_at;
      says = clock_there times;
      at_start = λ s c n k u. (
        λ m. start_only u (to_known s c n (known s c n k) (λ l x y. MeansOn x l u) m),
        λ e. of_known s c n (known s c n k) (λ l x y. MeansOn x l u) (subst (Means (clock_of shown) local) (sym e) start_means),
      );
      starts = λ s c n k u. (starts_there s c n (known s c n k) u, starts_back s c n (known s c n k) u);
      ends = λ s c n k u end. (ends_there s c n (known s c n k) u end, ends_back s c n (known s c n k) u end);
    }

  pub placed_same : (lines : Lines) (placed : EventComponent) → SaysPlaced room object method lines placed → IsSame room object lines placed
  placed_same lines placed (event, says, p) = subst (IsSame room object lines) (sym p.is) (is_same lines event placed says p)

-- ---- a meeting

the_option : {A : Type 0} (o : Option A) (x : A) → Contains (option_to_list o) x → o ≡ Some x
the_option None x (k, w, e) = absurd (omega (arith, w))
the_option (Some y) x there = ap Some (at_one y x there)

of_option : {A : Type 0} (o : Option A) (x : A) → o ≡ Some x → Contains (option_to_list o) x
of_option {A} o x e = subst (λ (y : Option A). Contains (option_to_list y) x) (sym e) (zero, omega arith, refl)

same_key : (a b : Key) → a.organiser ≡ b.organiser → a.uid ≡ b.uid → a.slot ≡ b.slot → a ≡ b
same_key a b o u s = λ i. record { organiser = o i; uid = u i; slot = s i }

replaces_some : (event : EventComponent) (u : ℤ) → event.recurrence ≡ Some u → is_override event ≡ true
replaces_some event u e = ap is_some e

master_none : (r : Option ℤ) → is_some r ≡ false → r ≡ None
master_none None e = refl
master_none (Some s) e = cc

module _ (room : Option Zone) (object : Tree) (events : List Lines) (said : List EventComponent) (R : Lines → EventComponent → Type 0) (all : AllZip R events said)
    (same : (lines : Lines) (placed : EventComponent) → R lines placed → IsSame room object lines placed) (meeting : Event)
    (master : filter is_master said ≡ option_to_list meeting.master) (overrides : filter is_override said ≡ meeting.overrides) where
  not_replaced_there : (u : ℤ) → ((other : Lines) → Contains events other → ReplacesOn (IsClockInRoom object) room other u → ⊥) → IsReplaced (Contains meeting.overrides) u → ⊥
  not_replaced_there u none r =
      let f = of_filtered is_override said r.override (subst (λ os. Contains os r.override) (sym overrides) r.among) in
      let b = zip_back R events said r.override all f.0 in
      none b.0 b.1 (((same b.0 r.override b.2).replaces u).1 r.is)

  not_replaced_back : (u : ℤ) → (IsReplaced (Contains meeting.overrides) u → ⊥) → (other : Lines) → Contains events other → ReplacesOn (IsClockInRoom object) room other u → ⊥
  not_replaced_back u none other there replaces =
      let b = zip_with R events said other all there in
      let e = ((same other b.0 b.2).replaces u).0 replaces in
      none (record { override = b.0; among = subst (λ os. Contains os b.0) overrides (in_filtered is_override said b.0 b.1 (replaces_some b.0 u e)); is = e })

  master_there : (i : Instance) (lines : Lines) (placed : EventComponent) → Contains said placed → IsSame room object lines placed → HasKey lines i.key
      → IsOfMasterOn (IsClockInRoom object) room events lines i → IsInstance meeting i
  master_there i lines placed there s key h =
      let none = s.whole.0 h.whole in
      let k = (s.key i.key).0 key in
      inl (record {
        master = placed;
        is = the_option meeting.master placed (subst (λ ms. Contains ms placed) master (in_filtered is_master said placed there (is_a_master placed none)));
        starts = record {
          given = (s.starts h.start h.clock h.counted h.says i.start).0 h.starts;
          in_dates = h.in_dates;
          not_excepted = λ c. h.not_excepted ((s.excepted i.start).1 c);
          not_replaced = not_replaced_there i.start h.not_replaced;
        };
        key = same_key i.key (key_at placed i.start) k.0 k.1 h.slot;
        ends = (s.ends h.start h.clock h.counted h.says i.start i.end).0 h.ends;
      })

  override_there : (i : Instance) (lines : Lines) (placed : EventComponent) → Contains said placed → IsSame room object lines placed → HasKey lines i.key
      → IsOfOverrideOn (IsClockInRoom object) room lines i → IsInstance meeting i
  override_there i lines placed there s key h =
      let e = (s.replaces i.key.slot).0 h.slot in
      let k = (s.key i.key).0 key in
      inr (record {
        override = placed;
        is = subst (λ os. Contains os placed) overrides (in_filtered is_override said placed there (replaces_some placed i.key.slot e));
        recurrence = e;
        key = same_key i.key (key_at placed i.key.slot) k.0 k.1 refl;
        starts = (s.at_start h.start h.clock h.counted h.says i.start).0 h.starts;
        ends = (s.ends h.start h.clock h.counted h.says i.start i.end).0 h.ends;
      })

  pub instance_there : (i : Instance) → IsInstanceOn (IsClockInRoom object) room events i → IsInstance meeting i
  instance_there i h =
      let b = zip_with R events said h.lines all h.among in
      let s = same h.lines b.0 b.2 in
      elim h.is [ inl m ↦ master_there i h.lines b.0 b.1 s h.key m | inr o ↦ override_there i h.lines b.0 b.1 s h.key o ]

  master_back : (i : Instance) → IsOfMaster meeting i → IsInstanceOn (IsClockInRoom object) room events i
  master_back i h =
      let f = of_filtered is_master said h.master (subst (λ ms. Contains ms h.master) (sym master) (of_option meeting.master h.master h.is)) in
      let b = zip_back R events said h.master all f.0 in
      let s = same b.0 h.master b.2 in
      record {
        lines = b.0;
        among = b.1;
        key = (s.key i.key).1 (ap (λ (k : Key). k.organiser) h.key, ap (λ (k : Key). k.uid) h.key);
        is = inl (record {
          whole = s.whole.1 (master_none h.master.recurrence (no_override (is_some h.master.recurrence) f.1));
          start = s.start;
          clock = s.clock;
          counted = s.counted;
          says = s.says;
          starts = (s.starts s.start s.clock s.counted s.says i.start).1 h.starts.given;
          in_dates = h.starts.in_dates;
          not_excepted = λ c. h.starts.not_excepted ((s.excepted i.start).0 c);
          not_replaced = not_replaced_back i.start h.starts.not_replaced;
          slot = ap (λ (k : Key). k.slot) h.key;
          ends = (s.ends s.start s.clock s.counted s.says i.start i.end).1 h.ends;
        });
      }
    where
      no_override : (b : Bool) → not b ≡ true → b ≡ false
      no_override true e = absurd (false≢true e)
      no_override false e = refl

  override_back : (i : Instance) → IsOfOverride meeting i → IsInstanceOn (IsClockInRoom object) room events i
  override_back i h =
      let f = of_filtered is_override said h.override (subst (λ os. Contains os h.override) (sym overrides) h.is) in
      let b = zip_back R events said h.override all f.0 in
      let s = same b.0 h.override b.2 in
      record {
        lines = b.0;
        among = b.1;
        key = (s.key i.key).1 (ap (λ (k : Key). k.organiser) h.key, ap (λ (k : Key). k.uid) h.key);
        is = inr (record {
          slot = (s.replaces i.key.slot).1 h.recurrence;
          start = s.start;
          clock = s.clock;
          counted = s.counted;
          says = s.says;
          starts = (s.at_start s.start s.clock s.counted s.says i.start).1 h.starts;
          ends = (s.ends s.start s.clock s.counted s.says i.start i.end).1 h.ends;
        });
      }

  pub instance_back : (i : Instance) → IsInstance meeting i → IsInstanceOn (IsClockInRoom object) room events i
  instance_back i (inl h) = master_back i h
  instance_back i (inr h) = override_back i h

-- METHOD takes its VEVENTs as they are
taken_so : (method : Option Method) → bars_recurrence method ≡ false → (events : List EventComponent) → taken_by method events ≡ events
taken_so None bars events = refl
taken_so (Some Store) bars events = refl
taken_so (Some Request) bars events = refl
taken_so (Some Add) bars events = absurd (true≢false bars)
taken_so (Some Cancel) bars events = refl
taken_so (Some Reply) bars events = refl
taken_so (Some Refresh) bars events = refl

pub meeting_on_clocks : OneZonedTime → OneDuration → OneRule → (words : List ℕ) (room : Option Zone) (object : Tree) (method : Option Method) (meeting : Event) (i : Instance) → IsRoomZone words room
    → may_lack_start method ≡ false → bars_recurrence method ≡ false → SaysEvent room object method meeting
    → IsInstance meeting i ↔ IsInstanceOn (IsClockInRoom object) room (vevents object) i
meeting_on_clocks one two rules words room object method meeting i named has_start bars says =
    let taken = taken_so method bars says.events in
    let master = subst (λ es. filter is_master es ≡ option_to_list meeting.master) taken says.master in
    let overrides = subst (λ es. filter is_override es ≡ meeting.overrides) taken says.overrides in
    let same = placed_same one two rules words room named object method has_start in (
      instance_back room object (vevents object) says.events (SaysPlaced room object method) says.says same meeting master overrides i,
      instance_there room object (vevents object) says.events (SaysPlaced room object method) says.says same meeting master overrides i,
    )

-- ---- a VEVENT by itself

-- as a meeting its event is the one master, or the one override
masters_alone : (event : EventComponent) (b : Bool) → cond (not b) (event ∷ []) [] ≡ option_to_list (alone_if b event).master
masters_alone event true = refl
masters_alone event false = refl

overrides_alone : (event : EventComponent) (b : Bool) → cond b (event ∷ []) [] ≡ (alone_if b event).overrides
overrides_alone event true = refl
overrides_alone event false = refl

pub alone_on_clocks : OneZonedTime → OneDuration → OneRule → (words : List ℕ) (room : Option Zone) (object : Tree) (method : Option Method) (lines : Lines) (event : EventComponent) (i : Instance)
    → IsRoomZone words room → may_lack_start method ≡ false → SaysPlaced room object method lines event
    → IsInstance (alone event) i ↔ IsInstanceOn (IsClockInRoom object) room (lines ∷ []) i
alone_on_clocks one two rules words room object method lines event i named has_start says =
    let same = placed_same one two rules words room named object method has_start in
    let master = masters_alone event (is_override event) in
    let overrides = overrides_alone event (is_override event) in (
      instance_back room object (lines ∷ []) (event ∷ []) (SaysPlaced room object method) (says, tt) same (alone event) master overrides i,
      instance_there room object (lines ∷ []) (event ∷ []) (SaysPlaced room object method) (says, tt) same (alone event) master overrides i,
    )
