-- What an event that was read gives to a VEVENT that is written of it: when it is, and the lines that say it.
-- Behind refreshes_are_heard of law, replies_are_heard of law, requests_read_back of sent_law, shown_reads_back of sent_law, stored_texts_can_be_sent of sent_law.
use Rattle.std.proofs.Common.{◌≡◌, ◌∙◌, refl, sym, ap, subst, inl, inr, ℕ, zero, suc, ℤ, ◌+◌, ◌*◌, ◌≤◌, Bool, true, false, ◌||◌, ◌&&◌, cond, List, [], ◌∷◌, ◌++◌, length, codes, Option, Some, None, arith, lt-ltb}
use Rattle.std.specs.Prelude.{◌↔◌, filter, Contains, is_some, option_map}
use Rattle.std.specs.Option.{option_to_list}
use Rattle.std.specs.List.{list_all, list_any, flat_map, AllZip}
use Rattle.std.proofs.lemmas.Bool.{and_from, false≢true, true≢false, or_parts}
use Rattle.std.proofs.lemmas.List.Folds.{list_all-append}
use Rattle.profile.specs.text.Lines.{is_content, line_param, line_value}
use Rattle.profile.specs.text.Objects.{is_property}
use Rattle.profile.specs.text.Trees.{Tree}
use Rattle.profile.specs.text.Values.{duration_text}
use Rattle.profile.specs.events.EventComponents.{AreOfWritten, EventComponent, Method, Store, Request, Add, Cancel, Reply, Refresh, SaysEventComponent, bars_recurrence, may_lack_start, names_by_fixed}
use Rattle.profile.specs.events.Messages.{is_to_rooms}
use Rattle.profile.specs.events.Occurrences.{ListedTime, Time, WrittenTimes, IsInside, SaysOccurrences, entries_of, IsRecurrenceLine, entries_named, most_entries}
use Rattle.profile.specs.events.Properties.{Form, Fixed, Floating, WholeDay, Length, Says, BothOrNeither, is_of, lines_named, length_seconds, longest}
use Rattle.profile.specs.events.ZonedTimes.{EventTimes, LastsSo, SaysEventTimes, SaysTimes, SpellsForm, SpellsZoned, SuitsForm, IsInDates, IsInLocalDates, is_in_zone, clock_of}
use Rattle.profile.specs.series.Rules.{Rule, RuleText}
use Rattle.profile.specs.series.RuleTexts.{SpellsRule}
use Rattle.profile.specs.events.EventRules.{GivesRule, SaysEventRule}
use Rattle.profile.specs.rooms.Messages.{Content, IsContent, WritesListed, WritesRule, cancels, may_take}
use Rattle.profile.specs.series.Zones.{Zone, IsOneMeaning, Means}
use Rattle.cal_events.proofs.shared_lemmas.Meanings.{utc_instant}
use Rattle.cal_events.proofs.examples.SaidRules.{no_rule, rule_found}
use Rattle.ical_lines.proofs.CleanLines.{IsClean, is_shown, clean_shown, valued}
use Rattle.itip_messages.proofs.shared_lemmas.ContentLines.{uid_line, sequence_line, stamp_line}
use Rattle.itip_messages.proofs.shared_lemmas.ReplyLines.{AreOwn}
use Rattle.ical_values.proofs.Spans.{duration_written}
use Rattle.itip_messages.proofs.body_lemmas.TimeLists.{IsPlainStart, filter_short, rdate_name, exdate_name, times_content, times_none, times_properties}
use Rattle.itip_messages.proofs.shared_lemmas.RuleBack.{rule_back}
use Rattle.itip_messages.proofs.shared_lemmas.WrittenOctets.{duration_passes, early_shown, shown_digits}
use Rattle.itip_messages.proofs.body_lemmas.ZonePlaces.{AreNamed}
use Rattle.itip_messages.proofs.shared_lemmas.ZonedStarts.{IsPlainFor, IsUnzoned, start_content, start_property}
use Rattle.itip_messages.specs.SentLaw.{IsSameRule}
use Rattle.itip_messages.proofs.shared_lemmas.OwnLines.{IsAlone, SpellRule, SpellWhen, own_front, own_lines, when_lines}

abbrev Lines : Type 0
Lines = List (List ℕ)

-- ---- what is known of an event that was said

-- a text gives this rule to an event with these times, where there is one
abbrev pub IsRuled : EventTimes → Option Rule → Type 0
IsRuled times None = Unit {0}
IsRuled times (Some rule) = (value : List ℕ) × (text : RuleText) × SpellsRule value text × GivesRule (clock_of times.zone) times.local text rule

pub record EventFacts (event : EventComponent) (added : Bool) : Type 0 where
  pub unzoned : IsUnzoned event.times.form event.times.zone
  pub means : Means (clock_of event.times.zone) event.times.local event.times.start
  pub dated : IsInDates false event.times.form (is_some event.times.zone) event.times.local event.times.start
  pub suits : SuitsForm event.times.form event.times.length
  pub most : length_seconds event.times.length ≤ longest
  pub added_in : (time : Time) → Contains event.written.additions time → IsPlainStart time.form time.instant
  pub few_added : length event.written.additions ≤ most_entries
  pub few_taken : length event.written.exceptions ≤ most_entries
  -- an instance has no RDATE and no RRULE
  pub single : (added || is_some event.recurrence) ≡ true → event.written.additions ≡ []
  pub once : (added || is_some event.recurrence) ≡ true → event.rule ≡ None
  -- the rule is that of a text
  pub recurs : IsRuled event.times event.rule

zone_there : (object : Tree) (name : Option (List ℕ)) (text : List ℕ) (zone : Option Zone) (local : ℤ) → SpellsZoned object name text zone local → is_some name ≡ is_some zone
zone_there object None text None local s = refl
zone_there object (Some n) text (Some z) local s = refl
zone_there object None text (Some z) local s = absurd s
zone_there object (Some n) text None local s = absurd s

-- TZID is there where there is a zone, and where the time isn't fixed there is neither
form_there : (object : Tree) (name : Option (List ℕ)) (text : List ℕ) (form : Form) (zone : Option Zone) (local : ℤ) → SpellsForm object name text form zone local → (is_some name ≡ is_some zone) × IsUnzoned form zone
form_there object name text Fixed zone local s = (zone_there object name text zone local s, tt)
form_there object name text Floating _ local s = (ap is_some s.0 ∙ sym (ap is_some s.1), s.1)
form_there object name text WholeDay _ local s = (ap is_some s.0 ∙ sym (ap is_some s.1), s.1)

length_suits : (object : Tree) (form : Form) (start : ℤ) (end duration : Option (List ℕ)) (length : Length) → LastsSo object form start end duration length → SuitsForm form length
length_suits object Fixed start end duration length l = tt
length_suits object Floating start end duration length l = tt
length_suits object WholeDay start None None length l = ap (λ (x : Length). x.seconds) l
length_suits object WholeDay start (Some line) None length l = l.0
length_suits object WholeDay start None (Some line) length l = l.1
length_suits object WholeDay start (Some line) (Some other) length l = absurd l

-- a listed time in the dates that an event may name is in them when it is written without zone
plain_from : (object : Tree) (name : Option (List ℕ)) (text : List ℕ) (form : Form) (zone : Option Zone) (local t : ℤ) (in_zone : Bool) → SpellsForm object name text form zone local → Means (clock_of zone) local t
    → IsInDates false form in_zone local t → IsPlainStart form t
plain_from object name text Fixed _ local t in_zone s m d = (d.1, d.1, d.2)
plain_from object name text Floating _ local t in_zone s m d =
    subst (IsInLocalDates false) (sym (utc_instant local t (subst (λ (z : Option Zone). Means (clock_of z) local t) s.1 m))) d
plain_from object name text WholeDay _ local t in_zone s m d =
    subst (IsInLocalDates false) (sym (utc_instant local t (subst (λ (z : Option Zone). Means (clock_of z) local t) s.1 m))) d

plain_entry : (object : Tree) (entry : ListedTime) (time : Time) → IsInside object entry time → IsPlainStart time.form time.instant
plain_entry object (line, text) time (zone, local, says, means, dates) = plain_from object (line_param (codes "TZID") line) text time.form zone local time.instant (is_in_zone line) says.1 means dates

inside_each : (object : Tree) (entries : List ListedTime) (times : List Time) → AllZip (IsInside object) entries times → (time : Time) → Contains times time → IsPlainStart time.form time.instant
inside_each object [] [] z i c = absurd (omega (arith, c.1))
inside_each object [] (j ∷ js) z i c = absurd z
inside_each object (e ∷ es) [] z i c = absurd z
inside_each object (e ∷ es) (j ∷ js) z i (zero, l, is) = subst (λ (time : Time). IsPlainStart time.form time.instant) is (plain_entry object e j z.0)
inside_each object (e ∷ es) (j ∷ js) z i (suc k, l, is) = inside_each object es js z.1 i (k, omega (arith, l), is)

none_entries : (R : ListedTime → Time → Type 0) (entries : List ListedTime) (instants : List Time) → AllZip R entries instants → entries ≡ [] → instants ≡ []
none_entries R [] [] z e = refl
none_entries R [] (i ∷ is) z e = absurd z
none_entries R (x ∷ xs) is z e = cc

none_there : {X : Type 0} (p q : X → Bool) (xs : List X) → list_any (λ x. p x || q x) xs ≡ false → filter q xs ≡ []
none_there p q [] h = refl
none_there {X = X} p q (x ∷ xs) h =
    let both = or_parts (p x || q x) (list_any (λ y. p y || q y) xs) h in
    let here = or_parts (p x) (q x) both.0 in
    ap (λ b. cond b (x ∷ filter q xs) (filter q xs)) here.1 ∙ none_there p q xs both.1

some_there : {X : Type 0} (p : X → Bool) (xs : List X) (x : X) → filter p xs ≡ x ∷ [] → list_any p xs ≡ true
some_there p [] x e = cc
some_there {X = X} p (y ∷ ys) x e = by (p y) (some_there p ys x) e
  where
    by : (b : Bool) → (filter p ys ≡ x ∷ [] → list_any p ys ≡ true) → cond b (y ∷ filter p ys) (filter p ys) ≡ x ∷ [] → b || list_any p ys ≡ true
    by true f d = refl
    by false f d = f d

-- the recurrence is in the lines
recurrence_there : (object : Tree) (lines : Lines) (recurrence : Option Time) → Says (codes "RECURRENCE-ID") false (IsRecurrenceLine object) lines recurrence → is_some recurrence ≡ true → list_any (is_of (codes "RECURRENCE-ID")) lines ≡ true
recurrence_there object lines None s h = absurd (false≢true h)
recurrence_there object lines (Some i) s h = go s.line s.once s.is
  where
    go : (line : Option (List ℕ)) → lines_named (codes "RECURRENCE-ID") lines ≡ option_to_list line → BothOrNeither (IsRecurrenceLine object) line (Some i) → list_any (is_of (codes "RECURRENCE-ID")) lines ≡ true
    go None once b = absurd b
    go (Some l) once b = some_there (is_of (codes "RECURRENCE-ID")) lines l once

either_way : (a b c : Bool) → (b ≡ true → c ≡ true) → a || b ≡ true → a || c ≡ true
either_way true b c f h = refl
either_way false b c f h = f h

and_second : (a b : Bool) → a && b ≡ false → a ≡ true → b ≡ false
and_second true b h e = h
and_second false b h e = absurd (false≢true e)

is_there : (recurrence : Option Time) (instant : Option ℤ) → instant ≡ option_map (λ time. time.instant) recurrence → is_some instant ≡ true → is_some recurrence ≡ true
is_there None instant e h = absurd (false≢true (sym (ap is_some e) ∙ h))
is_there (Some time) instant e h = refl

module _ (added fixed : Bool) (object : Tree) (lines : Lines) (written : WrittenTimes) (recurrence : Option ℤ) (s : SaysOccurrences added fixed object lines written) (slot : recurrence ≡ option_map (λ time. time.instant) written.recurrence)
    (h : (added || is_some recurrence) ≡ true) where
  single_lines : list_any (λ line. is_of (codes "RRULE") line || is_of (codes "RDATE") line) lines ≡ false
  single_lines =
      and_second _ _ s.alone
      (either_way added (is_some recurrence) (list_any (is_of (codes "RECURRENCE-ID")) lines) (λ k. recurrence_there object lines written.recurrence s.is (is_there written.recurrence recurrence slot k)) h)

  no_additions : written.additions ≡ []
  no_additions =
      let lines_none : lines_named (codes "RDATE") lines ≡ [] = none_there (is_of (codes "RRULE")) (is_of (codes "RDATE")) lines single_lines in
      none_entries (IsInside object) (entries_named (codes "RDATE") lines) written.additions s.inside (ap (flat_map entries_of) lines_none)

first_there : {X : Type 0} (p q : X → Bool) (xs : List X) → list_any (λ x. p x || q x) xs ≡ false → filter p xs ≡ []
first_there p q [] h = refl
first_there {X = X} p q (x ∷ xs) h =
    let both = or_parts (p x || q x) (list_any (λ y. p y || q y) xs) h in
    let here = or_parts (p x) (q x) both.0 in
    ap (λ b. cond b (x ∷ filter p xs) (filter p xs)) here.0 ∙ first_there p q xs both.1

no_rule_line : (added fixed : Bool) (object : Tree) (lines : Lines) (times : EventTimes) (rule : Option Rule) (written : WrittenTimes) (recurrence : Option ℤ) → SaysEventRule lines times rule → SaysOccurrences added fixed object lines written
    → recurrence ≡ option_map (λ time. time.instant) written.recurrence → (added || is_some recurrence) ≡ true → rule ≡ None
no_rule_line added fixed object lines times rule written recurrence r s slot h =
    no_rule lines times rule r (first_there (is_of (codes "RRULE")) (is_of (codes "RDATE")) lines (single_lines added fixed object lines written recurrence s slot h))

ruled : (lines : Lines) (times : EventTimes) (rule : Option Rule) → SaysEventRule lines times rule → IsRuled times rule
ruled lines times rule s = go rule refl
  where
    go : (o : Option Rule) → rule ≡ o → IsRuled times o
    go None e = tt
    go (Some r) e = let found = rule_found lines times rule s r e in (line_value found.line, found.text, found.spelled, found.gives)

-- an event that was said with its start
pub said_facts : (added fixed : Bool) (object : Tree) (lines : Lines) (event : EventComponent) → SaysEventTimes object lines event.times → SaysEventRule lines event.times event.rule
    → SaysOccurrences added fixed object lines event.written → AreOfWritten event.written event.recurrence event.additions event.exceptions → EventFacts event added
said_facts added fixed object lines event t r o w =
    let form = form_there object (line_param (codes "TZID") t.line) (line_value t.line) event.times.form event.times.zone event.times.local t.says.1 in
    let zoned : is_in_zone t.line ≡ is_some event.times.zone = form.0 in
    record {
      unzoned = form.1;
      means = t.means;
      dated = subst (λ (b : Bool). IsInDates false event.times.form b event.times.local event.times.start) zoned t.in_dates;
      suits = length_suits object event.times.form event.times.start t.end_line t.duration_line event.times.length t.lasts;
      most = t.most;
      added_in = inside_each object (entries_named (codes "RDATE") lines) event.written.additions o.inside;
      few_added = o.adds.1;
      few_taken = o.takes.1;
      single = no_additions added fixed object lines event.written event.recurrence o w.slot;
      once = no_rule_line added fixed object lines event.times event.rule event.written event.recurrence r o w.slot;
      recurs = ruled lines event.times event.rule r;
    }

start_needed : (method : Method) (event : EventComponent) → is_to_rooms method ≡ true → cancels method event ≡ false → may_lack_start (Some method) ≡ false
start_needed Store event to h = absurd (true≢false (sym to))
start_needed Request event to h = refl
start_needed Add event to h = refl
start_needed Cancel event to h = absurd (true≢false h)
start_needed Reply event to h = absurd (true≢false (sym to))
start_needed Refresh event to h = absurd (true≢false (sym to))

-- one of a message to rooms, that isn't cancelled
pub event_facts : (object : Tree) (method : Method) (lines : Lines) (event : EventComponent) → SaysEventComponent object (Some method) lines event → is_to_rooms method ≡ true → cancels method event ≡ false
    → EventFacts event (bars_recurrence (Some method))
event_facts object method lines event s to h = go s.times
  where
    go : SaysTimes (may_lack_start (Some method)) object lines event.times → EventFacts event (bars_recurrence (Some method))
    go (inl t) = said_facts (bars_recurrence (Some method)) (names_by_fixed (Some method)) object lines event t s.rule s.occurrences s.instants
    go (inr lacks) = absurd (true≢false (sym lacks.0 ∙ start_needed method event to h))

-- and one of a store, where DTSTART is required
pub stored_facts : (object : Tree) (lines : Lines) (event : EventComponent) → SaysEventComponent object (Some Store) lines event → EventFacts event false
stored_facts object lines event s = go s.times
  where
    go : SaysTimes false object lines event.times → EventFacts event false
    go (inl t) = said_facts false true object lines event t s.rule s.occurrences s.instants
    go (inr lacks) = absurd (false≢true lacks.0)

-- ---- the lines of its content

abbrev pub duration_of : EventComponent → List ℕ
duration_of event = duration_text event.times.length.days event.times.length.seconds

alone_lists : (slot : Option ℤ) (event : EventComponent) (form : Form) (clock : Zone) (rules additions : Lines) → (is_some slot ≡ true → event.rule ≡ None) → WritesRule form clock event.rule rules → (is_some slot ≡ true → event.written.additions ≡ [])
    → WritesListed (codes "RDATE") event.written.additions additions → IsAlone slot rules additions
alone_lists None event form clock rules additions r u f w = tt
alone_lists (Some i) event form clock rules additions r u f w = (
  subst (λ (o : Option Rule). WritesRule form clock o rules) (r refl) u,
  times_none (codes "RDATE") rdate_name event.written.additions additions w (f refl),
)

-- ---- its rule, as it is written

pub record WrittenRule (form : Form) (clock : Zone) (local : ℤ) (rule : Option Rule) (rules : Lines) : Type 0 where
  pub back : Option Rule
  pub spells : SpellRule clock local rules back
  pub same : IsSameRule rule back
  pub writes : (other : Lines) → WritesRule form clock rule other ↔ WritesRule form clock back other

pub written_rule : (times : EventTimes) → IsOneMeaning (clock_of times.zone) → (rule : Option Rule) (rules : Lines) → IsRuled times rule → WritesRule times.form (clock_of times.zone) rule rules
    → WrittenRule times.form (clock_of times.zone) times.local rule rules
written_rule times one None rules r w = record { back = None; spells = w; same = tt; writes = λ other. (λ h. h, λ h. h) }
written_rule times one (Some rule) rules (value, text, spelled, gives) w =
    let b = rule_back times.form (clock_of times.zone) times.local one value text rule rules spelled gives w in
    record { back = Some b.back; spells = (b.value, b.are, early_shown b.value b.early, (b.text, b.spelled, b.gives)); same = b.same; writes = b.writes }

-- the lines of the content, under the zone's name, say when the event is
pub when_of : (name : List ℕ) (content : Content) (event : EventComponent) (c : IsContent content event) (n : AreNamed name content event c) → IsPlainFor name event.times.zone → (added : Bool) → EventFacts event added
    → (k : WrittenRule event.times.form (clock_of event.times.zone) event.times.local event.rule c.rule) → (slot : Option ℤ) → (is_some slot ≡ true → (added || is_some event.recurrence) ≡ true)
    → SpellWhen name event slot n.start (duration_of event) c.rule c.additions c.exceptions k.back event.written.additions (filter may_take event.written.exceptions)
when_of name content event c n plain added f k slot single = record {
  starts = n.starts;
  unzoned = f.unzoned;
  plain = plain;
  means = f.means;
  dated = f.dated;
  lasts =
      let most : 86_400 * event.times.length.days + event.times.length.seconds ≤ 31_622_400 = f.most in
      duration_written event.times.length.days event.times.length.seconds (omega (arith, most)) (omega (arith, most));
  suits = f.suits;
  most = f.most;
  recurs = k.spells;
  adds = c.adds;
  added_in = f.added_in;
  few_added = f.few_added;
  takes = c.takes;
  few_taken =
      let fewer = filter_short may_take event.written.exceptions in
      let few : length event.written.exceptions ≤ 366 = f.few_taken in
      omega (arith, fewer, few);
  alone = alone_lists slot event event.times.form (clock_of event.times.zone) c.rule c.additions (λ h. f.once (single h)) c.recurs (λ h. f.single (single h)) c.adds;
}

-- ---- what lines they are

recurrence_line : (v : List ℕ) → IsClean v → is_content (codes "RECURRENCE-ID:" ++ v) ≡ true
recurrence_line v c = valued (codes "RECURRENCE-ID:") v (lt-ltb 13 (length (codes "RECURRENCE-ID:" ++ v)) (omega arith)) refl refl refl c

duration_content : (v : List ℕ) → IsClean v → is_content (codes "DURATION:" ++ v) ≡ true
duration_content v c = valued (codes "DURATION:") v (lt-ltb 8 (length (codes "DURATION:" ++ v)) (omega arith)) refl refl refl c

rule_line : (v : List ℕ) → IsClean v → is_content (codes "RRULE:" ++ v) ≡ true
rule_line v c = valued (codes "RRULE:") v (lt-ltb 5 (length (codes "RRULE:" ++ v)) (omega arith)) refl refl refl c

pub duration_clean : (event : EventComponent) → IsClean (duration_of event)
duration_clean event = clean_shown (duration_of event) (duration_passes is_shown shown_digits refl event.times.length.days event.times.length.seconds)

-- the text of a RECURRENCE-ID, if there is one
abbrev pub IsCleanSlot : Option (List ℕ) → Type 0
IsCleanSlot None = Unit {0}
IsCleanSlot (Some text) = IsClean text

front_content : (recurrence : Option (List ℕ)) (uid sequence stamp : List ℕ) → IsCleanSlot recurrence → IsClean uid → IsClean sequence → IsClean stamp → list_all is_content (own_front recurrence uid sequence stamp) ≡ true
front_content None uid sequence stamp r u n s = and_from _ _ (uid_line uid u) (and_from _ _ (sequence_line sequence n) (and_from _ _ (stamp_line stamp s) refl))
front_content (Some text) uid sequence stamp r u n s = and_from _ _ (uid_line uid u) (and_from _ _ (recurrence_line text r) (and_from _ _ (sequence_line sequence n) (and_from _ _ (stamp_line stamp s) refl)))

front_properties : (recurrence : Option (List ℕ)) (uid sequence stamp : List ℕ) → list_all is_property (own_front recurrence uid sequence stamp) ≡ true
front_properties None uid sequence stamp = refl
front_properties (Some text) uid sequence stamp = refl

three_pass : (p : List ℕ → Bool) (a b d : Lines) → list_all p a ≡ true → list_all p b ≡ true → list_all p d ≡ true → list_all p (a ++ b ++ d) ≡ true
three_pass p a b d x y z = list_all-append p (a ++ b) d ∙ and_from _ _ (list_all-append p a b ∙ and_from _ _ x y) z

module _ (name : List ℕ) (event : EventComponent) (slot : Option ℤ) (start duration : List ℕ) (rules additions exceptions : Lines) (back : Option Rule) (added taken : List Time) (w : SpellWhen name event slot start duration rules additions exceptions back added taken) where
  rules_content : (b : Option Rule) → SpellRule (clock_of event.times.zone) event.times.local rules b → list_all is_content rules ≡ true
  rules_content None none = ap (list_all is_content) none
  rules_content (Some b) (value, are, shown, _) = ap (list_all is_content) are ∙ and_from _ _ (rule_line value (clean_shown value shown)) refl

  rules_properties : (b : Option Rule) → SpellRule (clock_of event.times.zone) event.times.local rules b → list_all is_property rules ≡ true
  rules_properties None none = ap (list_all is_property) none
  rules_properties (Some b) (value, are, _, _) = ap (list_all is_property) are

  pub are_own : (recurrence : Option (List ℕ)) (uid sequence stamp : List ℕ) (behind : Lines) → IsCleanSlot recurrence → IsClean uid → IsClean sequence → IsClean stamp → IsClean duration → AreOwn behind
      → AreOwn (own_lines recurrence uid sequence stamp (when_lines start duration rules additions exceptions) behind)
  are_own recurrence uid sequence stamp behind r u n s d b =
      let lists : list_all is_content (additions ++ exceptions) ≡ true = list_all-append is_content additions exceptions ∙ and_from _ _ (times_content (codes "RDATE") rdate_name added additions w.adds) (times_content (codes "EXDATE") exdate_name taken exceptions w.takes) in
      let all : list_all is_content (rules ++ (additions ++ exceptions)) ≡ true = list_all-append is_content rules (additions ++ exceptions) ∙ and_from _ _ (rules_content back w.recurs) lists in
      let names : list_all is_property (additions ++ exceptions) ≡ true = list_all-append is_property additions exceptions ∙ and_from _ _ (times_properties (codes "RDATE") rdate_name added additions w.adds) (times_properties (codes "EXDATE") exdate_name taken exceptions w.takes) in
      let all_names : list_all is_property (rules ++ (additions ++ exceptions)) ≡ true = list_all-append is_property rules (additions ++ exceptions) ∙ and_from _ _ (rules_properties back w.recurs) names in
      record {
        content =
            three_pass is_content (own_front recurrence uid sequence stamp) (when_lines start duration rules additions exceptions) behind
            (front_content recurrence uid sequence stamp r u n s)
            (and_from _ _ (start_content name event.times.form event.times.zone event.times start w.starts w.plain) (and_from _ _ (duration_content duration d) all))
            b.content;
        properties =
            three_pass is_property (own_front recurrence uid sequence stamp) (when_lines start duration rules additions exceptions) behind
            (front_properties recurrence uid sequence stamp)
            (and_from _ _ (start_property name event.times.form event.times.zone event.times start w.starts w.plain) all_names)
            b.properties;
      }
