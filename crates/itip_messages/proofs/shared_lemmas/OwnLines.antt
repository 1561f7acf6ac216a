-- What the lines of a VEVENT say that is written of an event: the event again, in this revision. Its start may be in a zone, and it may have lists.
-- Behind refreshes_are_heard of law, replies_are_heard of law, requests_read_back of sent_law, shown_reads_back of sent_law, stored_texts_can_be_sent of sent_law.
use Rattle.std.proofs.Common.{◌≡◌, ◌∙◌, inl, refl, sym, ap, subst, arith, ℕ, ℤ, ◌≤◌, Bool, true, false, cond, ◌||◌, ◌&&◌, List, [], ◌∷◌, ◌++◌, length, codes, Option, Some, None, append-nil}
use Rattle.std.specs.Prelude.{Contains, is_some, option_map}
use Rattle.std.specs.List.{list_all, list_any, flat_map, AllZip}
use Rattle.std.proofs.lemmas.Bool.{false≢true}
use Rattle.std.proofs.lemmas.List.Elements.{filter-append}
use Rattle.std.proofs.Math.Bool.{and-false}
use Rattle.profile.specs.text.Lines.{is_same_name}
use Rattle.profile.specs.text.Trees.{Tree}
use Rattle.profile.specs.text.Values.{SpellsStamp, SpellsSequence, SpellsDuration, unescaped, IsAddress, IsUid, lower_case}
use Rattle.profile.specs.rooms.Revisions.{Revision}
use Rattle.profile.specs.events.EventComponents.{Attendee, EventComponent, IsAttendee, Request, SaysEventComponent, first_text, instants_of, summary_of}
use Rattle.itip_messages.proofs.shared_lemmas.SentTexts.{none_passes}
use Rattle.profile.specs.events.Occurrences.{Time, WrittenTimes, SaysStatus, IsListed, IsInside, entries_of, entries_named, most_entries}
use Rattle.profile.specs.events.Properties.{Fixed, is_of, lines_named, length_seconds, longest}
use Rattle.profile.specs.events.ZonedTimes.{SaysEventTimes, IsInDates, SuitsForm, clock_of}
use Rattle.profile.specs.rooms.Messages.{WritesListed}
use Rattle.profile.specs.series.Rules.{Rule, RuleText}
use Rattle.profile.specs.series.RuleTexts.{SpellsRule}
use Rattle.profile.specs.series.Zones.{Means, Zone}
use Rattle.profile.specs.events.EventRules.{GivesBeside, GivesRule, SaysEventRule}
use Rattle.ical_lines.proofs.CleanLines.{is_shown}
use Rattle.itip_messages.specs.SentLaw.{time_as}
use Rattle.itip_messages.proofs.body_lemmas.TimeLists.{IsPlainStart, IsStart, back_times, rdate_name, exdate_name, times_back, times_inside, times_named, times_short, times_unnamed, utc_means}
use Rattle.itip_messages.proofs.body_lemmas.ZonePlaces.{StartsAs}
use Rattle.itip_messages.proofs.shared_lemmas.ZonedStarts.{IsPlainFor, IsUnzoned, MeansZone, start_says, start_named, start_in_zone}

abbrev Lines : Type 0
Lines = List (List ℕ)

-- RECURRENCE-ID, if the event is one instance
abbrev pub slot_lines : Option (List ℕ) → Lines
slot_lines None = []
slot_lines (Some text) = (codes "RECURRENCE-ID:" ++ text) ∷ []

-- the own lines of a VEVENT before what says when it is, and after that
abbrev pub own_front : (recurrence : Option (List ℕ)) (uid sequence stamp : List ℕ) → Lines
own_front recurrence uid sequence stamp = ((codes "UID:" ++ uid) ∷ slot_lines recurrence) ++ ((codes "SEQUENCE:" ++ sequence) ∷ (codes "DTSTAMP:" ++ stamp) ∷ [])

-- what says when it is
abbrev pub when_lines : (start duration : List ℕ) (rules additions exceptions : Lines) → Lines
when_lines start duration rules additions exceptions = start ∷ (codes "DURATION:" ++ duration) ∷ (rules ++ (additions ++ exceptions))

-- the own lines
abbrev pub own_lines : (recurrence : Option (List ℕ)) (uid sequence stamp : List ℕ) (when behind : Lines) → Lines
own_lines recurrence uid sequence stamp when behind = own_front recurrence uid sequence stamp ++ when ++ behind

-- the times of an instance that is named in UTC, and of what is listed
abbrev pub written_again : Option ℤ → List Time → List Time → WrittenTimes
written_again recurrence additions exceptions = record { recurrence = option_map (time_as Fixed) recurrence; additions = additions; exceptions = exceptions }

-- the event that is said of an event, in this revision, with its instance in UTC and with these times
abbrev pub event_again : EventComponent → Option ℤ → List ℕ → Revision → Option Rule → List Time → List Time → Bool → List ℕ → List Attendee → EventComponent
event_again event recurrence organiser revision rule additions exceptions cancelled summary attendees = record event {
  organiser = Some organiser;
  stamp = Some revision.stamp;
  sequence = revision.sequence;
  cancelled = cancelled;
  recurrence = recurrence;
  rule = rule;
  additions = instants_of additions;
  exceptions = instants_of exceptions;
  written = written_again recurrence additions exceptions;
  summary = summary;
  attendees = attendees;
}

-- ---- filters

pub none_of_both : {X : Type 0} (p q : X → Bool) (xs : List X) → list_any p xs ≡ false → list_any q xs ≡ false → list_any (λ x. p x || q x) xs ≡ false
none_of_both p q [] e d = refl
none_of_both {X = X} p q (x ∷ xs) e d = by (p x) (q x) (none_of_both p q xs) e d
  where
    by : (a b : Bool) → (list_any p xs ≡ false → list_any q xs ≡ false → list_any (λ y. p y || q y) xs ≡ false) → a || list_any p xs ≡ false → b || list_any q xs ≡ false → (a || b) || list_any (λ y. p y || q y) xs ≡ false
    by true b f e d = absurd (false≢true (sym e))
    by false true f e d = absurd (false≢true (sym d))
    by false false f e d = f e d

-- ---- what the values spell

-- whose it is, and which revision
pub record SpellPart (uid_is : List ℕ) (revision : Revision) (uid sequence stamp organiser : List ℕ) : Type 0 where
  pub uid_there : uid_is ≡ unescaped uid
  pub is_uid : IsUid uid_is
  pub numbered : SpellsSequence sequence revision.sequence
  pub stamped_is : SpellsStamp stamp revision.stamp
  pub organised : IsAddress organiser
  pub lower : lower_case organiser ≡ organiser

-- which instance it is
abbrev pub SpellSlot : Option (List ℕ) → Option ℤ → Type 0
SpellSlot None None = Unit {0}
SpellSlot (Some text) (Some t) = SpellsStamp text t × IsStart t
SpellSlot None (Some t) = ⊥
SpellSlot (Some text) None = ⊥

-- an instance has no RRULE and no RDATE
abbrev pub IsAlone : Option ℤ → Lines → Lines → Type 0
IsAlone None rules additions = Unit {0}
IsAlone (Some t) rules additions = (rules ≡ []) × (additions ≡ [])

-- the lines are one RRULE that gives this rule to a start at that local time, or none where there is no rule
abbrev pub SpellRule : Zone → ℤ → Lines → Option Rule → Type 0
SpellRule clock local rules None = rules ≡ []
SpellRule clock local rules (Some back) =
    (value : List ℕ) × (rules ≡ (codes "RRULE:" ++ value) ∷ []) × (list_all is_shown value ≡ true) × ((text : RuleText) × SpellsRule value text × GivesRule clock local text back)

-- when it is
pub record SpellWhen (name : List ℕ) (event : EventComponent) (slot : Option ℤ) (start duration : List ℕ) (rules additions exceptions : Lines) (back : Option Rule) (added taken : List Time) : Type 0 where
  pub starts : StartsAs name event.times.form event.times.zone event.times start
  pub unzoned : IsUnzoned event.times.form event.times.zone
  pub plain : IsPlainFor name event.times.zone
  pub means : Means (clock_of event.times.zone) event.times.local event.times.start
  pub dated : IsInDates false event.times.form (is_some event.times.zone) event.times.local event.times.start
  pub lasts : SpellsDuration duration event.times.length.days event.times.length.seconds
  pub suits : SuitsForm event.times.form event.times.length
  pub most : length_seconds event.times.length ≤ longest
  pub recurs : SpellRule (clock_of event.times.zone) event.times.local rules back
  pub adds : WritesListed (codes "RDATE") added additions
  pub added_in : (time : Time) → Contains added time → IsPlainStart time.form time.instant
  pub few_added : length added ≤ most_entries
  pub takes : WritesListed (codes "EXDATE") taken exceptions
  pub few_taken : length taken ≤ most_entries
  pub alone : IsAlone slot rules additions

-- ---- what is named in the lines

module _ (name : List ℕ) (event : EventComponent) (slot : Option ℤ) (start duration : List ℕ) (rules additions exceptions : Lines) (back : Option Rule) (added taken : List Time)
    (w : SpellWhen name event slot start duration rules additions exceptions back added taken) (front back_lines : Lines) where
  abbrev whole : Lines
  whole = front ++ when_lines start duration rules additions exceptions ++ back_lines

  named_parts : (other : List ℕ) → lines_named other whole ≡ (lines_named other front ++ cond (is_of other start) (start ∷ lines_named other ((codes "DURATION:" ++ duration) ∷ (rules ++ (additions ++ exceptions))))
      (lines_named other ((codes "DURATION:" ++ duration) ∷ (rules ++ (additions ++ exceptions))))) ++ lines_named other back_lines
  named_parts other =
      filter-append (is_of other) (front ++ when_lines start duration rules additions exceptions) back_lines
      ∙ ap (λ l. l ++ lines_named other back_lines) (filter-append (is_of other) front (when_lines start duration rules additions exceptions))

  -- the rule's line has this name alone
  rules_unnamed : (other : List ℕ) → ((v : List ℕ) → is_of other (codes "RRULE:" ++ v) ≡ false) → lines_named other rules ≡ []
  rules_unnamed other u = go back w.recurs
    where
      go : (b : Option Rule) → SpellRule (clock_of event.times.zone) event.times.local rules b → lines_named other rules ≡ []
      go None none = ap (lines_named other) none
      go (Some b) (value, are, _, _) = ap (lines_named other) are ∙ ap (λ (t : Bool). cond t ((codes "RRULE:" ++ value) ∷ []) []) (u value)

  rules_same : lines_named (codes "RRULE") rules ≡ rules
  rules_same = go back w.recurs
    where
      go : (b : Option Rule) → SpellRule (clock_of event.times.zone) event.times.local rules b → lines_named (codes "RRULE") rules ≡ rules
      go None none = ap (lines_named (codes "RRULE")) none ∙ sym none
      go (Some b) (value, are, _, _) = ap (lines_named (codes "RRULE")) are ∙ sym are

  -- the lines that aren't a start
  plain_named : (other : List ℕ) (durations : Lines) → is_of other (codes "DTSTART:") ≡ false → (rules_named additions_named exceptions_named : Lines) → lines_named other rules ≡ rules_named → lines_named other additions ≡ additions_named
      → lines_named other exceptions ≡ exceptions_named → ((rest : Lines) → lines_named other ((codes "DURATION:" ++ duration) ∷ rest) ≡ durations ++ lines_named other rest)
      → lines_named other whole ≡ (lines_named other front ++ (durations ++ (rules_named ++ (additions_named ++ exceptions_named)))) ++ lines_named other back_lines
  plain_named other durations lacks rules_named additions_named exceptions_named r a x d =
      let rest = lines_named other ((codes "DURATION:" ++ duration) ∷ (rules ++ (additions ++ exceptions))) in
      let not_it : is_of other start ≡ false = start_named other name event.times.form event.times.zone event.times start w.starts w.plain ∙ lacks in
      let lists : lines_named other (additions ++ exceptions) ≡ additions_named ++ exceptions_named = filter-append (is_of other) additions exceptions ∙ (λ i. a i ++ x i) in
      let all : lines_named other (rules ++ (additions ++ exceptions)) ≡ rules_named ++ (additions_named ++ exceptions_named) = filter-append (is_of other) rules (additions ++ exceptions) ∙ (λ i. r i ++ lists i) in
      named_parts other
      ∙ ap (λ b. (lines_named other front ++ cond b (start ∷ rest) rest) ++ lines_named other back_lines) not_it
      ∙ ap (λ l. (lines_named other front ++ l) ++ lines_named other back_lines) (d (rules ++ (additions ++ exceptions)) ∙ ap (λ l. durations ++ l) all)

  -- where no rule and no list has the name
  no_list : (other : List ℕ) (durations : Lines) → is_of other (codes "DTSTART:") ≡ false → ((v : List ℕ) → is_of other (codes "RRULE:" ++ v) ≡ false) → is_same_name (codes "RDATE") other ≡ false
      → is_same_name (codes "EXDATE") other ≡ false → ((rest : Lines) → lines_named other ((codes "DURATION:" ++ duration) ∷ rest) ≡ durations ++ lines_named other rest)
      → lines_named other whole ≡ (lines_named other front ++ (durations ++ [])) ++ lines_named other back_lines
  no_list other durations lacks u r x d =
      plain_named other durations lacks [] [] [] (rules_unnamed other u) (times_unnamed (codes "RDATE") rdate_name added additions w.adds other r) (times_unnamed (codes "EXDATE") exdate_name taken exceptions w.takes other x) d

  start_once : lines_named (codes "DTSTART") whole ≡ (lines_named (codes "DTSTART") front ++ (start ∷ [])) ++ lines_named (codes "DTSTART") back_lines
  start_once =
      let rest = lines_named (codes "DTSTART") ((codes "DURATION:" ++ duration) ∷ (rules ++ (additions ++ exceptions))) in
      let it : is_of (codes "DTSTART") start ≡ true = start_named (codes "DTSTART") name event.times.form event.times.zone event.times start w.starts w.plain in
      let lists : lines_named (codes "DTSTART") (additions ++ exceptions) ≡ [] =
      filter-append (is_of (codes "DTSTART")) additions exceptions
      ∙ (λ i. times_unnamed (codes "RDATE") rdate_name added additions w.adds (codes "DTSTART") refl i ++ times_unnamed (codes "EXDATE") exdate_name taken exceptions w.takes (codes "DTSTART") refl i) in
      let none : rest ≡ [] = filter-append (is_of (codes "DTSTART")) rules (additions ++ exceptions) ∙ (λ i. rules_unnamed (codes "DTSTART") (λ v. refl) i ++ lists i) in
      named_parts (codes "DTSTART")
      ∙ ap (λ b. (lines_named (codes "DTSTART") front ++ cond b (start ∷ rest) rest) ++ lines_named (codes "DTSTART") back_lines) it
      ∙ ap (λ l. (lines_named (codes "DTSTART") front ++ (start ∷ l)) ++ lines_named (codes "DTSTART") back_lines) none

  additions_named : lines_named (codes "RDATE") whole ≡ (lines_named (codes "RDATE") front ++ ([] ++ ([] ++ (additions ++ [])))) ++ lines_named (codes "RDATE") back_lines
  additions_named =
      plain_named (codes "RDATE") [] refl [] additions [] (rules_unnamed (codes "RDATE") (λ v. refl)) (times_named (codes "RDATE") rdate_name added additions w.adds) (times_unnamed (codes "EXDATE") exdate_name taken exceptions w.takes (codes "RDATE") refl) (λ rest. refl)

  exceptions_named : lines_named (codes "EXDATE") whole ≡ (lines_named (codes "EXDATE") front ++ ([] ++ ([] ++ ([] ++ exceptions)))) ++ lines_named (codes "EXDATE") back_lines
  exceptions_named =
      plain_named (codes "EXDATE") [] refl [] [] exceptions (rules_unnamed (codes "EXDATE") (λ v. refl)) (times_unnamed (codes "RDATE") rdate_name added additions w.adds (codes "EXDATE") refl) (times_named (codes "EXDATE") exdate_name taken exceptions w.takes) (λ rest. refl)

  rules_named : lines_named (codes "RRULE") whole ≡ (lines_named (codes "RRULE") front ++ ([] ++ (rules ++ ([] ++ [])))) ++ lines_named (codes "RRULE") back_lines
  rules_named =
      plain_named (codes "RRULE") [] refl rules [] [] rules_same (times_unnamed (codes "RDATE") rdate_name added additions w.adds (codes "RRULE") refl) (times_unnamed (codes "EXDATE") exdate_name taken exceptions w.takes (codes "RRULE") refl) (λ rest. refl)

-- ---- after what says when it is

-- a property of another name than those that are there
pub record IsElsewhere (other : List ℕ) : Type 0 where
  pub status : is_of other (codes "STATUS:CANCELLED") ≡ false
  pub summary : (v : List ℕ) → is_of other (codes "SUMMARY:" ++ v) ≡ false
  pub organiser : (v : List ℕ) → is_of other (codes "ORGANIZER:" ++ v) ≡ false
  pub attendee : is_of other (codes "ATTENDEE:") ≡ false

-- the lines say whether the event is cancelled, what it is about, and who is asked; and nothing of its other properties
pub record IsBehind (behind : Lines) (organiser : List ℕ) (is_cancelled : Bool) (about : List ℕ) (said : List Attendee) : Type 0 where
  pub elsewhere : (other : List ℕ) → IsElsewhere other → lines_named other behind ≡ []
  pub organised : lines_named (codes "ORGANIZER") behind ≡ (codes "ORGANIZER:" ++ organiser) ∷ []
  pub status : SaysStatus behind is_cancelled
  pub summary : about ≡ summary_of behind
  pub attendees : AllZip IsAttendee (lines_named (codes "ATTENDEE") behind) said

elsewhere_uid : IsElsewhere (codes "UID")
elsewhere_uid = record { status = refl; summary = λ v. refl; organiser = λ v. refl; attendee = refl }

elsewhere_stamp : IsElsewhere (codes "DTSTAMP")
elsewhere_stamp = record { status = refl; summary = λ v. refl; organiser = λ v. refl; attendee = refl }

elsewhere_sequence : IsElsewhere (codes "SEQUENCE")
elsewhere_sequence = record { status = refl; summary = λ v. refl; organiser = λ v. refl; attendee = refl }

elsewhere_start : IsElsewhere (codes "DTSTART")
elsewhere_start = record { status = refl; summary = λ v. refl; organiser = λ v. refl; attendee = refl }

elsewhere_end : IsElsewhere (codes "DTEND")
elsewhere_end = record { status = refl; summary = λ v. refl; organiser = λ v. refl; attendee = refl }

elsewhere_duration : IsElsewhere (codes "DURATION")
elsewhere_duration = record { status = refl; summary = λ v. refl; organiser = λ v. refl; attendee = refl }

elsewhere_rule : IsElsewhere (codes "RRULE")
elsewhere_rule = record { status = refl; summary = λ v. refl; organiser = λ v. refl; attendee = refl }

elsewhere_additions : IsElsewhere (codes "RDATE")
elsewhere_additions = record { status = refl; summary = λ v. refl; organiser = λ v. refl; attendee = refl }

elsewhere_exceptions : IsElsewhere (codes "EXDATE")
elsewhere_exceptions = record { status = refl; summary = λ v. refl; organiser = λ v. refl; attendee = refl }

elsewhere_recurrence : IsElsewhere (codes "RECURRENCE-ID")
elsewhere_recurrence = record { status = refl; summary = λ v. refl; organiser = λ v. refl; attendee = refl }

-- ---- what they say

-- the lines whose names occur nowhere but in front, after, or as the duration
module _ (name : List ℕ) (event : EventComponent) (recurrence : Option (List ℕ)) (slot : Option ℤ) (revision : Revision) (uid sequence stamp start duration organiser : List ℕ) (behind : Lines) (is_cancelled : Bool) (about : List ℕ) (said : List Attendee)
    (rules additions exceptions : Lines) (back : Option Rule) (added taken : List Time) (s : SpellPart event.uid revision uid sequence stamp organiser) (b : IsBehind behind organiser is_cancelled about said)
    (w : SpellWhen name event slot start duration rules additions exceptions back added taken) where
  none_behind : (other : List ℕ) → IsElsewhere other → lines_named other behind ≡ []
  none_behind other e = b.elsewhere other e

  abbrev own : Option (List ℕ) → Lines
  own r = own_lines r uid sequence stamp (when_lines start duration rules additions exceptions) behind

  named_of : (r : Option (List ℕ)) (other : List ℕ) → is_of other (codes "DTSTART:") ≡ false → ((v : List ℕ) → is_of other (codes "RRULE:" ++ v) ≡ false) → is_same_name (codes "RDATE") other ≡ false → is_same_name (codes "EXDATE") other ≡ false
      → ((rest : Lines) → lines_named other ((codes "DURATION:" ++ duration) ∷ rest) ≡ lines_named other rest)
      → (there : Lines) → lines_named other behind ≡ there → lines_named other (own r) ≡ (lines_named other (own_front r uid sequence stamp) ++ []) ++ there
  named_of r other lacks u a x d there e =
      no_list name event slot start duration rules additions exceptions back added taken w (own_front r uid sequence stamp) behind other [] lacks u a x d
      ∙ ap (λ l. (lines_named other (own_front r uid sequence stamp) ++ []) ++ l) e

  -- what is beside the recurrence
  times_of : (r : Option (List ℕ)) (object : Tree) → MeansZone object name event.times.zone → lines_named (codes "DTSTART") (own_front r uid sequence stamp) ≡ [] → lines_named (codes "DTEND") (own_front r uid sequence stamp) ≡ []
      → lines_named (codes "DURATION") (own_front r uid sequence stamp) ≡ [] → SaysEventTimes object (own r) event.times
  times_of r object m no_start no_end no_duration = record {
    line = start;
    once = start_once name event slot start duration rules additions exceptions back added taken w (own_front r uid sequence stamp) behind ∙ (λ i. (no_start i ++ start ∷ []) ++ none_behind (codes "DTSTART") elsewhere_start i);
    says = start_says object name event.times.form event.times.zone event.times start w.starts w.unzoned w.means w.plain m;
    means = w.means;
    end_line = None;
    duration_line = Some (codes "DURATION:" ++ duration);
    end_once = named_of r (codes "DTEND") refl (λ v. refl) refl refl (λ rest. refl) [] (none_behind (codes "DTEND") elsewhere_end) ∙ ap (λ (l : Lines). (l ++ []) ++ []) no_end;
    duration_once =
        no_list name event slot start duration rules additions exceptions back added taken w (own_front r uid sequence stamp) behind (codes "DURATION") ((codes "DURATION:" ++ duration) ∷ []) refl (λ v. refl) refl refl (λ rest. refl)
        ∙ (λ i. (no_duration i ++ (codes "DURATION:" ++ duration) ∷ []) ++ none_behind (codes "DURATION") elsewhere_duration i);
    lasts = (w.lasts, w.suits);
    most = w.most;
    in_dates = subst (λ (b : Bool). IsInDates false event.times.form b event.times.local event.times.start) (sym (start_in_zone name event.times.form event.times.zone event.times start w.starts w.unzoned w.plain)) w.dated;
  }

  adds_of : (r : Option (List ℕ)) → lines_named (codes "RDATE") (own_front r uid sequence stamp) ≡ [] → lines_named (codes "RDATE") (own r) ≡ additions
  adds_of r lacks = additions_named name event slot start duration rules additions exceptions back added taken w (own_front r uid sequence stamp) behind ∙ (λ i. (lacks i ++ (additions ++ [])) ++ none_behind (codes "RDATE") elsewhere_additions i) ∙ append-nil (additions ++ []) ∙ append-nil additions

  takes_of : (r : Option (List ℕ)) → lines_named (codes "EXDATE") (own_front r uid sequence stamp) ≡ [] → lines_named (codes "EXDATE") (own r) ≡ exceptions
  takes_of r lacks = exceptions_named name event slot start duration rules additions exceptions back added taken w (own_front r uid sequence stamp) behind ∙ (λ i. (lacks i ++ exceptions) ++ none_behind (codes "EXDATE") elsewhere_exceptions i) ∙ append-nil exceptions

  abbrev back_added : List Time
  back_added = back_times (codes "RDATE") added additions w.adds

  abbrev back_taken : List Time
  back_taken = back_times (codes "EXDATE") taken exceptions w.takes

  entries_added : (r : Option (List ℕ)) (object : Tree) → lines_named (codes "RDATE") (own_front r uid sequence stamp) ≡ [] → AllZip (IsListed object (codes "RDATE")) (entries_named (codes "RDATE") (own r)) back_added
  entries_added r object lacks =
      subst (λ (l : Lines). AllZip (IsListed object (codes "RDATE")) (flat_map entries_of l) back_added) (times_named (codes "RDATE") rdate_name added additions w.adds ∙ sym (adds_of r lacks)) (times_back (codes "RDATE") rdate_name added additions w.adds object)

  entries_inside : (r : Option (List ℕ)) (object : Tree) → lines_named (codes "RDATE") (own_front r uid sequence stamp) ≡ [] → AllZip (IsInside object) (entries_named (codes "RDATE") (own r)) back_added
  entries_inside r object lacks =
      subst (λ (l : Lines). AllZip (IsInside object) (flat_map entries_of l) back_added) (times_named (codes "RDATE") rdate_name added additions w.adds ∙ sym (adds_of r lacks)) (times_inside (codes "RDATE") rdate_name added additions w.adds object w.added_in)

  entries_taken : (r : Option (List ℕ)) (object : Tree) → lines_named (codes "EXDATE") (own_front r uid sequence stamp) ≡ [] → AllZip (IsListed object (codes "EXDATE")) (entries_named (codes "EXDATE") (own r)) back_taken
  entries_taken r object lacks =
      subst (λ (l : Lines). AllZip (IsListed object (codes "EXDATE")) (flat_map entries_of l) back_taken) (times_named (codes "EXDATE") exdate_name taken exceptions w.takes ∙ sym (takes_of r lacks)) (times_back (codes "EXDATE") exdate_name taken exceptions w.takes object)

  few_back : length back_added ≤ most_entries
  few_back = let short = times_short (codes "RDATE") rdate_name added additions w.adds in let few : length added ≤ 366 = w.few_added in omega (arith, short, few)

  few_gone : length back_taken ≤ most_entries
  few_gone = let short = times_short (codes "EXDATE") exdate_name taken exceptions w.takes in let few : length taken ≤ 366 = w.few_taken in omega (arith, short, few)

  rules_of : (r : Option (List ℕ)) → lines_named (codes "RRULE") (own_front r uid sequence stamp) ≡ [] → lines_named (codes "RRULE") (own r) ≡ rules
  rules_of r lacks = rules_named name event slot start duration rules additions exceptions back added taken w (own_front r uid sequence stamp) behind ∙ (λ i. (lacks i ++ (rules ++ [])) ++ none_behind (codes "RRULE") elsewhere_rule i) ∙ append-nil (rules ++ []) ∙ append-nil rules

  -- the rule that they say
  rule_of_lines : (r : Option (List ℕ)) → lines_named (codes "RRULE") (own_front r uid sequence stamp) ≡ [] → lines_named (codes "DTSTART") (own_front r uid sequence stamp) ≡ [] → SaysEventRule (own r) event.times back
  rule_of_lines r lacks no_start = go back w.recurs
    where
      starts : start ∷ [] ≡ lines_named (codes "DTSTART") (own r)
      starts =
          sym (start_once name event slot start duration rules additions exceptions back added taken w (own_front r uid sequence stamp) behind
          ∙ (λ i. (no_start i ++ start ∷ []) ++ none_behind (codes "DTSTART") elsewhere_start i))

      go : (o : Option Rule) → SpellRule (clock_of event.times.zone) event.times.local rules o → SaysEventRule (own r) event.times o
      go None none = record {
        text = None;
        spells = record { line = None; once = rules_of r lacks ∙ none; present = λ h. absurd (false≢true h); is = tt };
        gives = subst (λ (l : Lines). GivesBeside l event.times None None) starts tt;
      }
      go (Some o) (value, are, shown, (text, spelled, gives)) = record {
        text = Some text;
        spells = record { line = Some (codes "RRULE:" ++ value); once = rules_of r lacks ∙ are; present = λ h. absurd (false≢true h); is = spelled };
        gives = subst (λ (l : Lines). GivesBeside l event.times (Some text) (Some o)) starts gives;
      }

  pub own_says : SpellSlot recurrence slot → (object : Tree) → MeansZone object name event.times.zone
      → SaysEventComponent object (Some Request) (own_lines recurrence uid sequence stamp (when_lines start duration rules additions exceptions) behind) (event_again event slot organiser revision back back_added back_taken is_cancelled about said)
  own_says spells object m = go recurrence slot spells w.alone
    where
      go : (r : Option (List ℕ)) (o : Option ℤ) → SpellSlot r o → IsAlone o rules additions → SaysEventComponent object (Some Request) (own r) (event_again event o organiser revision back back_added back_taken is_cancelled about said)
      go None (Some i) q a = absurd q
      go (Some text) None q a = absurd q
      go None None q a = record {
        uid = record { line = Some (codes "UID:" ++ uid); once = named_of None (codes "UID") refl (λ v. refl) refl refl (λ rest. refl) [] (none_behind (codes "UID") elsewhere_uid); present = λ _. refl; is = (s.uid_there, s.is_uid) };
        organiser = record { line = Some (codes "ORGANIZER:" ++ organiser); once = named_of None (codes "ORGANIZER") refl (λ v. refl) refl refl (λ rest. refl) _ b.organised; present = λ _. refl; is = (s.organised, sym s.lower) };
        stamp = record { line = Some (codes "DTSTAMP:" ++ stamp); once = named_of None (codes "DTSTAMP") refl (λ v. refl) refl refl (λ rest. refl) [] (none_behind (codes "DTSTAMP") elsewhere_stamp); present = λ _. refl; is = s.stamped_is };
        sequence = (Some revision.sequence, record { line = Some (codes "SEQUENCE:" ++ sequence); once = named_of None (codes "SEQUENCE") refl (λ v. refl) refl refl (λ rest. refl) [] (none_behind (codes "SEQUENCE") elsewhere_sequence); present = λ _. refl; is = s.numbered }, refl);
        status = (b.status.0, named_of None (codes "STATUS") refl (λ v. refl) refl refl (λ rest. refl) _ b.status.1, b.status.2);
        times = inl (times_of None object m refl refl refl);
        rule = rule_of_lines None refl refl;
        occurrences = record {
          is = record { line = None; once = named_of None (codes "RECURRENCE-ID") refl (λ v. refl) refl refl (λ rest. refl) [] (none_behind (codes "RECURRENCE-ID") elsewhere_recurrence); present = λ h. absurd (false≢true h); is = tt };
          fixed_recurrence = λ h. absurd (false≢true h);
          adds = (entries_added None object refl, few_back);
          inside = entries_inside None object refl;
          takes = (entries_taken None object refl, few_gone);
          alone = ap (λ x. (false || x) && list_any (λ line. is_of (codes "RRULE") line || is_of (codes "RDATE") line) (own None)) (none_passes (is_of (codes "RECURRENCE-ID")) (own None) (named_of None (codes "RECURRENCE-ID") refl (λ v. refl) refl refl (λ rest. refl) [] (none_behind (codes "RECURRENCE-ID") elsewhere_recurrence)));
        };
        instants = record { slot = refl; added = refl; taken = refl };
        summary = b.summary ∙ sym (ap first_text (named_of None (codes "SUMMARY") refl (λ v. refl) refl refl (λ rest. refl) _ refl));
        attendees = subst (λ (l : Lines). AllZip IsAttendee l said) (sym (named_of None (codes "ATTENDEE") refl (λ v. refl) refl refl (λ rest. refl) _ refl)) b.attendees;
      }
      go (Some text) (Some i) q a = record {
        uid = record { line = Some (codes "UID:" ++ uid); once = named_of (Some text) (codes "UID") refl (λ v. refl) refl refl (λ rest. refl) [] (none_behind (codes "UID") elsewhere_uid); present = λ _. refl; is = (s.uid_there, s.is_uid) };
        organiser = record { line = Some (codes "ORGANIZER:" ++ organiser); once = named_of (Some text) (codes "ORGANIZER") refl (λ v. refl) refl refl (λ rest. refl) _ b.organised; present = λ _. refl; is = (s.organised, sym s.lower) };
        stamp = record { line = Some (codes "DTSTAMP:" ++ stamp); once = named_of (Some text) (codes "DTSTAMP") refl (λ v. refl) refl refl (λ rest. refl) [] (none_behind (codes "DTSTAMP") elsewhere_stamp); present = λ _. refl; is = s.stamped_is };
        sequence = (Some revision.sequence, record { line = Some (codes "SEQUENCE:" ++ sequence); once = named_of (Some text) (codes "SEQUENCE") refl (λ v. refl) refl refl (λ rest. refl) [] (none_behind (codes "SEQUENCE") elsewhere_sequence); present = λ _. refl; is = s.numbered }, refl);
        status = (b.status.0, named_of (Some text) (codes "STATUS") refl (λ v. refl) refl refl (λ rest. refl) _ b.status.1, b.status.2);
        times = inl (times_of (Some text) object m refl refl refl);
        rule = rule_of_lines (Some text) refl refl;
        occurrences = record {
          is = record { line = Some (codes "RECURRENCE-ID:" ++ text); once = named_of (Some text) (codes "RECURRENCE-ID") refl (λ v. refl) refl refl (λ rest. refl) [] (none_behind (codes "RECURRENCE-ID") elsewhere_recurrence); present = λ h. absurd (false≢true h); is = (refl, (None, i, (refl, q.0), utc_means i, (q.1.0, q.1.0, q.1.1))) };
          fixed_recurrence = λ h. absurd (false≢true h);
          adds = (entries_added (Some text) object refl, few_back);
          inside = entries_inside (Some text) object refl;
          takes = (entries_taken (Some text) object refl, few_gone);
          alone =
              let none : list_any (λ line. is_of (codes "RRULE") line || is_of (codes "RDATE") line) (own (Some text)) ≡ false =
              none_of_both (is_of (codes "RRULE")) (is_of (codes "RDATE")) (own (Some text)) (none_passes (is_of (codes "RRULE")) (own (Some text)) (rules_of (Some text) refl ∙ a.0)) (none_passes (is_of (codes "RDATE")) (own (Some text)) (adds_of (Some text) refl ∙ a.1)) in
              ap (λ x. (false || list_any (is_of (codes "RECURRENCE-ID")) (own (Some text))) && x) none ∙ and-false (false || list_any (is_of (codes "RECURRENCE-ID")) (own (Some text)));
        };
        instants = record { slot = refl; added = refl; taken = refl };
        summary = b.summary ∙ sym (ap first_text (named_of (Some text) (codes "SUMMARY") refl (λ v. refl) refl refl (λ rest. refl) _ refl));
        attendees = subst (λ (l : Lines). AllZip IsAttendee l said) (sym (named_of (Some text) (codes "ATTENDEE") refl (λ v. refl) refl refl (λ rest. refl) _ refl)) b.attendees;
      }

-- an object without METHOD needs no more than a REQUEST does
pub as_event : (object : Tree) (lines : Lines) (event : EventComponent) → SaysEventComponent object (Some Request) lines event → SaysEventComponent object None lines event
as_event object lines event s = record {
  uid = s.uid;
  organiser = record { line = s.organiser.line; once = s.organiser.once; present = λ h. s.organiser.present refl; is = s.organiser.is };
  stamp = record { line = s.stamp.line; once = s.stamp.once; present = λ h. s.stamp.present refl; is = s.stamp.is };
  sequence = s.sequence;
  status = s.status;
  times = s.times;
  rule = s.rule;
  occurrences = record { is = s.occurrences.is; fixed_recurrence = λ h. absurd (false≢true h); adds = s.occurrences.adds; inside = s.occurrences.inside; takes = s.occurrences.takes; alone = s.occurrences.alone };
  instants = s.instants;
  summary = s.summary;
  attendees = s.attendees;
}
