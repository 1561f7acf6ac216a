-- The lines of a VEVENT of an object say at most one event, and none where they have a fault.
-- Cited by one_event.
use Rattle.std.proofs.Common.{◌≡◌, ℕ, Bool, true, false, List, [], codes, subst, sym, refl, ap, ◌∙◌, arith, ℤ}
use Rattle.std.specs.Prelude.{Option, Some, None, is_some, unwrap_or, not}
use Rattle.std.specs.Option.{option_to_list}
use Rattle.std.proofs.lemmas.Bool.{true≢false, false≢true}
use Rattle.std.proofs.lemmas.Option.{same_Some}
use Rattle.profile.specs.text.Lines.{line_value}
use Rattle.profile.specs.text.Values.{SpellsStamp, SpellsSequence, IsUid, unescaped}
use Rattle.profile.specs.text.Trees.{Tree}
use Rattle.profile.specs.events.EventComponents.{Method, Store, Request, Add, Cancel, Reply, Refresh, SaysEventComponent, EventComponent, Attendee, IsAttendee, EventComponentFault, PresenceFault, twice, missing, Property, UID, ORGANIZER, DTSTAMP, SEQUENCE, STATUS, RECURRENCE-ID, DTSTART, DTEND, DURATION, RRULE, RDATE, EXDATE, ATTENDEE, SUMMARY, property_name, presence, is_once, occurs_once, in_presence, in_times, in_rule, in_occurrences, bad_stamp, bad_uid, bad_organiser, bad_attendee, bad_sequence}
use Rattle.profile.specs.events.Properties.{lines_named, IsMissing, Says, IsUidLine, IsAddressLine, IsStampLine, IsSequenceLine, IsNoStamp, IsNoAddress, IsNoSequence, TimeKind, Unsaid, DateTime, Date, Period, Other, time_kind, KindFault, TimeFault}
use Rattle.ical_tree.proofs.OneLine.{IsFunctional}
use Rattle.cal_events.proofs.component_lemmas.Said.{same_said, said_by}
use Rattle.cal_events.proofs.shared_lemmas.Zips.{zip_one, zip_at}
use Rattle.cal_events.proofs.component_lemmas.OneOccurrences.{one_status, one_occurrences, one_of_written, no_occurrence_fault}
use Rattle.cal_events.proofs.component_lemmas.OneEventRule.{OneRule, NoRuleFault, one_event_rule, no_rule_fault_by}
use Rattle.cal_events.proofs.shared_lemmas.OneTimes.{Lines, OneZonedTime, NoTimeFault, OneDuration, NotBoth, IsLone, at_most_one, one_times_by, no_times_fault_by, times_lone, start_there}

abbrev OneStamp : Type 0
OneStamp = (text : List ℕ) (a b : ℤ) → SpellsStamp text a → SpellsStamp text b → a ≡ b

abbrev OneSequence : Type 0
OneSequence = (text : List ℕ) (a b : ℕ) → SpellsSequence text a → SpellsSequence text b → a ≡ b

-- ---- functional values

pub uid_one : IsFunctional IsUidLine
uid_one line a b h k = h.0 ∙ sym k.0

pub address_one : IsFunctional IsAddressLine
address_one line a b h k = h.1 ∙ sym k.1

stamp_one : OneStamp → IsFunctional IsStampLine
stamp_one one line a b h k = one (line_value line) a b h k

sequence_one : OneSequence → IsFunctional IsSequenceLine
sequence_one one line a b h k = one (line_value line) a b h k

attendee_same : (a b : Attendee) → a.address ≡ b.address → a.participation ≡ b.participation → a.scheduled ≡ b.scheduled → a ≡ b
attendee_same a b p q r = λ i. record { address = p i; participation = q i; scheduled = r i }

attendee_one : IsFunctional IsAttendee
attendee_one line a b h k = attendee_same a b (h.address.1 ∙ sym k.address.1) (h.participation ∙ sym k.participation) (h.scheduled ∙ sym k.scheduled)

event_same : (a b : EventComponent) → a.uid ≡ b.uid → a.organiser ≡ b.organiser → a.stamp ≡ b.stamp → a.sequence ≡ b.sequence → a.cancelled ≡ b.cancelled → a.recurrence ≡ b.recurrence
    → a.times ≡ b.times → a.rule ≡ b.rule → a.additions ≡ b.additions → a.exceptions ≡ b.exceptions → a.written ≡ b.written → a.summary ≡ b.summary → a.attendees ≡ b.attendees → a ≡ b
event_same a b p q r s c o t w x y v z u = λ i. record {
  uid = p i;
  organiser = q i;
  stamp = r i;
  sequence = s i;
  cancelled = c i;
  recurrence = o i;
  times = t i;
  rule = w i;
  additions = x i;
  exceptions = y i;
  written = v i;
  summary = z i;
  attendees = u i;
}

pub one_event : OneStamp → OneDuration → OneSequence → OneZonedTime → OneRule → (object : Tree) (m : Option Method) (lines : Lines) (a b : EventComponent) → SaysEventComponent object m lines a → SaysEventComponent object m lines b → a ≡ b
one_event one two three zoned rules object m lines a b s t =
    let written = one_occurrences zoned object lines a.written b.written s.occurrences t.occurrences in
    let same = one_of_written a.written b.written a.recurrence b.recurrence a.additions b.additions a.exceptions b.exceptions written s.instants t.instants in
    let given = same_said IsSequenceLine (codes "SEQUENCE") false lines s.sequence.0 t.sequence.0 (sequence_one three) s.sequence.1 t.sequence.1 in
    event_same a b
    (same_Some a.uid b.uid (same_said IsUidLine (codes "UID") true lines (Some a.uid) (Some b.uid) uid_one s.uid t.uid))
    (same_said IsAddressLine (codes "ORGANIZER") (is_once (presence ORGANIZER m)) lines a.organiser b.organiser address_one s.organiser t.organiser)
    (same_said IsStampLine (codes "DTSTAMP") (is_once (presence DTSTAMP m)) lines a.stamp b.stamp (stamp_one one) s.stamp t.stamp)
    (s.sequence.2 ∙ ap (λ (o : Option ℕ). unwrap_or o 0) given ∙ sym t.sequence.2)
    (one_status lines a.cancelled b.cancelled s.status t.status)
    same.0
    (one_times_by zoned two object lines a.times b.times s.times t.times)
    (one_event_rule zoned two rules object lines a.times b.times a.rule b.rule s.times t.times s.rule t.rule)
    same.1
    same.2
    written
    (s.summary ∙ sym t.summary)
    (zip_one IsAttendee attendee_one (lines_named (codes "ATTENDEE") lines) a.attendees b.attendees s.attendees t.attendees)

-- ---- a start or an end has at most one fault

kind_number : (kind : TimeKind) (text : List ℕ) (m n : ℕ) → KindFault kind text m → KindFault kind text n → m ≡ n
kind_number Unsaid text m n h k = h.1.2 ∙ sym k.1.2
kind_number DateTime text m n h k = h.2 ∙ sym k.2
kind_number Date text m n h k = h.1 ∙ sym k.1
kind_number Period text m n h k = h ∙ sym k
kind_number Other text m n h k = h ∙ sym k

pub one_number : (line : List ℕ) (m n : ℕ) → TimeFault line m → TimeFault line n → m ≡ n
one_number line m n h k = kind_number (time_kind line) (line_value line) m n h k

-- ---- there is no fault where an event is said

present_some : {V : Type 0} (R : List ℕ → V → Type 0) (name : List ℕ) (m : Bool) (lines : Lines) (v : Option V) → Says name m R lines v → m ≡ true → IsMissing name lines → ⊥
present_some R name m lines v s t lacks = go s.line (sym s.once ∙ lacks) (s.present t)
  where
    go : (l : Option (List ℕ)) → option_to_list l ≡ [] → is_some l ≡ true → ⊥
    go None h k = true≢false (sym k)
    go (Some x) h k = cc

module _ (two : OneDuration) (apart : NotBoth) (zoned : OneZonedTime) (sound : NoTimeFault) (rules : OneRule) (faultless : NoRuleFault) (object : Tree) (m : Option Method) (lines : Lines) (event : EventComponent) (s : SaysEventComponent object m lines event) where
  -- a property that may occur once does so at most
  lone : (property : Property) → occurs_once property ≡ true → IsLone lines (property_name property)
  lone UID _ = at_most_one (codes "UID") lines s.uid.line s.uid.once
  lone ORGANIZER _ = at_most_one (codes "ORGANIZER") lines s.organiser.line s.organiser.once
  lone DTSTAMP _ = at_most_one (codes "DTSTAMP") lines s.stamp.line s.stamp.once
  lone SEQUENCE _ = at_most_one (codes "SEQUENCE") lines s.sequence.1.line s.sequence.1.once
  lone STATUS _ = at_most_one (codes "STATUS") lines s.status.0 s.status.1
  lone RECURRENCE-ID _ = at_most_one (codes "RECURRENCE-ID") lines s.occurrences.is.line s.occurrences.is.once
  lone DTSTART _ = (times_lone object lines event.times s.times).0
  lone DTEND _ = (times_lone object lines event.times s.times).1
  lone DURATION _ = (times_lone object lines event.times s.times).2
  lone RRULE _ = at_most_one (codes "RRULE") lines s.rule.spells.line s.rule.spells.once
  lone RDATE h = absurd (false≢true h)
  lone EXDATE h = absurd (false≢true h)
  lone ATTENDEE h = absurd (false≢true h)
  lone SUMMARY h = absurd (false≢true h)

  -- one that has to occur is there
  present : (property : Property) → is_once (presence property m) ≡ true → IsMissing (property_name property) lines → ⊥
  present UID t h = present_some IsUidLine (codes "UID") true lines (Some event.uid) s.uid refl h
  present ORGANIZER t h = present_some IsAddressLine (codes "ORGANIZER") (is_once (presence ORGANIZER m)) lines event.organiser s.organiser t h
  present DTSTAMP t h = present_some IsStampLine (codes "DTSTAMP") (is_once (presence DTSTAMP m)) lines event.stamp s.stamp t h
  present DTSTART t h = start_there object lines event.times s.times (ap not t) h
  present SEQUENCE t h = false≢true t
  present STATUS t h = false≢true t
  present RECURRENCE-ID t h = false≢true t
  present DTEND t h = false≢true t
  present DURATION t h = false≢true t
  present RRULE t h = never_once m t
    where
      never_once : (m : Option Method) → is_once (presence RRULE m) ≡ true → ⊥
      never_once None t = false≢true t
      never_once (Some Store) t = false≢true t
      never_once (Some Request) t = false≢true t
      never_once (Some Add) t = false≢true t
      never_once (Some Cancel) t = false≢true t
      never_once (Some Reply) t = false≢true t
      never_once (Some Refresh) t = false≢true t
  present RDATE t h = never_once m t
    where
      never_once : (m : Option Method) → is_once (presence RDATE m) ≡ true → ⊥
      never_once None t = false≢true t
      never_once (Some Store) t = false≢true t
      never_once (Some Request) t = false≢true t
      never_once (Some Add) t = false≢true t
      never_once (Some Cancel) t = false≢true t
      never_once (Some Reply) t = false≢true t
      never_once (Some Refresh) t = false≢true t
  present EXDATE t h = false≢true t
  present ATTENDEE t h = never_once m t
    where
      never_once : (m : Option Method) → is_once (presence ATTENDEE m) ≡ true → ⊥
      never_once None t = false≢true t
      never_once (Some Store) t = false≢true t
      never_once (Some Request) t = false≢true t
      never_once (Some Add) t = false≢true t
      never_once (Some Cancel) t = false≢true t
      never_once (Some Reply) t = false≢true t
      never_once (Some Refresh) t = false≢true t
  present SUMMARY t h = false≢true t

  no_presence_fault : (n : ℕ) → PresenceFault m lines n → ⊥
  no_presence_fault n (twice property once h) = let l = lone property once in absurd (omega (arith, l, h))
  no_presence_fault n (missing property asked h) = present property asked h

  pub no_fault : (n : ℕ) → EventComponentFault object m lines n → ⊥
  no_fault n (in_presence f) = no_presence_fault n f
  no_fault n (in_times f) = no_times_fault_by zoned sound two apart object lines event.times s.times n f
  no_fault n (in_rule f) = no_rule_fault_by zoned rules faultless object lines event.times event.rule s.times s.rule n f
  no_fault n (in_occurrences f) = no_occurrence_fault zoned sound object lines event.written s.occurrences n f
  no_fault n (bad_stamp l) = let f = said_by IsStampLine (λ line. IsNoStamp (line_value line)) (codes "DTSTAMP") (is_once (presence DTSTAMP m)) lines event.stamp s.stamp l in l.2 f.0 f.1
  no_fault n (bad_uid l) =
      let f = said_by IsUidLine (λ line. IsUid (unescaped (line_value line)) → ⊥) (codes "UID") true lines (Some event.uid) s.uid l in l.2 (subst IsUid f.1.0 f.1.1)
  no_fault n (bad_organiser l) = let f = said_by IsAddressLine IsNoAddress (codes "ORGANIZER") (is_once (presence ORGANIZER m)) lines event.organiser s.organiser l in l.2 f.1.0
  no_fault n (bad_attendee l) = let f = zip_at IsAttendee (lines_named (codes "ATTENDEE") lines) event.attendees l.0 s.attendees l.1 in l.2 f.1.address.0
  no_fault n (bad_sequence l) = let f = said_by IsSequenceLine IsNoSequence (codes "SEQUENCE") false lines s.sequence.0 s.sequence.1 l in l.2 f.0 f.1
