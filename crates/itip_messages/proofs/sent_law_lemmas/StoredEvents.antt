-- What is known of the events of a store that was read: their texts can be in lines, and they say when they are.
-- Cited by stored_texts_can_be_sent.
use Rattle.std.proofs.Common.{◌≡◌, ◌∙◌, refl, sym, ap, subst, inl, inr, ℕ, ℤ, ◌<◌, ◌≤◌, ◌^◌, nat_lt, true, false, List, [], ◌∷◌, length, filter, codes, Option, Some, None, is_some, arith}
use Rattle.std.specs.Prelude.{Contains, count_by, option_map, unwrap_or}
use Rattle.std.specs.List.{AllZip}
use Rattle.std.proofs.lemmas.Bool.{false≢true}
use Rattle.std.proofs.lemmas.Bool.Decides.{nat_tests}
use Rattle.std.proofs.lemmas.List.{length-map}
use Rattle.std.proofs.lemmas.List.Sums.{length-filter}
use Rattle.std.proofs.lemmas.Str.{IsUtf8-nil}
use Rattle.profile.specs.text.Lines.{is_same_name, line_param, line_value, logical_lines}
use Rattle.profile.specs.text.Objects.{most_events}
use Rattle.profile.specs.text.Trees.{Tree, tree_inside, tree_name, tree_own, vevents}
use Rattle.profile.specs.rooms.Revisions.{Revision}
use Rattle.profile.specs.text.Values.{IsUid}
use Rattle.profile.specs.series.Zones.{IsOneMeaning}
use Rattle.profile.specs.events.EventComponents.{AreOfWritten, Attendee, EventComponent, IsAttendee, SaysEventComponent, first_text, meeting_said, Method, Store}
use Rattle.profile.specs.events.Events.{InstancesDiffer, is_master, is_override, taken_by}
use Rattle.profile.specs.events.Properties.{Fixed, BothOrNeither, IsAddressLine, IsUidLine, Says, OccursAtMostOnce, is_of, lines_named}
use Rattle.profile.specs.events.ZonedTimes.{EventTimes, SaysTimes, clock_of}
use Rattle.profile.specs.events.Occurrences.{IsFixedWhere, Time}
use Rattle.profile.specs.events.Messages.{Message, SpellsMessage}
use Rattle.cal_events.specs.MeetingComponents.{IsInEventDates}
use Rattle.cal_events.proofs.shared_lemmas.OneInstance.{event_sound}
use Rattle.cal_events.proofs.shared_lemmas.Zips.{zip_length}
use Rattle.ical_lines.proofs.CleanLines.{IsClean}
use Rattle.ical_values.proofs.Addresses.{lower_address, lower_twice}
use Rattle.itip_order.proofs.Lists.{filter_at, in_cons, in_head, in_tail, none_in_nil}
use Rattle.itip_messages.specs.Law.{IsTextValue}
use Rattle.itip_messages.specs.SentLaw.{IsSentAddress, IsSentName, time_as}
use Rattle.itip_messages.proofs.shared_lemmas.CleanText.{text_address}
use Rattle.itip_messages.proofs.shared_lemmas.CleanUids.{text_value}
use Rattle.itip_messages.proofs.shared_lemmas.EventLines.{clean_value, vevent_among}
use Rattle.itip_messages.proofs.shared_lemmas.ObjectTree.{Lines}
use Rattle.itip_messages.proofs.shared_lemmas.OwnWhen.{EventFacts, stored_facts}
use Rattle.itip_messages.proofs.shared_lemmas.TimesApart.{instants_apart}
use Rattle.itip_messages.proofs.shared_lemmas.ZonedStarts.{IsSaid, form_said}

-- one of the events, of this meeting
pub record IsStored (organiser uid : List ℕ) (event : EventComponent) : Type 0 where
  pub organised : event.organiser ≡ Some organiser
  pub address : IsSentAddress organiser
  pub named : event.uid ≡ uid
  pub is_uid : IsUid uid
  pub text : IsTextValue uid
  pub summary : IsTextValue event.summary
  pub attendees : (attendee : Attendee) → Contains event.attendees attendee → IsSentAddress attendee.address
  pub facts : EventFacts event false
  pub meaning : IsOneMeaning (clock_of event.times.zone)
  pub dated : (t : ℤ) → event.recurrence ≡ Some t → IsInEventDates t
  pub zone : IsSaid event.times.zone
  -- an instance is named by a fixed time
  pub slot : event.written.recurrence ≡ option_map (time_as Fixed) event.recurrence
  pub instants : AreOfWritten event.written event.recurrence event.additions event.exceptions

-- all of them
pub record AreStored (organiser uid : List ℕ) (events : List EventComponent) : Type 0 where
  pub each : (event : EventComponent) → Contains events event → IsStored organiser uid event
  pub some : 0 < length events
  pub few : length events ≤ most_events
  pub masters : length (filter is_master events) ≤ 1
  pub differ : InstancesDiffer (filter is_override events)

-- ---- what the lines say

zone_said : (object : Tree) (lines : Lines) (times : EventTimes) → SaysTimes false object lines times → IsSaid times.zone
zone_said object lines times (inl t) = form_said object (line_param (codes "TZID") t.line) (line_value t.line) times.form times.zone times.local t.says.1
zone_said object lines times (inr lacks) = absurd (false≢true lacks.0)

fixed_slot : (given : Option Time) (recurrence : Option ℤ) → IsFixedWhere true given → recurrence ≡ option_map (λ time. time.instant) given → given ≡ option_map (time_as Fixed) recurrence
fixed_slot None recurrence f e = sym (ap (option_map (time_as Fixed)) e)
fixed_slot (Some time) recurrence f e = (λ i. Some (record { form = f refl time refl i; instant = time.instant })) ∙ sym (ap (option_map (time_as Fixed)) e)

-- an address in lower case
sent_address : (text : List ℕ) (line : List ℕ) → IsAddressLine line text → IsClean (line_value line) → IsSentAddress text
sent_address text line a clean =
    subst IsSentAddress (sym a.1)
    (record { read = record { address = lower_address (line_value line) a.0; lower = lower_twice (line_value line) }; utf8 = (text_address (line_value line) a.0 clean.utf8).utf8 })

-- values whose lines are clean
abbrev AreCleanIn : Lines → Type 0
AreCleanIn lines = (line : List ℕ) → Contains lines line → IsClean (line_value line)

named_in : (name : List ℕ) (lines : Lines) (line : List ℕ) → Contains (lines_named name lines) line → Contains lines line
named_in name lines line c = (filter_at (is_of name) lines line c).0

organiser_there : (lines : Lines) → AreCleanIn lines → (given : Option (List ℕ)) → Says (codes "ORGANIZER") true IsAddressLine lines given → (organiser : List ℕ) → unwrap_or given [] ≡ organiser → (given ≡ Some organiser) × IsSentAddress organiser
organiser_there lines clean given s organiser e = go s.line given s.once (s.present refl) s.is e
  where
    go : (line given : Option (List ℕ)) → OccursAtMostOnce (codes "ORGANIZER") lines line → is_some line ≡ true → BothOrNeither IsAddressLine line given → unwrap_or given [] ≡ organiser → (given ≡ Some organiser) × IsSentAddress organiser
    go None given once present is e = absurd (false≢true present)
    go (Some l) None once present is e = absurd is
    go (Some l) (Some g) once present is e = (
      ap Some e,
      subst IsSentAddress e (sent_address g l is (clean l (named_in (codes "ORGANIZER") lines l (subst (λ (x : Lines). Contains x l) (sym once) (in_head l []))))),
    )

uid_there : (lines : Lines) → AreCleanIn lines → (uid : List ℕ) → Says (codes "UID") true IsUidLine lines (Some uid) → IsUid uid × IsTextValue uid
uid_there lines clean uid s = go s.line s.once s.is
  where
    go : (line : Option (List ℕ)) → OccursAtMostOnce (codes "UID") lines line → BothOrNeither IsUidLine line (Some uid) → IsUid uid × IsTextValue uid
    go None once is = absurd is
    go (Some l) once is = (
      is.1,
      subst IsTextValue (sym is.0) (text_value (line_value l) (clean l (named_in (codes "UID") lines l (subst (λ (x : Lines). Contains x l) (sym once) (in_head l []))))),
    )

summary_text : (lines named : Lines) → AreCleanIn lines → ((line : List ℕ) → Contains named line → Contains lines line) → IsTextValue (first_text named)
summary_text lines [] clean f = record { calm = refl; utf8 = IsUtf8-nil }
summary_text lines (line ∷ more) clean f = text_value (line_value line) (clean line (f line (in_head line more)))

attendees_there : (named : Lines) (attendees : List Attendee) → AllZip IsAttendee named attendees → ((line : List ℕ) → Contains named line → IsClean (line_value line)) → (attendee : Attendee) → Contains attendees attendee → IsSentAddress attendee.address
attendees_there named [] z f a c = absurd (none_in_nil a c)
attendees_there [] (b ∷ more) z f a c = absurd z
attendees_there (line ∷ named) (b ∷ more) z f a c = elim (in_cons b more a c) [
  | inl here ↦ subst (λ (x : Attendee). IsSentAddress x.address) here (sent_address b.address line z.0.address (f line (in_head line named)))
  | inr there ↦ attendees_there named more z.1 (λ l k. f l (in_tail line named l k)) a there
]

stored_one : (object : Tree) (lines : Lines) (event : EventComponent) (organiser uid : List ℕ) → AreCleanIn lines → SaysEventComponent object (Some Store) lines event → meeting_said event ≡ (organiser, uid) → IsStored organiser uid event
stored_one object lines event organiser uid clean s meeting =
    let o = organiser_there lines clean event.organiser s.organiser organiser (ap (λ (m : List ℕ × List ℕ). m.0) meeting) in
    let same : event.uid ≡ uid = ap (λ (m : List ℕ × List ℕ). m.1) meeting in
    let u = uid_there lines clean event.uid s.uid in
    let sound = event_sound object lines event s in
    record {
      organised = o.0;
      address = o.1;
      named = same;
      is_uid = subst IsUid same u.0;
      text = subst IsTextValue same u.1;
      summary = subst IsTextValue (sym s.summary) (summary_text lines (lines_named (codes "SUMMARY") lines) clean (named_in (codes "SUMMARY") lines));
      attendees = attendees_there (lines_named (codes "ATTENDEE") lines) event.attendees s.attendees (λ l c. clean l (named_in (codes "ATTENDEE") lines l c));
      facts = stored_facts object lines event s;
      meaning = sound.steady.meaning;
      dated = sound.names;
      zone = zone_said object lines event.times s.times;
      slot = fixed_slot event.written.recurrence event.recurrence s.occurrences.fixed_recurrence s.instants.slot;
      instants = s.instants;
    }

-- ---- all of them

stored_from : (object : Tree) (vs : List Lines) (events : List EventComponent) (organiser uid : List ℕ) → ((lines : Lines) → Contains vs lines → AreCleanIn lines) → AllZip (SaysEventComponent object (Some Store)) vs events
    → ((event : EventComponent) → Contains events event → meeting_said event ≡ (organiser, uid)) → (event : EventComponent) → Contains events event → IsStored organiser uid event
stored_from object vs [] organiser uid clean z f event c = absurd (none_in_nil event c)
stored_from object [] (e ∷ events) organiser uid clean z f event c = absurd z
stored_from object (lines ∷ vs) (e ∷ events) organiser uid clean z f event c = elim (in_cons e events event c) [
  | inl here ↦ subst (IsStored organiser uid) here (stored_one object lines e organiser uid (clean lines (in_head lines vs)) z.0 (f e (in_head e events)))
  | inr there ↦ stored_from object vs events organiser uid (λ l k. clean l (in_tail lines vs l k)) z.1 (λ x k. f x (in_tail e events x k)) event there
]

at_most : (a b : ℕ) → nat_lt a b ≡ false → b ≤ a
at_most a b h = omega (arith, nat_le_from a b h)
  where
    nat_le_from : (a b : ℕ) → nat_lt a b ≡ false → b ≤ a
    nat_le_from a b h = grind (arith, nat_tests)

pub stored_events : (octets : List ℕ) (said : Message) → SpellsMessage octets said → said.method ≡ Store → AreStored said.organiser said.uid said.events
stored_events octets said s store =
    let whole = s.tree in
    let as_told : AllZip (SaysEventComponent whole (Some Store)) (vevents whole) s.says.events = subst (λ (m : Method). AllZip (SaysEventComponent whole (Some m)) (vevents whole) s.says.events) store s.says.says in
    let taken : said.events ≡ s.says.events = subst (λ (m : Method). said.events ≡ taken_by (Some m) s.says.events) store s.says.taken in
    let says = subst (AllZip (SaysEventComponent whole (Some Store)) (vevents whole)) (sym taken) as_told in
    let inside = filter (λ part. is_same_name (tree_name part) (codes "VEVENT")) (tree_inside whole) in
    let count : length said.events ≡ count_by (λ part. is_same_name (tree_name part) (codes "VEVENT")) (tree_inside whole) =
    sym (zip_length (SaysEventComponent whole (Some Store)) (vevents whole) said.events says) ∙ length-map inside tree_own ∙ length-filter (λ part. is_same_name (tree_name part) (codes "VEVENT")) (tree_inside whole) in
    let each =
    stored_from whole (vevents whole) said.events said.organiser said.uid
    (λ lines c line l. clean_value true octets line s.lines (vevent_among true whole (logical_lines octets) lines s.object c line l))
    says s.says.are.of_it in
    record {
      each = each;
      some = s.says.are.some;
      few = let most = at_most most_events _ s.object.events in omega (arith, count, most);
      masters = s.says.are.masters;
      differ = instants_apart said.events (λ event c. (each event c).slot) s.says.are.differ;
    }

-- ---- what is sent of it

pub stored_name : (octets : List ℕ) (said : Message) (revision : Revision) → SpellsMessage octets said → said.method ≡ Store → revision.sequence < 2 ^ 31 → IsSentName said.organiser said.uid revision
stored_name octets said revision s store small =
    let f = stored_events octets said s store in
    let one = first_of said.events f.some in
    let is = f.each one.0 one.1 in
    record { address = is.address; is_uid = is.is_uid; text = is.text; small = small }
  where
    first_of : (events : List EventComponent) → 0 < length events → (event : EventComponent) × Contains events event
    first_of [] h = absurd (omega (arith, h))
    first_of (e ∷ events) h = (e, in_head e events)

pub stored_attendee : (octets : List ℕ) (said : Message) (event : EventComponent) (attendee : Attendee) → SpellsMessage octets said → said.method ≡ Store → Contains said.events event → Contains event.attendees attendee → IsSentAddress attendee.address
stored_attendee octets said event attendee s store c k = ((stored_events octets said s store).each event c).attendees attendee k
