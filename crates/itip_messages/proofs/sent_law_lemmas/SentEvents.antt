-- A VEVENT that is sent of a stored event says it again.
-- Behind requests_read_back, shown_reads_back.
use Rattle.std.proofs.Common.{◌≡◌, ◌∙◌, refl, sym, ap, subst, ℕ, ℤ, ◌<◌, ◌^◌, false, List, [], ◌∷◌, ◌++◌, codes, decimal, Option, Some, None, inl, inr, arith, append_assoc, not}
use Rattle.std.specs.Prelude.{Contains, filter, option_map}
use Rattle.std.specs.List.{AllZip}
use Rattle.std.specs.Str.{bytes_eq}
use Rattle.profile.specs.events.EventComponents.{Attendee, EventComponent, Request, SaysEventComponent}
use Rattle.profile.specs.events.Messages.{counted}
use Rattle.profile.specs.organisers.Sent.{Component, IsComponentOf, IsComponentText, status_lines}
use Rattle.profile.specs.rooms.Messages.{Content, IsContent, WritesListed, may_take, slot_of}
use Rattle.profile.specs.rooms.Revisions.{Revision, Slot}
use Rattle.profile.specs.text.Values.{IsUid, escaped}
use Rattle.cal_events.proofs.shared_lemmas.InOneOrder.{of_filtered}
use Rattle.ical_lines.proofs.CleanLines.{clean_shown, shown_decimal}
use Rattle.ical_values.proofs.Escapes.{read_back}
use Rattle.ical_values.proofs.Readings.{sequence_written, stamp_written}
use Rattle.ical_values.proofs.ShownValues.{shown_stamp}
use Rattle.itip_order.proofs.Lists.{in_cons, in_head, in_tail}
use Rattle.itip_messages.specs.SentLaw.{AreListedAgain, IsSaidAgain, IsSentAddress, time_as}
use Rattle.itip_messages.proofs.body_lemmas.TimeLists.{back_times}
use Rattle.profile.specs.events.Occurrences.{Time}
use Rattle.profile.specs.events.Properties.{Fixed}
use Rattle.itip_messages.proofs.shared_lemmas.CleanText.{clean_address}
use Rattle.itip_messages.proofs.shared_lemmas.CleanUids.{clean_text}
use Rattle.itip_messages.proofs.shared_lemmas.ObjectTree.{Lines, vevent_lines}
use Rattle.itip_messages.proofs.shared_lemmas.ReplyLines.{AreOwn}
use Rattle.itip_messages.proofs.sent_law_lemmas.SentContents.{added_same, same_content, taken_same}
use Rattle.itip_messages.proofs.shared_lemmas.OwnLines.{SpellPart, event_again, own_front, own_lines, own_says, when_lines}
use Rattle.itip_messages.proofs.shared_lemmas.ToldSlots.{slot_told}
use Rattle.itip_messages.proofs.sent_law_lemmas.SentBehind.{IsAttendeeText, behind_own, behind_says, own_back}
use Rattle.itip_messages.proofs.shared_lemmas.SentTexts.{text_of}
use Rattle.itip_messages.proofs.shared_lemmas.OwnWhen.{are_own, duration_clean, duration_of, when_of, written_rule}
use Rattle.itip_messages.proofs.sent_law_lemmas.StoredEvents.{IsStored}
use Rattle.itip_messages.proofs.shared_lemmas.ZonedObjects.{IsZonedTree}
use Rattle.itip_messages.proofs.shared_lemmas.ZonedStarts.{name_means, name_plain}
use Rattle.itip_messages.proofs.body_lemmas.ZonePlaces.{named_lines}

-- ---- attendees

-- such a line says such a one
abbrev pub ReadsLine : (Slot → Attendee → List ℕ → Type 0) → (Slot → Attendee → Attendee → Type 0) → Type 0
ReadsLine IsLine IsSuch = (slot : Slot) (attendee : Attendee) (line : List ℕ) → IsSentAddress attendee.address → IsLine slot attendee line → (said : Attendee) × IsAttendeeText line said × IsSuch slot attendee said

attendees_back : (IsLine : Slot → Attendee → List ℕ → Type 0) (IsSuch : Slot → Attendee → Attendee → Type 0) → ReadsLine IsLine IsSuch → (slot : Slot) (attendees : List Attendee) (lines : Lines)
    → ((attendee : Attendee) → Contains attendees attendee → IsSentAddress attendee.address) → AllZip (IsLine slot) attendees lines → (said : List Attendee) × AllZip IsAttendeeText lines said × AllZip (IsSuch slot) attendees said
attendees_back IsLine IsSuch back slot [] [] f z = ([], tt, tt)
attendees_back IsLine IsSuch back slot [] (l ∷ lines) f z = absurd z
attendees_back IsLine IsSuch back slot (a ∷ attendees) [] f z = absurd z
attendees_back IsLine IsSuch back slot (a ∷ attendees) (l ∷ lines) f z =
    let one = back slot a l (f a (in_head a attendees)) z.0 in
    let rest = attendees_back IsLine IsSuch back slot attendees lines (λ x c. f x (in_tail a attendees x c)) z.1 in
    (one.0 ∷ rest.0, (one.1, rest.1), (one.2, rest.2))

-- those that count are among all
pub counted_among : (attendees : List Attendee) (a : Attendee) → Contains (counted attendees) a → Contains attendees a
counted_among [] a c = c
counted_among (b ∷ more) a c = elim (in_cons b _ a c) [
  | inl here ↦ subst (λ (x : Attendee). Contains (b ∷ more) x) here (in_head b more)
  | inr there ↦ in_tail b more a (counted_among more a (of_filtered (λ other. not (bytes_eq b.address other.address)) (counted more) a there).0)
]

-- ---- what is listed

pub listed_again : (name : List ℕ) (times : List Time) (lines : Lines) (w : WritesListed name times lines) → AreListedAgain times (back_times name times lines w)
listed_again name times lines w = record {
  fixed = w.in_utc.ascending;
  floating = w.local.ascending;
  days = w.dates.ascending;
  in_utc = w.in_utc.are;
  local = w.local.are;
  dates = w.dates.are;
  are = refl;
}

instant_back : (recurrence : Option ℤ) → recurrence ≡ option_map (λ (time : Time). time.instant) (option_map (time_as Fixed) recurrence)
instant_back None = refl
instant_back (Some t) = refl

-- ---- one VEVENT

pub record OneBack (word : Option (List ℕ)) (IsSuch : Slot → Attendee → Attendee → Type 0) (zones : List (List ℕ)) (revision : Revision) (event : EventComponent) (lines : Lines) : Type 0 where
  pub own : Lines
  pub said : EventComponent
  pub are : lines ≡ vevent_lines own
  pub good : AreOwn own
  pub says : (all : List Lines) (k : IsZonedTree word zones all) → SaysEventComponent k.whole (Some Request) own said
  pub is : IsSaidAgain IsSuch revision event said

module _ (word : Option (List ℕ)) (IsLine : Slot → Attendee → List ℕ → Type 0) (IsSuch : Slot → Attendee → Attendee → Type 0) (back : ReadsLine IsLine IsSuch) (organiser uid : List ℕ) (revision : Revision) (small : revision.sequence < 2 ^ 31) (zones : List (List ℕ)) where
  event_back : (event : EventComponent) (content : Content) (lines : Lines) → IsStored organiser uid event → IsContent content event → IsComponentText organiser uid revision zones IsLine (event, content) lines → OneBack word IsSuch zones revision event lines
  event_back event content lines f c t =
      let d = t.tells_revision in
      let told = slot_told event.recurrence t.slot t.tells_slot f.dated in
      let plain = name_plain zones content event c t.name t.named in
      let l = named_lines t.name content event c in
      let rule = written_rule event.times f.meaning event.rule c.rule f.facts.recurs c.recurs in
      let w = when_of t.name content event c l plain false f.facts rule event.recurrence (λ h. h) in
      let a = attendees_back IsLine IsSuch back (slot_of event) (counted event.attendees) t.attendees (λ x k. f.attendees x (counted_among event.attendees x k)) t.each in
      let sequence = decimal revision.sequence in
      let when = when_lines l.start (duration_of event) c.rule c.additions c.exceptions in
      let tail = (codes "SUMMARY:" ++ escaped event.summary) ∷ (codes "ORGANIZER:" ++ organiser) ∷ t.attendees in
      let front = own_front told.text (escaped uid) sequence d.stamp in
      let behind = own_back event.cancelled (escaped event.summary) organiser t.attendees in
      let said = event_again event event.recurrence organiser revision rule.back (back_times (codes "RDATE") event.written.additions c.additions w.adds) (back_times (codes "EXDATE") (filter may_take event.written.exceptions) c.exceptions w.takes) event.cancelled event.summary a.0 in
      let spell : SpellPart event.uid revision (escaped uid) sequence d.stamp organiser = record {
        uid_there = f.named ∙ sym (read_back uid);
        is_uid = subst (λ (u : List ℕ). IsUid u) (sym f.named) f.is_uid;
        numbered = sequence_written revision.sequence small;
        stamped_is = stamp_written d.stamp revision.stamp d.tells;
        organised = f.address.read.address;
        lower = f.address.read.lower;
      } in
      record {
        own = own_lines told.text (escaped uid) sequence d.stamp when behind;
        said = said;
        are =
            t.is
            ∙ (λ i. (codes "BEGIN:VEVENT" ∷ (codes "UID:" ++ escaped uid) ∷ told.are i) ++ d.is i ++ l.are i ++ status_lines event.cancelled ++ tail ++ codes "END:VEVENT" ∷ [])
            ∙ ap (λ (x : Lines). codes "BEGIN:VEVENT" ∷ (x ++ codes "END:VEVENT" ∷ [])) (append_assoc (front ++ when) (status_lines event.cancelled) tail);
        good =
            are_own t.name event event.recurrence l.start (duration_of event) c.rule c.additions c.exceptions rule.back event.written.additions _ w told.text (escaped uid) sequence d.stamp behind told.clean (clean_text uid f.text)
            (clean_shown sequence (shown_decimal revision.sequence (omega (arith, small)))) (clean_shown d.stamp (shown_stamp d.stamp revision.stamp d.tells)) (duration_clean event)
            (behind_own event.cancelled (escaped event.summary) organiser t.attendees a.0 (clean_text event.summary f.summary) (clean_address organiser (text_of organiser f.address)) a.1);
        says = λ all k.
            own_says t.name event told.text event.recurrence revision (escaped uid) sequence d.stamp l.start (duration_of event) organiser behind event.cancelled event.summary a.0 c.rule c.additions c.exceptions rule.back event.written.additions _ spell
            (behind_says event.cancelled event.summary organiser t.attendees a.0 a.1) w told.spells k.whole (name_means word zones all k content event c f.zone t.name t.named);
        is = record {
          uid = refl;
          organiser = sym f.organised;
          stamp = refl;
          sequence = refl;
          cancelled = refl;
          recurrence = refl;
          times = refl;
          rule = rule.same;
          slot = sym f.slot;
          additions = listed_again (codes "RDATE") event.written.additions c.additions w.adds;
          exceptions = listed_again (codes "EXDATE") (filter may_take event.written.exceptions) c.exceptions w.takes;
          instants = record { slot = instant_back event.recurrence; added = refl; taken = refl };
          added =
              added_same event.written.additions (back_times (codes "RDATE") event.written.additions c.additions w.adds) event.additions said.additions (listed_again (codes "RDATE") event.written.additions c.additions w.adds) f.instants.added
              refl;
          taken =
              taken_same event.written.exceptions (back_times (codes "EXDATE") (filter may_take event.written.exceptions) c.exceptions w.takes) event.exceptions said.exceptions
              (listed_again (codes "EXDATE") (filter may_take event.written.exceptions) c.exceptions w.takes) f.instants.taken refl;
          summary = refl;
          attendees = a.2;
          content = same_content event said refl (listed_again (codes "RDATE") event.written.additions c.additions w.adds) (listed_again (codes "EXDATE") (filter may_take event.written.exceptions) c.exceptions w.takes) rule.writes;
        };
      }

  pub one_back : (event : EventComponent) (component : Component) (lines : Lines) → IsStored organiser uid event → IsComponentOf event component → IsComponentText organiser uid revision zones IsLine component lines → OneBack word IsSuch zones revision event lines
  one_back event component lines f (same, c) t =
      subst (λ (e : EventComponent). OneBack word IsSuch zones revision e lines) same (event_back component.0 component.1 lines (subst (IsStored organiser uid) (sym same) f) (subst (IsContent component.1) (sym same) c) t)
