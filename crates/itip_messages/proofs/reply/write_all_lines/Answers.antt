use Rattle.std.proofs.Common.{◌≡◌, ◌∙◌, ◌++◌, ◌∷◌, [], ap, refl, subst, codes, decimal}
use Rattle.profile.specs.text.Lines.{folded}
use Rattle.profile.specs.text.Values.{escaped}
use Rattle.profile.specs.rooms.Revisions.{Slot}
use Rattle.profile.specs.rooms.Messages.{TellsSlot}
use Rattle.ical_values.specs.Octets.{text_octets, address_octets}
use Rattle.itip_messages.specs.Reply.{attendee_line}
use Rattle.itip_messages.proofs.shared_lemmas.LineLemmas.{event_written, kept_at_first, kept_by_more, kept_by_none}
use Rattle.itip_messages.proofs.reply.write_all_lines.Goals as goal

pub returns-clause-ok : goal.returns-clause-ok
returns-clause-ok c =
    let event = c.args.event.now in
    let slot = c.in_ok-write_recurrence.ensures.ok in
    let status = c.in_ok-write_decision.ensures.ok in
    let stamp = c.in_ok-stamp.ensures.ok in
    let stamped : c.stamp.new.self ≡ c.sequence.new.self ++ folded (codes "DTSTAMP:" ++ stamp.1.0) = stamp.2 ∙ ap (λ x. c.sequence.new.self ++ x) stamp.1.2 in
    let named = rw c.as_str.ensures at c.in_ok-named.ensures.ok in (
      (codes "BEGIN:VEVENT" ∷ (codes "UID:" ++ escaped (text_octets event.uid.now)) ∷ slot.0)
          ++ ((codes "SEQUENCE:" ++ decimal event.sequence) ∷ (codes "DTSTAMP:" ++ stamp.1.0) ∷ (codes "ORGANIZER:" ++ address_octets event.organiser.now) ∷ attendee_line event ∷ status.0)
          ++ (codes "END:VEVENT" ∷ []),
      λ part answers. record {
        slot = slot.0;
        stamp = stamp.1.0;
        status = status.0;
        tells_slot = subst (λ (s : Slot). TellsSlot s slot.0) answers.slot slot.1;
        tells_moment = stamp.1.1;
        tells_outcome = status.1;
        is = rw (← answers.uid, ← answers.sequence, ← answers.organiser) refl;
      },
      event_written _ _ _ _ _ _ _ _ _ _ _ _ _ _ _ _ _ _ _ c.in_ok-line.ensures.ok c.in_ok-uid.ensures.ok slot.2 c.in_ok-sequence.ensures.ok stamped named c.in_ok-write_attendee.ensures.ok status.2 c.in_ok-line-2.ensures.ok,
    )

-- what was there stays, line by line

pub returns-in_err-line-clause-keeps : goal.returns-in_err-line-clause-keeps
returns-in_err-line-clause-keeps c =
    kept_by_none _ _ _ (kept_at_first _ _ refl) c.in_err-line.ensures.err

pub returns-in_err-uid-clause-keeps : goal.returns-in_err-uid-clause-keeps
returns-in_err-uid-clause-keeps c =
    kept_by_none _ _ _ (kept_by_more _ _ _ _ (kept_at_first _ _ refl) c.in_ok-line.ensures.ok) c.in_err-uid.ensures.err

pub returns-in_err-write_recurrence-clause-keeps : goal.returns-in_err-write_recurrence-clause-keeps
returns-in_err-write_recurrence-clause-keeps c =
    kept_by_none _ _ _ (kept_by_more _ _ _ _ (kept_by_more _ _ _ _ (kept_at_first _ _ refl) c.in_ok-line.ensures.ok) c.in_ok-uid.ensures.ok) c.in_err-write_recurrence.ensures.err

pub returns-in_err-sequence-clause-keeps : goal.returns-in_err-sequence-clause-keeps
returns-in_err-sequence-clause-keeps c =
    let identified = kept_by_more _ _ _ _ (kept_by_more _ _ _ _ (kept_by_more _ _ _ _ (kept_at_first _ _ refl) c.in_ok-line.ensures.ok) c.in_ok-uid.ensures.ok) c.in_ok-write_recurrence.ensures.ok.2 in
    kept_by_none _ _ _ identified c.in_err-sequence.ensures.err

pub returns-in_err-stamp-clause-keeps : goal.returns-in_err-stamp-clause-keeps
returns-in_err-stamp-clause-keeps c =
    let identified = kept_by_more _ _ _ _ (kept_by_more _ _ _ _ (kept_by_more _ _ _ _ (kept_at_first _ _ refl) c.in_ok-line.ensures.ok) c.in_ok-uid.ensures.ok) c.in_ok-write_recurrence.ensures.ok.2 in
    kept_by_none _ _ _ (kept_by_more _ _ _ _ identified c.in_ok-sequence.ensures.ok) c.in_err-stamp.ensures.err

pub returns-in_err-named-clause-keeps : goal.returns-in_err-named-clause-keeps
returns-in_err-named-clause-keeps c =
    let identified = kept_by_more _ _ _ _ (kept_by_more _ _ _ _ (kept_by_more _ _ _ _ (kept_at_first _ _ refl) c.in_ok-line.ensures.ok) c.in_ok-uid.ensures.ok) c.in_ok-write_recurrence.ensures.ok.2 in
    let stamped = kept_by_more _ _ _ _ (kept_by_more _ _ _ _ identified c.in_ok-sequence.ensures.ok) c.in_ok-stamp.ensures.ok.2 in
    kept_by_none _ _ _ stamped c.in_err-named.ensures.err

pub returns-in_err-write_attendee-clause-keeps : goal.returns-in_err-write_attendee-clause-keeps
returns-in_err-write_attendee-clause-keeps c =
    let identified = kept_by_more _ _ _ _ (kept_by_more _ _ _ _ (kept_by_more _ _ _ _ (kept_at_first _ _ refl) c.in_ok-line.ensures.ok) c.in_ok-uid.ensures.ok) c.in_ok-write_recurrence.ensures.ok.2 in
    let stamped = kept_by_more _ _ _ _ (kept_by_more _ _ _ _ identified c.in_ok-sequence.ensures.ok) c.in_ok-stamp.ensures.ok.2 in
    kept_by_none _ _ _ (kept_by_more _ _ _ _ stamped c.in_ok-named.ensures.ok) c.in_err-write_attendee.ensures.err

pub returns-in_err-write_decision-clause-keeps : goal.returns-in_err-write_decision-clause-keeps
returns-in_err-write_decision-clause-keeps c =
    let identified = kept_by_more _ _ _ _ (kept_by_more _ _ _ _ (kept_by_more _ _ _ _ (kept_at_first _ _ refl) c.in_ok-line.ensures.ok) c.in_ok-uid.ensures.ok) c.in_ok-write_recurrence.ensures.ok.2 in
    let stamped = kept_by_more _ _ _ _ (kept_by_more _ _ _ _ identified c.in_ok-sequence.ensures.ok) c.in_ok-stamp.ensures.ok.2 in
    kept_by_none _ _ _ (kept_by_more _ _ _ _ (kept_by_more _ _ _ _ stamped c.in_ok-named.ensures.ok) c.in_ok-write_attendee.ensures.ok) c.in_err-write_decision.ensures.err

pub returns-in_err-line-2-clause-keeps : goal.returns-in_err-line-2-clause-keeps
returns-in_err-line-2-clause-keeps c =
    let identified = kept_by_more _ _ _ _ (kept_by_more _ _ _ _ (kept_by_more _ _ _ _ (kept_at_first _ _ refl) c.in_ok-line.ensures.ok) c.in_ok-uid.ensures.ok) c.in_ok-write_recurrence.ensures.ok.2 in
    let stamped = kept_by_more _ _ _ _ (kept_by_more _ _ _ _ identified c.in_ok-sequence.ensures.ok) c.in_ok-stamp.ensures.ok.2 in
    let answered = kept_by_more _ _ _ _ (kept_by_more _ _ _ _ (kept_by_more _ _ _ _ stamped c.in_ok-named.ensures.ok) c.in_ok-write_attendee.ensures.ok) c.in_ok-write_decision.ensures.ok.2 in
    kept_by_none _ _ _ answered c.in_err-line-2.ensures.err

pub returns-clause-keeps : goal.returns-clause-keeps
returns-clause-keeps c =
    let identified = kept_by_more _ _ _ _ (kept_by_more _ _ _ _ (kept_by_more _ _ _ _ (kept_at_first _ _ refl) c.in_ok-line.ensures.ok) c.in_ok-uid.ensures.ok) c.in_ok-write_recurrence.ensures.ok.2 in
    let stamped = kept_by_more _ _ _ _ (kept_by_more _ _ _ _ identified c.in_ok-sequence.ensures.ok) c.in_ok-stamp.ensures.ok.2 in
    let answered = kept_by_more _ _ _ _ (kept_by_more _ _ _ _ (kept_by_more _ _ _ _ stamped c.in_ok-named.ensures.ok) c.in_ok-write_attendee.ensures.ok) c.in_ok-write_decision.ensures.ok.2 in
    kept_by_more _ _ _ _ answered c.in_ok-line-2.ensures.ok
