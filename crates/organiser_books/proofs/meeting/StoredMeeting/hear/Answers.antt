use Rattle.std.proofs.Common.{◌≡◌, ◌∙◌, ◌++◌, true, false, is_some, cond, Some, List, ap, sym, subst, refl}
use Rattle.std.specs.Prelude.{◌==◌}
use Rattle.std.specs.Map.{keys_of, lookup}
use Rattle.std.proofs.lemmas.Bool.{not-false, both_ways}
use Rattle.profile.specs.events.EventComponents as events
use Rattle.profile.specs.organisers.Organisers.{Heard}
use Rattle.cal_events.specs.Component.{attendee_of}
use Rattle.profile.specs.rooms.Revisions.{Revision}
use Rattle.itip_order.specs.declared.part.Revision.{Revision as OwnRevision}
use Rattle.itip_order.specs.Parts.{slot_of, revision_of}
use Rattle.organiser_books.specs.declared.answers.AttendeeAnswer.{AttendeeAnswer}
use Rattle.organiser_books.specs.declared.answers.AnswerKey.{AnswerKey}
use Rattle.organiser_books.specs.Answers.{answer_key_at, later_answer, same_answer_key}
use Rattle.organiser_books.specs.Attending.{attendance_of}
use Rattle.organiser_books.specs.Representation.{heard_by, is_unknown}
use Rattle.organiser_books.proofs.Lines.{same_itself}
use Rattle.organiser_books.proofs.Hearing.{first_line, heard_new, Seen}
use Rattle.organiser_books.proofs.meeting.StoredMeeting.hear.Goals as goal

pub returns-in_default-get_index_of-clause-seen : goal.returns-in_default-get_index_of-clause-seen
returns-in_default-get_index_of-clause-seen c = λ stored replies revision seen known.
    let line = first_line c.lines.result.now c.args.component.now.attendees c.in-Some.attendee.now c.in-Some.ensures.value (c.lines.ensures ∙ c.attendees.ensures) in
    let there : is_some (attendance_of (attendee_of c.in-Some.attendee.now).address c.args.self.now.attending.entries) ≡ true =
    not-false _ (subst (λ (l : List events.Attendee). is_unknown c.args.self.now l ≡ false) line.1 known) in
    absurd (both_ways _ (sym c.get_index_of.ensures.found ∙ ap is_some c.in_default-get_index_of.is) there)

pub returns-clause-seen : goal.returns-clause-seen
returns-clause-seen c = λ stored replies revision seen known.
    let component = c.args.component.now in
    let attendee = c.in-Some.attendee.now in
    let place = c.in-Some-get_index_of.place in
    let keys = keys_of c.args.self.now.attending.entries in
    let answers = c.args.self.now.answers.entries in
    let line = first_line c.lines.result.now component.attendees attendee c.in-Some.ensures.value (c.lines.ensures ∙ c.attendees.ensures) in
    let h : Heard = record { uid = stored.uid; attendee = (attendee_of attendee).address; slot = slot_of component.slot; revision = revision_of component.revision; answer = (attendee_of attendee).participation } in
    let now : (component.revision.sequence == stored.revision.sequence) ≡ true =
    ap (λ (r : Revision). component.revision.sequence == r.sequence) (sym revision) ∙ ap (λ (r : OwnRevision). r.sequence == c.args.self.now.revision.sequence) (sym c.revision-revision.ensures) ∙ not-false _ (sym c.ne.ensures ∙ c.if-ne.false) in
    let answer : AttendeeAnswer = record { stamp = c.revision-revision.result.stamp; status = attendee.status } in
    let more : (other : AnswerKey) → lookup (same_answer_key other) c.put.new.answers.entries ≡ cond (same_answer_key (answer_key_at place h.slot) other) (Some (later_answer (lookup (same_answer_key (answer_key_at place h.slot)) answers) answer)) (lookup (same_answer_key other) answers) =
    λ other. c.put.ensures.put other ∙ ap (λ (k : AnswerKey). cond (same_answer_key k other) (Some (later_answer (lookup (same_answer_key k) answers) answer)) (lookup (same_answer_key other) answers)) (c.at.ensures ∙ ap (λ s. answer_key_at place (slot_of s)) c.slot.ensures) in
    subst (λ (l : List events.Attendee). Seen keys stored (replies ++ heard_by stored.uid component l) c.put.new.answers.entries) (sym line.1)
    (heard_new keys stored replies attendee.address h place answer answers c.put.new.answers.entries (same_itself stored.uid) now (sym c.in-Some-get_index_of.ensures.index)
    (record { stamp = ap (λ (r : OwnRevision). r.stamp) c.revision-revision.ensures; status = refl }) more seen)
