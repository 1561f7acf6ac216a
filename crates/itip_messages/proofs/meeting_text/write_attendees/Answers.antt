-- One more attendee.
use Rattle.std.proofs.Common.{◌≡◌, ◌∙◌, ◌∷◌, [], List, map, length, sym, ap, subst}
use Rattle.std.specs.List.{AllZip}
use Rattle.std.specs.Vec.{vec_len}
use Rattle.std.proofs.lemmas.Iterator.Consumers.{YieldsList-end}
use Rattle.std.proofs.lemmas.Iterator.Adapters.{YieldsList-from_vec}
use Rattle.std.proofs.lemmas.List.{map-append, map-id}
use Rattle.itip_order.specs.Parts.{slot_of}
use Rattle.profile.specs.events.EventComponents.{Attendee}
use Rattle.itip_messages.specs.Attendees.{line_said}
use Rattle.itip_messages.specs.Reply.{WritesLines}
use Rattle.itip_messages.proofs.shared_lemmas.MeetingLines.{attendee_more}
use Rattle.itip_messages.proofs.shared_lemmas.WrittenLines.{no_lines}
use Rattle.itip_messages.proofs.meeting_text.write_attendees.Goals as goal

pub loop-attendee-init : goal.loop-attendee-init
loop-attendee-init g c = ([], tt, no_lines c.args.object.now)

pub loop-attendee-preserved : goal.loop-attendee-preserved
loop-attendee-preserved g c =
    let IsLine = g.A.AttendeeLines.line c.args.lines.now (slot_of c.args.component.now.slot) in
    subst (λ (said : List Attendee). WritesLines c.args.object.now c.write_line.new.object (AllZip IsLine said)) (sym (map-append line_said c.loop-attendee.yielded (c.in-Some.attendee ∷ [])))
    (attendee_more IsLine (map line_said c.loop-attendee.yielded) (line_said c.in-Some.attendee) c.args.object.now c.loop-attendee.object c.write_line.new.object c.loop-attendee.invariant c.in_ok-write_line.ensures.ok)

pub returns : goal.returns
returns g c =
    let IsLine = g.A.AttendeeLines.line c.args.lines.now (slot_of c.args.component.now.slot) in
    let kept = c.in_ok-attendee-items.attendee-items in
    let gives = c.into_iter-attendee-iterator.ensures.into_iter_gives in
    let long : vec_len kept ≡ length kept.items = kept.ok.0 in
    let end = YieldsList-end (YieldsList-from_vec {s = c.into_iter-attendee-iterator.result} kept.items gives.0 (gives.1 ∙ long)) c.loop-attendee.yielded c.loop-attendee.attendee-iterator c.loop-attendee.yielded_by c.next.result c.next.new.self c.in-None.is c.next.ensures.steps in
    subst (λ (said : List Attendee). WritesLines c.args.object.now c.loop-attendee.object (AllZip IsLine said)) (ap (map line_said) (sym (map-id c.loop-attendee.yielded) ∙ end.0) ∙ c.in_ok-attendee-items.ensures) c.loop-attendee.invariant
