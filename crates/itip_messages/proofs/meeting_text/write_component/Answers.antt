-- The lines of a VEVENT, one after another.
use Rattle.std.proofs.Common.{◌∙◌, ◌++◌, codes, ap, subst}
use Rattle.profile.specs.text.Lines.{folded}
use Rattle.itip_messages.specs.BodyText.{WritesBody}
use Rattle.itip_messages.proofs.shared_lemmas.MeetingLines.{component_written}
use Rattle.itip_messages.proofs.meeting_text.write_component.Goals as goal

pub returns : goal.returns
returns g c =
    component_written (g.A.AttendeeLines.line c.args.lines.now) c.args.meeting.now c.args.component.now c.args.zones.now c.write_body.new.zones
    c.args.object.now c.line.new.self c.uid.new.self c.write_slot.new.object c.write_revision.new.object c.write_body.new.object c.write_status.new.object c.summary.new.self c.named.new.self c.write_attendees.new.object c.line-2.new.self
    c.in_ok-write_slot.ensures.ok c.in_ok-write_revision.ensures
    (subst (λ b. WritesBody b c.args.zones.now c.write_body.new.zones c.write_revision.new.object c.write_body.new.object) c.as_slice.ensures.value c.in_ok-write_body.ensures.ok)
    c.in_ok-write_attendees.ensures c.in_ok-line.ensures.ok c.in_ok-uid.ensures.ok c.in_ok-write_status.ensures c.in_ok-summary.ensures.ok
    (c.in_ok-named.ensures.ok ∙ ap (λ l. c.summary.new.self ++ folded (codes "ORGANIZER:" ++ l)) c.as_str.ensures)
    c.in_ok-line-2.ensures.ok
