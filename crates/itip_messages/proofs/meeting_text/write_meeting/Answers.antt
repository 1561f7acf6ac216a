-- The zones that came up come before the VEVENTs.
use Rattle.std.proofs.Common.{◌∙◌, ◌++◌}
use Rattle.std.specs.Prelude.{option_map}
use Rattle.itip_messages.specs.Reply.{text_now}
use Rattle.itip_messages.proofs.shared_lemmas.MeetingLines.{both_appended, meeting_written}
use Rattle.itip_messages.proofs.meeting_text.write_meeting.Goals as goal

pub returns-clause-ok : goal.returns-clause-ok
returns-clause-ok g c =
    let first = c.write.new.object in
    let last = c.end_calendar.new.self in (
      first ++ last,
      meeting_written (g.A.AttendeeLines.line c.args.lines.now) c.args.meeting.now (option_map text_now c.args.method) c.new-zones.result c.write_components.new.zones c.new-events.result c.write_components.new.object last c.new-object.result c.begin_calendar.new.self first
          c.new-zones.ensures c.new-events.ensures c.in_ok-write_components.ensures c.in_ok-end_calendar.ensures.ok c.new-object.ensures c.in_ok-begin_calendar.ensures.ok c.in_ok-write.ensures.texts c.in_ok-write.ensures.few,
      both_appended c.args.out.now.items c.append_both.new.out.items c.as_slice.result.now c.as_slice-2.result.now first last c.in_ok-append_both.ensures.ok (c.as_slice.ensures.value ∙ c.finish-first.ensures) (c.as_slice-2.ensures.value ∙ c.finish-last.ensures),
    )
