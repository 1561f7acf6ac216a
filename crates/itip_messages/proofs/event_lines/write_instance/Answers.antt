use Rattle.std.proofs.Common.{◌∙◌, w64}
use Rattle.std.proofs.lemmas.Int.{to_z-of_z}
use Rattle.std.proofs.lemmas.Result.{on_ok_weaker}
use Rattle.itip_messages.proofs.shared_lemmas.MeetingLines.{slot_written}
use Rattle.itip_messages.proofs.event_lines.write_instance.Goals as goal

pub returns-clause-ok : goal.returns-clause-ok
returns-clause-ok c =
    on_ok_weaker c.stamp.result (slot_written c.args.instant c.in-Some.stamp c.args.object.now c.stamp.new.self (c.in-Some.ensures.value ∙ to_z-of_z w64 c.args.instant c.ranges.instant)) c.stamp.ensures.ok
