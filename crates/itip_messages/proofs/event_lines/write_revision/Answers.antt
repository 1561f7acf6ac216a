use Rattle.std.proofs.lemmas.Result.{on_ok_weaker}
use Rattle.itip_order.specs.Parts.{revision_of}
use Rattle.itip_messages.proofs.shared_lemmas.WrittenLines.{revision_written}
use Rattle.itip_messages.proofs.event_lines.write_revision.Goals as goal

pub returns : goal.returns
returns c =
    on_ok_weaker c.stamp.result (revision_written (revision_of c.args.revision) c.args.object.now c.sequence.new.self c.stamp.new.self c.in_ok-sequence.ensures.ok) c.stamp.ensures.ok
