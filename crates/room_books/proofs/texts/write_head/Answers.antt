-- The lines that say which part it is, one after another.
use Rattle.itip_order.specs.Parts.{part_of}
use Rattle.room_books.proofs.texts_lemmas.PartLines.{head_written}
use Rattle.room_books.proofs.texts.write_head.Goals as goal

pub returns : goal.returns
returns c =
    head_written (part_of c.args.part.now) c.args.object.now c.line.new.self c.uid.new.self c.write_slot.new.object c.sequence.new.self c.stamp.new.self
    c.in_ok-line.ensures.ok c.in_ok-uid.ensures.ok c.in_ok-write_slot.ensures.ok c.in_ok-sequence.ensures.ok c.in_ok-stamp.ensures.ok
