-- One more that shares no instant.
use Rattle.std.proofs.Common.{pos}
use Rattle.room_books.specs.Timeline.{is_leaving}
use Rattle.room_books.proofs.timeline_lemmas.Timelines.{none_more}
use Rattle.room_books.proofs.timeline.Timeline.first_taken.Goals as goal

pub loop-single-preserved : goal.loop-single-preserved
loop-single-preserved c =
    none_more (is_leaving c.args.own c.args.gone.now) c.args.self.now.busy.items c.args.wanted.now c.loop-single.single-index (record { slot = pos 0; span = record { start = pos 0; end = pos 0 } })
    c.loop-single-test.true c.in_default.ensures c.loop-single.invariant
