-- One more.
use Rattle.std.proofs.Common.{pos, arith}
use Rattle.room_books.proofs.timeline_lemmas.Changing.{taking_none, next_there, taking_next, taken_all}
use Rattle.room_books.proofs.timeline.Timeline.take_all.Goals as goal

pub loop-single-init : goal.loop-single-init
loop-single-init c = taking_none c.args.place c.args.gone.now c.args.self.now

pub take_out-requires-clause-held : goal.take_out-requires-clause-held
take_out-requires-clause-held c = λ holds.
    let held = c.requires.held in
    next_there c.args.place c.args.gone.now held.0 c.loop-single.single-index (record { slot = pos 0; span = record { start = pos 0; end = pos 0 } }) c.args.self.now c.loop-single.self c.loop-single-test.true
    (c.loop-single.invariant held.0 held.1 held.2) holds

pub loop-single-preserved : goal.loop-single-preserved
loop-single-preserved c =
    taking_next c.args.place c.args.gone.now c.loop-single.single-index (record { slot = pos 0; span = record { start = pos 0; end = pos 0 } }) c.args.self.now c.loop-single.self c.take_out.new.self
    c.loop-single-test.true c.loop-single.invariant c.take_out.ensures.taken c.take_out.ensures.confirmed c.take_out.ensures.len c.take_out.ensures.capacity

pub returns-clause-changed : goal.returns-clause-changed
returns-clause-changed c = taken_all c.args.place c.args.gone.now c.loop-single.single-index c.args.self.now c.loop-single.self (omega arith) (omega arith) c.loop-single.invariant
