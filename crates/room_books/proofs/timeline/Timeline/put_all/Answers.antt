-- One more.
use Rattle.std.proofs.Common.{pos, arith}
use Rattle.room_books.proofs.timeline_lemmas.Changing.{putting_none, putting_more, put_more}
use Rattle.room_books.proofs.timeline.Timeline.put_all.Goals as goal

pub loop-single-init : goal.loop-single-init
loop-single-init c = record {
  putting = λ kept held. putting_none c.args.place kept c.args.added.now c.args.self.now.busy.items held;
  free = c.requires.free;
  confirmed = omega arith;
  room = (let r = c.requires.room in omega (arith, r));
}

pub loop-single-preserved : goal.loop-single-preserved
loop-single-preserved c =
    putting_more c.args.place c.args.added.now c.loop-single.single-index (record { slot = pos 0; span = record { start = pos 0; end = pos 0 } }) c.args.self.now c.loop-single.self c.put_in.new.self
    c.loop-single-test.true c.requires.separate c.loop-single.invariant c.put_in.ensures.put c.put_in.ensures.confirmed c.put_in.ensures.len c.put_in.ensures.capacity

pub returns-clause-changed : goal.returns-clause-changed
returns-clause-changed c = put_more c.args.place c.args.added.now c.loop-single.single-index c.args.self.now c.loop-single.self (omega arith) c.loop-single.invariant
