use Rattle.std.proofs.Common.{◌∙◌, sym, arith}
use Rattle.sched_box.proofs.ZoneLemmas.{all_left, one_less, is_here, none_left}
use Rattle.sched_box.proofs.settings.zone_among.Goals as goal

pub loop-room-init : goal.loop-room-init
loop-room-init c = all_left _ _

pub returns-then-eq : goal.returns-then-eq
returns-then-eq c = is_here _ _ _ _ c.loop-room-test.true c.room-item.is (sym c.eq.ensures ∙ c.if-eq.true) c.loop-room.invariant

pub loop-room-preserved : goal.loop-room-preserved
loop-room-preserved c = one_less _ _ _ _ c.loop-room-test.true c.room-item.is (sym c.eq.ensures ∙ c.if-eq.false) c.loop-room.invariant

pub returns : goal.returns
returns c = none_left _ _ _ (omega arith) c.loop-room.invariant
