use Rattle.std.proofs.Common.{◌∙◌, sym, arith}
use Rattle.sched_box.proofs.ZoneLemmas.{all_left, one_less, is_among, none_left, none_lacks}
use Rattle.sched_box.proofs.config.zone_in.Goals as goal

pub loop-room-init : goal.loop-room-init
loop-room-init c = all_left _ _

pub returns-then-eq-clause-found : goal.returns-then-eq-clause-found
returns-then-eq-clause-found c = is_among _ _ _ _ c.loop-room-test.true c.room-item.is (sym c.eq.ensures ∙ c.if-eq.true)

pub loop-room-preserved : goal.loop-room-preserved
loop-room-preserved c = one_less _ _ _ _ c.loop-room-test.true c.room-item.is (sym c.eq.ensures ∙ c.if-eq.false) c.loop-room.invariant

pub returns-clause-none : goal.returns-clause-none
returns-clause-none c = none_lacks _ _ (none_left _ _ _ (omega arith) c.loop-room.invariant)
