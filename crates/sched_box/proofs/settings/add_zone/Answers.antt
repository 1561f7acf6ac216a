use Rattle.std.proofs.Common.{arith, rules}
use Rattle.std.proofs.lemmas.Result.{err_from_is_err_and}
use Rattle.sched_box.proofs.SettingLemmas.{if_refused, zone_unsaid, zone_there, zone_added}
use Rattle.sched_box.proofs.settings.add_zone.Goals as goal

pub returns-in_err-room-clause-none : goal.returns-in_err-room-clause-none
returns-in_err-room-clause-none c =
    let p = err_from_is_err_and c.from_residual.result c.from_residual.ensures.1 in
    rw (p.1, p.2) (zone_unsaid _ _ _ c.in_err-room.ensures.none)

pub returns-then-is_zoned-clause-none : goal.returns-then-is_zoned-clause-none
returns-then-is_zoned-clause-none c =
    if_refused _ c.refused-then-is_zoned.result (zone_there _ _ _ c.in_ok-room.ensures.says (search rules))

pub returns-clause-added : goal.returns-clause-added
returns-clause-added c = zone_added _ _ _ c.in_ok-room.room (omega arith) c.in_ok-room.ensures.says (search rules) (search rules)
