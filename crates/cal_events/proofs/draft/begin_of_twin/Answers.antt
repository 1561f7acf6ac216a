use Rattle.std.proofs.Common.{◌-◌, arith}
use Rattle.cal_events.proofs.shared_lemmas.LaterLemmas.{later_place}
use Rattle.cal_events.proofs.draft.begin_of_twin.Goals as goal

pub returns : goal.returns
returns c =
    later_place c.args.begins.now (c.loop-apart.twins - 1) _ (omega (arith, c.loop-apart.invariant.1, c.loop-apart.invariant.2))
    (omega (arith, c.loop-apart.invariant.0, c.loop-apart.invariant.1))
