use Rattle.std.proofs.Common.{◌≡◌, to_z, of_z, w64, to_z-of_z}
use Rattle.cal_events.proofs.shared_lemmas.WholeLists.{left_from}
use Rattle.cal_events.proofs.instances.Instances.from.Goals as goal

pub returns-clause-left : goal.returns-clause-left
returns-clause-left c b =
    let same : to_z w64 (of_z w64 c.args.from) ≡ c.args.from = to_z-of_z c.ranges.from in
    rw same (left_from c.args.event.now c.args.from b)
