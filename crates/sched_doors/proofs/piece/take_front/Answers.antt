use Rattle.std.proofs.Common.{◌≤◌, take, length, rules}
use Rattle.sched_doors.proofs.Taking.{taken_of, taken_front}
use Rattle.sched_doors.proofs.piece.take_front.Goals as goal

pub returns-clause-takes : goal.returns-clause-takes
returns-clause-takes g c =
    let lent = c.buffer-lent.result.now in
    let front = c.front-count in
    let count = front.result in
    let within : count ≤ length (take c.min.result lent) = front.ensures.within in
    let shown : count ≤ length lent = search rules in
    let takes = taken_of _ _ _ _ lent count c.buffer-lent.ensures.lent c.lend.ensures.keeps c.buffer-lent.ensures.front c.in-Ok.ensures.end c.consume.ensures.takes shown in
    taken_front _ _ lent c.min.result count c.min.ensures within takes _ _ _ _ front.ensures.some c.in_ok-extend_from_slice.ensures.items front.ensures.leads front.ensures.few
