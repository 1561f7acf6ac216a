use Rattle.std.proofs.Common.{◌≤◌, take, length, rules}
use Rattle.sched_doors.proofs.Taking.{taken_of, taken_preamble}
use Rattle.sched_doors.proofs.preamble.take_preamble.Goals as goal

pub returns-clause-takes : goal.returns-clause-takes
returns-clause-takes g c =
    let lent = c.buffer-lent.result.now in
    let scanned = c.scan-scanned in
    let count = scanned.result.count in
    let within : count ≤ length (take c.min.result lent) = scanned.ensures.within in
    let shown : count ≤ length lent = search rules in
    let takes = taken_of _ _ _ _ lent count c.buffer-lent.ensures.lent c.lend.ensures.keeps c.buffer-lent.ensures.front c.in-Ok.ensures.end c.consume.ensures.takes shown in
    taken_preamble _ _ lent c.min.result count c.min.ensures within takes _ _ _ _ scanned.ensures.some c.in_ok-extend_from_slice.ensures.items scanned.ensures.scans
