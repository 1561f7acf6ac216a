use Rattle.std.proofs.Common.{drop, length, length-drop, arith}
use Rattle.std.proofs.lemmas.Bool.Decides.{Decides-eqb}
use Rattle.std.proofs.lemmas.Slice.Eq.{starts_is}
use Rattle.sched_doors.proofs.door.goes_on_from.Goals as goal

pub returns : goal.returns
returns c = λ same.
    let front = c.args.front.now in
    let octets = c.args.octets.now in (
      drop (length front) octets,
      (starts_is Decides-eqb octets front c.starts_with.result c.starts_with.ensures.value).0 same,
      omega (arith, length-drop (length front) octets, c.if-octets-front.false),
    )
