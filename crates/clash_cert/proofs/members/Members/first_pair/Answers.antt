use Rattle.std.proofs.Common.{arith}
use Rattle.clash_cert.proofs.MemberLemmas.{next_first}
use Rattle.clash_cert.proofs.members.Members.first_pair.Goals as goal

pub returns : goal.returns
returns c groups of = next_first c.args.series groups c.pair_from.result (c.pair_from.ensures groups of (omega arith) (omega arith))
