use Rattle.std.proofs.Common.{◌≡◌, map, take}
use Rattle.clash_cert.specs.Texts.{pair_said}
use Rattle.clash_cert.specs.Grouped.{apart_of}
use Rattle.clash_cert.proofs.grouping.pairs_apart.Given as goal

-- those so far are kept
abbrev pub invariant-loop-pair : goal.invariant-loop-pair
invariant-loop-pair l = map pair_said l.kept.items ≡ apart_of l.members (take l.pair-index (map pair_said l.pairs))
