use Rattle.std.proofs.Common.{◌≡◌, suc, take}
use Rattle.clash_cert.proofs.TextLemmas.{breaks}
use Rattle.clash_cert.proofs.reading.line_of.Given as goal

-- this many lines ended so far
abbrev pub invariant-loop-octet : goal.invariant-loop-octet
invariant-loop-octet l = l.line ≡ suc (breaks (take l.octet-index l.octet-items))
