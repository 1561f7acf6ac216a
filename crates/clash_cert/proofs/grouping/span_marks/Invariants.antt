use Rattle.std.proofs.Common.{◌≡◌, length, take}
use Rattle.clash_cert.specs.Grouped.{AreMarked}
use Rattle.clash_cert.proofs.grouping.span_marks.Given as goal

-- there is a mark for each series, and those of the entries so far are right
abbrev pub invariant-loop-pair : goal.invariant-loop-pair
invariant-loop-pair l = (length l.marks.items ≡ l.certificate.series) × AreMarked (take l.pair-index l.certificate.pairs) l.marks.items
