use Rattle.std.proofs.Common.{sym, rules}
use Rattle.std.proofs.lemmas.List.Sorted.{IsPartitionPoint-from_clause}
use Rattle.clash_cert.specs.Walked.{is_pair_before}
use Rattle.clash_cert.proofs.SortedPairs.{parted, entry_found, entry_past, entry_other}
use Rattle.clash_cert.proofs.certificate.entry_at.Goals as goal

pub returns-in_default : goal.returns-in_default
returns-in_default c =
    let pairs = c.args.pairs.now in
    let first = c.args.first in
    let second = c.args.second in
    let at = c.partition_point-place.result in
    let point = IsPartitionPoint-from_clause (λ p. is_pair_before p.first p.second first second) pairs at c.partition_point-place.ensures.partitioned (parted pairs first second c.requires)
    (λ a r q k. search rules) in
    entry_past pairs first second c.requires at point c.in_default.ensures.lookup.3

pub returns-then-is_of : goal.returns-then-is_of
returns-then-is_of c =
    let pairs = c.args.pairs.now in
    let first = c.args.first in
    let second = c.args.second in
    let at = c.partition_point-place.result in
    let point = IsPartitionPoint-from_clause (λ p. is_pair_before p.first p.second first second) pairs at c.partition_point-place.ensures.partitioned (parted pairs first second c.requires)
    (λ a r q k. search rules) in
    let look = c.in-Some.ensures.lookup in
    entry_found pairs first second c.requires at point c.in-Some.pair.now look.3.0 (sym look.1) (c.is_of.ensures.0 c.if-is_of.true)

pub returns-else-is_of : goal.returns-else-is_of
returns-else-is_of c =
    let pairs = c.args.pairs.now in
    let first = c.args.first in
    let second = c.args.second in
    let at = c.partition_point-place.result in
    let point = IsPartitionPoint-from_clause (λ p. is_pair_before p.first p.second first second) pairs at c.partition_point-place.ensures.partitioned (parted pairs first second c.requires)
    (λ a r q k. search rules) in
    let look = c.in-Some.ensures.lookup in
    entry_other pairs first second c.requires at point c.in-Some.pair.now look.3.0 (sym look.1) c.is_of.result c.is_of.ensures c.if-is_of.false
