use Rattle.std.proofs.Common.{◌≡◌, ◌⊎◌, inl, inr, arith, rules, ◌<◌, ◌≤◌, length, nat_lt}
use Rattle.std.proofs.lemmas.Bool.Decides.{nat_tests}
use Rattle.std.proofs.lemmas.List.Sorted.{IsPartitionPoint-from_clause, IsPartitionedBy-ltb}
use Rattle.cal_period.proofs.AroundLemmas.{neighbours_found, rises}
use Rattle.cal_period.proofs.arcs.neighbours.Goals.{then-place-gt0, else-place-gt0, then-place-others, else-place-others}
use Rattle.cal_period.proofs.arcs.neighbours.Goals as goal

pub returns : goal.returns
returns c =
    let xs = c.args.others.now in
    let r = c.args.residue in
    let place = c.partition_point-place.result in
    let bound = c.partition_point-place.ensures.bound in
    let point = IsPartitionPoint-from_clause (λ y. nat_lt y r) xs place c.partition_point-place.ensures.partitioned (IsPartitionedBy-ltb (λ y. y) xs r (rises xs c.requires)) (λ a r q k. search rules) in
    let some : 0 < length xs = grind (arith, nat_tests, c.if-is_empty.false, c.is_empty.ensures) in
    let last : ((0 < place) × (c.if-place-gt0.last ≡ place)) ⊎ ((place ≡ 0) × (c.if-place-gt0.last ≡ length xs)) =
    elim c.if-place-gt0.branch [ then-place-gt0 w ↦ inl (w.if-place-gt0.true, w.last-is) | else-place-gt0 w ↦ inr (omega (arith, w.if-place-gt0.false), w.last-is) ] in
    let next : ((place < length xs) × (c.if-place-others.next ≡ place)) ⊎ ((length xs ≤ place) × (c.if-place-others.next ≡ 0)) =
    elim c.if-place-others.branch [ then-place-others w ↦ inl (w.if-place-others.true, w.next-is) | else-place-others w ↦ inr (w.if-place-others.false, w.next-is) ] in
    neighbours_found xs c.requires r place c.if-place-gt0.last c.if-place-others.next some point last next bound
