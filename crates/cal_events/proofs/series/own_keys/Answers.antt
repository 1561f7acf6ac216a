use Rattle.std.proofs.Common.{◌≡◌, ◌∙◌, ℕ, ◌-◌, true, false, List, length, take, drop, sym, ap, subst, rules, arith, length-drop, take_all}
use Rattle.std.specs.List.Sorted.{IsPartitionedBy, IsPartitionPoint}
use Rattle.std.proofs.lemmas.List.Sorted.{IsPartitionPoint-from_clause}
use Rattle.cal_events.specs.Calendar.{MeetingName}
use Rattle.cal_events.specs.Ruled.{is_before, is_key_of}
use Rattle.cal_events.specs.declared.instance.InstanceKey.{InstanceKey}
use Rattle.cal_events.proofs.series_lemmas.OwnKeys.{before_parted, rest_parted, own_found}
use Rattle.cal_events.proofs.series.own_keys.Goals as goal

pub returns : goal.returns
returns c =
    let keys = c.args.keys.now in
    let m : MeetingName = (c.args.organiser.now, c.args.uid.now) in
    let first = c.partition_point-first.result in
    let point = IsPartitionPoint-from_clause (is_before m) keys first c.partition_point-first.ensures.partitioned (before_parted keys c.requires.sorted m) (λ a r q k. search rules) in
    let whole : take (length keys - first) (drop first keys) ≡ drop first keys = whole_rest first keys in
    let parts = IsPartitionPoint-from_clause (is_key_of m) _ c.partition_point-count.result c.partition_point-count.ensures.partitioned
    (subst (λ l. IsPartitionedBy (is_key_of m) l) (sym whole) (rest_parted keys c.requires.sorted m first point)) (λ a r q k. search rules) in
    ap (take c.partition_point-count.result) whole
    ∙ own_found keys c.requires.sorted m first point c.partition_point-count.result
    (subst (λ l. IsPartitionPoint (λ k. is_key_of m k ≡ true) (λ k. is_key_of m k ≡ false) l c.partition_point-count.result) whole parts)
  where
    whole_rest : (n : ℕ) (xs : List InstanceKey) → take (length xs - n) (drop n xs) ≡ drop n xs
    whole_rest n xs = subst (λ (k : ℕ). take k (drop n xs) ≡ drop n xs) (length-drop n xs) (take_all (length (drop n xs)) (drop n xs) (omega arith))
