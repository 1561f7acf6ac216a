use Rattle.std.proofs.Common.{List, map, sym, subst}
use Rattle.std.specs.List.Sorted.{IsPermutation}
use Rattle.cal_events.specs.Calendar.{key_of}
use Rattle.cal_events.specs.Draft.{override_keys}
use Rattle.cal_events.specs.declared.instance.InstanceKey.{InstanceKey}
use Rattle.cal_events.proofs.draft_lemmas.KeyLemmas.{twins_of, pairs_permutation}
use Rattle.cal_events.proofs.shared_lemmas.BlamedLemmas.{when_true}
use Rattle.cal_events.proofs.blamed.have_twin_overrides.Goals as goal

pub returns : goal.returns
returns c have differ =
    let entries = c.args.entries.now in
    let keys = c.deref.result.now in
    let same = subst (λ (l : List InstanceKey). IsPermutation (override_keys entries) (map key_of l)) (sym c.deref.ensures.value) c.in_ok-keys.ensures.0 in
    twins_of keys (when_true c.has_equal_neighbours.result _ _ c.has_equal_neighbours.ensures have) (pairs_permutation (override_keys entries) (map key_of keys) same differ)
