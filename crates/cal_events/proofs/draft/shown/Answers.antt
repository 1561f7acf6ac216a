use Rattle.std.proofs.Common.{◌∙◌, List, ap, inr, refl, map, sym, subst}
use Rattle.std.specs.List.Sorted.{IsPermutation}
use Rattle.std.proofs.lemmas.List.Sorted.{IsPermutation-sym}
use Rattle.ical_lines.specs.declared.fault.Refusal.{Refusal}
use Rattle.cal_events.specs.Begins.{BetweenBlame}
use Rattle.cal_events.specs.Calendar.{key_of}
use Rattle.cal_events.specs.Draft.{AreInOrder, override_key, override_keys}
use Rattle.cal_events.specs.Masters.{AreSeriesOf}
use Rattle.cal_events.specs.declared.instance.InstanceKey.{InstanceKey}
use Rattle.cal_events.proofs.draft_lemmas.KeyLemmas.{twins_of, no_twins_of, pairs_permutation}
use Rattle.cal_events.proofs.shared_lemmas.DraftKeys.{two_keys}
use Rattle.cal_events.proofs.draft.shown.Goals as goal

pub begin_of_twin-requires-clause-two : goal.begin_of_twin-requires-clause-two
begin_of_twin-requires-clause-two c =
    let same = subst (λ (l : List InstanceKey). IsPermutation (override_keys c.args.entries.now) (map key_of l)) (sym c.deref.ensures.value) c.in_ok-overrides.ensures.0 in
    two_keys override_key c.args.entries.now
    (λ differ. twins_of c.deref.result.now c.if-has_equal_neighbours.ensures (pairs_permutation (override_keys c.args.entries.now) (map key_of c.deref.result.now) same differ))

pub returns-then-has_equal_neighbours-clause-fault : goal.returns-then-has_equal_neighbours-clause-fault
returns-then-has_equal_neighbours-clause-fault c =
    let same = subst (λ (l : List InstanceKey). IsPermutation (override_keys c.args.entries.now) (map key_of l)) (sym c.deref.ensures.value) c.in_ok-overrides.ensures.0 in (
      ap (λ (e : Refusal). e.number) c.at.ensures,
      λ differ. twins_of c.deref.result.now c.if-has_equal_neighbours.ensures (pairs_permutation (override_keys c.args.entries.now) (map key_of c.deref.result.now) same differ),
    )

pub returns-then-has_equal_neighbours-clause-at : goal.returns-then-has_equal_neighbours-clause-at
returns-then-has_equal_neighbours-clause-at c =
    subst (λ (e : Refusal). BetweenBlame c.args.begins.now e.number e.line) (sym c.at.ensures) (inr (refl, c.in_ok-line.ensures))

pub returns-clause-differ : goal.returns-clause-differ
returns-clause-differ c =
    let same = subst (λ (l : List InstanceKey). IsPermutation (override_keys c.args.entries.now) (map key_of l)) (sym c.deref.ensures.value) c.in_ok-overrides.ensures.0 in
    pairs_permutation (map key_of c.deref.result.now) (override_keys c.args.entries.now) (IsPermutation-sym _ _ same)
    (no_twins_of c.deref.result.now (subst AreInOrder (sym c.deref.ensures.value) c.in_ok-overrides.ensures.1) c.if-has_equal_neighbours.ensures)

pub returns-clause-shown : goal.returns-clause-shown
returns-clause-shown c = record {
  keys = map key_of c.deref-2.result.now;
  same = subst (λ (l : List InstanceKey). IsPermutation (override_keys c.args.entries.now) (map key_of l)) (sym c.deref-2.ensures.value) c.in_ok-overrides.ensures.0;
  is = c.in_ok-singles.ensures;
}

pub returns-clause-ruled : goal.returns-clause-ruled
returns-clause-ruled c = record {
  keys = map key_of c.deref-2.result.now;
  same = subst (λ (l : List InstanceKey). IsPermutation (override_keys c.args.entries.now) (map key_of l)) (sym c.deref-2.ensures.value) c.in_ok-overrides.ensures.0;
  each = subst (λ (l : List InstanceKey). AreSeriesOf (map key_of l) c.args.masters.items c.in_ok-series.series.items) (c.deref-3.ensures.value ∙ sym c.deref-2.ensures.value) c.in_ok-series.ensures;
}
