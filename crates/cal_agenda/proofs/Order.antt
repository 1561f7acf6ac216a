-- What was gathered, put in order, is an agenda.
use Rattle.std.proofs.Common.{◌≡◌, ◌≢◌, ◌∙◌, ◌+◌, ◌<◌, false, List, [], ◌∷◌, map, length, get_or, refl, sym, ap, arith, ℤ, Ordering}
use Rattle.std.specs.Prelude.{AllPairs}
use Rattle.std.specs.declared.cmp.Ordering.TheVariants.{Less, Equal, Greater}
use Rattle.std.specs.Cmp.{IsTotalOrder}
use Rattle.std.specs.Ordering.{is_lt, int_cmp, ordering_then, ordering_reverse}
use Rattle.std.specs.List.Sorted.{IsPermutation, IsSortedBy, IsSortedByKey}
use Rattle.std.proofs.lemmas.Bool.{true≢false}
use Rattle.std.proofs.lemmas.Cmp.{on_total, then_total, int_cmp_total}
use Rattle.std.proofs.lemmas.List.{get_or-map, length-map}
use Rattle.std.proofs.lemmas.List.Sorted.{sorted_far, ranks_by, Contains-permutation, IsPermutation-map, IsPermutation-sym}
use Rattle.profile.specs.checker.Instances.{Instance as SaidInstance, key_cmp, instance_cmp}
use Rattle.profile.specs.checker.Agendas.{AreInSpan}
use Rattle.cal_events.specs.Calendar.{HaveDifferentKeys, instance_of}
use Rattle.cal_events.specs.declared.instance.Instance.{Instance}
use Rattle.cal_events.proofs.draft_lemmas.KeyLemmas.{key_total, key_exact}
use Rattle.cal_events.proofs.shared_lemmas.Distinct.{pairs_permuted}
use Rattle.cal_agenda.specs.InSpan.{AreAllInSpan}

pub instance_total : IsTotalOrder instance_cmp
instance_total = then_total (on_total (λ (a : SaidInstance). a.start) int_cmp_total) (on_total (λ (a : SaidInstance). a.key) key_total)

-- two of one place in the order have one key
tied : (o p : Ordering) → ordering_then o p ≡ Equal → p ≡ Equal
tied Less p e = cc
tied Equal p e = e
tied Greater p e = cc

-- of two different keys one comes first
pub comes_first : (a b : SaidInstance) → a.key ≢ b.key → is_lt (instance_cmp b a) ≡ false → instance_cmp a b ≡ Less
comes_first a b differ not = go (instance_cmp a b) refl
  where
    go : (r : Ordering) → instance_cmp a b ≡ r → r ≡ Less
    go Less e = refl
    go Equal e = absurd (differ (key_exact a.key b.key (tied (int_cmp a.start b.start) (key_cmp a.key b.key) e)))
    go Greater e = absurd (true≢false (sym (ap is_lt (instance_total.antisymm b a ∙ ap ordering_reverse e)) ∙ not))

pub differ_permuted : (xs ys : List SaidInstance) → IsPermutation xs ys → HaveDifferentKeys xs → HaveDifferentKeys ys
differ_permuted xs ys same p = pairs_permuted (λ (a b : SaidInstance). a.key ≢ b.key) (λ a b differ e. differ (sym e)) xs ys same p

in_order : (xs : List SaidInstance) → IsSortedBy (λ a b. is_lt (instance_cmp a b)) xs → HaveDifferentKeys xs → AllPairs (λ a b. instance_cmp a b ≡ Less) xs
in_order xs up differ i j d less within =
    comes_first (get_or xs i d) (get_or xs j d) (differ i j d less within)
    (sorted_far (λ a b. is_lt (instance_cmp a b)) (ranks_by instance_total (λ (a : SaidInstance). a)) xs up i j d (omega (arith, less)) within)

-- as their instances say
up_said : (ps : List Instance) → IsSortedByKey instance_of instance_cmp ps → IsSortedBy (λ a b. is_lt (instance_cmp a b)) (map instance_of ps)
up_said ps up k d z w =
    let l : k + 1 < length ps = omega (arith, length-map ps instance_of) in
    let p = some_of ps (omega arith) in
    rw (get_or-map instance_of ps k p d (omega arith), get_or-map instance_of ps (k + 1) p d l) (up k p z l)
  where
    some_of : (ps : List Instance) → 0 < length ps → Instance
    some_of [] h = absurd (omega arith)
    some_of (p ∷ ps) h = p

pub put_in_order : (Is : SaidInstance → Type 0) (from until : ℤ) (found sorted : List Instance) → AreAllInSpan Is from until (map instance_of found) → IsPermutation found sorted
    → IsSortedByKey instance_of instance_cmp sorted → AreInSpan Is from until (map instance_of sorted)
put_in_order Is from until found sorted are same up =
    let moved = IsPermutation-map instance_of found sorted same in record {
      all = λ a is within. Contains-permutation (map instance_of found) (map instance_of sorted) a moved (are.all a is within);
      only = λ a among. are.only a (Contains-permutation (map instance_of sorted) (map instance_of found) a (IsPermutation-sym (map instance_of found) (map instance_of sorted) moved) among);
      ordered = in_order (map instance_of sorted) (up_said sorted up) (differ_permuted (map instance_of found) (map instance_of sorted) moved are.differ);
    }
