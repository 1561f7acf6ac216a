use Rattle.std.proofs.lemmas.Grind.{common_steps}
use Rattle.std.proofs.Common.{rules, arith}
use Rattle.std.proofs.lemmas.Int.{ints}
use Rattle.std.proofs.Common.{◌≡◌, ◌∙◌, ap, sym, refl, ℕ, ℤ, ◌≤◌, pos, arith, Some, Bor, Ordering, Less, Equal, Greater, Result, nat_abs, w16, to_z, of_z}
use Rattle.std.specs.List.{reduce}
use Rattle.std.specs.Int.{FitsUnsignedBits}
use Rattle.std.specs.Option.{option_map}
use Rattle.std.specs.Ordering.{int_cmp, min_by_ordering}
use Rattle.std.specs.Result.{OkIff, result_ok}
use Rattle.std.proofs.lemmas.Bool.{true≢false}
use Rattle.std.proofs.lemmas.Int.{to_z_pos}
use Rattle.std.proofs.lemmas.Iterator.{YieldsList-from_slice}
use Rattle.std.proofs.lemmas.Iterator.Consumers.{reduce_by_from_yields_List}
use Rattle.cal_zones.proofs.Seven.{least, none_first, as_u8}
use Rattle.cal_zones.proofs.one_day.first_of_seven.Goals as goal

picked : (o : Ordering) (p z : Bor ℤ) → (min_by_ordering o p z).now ≡ min_by_ordering o p.now z.now
picked Less p z = refl
picked Equal p z = refl
picked Greater p z = refl

-- what the least number was read as, where it is a day of a month
same : {E : Type 0} (r : Result ℕ E) (z : ℤ) (n first : ℕ) → OkIff r (FitsUnsignedBits 8 (to_z w16 (of_z w16 z))) (nat_abs (to_z w16 (of_z w16 z)))
    → Some n ≡ result_ok r → z ≡ pos first → first ≤ 25 → n ≡ first
same r z n first t v e low =
    let still : to_z w16 (of_z w16 z) ≡ pos first = rw e (to_z_pos w16 first (omega arith)) in
    as_u8 r (to_z w16 (of_z w16 z)) n first t v still

pub returns-then-first-gt25-clause-none : goal.returns-then-first-gt25-clause-none
returns-then-first-gt25-clause-none c =
    let numbers = c.args.numbers.now in
    let is : option_map (λ (x : Bor ℤ). x.now) c.min.result ≡ reduce least numbers =
    reduce_by_from_yields_List (λ p z. min_by_ordering (int_cmp p.now z.now) p z) least c.iter.result c.min.result (λ p z. picked (int_cmp p.now z.now) p z) c.min.ensures.ran (YieldsList-from_slice numbers (cc)) in
    let least_is : Some c.in_ok-min.field-0.now ≡ reduce least numbers = ap (option_map (λ (x : Bor ℤ). x.now)) (sym c.in_ok-min.was) ∙ is in
    none_first c.in_ok-min.field-0.now numbers least_is (λ first e low h. let n = same c.try_from.result c.in_ok-min.field-0.now c.in_ok-first.first first c.try_from.ensures c.in_ok-first.ensures.value e low in omega arith)

pub returns-then-not-are_seven-clause-none : goal.returns-then-not-are_seven-clause-none
returns-then-not-are_seven-clause-none c =
    let numbers = c.args.numbers.now in
    let is : option_map (λ (x : Bor ℤ). x.now) c.min.result ≡ reduce least numbers =
    reduce_by_from_yields_List (λ p z. min_by_ordering (int_cmp p.now z.now) p z) least c.iter.result c.min.result (λ p z. picked (int_cmp p.now z.now) p z) c.min.ensures.ran (YieldsList-from_slice numbers (cc)) in
    let least_is : Some c.in_ok-min.field-0.now ≡ reduce least numbers = ap (option_map (λ (x : Bor ℤ). x.now)) (sym c.in_ok-min.was) ∙ is in
    none_first c.in_ok-min.field-0.now numbers least_is (λ first e low h. let n = same c.try_from.result c.in_ok-min.field-0.now c.in_ok-first.first first c.try_from.ensures c.in_ok-first.ensures.value e low in true≢false (sym h ∙ rw (sym n) (sym c.if-not-are_seven.ensures)))

pub returns-clause-found : goal.returns-clause-found
returns-clause-found c = search (ints, rules)

pub returns-clause-none : goal.returns-clause-none
returns-clause-none c = search (ints, rules)

pub returns-in_err-min-clause-none : goal.returns-in_err-min-clause-none
returns-in_err-min-clause-none c = grind (arith, common_steps)

pub returns-in_err-first-clause-none : goal.returns-in_err-first-clause-none
returns-in_err-first-clause-none c = grind (arith, common_steps)
