-- Entries that say RES: what the lists of residues say of their series.
-- Cited by residues_hold, is_modulus, one_apart, two_apart, entry_holds, meets.
use Rattle.std.proofs.Common.{◌≡◌, ◌≢◌, ◌∙◌, sym, refl, subst, inr, ℕ, ◌/◌, ◌%◌, ◌^◌, ◌<◌, ◌≤◌, ◌==◌, true, false, Bool, arith, List, length, ℤ, pos, ◌≤ℤ◌, ◌+ℤ◌}
use Rattle.std.specs.Prelude.{◌↔◌, Contains, MatchBool, IsTrue}
use Rattle.std.proofs.lemmas.Bool.{true≢false, false≢true}
use Rattle.std.proofs.lemmas.Nat.{div-add-mod'}
use Rattle.profile.specs.checker.Instances.{IsWithin}
use Rattle.profile.specs.checker.Certificates.{Res, IsPair, IsSeriesAt, EntryHolds, EntryFails}
use Rattle.profile.specs.events.Events.{Event}
use Rattle.profile.specs.events.Confirmed.{Confirmed}
use Rattle.profile.specs.events.Residues.{AreResidues, IsModulus, AreArcsApart, IsArcsApart, ResiduesHold}
use Rattle.profile.specs.events.Spans.{IsWidthOf}
use Rattle.profile.specs.series.Repeating.{ArcsMeet, IsCongruent}
use Rattle.cal_period.specs.Around.{AreAround, AreApart, IsApart}
use Rattle.cal_period.proofs.Widths.{width_is_one}
use Rattle.clash_check.specs.Counted.{IsEntryCount}
use Rattle.clash_check.specs.Draws.{IsDrawable, LastsAbout}
use Rattle.clash_check.specs.Entries.{IsEntryDrawn}
use Rattle.clash_check.specs.Singles.{week, IsSharedByNone}
use Rattle.clash_check.proofs.EntryLemmas.{one_place, two_places}
use Rattle.clash_check.proofs.SweepLemmas.{series_there, series_in}

-- ---- which numbers m may be

pub modulus_days : (m : ℕ) (r : Bool) → m % 86_400 ≡ 0 → IsTrue r ↔ (0 < m / 86_400) × (m / 86_400 ≤ 420) → IsTrue r ↔ IsModulus m
modulus_days m r rest told =
    let d = div-add-mod' m 86_400 in (
      λ e. let few = told.0 e in let some = few.0 in let most = few.1 in (m / 86_400, omega (arith, d, rest), some, most),
      λ modulus.
          let is = modulus.1 in
          let some = modulus.2 in
          let most = modulus.3 in
          told.1 (omega (arith, d, rest, is, some), omega (arith, d, rest, is, most)),
    )

pub modulus_range : (m : ℕ) → IsModulus m → (0 < m) × (m ≤ 36_288_000) × (m < 2 ^ 40)
modulus_range m (days, e, some, most) = (omega (arith, e, some), omega (arith, e, most), omega (arith, e, most))

pub week_is : IsModulus week
week_is = (7, refl, omega arith, omega arith)

-- ---- what the lists say

pub around_of : (a : Event) (m : ℕ) (xs : List ℕ) → AreResidues a m xs → AreAround m xs
around_of a m xs are = record { ascending = are.ascending; below = λ r has. ((are.exact r).0 has).below }

pub tells_two : (a b : Event) (m : ℕ) (xs ys : List ℕ) (w v : ℤ) (r : Bool) → AreResidues a m xs → AreResidues b m ys → IsWidthOf a w → IsWidthOf b v
    → IsTrue r ↔ AreApart m xs w ys v → IsTrue r ↔ AreArcsApart a b m
tells_two a b m xs ys w v r first second of_a of_b told = (
  λ e. (w, v, of_a, of_b, λ p q is it meet. told.0 e p q ((first.exact p).1 is) ((second.exact q).1 it) meet),
  λ apart. told.1 (by apart),
)
  where
    by : AreArcsApart a b m → AreApart m xs w ys v
    by (x, y, at_a, at_b, none) p q has other meet =
        let e : w ≡ x = width_is_one a w x of_a at_a in
        let f : v ≡ y = width_is_one b v y of_b at_b in
        none p q ((first.exact p).0 has) ((second.exact q).0 other) (subst (λ k. ArcsMeet m p k q y) e (subst (λ k. ArcsMeet m p w q k) f meet))

pub tells_one : (a : Event) (m : ℕ) (xs : List ℕ) (w : ℤ) (r : Bool) → AreResidues a m xs → IsWidthOf a w → IsTrue r ↔ IsApart m xs w → IsTrue r ↔ IsArcsApart a m
tells_one a m xs w r are of told = (
  λ e. let apart = told.0 e in (w, of, apart.0, λ p q is it differ meet. apart.1 p q ((are.exact p).1 is) ((are.exact q).1 it) differ meet),
  λ apart. told.1 (by apart),
)
  where
    by : IsArcsApart a m → IsApart m xs w
    by (x, at, narrow, none) =
        let e : w ≡ x = width_is_one a w x of at in (
          subst (λ k. k ≤ℤ pos m) (sym e) narrow,
          λ p q has other differ meet. none p q ((are.exact p).0 has) ((are.exact q).0 other) differ (subst (λ k. ArcsMeet m p k q k) e meet),
        )

-- ---- which residues hold

pub hold_none : (own : Bool) (a b : Event) (m : ℕ) → (IsModulus m → ⊥) → IsTrue false ↔ ResiduesHold own a b m
hold_none own a b m none = (λ e. absurd (false≢true e), λ hold. absurd (none hold.modulus))

pub hold_two : (i j : ℕ) (a b : Event) (m : ℕ) (r : Bool) → i ≢ j → IsModulus m → IsTrue r ↔ AreArcsApart a b m → IsTrue r ↔ ResiduesHold (i == j) a b m
hold_two i j a b m r differ modulus told = (
  λ e. record { modulus = modulus; two = λ _. told.0 e; one = λ own. absurd (true≢false (sym own ∙ two_places i j differ)) },
  λ hold. told.1 (hold.two (two_places i j differ)),
)

pub hold_one : (i j : ℕ) (a b : Event) (m : ℕ) (r : Bool) → i ≡ j → IsModulus m → IsTrue r ↔ IsArcsApart a m → IsTrue r ↔ ResiduesHold (i == j) a b m
hold_one i j a b m r same modulus told = (
  λ e. record { modulus = modulus; two = λ other. absurd (true≢false (sym (one_place i j same) ∙ other)); one = λ _. told.0 e },
  λ hold. told.1 (hold.one (one_place i j same)),
)

-- ---- the entry

pub residues_judged : (all : Confirmed) (i j : ℕ) → IsPair (length all.series) i j → (m : ℕ) (r : Bool)
    → ((a b : Event) → IsSeriesAt all i a → IsSeriesAt all j b → IsTrue r ↔ ResiduesHold (i == j) a b m) → MatchBool r (EntryHolds all i j (Res m)) (EntryFails all i j (Res m))
residues_judged all i j pair m true told = λ a b here there. (told a b here there).0 refl
residues_judged all i j pair m false told =
    let x = pair.0 in
    let y = pair.1 in
    let z = pair.2 in
    let (a, here) = series_there all i (x, omega (arith, y, z)) in
    let (b, there) = series_there all j (omega (arith, x, y), z) in
    (a, b, here, there, λ hold. false≢true ((told a b here there).1 hold))

pub residues_drawn : (all : Confirmed) (i j m : ℕ) (r : Bool) (old n : ℕ) → IsEntryCount all i j (Res m) n → IsEntryDrawn all i j (Res m) r old old n
residues_drawn all i j m true old n none = omega (arith, none)
residues_drawn all i j m false old n none = inr (λ compared. compared, omega arith)

-- ---- what a span beside the residues is clear of

-- each instance starts at one of them
pub not_reached : (all : Confirmed) → IsDrawable all → (i : ℕ) (a : Event) → IsSeriesAt all i a → (xs : List ℕ) → AreResidues a week xs → (width : ℤ) → LastsAbout a width → (start end : ℤ)
    → ((x y t : ℤ) (r : ℕ) → Contains xs r → IsCongruent week x (pos r) → y ≤ℤ (x +ℤ width) → IsWithin x y t → IsWithin start end t → ⊥) → IsSharedByNone a start end
not_reached all drawable i a there xs are width lasts start end none b is share =
    drawable.starts a (series_in all i a there) week (omega arith) b is
    (λ r residue at. none b.start b.end share.instant r ((are.exact r).1 residue) at (lasts.most b is) share.in_first share.in_second)
