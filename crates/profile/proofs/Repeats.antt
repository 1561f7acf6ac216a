-- One period settles series without end: where no two instances that start before the end of the first period and the greatest width share
-- an instant, none do at all.
use Rattle.std.proofs.Common.{◌≡◌, ◌≢◌, refl, subst, ap, arith, ℕ, zero, suc, ◌+◌, ◌-◌, ◌*◌, ℤ, pos, negsuc, ◌+ℤ◌, ◌-ℤ◌, ◌≤ℤ◌, ◌<ℤ◌}
use Rattle.std.proofs.lemmas.Int.{ints, by_lt_z}
use Rattle.profile.specs.checker.Instances.{IsWithin}
use Rattle.std.proofs.Common.{◌⊎◌, inl, inr, ◌<◌, ◌≤◌}
use Rattle.std.proofs.lemmas.Bool.{cases_lt}
use Rattle.profile.specs.series.Repeating.{RepeatsFrom, IsCongruent, ArcsMeet}

-- no instance lasts longer than this many seconds
abbrev pub LastsAtMost : (ℤ → ℤ → Type 0) → ℤ → Type 0
LastsAtMost Is width = (start end : ℤ) → Is start end → end ≤ℤ (start +ℤ width)

-- no instance of the one shares an instant with one of the other, where both start before a bound
abbrev pub AreApartBelow : (ℤ → ℤ → Type 0) → (ℤ → ℤ → Type 0) → ℤ → Type 0
AreApartBelow These Those bound =
    (a b c d t : ℤ) → These a b → Those c d → a <ℤ bound → c <ℤ bound → IsWithin a b t → IsWithin c d t → ⊥

-- no two instances of one series with different starts do
abbrev pub IsApartBelow : (ℤ → ℤ → Type 0) → ℤ → Type 0
IsApartBelow These bound =
    (a b c d t : ℤ) → These a b → These c d → a ≢ c → a <ℤ bound → c <ℤ bound → IsWithin a b t → IsWithin c d t → ⊥

-- each instance starts at one of these residues
abbrev pub StartsAt : (ℤ → ℤ → Type 0) → ℕ → (ℕ → Type 0) → Type 0
StartsAt Is m These = (start end : ℤ) → Is start end → (residue : ℕ) × These residue × IsCongruent m start (pos residue)

int_eq_by : {a b : ℤ} → a ≤ℤ b → b ≤ℤ a → a ≡ b
int_eq_by {a} {b} l m = omega (arith, ints, l, m)

-- a number of seconds that isn't below a number
abbrev size : ℤ → ℕ
size (pos n) = n
size (negsuc n) = 0

within : (z : ℤ) → z ≤ℤ pos (size z)
within (pos n) = let e : size (pos n) ≡ n = refl in omega (arith, ints, e)
within (negsuc n) = let e : size (negsuc n) ≡ 0 = refl in omega (arith, ints, e)

module _ (These Those : ℤ → ℤ → Type 0) (Differ : ℤ → ℤ → Type 0) (from period width : ℤ) (some : pos 0 <ℤ period)
    (these_short : LastsAtMost These width) (those_short : LastsAtMost Those width) (these_repeat : RepeatsFrom These from period) (those_repeat : RepeatsFrom Those from period)
    (still : (a c : ℤ) → Differ a c → Differ (a -ℤ period) (c -ℤ period))
    (clear : (a b c d t : ℤ) → These a b → Those c d → Differ a c → a <ℤ ((from +ℤ period) +ℤ width) → c <ℤ ((from +ℤ period) +ℤ width) → IsWithin a b t → IsWithin c d t → ⊥) where
  abbrev bound : ℤ
  bound = (from +ℤ period) +ℤ width

  -- the two were there a period before
  step : (n : ℕ) → ((a b c d t : ℤ) → These a b → Those c d → Differ a c → a <ℤ (bound +ℤ pos n) → c <ℤ (bound +ℤ pos n) → IsWithin a b t → IsWithin c d t → ⊥)
      → (a b c d t : ℤ) → These a b → Those c d → Differ a c → a <ℤ (bound +ℤ pos (suc n)) → c <ℤ (bound +ℤ pos (suc n)) → IsWithin a b t → IsWithin c d t
      → (from +ℤ period) ≤ℤ a → (from +ℤ period) ≤ℤ c → ⊥
  step n before a b c d t x y differ m k i j l g =
      before (a -ℤ period) (b -ℤ period) (c -ℤ period) (d -ℤ period) (t -ℤ period) (these_repeat a b l x) (those_repeat c d g y) (still a c differ)
      (omega (arith, ints, m, some)) (omega (arith, ints, k, some)) (omega (arith, ints, i.0), omega (arith, ints, i.1)) (omega (arith, ints, j.0), omega (arith, ints, j.1))

  upward : (n : ℕ) (a b c d t : ℤ) → These a b → Those c d → Differ a c → a <ℤ (bound +ℤ pos n) → c <ℤ (bound +ℤ pos n) → IsWithin a b t → IsWithin c d t → ⊥
  upward zero a b c d t x y differ m k i j = clear a b c d t x y differ (omega (arith, ints, m)) (omega (arith, ints, k)) i j
  upward (suc n) a b c d t x y differ m k i j =
      let s = these_short a b x in
      let r = those_short c d y in
      by_lt_z a (bound +ℤ pos n)
      (λ less. by_lt_z c (bound +ℤ pos n) (λ fewer. upward n a b c d t x y differ less fewer i j)
      (λ most. step n (upward n) a b c d t x y differ m k i j (omega (arith, ints, most, s, i.1, j.0)) (omega (arith, ints, most, s, i.1, i.0, j.0))))
      (λ most. step n (upward n) a b c d t x y differ m k i j (omega (arith, ints, most, r, i.0, j.1, j.0)) (omega (arith, ints, most, r, i.0, j.1)))

  pub always : (a b c d t : ℤ) → These a b → Those c d → Differ a c → IsWithin a b t → IsWithin c d t → ⊥
  always a b c d t x y differ i j =
      let m = within (a -ℤ bound) in
      let k = within (c -ℤ bound) in
      upward (size (a -ℤ bound) + size (c -ℤ bound) + 1) a b c d t x y differ (omega (arith, ints, m)) (omega (arith, ints, k)) i j

-- two series, and one with itself
pub pair_apart : (These Those : ℤ → ℤ → Type 0) (from period width : ℤ) → pos 0 <ℤ period → LastsAtMost These width → LastsAtMost Those width
    → RepeatsFrom These from period → RepeatsFrom Those from period → AreApartBelow These Those ((from +ℤ period) +ℤ width)
    → (a b c d t : ℤ) → These a b → Those c d → IsWithin a b t → IsWithin c d t → ⊥
pair_apart These Those from period width some s r u v clear a b c d t x y =
    always These Those (λ _ _. Unit {0}) from period width some s r u v (λ a c h. tt) (λ a b c d t x y h. clear a b c d t x y) a b c d t x y tt

pub alone_apart : (These : ℤ → ℤ → Type 0) (from period width : ℤ) → pos 0 <ℤ period → LastsAtMost These width
    → RepeatsFrom These from period → IsApartBelow These ((from +ℤ period) +ℤ width)
    → (a b c d t : ℤ) → These a b → These c d → a ≢ c → IsWithin a b t → IsWithin c d t → ⊥
alone_apart These from period width some s u clear = always These These (λ a c. a ≢ c) from period width some s s u u still clear
  where
    still : (a c : ℤ) → a ≢ c → (a -ℤ period) ≢ (c -ℤ period)
    still a c differ e = differ (omega (arith, ints, e))

-- ---- more periods, from a later instant on

-- ---- residues: where no arcs of two residues meet, nothing shares an instant, for ever

sum_times : (k l m : ℕ) → (k + l) * m ≡ k * m + l * m
sum_times zero l m = let z : 0 * m ≡ 0 = omega arith in let e : 0 + l ≡ l = omega arith in rw e (omega (arith, z))
sum_times (suc k) l m =
    let e = sum_times k l m in
    let a : (suc k + l) * m ≡ m + (k + l) * m = omega arith in
    let b : suc k * m ≡ m + k * m = omega arith in
    omega (arith, a, b, e)

-- an instant in two instances is in the arcs of both their residues
arcs_meet : (m r s : ℕ) (w v a b c d t : ℤ) → IsCongruent m a (pos r) → IsCongruent m c (pos s) → b ≤ℤ (a +ℤ w) → d ≤ℤ (c +ℤ v) → IsWithin a b t → IsWithin c d t
    → ArcsMeet m r w s v
arcs_meet m r s w v a b c d t p q short brief x y =
    let k = p.0 in
    let l = p.1 in
    let o = q.0 in
    let n = q.1 in
    let e = sum_times l o m in
    let f = sum_times n k m in
    let first = p.2 in
    let second = q.2 in
    record {
      i = t -ℤ a;
      j = t -ℤ c;
      in_first = (omega (arith, ints, x.0), omega (arith, ints, x.1, short));
      in_second = (omega (arith, ints, y.0), omega (arith, ints, y.1, brief));
      same = (l + o, n + k, int_eq_by (omega (arith, ints, e, f, first, second)) (omega (arith, ints, e, f, first, second)));
    }

pub residues_apart : (These Those : ℤ → ℤ → Type 0) (m : ℕ) (w v : ℤ) (First Second : ℕ → Type 0) → StartsAt These m First → StartsAt Those m Second
    → LastsAtMost These w → LastsAtMost Those v → ((r s : ℕ) → First r → Second s → ArcsMeet m r w s v → ⊥)
    → (a b c d t : ℤ) → These a b → Those c d → IsWithin a b t → IsWithin c d t → ⊥
residues_apart These Those m w v First Second starts begins short brief clear a b c d t these those x y =
    let p = starts a b these in
    let q = begins c d those in
    clear p.0 q.0 p.1 q.1 (arcs_meet m p.0 q.0 w v a b c d t p.2 q.2 (short a b these) (brief c d those) x y)

-- two different instants of one residue are at least m apart
far : (m k l : ℕ) → k < l → k * m + m ≤ l * m
far m k l less =
    let n = l - suc k in
    let e : l ≡ suc k + n = omega (arith, less) in
    let f = sum_times (suc k) n m in
    let g : suc k * m ≡ m + k * m = omega arith in
    let h : l * m ≡ (suc k + n) * m = ap (λ x. x * m) e in
    omega (arith, f, g, h)

one_residue : (m r : ℕ) (w a b c d t : ℤ) → w ≤ℤ pos m → IsCongruent m a (pos r) → IsCongruent m c (pos r) → a ≢ c → b ≤ℤ (a +ℤ w) → d ≤ℤ (c +ℤ w)
    → IsWithin a b t → IsWithin c d t → ⊥
one_residue m r w a b c d t narrow p q differ short brief x y = by (cases_lt (p.0 + q.1) (q.0 + p.1))
  where
    u : ℕ
    u = p.0 + q.1

    v : ℕ
    v = q.0 + p.1

    by : (u < v) ⊎ (v ≤ u) → ⊥
    by (inl less) =
        let n = far m u v less in
        let e = sum_times p.0 q.1 m in
        let f = sum_times q.0 p.1 m in
        let first = p.2 in
        let second = q.2 in
        absurd (omega (arith, ints, n, e, f, first, second, narrow, short, brief, x.0, x.1, y.0, y.1))
    by (inr most) = again (cases_lt v u)
      where
        again : (v < u) ⊎ (u ≤ v) → ⊥
        again (inl less) =
            let n = far m v u less in
            let e = sum_times p.0 q.1 m in
            let f = sum_times q.0 p.1 m in
            let first = p.2 in
            let second = q.2 in
            absurd (omega (arith, ints, n, e, f, first, second, narrow, short, brief, x.0, x.1, y.0, y.1))
        again (inr least) =
            let same : u ≡ v = omega (arith, most, least) in
            let g : u * m ≡ v * m = ap (λ n. n * m) same in
            let e = sum_times p.0 q.1 m in
            let f = sum_times q.0 p.1 m in
            let first = p.2 in
            let second = q.2 in
            differ (int_eq_by (omega (arith, ints, g, e, f, first, second)) (omega (arith, ints, g, e, f, first, second)))

pub residues_alone : (These : ℤ → ℤ → Type 0) (m : ℕ) (w : ℤ) (All : ℕ → Type 0) → w ≤ℤ pos m → StartsAt These m All → LastsAtMost These w
    → ((r s : ℕ) → All r → All s → r ≢ s → ArcsMeet m r w s w → ⊥)
    → (a b c d t : ℤ) → These a b → These c d → a ≢ c → IsWithin a b t → IsWithin c d t → ⊥
residues_alone These m w All narrow starts short clear a b c d t these those differ x y =
    by (starts a b these) (starts c d those)
  where
    by : (r : ℕ) × All r × IsCongruent m a (pos r) → (s : ℕ) × All s × IsCongruent m c (pos s) → ⊥
    by p q = which (cases_lt p.0 q.0)
      where
        apart : (p.0 ≢ q.0) → ⊥
        apart differ = clear p.0 q.0 p.1 q.1 differ (arcs_meet m p.0 q.0 w w a b c d t p.2 q.2 (short a b these) (short c d those) x y)

        which : (p.0 < q.0) ⊎ (q.0 ≤ p.0) → ⊥
        which (inl less) = apart (λ e. omega (arith, less, e))
        which (inr most) = again (cases_lt q.0 p.0)
          where
            again : (q.0 < p.0) ⊎ (p.0 ≤ q.0) → ⊥
            again (inl less) = apart (λ e. omega (arith, less, e))
            again (inr least) =
                let same : q.0 ≡ p.0 = omega (arith, most, least) in
                one_residue m p.0 w a b c d t narrow p.2 (subst (λ r. IsCongruent m c (pos r)) same q.2) differ (short a b these) (short c d those) x y
