-- The offset in force and the meaning of a local time, for any set of onsets.
use Rattle.std.proofs.Common.{◌≡◌, ◌∙◌, sym, arith, ℤ, ◌≤ℤ◌}
use Rattle.std.proofs.lemmas.Int.{by_lt_z}
use Rattle.std.specs.Int.Signed.{◌<ℤ◌}
use Rattle.jiff_core.proofs.SignedLemmas.{signed_arith}
use Rattle.profile.specs.series.Zones.{Onset, IsLatest, InForce, Since, Until}

-- two onsets at one instant are alike
pub record OneAtOnce (Is : Onset → Type 0) : Type 0 where
  pub alike : (x y : Onset) → Is x → Is y → x.instant ≡ y.instant → (x.before ≡ y.before) × (x.after ≡ y.after)

-- one offset is in force at an instant
pub one_offset : (Is : Onset → Type 0) (instant p q : ℤ) → OneAtOnce Is → InForce Is instant p → InForce Is instant q → p ≡ q
one_offset Is instant p q u (Since x h e) (Since y k f) =
    let same : x.instant ≡ y.instant = omega (arith, signed_arith, k.latest x h.listed h.begun, h.latest y k.listed k.begun) in
    e ∙ (u.alike x y h.listed k.listed same).1 ∙ sym f
one_offset Is instant p q u (Since x h e) (Until y k f) = absurd (omega (arith, signed_arith, k.least x h.listed, k.ahead, h.begun))
one_offset Is instant p q u (Until x h e) (Since y k f) = absurd (omega (arith, signed_arith, h.least y k.listed, h.ahead, k.begun))
one_offset Is instant p q u (Until x h e) (Until y k f) =
    let same : x.instant ≡ y.instant = omega (arith, signed_arith, k.least x h.listed, h.least y k.listed) in
    e ∙ (u.alike x y h.listed k.listed same).0 ∙ sym f

-- where the offset differs at two instants, an onset is between them and sets it
pub record Between (Is : Onset → Type 0) (early late after : ℤ) : Type 0 where
  pub onset : Onset
  pub listed : Is onset
  pub past : early <ℤ onset.instant
  pub begun : onset.instant ≤ℤ late
  pub sets : after ≡ onset.after

begun_before : (Is : Onset → Type 0) (early late p q : ℤ) (x : Onset) → OneAtOnce Is → early ≤ℤ late → IsLatest Is late x → q ≡ x.after → InForce Is early p → x.instant ≤ℤ early → p ≡ q
begun_before Is early late p q x u o h e (Since y k f) b =
    let same : x.instant ≡ y.instant = omega (arith, signed_arith, k.latest x h.listed b, k.begun, h.latest y k.listed (omega (arith, signed_arith, k.begun))) in
    f ∙ sym (u.alike x y h.listed k.listed same).1 ∙ sym e
begun_before Is early late p q x u o h e (Until y k f) b = absurd (omega (arith, signed_arith, k.least x h.listed, k.ahead))

pub between : (Is : Onset → Type 0) (early late p q : ℤ) → OneAtOnce Is → early ≤ℤ late → InForce Is early p → InForce Is late q → (p ≡ q → ⊥) → Between Is early late q
between Is early late p q u o f (Since x h e) differ =
    by_lt_z early x.instant
    (λ lt. record { onset = x; listed = h.listed; past = lt; begun = h.begun; sets = e })
    (λ ge. absurd (differ (begun_before Is early late p q x u o h e f ge)))
between Is early late p q u o (Since y k f) (Until x h e) differ = absurd (omega (arith, signed_arith, h.least y k.listed, h.ahead, k.begun))
between Is early late p q u o (Until y k f) (Until x h e) differ =
    let same : x.instant ≡ y.instant = omega (arith, signed_arith, k.least x h.listed, h.least y k.listed) in
    absurd (differ (f ∙ sym (u.alike x y h.listed k.listed same).0 ∙ sym e))
