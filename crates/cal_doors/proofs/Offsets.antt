-- The one offset in force at an instant. For `offset_since` and `offset_until`.
use Rattle.std.proofs.Common.{◌≡◌, ◌∙◌, sym, arith, List, ℤ, ◌≤ℤ◌}
use Rattle.std.specs.Int.Signed.{◌<ℤ◌}
use Rattle.std.proofs.lemmas.Int.{ints}
use Rattle.profile.specs.series.Zones.{Onset, InForce, Since, Until}
use Rattle.profile.specs.series.GeneralZones.{Run, IsGeneralOnset}
use Rattle.cal_doors.specs.Passing.{PassesLatest, PassesFirst}
use Rattle.cal_doors.specs.After.{IsOnlyOffset}

module _ (zone : List Run) (instant latest p : ℤ) (x : Onset) (is : IsGeneralOnset zone x) (at : x.instant ≡ latest) (sets : x.after ≡ p) (begun : latest ≤ℤ instant)
    (all : (y : Onset) → IsGeneralOnset zone y → PassesLatest instant latest p y) where
  only_latest : (q : ℤ) → InForce (IsGeneralOnset zone) instant q → q ≡ p
  only_latest q (Since y h e) =
      let up = (all y h.listed h.begun).0 in
      let down = h.latest x is (omega (arith, ints, at, begun)) in
      e ∙ (all y h.listed h.begun).1 (omega (arith, ints, up, down, at))
  only_latest q (Until y h e) = let least = h.least x is in let ahead = h.ahead in absurd (omega (arith, ints, least, ahead, at, begun))

  pub by_latest : IsOnlyOffset zone instant p
  by_latest = record {
    in_force = Since x (record {
      listed = is;
      begun = omega (arith, ints, at, begun);
      latest = λ y there l. let up = (all y there l).0 in omega (arith, ints, up, at);
    }) (sym sets);
    only = only_latest;
  }

module _ (zone : List Run) (instant first p : ℤ) (x : Onset) (is : IsGeneralOnset zone x) (at : x.instant ≡ first) (ends : x.before ≡ p) (ahead : instant <ℤ first)
    (all : (y : Onset) → IsGeneralOnset zone y → PassesFirst first p y) where
  only_first : (q : ℤ) → InForce (IsGeneralOnset zone) instant q → q ≡ p
  only_first q (Since y h e) = let l = (all y h.listed).0 in let b = h.begun in absurd (omega (arith, ints, l, b, ahead))
  only_first q (Until y h e) =
      let l = (all y h.listed).0 in
      let m = h.least x is in
      e ∙ (all y h.listed).1 (omega (arith, ints, l, m, at))

  pub by_first : IsOnlyOffset zone instant p
  by_first = record {
    in_force = Until x (record {
      listed = is;
      ahead = omega (arith, ints, at, ahead);
      least = λ y there. let l = (all y there).0 in omega (arith, ints, l, at);
    }) (sym ends);
    only = only_first;
  }
