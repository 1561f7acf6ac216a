-- What is found of one run of onsets. For the methods of `Run`.
use Rattle.std.proofs.Common.{◌≡◌, refl, arith, ℕ, ◌*◌, ◌/◌, ◌%◌, unsigned_abs, ◌≤◌, ◌<◌, inl, inr, ℤ, pos, ◌+ℤ◌, ◌-ℤ◌, ◌≤ℤ◌, ◌⊎◌, MatchOption}
use Rattle.std.specs.Prelude.{Option, Some, None}
use Rattle.std.specs.Int.Signed.{◌<ℤ◌}
use Rattle.std.proofs.lemmas.Int.{ints, by_lt_z}
use Rattle.jiff_core.proofs.SignedLemmas.{signed_arith, one_part}
use Rattle.profile.specs.series.Rules.{Pattern}
use Rattle.profile.specs.series.Zones.{Observance, IsOnset, IsLatest, NoneBegun, onset_at, local_time}
use Rattle.profile.specs.series.GeneralZones.{Never, Run}
use Rattle.profile.specs.series.GeneralZoneTexts.{IsRunAt}
use Rattle.cal_doors.specs.Ends.{IsBound, AreDaysApart}
use Rattle.cal_doors.specs.Runs.{AreUpTo}

-- the latest onset up to a bound
pub up_to : (run : Run) (instant b : ℤ) (result : Option ℤ) → IsBound run.end instant b
    → MatchOption result (NoneBegun run.observance b) (λ t. IsLatest (IsOnset run.observance) b (onset_at run.observance t)) → AreUpTo run instant result
up_to run instant b None bound (first, f, ahead) = λ x is. by_lt_z instant x.instant (λ lt. lt)
    (λ ge.
    let l = f.least x is.is in
    let m = bound run.observance is.is.day x.instant ge is.in_time in
    absurd (omega (arith, ints, ahead, l, m)))
up_to run instant b (Some t) bound latest = λ x is l. latest.latest x is.is (bound run.observance is.is.day x.instant l is.in_time)

-- ---- two runs of one rule

-- the second of the day is the same where whole days are between
pub same_second : (d s e t k : ℕ) (one other : ℤ) → s < 86_400 → t < 86_400 → local_time d s ≡ one → local_time e t ≡ other
    → (one ≡ other +ℤ pos (86_400 * k)) ⊎ (other ≡ one +ℤ pos (86_400 * k)) → s ≡ t
same_second d s e t k one other u v a b (inl c) = omega (arith, ints, u, v, a, b, c)
same_second d s e t k one other u v a b (inr c) = omega (arith, ints, u, v, a, b, c)

pub day_order : (d s e t : ℕ) (one other : ℤ) → s ≡ t → local_time d s ≡ one → local_time e t ≡ other → one ≤ℤ other → d ≤ e
day_order d s e t one other same a b l = omega (arith, ints, same, a, b, l)

pub whole_days : (one other : ℤ) (n : ℕ) → n ≡ unsigned_abs (one -ℤ other) → n % 86_400 ≡ 0 → AreDaysApart one other
whole_days one other n e z =
    (n / 86_400, by_lt_z one other (λ lt. inr (omega (arith, signed_arith, lt, e, z, one_part (one -ℤ other)))) (λ ge. inl (omega (arith, signed_arith, ge, e, z, one_part (one -ℤ other)))))

-- an instant after one, and none before another but up to it
pub at_only : (x instant only : ℤ) → instant <ℤ x → (x ≤ℤ (only -ℤ pos 1) → x ≤ℤ instant) → x ≤ℤ only → x ≡ only
at_only x instant only later quiet l = by_lt_z x only
    (λ lt. let q = quiet (omega (arith, ints, lt)) in absurd (omega (arith, ints, q, later)))
    (λ ge. omega (arith, ints, ge, l))

-- ---- runs of one onset

abbrev ruled : ℕ → ℕ → Option Pattern → ℤ → ℤ → Run
ruled day second rule from to = record { observance = record { day = day; second = second; rule = rule; offset_from = from; offset_to = to }; end = Never }

once_is : (day second : ℕ) (rule : Option Pattern) (f t from to : ℤ) → rule ≡ None → f ≡ from → t ≡ to
    → ruled day second rule f t ≡ ruled day second None from to
once_is day second rule f t from to e g h = rw (e, g, h) refl

pub once_run : (o p : Observance) (local : ℤ) → p.second < 86_400 → local_time p.day p.second ≡ local → p.rule ≡ None → p.offset_from ≡ o.offset_from → p.offset_to ≡ o.offset_to
    → IsRunAt o local (record { observance = p; end = Never })
once_run o p local w at rule from to = record {
  day = p.day;
  second = p.second;
  in_day = w;
  at = at;
  is = once_is p.day p.second p.rule p.offset_from p.offset_to o.offset_from o.offset_to rule from to;
}
