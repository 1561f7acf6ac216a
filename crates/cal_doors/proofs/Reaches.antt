-- The onsets that a run shares with another of the same rule. For `Run::is_within` and `Run::reach`.
use Rattle.std.proofs.Common.{◌≡◌, sym, subst, ◌∙◌, arith, ℕ, ◌≤◌, ◌==◌, ◌&&◌, nat_le, true, ℤ, pos, ◌+ℤ◌, ◌-ℤ◌, ◌≤ℤ◌}
use Rattle.std.specs.Prelude.{Option, Some, None}
use Rattle.std.specs.Int.Signed.{◌<ℤ◌}
use Rattle.std.proofs.lemmas.Int.{ints, by_lt_z}
use Rattle.std.proofs.lemmas.Bool.Decides.{nat_tests}
use Rattle.profile.specs.series.Rules.{Pattern, is_base}
use Rattle.profile.specs.series.Zones.{Observance, Onset, IsOnset, IsFirstOf, local_time}
use Rattle.profile.specs.series.GeneralZones.{Never, AtInstant, Run, IsRunOnset, IsInTime}
use Rattle.cal_doors.specs.Runs.{IsAlike}
use Rattle.cal_doors.proofs.RunLemmas.{day_order}

-- an onset of the other on a day that isn't before the DTSTART
onset_of : (o p : Observance) (x : Onset) → IsAlike o p → (h : IsOnset p x) → o.day ≤ h.day → IsOnset o x
onset_of o p x like h from = record {
  day = h.day;
  begins = like.days h.day from h.begins;
  read = rw (like.before, like.second) h.read;
  before = h.before ∙ sym like.before;
  after = h.after ∙ sym like.after;
}

-- it begins on no day before its DTSTART
begun : (rule : Option Pattern) (d n : ℕ) → (elim rule [ None ↦ n == d | Some parts ↦ nat_le d n && is_base parts n ]) ≡ true → d ≤ n
begun None d n h = grind (arith, nat_tests)
begun (Some parts) d n h = grind (arith, nat_tests)

pub within : (run : Run) (o : Observance) (a b : ℤ) → IsAlike o run.observance → local_time o.day o.second ≡ a → local_time run.observance.day run.observance.second ≡ b → a ≤ℤ b
    → (x : Onset) → IsRunOnset run x → IsOnset o x
within run o a b like u v l x h =
    let p = run.observance in
    onset_of o p x like h.is (omega (arith, day_order o.day o.second p.day p.second a b like.second u v l, begun p.rule p.day h.is.day h.is.begins))

-- where none of the other is between an instant and the first onset, each later one of the other is one of the observance
shared : (o whole : Observance) (first from : ℤ) → IsAlike o whole → IsFirstOf o first
    → ((x : Onset) → IsRunOnset (record { observance = whole; end = Never }) x → x.instant ≤ℤ (first -ℤ pos 1) → x.instant ≤ℤ from)
    → (x : Onset) → IsOnset whole x → from <ℤ x.instant → IsOnset o x
shared o whole first from like f quiet x is later =
    let past : first ≤ℤ x.instant = by_lt_z x.instant first
    (λ lt. let q = quiet x (record { is = is; in_time = tt }) (omega (arith, ints, lt)) in absurd (omega (arith, ints, q, later)))
    (λ ge. ge) in
    let r = f.listed.read in
    let s : x.instant +ℤ o.offset_from ≡ local_time is.day o.second = rw (like.before, like.second) is.read in
    let day : f.listed.day ≤ is.day = omega (arith, ints, past, r, s) in
    onset_of o whole x like is (omega (arith, day, begun o.rule o.day f.listed.day f.listed.begins))

module _ (run : Run) (whole : Observance) (first from : ℤ) (like : IsAlike run.observance whole) (f : IsFirstOf run.observance first)
    (quiet : (x : Onset) → IsRunOnset (record { observance = whole; end = Never }) x → x.instant ≤ℤ (first -ℤ pos 1) → x.instant ≤ℤ from) where
  pub reach_all : run.end ≡ Never → (x : Onset) → IsOnset whole x → from <ℤ x.instant → IsRunOnset run x
  reach_all e x is later =
      let on = shared run.observance whole first from like f quiet x is later in
      record { is = on; in_time = subst (λ end. IsInTime end run.observance on.day x.instant) (sym e) tt }

  pub reach_until : (until to : ℤ) → run.end ≡ AtInstant until → (from <ℤ to → to ≤ℤ until) → (x : Onset) → IsOnset whole x → from <ℤ x.instant → x.instant ≤ℤ to → IsRunOnset run x
  reach_until until to e most x is later l =
      let on = shared run.observance whole first from like f quiet x is later in
      let m = most (omega (arith, ints, later, l)) in
      let within : x.instant ≤ℤ until = omega (arith, ints, m, l) in
      record { is = on; in_time = subst (λ end. IsInTime end run.observance on.day x.instant) (sym e) within }
