-- A group of a certificate, judged by what is drawn of all its series.
use Rattle.std.proofs.Common.{◌≡◌, refl, sym, subst, inl, inr, ℕ, true, false, Bool, List, ◌++◌, length, ℤ}
use Rattle.std.specs.Prelude.{MatchBool, Contains, not}
use Rattle.std.specs.List.{sum_by}
use Rattle.std.proofs.lemmas.List.Elements.{Contains-append_left}
use Rattle.profile.proofs.MadeCertificates.{twice_span, twice_bound}
use Rattle.profile.specs.checker.Instances.{Instance}
use Rattle.profile.specs.checker.Certificates.{Group, OfGroup, IsGroup, AreSeriesAt, StatementHolds, StatementFails}
use Rattle.profile.specs.events.Events.{Event}
use Rattle.profile.specs.events.Confirmed.{Confirmed}
use Rattle.profile.specs.events.Spans.{IsSpan, IsBoundOf, HaveClash}
use Rattle.clash_check.specs.Counted.{AreAllBelow, IsStatementCount}
use Rattle.clash_check.specs.Entries.{HasCompared, IsStatementDrawn}
use Rattle.clash_check.specs.Sweeps.{HaveNoClash, IsCountDrawn}
use Rattle.clash_check.proofs.EntryLemmas.{compared_drawn, none_drawn}
use Rattle.clash_check.proofs.PeriodLemmas.{one_bound}
use Rattle.clash_check.proofs.PlacedLemmas.{series_of}

-- a span of the list twice is one of the list
once_span : (those : List Event) (from : ℤ) (days : ℕ) → IsSpan (those ++ those) from days → IsSpan those from days
once_span those from days span = record {
  some = span.some;
  most = span.most;
  past = λ a c. span.past a (Contains-append_left those those a c);
  period = λ a c. span.period a (Contains-append_left those those a c);
}

module _ (all : Confirmed) (group : Group) where
  -- of the series of the group, whichever they are
  abbrev pub OfThem : (List Event → Type 0) → Type 0
  OfThem P = (those : List Event) → AreSeriesAt all group.members those → P those

  -- it is no span of them
  module _ (none : OfThem (λ those. IsSpan those group.from group.days → ⊥)) where
    pub no_group : IsGroup (length all.series) group → StatementFails all (OfGroup group)
    no_group good =
        let (those, are) = series_of all group.members good.within in
        (those, are, inl (λ span. none those are (once_span those group.from group.days span)))

    pub no_group_drawn : (old new n : ℕ) → IsStatementCount all (OfGroup group) n → new ≡ old → IsStatementDrawn all (OfGroup group) false old new n
    no_group_drawn old new n c e = none_drawn (HasCompared all (OfGroup group)) (λ compared. none c.members c.at (compared c.members c.at)) old new n e

  -- it is one, and up to its bound two instances clash, or none do
  module _ (bound : ℤ) (span : OfThem (λ those. IsSpan those group.from group.days)) (is : OfThem (λ those. IsBoundOf those group.from group.days bound)) (found : Bool) where
    pub group_judged : IsGroup (length all.series) group → OfThem (λ those. MatchBool found (HaveClash those those bound) (HaveNoClash those those bound))
        → MatchBool (not found) (StatementHolds all (OfGroup group)) (StatementFails all (OfGroup group))
    group_judged good h = elim found as (λ (v : Bool). OfThem (λ those. MatchBool v (HaveClash those those bound) (HaveNoClash those those bound))
        → MatchBool (not v) (StatementHolds all (OfGroup group)) (StatementFails all (OfGroup group))) [
          | true ↦ λ h.
              let (those, are) = series_of all group.members good.within in
              (those, are, inr (bound, twice_bound those group.from group.days bound (is those are), h those are))
          | false ↦ λ h those are. record {
            span = twice_span those group.from group.days (span those are);
            bound = bound;
            is = twice_bound those group.from group.days bound (is those are);
            clear = h those are;
          }
        ] h

    pub group_drawn : (old new : ℕ) → OfThem (λ those. (lists : List (List Instance)) → AreAllBelow those bound lists → IsCountDrawn found old new (sum_by length lists))
        → (n : ℕ) → IsStatementCount all (OfGroup group) n → IsStatementDrawn all (OfGroup group) (not found) old new n
    group_drawn old new drawn n c =
        let same = one_bound c.members group.from group.days c.bound bound c.is (is c.members c.at) in
        let sums = drawn c.members c.at c.lists (subst (λ (t : ℤ). AreAllBelow c.members t c.lists) same c.below) in
        compared_drawn (HasCompared all (OfGroup group)) span (not found) old new n
        (subst (λ (v : Bool). IsCountDrawn v old new n) (sym (twice found)) (subst (IsCountDrawn found old new) (sym c.count) sums))
      where
        twice : (v : Bool) → not (not v) ≡ v
        twice true = refl
        twice false = refl
