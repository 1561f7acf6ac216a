-- What a certificate of which all statements hold says of two series.
use Rattle.std.proofs.Common.{◌⊎◌, subst, inl, inr, arith, ℕ, List, ◌++◌, map, ℤ}
use Rattle.std.specs.Prelude.{All, Contains}
use Rattle.std.proofs.lemmas.List.Elements.{All-contains, Contains-append_left, Contains-append_right}
use Rattle.profile.proofs.MadeCertificates.{placed_there}
use Rattle.profile.specs.checker.Certificates.{Claims, Entry, Pair, Group, OfGroup, OfPair, IsClaims, IsGroup, IsPair, IsSeriesAt, HasCounts, EntryHolds, StatementHolds, StatementsHold, groups_of}
use Rattle.profile.specs.events.Events.{Event}
use Rattle.profile.specs.events.Confirmed.{Confirmed}
use Rattle.profile.specs.events.Spans.{SpanHolds}
use Rattle.clash_check.proofs.PlacedLemmas.{at_number, series_of}
use Rattle.clash_check.proofs.StatementLemmas.{mapped_in}

-- one span settles both, with others of the calendar
pub record AreSettledTogether (all : Confirmed) (i j : ℕ) : Type 0 where
  pub those : List Event
  pub from : ℤ
  pub days : ℕ
  pub within : (series : Event) → Contains those series → Contains all.series series
  pub first : (a : Event) → IsSeriesAt all i a → Contains those a
  pub second : (b : Event) → IsSeriesAt all j b → Contains those b
  pub holds : SpanHolds those those from days

module _ (all : Confirmed) (c : Claims) (claims : IsClaims c) (counts : HasCounts all c) (hold : StatementsHold all c) where
  group_holds : (group : Group) → Contains (groups_of c) group → StatementHolds all (OfGroup group)
  group_holds group has =
      All-contains (StatementHolds all) (map OfGroup (groups_of c) ++ map OfPair c.pairs) (OfGroup group) hold
      (Contains-append_left (map OfGroup (groups_of c)) (map OfPair c.pairs) (OfGroup group) (mapped_in OfGroup (groups_of c) group has))

  pair_holds : (p : Pair) → Contains c.pairs p → EntryHolds all p.first p.second p.entry
  pair_holds p has =
      All-contains (StatementHolds all) (map OfGroup (groups_of c) ++ map OfPair c.pairs) (OfPair p) hold
      (Contains-append_right (map OfGroup (groups_of c)) (map OfPair c.pairs) (OfPair p) (mapped_in OfPair c.pairs p has))

  together : (i j : ℕ) (group : Group) → Contains (groups_of c) group → Contains group.members i → Contains group.members j → AreSettledTogether all i j
  together i j group has has_i has_j =
      let good = All-contains (IsGroup c.series) (groups_of c) group claims.groups has in
      let (those, are) = series_of all group.members (λ k is. let w = good.within k is in let n = counts.series in (w.0, omega (arith, w, n))) in
      record {
        those = those;
        from = group.from;
        days = group.days;
        within = placed_there all group.members those are;
        first = at_number all group.members those are i has_i;
        second = at_number all group.members those are j has_j;
        holds = group_holds group has those are;
      }

  pub said_of : (i j : ℕ) → IsPair c.series i j → AreSettledTogether all i j ⊎ ((entry : Entry) × EntryHolds all i j entry)
  said_of i j pair = elim (claims.all i j pair) [
    | inl (group, has, has_i, has_j) ↦ inl (together i j group has has_i has_j)
    | inr (p, has, e, f) ↦ inr (p.entry, subst (λ n. EntryHolds all n j p.entry) e (subst (λ n. EntryHolds all p.first n p.entry) f (pair_holds p has)))
  ]
