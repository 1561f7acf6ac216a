-- The certificates that are made and written for what is confirmed hold for it, where that is clear.
use Rattle.std.proofs.Common.{◌≡◌, ◌∙◌, refl, sym, subst, arith, ℕ, zero, suc, ◌-◌, ◌==◌, ℤ, List, [], ◌∷◌, ◌++◌, map, get_or, All, Contains, unwrap_or, inl, inr}
use Rattle.std.proofs.lemmas.List.Elements.{All-nil, All-cons, All-append, All-contains, All-map, Contains-get_or, Contains-append_cases, Contains-append_left}
use Rattle.std.proofs.lemmas.Option.{same_Some, slice_get_within, get_or_from_slice_get}
use Rattle.profile.specs.checker.Instances.{IsClear}
use Rattle.profile.specs.checker.Certificates.{Claims, Entry, End, Span, Res, InGroup, Pair, Group, OfGroup, OfPair, IsApart, IsEntry, groups_of, SpellsCertificate, IsSeriesAt, AreSeriesAt, EntryHolds, StatementHolds, CertificateHoldsFor, IsEntryMade, IsCertificateMade, IsGrouped, IsCertificateWritten, IsShortSpan}
use Rattle.profile.specs.events.Events.{Event}
use Rattle.profile.specs.events.Confirmed.{Confirmed, IsOneOf}
use Rattle.profile.specs.events.Spans.{IsSpan, IsBoundOf}

pub series_at : (all : Confirmed) (place : ℕ) (series : Event) → IsSeriesAt all place series → Contains all.series series
series_at all place series is = (place - 1, slice_get_within all.series (place - 1) series is, get_or_from_slice_get all.series (place - 1) series series is)

-- each of the series at some places is there
pub placed_there : (all : Confirmed) (places : List ℕ) (those : List Event) → AreSeriesAt all places those → (a : Event) → Contains those a → Contains all.series a
placed_there all [] [] at a (k, l, e) = absurd (omega (arith, l))
placed_there all [] (b ∷ those) at a c = absurd at
placed_there all (i ∷ places) [] at a c = absurd at
placed_there all (i ∷ places) (b ∷ those) (here, rest) a (zero, l, e) = subst (Contains all.series) e (series_at all i b here)
placed_there all (i ∷ places) (b ∷ those) (here, rest) a (suc k, l, e) = placed_there all places those rest a (k, omega (arith, l), e)

-- a list twice is the list
once : {X : Type 0} (xs : List X) (x : X) → Contains (xs ++ xs) x → Contains xs x
once xs x c = elim (Contains-append_cases xs xs x c) [ inl d ↦ d | inr d ↦ d ]

pub twice_span : (all : List Event) (from : ℤ) (days : ℕ) → IsSpan all from days → IsSpan (all ++ all) from days
twice_span all from days span = record {
  some = span.some;
  most = span.most;
  past = λ a c. span.past a (once all a c);
  period = λ a c. span.period a (once all a c);
}

pub twice_bound : (all : List Event) (from : ℤ) (days : ℕ) (bound : ℤ) → IsBoundOf all from days bound → IsBoundOf (all ++ all) from days bound
twice_bound all from days bound (width, is, e) = (
  width,
  record {
    one = (is.one.0, Contains-append_left all all is.one.0 is.one.1, is.one.2);
    none_greater = λ a w c. is.none_greater a w (once all a c);
  },
  e,
)

module _ (all : Confirmed) (clear : IsClear (IsOneOf all)) where
  entry_holds : (i j : ℕ) (entry : Entry) → IsEntry entry → ((a b : Event) → IsSeriesAt all i a → IsSeriesAt all j b → IsEntryMade (i == j) a b entry)
      → EntryHolds all i j entry
  entry_holds i j End good made = λ a b p q x y t h k clash. clear x y t (inr (a, series_at all i a p, h)) (inr (b, series_at all j b q, k)) clash
  entry_holds i j (Span from days) good made = λ a b p q.
      let m = made a b p q in
      record {
        span = m.1.least.span;
        bound = m.1.bound;
        is = m.1.is;
        clear = λ c d f g x y t h k clash.
            clear x y t (inr (c, subst (Contains all.series) (sym (only a c f)) (series_at all i a p), h.0))
            (inr (d, subst (Contains all.series) (sym (only b d g)) (series_at all j b q), k.0)) clash;
      }
    where
      only : (a c : Event) → Contains (a ∷ []) c → c ≡ a
      only a c (zero, l, e) = sym e
      only a c (suc n, l, e) = absurd (omega (arith, l))
  entry_holds i j (Res m) good made = λ a b p q. let n = made a b p q in n.3
  entry_holds i j (InGroup n) good made = absurd good

  -- each pair of the certificate that is made
  pair_holds : (c : Claims) → IsCertificateMade all c → (p : Pair) → Contains c.pairs p → StatementHolds all (OfPair p)
  pair_holds c made p there =
      entry_holds p.first p.second p.entry (All-contains (IsApart c.series (groups_of c)) c.pairs p made.claims.pairs there).entry (made.entries p there)

  all_pairs_hold : (c : Claims) → IsCertificateMade all c → (pairs : List Pair) → ((p : Pair) → Contains pairs p → Contains c.pairs p)
      → All (StatementHolds all) (map OfPair pairs)
  all_pairs_hold c made pairs there =
      All-map (StatementHolds all) OfPair pairs (λ k d l. pair_holds c made (get_or pairs k d) (there (get_or pairs k d) (Contains-get_or pairs k d l)))

  pub made_holds : (c : Claims) (text : List ℕ) → IsCertificateMade all c → SpellsCertificate text c → CertificateHoldsFor all text
  made_holds c text made spells = record {
    c = c;
    spells = spells;
    counts = made.counts;
    statements = subst (λ groups. All (StatementHolds all) (map OfGroup (unwrap_or groups []) ++ map OfPair c.pairs)) (sym made.version)
        (all_pairs_hold c made c.pairs (λ p there. there));
    singles = λ x y t h k clash. clear x y t (inl h) k clash;
  }

  -- a group of series that do the same after each period
  group_holds : (group : Group) (those : List Event) → AreSeriesAt all group.members those → IsShortSpan those group.from group.days
      → StatementHolds all (OfGroup group)
  group_holds group those at span others placed =
      let same : others ≡ those = one_list group.members others those placed at in
      record {
        span = subst (λ (xs : List Event). IsSpan (xs ++ xs) group.from group.days) (sym same) (twice_span those group.from group.days span.least.span);
        bound = span.bound;
        is = subst (λ (xs : List Event). IsBoundOf (xs ++ xs) group.from group.days span.bound) (sym same) (twice_bound those group.from group.days span.bound span.is);
        clear = λ a b f g x y t h k clash.
            clear x y t (inr (a, placed_there all group.members others placed a f, h.0)) (inr (b, placed_there all group.members others placed b g, k.0)) clash;
      }
    where
      one_list : (places : List ℕ) (xs ys : List Event) → AreSeriesAt all places xs → AreSeriesAt all places ys → xs ≡ ys
      one_list [] [] [] f g = refl
      one_list [] [] (y ∷ ys) f g = absurd g
      one_list [] (x ∷ xs) ys f g = absurd f
      one_list (i ∷ places) [] ys f g = absurd f
      one_list (i ∷ places) (x ∷ xs) [] f g = absurd g
      one_list (i ∷ places) (x ∷ xs) (y ∷ ys) (a, f) (b, g) = let e = same_Some x y (sym a ∙ b) in let h = one_list places xs ys f g in rw (e, h) refl

  grouped_holds : (c grouped : Claims) (text : List ℕ) → IsCertificateMade all c → IsGrouped all c grouped → SpellsCertificate text grouped
      → CertificateHoldsFor all text
  grouped_holds c grouped text made is spells = record {
    c = grouped;
    spells = spells;
    counts = record { singles = is.singles ∙ made.counts.singles; series = is.series ∙ made.counts.series };
    statements = subst (λ groups. All (StatementHolds all) (map OfGroup (unwrap_or groups []) ++ map OfPair grouped.pairs)) (sym is.groups)
        (All-append (StatementHolds all) (OfGroup is.group ∷ []) (map OfPair grouped.pairs) one (all_pairs_hold c made grouped.pairs is.pairs));
    singles = λ x y t h k clash. clear x y t (inl h) k clash;
  }
    where
      one : All (StatementHolds all) (OfGroup is.group ∷ [])
      one = All-cons (StatementHolds all) (OfGroup is.group) [] (group_holds is.group is.made.all is.made.placed is.made.span) (All-nil (StatementHolds all))

  -- the one that a room writes
  pub written_holds : (c : Claims) (text : List ℕ) → IsCertificateWritten all c → SpellsCertificate text c → CertificateHoldsFor all text
  written_holds c text (made, is, inl grouped) spells = grouped_holds made c text is grouped spells
  written_holds c text (made, is, inr (none, same)) spells = made_holds c text (subst (IsCertificateMade all) (sym same) is) spells
