-- Instances of two series of a calendar have different keys, and so have a single and an instance of a series.
-- Cited by Draft::into_calendar.
use Rattle.std.proofs.Common.{◌≡◌, ◌≢◌, ◌&&◌, Bool, true, false, cond, filter, List, [], ◌∷◌, ℕ, subst, sym, refl, arith}
use Rattle.std.specs.Prelude.{None, All, AllPairs, Contains, is_some}
use Rattle.std.specs.List.{AllZip}
use Rattle.std.proofs.lemmas.Bool.{and_parts}
use Rattle.profile.specs.checker.Instances.{Instance}
use Rattle.profile.specs.events.EventComponents.{EventComponent, meeting_said}
use Rattle.profile.specs.events.Events.{Event as Whole, is_master}
use Rattle.profile.specs.events.Starts.{IsInstance}
use Rattle.profile.specs.events.Confirmed.{Confirmed, is_kept, is_series, AreConfirmed, IsSeries, IsInSeries, IsInstanceAmong, IsOfSeries, MastersDiffer, OverridesDiffer}
use Rattle.cal_events.specs.Calendar.{HaveOwnKeys}
use Rattle.cal_events.specs.Draft.{IsSaid}
use Rattle.cal_events.proofs.shared_lemmas.InOneOrder.{later, of_filtered, head_pairs, tail_pairs, cons_pairs}
use Rattle.cal_events.proofs.shared_lemmas.SeriesLemmas.{of_its_series, zip_back}
use Rattle.cal_events.proofs.shared_lemmas.OwnSingles.{not_a_master}
use Rattle.cal_events.proofs.reading_lemmas.ConfirmedLemmas.{keys_apart, one_event, one_confirmed, of_lists}

filter_pairs : {X : Type 0} (R : X → X → Type 0) (p : X → Bool) (xs : List X) → AllPairs R xs → AllPairs R (filter p xs)
filter_pairs R p [] h = h
filter_pairs R p (x ∷ xs) h = go (p x) (filter_pairs R p xs (tail_pairs R x xs h))
  where
    go : (b : Bool) → AllPairs R (filter p xs) → AllPairs R (cond b (x ∷ filter p xs) (filter p xs))
    go true k = cons_pairs R x (filter p xs) (λ y c. head_pairs R x y xs h (of_filtered p xs y c).0) k
    go false k = k

-- two masters aren't of one meeting
abbrev Differ : EventComponent → EventComponent → Type 0
Differ a b = a.recurrence ≡ None → b.recurrence ≡ None → meeting_said a ≢ meeting_said b

-- instances of two series have different keys
abbrev Apart : Whole → Whole → Type 0
Apart one other = (a b : Instance) → IsInstance one a → IsInstance other b → a.key ≢ b.key

module _ (room : List ℕ) (events : List EventComponent) where
  -- a kept master with RRULE among the events
  record IsRuler (m : EventComponent) : Type 0 where
    among : Contains events m
    kept : is_kept room m ≡ true
    is : is_master m ≡ true
    rule : is_some m.rule ≡ true

  ruler : (m : EventComponent) → Contains (filter (is_series room) events) m → IsRuler m
  ruler m c =
      let f = of_filtered (is_series room) events m c in
      let p = and_parts (is_kept room m && is_master m) (is_some m.rule) f.1 in
      let q = and_parts (is_kept room m) (is_master m) p.0 in
      record { among = f.0; kept = q.0; is = q.1; rule = p.1 }

  two : (m n : EventComponent) → IsRuler m → IsRuler n → Differ m n → (s u : Whole) → IsSeries events m s → IsSeries events n u → Apart s u
  two m n x y differ s u of_m of_n a b h k same =
      keys_apart events m n x.among y.among differ (λ slot e f. absurd (not_a_master m slot e x.is)) a b
      (of_its_series events m x.is s of_m x.rule a h).0 (of_its_series events n y.is u of_n y.rule b k).0 same

  all_apart : (masters : List EventComponent) (series : List Whole) → AllZip (IsSeries events) masters series → ((m : EventComponent) → Contains masters m → IsRuler m) → AllPairs Differ masters
      → AllPairs Apart series
  all_apart [] [] z rulers p = λ i j d l w. absurd (omega (arith, w))
  all_apart [] (s ∷ ss) z rulers p = absurd z
  all_apart (m ∷ ms) [] z rulers p = absurd z
  all_apart (m ∷ ms) (s ∷ ss) z rulers p =
      cons_pairs Apart s ss
      (λ u c.
      let r = zip_back (IsSeries events) ms ss u z.1 c in
      two m r.0 (rulers m (0, omega arith, refl)) (rulers r.0 (later m r.0 ms r.1)) (head_pairs Differ m r.0 ms p r.1) s u z.0 r.2)
      (all_apart ms ss z.1 (λ n c. rulers n (later m n ms c)) (tail_pairs Differ m ms p))

  module _ (all : Confirmed) (are : AreConfirmed room events all) (masters : MastersDiffer events) (overrides : OverridesDiffer events) (said : All IsSaid events) where
    single_apart : (a b : Instance) → Contains all.singles a → IsInSeries all.series b → a.key ≢ b.key
    single_apart a b c (series, d, h) same =
        let e = of_lists events masters overrides room events are.lists a are.each (subst (λ (l : List Instance). Contains l a) are.singles c) in
        let r = zip_back (IsSeries events) (filter (is_series room) events) all.series series are.series d in
        let m = ruler r.0 r.1 in
        let x = of_its_series events r.0 m.is series r.2 m.rule b h in
        let one : a ≡ b =
        one_confirmed events masters overrides room said a b (record { event = e.0; among = e.1; kept = e.2.kept; is = e.2.is }) (record { event = r.0; among = m.among; kept = m.kept; is = x.0 }) same in
        let event : r.0 ≡ e.0 = one_event events masters overrides r.0 e.0 m.among e.1 b x.0 (subst (λ (i : Instance). IsInstanceAmong events e.0 i) one e.2.is) in
        e.2.apart (subst (λ (i : Instance). IsOfSeries e.0 i) (sym one) (subst (λ (f : EventComponent). IsOfSeries f b) event x.1))

    pub own_keys : HaveOwnKeys all
    own_keys = (
      all_apart (filter (is_series room) events) all.series are.series ruler (filter_pairs Differ (is_series room) events masters),
      single_apart,
    )
