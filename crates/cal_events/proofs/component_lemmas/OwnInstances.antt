-- The instances of an event by itself that no rule gives: what its starts, or its own start, make.
-- Cited by EventComponent::singles, EventComponent::singles_at.
use Rattle.std.proofs.Common.{◌≡◌, ◌∙◌, ℕ, ◌<◌, ◌+◌, zero, suc, List, [], ◌∷◌, ◌++◌, length, take, get_or, map, subst, sym, refl, ap, inl, inr, arith, ℤ, pos, ◌<ℤ◌, ◌≤ℤ◌}
use Rattle.std.specs.Prelude.{Some, None, All, AllPairs, Contains}
use Rattle.std.specs.List.{AllZip}
use Rattle.std.proofs.lemmas.Option.{same_Some}
use Rattle.std.proofs.lemmas.List.Elements.{All-nil, All-cons}
use Rattle.profile.specs.checker.Instances.{Instance}
use Rattle.profile.specs.events.Properties.{first_second}
use Rattle.profile.specs.events.EventComponents.{EventComponent as SaidComponent}
use Rattle.profile.specs.events.Starts.{IsStart, IsInstance, EndsAt, ComesBefore, AreInstancesFrom, key_at}
use Rattle.profile.specs.events.Confirmed.{alone, IsOfSeries, AreApart}
use Rattle.cal_events.specs.Component.{component_of}
use Rattle.cal_events.specs.declared.component.EventComponent.{EventComponent}
use Rattle.cal_events.specs.OwnInstances.{own_instance_at, IsInstanceAt, IsTimely}
use Rattle.cal_events.specs.SingleStarts.{IsSingleStart, IsOnRule, AreSingleStarts}
use Rattle.cal_events.specs.declared.instance.Single.{Single}
use Rattle.std.proofs.lemmas.List.{take_more}
use Rattle.cal_events.proofs.shared_lemmas.EventLemmas.{push_zip}
use Rattle.cal_events.proofs.shared_lemmas.InOneOrder.{later, none_in, head_pairs, tail_pairs, cons_pairs}
use Rattle.cal_events.proofs.shared_lemmas.OwnSingles.{IsAtStart, alone_master, master_alone, alone_override, override_alone, one_by_key, of_both, is_a_master, not_a_master}
use Rattle.cal_events.proofs.component_lemmas.PlainSingles.{no_rule}

-- the times of each VEVENT that was read are such
pub timely : (component : EventComponent) → IsTimely (component_of component)
timely component = record { steady = component.steady; starts = component.named }

module _ (event : SaidComponent) (t : IsTimely event) where
  abbrev booked : Single → Instance
  booked = own_instance_at event

  abbrev IsHere : Instance → Type 0
  IsHere b = IsInstance (alone event) b × (IsOfSeries event b → ⊥)

  -- ---- a master

  module _ (none : event.recurrence ≡ None) where
    on_rule : (b : Instance) → IsOfSeries event b → IsOnRule event b.start
    on_rule b series = (series.rule, series.has, series.starts)

    of_series : (b : Instance) → IsOnRule event b.start → IsOfSeries event b
    of_series b on = record { master = is_a_master event none; rule = on.0; has = on.1; starts = on.2 }

    made : (start : ℤ) (s : Single) → IsInstanceAt event start start s → IsSingleStart event start → IsHere (booked s)
    made start s m h = (
      alone_master event (booked s) none (record {
        starts = subst (IsStart event []) (sym m.starts) h.0;
        key = ap (key_at event) (m.slot_is ∙ sym m.starts);
        ends = subst (λ (u : ℤ). EndsAt event.times u s.span.end) (sym m.starts) m.ends;
      }),
      λ series. h.1 (subst (IsOnRule event) m.starts (on_rule (booked s) series)),
    )

    abbrev AreMade : List ℤ → List Single → Type 0
    AreMade starts own = AllZip (λ start single. IsInstanceAt event start start single) starts own

    among : (starts : List ℤ) (own : List Single) (u : ℤ) → AreMade starts own → Contains starts u → (s : Single) × Contains own s × IsInstanceAt event u u s
    among [] own u z c = absurd (none_in u c)
    among (x ∷ xs) [] u z c = absurd z
    among (x ∷ xs) (s ∷ ss) u z (zero, w, e) = (s, (zero, omega arith, refl), subst (λ (v : ℤ). IsInstanceAt event v v s) e z.0)
    among (x ∷ xs) (s ∷ ss) u z (suc k, w, e) = let r = among xs ss u z.1 (k, omega (arith, w), e) in (r.0, later s r.0 ss r.1, r.2)

    of_start : (starts : List ℤ) (own : List Single) (b : Instance) → AreMade starts own → Contains (map booked own) b → (u : ℤ) × Contains starts u × (b.start ≡ u)
    of_start starts [] b z c = absurd (none_in b c)
    of_start [] (s ∷ ss) b z c = absurd z
    of_start (x ∷ xs) (s ∷ ss) b z (zero, w, e) = (x, (zero, omega arith, refl), sym (ap (λ (y : Instance). y.start) e) ∙ z.0.starts)
    of_start (x ∷ xs) (s ∷ ss) b z (suc k, w, e) = let r = of_start xs ss b z.1 (k, omega (arith, w), e) in (r.0, later x r.0 xs r.1, r.2)

    mapped : (own : List Single) (s : Single) → Contains own s → Contains (map booked own) (booked s)
    mapped [] s c = absurd (none_in s c)
    mapped (x ∷ xs) s (zero, w, e) = (zero, omega arith, ap booked e)
    mapped (x ∷ xs) s (suc k, w, e) = later (booked x) (booked s) (map booked xs) (mapped xs s (k, omega (arith, w), e))

    each : (starts : List ℤ) (own : List Single) → AreMade starts own → ((u : ℤ) → Contains starts u → IsSingleStart event u) → All IsHere (map booked own)
    each starts [] z h = All-nil IsHere
    each [] (s ∷ ss) z h = absurd z
    each (x ∷ xs) (s ∷ ss) z h = All-cons IsHere (booked s) (map booked ss) (made x s z.0 (h x (zero, omega arith, refl))) (each xs ss z.1 (λ u c. h u (later x u xs c)))

    in_order : (starts : List ℤ) (own : List Single) → AreMade starts own → AllPairs ◌<ℤ◌ starts → AllPairs ComesBefore (map booked own)
    in_order starts [] z p = λ i j d l w. absurd (omega (arith, w))
    in_order [] (s ∷ ss) z p = absurd z
    in_order (x ∷ xs) (s ∷ ss) z p =
        cons_pairs ComesBefore (booked s) (map booked ss)
        (λ b c. let r = of_start xs ss b z.1 c in inl (subst (λ (u : ℤ). u <ℤ b.start) (sym z.0.starts) (subst (λ (u : ℤ). x <ℤ u) (sym r.2) (head_pairs ◌<ℤ◌ x r.0 xs p r.1))))
        (in_order xs ss z.1 (tail_pairs ◌<ℤ◌ x xs p))

    pub master_apart : (starts : List ℤ) (own : List Single) → AreSingleStarts event starts → AreMade starts own → AreApart event (map booked own)
    master_apart starts own are z = record {
      each = each starts own z (λ u c. at starts u are.each c);
      ordered = in_order starts own z are.ascending;
      all = λ b h apart. all b (master_alone event b none h) h apart;
    }
      where
        at : (starts : List ℤ) (u : ℤ) → All (IsSingleStart event) starts → Contains starts u → IsSingleStart event u
        at starts u h (k, w, e) = subst (IsSingleStart event) e (h k u w)

        all : (b : Instance) → IsAtStart event b → IsInstance (alone event) b → (IsOfSeries event b → ⊥) → Contains (map booked own) b
        all b s h apart =
            let single : IsSingleStart event b.start = (s.starts, λ on. apart (of_series b on)) in
            let r = among starts own b.start z (are.all b.start single) in
            let same : booked r.0 ≡ b = one_by_key event (booked r.0) b t.steady (made b.start r.0 r.2 single).0 h (ap (key_at event) r.2.slot_is ∙ sym s.key) in
            subst (Contains (map booked own)) same (mapped own r.0 r.1)

  -- ---- one instance

  pub own_apart : (slot : ℤ) (s : Single) → event.recurrence ≡ Some slot → IsInstanceAt event slot event.times.start s → AreApart event (booked s ∷ [])
  own_apart slot s is m = record {
    each = All-cons IsHere (booked s) [] (own, λ series. not_a_master event slot is series.master) (All-nil IsHere);
    ordered = cons_pairs ComesBefore (booked s) [] (λ y c. absurd (none_in y c)) (λ i j d l w. absurd (omega (arith, w)));
    all = λ b h apart. (
      zero,
      omega arith,
      one_by_key event (booked s) b t.steady own h (
          let x = override_alone event b slot is h in
          ap (key_at event) (m.slot_is ∙ same_Some slot b.key.slot (sym is ∙ x.slot)) ∙ sym x.key
          ),
    );
  }
    where
      own : IsInstance (alone event) (booked s)
      own = alone_override event (booked s) slot is (record {
        slot = is ∙ ap Some (sym m.slot_is);
        key = refl;
        starts = m.starts;
        ends = subst (λ (u : ℤ). EndsAt event.times u s.span.end) (sym m.starts) m.ends;
      })

  -- ---- without a rule

  from_first : (b : Instance) → IsInstance (alone event) b → first_second ≤ℤ b.start
  from_first b h = elim (of_both event) [
    | inl none ↦ (master_alone event b none h).starts.in_dates.0
    | inr (slot, is) ↦ subst (λ (u : ℤ). first_second ≤ℤ u) (sym (override_alone event b slot is h).starts) t.starts.0
  ]

  -- then all instances are apart
  pub apart_once : (all : List Instance) → event.rule ≡ None → AreApart event all → AreInstancesFrom (alone event) first_second all
  apart_once all once a = record {
    each = λ k d w. let x = a.each k d w in (x.0, from_first (get_or all k d) x.0);
    ordered = a.ordered;
    all = λ b h from. a.all b h (no_rule event b once);
  }

-- ---- one more start

pub made_more : (event : SaidComponent) (xs : List ℤ) (k : ℕ) (old new : List Single) (s : Single) → k < length xs → AllZip (λ start single. IsInstanceAt event start start single) (take k xs) old → new ≡ old ++ s ∷ []
    → IsInstanceAt event (get_or xs k (pos 0)) (get_or xs k (pos 0)) s → AllZip (λ start single. IsInstanceAt event start start single) (take (k + 1) xs) new
made_more event xs k old new s w z is m =
    subst (λ (l : List Single). AllZip (λ start single. IsInstanceAt event start start single) (take (k + 1) xs) l) (sym is)
    (subst (λ (l : List ℤ). AllZip (λ start single. IsInstanceAt event start start single) l (old ++ s ∷ [])) (sym (take_more xs k (pos 0) w))
    (push_zip (λ start single. IsInstanceAt event start start single) (take k xs) old (get_or xs k (pos 0)) s z m))
