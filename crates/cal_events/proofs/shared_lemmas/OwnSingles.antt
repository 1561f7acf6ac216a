-- The singles of an event by itself: what its starts, or its own start, make.
-- Cited by EventComponent::singles of component, add_singles of draft, Series::of of series, Series::of_copy of series, Series::without of series.
use Rattle.std.proofs.Common.{◌≡◌, ◌∙◌, ℕ, zero, suc, Bool, true, List, [], ◌∷◌, map, subst, sym, refl, ap, inl, inr, ◌⊎◌, arith, ℤ, ◌<ℤ◌}
use Rattle.std.specs.Prelude.{Option, Some, None, All, AllPairs, Contains, is_some, not, if◌then◌else◌}
use Rattle.std.specs.List.{AllZip}
use Rattle.std.proofs.lemmas.Bool.{true≢false}
use Rattle.std.proofs.lemmas.Option.{same_Some}
use Rattle.std.proofs.lemmas.List.Elements.{All-nil, All-cons}
use Rattle.profile.specs.checker.Instances.{Key, Instance}
use Rattle.profile.specs.events.ZonedTimes.{clock_of}
use Rattle.profile.specs.events.EventComponents.{EventComponent, meeting_said}
use Rattle.profile.specs.events.Events.{Event, is_master}
use Rattle.profile.specs.events.Starts.{IsStart, IsRuleStart, IsInstance, EndsAt, ComesBefore, key_at}
use Rattle.profile.specs.events.Confirmed.{alone, is_kept}
use Rattle.cal_events.specs.Clocks.{IsSteady}
use Rattle.cal_events.specs.Calendar.{instance_as}
use Rattle.cal_events.specs.Draft.{IsSaid, IsOwnInstance, AreOwnAt, IsMadeAt}
use Rattle.cal_events.specs.SingleStarts.{IsSingleStart, AreSingleStarts}
use Rattle.cal_events.specs.declared.calendar.PlacedSingle.{PlacedSingle as Single}
use Rattle.cal_events.proofs.shared_lemmas.InOneOrder.{first_or_later, later, none_in, head_pairs, tail_pairs, cons_pairs}
use Rattle.cal_events.proofs.shared_lemmas.OneInstance.{end_one, booked_same}
use Rattle.cal_events.proofs.shared_lemmas.Placing.{placed_sound}

-- ---- an event by itself

abbrev pub of_master : EventComponent → Event
of_master event = record { master = Some event; overrides = [] }

abbrev of_override : EventComponent → Event
of_override event = record { master = None; overrides = event ∷ [] }

none_is_some : {X : Type 0} (x : X) → None ≡ Some x → ⊥
none_is_some x e = true≢false (sym (ap (λ o. is_some o) e))

-- an instance of a master by itself is at one of its starts
pub record IsAtStart (event : EventComponent) (b : Instance) : Type 0 where
  pub starts : IsStart event [] b.start
  pub key : b.key ≡ key_at event b.start
  pub ends : EndsAt event.times b.start b.end

-- one of an override is its own
pub record IsItself (event : EventComponent) (b : Instance) : Type 0 where
  pub slot : event.recurrence ≡ Some b.key.slot
  pub key : b.key ≡ key_at event b.key.slot
  pub starts : b.start ≡ event.times.start
  pub ends : EndsAt event.times b.start b.end

pub at_start : (event : EventComponent) (b : Instance) → IsInstance (of_master event) b → IsAtStart event b
at_start event b (inl h) =
    let same : h.master ≡ event = same_Some h.master event (sym h.is) in
    record {
      starts = subst (λ (x : EventComponent). IsStart x [] b.start) same h.starts;
      key = h.key ∙ ap (λ (x : EventComponent). key_at x b.start) same;
      ends = subst (λ (x : EventComponent). EndsAt x.times b.start b.end) same h.ends;
    }
at_start event b (inr h) = absurd (none_in h.override h.is)

itself : (event : EventComponent) (b : Instance) → IsInstance (of_override event) b → IsItself event b
itself event b (inl h) = absurd (none_is_some h.master h.is)
itself event b (inr h) = go (first_or_later event h.override [] h.is)
  where
    go : (event ≡ h.override) ⊎ Contains [] h.override → IsItself event b
    go (inr c) = absurd (none_in h.override c)
    go (inl same) = record {
      slot = ap (λ (x : EventComponent). x.recurrence) same ∙ h.recurrence;
      key = h.key ∙ ap (λ (x : EventComponent). key_at x b.key.slot) (sym same);
      starts = h.starts ∙ ap (λ (x : EventComponent). x.times.start) (sym same);
      ends = subst (λ (x : EventComponent). EndsAt x.times b.start b.end) (sym same) h.ends;
    }

pub from_start : (event : EventComponent) (b : Instance) → IsAtStart event b → IsInstance (of_master event) b
from_start event b h = inl (record { master = event; is = refl; starts = h.starts; key = h.key; ends = h.ends })

from_itself : (event : EventComponent) (b : Instance) → IsItself event b → IsInstance (of_override event) b
from_itself event b h = inr (record { override = event; is = (0, omega arith, refl); recurrence = h.slot; key = h.key; starts = h.starts; ends = h.ends })

abbrev pub alone_if : Bool → EventComponent → Event
alone_if b event = if b then of_override event else of_master event

module _ (event : EventComponent) (b : Instance) where
  pub master_alone : event.recurrence ≡ None → IsInstance (alone event) b → IsAtStart event b
  master_alone e h = at_start event b (subst (λ (r : Option ℤ). IsInstance (alone_if (is_some r) event) b) e h)

  pub alone_master : event.recurrence ≡ None → IsAtStart event b → IsInstance (alone event) b
  alone_master e h = subst (λ (r : Option ℤ). IsInstance (alone_if (is_some r) event) b) (sym e) (from_start event b h)

  pub override_alone : (slot : ℤ) → event.recurrence ≡ Some slot → IsInstance (alone event) b → IsItself event b
  override_alone slot e h = itself event b (subst (λ (r : Option ℤ). IsInstance (alone_if (is_some r) event) b) e h)

  pub alone_override : (slot : ℤ) → event.recurrence ≡ Some slot → IsItself event b → IsInstance (alone event) b
  alone_override slot e h = subst (λ (r : Option ℤ). IsInstance (alone_if (is_some r) event) b) (sym e) (from_itself event b h)

-- it is a master, or an override
pub of_both : (event : EventComponent) → (event.recurrence ≡ None) ⊎ ((slot : ℤ) × (event.recurrence ≡ Some slot))
of_both event = go event.recurrence refl
  where
    go : (r : Option ℤ) → event.recurrence ≡ r → (event.recurrence ≡ None) ⊎ ((slot : ℤ) × (event.recurrence ≡ Some slot))
    go None e = inl e
    go (Some slot) e = inr (slot, e)

pub is_a_master : (event : EventComponent) → event.recurrence ≡ None → is_master event ≡ true
is_a_master event e = ap (λ (r : Option ℤ). not (is_some r)) e

pub not_a_master : (event : EventComponent) (slot : ℤ) → event.recurrence ≡ Some slot → is_master event ≡ true → ⊥
not_a_master event slot e h = true≢false (sym h ∙ ap (λ (r : Option ℤ). not (is_some r)) e)

pub steady : (event : EventComponent) → IsSaid event → IsSteady (clock_of event.times.zone)
steady event s = (placed_sound s.words s.room s.named s.object s.lines event s.says).steady

-- two instances of one event with one key are one
pub one_by_key : (event : EventComponent) (a b : Instance) → IsSteady (clock_of event.times.zone) → IsInstance (alone event) a → IsInstance (alone event) b → a.key ≡ b.key → a ≡ b
one_by_key event a b clock h k same = go (of_both event)
  where
    go : (event.recurrence ≡ None) ⊎ ((slot : ℤ) × (event.recurrence ≡ Some slot)) → a ≡ b
    go (inl e) =
        let x = master_alone event a e h in
        let y = master_alone event b e k in
        let start : a.start ≡ b.start = ap (λ (key : Key). key.slot) (sym x.key ∙ same ∙ y.key) in
        booked_same a b same start (end_one event.times b.start a.end b.end clock (subst (λ (t : ℤ). EndsAt event.times t a.end) start x.ends) y.ends)
    go (inr (slot, e)) =
        let x = override_alone event a slot e h in
        let y = override_alone event b slot e k in
        let start : a.start ≡ b.start = x.starts ∙ sym y.starts in
        booked_same a b same start (end_one event.times b.start a.end b.end clock (subst (λ (t : ℤ). EndsAt event.times t a.end) start x.ends) y.ends)

pub one_of_key : (event : EventComponent) (a b : Instance) → IsSaid event → IsInstance (alone event) a → IsInstance (alone event) b → a.key ≡ b.key → a ≡ b
one_of_key event a b said h k same = one_by_key event a b (steady event said) h k same

-- ---- what the starts of a master make

module _ (room : List ℕ) (place : ℕ) (event : EventComponent) (said : IsSaid event) (kept : is_kept room event ≡ true) where
  abbrev booked : Single → Instance
  booked = instance_as (meeting_said event)

  module _ (none : event.recurrence ≡ None) where
    made : (start : ℤ) (s : Single) → IsMadeAt place event start s → IsSingleStart event start → IsOwnInstance room event (booked s)
    made start s m h = record {
      kept = kept;
      is = alone_master event (booked s) none (record {
        starts = subst (IsStart event []) (sym m.starts) h.0;
        key = λ i. record { organiser = (meeting_said event).0; uid = (meeting_said event).1; slot = (m.slot ∙ sym m.starts) i };
        ends = subst (λ (t : ℤ). EndsAt event.times t s.end) (sym m.starts) m.ends;
      });
      apart = λ series. h.1 (series.rule, series.has, subst (IsRuleStart event.times series.rule) m.starts series.starts);
    }

    -- a start is that of one of them
    among : (starts : List ℤ) (own : List Single) (t : ℤ) → AllZip (IsMadeAt place event) starts own → Contains starts t → (s : Single) × Contains own s × IsMadeAt place event t s
    among [] own t z c = absurd (none_in t c)
    among (x ∷ xs) [] t z c = absurd z
    among (x ∷ xs) (s ∷ ss) t z (zero, w, e) = (s, (zero, omega arith, refl), subst (λ (u : ℤ). IsMadeAt place event u s) e z.0)
    among (x ∷ xs) (s ∷ ss) t z (suc k, w, e) = let r = among xs ss t z.1 (k, omega (arith, w), e) in (r.0, later s r.0 ss r.1, r.2)

    -- one of them is at a start
    of_start : (starts : List ℤ) (own : List Single) (b : Instance) → AllZip (IsMadeAt place event) starts own → Contains (map booked own) b → (t : ℤ) × Contains starts t × (b.start ≡ t)
    of_start starts [] b z c = absurd (none_in b c)
    of_start [] (s ∷ ss) b z c = absurd z
    of_start (x ∷ xs) (s ∷ ss) b z (zero, w, e) = (x, (zero, omega arith, refl), sym (ap (λ (y : Instance). y.start) e) ∙ z.0.starts)
    of_start (x ∷ xs) (s ∷ ss) b z (suc k, w, e) = let r = of_start xs ss b z.1 (k, omega (arith, w), e) in (r.0, later x r.0 xs r.1, r.2)

    mapped : (own : List Single) (s : Single) → Contains own s → Contains (map booked own) (booked s)
    mapped [] s c = absurd (none_in s c)
    mapped (x ∷ xs) s (zero, w, e) = (zero, omega arith, ap booked e)
    mapped (x ∷ xs) s (suc k, w, e) = later (booked x) (booked s) (map booked xs) (mapped xs s (k, omega (arith, w), e))

    places : (starts : List ℤ) (own : List Single) → AllZip (IsMadeAt place event) starts own → All (λ s. s.entry ≡ place) own
    places starts [] z = All-nil (λ s. s.entry ≡ place)
    places [] (s ∷ ss) z = absurd z
    places (x ∷ xs) (s ∷ ss) z = All-cons (λ s. s.entry ≡ place) s ss z.0.at (places xs ss z.1)

    each : (starts : List ℤ) (own : List Single) → AllZip (IsMadeAt place event) starts own → ((t : ℤ) → Contains starts t → IsSingleStart event t) → All (IsOwnInstance room event) (map booked own)
    each starts [] z h = All-nil (IsOwnInstance room event)
    each [] (s ∷ ss) z h = absurd z
    each (x ∷ xs) (s ∷ ss) z h =
        All-cons (IsOwnInstance room event) (booked s) (map booked ss) (made x s z.0 (h x (zero, omega arith, refl))) (each xs ss z.1 (λ t c. h t (later x t xs c)))

    in_order : (starts : List ℤ) (own : List Single) → AllZip (IsMadeAt place event) starts own → AllPairs ◌<ℤ◌ starts → AllPairs ComesBefore (map booked own)
    in_order starts [] z p = λ i j d l w. absurd (omega (arith, w))
    in_order [] (s ∷ ss) z p = absurd z
    in_order (x ∷ xs) (s ∷ ss) z p =
        cons_pairs ComesBefore (booked s) (map booked ss)
        (λ b c. let r = of_start xs ss b z.1 c in inl (subst (λ (t : ℤ). t <ℤ b.start) (sym z.0.starts) (subst (λ (t : ℤ). x <ℤ t) (sym r.2) (head_pairs ◌<ℤ◌ x r.0 xs p r.1))))
        (in_order xs ss z.1 (tail_pairs ◌<ℤ◌ x xs p))

    pub master_own : (starts : List ℤ) (own : List Single) → AreSingleStarts event starts → AllZip (IsMadeAt place event) starts own → AreOwnAt room place event own
    master_own starts own are z = record {
      at = places starts own z;
      are = record {
        each = each starts own z (λ t c. at starts t are.each c);
        ordered = in_order starts own z are.ascending;
        all = λ b h. all b h (master_alone event b none h.is);
      };
    }
      where
        at : (starts : List ℤ) (t : ℤ) → All (IsSingleStart event) starts → Contains starts t → IsSingleStart event t
        at starts t h (k, w, e) = subst (IsSingleStart event) e (h k t w)

        single : (b : Instance) → IsOwnInstance room event b → IsAtStart event b → IsSingleStart event b.start
        single b h s = (s.starts, λ on. h.apart (record { master = is_a_master event none; rule = on.0; has = on.1; starts = on.2 }))

        all : (b : Instance) → IsOwnInstance room event b → IsAtStart event b → Contains (map booked own) b
        all b h s =
            let r = among starts own b.start z (are.all b.start (single b h s)) in
            let same : booked r.0 ≡ b = one_of_key event (booked r.0) b said (made b.start r.0 r.2 (single b h s)).is h.is
            ((λ i. record { organiser = (meeting_said event).0; uid = (meeting_said event).1; slot = r.2.slot i }) ∙ sym s.key) in
            subst (Contains (map booked own)) same (mapped own r.0 r.1)

  -- what an override makes
  pub override_own : (slot start : ℤ) (s : Single) → event.recurrence ≡ Some slot → s.entry ≡ place → s.slot ≡ slot → s.start ≡ event.times.start → EndsAt event.times s.start s.end
      → AreOwnAt room place event (s ∷ [])
  override_own slot start s is at of starts ends = record {
    at = All-cons (λ s. s.entry ≡ place) s [] at (All-nil (λ s. s.entry ≡ place));
    are = record {
      each = All-cons (IsOwnInstance room event) (booked s) [] own (All-nil (IsOwnInstance room event));
      ordered = cons_pairs ComesBefore (booked s) [] (λ y c. absurd (none_in y c)) (λ i j d l w. absurd (omega (arith, w)));
      all = λ b h. (
        zero,
        omega arith,
        one_of_key event (booked s) b said own.is h.is (
            let x = override_alone event b slot is h.is in
            (λ i. record { organiser = (meeting_said event).0; uid = (meeting_said event).1; slot = (of ∙ same_Some slot b.key.slot (sym is ∙ x.slot)) i }) ∙ sym x.key
            ),
      );
    };
  }
    where
      own : IsOwnInstance room event (booked s)
      own = record {
        kept = kept;
        is = alone_override event (booked s) slot is (record { slot = is ∙ ap Some (sym of); key = refl; starts = starts; ends = ends });
        apart = λ series. not_a_master event slot is series.master;
      }
