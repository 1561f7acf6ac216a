-- The instances that an iterator gives to its end are all that were left.
-- Cited by Instances::from of instances, all_instances of whole, all_starts of whole.
use Rattle.std.proofs.Common.{◌≡◌, ◌∙◌, ap, sym, subst, inl, inr, ◌⊎◌, zero, suc, List, [], ◌∷◌, get_or, arith, ℤ, ◌<ℤ◌, ◌≤ℤ◌}
use Rattle.std.specs.Prelude.{Option, Some, None, All, AllPairs, Contains, ◌↔◌}
use Rattle.std.proofs.lemmas.Int.{ints, by_lt_z}
use Rattle.profile.specs.checker.Instances.{Instance as SaidInstance}
use Rattle.profile.specs.events.Events.{Event}
use Rattle.profile.specs.events.Starts.{IsInstance, ComesBefore, AreInstancesFrom}
use Rattle.cal_events.specs.Calendar.{instance_of}
use Rattle.cal_events.specs.Instances.{IsAfter, IsPastSlot}
use Rattle.cal_events.specs.Left.{IsLeft, GivesFirst}
use Rattle.cal_events.specs.Whole.{GivesAll, no_more, one_more}
use Rattle.cal_events.specs.Event.{said_meeting}
use Rattle.cal_events.specs.declared.event.Event as declared
use Rattle.cal_events.specs.declared.instance.Instance.{Instance}
use Rattle.cal_events.specs.declared.instances.Bound.{Bound}
use Rattle.cal_events.specs.declared.instances.Instances.{Instances}

-- ---- lists

pairs_cons : {A : Type 0} (R : A → A → Type 0) (x : A) (xs : List A) → All (R x) xs → AllPairs R xs → AllPairs R (x ∷ xs)
pairs_cons R x xs h p zero zero d l w = absurd (omega (arith, l))
pairs_cons R x xs h p zero (suc j) d l w = h j d (omega (arith, w))
pairs_cons R x xs h p (suc i) zero d l w = absurd (omega (arith, l))
pairs_cons R x xs h p (suc i) (suc j) d l w = p i j d (omega (arith, l)) (omega (arith, w))

all_cons : {A : Type 0} (P : A → Type 0) (x : A) (xs : List A) → P x → All P xs → All P (x ∷ xs)
all_cons P x xs p h zero d w = p
all_cons P x xs p h (suc k) d w = h k d (omega (arith, w))

all_weaker : {A : Type 0} (P Q : A → Type 0) (xs : List A) → ((x : A) → P x → Q x) → All P xs → All Q xs
all_weaker P Q xs f h k d w = f (get_or xs k d) (h k d w)

in_tail : {A : Type 0} (x y : A) (xs : List A) → Contains xs y → Contains (x ∷ xs) y
in_tail x y xs (k, w, e) = (suc k, omega (arith, w), e)

-- ---- the order of instances

pub order : (x y : ℤ) → (x <ℤ y) ⊎ ((x ≡ y) ⊎ (y <ℤ x))
order x y =
    by_lt_z x y (λ less. inl less)
    (λ most. by_lt_z y x (λ more. inr (inr more)) (λ least. inr (inl (omega (arith, ints, most, least)))))

-- two have one place, or one of them comes first
pub placed : (a b : SaidInstance) → ComesBefore a b ⊎ (((a.start ≡ b.start) × (a.key.slot ≡ b.key.slot)) ⊎ ComesBefore b a)
placed a b =
    elim (order a.start b.start) [
      | inl less ↦ inl (inl less)
      | inr o ↦ elim o [
        | inl e ↦ elim (order a.key.slot b.key.slot) [
          | inl less ↦ inl (inr (e, less))
          | inr p ↦ elim p [ inl f ↦ inr (inl (e, f)) | inr more ↦ inr (inr (inr (sym e, more))) ]
        ]
        | inr more ↦ inr (inr (inl more))
      ]
    ]

pub past : (last : Option ℤ) (a b : ℤ) → IsPastSlot last a → a <ℤ b → IsPastSlot last b
past None a b h l = tt
past (Some k) a b h l = omega (arith, ints, h, l)

-- what comes after one that is to come is to come too
pub after_later : (bound : Bound) (a b : SaidInstance) → IsAfter bound a.start a.key.slot → ComesBefore a b → IsAfter bound b.start b.key.slot
after_later bound a b (inl l) (inl m) = inl (omega (arith, ints, l, m))
after_later bound a b (inl l) (inr (e, m)) = inl (omega (arith, ints, l, e))
after_later bound a b (inr (e, p)) (inl m) = inl (omega (arith, ints, e, m))
after_later bound a b (inr (e, p)) (inr (f, m)) = inr (e ∙ f, past bound.slot a.key.slot b.key.slot p m)

-- those from an instant on are those that start then or later
pub left_from : (event : declared.Event) (from : ℤ) (b : SaidInstance) → (IsInstance (said_meeting event) b × IsAfter (record { start = from; slot = None }) b.start b.key.slot) ↔ (IsInstance (said_meeting event) b × (from ≤ℤ b.start))
left_from event from b = ((λ h. (h.0, late h.1)), λ h. (h.0, after h.1))
  where
    late : IsAfter (record { start = from; slot = None }) b.start b.key.slot → from ≤ℤ b.start
    late (inl l) = omega (arith, ints, l)
    late (inr (e, _)) = omega (arith, ints, e)

    after : from ≤ℤ b.start → IsAfter (record { start = from; slot = None }) b.start b.key.slot
    after le = elim (order from b.start) [
      | inl less ↦ inl less
      | inr o ↦ elim o [ inl e ↦ inr (e, tt) | inr more ↦ absurd (omega (arith, ints, le, more)) ]
    ]

-- ---- all that are left

record AreLeft (left : Instances) (all : List SaidInstance) : Type 0 where
  each : All (IsLeft left) all
  ordered : AllPairs ComesBefore all
  whole : (b : SaidInstance) → IsLeft left b → Contains all b

module _ (meeting : Event) (one : (a b : SaidInstance) → IsInstance meeting a → IsInstance meeting b → a.start ≡ b.start → a.key.slot ≡ b.key.slot → a ≡ b) where
  module _ (left rest : Instances) (i : Instance) (others : List SaidInstance) (of_meeting : said_meeting left.event.now ≡ meeting) (given : GivesFirst left (Some i) rest) where
    abbrev it : SaidInstance
    it = instance_of i

    is_left : IsLeft left it
    is_left = given.1.0

    -- what is left then was left, and comes after it
    behind : (b : SaidInstance) → IsLeft rest b → ComesBefore it b
    behind b (is, after) = subst (λ (x : Bound). IsAfter x b.start b.key.slot) given.1.2 after

    still : (b : SaidInstance) → IsLeft rest b → IsLeft left b
    still b (is, after) =
        (subst (λ e. IsInstance (said_meeting e.now) b) given.0 is, after_later left.after it b is_left.1 (behind b (is, after)))

    -- what was left is it, or is left
    or_left : (b : SaidInstance) → IsLeft left b → (it ≡ b) ⊎ IsLeft rest b
    or_left b (is, after) =
        elim (placed it b) [
          | inl before ↦ inr (subst (λ e. IsInstance (said_meeting e.now) b) (sym given.0) is, subst (λ (x : Bound). IsAfter x b.start b.key.slot) (sym given.1.2) before)
          | inr o ↦ elim o [
            | inl same ↦ inl (one it b (subst (λ m. IsInstance m it) of_meeting is_left.0) (subst (λ m. IsInstance m b) of_meeting is) same.0 same.1)
            | inr first ↦ absurd (given.1.1 b (is, after) first)
          ]
        ]

    more_left : AreLeft rest others → AreLeft left (it ∷ others)
    more_left h = record {
      each = all_cons (IsLeft left) it others is_left (all_weaker (IsLeft rest) (IsLeft left) others still h.each);
      ordered = pairs_cons ComesBefore it others (all_weaker (IsLeft rest) (ComesBefore it) others behind h.each) h.ordered;
      whole = λ b l. elim (or_left b l) [ inl same ↦ (0, omega arith, same) | inr r ↦ in_tail it b others (h.whole b r) ];
    }

  all_left : (left : Instances) (all : List SaidInstance) → said_meeting left.event.now ≡ meeting → GivesAll left all → AreLeft left all
  all_left left [] of_meeting (no_more own rest given) = record {
    each = λ k d w. absurd (omega (arith, w));
    ordered = λ i j d l w. absurd (omega (arith, w));
    whole = λ b h. absurd (given.1.0 b h);
  }
  all_left left (x ∷ more) of_meeting (one_more own rest i others given later) =
      more_left own rest i others of_meeting given (all_left rest others (ap (λ e. said_meeting e.now) given.0 ∙ of_meeting) later)

  -- what is given from an instant on is all that starts then or later
  pub all_given : (from : ℤ) (left : Instances) (all : List SaidInstance) → said_meeting left.event.now ≡ meeting → ((b : SaidInstance) → IsLeft left b ↔ (IsInstance meeting b × (from ≤ℤ b.start))) → GivesAll left all
      → AreInstancesFrom meeting from all
  all_given from left all of_meeting begins given =
      let h = all_left left all of_meeting given in
      record {
        each = all_weaker (IsLeft left) (λ b. IsInstance meeting b × (from ≤ℤ b.start)) all (λ b l. (begins b).0 l) h.each;
        ordered = h.ordered;
        all = λ b is late. h.whole b ((begins b).1 (is, late));
      }
