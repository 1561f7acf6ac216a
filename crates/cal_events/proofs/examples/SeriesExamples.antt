-- What of a master its series keeps, worked by the definitions alone.
use Rattle.std.proofs.Common.{◌≡◌, ◌⊎◌, ◌<◌, ℕ, zero, suc, List, [], ◌∷◌, get_or, refl, inl, inr, arith, pos, ℤ, ◌<ℤ◌}
use Rattle.std.specs.Prelude.{Contains, Some}
use Rattle.std.proofs.lemmas.Int.{ints}
use Rattle.profile.specs.events.Confirmed.{AreAll, IsByItsRule, by_its_rule}
use Rattle.profile.specs.events.EventComponents.{EventComponent}
use Rattle.cal_events.proofs.shared_lemmas.InOneOrder.{first_or_later, none_in}

-- EXDATE names one instant twice, and then one before it
abbrev named : List ℤ
named = pos 7 ∷ pos 7 ∷ pos 3 ∷ []

-- both are excepted once, in order
excepted_once : AreAll (Contains named) (pos 3 ∷ pos 7 ∷ [])
excepted_once = record { each = each; ascending = ascending; all = λ t c. all t (first_or_later (pos 7) t (pos 7 ∷ pos 3 ∷ []) c) }
  where
    each : (k : ℕ) (d : ℤ) → k < 2 → Contains named (get_or (pos 3 ∷ pos 7 ∷ []) k d)
    each zero d w = (2, omega arith, refl)
    each (suc zero) d w = (0, omega arith, refl)
    each (suc (suc k)) d w = absurd (omega (arith, w))

    ascending : (i j : ℕ) (d : ℤ) → i < j → j < 2 → get_or (pos 3 ∷ pos 7 ∷ []) i d <ℤ get_or (pos 3 ∷ pos 7 ∷ []) j d
    ascending zero zero d l w = absurd (omega (arith, l))
    ascending zero (suc zero) d l w = omega (arith, ints)
    ascending (suc i) (suc zero) d l w = absurd (omega (arith, l))
    ascending i (suc (suc j)) d l w = absurd (omega (arith, w))
    ascending (suc i) zero d l w = absurd (omega (arith, l))

    all : (t : ℤ) → (pos 7 ≡ t) ⊎ Contains (pos 7 ∷ pos 3 ∷ []) t → Contains (pos 3 ∷ pos 7 ∷ []) t
    all t (inl e) = (1, omega arith, e)
    all t (inr c) = elim (first_or_later (pos 7) t (pos 3 ∷ []) c) [
      | inl e ↦ (1, omega arith, e)
      | inr d ↦ elim (first_or_later (pos 3) t [] d) [ inl e ↦ (0, omega arith, e) | inr n ↦ absurd (none_in t n) ]
    ]

-- so a master that says this has that series, whatever else it says
its_series : (master : EventComponent) → IsByItsRule master (Contains named) (record { master = Some (by_its_rule master (pos 3 ∷ pos 7 ∷ [])); overrides = [] })
its_series master = record { exceptions = pos 3 ∷ pos 7 ∷ []; are = excepted_once; is = refl }

-- what isn't said of its times is left out
left_out : (master : EventComponent) → by_its_rule (record master { summary = 65 ∷ []; sequence = 4; stamp = Some (pos 9); additions = pos 5 ∷ []; attendees = [] }) [] ≡ by_its_rule master []
left_out master = refl
