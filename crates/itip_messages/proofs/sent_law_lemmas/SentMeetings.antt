-- The meeting of events that are said again: its master and its overrides are those that were, each once.
-- Behind requests_read_back, shown_reads_back.
use Rattle.std.proofs.Common.{◌≡◌, ◌≢◌, refl, ap, subst, ℤ, ◌≤◌, Bool, true, false, not, cond, List, [], ◌∷◌, length, map, filter, Option, is_some, arith}
use Rattle.std.specs.Prelude.{AllPairs}
use Rattle.std.specs.Option.{option_to_list}
use Rattle.std.specs.List.{AllZip}
use Rattle.profile.specs.events.EventComponents.{EventComponent}
use Rattle.profile.specs.events.Events.{InstancesDiffer, is_master, is_override}
use Rattle.cal_events.proofs.shared_lemmas.Zips.{zip_length}
use Rattle.itip_messages.specs.SentLaw.{first_of}

-- ---- events that are said again, place by place

-- what is picked by the instance alone stays in place
module _ (R : EventComponent → EventComponent → Type 0) (slots : (a b : EventComponent) → R a b → a.recurrence ≡ b.recurrence) (pick : Option ℤ → Bool) where
  pub picked_zip : (xs ys : List EventComponent) → AllZip R xs ys → AllZip R (filter (λ e. pick e.recurrence) xs) (filter (λ e. pick e.recurrence) ys)
  picked_zip [] [] z = tt
  picked_zip [] (y ∷ ys) z = absurd z
  picked_zip (x ∷ xs) [] z = absurd z
  picked_zip (x ∷ xs) (y ∷ ys) z = by (pick x.recurrence) (pick y.recurrence) (ap pick (slots x y z.0)) (picked_zip xs ys z.1)
    where
      by : (a b : Bool) → a ≡ b → AllZip R (filter (λ e. pick e.recurrence) xs) (filter (λ e. pick e.recurrence) ys)
          → AllZip R (cond a (x ∷ filter (λ e. pick e.recurrence) xs) (filter (λ e. pick e.recurrence) xs)) (cond b (y ∷ filter (λ e. pick e.recurrence) ys) (filter (λ e. pick e.recurrence) ys))
      by true true e r = (z.0, r)
      by false false e r = r
      by true false e r = cc
      by false true e r = cc

module _ (R : EventComponent → EventComponent → Type 0) (slots : (a b : EventComponent) → R a b → a.recurrence ≡ b.recurrence) where
  zip_slots : (xs ys : List EventComponent) → AllZip R xs ys → map (λ e. e.recurrence) xs ≡ map (λ e. e.recurrence) ys
  zip_slots [] [] z = refl
  zip_slots [] (y ∷ ys) z = absurd z
  zip_slots (x ∷ xs) [] z = absurd z
  zip_slots (x ∷ xs) (y ∷ ys) z = λ i. slots x y z.0 i ∷ zip_slots xs ys z.1 i

  abbrev is_none : Option ℤ → Bool
  is_none r = not (is_some r)

  pub masters_zip : (xs ys : List EventComponent) → AllZip R xs ys → AllZip R (filter is_master xs) (filter is_master ys)
  masters_zip xs ys z = picked_zip R slots is_none xs ys z

  pub overrides_zip : (xs ys : List EventComponent) → AllZip R xs ys → AllZip R (filter is_override xs) (filter is_override ys)
  overrides_zip xs ys z = picked_zip R slots is_some xs ys z

  pub masters_few : (xs ys : List EventComponent) → AllZip R xs ys → length (filter is_master xs) ≤ 1 → length (filter is_master ys) ≤ 1
  masters_few xs ys z few = omega (arith, few, zip_length R (filter is_master xs) (filter is_master ys) (masters_zip xs ys z))

  pub overrides_differ : (xs ys : List EventComponent) → AllZip R xs ys → InstancesDiffer (filter is_override xs) → InstancesDiffer (filter is_override ys)
  overrides_differ xs ys z differ = subst (AllPairs ◌≢◌) (zip_slots (filter is_override xs) (filter is_override ys) (overrides_zip xs ys z)) differ

-- a master is the only one
pub first_alone : (events : List EventComponent) → length events ≤ 1 → events ≡ option_to_list (first_of events)
first_alone [] few = refl
first_alone (e ∷ []) few = refl
first_alone (e ∷ f ∷ events) few = absurd (omega (arith, few))
