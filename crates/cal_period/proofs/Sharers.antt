-- Singles beside series, one after another.
use Rattle.std.proofs.Common.{◌≡◌, ◌∙◌, ℕ, ◌+◌, ◌<◌, ◌≤◌, List, length, subst, sym, ap, inl, inr, arith, ℤ}
use Rattle.std.specs.Prelude.{Option, Some, None, option_map, Contains}
use Rattle.std.specs.List.{slice_get}
use Rattle.std.proofs.lemmas.Bool.{cases_lt}
use Rattle.std.proofs.lemmas.Option.{same_Some, slice_get-get_or}
use Rattle.profile.specs.checker.Instances.{Instance as SaidInstance}
use Rattle.profile.specs.events.Events.{Event}
use Rattle.profile.specs.events.Starts.{IsInstance, SharesInstant, IsFirstSharer}
use Rattle.profile.specs.events.Confirmed.{Confirmed}
use Rattle.cal_events.specs.Calendar.{instance_of}
use Rattle.cal_events.specs.declared.instance.Instance.{Instance}
use Rattle.cal_period.specs.declared.beside.Beside.{Beside}
use Rattle.cal_period.specs.Besides.{IsSharer, HasNoSharer, IsSingleOr}

-- ---- the series for one span

-- no instance of the series before a place shares an instant with the span
abbrev pub HasNoneBefore : List Event → ℤ → ℤ → ℕ → Type 0
HasNoneBefore all start end place =
    (k : ℕ) (series : Event) → k < place → slice_get all k ≡ Some series → (b : SaidInstance) → IsInstance series b → SharesInstant b.start b.end start end → ⊥

module _ (all : List Event) (start end : ℤ) (place : ℕ) (series : Event) (at : slice_get all place ≡ Some series) where
  -- one more that has none
  pub none_more : (o : Option Instance) → IsFirstSharer series start end (option_map instance_of o) → o ≡ None → HasNoneBefore all start end place → HasNoneBefore all start end (place + 1)
  none_more None first e none k other w is b h s =
      elim (cases_lt k place) [
        | inl before ↦ none k other before is b h s
        | inr from ↦
            let here : k ≡ place = omega (arith, w, from) in
            let same : series ≡ other = same_Some series other (sym at ∙ ap (slice_get all) (sym here) ∙ is) in
            first b (subst (λ (m : Event). IsInstance m b) (sym same) h) s
      ]
  none_more (Some i) first e none k other w is b h s = absurd (never e)
    where
      never : Some i ≡ None → ⊥
      never e = cc

  -- this one has
  pub sharer_found : (o : Option Instance) (i : Instance) → IsFirstSharer series start end (option_map instance_of o) → o ≡ Some i → IsSharer all start end place (instance_of i)
  sharer_found o i first e =
      let f : IsFirstSharer series start end (Some (instance_of i)) = subst (λ (x : Option Instance). IsFirstSharer series start end (option_map instance_of x)) e first in
      record { series = series; at = at; is = f.0; shared = f.1.0 }

pub none_of_all : (all : List Event) (start end : ℤ) (place : ℕ) → length all ≤ place → HasNoneBefore all start end place → HasNoSharer all start end
none_of_all all start end place past none b (series, (k, w, e), h) s =
    none k series (omega (arith, w, past)) (slice_get-get_or all k series w ∙ ap Some e) b h s

-- ---- one single

pub none_beside : (all : Confirmed) (place : ℕ) (i : Instance) → slice_get all.singles place ≡ Some (instance_of i) → HasNoSharer all.series i.start i.end
    → (single : SaidInstance) → slice_get all.singles place ≡ Some single → HasNoSharer all.series single.start single.end
none_beside all place i there none single at =
    let same : instance_of i ≡ single = same_Some (instance_of i) single (sym there ∙ at) in
    subst (λ (b : SaidInstance). HasNoSharer all.series b.start b.end) same none

-- ---- all singles

-- none before a place shares an instant with a series
abbrev pub AreNoneBefore : Confirmed → ℕ → Type 0
AreNoneBefore all place = (k : ℕ) (single : SaidInstance) → k < place → slice_get all.singles k ≡ Some single → HasNoSharer all.series single.start single.end

pub singles_more : (all : Confirmed) (place : ℕ) (o : Option Beside) → IsSingleOr all place o → o ≡ None → AreNoneBefore all place → AreNoneBefore all (place + 1)
singles_more all place (Some b) s e none k single w at = absurd (never e)
  where
    never : Some b ≡ None → ⊥
    never e = cc
singles_more all place None s e none k single w at =
    elim (cases_lt k place) [
      | inl before ↦ none k single before at
      | inr from ↦ let here : k ≡ place = omega (arith, w, from) in s single (ap (slice_get all.singles) (sym here) ∙ at)
    ]

pub none_of_singles : (all : Confirmed) (place : ℕ) → length all.singles ≤ place → AreNoneBefore all place → (single : SaidInstance) → Contains all.singles single → HasNoSharer all.series single.start single.end
none_of_singles all place past none single (k, w, e) = none k single (omega (arith, w, past)) (slice_get-get_or all.singles k single w ∙ ap Some e)
