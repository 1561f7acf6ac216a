-- At which VEVENT some that contradict each other are refused, by the numbers of their BEGINs.
use Rattle.std.specs.Prelude.{◌≡◌, ◌⊎◌, ◌==◌, ◌||◌, ◌<◌, ℕ, true, List, [], ◌∷◌, ◌++◌, length, map}
use Rattle.cal_events.specs.declared.component.EventComponent.{EventComponent}

abbrev pub begins_of : List EventComponent → List ℕ
begins_of events = map (λ event. event.begun) events

-- the one at this line isn't the first
pub record IsLater (begins : List ℕ) (at : ℕ) : Type 0 where
  pub before : List ℕ
  pub after : List ℕ
  pub are : begins ≡ before ++ at ∷ after
  pub some : 0 < length before

-- they are refused with this number at this line: there is none, or one contradicts an earlier one
abbrev pub BetweenBlame : List ℕ → ℕ → ℕ → Type 0
BetweenBlame begins n at =
    ((n ≡ 66) × (at ≡ 0) × (begins ≡ [])) ⊎ (((n == 53 || n == 54 || n == 62) ≡ true) × IsLater begins at)
