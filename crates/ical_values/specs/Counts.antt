-- What is read of a duration before its range is judged: counts that stop at the greatest u64.
use Rattle.std.specs.Prelude.{◌≡◌, ℕ, ◌≤◌, ◌^◌, ◌⊎◌, min, List, ◌∷◌, ◌++◌}
use Rattle.profile.specs.text.Values.{IsNumber, SpellsExact, SpellsDays, SpellsUnsigned}

-- a number, or the greatest u64 where it is greater
abbrev pub capped : ℕ → ℕ
capped n = min n 18_446_744_073_709_551_615

-- a text is a number, the letter, and a rest
pub record BeginsNumber (letter : ℕ) (text : List ℕ) (n : ℕ) (rest : List ℕ) : Type 0 where
  pub digits : List ℕ
  pub number : IsNumber digits n
  pub spelled : text ≡ digits ++ letter ∷ rest

-- the same, by the capped number
abbrev pub TakesCapped : ℕ → List ℕ → ℕ → List ℕ → Type 0
TakesCapped letter text count rest = (n : ℕ) × BeginsNumber letter text n rest × (count ≡ capped n)

-- or nothing of it, where it doesn't begin so
abbrev pub TakesOrSkips : ℕ → List ℕ → ℕ → List ℕ → Type 0
TakesOrSkips letter text count rest =
    TakesCapped letter text count rest
    ⊎ ((count ≡ 0) × (rest ≡ text) × ((n : ℕ) (end : List ℕ) → BeginsNumber letter text n end → ⊥))

-- the spellings with their capped counts
abbrev pub CountsExact : List ℕ → ℕ → Type 0
CountsExact text count = (total : ℕ) × SpellsExact text total × (count ≡ capped total)

abbrev pub CountsDays : List ℕ → ℕ → ℕ → Type 0
CountsDays text day_count second_count =
    (days : ℕ) × (seconds : ℕ) × SpellsDays text days seconds × (day_count ≡ capped days) × (second_count ≡ capped seconds)

abbrev pub CountsUnsigned : List ℕ → ℕ → ℕ → Type 0
CountsUnsigned text day_count second_count =
    (days : ℕ) × (seconds : ℕ) × SpellsUnsigned text days seconds × (day_count ≡ capped days) × (second_count ≡ capped seconds)

-- a duration without its sign, of more days or seconds than 32 bits count
abbrev pub SpellsLongBody : List ℕ → Type 0
SpellsLongBody text =
    (days : ℕ) × (seconds : ℕ) × SpellsUnsigned text days seconds × ((2 ^ 32 ≤ days) ⊎ (2 ^ 32 ≤ seconds))
