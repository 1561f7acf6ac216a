-- At which content line a refusal stops.
-- A content line is numbered from 1 among the logical lines of its octets.
use Rattle.std.specs.Prelude.{◌≡◌, ℕ, Bool, true, List, ◌∷◌, ◌++◌, Contains, count_by, map}

-- the line of this number is one of these, and this holds of it
pub record IsAt (lines : List (ℕ × List ℕ)) (at : ℕ) (Holds : List ℕ → Type 0) : Type 0 where
  pub line : List ℕ
  pub among : Contains lines (at, line)
  pub holds : Holds line

-- the line of this number is the second of these that pass the test
pub record IsSecond (test : List ℕ → Bool) (lines : List (ℕ × List ℕ)) (at : ℕ) : Type 0 where
  pub before : List (ℕ × List ℕ)
  pub line : List ℕ
  pub after : List (ℕ × List ℕ)
  pub are : lines ≡ before ++ (at, line) ∷ after
  pub named : test line ≡ true
  pub one : count_by (λ earlier. test earlier.1) before ≡ 1

-- a component by its lines: the number of its BEGIN, and its own lines with theirs
pub record Numbered : Type 0 where
  pub begun : ℕ
  pub lines : List (ℕ × List ℕ)

-- the lines without their numbers
abbrev pub texts_of_numbered : List (ℕ × List ℕ) → List (List ℕ)
texts_of_numbered lines = map (λ line. line.1) lines
