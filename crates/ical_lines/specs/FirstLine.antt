-- Where the first logical line of octets ends.
use Rattle.std.specs.Prelude.{◌≡◌, ◌≤◌, ℕ, true, false, List, [], ◌∷◌, ◌++◌, length, take, drop, Option, None, Some}
use Rattle.profile.specs.text.Lines.{is_continuation, is_filled, logical_lines}
use Rattle.ical_lines.specs.Breaks.{is_one_line}
use denote.Ref.{Bor}

-- what is left of some octets begins after an LF
abbrev pub IsAfterBreak : List ℕ → Option (Bor (List ℕ)) → Type 0
IsAfterBreak octets None = Unit {0}
IsAfterBreak octets (Some rest) = (body : List ℕ) × (octets ≡ body ++ 10 ∷ rest.now)

-- after this many octets, the last of which is an LF, the first logical line has ended: so another line may be put there
pub record EndsFirstLine (octets : List ℕ) (end : ℕ) : Type 0 where
  pub first : List ℕ
  pub rest : List (List ℕ)
  pub inside : end ≤ length octets
  pub alone : logical_lines (take end octets) ≡ first ∷ []
  pub whole : logical_lines octets ≡ first ∷ rest
  pub with_line : (line : List ℕ) → is_filled line ≡ true → is_one_line line ≡ true → is_continuation line ≡ false
      → logical_lines (take end octets ++ (line ++ 13 ∷ 10 ∷ []) ++ drop end octets) ≡ first ∷ line ∷ rest
