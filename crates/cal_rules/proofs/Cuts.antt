-- A text that is cut at an ASCII character, piece after piece.
use Rattle.std.proofs.Common.{◌≡◌, sym, subst, ℕ, ◌<◌, true, ◌==◌, List, [], ◌∷◌, Option, None, Some}
use denote.Ref.{Bor}
use Rattle.std.specs.declared.str.Split.{Split}
use Rattle.std.specs.Iterator.{AlwaysYields}
use Rattle.std.specs.List.{slice_split}
use Rattle.std.specs.Str.Iter.{split_steps, split_text, split_has_more, split_pattern}
use Rattle.std.specs.Str.Pattern.{FindsChar}
use Rattle.std.proofs.lemmas.Iterator.Splits.{YieldsList-from_str_split}
use Rattle.ical_lines.proofs.Yields.{some_more, none_more}

-- one step of the iterator over the pieces
abbrev pub cuts : Split ℕ → Option (Bor (List ℕ)) → Split ℕ → Type 0
cuts = split_steps FindsChar (λ a b. b ≡ a)

-- these pieces are left: they come, and nothing after them
abbrev pub Leaves : Split ℕ → List (List ℕ) → Type 0
Leaves s left = AlwaysYields cuts (λ x. x.now) s left

-- at the start all pieces of the text are left
pub all_left : (stop : ℕ) (text : List ℕ) (s t : Split ℕ) → stop < 128 → split_text s ≡ text → split_has_more s ≡ true → split_pattern s ≡ stop → t ≡ s → Leaves t (slice_split (λ c. c == stop) text)
all_left stop text s t low is more at same =
    subst (λ u. Leaves u (slice_split (λ c. c == stop) text)) (sym same) (YieldsList-from_str_split stop text low is more at).runs

-- a piece comes
pub cut_more : (s t : Split ℕ) (piece : Bor (List ℕ)) (left : List (List ℕ)) → Leaves s left → cuts s (Some piece) t → (rest : List (List ℕ)) × (left ≡ piece.now ∷ rest) × Leaves t rest
cut_more s t piece left y h = some_more cuts (λ x. x.now) s t piece left y h

-- none comes
pub cut_done : (s t : Split ℕ) (left : List (List ℕ)) → Leaves s left → cuts s None t → left ≡ []
cut_done s t left y h = none_more cuts (λ x. x.now) s t left y h
