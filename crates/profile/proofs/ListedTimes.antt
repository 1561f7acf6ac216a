-- The times of the lines of a property, with commas between.
use Rattle.std.proofs.Common.{◌≡◌, ap, sym, subst, zero, suc, arith, ℕ, ◌==◌, List, [], ◌∷◌}
use Rattle.std.specs.Prelude.{Contains, All, map}
use Rattle.std.specs.List.{flat_map, slice_split}
use Rattle.std.proofs.lemmas.List.Elements.{All-contains, All-contains_itself, All-append, All-nil, All-map, All-weaker, All-head, All-tail, Contains-append_left, Contains-append_right}
use Rattle.profile.specs.text.Lines.{line_value}
use Rattle.profile.specs.events.Occurrences.{ListedTime, entries_of}

-- a text of a line that is among some lines
abbrev pub IsEntryOf : (List ℕ → Type 0) → ListedTime → Type 0
IsEntryOf Q entry = Q entry.0 × Contains (slice_split (λ c. c == 44) (line_value entry.0)) entry.1

pub entries_among : (Q : List ℕ → Type 0) (lines : List (List ℕ)) → All Q lines → All (IsEntryOf Q) (flat_map entries_of lines)
entries_among Q [] all = All-nil (IsEntryOf Q)
entries_among Q (line ∷ lines) all =
    All-append (IsEntryOf Q) (entries_of line) (flat_map entries_of lines)
    (All-map (IsEntryOf Q) (λ text. (line, text)) (slice_split (λ c. c == 44) (line_value line))
    (All-weaker (Contains (slice_split (λ c. c == 44) (line_value line))) (λ text. IsEntryOf Q (line, text)) (λ text there. (All-head Q line lines all, there)) _ (All-contains_itself _)))
    (entries_among Q lines (All-tail Q line lines all))

abbrev with_line : List ℕ → List ℕ → ListedTime
with_line line text = (line, text)

pair_same : (line a b : List ℕ) → a ≡ b → with_line line a ≡ with_line line b
pair_same line a b e = ap (with_line line) e

-- such a text is among the times of all lines
in_line : (line : List ℕ) (texts : List (List ℕ)) (text : List ℕ) → Contains texts text → Contains {X = ListedTime} (map (λ t. (line, t)) texts) (line, text)
in_line line [] text (k, w, e) = absurd (omega (arith, w))
in_line line (t ∷ texts) text (zero, w, e) = (zero, omega arith, pair_same line t text e)
in_line line (t ∷ texts) text (suc k, w, e) = Contains-append_right {X = ListedTime} ((line, t) ∷ []) (map (λ x. (line, x)) texts) (line, text) (in_line line texts text (k, omega (arith, w), e))

pub entry_among : (lines : List (List ℕ)) (line text : List ℕ) → Contains lines line → Contains (slice_split (λ c. c == 44) (line_value line)) text → Contains {X = ListedTime} (flat_map entries_of lines) (line, text)
entry_among [] line text (k, w, e) among = absurd (omega (arith, w))
entry_among (x ∷ lines) line text (zero, w, e) among =
    Contains-append_left (entries_of x) (flat_map entries_of lines) (line, text) (subst (λ l. Contains {X = ListedTime} (entries_of l) (line, text)) (sym e) (in_line line (slice_split (λ c. c == 44) (line_value line)) text among))
entry_among (x ∷ lines) line text (suc k, w, e) among =
    Contains-append_right (entries_of x) (flat_map entries_of lines) (line, text) (entry_among lines line text (k, omega (arith, w), e) among)

-- it is a text of one of these lines
pub entry_of : (lines : List (List ℕ)) (entry : ListedTime) → Contains (flat_map entries_of lines) entry → IsEntryOf (Contains lines) entry
entry_of lines entry there =
    All-contains (IsEntryOf (Contains lines)) (flat_map entries_of lines) entry (entries_among (Contains lines) lines (All-contains_itself lines)) there
