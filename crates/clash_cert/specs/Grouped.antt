-- Which series a group has, and which entries stay beside it.
use Rattle.std.specs.Prelude.{◌≡◌, ◌↔◌, ℕ, suc, ◌<◌, ◌==◌, Bool, true, false, not, ◌&&◌, ◌||◌, List, [], ◌∷◌, AllPairs, Contains, filter, Some, length, slice_index_or}
use Rattle.std.specs.List.{list_any}
use Rattle.profile.specs.checker.Certificates.{Entry, End, Span, Res, InGroup, Pair, Group, Claims, HasSpan}

abbrev pub is_span : Entry → Bool
is_span End = false
is_span (Span from days) = true
is_span (Res m) = false
is_span (InGroup n) = false

-- the entry is SPAN, and of the series of this number
abbrev pub spans : ℕ → Pair → Bool
spans i p = is_span p.entry && (p.first == i || p.second == i)

-- the mark of each series, counted from 0, tells whether one of these entries is SPAN
abbrev pub AreMarked : List Pair → List Bool → Type 0
AreMarked pairs marks = (place : ℕ) → place < length marks → slice_index_or marks place false ≡ list_any (spans (suc place)) pairs

-- the numbers of the series that are marked, of which the first has this number
abbrev pub marked_from : ℕ → List Bool → List ℕ
marked_from i [] = []
marked_from i (true ∷ marks) = i ∷ marked_from (suc i) marks
marked_from i (false ∷ marks) = marked_from (suc i) marks

-- these are the series that have SPAN, ascending
pub record HaveSpan (c : Claims) (numbers : List ℕ) : Type 0 where
  pub are : (i : ℕ) → Contains numbers i ↔ HasSpan c i
  pub ascending : AllPairs ◌<◌ numbers

-- the number is one of these
abbrev pub is_among : List ℕ → ℕ → Bool
is_among members n = list_any (λ m. m == n) members

-- both series of a pair are among these
abbrev pub are_among : List ℕ → Pair → Bool
are_among members p = is_among members p.first && is_among members p.second

-- the entries that aren't of two of these
abbrev pub apart_of : List ℕ → List Pair → List Pair
apart_of members = filter (λ p. not (are_among members p))

-- the group and the entries beside it, in place of all entries
abbrev pub with_group : Claims → Group → Claims
with_group c group = record { singles = c.singles; series = c.series; groups = Some (group ∷ []); pairs = apart_of group.members c.pairs }
