-- What was read of the lines of a certificate, and what was written of them.
use Rattle.std.specs.Prelude.{◌≡◌, ◌≢◌, ℕ, ◌<◌, ◌^◌, ◌==◌, ltb, leb, Bool, true, ◌&&◌, ℤ, List, [], ◌∷◌, ◌++◌, take, drop, All, codes, decimal}
use Rattle.std.specs.List.{AllZip, position_or_len}
use Rattle.profile.specs.text.Values.{WritesStamp}
use Rattle.profile.specs.checker.Certificates.{Entry, Span, Pair, Group, IsEntry, IsEntryText, IsPairLine, IsGroup, IsGroupLine, numbers_text, spelled}
use Rattle.clash_cert.specs.declared.reading.Version.{Version}
use Rattle.clash_cert.specs.declared.reading.Version.TheVariants.{First, Second}

-- what comes before the words of an entry
abbrev pub pair_names : ℕ → ℕ → List ℕ
pair_names i j = codes "PAIR " ++ (decimal i ++ (codes " " ++ (decimal j ++ codes " ")))

-- they are the words of no entry
abbrev pub IsNoEntry : List ℕ → Type 0
IsNoEntry words = (entry : Entry) → IsEntry entry → IsEntryText entry words → ⊥

-- they are those of no SPAN
abbrev pub IsNoSpan : List ℕ → Type 0
IsNoSpan words = (from : ℤ) (days : ℕ) → IsEntry (Span from days) → IsEntryText (Span from days) words → ⊥

-- they are the written form of no stamp
abbrev pub IsNoWrittenStamp : List ℕ → Type 0
IsNoWrittenStamp octets = (t : ℤ) → WritesStamp octets t → ⊥

-- ---- one line

-- the first line tells this version
abbrev pub version_text : Version → List ℕ
version_text First = codes "ROOMCERT 1"
version_text Second = codes "ROOMCERT 2"

abbrev pub IsVersionAt : Version → List ℕ → List ℕ → Type 0
IsVersionAt version bytes rest = bytes ≡ version_text version ++ 10 ∷ rest

abbrev pub LacksVersion : List ℕ → Type 0
LacksVersion bytes = (version : Version) (rest : List ℕ) → bytes ≢ version_text version ++ 10 ∷ rest

-- a line of that pair with this entry is at the front of the octets
pub record IsPairAt (i j : ℕ) (entry : Entry) (bytes rest : List ℕ) : Type 0 where
  pub good : IsEntry entry
  pub line : List ℕ
  pub of : IsPairLine (record { first = i; second = j; entry = entry }) line
  pub is : bytes ≡ line ++ 10 ∷ rest

-- none is
abbrev pub LacksPair : ℕ → ℕ → List ℕ → Type 0
LacksPair i j bytes =
    (entry : Entry) (line rest : List ℕ) → IsEntry entry → IsPairLine (record { first = i; second = j; entry = entry }) line → bytes ≢ line ++ 10 ∷ rest

-- a line of this group of so many series is at the front of the octets
pub record IsGroupAt (n : ℕ) (group : Group) (bytes rest : List ℕ) : Type 0 where
  pub good : IsGroup n group
  pub line : List ℕ
  pub of : IsGroupLine group line
  pub is : bytes ≡ line ++ 10 ∷ rest

-- none is
abbrev pub LacksGroup : ℕ → List ℕ → Type 0
LacksGroup n bytes = (group : Group) (line rest : List ℕ) → IsGroup n group → IsGroupLine group line → bytes ≢ line ++ 10 ∷ rest

-- the words of a group of so many series, after `GROUP `
pub record IsGroupOfWords (n : ℕ) (words : List ℕ) (group : Group) : Type 0 where
  pub good : IsGroup n group
  pub of : IsGroupLine group (codes "GROUP " ++ words)

abbrev pub IsNoGroup : ℕ → List ℕ → Type 0
IsNoGroup n words = (group : Group) → IsGroup n group → IsGroupLine group (codes "GROUP " ++ words) → ⊥

-- numbers of 64 bits, each after a space
abbrev pub AreNumbers : List ℕ → List ℕ → Type 0
AreNumbers numbers text = All (λ n. n < 2 ^ 64) numbers × (text ≡ numbers_text numbers)

abbrev pub AreNoNumbers : List ℕ → Type 0
AreNoNumbers text = (numbers : List ℕ) → All (λ n. n < 2 ^ 64) numbers → text ≢ numbers_text numbers

-- a space and this number are at the front, and whichever numbers the text spells, this is the first one
pub record IsNumberAt (n : ℕ) (text rest : List ℕ) : Type 0 where
  pub few : n < 2 ^ 64
  pub is : text ≡ codes " " ++ (decimal n ++ rest)
  pub only : (first : ℕ) (others : List ℕ) → first < 2 ^ 64 → text ≡ numbers_text (first ∷ others) → (first ≡ n) × (rest ≡ numbers_text others)

-- the text spells no list of numbers that has a first one
abbrev pub LacksNumber : List ℕ → Type 0
LacksNumber text = (first : ℕ) (others : List ℕ) → first < 2 ^ 64 → text ≢ numbers_text (first ∷ others)

-- the first space is between the two parts, at the front of the second; if there is none, the first is all
pub record IsCutAtSpace (text word rest : List ℕ) : Type 0 where
  pub word_is : word ≡ take (position_or_len (λ octet. octet == 32) text) text
  pub rest_is : rest ≡ drop (position_or_len (λ octet. octet == 32) text) text

-- numbers up to n, each greater than the one before, and the first than this
abbrev pub ascend : ℕ → ℕ → List ℕ → Bool
ascend n last [] = true
ascend n last (number ∷ numbers) = ltb last number && (leb number n && ascend n number numbers)

-- ---- what is written

-- the lines of groups
abbrev pub SpellsGroups : List Group → List ℕ → Type 0
SpellsGroups groups text = (lines : List (List ℕ)) × AllZip IsGroupLine groups lines × (text ≡ spelled lines [])

-- those of pairs
abbrev pub SpellsPairs : List Pair → List ℕ → Type 0
SpellsPairs pairs text = (lines : List (List ℕ)) × AllZip IsPairLine pairs lines × (text ≡ spelled lines [])
