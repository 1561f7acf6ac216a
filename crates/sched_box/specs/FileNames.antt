-- Which names of files are messages'.
use Rattle.std.specs.Prelude.{◌≡◌, ◌-◌, ◌++◌, ℕ, ℤ, List, length, take, drop, map, codes, Option, MatchOption}
use Rattle.std.specs.Char.{to_ascii_lowercase}
use denote.Ref.{Bor}
use Rattle.profile.specs.streams.Folders.{IsInboxName}

-- the name without its last four octets
abbrev pub name_stem : List ℕ → List ℕ
name_stem name = take (length name - 4) name

-- it is a message's by this stem and this moment, and by no others
pub record IsNamed (name : List ℕ) (moment : ℤ) : Type 0 where
  pub is : IsInboxName name (name_stem name) moment
  pub alone : (stem : List ℕ) (other : ℤ) → IsInboxName name stem other → (stem ≡ name_stem name) × (other ≡ moment)

-- it isn't a message's
abbrev pub IsNoName : List ℕ → Type 0
IsNoName name = (stem : List ℕ) (moment : ℤ) → IsInboxName name stem moment → ⊥

-- the name before its `.ics`, if it ends so
abbrev pub IsCut : List ℕ → Option (Bor (List ℕ)) → Type 0
IsCut name cut = MatchOption cut ((stem : List ℕ) → name ≡ stem ++ codes ".ics" → ⊥) (λ stem. name ≡ stem.now ++ codes ".ics")

-- the name of the answers to a message of this name
abbrev pub renamed : List ℕ → List ℕ
renamed name = name_stem name ++ codes ".out"

-- ---- what is left alone

-- the last four octets of a name, in lower case
abbrev pub name_end : List ℕ → List ℕ
name_end name = map to_ascii_lowercase (drop (length name - 4) name)

-- it ends as a message's name does, in upper or lower case, and is none
pub record IsLeftAlone (name : List ℕ) : Type 0 where
  pub ends : name_end name ≡ codes ".ics"
  pub no_message : IsNoName name
