-- Why a call of a folder failed, as it is remembered.
use Rattle.std.specs.Prelude.{◌≡◌, List, ℕ, Option, None, Some, String, string_bytes}
use denote.Ref.{Bor}

-- the file is the one that the call was about, if there was memory for its name
abbrev pub IsNameKept : {A : Type 0} → Option (String A) → Option (Bor (List ℕ)) → Type 0
IsNameKept None about = Unit {0}
IsNameKept (Some name) None = ⊥
IsNameKept (Some name) (Some about) = string_bytes name ≡ about.now
