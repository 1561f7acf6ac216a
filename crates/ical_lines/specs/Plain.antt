-- A line that begins with a name and a colon right after it.
use Rattle.std.specs.Prelude.{◌≡◌, ℕ, Bool, not, List, [], true, false}
use Rattle.profile.specs.text.Lines.{lacks_colon, is_name, is_name_octet, line_name, line_params}

-- an octet that can't occur in a name
abbrev pub ends_name : ℕ → Bool
ends_name c = not (is_name_octet c)

-- so what is wrong with it can only be a control octet
pub record IsPlain (line : List ℕ) : Type 0 where
  pub colon : lacks_colon line ≡ false
  pub name : is_name (line_name line) ≡ true
  pub params : line_params line ≡ []
