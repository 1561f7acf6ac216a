-- The octets that a text and an address hold.
use Rattle.std.specs.Prelude.{ℕ, List, string_bytes}
use Rattle.ical_values.specs.declared.text.Text.{Text}
use Rattle.ical_values.specs.declared.address.Address.{Address}

abbrev pub text_octets : Text → List ℕ
text_octets t = string_bytes t.octets

abbrev pub address_octets : Address → List ℕ
address_octets a = string_bytes a.octets
