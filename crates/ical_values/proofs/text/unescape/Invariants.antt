use Rattle.std.proofs.Common.{◌≡◌, ◌++◌, length, string_bytes}
use denote.Text.{Utf8}
use denote.Shadow.{shadow}
use Rattle.profile.specs.text.Values.{unescaped}
use Rattle.ical_values.proofs.text.unescape.Given as goal

abbrev pub decreases-loop-front : goal.decreases-loop-front
decreases-loop-front l = length l.rest

abbrev pub invariant-loop-front : goal.invariant-loop-front
invariant-loop-front l =
    shadow (Utf8 l.rest) × (string_bytes l.out ++ unescaped l.rest ≡ unescaped l.fn.text)
