-- Whether the bounds of a message hold.
use Rattle.std.specs.Prelude.{Bool, true, false}
use Rattle.ical_lines.specs.declared.limits.Limits.{Limits}
use Rattle.ical_lines.specs.declared.limits.Limits.TheVariants.{Message, Open}

abbrev pub is_bounded : Limits → Bool
is_bounded Message = true
is_bounded Open = false
