-- The blocks of a day as they are found: instances in order, and what they leave of the day.
use Rattle.std.specs.Prelude.{ℤ, List, [], ◌∷◌, ◌++◌, int_lt, if◌then◌else◌}
use Rattle.std.specs.Int.{int_max}
use Rattle.profile.specs.checker.Instances.{Instance}
use Rattle.profile.specs.checker.Agendas.{Block, Taken, Free}

-- a free span, if there is an instant in it
abbrev pub free_if : ℤ → ℤ → List Block
free_if start end = if int_lt start end then Free start end ∷ [] else []

-- what is left before the first, the first, and the others with what is left from its end on
abbrev pub woven : ℤ → ℤ → List Instance → List Block
woven from until [] = free_if from until
woven from until (a ∷ rest) = free_if from a.start ++ Taken a ∷ woven (int_max from a.end) until rest
