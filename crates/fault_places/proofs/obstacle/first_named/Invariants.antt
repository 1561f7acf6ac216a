use Rattle.std.proofs.Common.{◌≡◌, drop}
use Rattle.fault_places.specs.Obstacles.{named}
use Rattle.fault_places.proofs.obstacle.first_named.Given as goal

-- the components that are left decide it
abbrev pub invariant-loop-place : goal.invariant-loop-place
invariant-loop-place l = named l.name l.components ≡ named l.name (drop l.place l.components)
