-- The VEVENTs of an agenda that is published.
use Rattle.std.specs.Prelude.{◌≡◌, ℕ, ℤ, List}
use Rattle.std.specs.List.{AllZip, flat_map}
use Rattle.profile.specs.checker.Instances.{Instance}
use Rattle.profile.specs.checker.Publishing.{IsPublishedEvent}

-- these are the lines of the VEVENTs of these instances, in order
pub record AreEvents (moment : ℤ) (instances : List Instance) (lines : List (List ℕ)) : Type 0 where
  pub events : List (List (List ℕ))
  pub each : AllZip (IsPublishedEvent moment) instances events
  pub are : lines ≡ flat_map (λ own. own) events
