-- Where reading stops inside a part, it stops in the whole.
use Rattle.std.proofs.Common.{◌≡◌, ℕ, List, inl, inr}
use Rattle.profile.specs.checker.Certificates.{Group}
use Rattle.clash_cert.specs.Stops.{StopsAt}
use Rattle.clash_cert.specs.Walked.{AreGroupsOf, BreaksPairs, BreaksInGroups, IsBroken}
use Rattle.clash_cert.specs.declared.reading.Stop.{Stop}
use Rattle.clash_cert.specs.declared.reading.Stop.TheVariants.{Memory, At}
use Rattle.clash_cert.specs.declared.reading.Version.{Version}

pub stops_in_groups : (version : Version) (n : ℕ) (bytes : List ℕ) (stop : Stop) → StopsAt (BreaksInGroups version n bytes) stop → StopsAt (IsBroken version n bytes) stop
stops_in_groups version n bytes Memory h = tt
stops_in_groups version n bytes (At end) h = inl h

pub stops_in_pairs : (version : Version) (n : ℕ) (groups : List Group) (bytes middle : List ℕ) (stop : Stop) → AreGroupsOf version n groups bytes middle → StopsAt (BreaksPairs n groups middle) stop
    → StopsAt (IsBroken version n bytes) stop
stops_in_pairs version n groups bytes middle Memory are h = tt
stops_in_pairs version n groups bytes middle (At end) are h = inr (inl (record { groups = groups; middle = middle; are_groups = are; breaks = h }))
