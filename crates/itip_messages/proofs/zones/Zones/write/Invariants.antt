-- The zones that are left come under the numbers that follow; what was there before stays.
use Rattle.std.proofs.Common.{◌≡◌, ◌++◌, ◌+◌, length, map, take}
use Rattle.profile.specs.rooms.Kept.{zone_texts}
use Rattle.itip_messages.proofs.zones.Zones.write.Given as goal

abbrev pub invariant-loop-rest : goal.invariant-loop-rest
invariant-loop-rest l =
    (l.object ++ zone_texts l.number (map (λ text. text.items) l.rest-iterator) ≡ l.fn.object ++ zone_texts 0 l.self)
    × (l.number + length l.rest-iterator ≡ length l.self)
    × (take (length l.fn.object) l.object ≡ l.fn.object)
