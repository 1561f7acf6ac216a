-- The octets of a preamble, one after another.
use Rattle.std.proofs.Common.{◌≡◌, ℕ, ◌+◌, ◌<◌, List, [], ◌∷◌, ◌++◌, take, get_or, length, Option, Some, None, sym, subst}
use Rattle.std.proofs.lemmas.List.{take_more}
use Rattle.sched_doors.specs.Pieces.{Scans, line_after, scans_last, scans_more, scans_none}
use Rattle.sched_doors.specs.declared.preamble.LineSoFar.{LineSoFar}

-- one more octet, where the line that has begun goes on
pub more_scanned : {from now : LineSoFar} {octets : List ℕ} (next : LineSoFar) (octet : ℕ) → Scans from octets (Some now) → line_after now octet ≡ Some next → Scans from (octets ++ octet ∷ []) (Some next)
more_scanned next octet (scans_none) is = scans_more octet is scans_none
more_scanned next octet (scans_more b e rest) is = scans_more b e (more_scanned next octet rest is)

-- the last one
pub last_scanned : {from now : LineSoFar} {octets : List ℕ} (octet : ℕ) → Scans from octets (Some now) → line_after now octet ≡ None → Scans from (octets ++ octet ∷ []) None
last_scanned octet (scans_none) is = scans_last octet is
last_scanned octet (scans_more b e rest) is = scans_more b e (last_scanned octet rest is)

-- of octets in a row
pub scans_on : (from now next : LineSoFar) (lent : List ℕ) (i d : ℕ) → i < length lent → Scans from (take i lent) (Some now) → line_after now (get_or lent i d) ≡ Some next
    → Scans from (take (i + 1) lent) (Some next)
scans_on from now next lent i d l scans is = subst (λ (z : List ℕ). Scans from z (Some next)) (sym (take_more lent i d l)) (more_scanned next (get_or lent i d) scans is)

pub scans_up_to : (from now : LineSoFar) (lent : List ℕ) (i d : ℕ) → i < length lent → Scans from (take i lent) (Some now) → line_after now (get_or lent i d) ≡ None
    → Scans from (take (i + 1) lent) None
scans_up_to from now lent i d l scans is = subst (λ (z : List ℕ). Scans from z None) (sym (take_more lent i d l)) (last_scanned (get_or lent i d) scans is)
