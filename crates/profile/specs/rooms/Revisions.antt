-- Parts, the order of revisions, and the view of all parts ever taken (RFC 5546 2.1.4, 2.1.5).
use Rattle.std.specs.Prelude.{ℕ, ℤ, Bool, not, ◌&&◌, ◌||◌, List}
use Rattle.std.specs.declared.cmp.Ordering.{Ordering}
use Rattle.std.specs.declared.cmp.Ordering.TheVariants.{Less, Equal, Greater}
use Rattle.std.specs.Ordering.{is_eq, is_gt, is_le, nat_cmp, int_cmp, ordering_then}
use Rattle.std.specs.Cmp.Lexicographic.{slice_cmp}
use Rattle.std.specs.List.{list_any, list_all}

-- a slot of a meeting: the whole, or the instance of this RECURRENCE-ID, in seconds from 1970-01-01T00:00:00Z (RFC 5545 3.8.4.4)
pub data Slot : Type 0 where
  Whole : Slot
  At : ℤ → Slot

-- SEQUENCE, and DTSTAMP as an instant (RFC 5545 3.8.7.4, 3.8.7.2)
pub record Revision : Type 0 where
  pub sequence : ℕ
  pub stamp : ℤ

-- what a part makes of its slot: these canonical octets, nothing for this room, or nothing at all
pub data Body : Type 0 where
  Set : List ℕ → Body
  Absent : Body
  Cancelled : Body

-- what a message says of one slot of one meeting; organiser and UID are octets
pub record Part : Type 0 where
  pub organiser : List ℕ
  pub uid : List ℕ
  pub slot : Slot
  pub revision : Revision
  pub body : Body

-- octets, lexicographically
abbrev pub octets_cmp : List ℕ → List ℕ → Ordering
octets_cmp = slice_cmp nat_cmp

-- the Whole below each At, and those by their instants
abbrev pub slot_cmp : Slot → Slot → Ordering
slot_cmp Whole Whole = Equal
slot_cmp Whole (At b) = Less
slot_cmp (At a) Whole = Greater
slot_cmp (At a) (At b) = int_cmp a b

-- meetings by organiser, then UID
abbrev pub meeting_cmp : Part → Part → Ordering
meeting_cmp a b = ordering_then (octets_cmp a.organiser b.organiser) (octets_cmp a.uid b.uid)

-- places by meeting, then slot
abbrev pub place_cmp : Part → Part → Ordering
place_cmp a b = ordering_then (meeting_cmp a b) (slot_cmp a.slot b.slot)

-- revisions by SEQUENCE, then DTSTAMP (RFC 5546 2.1.4, 2.1.5)
abbrev pub revision_cmp : Revision → Revision → Ordering
revision_cmp a b = ordering_then (nat_cmp a.sequence b.sequence) (int_cmp a.stamp b.stamp)

-- Set below Absent below Cancelled, and one Set below another by its octets; this profile's choice
abbrev pub body_cmp : Body → Body → Ordering
body_cmp (Set a) (Set b) = octets_cmp a b
body_cmp (Set a) Absent = Less
body_cmp (Set a) Cancelled = Less
body_cmp Absent (Set b) = Greater
body_cmp Absent Absent = Equal
body_cmp Absent Cancelled = Less
body_cmp Cancelled (Set b) = Greater
body_cmp Cancelled Absent = Greater
body_cmp Cancelled Cancelled = Equal

-- parts of one place by revision, then body
abbrev pub part_cmp : Part → Part → Ordering
part_cmp a b = ordering_then (revision_cmp a.revision b.revision) (body_cmp a.body b.body)

-- both are of one meeting
abbrev pub same_meeting : Part → Part → Bool
same_meeting a b = is_eq (meeting_cmp a b)

-- both are of one slot of one meeting
abbrev pub same_place : Part → Part → Bool
same_place a b = is_eq (place_cmp a b)

-- both are the same part
abbrev pub same_part : Part → Part → Bool
same_part a b = same_place a b && is_eq (part_cmp a b)

-- the part is of the whole meeting
abbrev pub is_whole : Part → Bool
is_whole part = is_eq (slot_cmp part.slot Whole)

-- the part cancels its slot
abbrev pub is_cancelled : Part → Bool
is_cancelled part = is_eq (body_cmp part.body Cancelled)

-- b holds where a does
abbrev pub implies : Bool → Bool → Bool
implies a b = not a || b

-- the part was taken, and no part of its place that was ever taken is greater
abbrev pub is_greatest : List Part → Part → Bool
is_greatest history part =
    list_any (λ taken. same_part taken part) history
    && list_all (λ taken. implies (same_place taken part) (is_le (part_cmp taken part))) history

-- the part's revision isn't below the Whole's, and is above it where the Whole is Cancelled
abbrev pub stays_beside : Part → Part → Bool
stays_beside whole part =
    is_gt (revision_cmp part.revision whole.revision)
    || (is_eq (revision_cmp part.revision whole.revision) && not (is_cancelled whole))

-- a Whole of its meeting leaves the part in the view; a Whole itself always stays
abbrev pub leaves_in_view : Part → Part → Bool
leaves_in_view whole part =
    is_whole part || implies (is_whole whole && same_meeting whole part) (stays_beside whole part)

-- the part is in the view of all taken: the greatest of its place, and an At allowed by the greatest Whole; this profile's choice
abbrev pub in_view : List Part → Part → Bool
in_view history part =
    is_greatest history part
    && list_all (λ whole. implies (is_greatest history whole) (leaves_in_view whole part)) history
