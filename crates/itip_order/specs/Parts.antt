-- This crate's parts, seen as the profile's parts.
use Rattle.std.specs.Prelude.{List, map}
use Rattle.ical_values.specs.Octets.{address_octets, text_octets}
use Rattle.itip_order.specs.declared.part.Slot.{Slot}
use Rattle.itip_order.specs.declared.part.Slot.TheVariants.{Whole, At}
use Rattle.itip_order.specs.declared.part.Revision.{Revision}
use Rattle.itip_order.specs.declared.part.Body.{Body}
use Rattle.itip_order.specs.declared.part.Body.TheVariants.{Set, Absent, Cancelled}
use Rattle.itip_order.specs.declared.part.Part.{Part}
use Rattle.profile.specs.rooms.Revisions as revisions

abbrev pub slot_of : Slot → revisions.Slot
slot_of Whole = revisions.Whole
slot_of (At instant) = revisions.At instant

abbrev pub revision_of : Revision → revisions.Revision
revision_of revision = record { sequence = revision.sequence; stamp = revision.stamp }

abbrev pub body_of : Body → revisions.Body
body_of (Set octets) = revisions.Set octets.items
body_of Absent = revisions.Absent
body_of Cancelled = revisions.Cancelled

abbrev pub part_of : Part → revisions.Part
part_of part = record {
  organiser = address_octets part.organiser;
  uid = text_octets part.uid;
  slot = slot_of part.slot;
  revision = revision_of part.revision;
  body = body_of part.body;
}

-- a list of parts
abbrev pub parts_of : List Part → List revisions.Part
parts_of parts = map part_of parts
