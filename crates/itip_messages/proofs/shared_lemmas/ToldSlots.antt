-- RECURRENCE-ID, as it is written and read.
-- Behind requests_read_back, shown_reads_back, and the laws of a kept calendar of room_books.
use Rattle.std.proofs.Common.{◌≡◌, refl, ℕ, ℤ, List, Option, Some, None}
use Rattle.profile.specs.rooms.Messages.{TellsSlot, slot_named}
use Rattle.cal_events.specs.MeetingComponents.{IsInEventDates}
use Rattle.ical_lines.proofs.CleanLines.{clean_shown}
use Rattle.ical_values.proofs.Readings.{stamp_written}
use Rattle.ical_values.proofs.ShownValues.{shown_stamp}
use Rattle.itip_messages.proofs.shared_lemmas.ObjectTree.{Lines}
use Rattle.itip_messages.proofs.shared_lemmas.OwnLines.{SpellSlot, slot_lines}
use Rattle.itip_messages.proofs.shared_lemmas.OwnWhen.{IsCleanSlot}

-- the lines are RECURRENCE-ID of a start that is named, or none
pub record SlotTold (recurrence : Option ℤ) (lines : Lines) : Type 0 where
  pub text : Option (List ℕ)
  pub are : lines ≡ slot_lines text
  pub spells : SpellSlot text recurrence
  pub clean : IsCleanSlot text

pub slot_told : (o : Option ℤ) (lines : Lines) → TellsSlot (slot_named o) lines → ((t : ℤ) → o ≡ Some t → IsInEventDates t) → SlotTold o lines
slot_told None lines e dated = record { text = None; are = e; spells = tt; clean = tt }
slot_told (Some t) lines (text, w, e) dated = record {
  text = Some text;
  are = e;
  spells = (stamp_written text t w, dated t refl);
  clean = clean_shown text (shown_stamp text t w);
}
