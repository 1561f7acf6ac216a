-- The times of a kept VEVENT that are added and taken away are those of the event that it is kept of, as far as they count.
-- Behind answers_stay, kept_texts_pass, kept_texts_spell, served_texts_pass.
use Rattle.std.proofs.Common.{refl, subst, ℕ, List, Some}
use Rattle.std.specs.Prelude.{Contains}
use Rattle.std.specs.List.{AllZip}
use Rattle.profile.specs.text.Trees.{Tree}
use Rattle.profile.specs.events.EventComponents.{AreOfWritten, EventComponent, Method, Store, Request, Add, Cancel, Reply, Refresh, SaysEventComponent}
use Rattle.profile.specs.events.Events.{as_added, taken_by}
use Rattle.profile.specs.events.Occurrences.{Time}
use Rattle.profile.specs.rooms.Messages.{WritesListed}
use Rattle.cal_events.proofs.shared_lemmas.InOneOrder.{of_mapped}
use Rattle.cal_events.proofs.shared_lemmas.SeriesLemmas.{zip_back}
use Rattle.itip_messages.proofs.body_lemmas.TimeLists.{back_times}
use Rattle.itip_messages.proofs.sent_law_lemmas.SentContents.{again_same}
use Rattle.itip_messages.proofs.shared_lemmas.ObjectTree.{Lines}
use Rattle.room_books.proofs.laws_lemmas.PlacedTwice.{SameTimes}

-- what is written in lines and read back has the same instants of each form
pub back_same : (name : List ℕ) (times : List Time) (lines : Lines) (w : WritesListed name times lines) → SameTimes times (back_times name times lines w)
back_same name times lines w =
    again_same times (back_times name times lines w)
    (record { fixed = w.in_utc.ascending; floating = w.local.ascending; days = w.dates.ascending; in_utc = w.in_utc.are; local = w.local.are; dates = w.dates.are; are = refl })

-- ---- the event of a message

-- its instants are those of what is written
abbrev pub IsAsWritten : EventComponent → Type 0
IsAsWritten event = AreOfWritten event.written event.recurrence event.additions event.exceptions

pub taken_written : (object : Tree) (method : Method) (vs : List Lines) (events : List EventComponent) (e : EventComponent) → AllZip (SaysEventComponent object (Some method)) vs events → Contains (taken_by (Some method) events) e → IsAsWritten e
taken_written object Store vs events e z c = (zip_back (SaysEventComponent object (Some Store)) vs events e z c).2.instants
taken_written object Request vs events e z c = (zip_back (SaysEventComponent object (Some Request)) vs events e z c).2.instants
taken_written object Cancel vs events e z c = (zip_back (SaysEventComponent object (Some Cancel)) vs events e z c).2.instants
taken_written object Reply vs events e z c = (zip_back (SaysEventComponent object (Some Reply)) vs events e z c).2.instants
taken_written object Refresh vs events e z c = (zip_back (SaysEventComponent object (Some Refresh)) vs events e z c).2.instants
taken_written object Add vs events e z c =
    let x = of_mapped as_added events e c in
    let said = (zip_back (SaysEventComponent object (Some Add)) vs events x.0 z x.1).2.instants in
    subst IsAsWritten x.2 (record { slot = refl; added = said.added; taken = said.taken })
