-- What the lines of a kept VEVENT say whose start may be in a zone, and that has lists: the event again, for the room alone, which has accepted.
-- Behind answers_stay, kept_texts_pass, kept_texts_spell, served_texts_pass.
use Rattle.std.proofs.Common.{◌≡◌, refl, sym, ℕ, ℤ, true, false, cond, List, [], ◌∷◌, ◌++◌, codes, Option, None}
use Rattle.profile.specs.text.Trees.{Tree}
use Rattle.profile.specs.text.Values.{SpellsStamp, SpellsSequence, unescaped, IsAddress, IsUid, lower_case}
use Rattle.profile.specs.events.EventComponents.{Accepted, EventComponent, SaysEventComponent}
use Rattle.profile.specs.events.Occurrences.{Time}
use Rattle.profile.specs.events.Properties.{lines_named}
use Rattle.profile.specs.rooms.Revisions.{Revision}
use Rattle.profile.specs.series.Rules.{Rule}
use Rattle.ical_lines.proofs.CleanLines.{IsClean}
use Rattle.itip_messages.proofs.body_lemmas.TimeLists.{back_times}
use Rattle.itip_messages.proofs.shared_lemmas.ContentLines.{accepted_line, organiser_line}
use Rattle.itip_messages.proofs.shared_lemmas.ObjectTree.{Lines}
use Rattle.itip_messages.proofs.shared_lemmas.OwnLines.{IsBehind, IsElsewhere, SpellSlot, SpellWhen, as_event, event_again, own_says, when_lines}
use Rattle.itip_messages.proofs.shared_lemmas.OwnLines as lines
use Rattle.itip_messages.proofs.shared_lemmas.OwnWhen.{IsCleanSlot, are_own}
use Rattle.itip_messages.proofs.shared_lemmas.ReplyLines.{AreOwn, own_more, own_none}
use Rattle.itip_messages.proofs.shared_lemmas.ZonedStarts.{MeansZone}

-- what comes after the lines that say when it is
abbrev pub own_back : (organiser room : List ℕ) → Lines
own_back organiser room = (codes "ORGANIZER:" ++ organiser) ∷ (codes "ATTENDEE;PARTSTAT=ACCEPTED:" ++ room) ∷ []

-- the own lines
abbrev pub own_lines : (recurrence : Option (List ℕ)) (uid sequence stamp : List ℕ) (when : Lines) (organiser room : List ℕ) → Lines
own_lines recurrence uid sequence stamp when organiser room = lines.own_lines recurrence uid sequence stamp when (own_back organiser room)

-- the event that is kept of a message's, with these times
abbrev pub zoned_event : EventComponent → Option ℤ → ℕ → List ℕ → ℤ → List ℕ → Option Rule → List Time → List Time → EventComponent
zoned_event event recurrence sequence organiser stamp room rule additions exceptions =
    event_again event recurrence organiser (record { sequence = sequence; stamp = stamp }) rule additions exceptions false [] (record { address = room; participation = Accepted; scheduled = true } ∷ [])

-- which part it is
pub record SpellPart (uid_is : List ℕ) (number : ℕ) (uid sequence stamp organiser room : List ℕ) (stamped : ℤ) : Type 0 where
  pub uid_there : uid_is ≡ unescaped uid
  pub is_uid : IsUid uid_is
  pub numbered : SpellsSequence sequence number
  pub stamped_is : SpellsStamp stamp stamped
  pub organised : IsAddress organiser
  pub lower : lower_case organiser ≡ organiser
  pub addressed : IsAddress room
  pub room_lower : lower_case room ≡ room

-- ---- after what says when it is

elsewhere_none : (other organiser room : List ℕ) → IsElsewhere other → lines_named other (own_back organiser room) ≡ []
elsewhere_none other organiser room e = λ i. cond (e.organiser organiser i) ((codes "ORGANIZER:" ++ organiser) ∷ attendee i) (attendee i)
  where
    attendee : lines_named other ((codes "ATTENDEE;PARTSTAT=ACCEPTED:" ++ room) ∷ []) ≡ []
    attendee = λ i. cond (e.attendee i) ((codes "ATTENDEE;PARTSTAT=ACCEPTED:" ++ room) ∷ []) []

room_behind : (organiser room : List ℕ) → IsAddress room → lower_case room ≡ room → IsBehind (own_back organiser room) organiser false [] (record { address = room; participation = Accepted; scheduled = true } ∷ [])
room_behind organiser room address lower = record {
  elsewhere = λ other e. elsewhere_none other organiser room e;
  organised = refl;
  status = (None, refl, refl);
  summary = refl;
  attendees = (record { address = (address, sym lower); participation = refl; scheduled = refl }, tt);
}

room_own : (organiser room : List ℕ) → IsClean organiser → IsClean room → AreOwn (own_back organiser room)
room_own organiser room o r = own_more (codes "ORGANIZER:" ++ organiser) _ (organiser_line organiser o) refl (own_more (codes "ATTENDEE;PARTSTAT=ACCEPTED:" ++ room) [] (accepted_line room r) refl own_none)

-- ---- what they say, and what lines they are

module _ (name : List ℕ) (event : EventComponent) (recurrence : Option (List ℕ)) (slot : Option ℤ) (number : ℕ) (uid sequence stamp start duration organiser room : List ℕ) (stamped : ℤ) (rules additions exceptions : Lines) (back : Option Rule) (added taken : List Time)
    (s : SpellPart event.uid number uid sequence stamp organiser room stamped) (w : SpellWhen name event slot start duration rules additions exceptions back added taken) where
  pub zoned_says : SpellSlot recurrence slot → (object : Tree) → MeansZone object name event.times.zone
      → SaysEventComponent object None (own_lines recurrence uid sequence stamp (when_lines start duration rules additions exceptions) organiser room) (zoned_event event slot number organiser stamped room back (back_times (codes "RDATE") added additions w.adds) (back_times (codes "EXDATE") taken exceptions w.takes))
  zoned_says spells object m =
      let revision : Revision = record { sequence = number; stamp = stamped } in
      let whose : lines.SpellPart event.uid revision uid sequence stamp organiser = record { uid_there = s.uid_there; is_uid = s.is_uid; numbered = s.numbered; stamped_is = s.stamped_is; organised = s.organised; lower = s.lower } in
      as_event object _ _
      (own_says name event recurrence slot revision uid sequence stamp start duration organiser (own_back organiser room) false [] _ rules additions exceptions back added taken whose (room_behind organiser room s.addressed s.room_lower) w spells object m)

  pub zoned_own : IsCleanSlot recurrence → IsClean uid → IsClean sequence → IsClean stamp → IsClean duration → IsClean organiser → IsClean room
      → AreOwn (own_lines recurrence uid sequence stamp (when_lines start duration rules additions exceptions) organiser room)
  zoned_own r u n t d o a = are_own name event slot start duration rules additions exceptions back added taken w recurrence uid sequence stamp (own_back organiser room) r u n t d (room_own organiser room o a)
