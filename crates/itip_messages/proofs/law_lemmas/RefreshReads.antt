-- A refresh that was written reads back as one object, and its VEVENT says which meeting is asked for.
-- Cited by refreshes_read_back.
use Rattle.std.proofs.Common.{◌≡◌, ◌∙◌, ◌++◌, ◌∷◌, [], ℕ, ℤ, List, codes, Some, refl, sym, ap, subst, append-nil}
use Rattle.std.proofs.lemmas.List.{same_from_push}
use Rattle.profile.specs.text.Lines.{written}
use Rattle.profile.specs.text.Values.{IsUid, SpellsStamp, escaped}
use Rattle.profile.specs.rooms.Messages.{IsRefreshEvent, object_lines}
use Rattle.ical_lines.proofs.CleanLines.{clean_shown}
use Rattle.ical_values.proofs.Escapes.{read_back}
use Rattle.ical_values.proofs.Readings.{stamp_written}
use Rattle.ical_values.proofs.ShownValues.{shown_stamp}
use Rattle.itip_messages.specs.Law.{IsTextAddress, IsTextValue, IsReadAddress, IsVevent, ReadsAs, SaysRefresh}
use Rattle.itip_messages.proofs.law_lemmas.AnswerReads.{tail_of}
use Rattle.itip_messages.proofs.shared_lemmas.CleanText.{clean_address}
use Rattle.itip_messages.proofs.shared_lemmas.CleanUids.{clean_text}
use Rattle.itip_messages.proofs.shared_lemmas.ObjectTree.{Lines}
use Rattle.itip_messages.proofs.shared_lemmas.ContentLines.{LinesBack, ReadsLines, refresh_method, uid_line, stamp_line, organiser_line, attendee_line}
use Rattle.itip_messages.proofs.shared_lemmas.ReplyLines.{OneRead, own_none, own_more, alone_read}
use Rattle.itip_messages.proofs.law_lemmas.ReplyReads.{object_reads}

-- the VEVENT's own lines
abbrev asked : (room organiser uid stamp : List ℕ) → Lines
asked room organiser uid stamp = (codes "UID:" ++ escaped uid) ∷ (codes "DTSTAMP:" ++ stamp) ∷ (codes "ORGANIZER:" ++ organiser) ∷ (codes "ATTENDEE:" ++ room) ∷ []

pub event_read : (room organiser uid : List ℕ) (moment : ℤ) (lines : Lines) → IsTextAddress room → IsTextAddress organiser → IsTextValue uid → IsRefreshEvent room organiser uid moment lines → OneRead lines
event_read room organiser uid moment lines r o u e =
    let attendee = own_more (codes "ATTENDEE:" ++ room) [] (attendee_line room (clean_address room r)) refl own_none in
    let organised = own_more (codes "ORGANIZER:" ++ organiser) _ (organiser_line organiser (clean_address organiser o)) refl attendee in
    let stamped = own_more (codes "DTSTAMP:" ++ e.stamp) _ (stamp_line e.stamp (clean_shown e.stamp (shown_stamp e.stamp moment e.tells_moment))) refl organised in
    record {
      own = asked room organiser uid e.stamp;
      are = e.is;
      good = own_more (codes "UID:" ++ escaped uid) _ (uid_line (escaped uid) (clean_text uid u)) refl stamped;
    }

pub refresh_reads : LinesBack → ReadsLines → (room organiser uid : List ℕ) (moment : ℤ) (lines : Lines) (octets : List ℕ) → IsTextAddress room → IsTextAddress organiser → IsTextValue uid
    → IsRefreshEvent room organiser uid moment lines → octets ≡ written (object_lines (Some (codes "REFRESH")) lines) → ReadsAs (codes "REFRESH") octets (lines ∷ [])
refresh_reads back reads room organiser uid moment lines octets r o u e is =
    object_reads back reads (codes "REFRESH") (lines ∷ []) octets refresh_method (alone_read lines (event_read room organiser uid moment lines r o u e)) refl
    (is ∙ ap (λ (l : Lines). written (object_lines (Some (codes "REFRESH")) l)) (sym (append-nil lines)))

own_says : (room organiser uid stamp : List ℕ) (moment : ℤ) → IsReadAddress room → IsReadAddress organiser → IsUid uid → SpellsStamp stamp moment
    → SaysRefresh room organiser uid moment (asked room organiser uid stamp)
own_says room organiser uid stamp moment home of_it is_uid at = record {
  uid_line = record { line = Some (codes "UID:" ++ escaped uid); once = refl; present = λ _. refl; is = (sym (read_back uid), is_uid) };
  organiser_line = record { line = Some (codes "ORGANIZER:" ++ organiser); once = refl; present = λ _. refl; is = (of_it.address, sym of_it.lower) };
  stamp = record { line = Some (codes "DTSTAMP:" ++ stamp); once = refl; present = λ _. refl; is = at };
  attendees = (record { address = (home.address, sym home.lower); participation = refl; scheduled = refl }, tt);
}

pub refresh_says : (room organiser uid : List ℕ) (moment : ℤ) (lines own : Lines) → IsReadAddress room → IsReadAddress organiser → IsUid uid
    → IsRefreshEvent room organiser uid moment lines → IsVevent own lines → SaysRefresh room organiser uid moment own
refresh_says room organiser uid moment lines own home of_it is_uid e v =
    let is = (same_from_push (asked room organiser uid e.stamp) own (codes "END:VEVENT") (codes "END:VEVENT") (tail_of (codes "BEGIN:VEVENT") (codes "BEGIN:VEVENT") _ _ (sym e.is ∙ v))).0 in
    subst (SaysRefresh room organiser uid moment) is (own_says room organiser uid e.stamp moment home of_it is_uid (stamp_written e.stamp moment e.tells_moment))
