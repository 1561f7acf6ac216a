-- The lines of a kept VEVENT that hides an instance are content lines, and properties.
-- Behind answers_stay, kept_texts_pass, kept_texts_spell, served_texts_pass.
use Rattle.std.proofs.Common.{◌≡◌, ℕ, true, List, ◌++◌, length, codes, refl, arith, lt-ltb}
use Rattle.std.specs.List.{list_all}
use Rattle.std.proofs.lemmas.Bool.{and_from}
use Rattle.profile.specs.text.Lines.{is_content}
use Rattle.profile.specs.text.Objects.{is_property}
use Rattle.ical_lines.proofs.CleanLines.{IsClean, clean_shown, valued, start_line}
use Rattle.itip_messages.proofs.shared_lemmas.ContentLines.{uid_line, sequence_line, stamp_line, organiser_line}
use Rattle.room_books.proofs.laws_lemmas.KeptEvents.{hidden_own}

duration_line : (v : List ℕ) → IsClean v → is_content (codes "DURATION:" ++ v) ≡ true
duration_line v c = valued (codes "DURATION:") v (lt-ltb 8 (length (codes "DURATION:" ++ v)) (omega arith)) refl refl refl c

recurrence_line : (v : List ℕ) → IsClean v → is_content (codes "RECURRENCE-ID:" ++ v) ≡ true
recurrence_line v c = valued (codes "RECURRENCE-ID:") v (lt-ltb 13 (length (codes "RECURRENCE-ID:" ++ v)) (omega arith)) refl refl refl c

declined_line : (v : List ℕ) → IsClean v → is_content (codes "ATTENDEE;PARTSTAT=DECLINED:" ++ v) ≡ true
declined_line v c = valued (codes "ATTENDEE;PARTSTAT=DECLINED:") v (lt-ltb 26 (length (codes "ATTENDEE;PARTSTAT=DECLINED:" ++ v)) (omega arith)) refl refl refl c

status_line : is_content (codes "STATUS:CANCELLED") ≡ true
status_line = valued (codes "STATUS:") (codes "CANCELLED") refl refl refl refl (clean_shown (codes "CANCELLED") refl)

pub hidden_content : (uid recurrence sequence stamp start organiser room : List ℕ) → IsClean uid → IsClean recurrence → IsClean sequence → IsClean stamp → IsClean start → IsClean organiser → IsClean room
    → list_all is_content (hidden_own uid recurrence sequence stamp start organiser room) ≡ true
hidden_content uid recurrence sequence stamp start organiser room u r n s t o a =
    and_from _ _ (uid_line uid u) (and_from _ _ (recurrence_line recurrence r) (and_from _ _ (sequence_line sequence n) (and_from _ _ (stamp_line stamp s) (and_from _ _ (start_line start t)
    (and_from _ _ (duration_line (codes "PT0S") (clean_shown (codes "PT0S") refl)) (and_from _ _ status_line (and_from _ _ (organiser_line organiser o) (and_from _ _ (declined_line room a) refl))))))))

pub hidden_properties : (uid recurrence sequence stamp start organiser room : List ℕ) → list_all is_property (hidden_own uid recurrence sequence stamp start organiser room) ≡ true
hidden_properties uid recurrence sequence stamp start organiser room = refl
