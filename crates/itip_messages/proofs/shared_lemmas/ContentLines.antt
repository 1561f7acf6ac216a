-- Lines that are written from clean texts are content lines, and so are those of the object around some VEVENTs.
-- Behind refreshes_are_heard of law, refreshes_read_back of law, replies_are_heard of law, replies_read_back of law, cancels_read_back of sent_law, requests_read_back of sent_law and 2 more.
use Rattle.std.proofs.Common.{◌≡◌, ◌∙◌, ℕ, true, false, List, [], ◌∷◌, ◌++◌, length, codes, Option, None, Some, refl, arith, lt-ltb}
use Rattle.std.specs.List.{list_all, flat_map}
use Rattle.std.proofs.lemmas.Bool.{and_from, and_parts}
use Rattle.std.proofs.lemmas.List.Folds.{list_all-append}
use Rattle.profile.specs.text.Lines.{is_content, folded, logical_lines, reads_as_lines}
use Rattle.profile.specs.rooms.Messages.{method_lines, object_lines}
use Rattle.ical_lines.proofs.CleanLines.{IsClean, valued, fixed}
use Rattle.itip_messages.proofs.shared_lemmas.ObjectTree.{Lines, vevent_lines}

-- ---- the lines of an event

pub uid_line : (v : List ℕ) → IsClean v → is_content (codes "UID:" ++ v) ≡ true
uid_line v c = valued (codes "UID:") v (lt-ltb 3 (length (codes "UID:" ++ v)) (omega arith)) refl refl refl c

pub sequence_line : (v : List ℕ) → IsClean v → is_content (codes "SEQUENCE:" ++ v) ≡ true
sequence_line v c = valued (codes "SEQUENCE:") v (lt-ltb 8 (length (codes "SEQUENCE:" ++ v)) (omega arith)) refl refl refl c

pub stamp_line : (v : List ℕ) → IsClean v → is_content (codes "DTSTAMP:" ++ v) ≡ true
stamp_line v c = valued (codes "DTSTAMP:") v (lt-ltb 7 (length (codes "DTSTAMP:" ++ v)) (omega arith)) refl refl refl c

pub organiser_line : (v : List ℕ) → IsClean v → is_content (codes "ORGANIZER:" ++ v) ≡ true
organiser_line v c = valued (codes "ORGANIZER:") v (lt-ltb 9 (length (codes "ORGANIZER:" ++ v)) (omega arith)) refl refl refl c

pub accepted_line : (v : List ℕ) → IsClean v → is_content (codes "ATTENDEE;PARTSTAT=ACCEPTED:" ++ v) ≡ true
accepted_line v c = valued (codes "ATTENDEE;PARTSTAT=ACCEPTED:") v (lt-ltb 26 (length (codes "ATTENDEE;PARTSTAT=ACCEPTED:" ++ v)) (omega arith)) refl refl refl c

pub attendee_line : (v : List ℕ) → IsClean v → is_content (codes "ATTENDEE:" ++ v) ≡ true
attendee_line v c = valued (codes "ATTENDEE:") v (lt-ltb 8 (length (codes "ATTENDEE:" ++ v)) (omega arith)) refl refl refl c

-- ---- the lines of an object

pub vevents_content : (owns : List Lines) → list_all (list_all is_content) owns ≡ true → list_all is_content (flat_map vevent_lines owns) ≡ true
vevents_content [] h = refl
vevents_content (own ∷ owns) h =
    let both = and_parts (list_all is_content own) (list_all (list_all is_content) owns) h in
    let begin : is_content (codes "BEGIN:VEVENT") ≡ true = fixed (codes "BEGIN:VEVENT") refl refl refl refl in
    let end : is_content (codes "END:VEVENT") ≡ true = fixed (codes "END:VEVENT") refl refl refl refl in
    list_all-append is_content (vevent_lines own) (flat_map vevent_lines owns)
    ∙ and_from _ _ (and_from _ _ begin (list_all-append is_content own (codes "END:VEVENT" ∷ []) ∙ and_from _ _ both.0 (and_from _ _ end refl))) (vevents_content owns both.1)

-- what lines read back as that were written one after another
abbrev pub LinesBack : Type 0
LinesBack = (lines : Lines) → list_all is_content lines ≡ true → logical_lines (flat_map folded lines) ≡ lines

abbrev pub ReadsLines : Type 0
ReadsLines = (lines : Lines) → list_all is_content lines ≡ true → reads_as_lines false (flat_map folded lines) ≡ true

-- the METHOD line, where there is one, is a content line
abbrev pub IsMethod : Option (List ℕ) → Type 0
IsMethod method = list_all is_content (method_lines method) ≡ true

pub no_method : IsMethod None
no_method = refl

pub reply_method : IsMethod (Some (codes "REPLY"))
reply_method = let m : is_content (codes "METHOD:REPLY") ≡ true = fixed (codes "METHOD:REPLY") refl refl refl refl in and_from _ _ m refl

pub refresh_method : IsMethod (Some (codes "REFRESH"))
refresh_method = let m : is_content (codes "METHOD:REFRESH") ≡ true = fixed (codes "METHOD:REFRESH") refl refl refl refl in and_from _ _ m refl

pub object_content : (method : Option (List ℕ)) (owns : List Lines) → IsMethod method → list_all (list_all is_content) owns ≡ true → list_all is_content (object_lines method (flat_map vevent_lines owns)) ≡ true
object_content method owns m h =
    let a : is_content (codes "BEGIN:VCALENDAR") ≡ true = fixed (codes "BEGIN:VCALENDAR") refl refl refl refl in
    let b : is_content (codes "VERSION:2.0") ≡ true = fixed (codes "VERSION:2.0") refl refl refl refl in
    let c : is_content (codes "PRODID:-//iTIP room box//EN") ≡ true = fixed (codes "PRODID:-//iTIP room box//EN") refl refl refl refl in
    let e : is_content (codes "END:VCALENDAR") ≡ true = fixed (codes "END:VCALENDAR") refl refl refl refl in
    let inner : list_all is_content (method_lines method ++ flat_map vevent_lines owns) ≡ true = list_all-append is_content (method_lines method) (flat_map vevent_lines owns) ∙ and_from _ _ m (vevents_content owns h) in
    and_from _ _ a (and_from _ _ b (and_from _ _ c (list_all-append is_content (method_lines method ++ flat_map vevent_lines owns) (codes "END:VCALENDAR" ∷ []) ∙ and_from _ _ inner (and_from _ _ e refl))))
