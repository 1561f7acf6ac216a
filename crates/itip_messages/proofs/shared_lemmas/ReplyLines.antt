-- The lines of the VEVENTs of a reply or a refresh: content lines, and properties.
-- Behind refreshes_are_heard of law, refreshes_read_back of law, replies_are_heard of law, replies_read_back of law, cancels_read_back of sent_law, requests_read_back of sent_law and 2 more.
use Rattle.std.proofs.Common.{◌≡◌, ◌∙◌, ℕ, true, List, [], ◌∷◌, ◌++◌, length, codes, decimal, refl, sym, ap₂, subst, arith, lt-ltb}
use Rattle.std.specs.List.{list_all, flat_map, Contains, AllZip}
use Rattle.std.proofs.lemmas.Bool.{and_from}
use Rattle.std.proofs.lemmas.List.Folds.{list_all-append}
use Rattle.profile.specs.text.Lines.{is_content}
use Rattle.profile.specs.text.Objects.{is_property}
use Rattle.profile.specs.rooms.Revisions.{Slot, Whole, At}
use Rattle.profile.specs.text.Values.{escaped}
use Rattle.profile.specs.rooms.Messages.{Outcome, Accept, Busy, SeriesLimit, SinglesLimit, TellsSlot, TellsOutcome, partstat}
use Rattle.itip_order.proofs.Lists.{in_head, in_tail}
use Rattle.itip_messages.specs.Law.{IsTextAddress, IsTextOutcome, IsAnswer, IsVevent}
use Rattle.ical_lines.proofs.CleanLines.{IsClean, is_shown, shown_append, clean_shown, shown_decimal, valued, fixed}
use Rattle.ical_values.proofs.ShownValues.{shown_stamp}
use Rattle.itip_messages.proofs.shared_lemmas.CleanText.{clean_address}
use Rattle.itip_messages.proofs.shared_lemmas.CleanUids.{clean_text}
use Rattle.itip_messages.proofs.shared_lemmas.ObjectTree.{Lines, vevent_lines}
use Rattle.itip_messages.proofs.shared_lemmas.ContentLines.{uid_line, sequence_line, stamp_line, organiser_line, accepted_line}
use Rattle.itip_messages.proofs.shared_lemmas.WordText.{shown_key}

-- content lines, and properties
pub record AreOwn (lines : Lines) : Type 0 where
  pub content : list_all is_content lines ≡ true
  pub properties : list_all is_property lines ≡ true

pub own_none : AreOwn []
own_none = record { content = refl; properties = refl }

pub own_more : (line : List ℕ) (lines : Lines) → is_content line ≡ true → is_property line ≡ true → AreOwn lines → AreOwn (line ∷ lines)
own_more line lines c p more = record { content = and_from _ _ c more.content; properties = and_from _ _ p more.properties }

pub own_both : (a b : Lines) → AreOwn a → AreOwn b → AreOwn (a ++ b)
own_both a b p q = record {
  content = list_all-append is_content a b ∙ and_from _ _ p.content q.content;
  properties = list_all-append is_property a b ∙ and_from _ _ p.properties q.properties;
}

-- ---- lines

slot_own : (slot : Slot) (lines : Lines) → TellsSlot slot lines → AreOwn lines
slot_own Whole lines e = subst AreOwn (sym e) own_none
slot_own (At t) lines (text, w, e) =
    let line : is_content (codes "RECURRENCE-ID:" ++ text) ≡ true = valued (codes "RECURRENCE-ID:") text (lt-ltb 13 (length (codes "RECURRENCE-ID:" ++ text)) (omega arith)) refl refl refl (clean_shown text (shown_stamp text t w)) in
    subst AreOwn (sym e) (own_more _ [] line refl own_none)

declined_line : (v : List ℕ) → IsClean v → is_content (codes "ATTENDEE;PARTSTAT=DECLINED:" ++ v) ≡ true
declined_line v c = valued (codes "ATTENDEE;PARTSTAT=DECLINED:") v (lt-ltb 26 (length (codes "ATTENDEE;PARTSTAT=DECLINED:" ++ v)) (omega arith)) refl refl refl c

-- the room's line, and the lines after it
room_own : (outcome : Outcome) (room : List ℕ) (lines : Lines) → IsClean room → AreOwn lines → AreOwn ((codes "ATTENDEE;PARTSTAT=" ++ partstat outcome ++ codes ":" ++ room) ∷ lines)
room_own Accept room lines c more = own_more (codes "ATTENDEE;PARTSTAT=ACCEPTED:" ++ room) lines (accepted_line room c) refl more
room_own (Busy a b t) room lines c more = own_more (codes "ATTENDEE;PARTSTAT=DECLINED:" ++ room) lines (declined_line room c) refl more
room_own SeriesLimit room lines c more = own_more (codes "ATTENDEE;PARTSTAT=DECLINED:" ++ room) lines (declined_line room c) refl more
room_own SinglesLimit room lines c more = own_more (codes "ATTENDEE;PARTSTAT=DECLINED:" ++ room) lines (declined_line room c) refl more

busy_line : (instant first second : List ℕ) → list_all is_shown instant ≡ true → list_all is_shown first ≡ true → list_all is_shown second ≡ true
    → is_content (codes "REQUEST-STATUS:4.1;Event conflict.  Date-time is busy.;" ++ instant ++ codes " " ++ first ++ codes " " ++ second) ≡ true
busy_line instant first second a b c =
    let head = codes "REQUEST-STATUS:4.1;Event conflict.  Date-time is busy.;" in
    let line = head ++ instant ++ codes " " ++ first ++ codes " " ++ second in
    fixed line (lt-ltb 14 (length line) (omega arith)) refl refl
    (shown_append (head ++ instant ++ codes " " ++ first ++ codes " ") second (shown_append (head ++ instant ++ codes " " ++ first) (codes " ") (shown_append (head ++ instant ++ codes " ") first (shown_append (head ++ instant) (codes " ") (shown_append head instant refl a) refl) b) refl) c)

status_own : (outcome : Outcome) (lines : Lines) → TellsOutcome outcome lines → IsTextOutcome outcome → AreOwn lines
status_own Accept lines e t =
    let line : is_content (codes "REQUEST-STATUS:2.0;Success") ≡ true = fixed (codes "REQUEST-STATUS:2.0;Success") refl refl refl refl in
    subst AreOwn (sym e) (own_more _ [] line refl own_none)
status_own (Busy a b t) lines (instant, first, second, w, k, l, e) texts =
    let line = busy_line instant first second (shown_stamp instant t w) (shown_key first a k texts.0.organiser texts.0.uid) (shown_key second b l texts.1.organiser texts.1.uid) in
    subst AreOwn (sym e) (own_more _ [] line refl own_none)
status_own SeriesLimit lines e t =
    let line : is_content (codes "X-ROOM-LIMIT:SERIES") ≡ true = fixed (codes "X-ROOM-LIMIT:SERIES") refl refl refl refl in
    subst AreOwn (sym e) (own_more _ [] line refl own_none)
status_own SinglesLimit lines e t =
    let line : is_content (codes "X-ROOM-LIMIT:SINGLES") ≡ true = fixed (codes "X-ROOM-LIMIT:SINGLES") refl refl refl refl in
    subst AreOwn (sym e) (own_more _ [] line refl own_none)

-- ---- VEVENTs

pub record OneRead (lines : Lines) : Type 0 where
  pub own : Lines
  pub are : IsVevent own lines
  pub good : AreOwn own

pub one_read : (room : List ℕ) (lines : Lines) → IsTextAddress room → IsAnswer room lines → OneRead lines
one_read room lines r a =
    let s = a.shows in
    let w = a.writable in
    let sequence = decimal a.part.revision.sequence in
    let after = room_own a.outcome room s.status (clean_address room r) (status_own a.outcome s.status s.tells_outcome w.keys) in
    let organised = own_more (codes "ORGANIZER:" ++ a.part.organiser) _ (organiser_line a.part.organiser (clean_address a.part.organiser w.organiser)) refl after in
    let stamped = own_more (codes "DTSTAMP:" ++ s.stamp) _ (stamp_line s.stamp (clean_shown s.stamp (shown_stamp s.stamp a.moment s.tells_moment))) refl organised in
    let numbered = own_more (codes "SEQUENCE:" ++ sequence) _ (sequence_line sequence (clean_shown sequence (shown_decimal a.part.revision.sequence (omega (arith, w.sequence))))) refl stamped in
    let slotted = own_both s.slot _ (slot_own a.part.slot s.slot s.tells_slot) numbered in
    record {
      own = _;
      are = s.is;
      good = own_more (codes "UID:" ++ escaped a.part.uid) _ (uid_line (escaped a.part.uid) (clean_text a.part.uid w.uid)) refl slotted;
    }

-- all VEVENTs
pub record AllRead (events : List Lines) : Type 0 where
  pub owns : List Lines
  pub each : AllZip IsVevent owns events
  pub are : flat_map (λ lines. lines) events ≡ flat_map vevent_lines owns
  pub properties : list_all (list_all is_property) owns ≡ true
  pub content : list_all (list_all is_content) owns ≡ true

none_read : AllRead []
none_read = record { owns = []; each = tt; are = refl; properties = refl; content = refl }

more_read : (lines : Lines) (events : List Lines) → OneRead lines → AllRead events → AllRead (lines ∷ events)
more_read lines events one rest = record {
  owns = one.own ∷ rest.owns;
  each = (one.are, rest.each);
  are = ap₂ (λ x y. x ++ y) one.are rest.are;
  properties = and_from _ _ one.good.properties rest.properties;
  content = and_from _ _ one.good.content rest.content;
}

-- one VEVENT alone
pub alone_read : (lines : Lines) → OneRead lines → AllRead (lines ∷ [])
alone_read lines one = more_read lines [] one none_read

pub all_read : (room : List ℕ) (events : List Lines) → IsTextAddress room → ((lines : Lines) → Contains events lines → IsAnswer room lines) → AllRead events
all_read room [] r f = none_read
all_read room (lines ∷ events) r f =
    more_read lines events (one_read room lines r (f lines (in_head lines events))) (all_read room events r (λ x c. f x (in_tail lines events x c)))
