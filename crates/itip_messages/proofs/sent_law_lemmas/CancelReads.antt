-- A CANCEL that was written spells a message of one VEVENT, and says to each attendee that the whole meeting is cancelled.
-- Cited by cancels_read_back.
use Rattle.std.proofs.Common.{◌≡◌, ◌∙◌, ℕ, suc, Bool, true, false, ◌&&◌, ◌||◌, cond, List, [], ◌∷◌, ◌++◌, length, map, codes, decimal, None, Some, refl, sym, ap, subst, arith, inl, inr, append-nil}
use Rattle.std.specs.Prelude.{◌==◌, AllPairs, Contains, Option}
use Rattle.std.specs.List.{list_any, flat_map, AllZip}
use Rattle.std.specs.declared.cmp.Ordering.TheVariants.{Less}
use Rattle.std.specs.Ordering.{is_le, is_lt}
use Rattle.std.specs.Str.{bytes_eq}
use Rattle.std.proofs.lemmas.Bool.{and_from, or_from, false≢true}
use Rattle.std.proofs.lemmas.Bool.Decides.{nat_tests}
use Rattle.std.proofs.lemmas.Cmp.{tied_itself}
use Rattle.std.proofs.lemmas.Slice.Eq.{bytes_eq-Decides}
use Rattle.profile.specs.text.Lines.{is_content, is_too_long, logical_lines, reads_as_lines, written}
use Rattle.profile.specs.text.Objects.{IsObject}
use Rattle.profile.specs.text.Trees.{Tree}
use Rattle.profile.specs.text.Values.{SpellsStamp, escaped}
use Rattle.profile.specs.events.EventComponents.{EventComponent, IsAttendee, SaysEventComponent, Cancel, first_text, meeting_said}
use Rattle.profile.specs.events.EventRules.{GivesBeside}
use Rattle.profile.specs.events.Occurrences.{SaysStatus, IsInside, Lists, entries_of}
use Rattle.profile.specs.events.Properties.{is_of, lines_named}
use Rattle.profile.specs.rooms.Messages.{AreGreatest, AreParts, Content, IsPart, is_for, later_of, no_content, object_lines, parts_for}
use Rattle.profile.specs.events.Messages.{SpellsMessage}
use Rattle.profile.specs.rooms.Revisions.{Part, Revision, revision_cmp, slot_cmp}
use Rattle.profile.specs.series.Zones.{Zone}
use Rattle.profile.specs.organisers.Sent.{IsCancel, status_lines}
use Rattle.ical_lines.proofs.CleanLines.{clean_shown, shown_decimal, fixed}
use Rattle.ical_values.proofs.Escapes.{read_back}
use Rattle.ical_values.proofs.Readings.{stamp_written, sequence_written}
use Rattle.ical_values.proofs.ShownValues.{shown_stamp}
use Rattle.itip_order.proofs.Lists.{in_cons, in_head, in_tail, none_in_nil}
use Rattle.itip_order.proofs.Order.{part_total}
use Rattle.itip_messages.specs.SentLaw.{IsSentAddress, IsSentName, attendee_at, cancel_event, cancel_message, cancel_part}
use Rattle.itip_messages.proofs.shared_lemmas.CleanText.{clean_address}
use Rattle.itip_messages.proofs.shared_lemmas.CleanUids.{clean_text}
use Rattle.itip_messages.proofs.shared_lemmas.ObjectTree.{Lines, vevent_lines, calendar_tree, object_spelled}
use Rattle.itip_messages.proofs.shared_lemmas.ContentLines.{LinesBack, ReadsLines, IsMethod, object_content, uid_line, sequence_line, stamp_line, organiser_line, attendee_line}
use Rattle.itip_messages.proofs.shared_lemmas.SentTexts.{bounded_reads, none_passes, status_own, text_of}
use Rattle.itip_messages.proofs.shared_lemmas.ReplyLines.{AreOwn, own_none, own_more, own_both}

-- ---- the lines of attendees

abbrev line_of : List ℕ → List ℕ
line_of address = codes "ATTENDEE:" ++ address

abbrev lines_of : List (List ℕ) → Lines
lines_of to = map line_of to

all_named : (to : List (List ℕ)) → lines_named (codes "ATTENDEE") (lines_of to) ≡ lines_of to
all_named [] = refl
all_named (a ∷ to) = ap (λ l. line_of a ∷ l) (all_named to)

none_named : (other : List ℕ) → ((v : List ℕ) → is_of other (codes "ATTENDEE:" ++ v) ≡ false) → (to : List (List ℕ)) → lines_named other (lines_of to) ≡ []
none_named other f [] = refl
none_named other f (a ∷ to) = ap (λ b. cond b (line_of a ∷ lines_named other (lines_of to)) (lines_named other (lines_of to))) (f a) ∙ none_named other f to

abbrev Sendable : List (List ℕ) → Type 0
Sendable to = (address : List ℕ) → Contains to address → IsSentAddress address

all_say : (to : List (List ℕ)) → Sendable to → AllZip IsAttendee (lines_of to) (map attendee_at to)
all_say [] f = tt
all_say (a ∷ to) f =
    let here = (f a (in_head a to)).read in
    (record { address = (here.address, sym here.lower); participation = refl; scheduled = refl }, all_say to (λ x c. f x (in_tail a to x c)))

all_own : (to : List (List ℕ)) → Sendable to → AreOwn (lines_of to)
all_own [] f = own_none
all_own (a ∷ to) f = own_more (line_of a) (lines_of to) (attendee_line a (clean_address a (text_of a (f a (in_head a to))))) refl (all_own to (λ x c. f x (in_tail a to x c)))

-- ---- the own lines of the VEVENT

abbrev own_lines : (organiser uid : List ℕ) → ℕ → List ℕ → Bool → List (List ℕ) → Lines
own_lines organiser uid sequence stamp called_off to =
    (codes "UID:" ++ escaped uid) ∷ (codes "SEQUENCE:" ++ decimal sequence) ∷ (codes "DTSTAMP:" ++ stamp)
    ∷ (status_lines called_off ++ ((codes "ORGANIZER:" ++ organiser) ∷ lines_of to))

-- they are content lines, and properties
are_own : (organiser uid : List ℕ) (revision : Revision) (called_off : Bool) (to : List (List ℕ)) (stamp : List ℕ) → IsSentName organiser uid revision → Sendable to → SpellsStamp stamp revision.stamp → AreOwn ((codes "DTSTAMP:" ++ stamp) ∷ [])
    → AreOwn (own_lines organiser uid revision.sequence stamp called_off to)
are_own organiser uid revision called_off to stamp n f w dated =
    let sequence = decimal revision.sequence in
    let organised = own_more (codes "ORGANIZER:" ++ organiser) (lines_of to) (organiser_line organiser (clean_address organiser (text_of organiser n.address))) refl (all_own to f) in
    let after = own_both (status_lines called_off) _ (status_own called_off) organised in
    let stamped = own_both ((codes "DTSTAMP:" ++ stamp) ∷ []) _ dated after in
    let numbered = own_more (codes "SEQUENCE:" ++ sequence) _ (sequence_line sequence (clean_shown sequence (shown_decimal revision.sequence (omega (arith, n.small))))) refl stamped in
    own_more (codes "UID:" ++ escaped uid) _ (uid_line (escaped uid) (clean_text uid n.text)) refl numbered

-- ---- what they say

module _ (organiser uid : List ℕ) (revision : Revision) (to : List (List ℕ)) (stamp : List ℕ) (n : IsSentName organiser uid revision) (f : Sendable to) (at : SpellsStamp stamp revision.stamp) (object : Tree) where
  abbrev own : Bool → Lines
  own called_off = own_lines organiser uid revision.sequence stamp called_off to

  abbrev said : Bool → EventComponent
  said called_off = cancel_event organiser uid revision called_off to

  -- what is named nowhere in the lines
  record Lacks (called_off : Bool) : Type 0 where
    start : lines_named (codes "DTSTART") (own called_off) ≡ []
    end : lines_named (codes "DTEND") (own called_off) ≡ []
    duration : lines_named (codes "DURATION") (own called_off) ≡ []
    rule : lines_named (codes "RRULE") (own called_off) ≡ []
    recurrence : lines_named (codes "RECURRENCE-ID") (own called_off) ≡ []
    additions : lines_named (codes "RDATE") (own called_off) ≡ []
    exceptions : lines_named (codes "EXDATE") (own called_off) ≡ []
    summary : lines_named (codes "SUMMARY") (own called_off) ≡ []

  lacks : (called_off : Bool) → Lacks called_off
  lacks true = record {
    start = none_named (codes "DTSTART") (λ v. refl) to;
    end = none_named (codes "DTEND") (λ v. refl) to;
    duration = none_named (codes "DURATION") (λ v. refl) to;
    rule = none_named (codes "RRULE") (λ v. refl) to;
    recurrence = none_named (codes "RECURRENCE-ID") (λ v. refl) to;
    additions = none_named (codes "RDATE") (λ v. refl) to;
    exceptions = none_named (codes "EXDATE") (λ v. refl) to;
    summary = none_named (codes "SUMMARY") (λ v. refl) to;
  }
  lacks false = record {
    start = none_named (codes "DTSTART") (λ v. refl) to;
    end = none_named (codes "DTEND") (λ v. refl) to;
    duration = none_named (codes "DURATION") (λ v. refl) to;
    rule = none_named (codes "RRULE") (λ v. refl) to;
    recurrence = none_named (codes "RECURRENCE-ID") (λ v. refl) to;
    additions = none_named (codes "RDATE") (λ v. refl) to;
    exceptions = none_named (codes "EXDATE") (λ v. refl) to;
    summary = none_named (codes "SUMMARY") (λ v. refl) to;
  }

  -- what is named once
  record Has (called_off : Bool) : Type 0 where
    uid_line : lines_named (codes "UID") (own called_off) ≡ (codes "UID:" ++ escaped uid) ∷ []
    organiser_line : lines_named (codes "ORGANIZER") (own called_off) ≡ (codes "ORGANIZER:" ++ organiser) ∷ []
    stamp_line : lines_named (codes "DTSTAMP") (own called_off) ≡ (codes "DTSTAMP:" ++ stamp) ∷ []
    sequence_line : lines_named (codes "SEQUENCE") (own called_off) ≡ (codes "SEQUENCE:" ++ decimal revision.sequence) ∷ []
    status : SaysStatus (own called_off) called_off
    attendees : lines_named (codes "ATTENDEE") (own called_off) ≡ lines_of to

  has : (called_off : Bool) → Has called_off
  has true = record {
    uid_line = ap (λ l. (codes "UID:" ++ escaped uid) ∷ l) (none_named (codes "UID") (λ v. refl) to);
    organiser_line = ap (λ l. (codes "ORGANIZER:" ++ organiser) ∷ l) (none_named (codes "ORGANIZER") (λ v. refl) to);
    stamp_line = ap (λ l. (codes "DTSTAMP:" ++ stamp) ∷ l) (none_named (codes "DTSTAMP") (λ v. refl) to);
    sequence_line = ap (λ l. (codes "SEQUENCE:" ++ decimal revision.sequence) ∷ l) (none_named (codes "SEQUENCE") (λ v. refl) to);
    status = (Some (codes "STATUS:CANCELLED"), ap (λ l. codes "STATUS:CANCELLED" ∷ l) (none_named (codes "STATUS") (λ v. refl) to), refl);
    attendees = all_named to;
  }
  has false = record {
    uid_line = ap (λ l. (codes "UID:" ++ escaped uid) ∷ l) (none_named (codes "UID") (λ v. refl) to);
    organiser_line = ap (λ l. (codes "ORGANIZER:" ++ organiser) ∷ l) (none_named (codes "ORGANIZER") (λ v. refl) to);
    stamp_line = ap (λ l. (codes "DTSTAMP:" ++ stamp) ∷ l) (none_named (codes "DTSTAMP") (λ v. refl) to);
    sequence_line = ap (λ l. (codes "SEQUENCE:" ++ decimal revision.sequence) ∷ l) (none_named (codes "SEQUENCE") (λ v. refl) to);
    status = (None, none_named (codes "STATUS") (λ v. refl) to, refl);
    attendees = all_named to;
  }

  own_says : (called_off : Bool) → SaysEventComponent object (Some Cancel) (own called_off) (said called_off)
  own_says called_off =
      let l = lacks called_off in
      let h = has called_off in
      record {
        uid = record { line = Some (codes "UID:" ++ escaped uid); once = h.uid_line; present = λ _. refl; is = (sym (read_back uid), n.is_uid) };
        organiser = record { line = Some (codes "ORGANIZER:" ++ organiser); once = h.organiser_line; present = λ _. refl; is = (n.address.read.address, sym n.address.read.lower) };
        stamp = record { line = Some (codes "DTSTAMP:" ++ stamp); once = h.stamp_line; present = λ _. refl; is = at };
        sequence = (Some revision.sequence, record { line = Some (codes "SEQUENCE:" ++ decimal revision.sequence); once = h.sequence_line; present = λ _. refl; is = sequence_written revision.sequence n.small }, refl);
        status = h.status;
        times = inr (
          refl,
          record {
            missing = l.start;
            end_line = None;
            duration_line = None;
            end_once = l.end;
            duration_once = l.duration;
            lasts = refl;
            most = omega arith;
            form = refl;
            zone = refl;
            local = refl;
            start = refl;
          },
        );
        rule = record {
          text = None;
          spells = record { line = None; once = l.rule; present = λ e. absurd (false≢true e); is = tt };
          gives = subst (λ (lines : Lines). GivesBeside lines (said called_off).times None None) (sym l.start) refl;
        };
        occurrences = record {
          is = record { line = None; once = l.recurrence; present = λ e. absurd (false≢true e); is = tt };
          fixed_recurrence = λ h. absurd (false≢true h);
          adds = subst (λ (lines : Lines). Lists object (codes "RDATE") (flat_map entries_of lines) []) (sym l.additions) (tt, omega arith);
          inside = subst (λ (lines : Lines). AllZip (IsInside object) (flat_map entries_of lines) []) (sym l.additions) tt;
          takes = subst (λ (lines : Lines). Lists object (codes "EXDATE") (flat_map entries_of lines) []) (sym l.exceptions) (tt, omega arith);
          alone = ap (λ b. (false || b) && list_any (λ line. is_of (codes "RRULE") line || is_of (codes "RDATE") line) (own called_off)) (none_passes (is_of (codes "RECURRENCE-ID")) (own called_off) l.recurrence);
        };
        instants = record { slot = refl; added = refl; taken = refl };
        summary = sym (ap first_text l.summary);
        attendees = subst (λ (lines : Lines). AllZip IsAttendee lines (map attendee_at to)) (sym h.attendees) (all_say to f);
      }

-- ---- the octets

cancel_method : IsMethod (Some (codes "CANCEL"))
cancel_method = let m : is_content (codes "METHOD:CANCEL") ≡ true = fixed (codes "METHOD:CANCEL") refl refl refl refl in and_from _ _ m refl

only_one : (event a : EventComponent) → Contains (event ∷ []) a → a ≡ event
only_one event a c = elim (in_cons event [] a c) [
  | inl here ↦ sym here
  | inr there ↦ absurd (none_in_nil a there)
]

pub cancel_spells : LinesBack → ReadsLines → (organiser uid : List ℕ) (revision : Revision) (called_off : Bool) (to : List (List ℕ)) (octets : List ℕ) → IsSentName organiser uid revision → Sendable to
    → IsCancel organiser uid revision called_off to octets → is_too_long octets ≡ false → SpellsMessage octets (cancel_message organiser uid revision called_off to)
cancel_spells back reads organiser uid revision called_off to octets n f c short =
    let dated = c.tells_revision in
    let method = Some (codes "CANCEL") in
    let spelled = stamp_written dated.stamp revision.stamp dated.tells in
    let line = stamp_line dated.stamp (clean_shown dated.stamp (shown_stamp dated.stamp revision.stamp dated.tells)) in
    let own = own_lines organiser uid revision.sequence dated.stamp called_off to in
    let good = are_own organiser uid revision called_off to dated.stamp n f spelled (own_more (codes "DTSTAMP:" ++ dated.stamp) [] line refl own_none) in
    let owns = own ∷ [] in
    let lines = object_lines method (flat_map vevent_lines owns) in
    let content = object_content method owns cancel_method (and_from _ _ good.content refl) in
    let whole : octets ≡ written lines =
    c.is
    ∙ ap (λ (d : Lines). written (object_lines method ((codes "BEGIN:VEVENT" ∷ (codes "UID:" ++ escaped uid) ∷ []) ++ d ++ status_lines called_off ++ ((codes "ORGANIZER:" ++ organiser) ∷ lines_of to) ++ codes "END:VEVENT" ∷ []))) dated.is
    ∙ ap (λ (l : Lines). written (object_lines method l)) (sym (append-nil (vevent_lines own))) in
    let logical : logical_lines octets ≡ lines = ap logical_lines whole ∙ back lines content in
    let object = object_spelled method owns (and_from _ _ good.properties refl) in
    let whole_tree = calendar_tree method owns in
    let event = cancel_event organiser uid revision called_off to in
    record {
      lines = bounded_reads octets (ap (reads_as_lines false) whole ∙ reads lines content) short;
      tree = whole_tree;
      object = subst (IsObject true whole_tree) (sym logical) (record { spelled = object.spelled; calendar = object.calendar; version = object.version; events = refl });
      says = record {
        method = record { line = codes "METHOD:CANCEL"; once = refl; named = refl };
        events = event ∷ [];
        says = (own_says organiser uid revision to dated.stamp n f spelled whole_tree called_off, tt);
        taken = refl;
        are = record {
          some = omega arith;
          of_it = λ a p. ap meeting_said (only_one event a p);
          masters = omega arith;
          differ = λ i j d l w. absurd (omega (arith, l, w));
        };
        one_each = λ speaks. absurd (false≢true speaks);
      };
    }

-- ---- its parts

names_all : (to : List (List ℕ)) (room : List ℕ) → Contains to room → list_any (λ a. bytes_eq a.address room) (map attendee_at to) ≡ true
names_all [] room c = absurd (none_in_nil room c)
names_all (a ∷ to) room c = elim (in_cons a to room c) [
  | inl here ↦ ap (λ b. b || list_any (λ x. bytes_eq x.address room) (map attendee_at to)) ((bytes_eq-Decides a room).1 here)
  | inr there ↦ or_true (bytes_eq a room) (names_all to room there)
]
  where
    or_true : (b : Bool) {d : Bool} → d ≡ true → (b || d) ≡ true
    or_true true h = refl
    or_true false h = h

names_none : (to : List (List ℕ)) (room : List ℕ) → (Contains to room → ⊥) → list_any (λ a. bytes_eq a.address room) (map attendee_at to) ≡ false
names_none [] room f = refl
names_none (a ∷ to) room f = or_from _ _ (by (bytes_eq a room) refl) (names_none to room (λ c. f (in_tail a to room c)))
  where
    by : (b : Bool) → bytes_eq a room ≡ b → b ≡ false
    by true e = absurd (f (subst (λ (x : List ℕ). Contains (a ∷ to) x) ((bytes_eq-Decides a room).0 e) (in_head a to)))
    by false e = refl

-- the later of one revision and itself
pub later_same : (r : Revision) → later_of r r ≡ r
later_same r = either (is_lt (revision_cmp r r))
  where
    either : (b : Bool) → cond b r r ≡ r
    either true = refl
    either false = refl

-- parts with slots of their own, by these, are the greatest of themselves
greatest_alone : (parts : List Part) → AllPairs (λ (a b : Part). slot_cmp a.slot b.slot ≡ Less) parts → AreGreatest (λ (part : Part). part) parts parts
greatest_alone parts order = record {
  among = λ part c. c;
  greatest = λ part c. (part, c, refl, ap is_le (tied_itself part_total part));
  order = order;
}

pub cancel_tells : (organiser uid : List ℕ) (revision : Revision) (called_off : Bool) (to : List (List ℕ)) (room : List ℕ) (zone : Option Zone) → Contains to room
    → AreParts room zone (cancel_message organiser uid revision called_off to) (cancel_part organiser uid revision ∷ [])
cancel_tells organiser uid revision called_off to room zone c =
    let event = cancel_event organiser uid revision called_off to in
    let named : is_for room Cancel event ≡ true = ap (λ b. b || (true && (length event.attendees == 0))) (names_all to room c) in
    let all : parts_for room (cancel_message organiser uid revision called_off to) ≡ event ∷ [] = ap (λ b. cond (b || false) (cond b (event ∷ []) []) []) named in
    let message = cancel_message organiser uid revision called_off to in
    let part = cancel_part organiser uid revision in
    record {
      all = part ∷ [];
      each =
          subst (λ (l : List EventComponent). AllZip (λ e p. (content : Content) × IsPart room zone message e content p) l (part ∷ [])) (sym all)
          ((no_content, record { organiser = refl; uid = refl; slot = (None, tt, refl); revision = sym (later_same revision); body = (refl, refl) }), tt);
      are = greatest_alone (part ∷ []) (λ i j d l w. absurd (omega (arith, l, w)));
    }

not_none : (n : ℕ) → (suc n == 0) ≡ false
not_none n = grind (arith, nat_tests)

pub cancel_others : (organiser uid : List ℕ) (revision : Revision) (called_off : Bool) (first : List ℕ) (more : List (List ℕ)) (room : List ℕ) (zone : Option Zone) → (Contains (first ∷ more) room → ⊥)
    → AreParts room zone (cancel_message organiser uid revision called_off (first ∷ more)) []
cancel_others organiser uid revision called_off first more room zone f =
    let event = cancel_event organiser uid revision called_off (first ∷ more) in
    let unnamed : is_for room Cancel event ≡ false = or_from _ _ (names_none (first ∷ more) room f) (not_none (length (map attendee_at more))) in
    let none : parts_for room (cancel_message organiser uid revision called_off (first ∷ more)) ≡ [] = ap (λ b. cond (b || false) (cond b (event ∷ []) []) []) unnamed in
    let message = cancel_message organiser uid revision called_off (first ∷ more) in
    record {
      all = [];
      each = subst (λ (l : List EventComponent). AllZip (λ e p. (content : Content) × IsPart room zone message e content p) l []) (sym none) tt;
      are = greatest_alone [] (λ i j d l w. absurd (omega (arith, w)));
    }
