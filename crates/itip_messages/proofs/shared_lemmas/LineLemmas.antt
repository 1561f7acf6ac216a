-- What is written, line by line.
-- Cited by write_status of event_lines, write_event of refresh, write_refresh of refresh, put_conflict of reply, put_key of reply, write_conflict of reply and 6 more.
use Rattle.std.proofs.Common.{◌≡◌, ◌≤◌, ◌∙◌, ℕ, List, [], ◌∷◌, ◌++◌, length, take, refl, sym, ap, arith, Some, append_assoc}
use Rattle.std.specs.Prelude.{codes, ℤ}
use Rattle.std.proofs.lemmas.List.{append-nil, length-take, take-append-le}
use Rattle.std.proofs.Math.Seq.{take-length}
use Rattle.std.proofs.lemmas.Grind.{flat_map-append}
use Rattle.std.specs.List.{flat_map}
use Rattle.cal_events.proofs.shared_lemmas.EventLemmas.{push_zip}
use Rattle.profile.specs.text.Lines.{folded, written}
use Rattle.profile.specs.rooms.Revisions.{At}
use Rattle.profile.specs.rooms.Messages.{TellsSlot, opening_lines}
use Rattle.ical_values.specs.Written.{Appends}
use Rattle.itip_messages.specs.declared.refresh.Refresh.{Refresh}
use Rattle.itip_messages.specs.declared.reply.ReplyEvent.{ReplyEvent}
use Rattle.itip_messages.specs.Refresh.{IsRefreshLines, IsRefreshText}
use Rattle.itip_messages.specs.Reply.{IsWrittenStampLine, WritesLines, WritesEvents, IsWrittenEvent, IsReplyText}

-- one line
pub one_line : (old new line : List ℕ) → new ≡ old ++ folded line → new ≡ old ++ written (line ∷ [])
one_line old new line e = e ∙ ap (λ x. old ++ x) (sym (append-nil (folded line)))

pub that_line : (old new line : List ℕ) → new ≡ old ++ folded line → WritesLines old new (λ lines. lines ≡ line ∷ [])
that_line old new line e = (line ∷ [], refl, one_line old new line e)

-- RECURRENCE-ID
pub slot_line : (old new : List ℕ) (instant : ℤ) → Appends old new (IsWrittenStampLine (codes "RECURRENCE-ID:") instant) → WritesLines old new (TellsSlot (At instant))
slot_line old new instant a =
    let text = a.1.0 in
    ((codes "RECURRENCE-ID:" ++ text) ∷ [], (text, a.1.1, refl), one_line old new _ (a.2 ∙ ap (λ x. old ++ x) a.1.2))

-- the status of a decline, piece by piece
pub put_together : (start one two three four five new head a blank b d : List ℕ) → start ≡ [] → one ≡ start ++ head → two ≡ one ++ a → three ≡ two ++ blank → four ≡ three ++ b → five ≡ four ++ blank → new ≡ five ++ d
    → new ≡ head ++ a ++ blank ++ b ++ blank ++ d
put_together start one two three four five new head a blank b d e0 e1 e2 e3 e4 e5 e6 = rw (e6, e5, e4, e3, e2, e1, e0) refl

-- a key, word by word
pub key_put : (old one two three four new slot a b blank : List ℕ) → one ≡ old ++ slot → two ≡ one ++ blank → three ≡ two ++ a → four ≡ three ++ blank → new ≡ four ++ b
    → new ≡ old ++ (slot ++ blank ++ a ++ blank ++ b)
key_put old one two three four new slot a b blank e1 e2 e3 e4 e5 = rw (e5, e4, e3, e2, e1) (simp append_assoc)

-- what was written before stays: at first, after more, and after what wrote nothing
pub kept_at_first : (old start : List ℕ) → start ≡ old → take (length old) start ≡ old
kept_at_first old start e = rw e (take-length old)

pub kept_by_more : (old before new a : List ℕ) → take (length old) before ≡ old → new ≡ before ++ a → take (length old) new ≡ old
kept_by_more old before new a kept e =
    let long : length old ≤ length before = omega (arith, ap length kept, length-take (length old) before) in
    rw e (take-append-le (length old) before a long ∙ kept)

pub kept_by_none : (old before new : List ℕ) → take (length old) before ≡ old → new ≡ before → take (length old) new ≡ old
kept_by_none old before new kept e = rw e kept

-- and is what is left where all else is taken back
pub taken_back : (old before failed new : List ℕ) (kept : ℕ) → take (length old) before ≡ old → failed ≡ before → kept ≡ length old → new ≡ take kept failed → new ≡ old
taken_back old before failed new kept stays same is e = e ∙ ap (λ n. take n failed) is ∙ ap (take (length old)) same ∙ stays

-- the first lines of an object
pub opened : (old start one two three new a b d m : List ℕ) → start ≡ old → one ≡ start ++ a → two ≡ one ++ b → three ≡ two ++ d → new ≡ three ++ m → new ≡ old ++ (a ++ (b ++ (d ++ m)))
opened old start one two three new a b d m e0 e1 e2 e3 e4 = rw (e4, e3, e2, e1, e0) (simp append_assoc)

joins : (f : List ℕ → List ℕ) (old o1 o2 o3 o4 o5 o6 o7 o8 o9 a b d e g h k : List ℕ) (slot status : List (List ℕ))
    → o1 ≡ old ++ f a → o2 ≡ o1 ++ f b → o3 ≡ o2 ++ flat_map f slot → o4 ≡ o3 ++ f d → o5 ≡ o4 ++ f e
    → o6 ≡ o5 ++ f g → o7 ≡ o6 ++ f h → o8 ≡ o7 ++ flat_map f status → o9 ≡ o8 ++ f k
    → o9 ≡ old ++ flat_map f ((a ∷ b ∷ slot) ++ (d ∷ e ∷ g ∷ h ∷ status) ++ (k ∷ []))
joins f old o1 o2 o3 o4 o5 o6 o7 o8 o9 a b d e g h k slot status e1 e2 e3 e4 e5 e6 e7 e8 e9 =
    rw (e9, e8, e7, e6, e5, e4, e3, e2, e1) (simp (flat_map-append f, append_assoc, append-nil))

joins_six : (f : List ℕ → List ℕ) (old o1 o2 o3 o4 o5 o6 a b d e g h : List ℕ) → o1 ≡ old ++ f a → o2 ≡ o1 ++ f b → o3 ≡ o2 ++ f d → o4 ≡ o3 ++ f e → o5 ≡ o4 ++ f g → o6 ≡ o5 ++ f h
    → o6 ≡ old ++ flat_map f (a ∷ b ∷ d ∷ e ∷ g ∷ h ∷ [])
joins_six f old o1 o2 o3 o4 o5 o6 a b d e g h e1 e2 e3 e4 e5 e6 = rw (e6, e5, e4, e3, e2, e1) (simp (append_assoc, append-nil))

-- the lines of the VEVENT of a refresh
pub asking_written : (old o1 o2 o3 o4 o5 o6 a b d e g h : List ℕ) → o1 ≡ old ++ folded a → o2 ≡ o1 ++ folded b → o3 ≡ o2 ++ folded d → o4 ≡ o3 ++ folded e → o5 ≡ o4 ++ folded g → o6 ≡ o5 ++ folded h
    → o6 ≡ old ++ written (a ∷ b ∷ d ∷ e ∷ g ∷ h ∷ [])
asking_written = joins_six folded

-- the lines of a VEVENT of a reply
pub event_written : (old o1 o2 o3 o4 o5 o6 o7 o8 o9 a b d e g h k : List ℕ) (slot status : List (List ℕ))
    → o1 ≡ old ++ folded a → o2 ≡ o1 ++ folded b → o3 ≡ o2 ++ written slot → o4 ≡ o3 ++ folded d → o5 ≡ o4 ++ folded e
    → o6 ≡ o5 ++ folded g → o7 ≡ o6 ++ folded h → o8 ≡ o7 ++ written status → o9 ≡ o8 ++ folded k
    → o9 ≡ old ++ written ((a ∷ b ∷ slot) ++ (d ∷ e ∷ g ∷ h ∷ status) ++ (k ∷ []))
event_written = joins folded

-- ---- the VEVENTs of a reply

pub more_lines : (f : List ℕ → List ℕ) (old mid new : List ℕ) (before : List (List (List ℕ))) (lines : List (List ℕ)) → mid ≡ old ++ flat_map f (flat_map (λ event. event) before) → new ≡ mid ++ flat_map f lines → new ≡ old ++ flat_map f (flat_map (λ event. event) (before ++ lines ∷ []))
more_lines f old mid new before lines e1 e2 =
    let grown : flat_map (λ event. event) (before ++ lines ∷ []) ≡ flat_map (λ event. event) before ++ lines =
    flat_map-append (λ event. event) before (lines ∷ []) ∙ ap (λ x. flat_map (λ event. event) before ++ x) (append-nil lines) in
    rw (e2, e1, grown) (simp (flat_map-append f, append_assoc))

-- one more event
pub events_more : (events : List ReplyEvent) (event : ReplyEvent) (old mid new : List ℕ) → WritesEvents events old mid → WritesLines mid new (IsWrittenEvent event) → WritesEvents (events ++ event ∷ []) old new
events_more events event old mid new before one =
    (before.0 ++ one.0 ∷ [], push_zip IsWrittenEvent events before.0 event one.0 before.1 one.1, more_lines folded old mid new before.0 one.0 before.2 one.2)

-- some lines between the first and the last
pub whole : (f : List ℕ → List ℕ) (first lines : List (List ℕ)) (last empty opened mid closed : List ℕ) → empty ≡ [] → opened ≡ empty ++ flat_map f first → mid ≡ opened ++ flat_map f lines → closed ≡ mid ++ f last → closed ≡ flat_map f (first ++ lines ++ (last ∷ []))
whole f first lines last empty opened mid closed e0 e1 e2 e3 = rw (e3, e2, e1, e0) (simp (flat_map-append f, append_assoc, append-nil))

-- the whole reply
pub reply_written : (events : List ReplyEvent) (empty opened mid closed : List ℕ) → empty ≡ [] → opened ≡ empty ++ written (opening_lines (Some (codes "REPLY"))) → WritesEvents events opened mid → closed ≡ mid ++ folded (codes "END:VCALENDAR") → IsReplyText events closed
reply_written events empty opened mid closed e0 e1 w e2 = record {
  lines = w.0;
  each = w.1;
  is = whole folded (opening_lines (Some (codes "REPLY"))) (flat_map (λ event. event) w.0) (codes "END:VCALENDAR") empty opened mid closed e0 e1 w.2 e2;
}

-- the whole refresh
pub refresh_written : (refresh : Refresh) (empty opened mid closed : List ℕ) → empty ≡ [] → opened ≡ empty ++ written (opening_lines (Some (codes "REFRESH"))) → WritesLines opened mid (IsRefreshLines refresh) → closed ≡ mid ++ folded (codes "END:VCALENDAR") → IsRefreshText refresh closed
refresh_written refresh empty opened mid closed e0 e1 w e2 = record {
  lines = w.0;
  shows = w.1;
  is = whole folded (opening_lines (Some (codes "REFRESH"))) w.0 (codes "END:VCALENDAR") empty opened mid closed e0 e1 w.2 e2;
}
