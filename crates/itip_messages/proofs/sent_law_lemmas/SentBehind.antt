-- The lines after what says when an event is, of a VEVENT that an organiser writes: STATUS, SUMMARY, ORGANIZER and ATTENDEE.
-- Behind requests_read_back, shown_reads_back.
use Rattle.std.proofs.Common.{◌≡◌, ◌∙◌, refl, sym, ap, subst, ℕ, arith, lt-ltb, Bool, true, false, cond, List, [], ◌∷◌, ◌++◌, length, codes, Option, Some, None}
use Rattle.std.specs.Prelude.{option_map, unwrap_or}
use Rattle.std.specs.Option.{option_to_list}
use Rattle.std.specs.List.{AllZip}
use Rattle.std.proofs.lemmas.List.Elements.{filter-append}
use Rattle.profile.specs.text.Lines.{is_content, is_same_name, line_value}
use Rattle.profile.specs.text.Objects.{is_property}
use Rattle.profile.specs.text.Values.{escaped}
use Rattle.profile.specs.events.EventComponents.{Attendee, IsAttendee, first_text}
use Rattle.profile.specs.events.Properties.{is_of, lines_named}
use Rattle.profile.specs.organisers.Sent.{status_lines}
use Rattle.ical_lines.proofs.CleanLines.{IsClean, valued}
use Rattle.ical_values.proofs.Escapes.{read_back}
use Rattle.itip_messages.proofs.shared_lemmas.ContentLines.{organiser_line}
use Rattle.itip_messages.proofs.shared_lemmas.ObjectTree.{Lines}
use Rattle.itip_messages.proofs.shared_lemmas.OwnLines.{IsBehind, IsElsewhere}
use Rattle.itip_messages.proofs.shared_lemmas.ReplyLines.{AreOwn, own_both, own_more, own_none}
use Rattle.itip_messages.proofs.shared_lemmas.SentTexts.{status_own}

-- the line of an attendee, which says this one
pub record IsAttendeeText (line : List ℕ) (attendee : Attendee) : Type 0 where
  pub content : is_content line ≡ true
  pub property : is_property line ≡ true
  pub named : (other : List ℕ) → is_of other line ≡ is_of other (codes "ATTENDEE:")
  pub says : IsAttendee line attendee

abbrev pub own_back : (cancelled : Bool) (summary organiser : List ℕ) (attendees : Lines) → Lines
own_back cancelled summary organiser attendees = status_lines cancelled ++ ((codes "SUMMARY:" ++ summary) ∷ (codes "ORGANIZER:" ++ organiser) ∷ attendees)

back_of : (other : List ℕ) (cancelled : Bool) (summary organiser : List ℕ) (attendees : Lines) → lines_named other (own_back cancelled summary organiser attendees)
    ≡ lines_named other (status_lines cancelled) ++ lines_named other ((codes "SUMMARY:" ++ summary) ∷ (codes "ORGANIZER:" ++ organiser) ∷ attendees)
back_of other cancelled summary organiser attendees = filter-append (is_of other) (status_lines cancelled) ((codes "SUMMARY:" ++ summary) ∷ (codes "ORGANIZER:" ++ organiser) ∷ attendees)

status_none : (other : List ℕ) → is_of other (codes "STATUS:CANCELLED") ≡ false → (cancelled : Bool) → lines_named other (status_lines cancelled) ≡ []
status_none other e true = ap (λ b. cond b (codes "STATUS:CANCELLED" ∷ []) []) e
status_none other e false = refl

all_named : (other : List ℕ) (lines : Lines) (said : List Attendee) → AllZip IsAttendeeText lines said → lines_named other lines ≡ cond (is_of other (codes "ATTENDEE:")) lines []
all_named other [] said z = either (is_of other (codes "ATTENDEE:")) []
  where
    either : (b : Bool) (none : Lines) → none ≡ cond b none none
    either true none = refl
    either false none = refl
all_named other (line ∷ lines) [] z = absurd z
all_named other (line ∷ lines) (a ∷ said) z =
    ap (λ b. cond b (line ∷ lines_named other lines) (lines_named other lines)) (z.0.named other) ∙ go (is_of other (codes "ATTENDEE:")) (all_named other lines said z.1)
  where
    go : (b : Bool) → lines_named other lines ≡ cond b lines [] → cond b (line ∷ lines_named other lines) (lines_named other lines) ≡ cond b (line ∷ lines) []
    go true e = ap (λ l. line ∷ l) e
    go false e = e

asked_none : (other : List ℕ) → is_of other (codes "ATTENDEE:") ≡ false → (lines : Lines) (said : List Attendee) → AllZip IsAttendeeText lines said → lines_named other lines ≡ []
asked_none other e lines said z = all_named other lines said z ∙ ap (λ b. cond b lines []) e

asked_all : (lines : Lines) (said : List Attendee) → AllZip IsAttendeeText lines said → lines_named (codes "ATTENDEE") lines ≡ lines
asked_all lines said z = all_named (codes "ATTENDEE") lines said z

back_none : (other : List ℕ) → IsElsewhere other → (cancelled : Bool) (summary organiser : List ℕ) (attendees : Lines) (said : List Attendee) → AllZip IsAttendeeText attendees said → lines_named other (own_back cancelled summary organiser attendees) ≡ []
back_none other e cancelled summary organiser attendees said z =
    let rest = lines_named other attendees in
    let behind : lines_named other ((codes "SUMMARY:" ++ summary) ∷ (codes "ORGANIZER:" ++ organiser) ∷ attendees) ≡ [] =
    (λ i. cond (e.summary summary i) ((codes "SUMMARY:" ++ summary) ∷ cond (e.organiser organiser i) ((codes "ORGANIZER:" ++ organiser) ∷ rest) rest) (cond (e.organiser organiser i) ((codes "ORGANIZER:" ++ organiser) ∷ rest) rest))
    ∙ asked_none other e.attendee attendees said z in
    back_of other cancelled summary organiser attendees ∙ (λ i. status_none other e.status cancelled i ++ behind i)

-- the lines that are there
module _ (cancelled : Bool) (summary organiser : List ℕ) (attendees : Lines) (said : List Attendee) (z : AllZip IsAttendeeText attendees said) where
  back_summary : lines_named (codes "SUMMARY") (own_back cancelled summary organiser attendees) ≡ (codes "SUMMARY:" ++ summary) ∷ []
  back_summary =
      back_of (codes "SUMMARY") cancelled summary organiser attendees
      ∙ (λ i. status_none (codes "SUMMARY") refl cancelled i ++ ((codes "SUMMARY:" ++ summary) ∷ asked_none (codes "SUMMARY") refl attendees said z i))

  back_organiser : lines_named (codes "ORGANIZER") (own_back cancelled summary organiser attendees) ≡ (codes "ORGANIZER:" ++ organiser) ∷ []
  back_organiser =
      back_of (codes "ORGANIZER") cancelled summary organiser attendees
      ∙ (λ i. status_none (codes "ORGANIZER") refl cancelled i ++ ((codes "ORGANIZER:" ++ organiser) ∷ asked_none (codes "ORGANIZER") refl attendees said z i))

  back_attendees : lines_named (codes "ATTENDEE") (own_back cancelled summary organiser attendees) ≡ attendees
  back_attendees =
      back_of (codes "ATTENDEE") cancelled summary organiser attendees ∙ (λ i. status_none (codes "ATTENDEE") refl cancelled i ++ asked_all attendees said z i)

-- and STATUS, where it is there
abbrev status_line : Bool → Option (List ℕ)
status_line true = Some (codes "STATUS:CANCELLED")
status_line false = None

back_status : (cancelled : Bool) (summary organiser : List ℕ) (attendees : Lines) (said : List Attendee) → AllZip IsAttendeeText attendees said → lines_named (codes "STATUS") (own_back cancelled summary organiser attendees) ≡ option_to_list (status_line cancelled)
back_status true summary organiser attendees said z = ap (λ l. codes "STATUS:CANCELLED" ∷ l) (asked_none (codes "STATUS") refl attendees said z)
back_status false summary organiser attendees said z = asked_none (codes "STATUS") refl attendees said z

status_said : (cancelled : Bool) → cancelled ≡ unwrap_or (option_map (λ status. is_same_name (line_value status) (codes "CANCELLED")) (status_line cancelled)) false
status_said true = refl
status_said false = refl

all_say : (lines : Lines) (said : List Attendee) → AllZip IsAttendeeText lines said → AllZip IsAttendee lines said
all_say [] [] z = tt
all_say [] (a ∷ said) z = absurd z
all_say (line ∷ lines) [] z = absurd z
all_say (line ∷ lines) (a ∷ said) z = (z.0.says, all_say lines said z.1)

pub behind_says : (cancelled : Bool) (summary organiser : List ℕ) (attendees : Lines) (said : List Attendee) → AllZip IsAttendeeText attendees said → IsBehind (own_back cancelled (escaped summary) organiser attendees) organiser cancelled summary said
behind_says cancelled summary organiser attendees said z = record {
  elsewhere = λ other e. back_none other e cancelled (escaped summary) organiser attendees said z;
  organised = back_organiser cancelled (escaped summary) organiser attendees said z;
  status = (status_line cancelled, back_status cancelled (escaped summary) organiser attendees said z, status_said cancelled);
  summary = sym (read_back summary) ∙ sym (ap first_text (back_summary cancelled (escaped summary) organiser attendees said z));
  attendees = subst (λ (l : Lines). AllZip IsAttendee l said) (sym (back_attendees cancelled (escaped summary) organiser attendees said z)) (all_say attendees said z);
}

-- ---- what lines they are

summary_line : (v : List ℕ) → IsClean v → is_content (codes "SUMMARY:" ++ v) ≡ true
summary_line v c = valued (codes "SUMMARY:") v (lt-ltb 7 (length (codes "SUMMARY:" ++ v)) (omega arith)) refl refl refl c

-- what comes after the content
attendees_own : (lines : Lines) (said : List Attendee) → AllZip IsAttendeeText lines said → AreOwn lines
attendees_own [] said z = own_none
attendees_own (line ∷ lines) [] z = absurd z
attendees_own (line ∷ lines) (a ∷ said) z = own_more line lines z.0.content z.0.property (attendees_own lines said z.1)

pub behind_own : (cancelled : Bool) (summary organiser : List ℕ) (attendees : Lines) (said : List Attendee) → IsClean summary → IsClean organiser → AllZip IsAttendeeText attendees said → AreOwn (own_back cancelled summary organiser attendees)
behind_own cancelled summary organiser attendees said s o z =
    own_both (status_lines cancelled) _ (status_own cancelled)
    (own_more (codes "SUMMARY:" ++ summary) _ (summary_line summary s) refl (own_more (codes "ORGANIZER:" ++ organiser) _ (organiser_line organiser o) refl (attendees_own attendees said z)))
