-- The VEVENT of a reply, and that of a refresh, each say one event.
-- Behind refreshes_are_heard, replies_are_heard.
use Rattle.std.proofs.Common.{◌≡◌, ◌∙◌, ℕ, ℤ, Bool, true, false, ◌&&◌, ◌||◌, List, [], ◌∷◌, ◌++◌, codes, decimal, Option, None, Some, refl, sym, ap, subst, arith, inr}
use Rattle.std.specs.List.{AllZip, flat_map, list_any}
use Rattle.std.specs.Prelude.{option_to_list, option_map}
use Rattle.std.proofs.lemmas.Option.{same_Some}
use Rattle.std.proofs.lemmas.Bool.{false≢true, true≢false}
use Rattle.std.proofs.Math.Bool.{and-false}
use Rattle.profile.specs.text.Trees.{Tree}
use Rattle.profile.specs.text.Values.{IsUid, SpellsStamp, escaped}
use Rattle.profile.specs.events.EventComponents.{SaysEventComponent, Reply, Refresh, first_text}
use Rattle.profile.specs.events.EventRules.{GivesBeside}
use Rattle.profile.specs.events.Occurrences.{Time, IsFixedWhere, IsInside, IsRecurrenceLine, Lists, entries_of}
use Rattle.profile.specs.events.Properties.{Says, is_of, lines_named}
use Rattle.profile.specs.rooms.Messages.{Outcome, Accept, Busy, SeriesLimit, SinglesLimit, TellsSlot, TellsOutcome}
use Rattle.profile.specs.rooms.Revisions.{Part, Slot, Whole, At}
use Rattle.ical_values.proofs.Escapes.{read_back}
use Rattle.ical_values.proofs.Readings.{stamp_written}
use Rattle.itip_messages.specs.Law.{IsReadAddress, SaysAnswer, answer_event, instant_of_slot, no_times, none_written, refresh_event}
use Rattle.itip_messages.proofs.law_lemmas.AnswerReads.{both_named, room_line}
use Rattle.itip_messages.proofs.shared_lemmas.ObjectTree.{Lines}
use Rattle.itip_messages.proofs.shared_lemmas.OwnLines.{none_of_both}
use Rattle.itip_messages.proofs.shared_lemmas.SentTexts.{none_passes}
use Rattle.itip_messages.proofs.body_lemmas.TimeLists.{IsStart, utc_means}

-- ---- what is named nowhere in the lines

pub record Silent (lines : Lines) : Type 0 where
  pub start : lines_named (codes "DTSTART") lines ≡ []
  pub end : lines_named (codes "DTEND") lines ≡ []
  pub duration : lines_named (codes "DURATION") lines ≡ []
  pub rule : lines_named (codes "RRULE") lines ≡ []
  pub additions : lines_named (codes "RDATE") lines ≡ []
  pub exceptions : lines_named (codes "EXDATE") lines ≡ []
  pub summary : lines_named (codes "SUMMARY") lines ≡ []
  pub status : lines_named (codes "STATUS") lines ≡ []

slot_silent : (slot : Slot) (lines : Lines) → TellsSlot slot lines → Silent lines
slot_silent Whole lines e = subst Silent (sym e) (record { start = refl; end = refl; duration = refl; rule = refl; additions = refl; exceptions = refl; summary = refl; status = refl })
slot_silent (At t) lines (text, w, e) = subst Silent (sym e) (record { start = refl; end = refl; duration = refl; rule = refl; additions = refl; exceptions = refl; summary = refl; status = refl })

-- the room's line, and the lines of the outcome, say nothing of the slot either
record RoomSilent (lines : Lines) : Type 0 where
  rest : Silent lines
  instance : lines_named (codes "RECURRENCE-ID") lines ≡ []

room_silent : (outcome : Outcome) (room : List ℕ) (status : Lines) → TellsOutcome outcome status → RoomSilent (room_line outcome room ∷ status)
room_silent Accept room status e =
    subst (λ (s : Lines). RoomSilent (room_line Accept room ∷ s)) (sym e)
    (record { rest = record { start = refl; end = refl; duration = refl; rule = refl; additions = refl; exceptions = refl; summary = refl; status = refl }; instance = refl })
room_silent (Busy a b t) room status (_, _, _, _, _, _, e) =
    subst (λ (s : Lines). RoomSilent (room_line (Busy a b t) room ∷ s)) (sym e)
    (record { rest = record { start = refl; end = refl; duration = refl; rule = refl; additions = refl; exceptions = refl; summary = refl; status = refl }; instance = refl })
room_silent SeriesLimit room status e =
    subst (λ (s : Lines). RoomSilent (room_line SeriesLimit room ∷ s)) (sym e)
    (record { rest = record { start = refl; end = refl; duration = refl; rule = refl; additions = refl; exceptions = refl; summary = refl; status = refl }; instance = refl })
room_silent SinglesLimit room status e =
    subst (λ (s : Lines). RoomSilent (room_line SinglesLimit room ∷ s)) (sym e)
    (record { rest = record { start = refl; end = refl; duration = refl; rule = refl; additions = refl; exceptions = refl; summary = refl; status = refl }; instance = refl })

-- ---- the slot, in the dates that RECURRENCE-ID is read in

abbrev pub IsInstance : Slot → Type 0
IsInstance Whole = Unit {0}
IsInstance (At t) = IsStart t

-- it is named by a fixed time
abbrev fixed_time : Option ℤ → Option Time
fixed_time recurrence = (none_written recurrence).recurrence

fixed_named : (fixed : Bool) (recurrence : Option ℤ) → IsFixedWhere fixed (fixed_time recurrence)
fixed_named fixed None h time e = absurd (true≢false (ap (λ (o : Option Time). elim o [ None ↦ true | Some _ ↦ false ]) e))
fixed_named fixed (Some t) h time e = sym (ap (λ (x : Time). x.form) (same_Some _ time e))

fixed_instant : (recurrence : Option ℤ) → recurrence ≡ option_map (λ (time : Time). time.instant) (fixed_time recurrence)
fixed_instant None = refl
fixed_instant (Some t) = refl

slot_said : (object : Tree) (slot : Slot) (lines : Lines) → TellsSlot slot lines → IsInstance slot → Says (codes "RECURRENCE-ID") false (IsRecurrenceLine object) lines (fixed_time (instant_of_slot slot))
slot_said object Whole lines e d = record { line = None; once = ap (lines_named (codes "RECURRENCE-ID")) e; present = λ h. absurd (false≢true h); is = tt }
slot_said object (At t) lines (text, w, e) d = record {
  line = Some (codes "RECURRENCE-ID:" ++ text);
  once = ap (lines_named (codes "RECURRENCE-ID")) e;
  present = λ h. refl;
  is = (refl, (None, t, (refl, stamp_written text t w), utc_means t, (d.0, d.0, d.1)));
}

-- ---- the VEVENT of a reply

module _ (room : List ℕ) (part : Part) (outcome : Outcome) (slot status : Lines) (stamp : List ℕ) where
  abbrev after : Lines
  after = (codes "SEQUENCE:" ++ decimal part.revision.sequence) ∷ (codes "DTSTAMP:" ++ stamp) ∷ (codes "ORGANIZER:" ++ part.organiser) ∷ room_line outcome room ∷ status

  abbrev pub answer_own : Lines
  answer_own = (codes "UID:" ++ escaped part.uid) ∷ (slot ++ after)

  own_silent : Silent slot → Silent (room_line outcome room ∷ status) → Silent answer_own
  own_silent s r = record {
    start = both_named (codes "DTSTART") slot after [] [] s.start r.start;
    end = both_named (codes "DTEND") slot after [] [] s.end r.end;
    duration = both_named (codes "DURATION") slot after [] [] s.duration r.duration;
    rule = both_named (codes "RRULE") slot after [] [] s.rule r.rule;
    additions = both_named (codes "RDATE") slot after [] [] s.additions r.additions;
    exceptions = both_named (codes "EXDATE") slot after [] [] s.exceptions r.exceptions;
    summary = both_named (codes "SUMMARY") slot after [] [] s.summary r.summary;
    status = both_named (codes "STATUS") slot after [] [] s.status r.status;
  }

  own_instance : (object : Tree) → Says (codes "RECURRENCE-ID") false (IsRecurrenceLine object) slot (fixed_time (instant_of_slot part.slot)) → lines_named (codes "RECURRENCE-ID") (room_line outcome room ∷ status) ≡ []
      → Says (codes "RECURRENCE-ID") false (IsRecurrenceLine object) answer_own (fixed_time (instant_of_slot part.slot))
  own_instance object s r = record {
    line = s.line;
    once = both_named (codes "RECURRENCE-ID") slot after (option_to_list s.line) [] s.once r ∙ none_after s.line;
    present = s.present;
    is = s.is;
  }
    where
      none_after : (line : Option (List ℕ)) → option_to_list line ++ [] ≡ option_to_list line
      none_after None = refl
      none_after (Some line) = refl

-- no list and no rule in the lines
alone : (lines : Lines) → Silent lines → ((false || list_any (is_of (codes "RECURRENCE-ID")) lines) && list_any (λ line. is_of (codes "RRULE") line || is_of (codes "RDATE") line) lines) ≡ false
alone lines l =
    let none : list_any (λ line. is_of (codes "RRULE") line || is_of (codes "RDATE") line) lines ≡ false =
    none_of_both (is_of (codes "RRULE")) (is_of (codes "RDATE")) lines (none_passes (is_of (codes "RRULE")) lines l.rule) (none_passes (is_of (codes "RDATE")) lines l.additions) in
    ap (λ x. (false || list_any (is_of (codes "RECURRENCE-ID")) lines) && x) none ∙ and-false (false || list_any (is_of (codes "RECURRENCE-ID")) lines)

event_says : (room : List ℕ) (part : Part) (moment : ℤ) (outcome : Outcome) (own : Lines) (object : Tree) → SaysAnswer room part moment outcome own → Silent own
    → Says (codes "RECURRENCE-ID") false (IsRecurrenceLine object) own (fixed_time (instant_of_slot part.slot)) → SaysEventComponent object (Some Reply) own (answer_event room part moment outcome)
event_says room part moment outcome own object a l is = record {
  uid = a.uid;
  organiser = a.organiser;
  stamp = a.stamp;
  sequence = (Some part.revision.sequence, record { line = a.sequence.line; once = a.sequence.once; present = λ h. a.sequence.present refl; is = a.sequence.is }, refl);
  status = (None, l.status, refl);
  times = inr (
    refl,
    record {
      missing = l.start;
      end_line = None;
      duration_line = None;
      end_once = l.end;
      duration_once = l.duration;
      lasts = refl;
      most = omega arith;
      form = refl;
      zone = refl;
      local = refl;
      start = refl;
    },
  );
  rule = record {
    text = None;
    spells = record { line = None; once = l.rule; present = λ e. absurd (false≢true e); is = tt };
    gives = subst (λ (lines : Lines). GivesBeside lines no_times None None) (sym l.start) refl;
  };
  occurrences = record {
    is = is;
    fixed_recurrence = fixed_named true (instant_of_slot part.slot);
    adds = subst (λ (lines : Lines). Lists object (codes "RDATE") (flat_map entries_of lines) []) (sym l.additions) (tt, omega arith);
    inside = subst (λ (lines : Lines). AllZip (IsInside object) (flat_map entries_of lines) []) (sym l.additions) tt;
    takes = subst (λ (lines : Lines). Lists object (codes "EXDATE") (flat_map entries_of lines) []) (sym l.exceptions) (tt, omega arith);
    alone = alone own l;
  };
  instants = record { slot = fixed_instant (instant_of_slot part.slot); added = refl; taken = refl };
  summary = sym (ap first_text l.summary);
  attendees = a.attendees;
}

pub answer_says : (room : List ℕ) (part : Part) (moment : ℤ) (outcome : Outcome) (slot status : Lines) (stamp : List ℕ) → TellsSlot part.slot slot → TellsOutcome outcome status → IsInstance part.slot
    → SaysAnswer room part moment outcome (answer_own room part outcome slot status stamp)
    → (object : Tree) → SaysEventComponent object (Some Reply) (answer_own room part outcome slot status stamp) (answer_event room part moment outcome)
answer_says room part moment outcome slot status stamp s o d a object =
    let r = room_silent outcome room status o in
    let l = own_silent room part outcome slot status stamp (slot_silent part.slot slot s) r.rest in
    let is = own_instance room part outcome slot status stamp object (slot_said object part.slot slot s d) r.instance in
    event_says room part moment outcome (answer_own room part outcome slot status stamp) object a l is

-- ---- the VEVENT of a refresh

abbrev pub refresh_own : (room organiser uid stamp : List ℕ) → Lines
refresh_own room organiser uid stamp = (codes "UID:" ++ escaped uid) ∷ (codes "DTSTAMP:" ++ stamp) ∷ (codes "ORGANIZER:" ++ organiser) ∷ (codes "ATTENDEE:" ++ room) ∷ []

pub refresh_says : (room organiser uid stamp : List ℕ) (moment : ℤ) → IsReadAddress room → IsReadAddress organiser → IsUid uid → SpellsStamp stamp moment
    → (object : Tree) → SaysEventComponent object (Some Refresh) (refresh_own room organiser uid stamp) (refresh_event room organiser uid moment)
refresh_says room organiser uid stamp moment home of_it is_uid at object = record {
  uid = record { line = Some (codes "UID:" ++ escaped uid); once = refl; present = λ _. refl; is = (sym (read_back uid), is_uid) };
  organiser = record { line = Some (codes "ORGANIZER:" ++ organiser); once = refl; present = λ _. refl; is = (of_it.address, sym of_it.lower) };
  stamp = record { line = Some (codes "DTSTAMP:" ++ stamp); once = refl; present = λ _. refl; is = at };
  sequence = (None, record { line = None; once = refl; present = λ h. absurd (false≢true h); is = tt }, refl);
  status = (None, refl, refl);
  times = inr (
    refl,
    record {
      missing = refl;
      end_line = None;
      duration_line = None;
      end_once = refl;
      duration_once = refl;
      lasts = refl;
      most = omega arith;
      form = refl;
      zone = refl;
      local = refl;
      start = refl;
    },
  );
  rule = record {
    text = None;
    spells = record { line = None; once = refl; present = λ e. absurd (false≢true e); is = tt };
    gives = refl;
  };
  occurrences = record {
    is = record { line = None; once = refl; present = λ e. absurd (false≢true e); is = tt };
    fixed_recurrence = fixed_named false None;
    adds = (tt, omega arith);
    inside = tt;
    takes = (tt, omega arith);
    alone = refl;
  };
  instants = record { slot = refl; added = refl; taken = refl };
  summary = refl;
  attendees = (record { address = (home.address, sym home.lower); participation = refl; scheduled = refl }, tt);
}
