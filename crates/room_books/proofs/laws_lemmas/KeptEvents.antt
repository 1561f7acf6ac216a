-- What the lines say of a kept VEVENT that hides an instance: nothing at its start, cancelled, for the room alone, which has declined. And that
-- the room has accepted one that is shown.
-- Behind answers_stay, kept_texts_pass, kept_texts_spell, served_texts_pass.
use Rattle.std.proofs.Common.{◌≡◌, ℕ, ℤ, true, false, cond, List, [], ◌∷◌, ◌++◌, codes, Option, Some, None, inl, refl, sym, ap, subst, arith, lit<}
use Rattle.std.specs.Str.{bytes_eq}
use Rattle.std.specs.Prelude.{is_some, unwrap_or, option_map}
use Rattle.std.proofs.lemmas.Fmt.{decimal_digit}
use Rattle.std.proofs.lemmas.Slice.Eq.{bytes_eq-Decides}
use Rattle.profile.specs.text.Values.{SpellsStamp, SpellsDuration}
use Rattle.std.proofs.lemmas.Bool.{false≢true}
use Rattle.profile.specs.checker.Naming.{names}
use Rattle.profile.specs.text.Trees.{Tree}
use Rattle.profile.specs.series.Rules.{Rule}
use Rattle.profile.specs.events.Occurrences.{Time}
use Rattle.profile.specs.events.Properties.{Fixed}
use Rattle.profile.specs.events.EventComponents.{EventComponent, Attendee, Accepted, Declined, SaysEventComponent, has_accepted, is_accepted}
use Rattle.cal_events.proofs.shared_lemmas.Meanings.{utc_means}
use Rattle.ical_values.proofs.Spans.{duration_written}
use Rattle.itip_messages.specs.Law.{none_written}
use Rattle.itip_messages.proofs.body_lemmas.TimeLists.{IsStart}
use Rattle.room_books.proofs.laws_lemmas.KeptOwn.{SpellPart, zoned_event}

-- the own lines of a kept VEVENT that hides an instance
abbrev pub hidden_own : (uid recurrence sequence stamp start organiser room : List ℕ) → List (List ℕ)
hidden_own uid recurrence sequence stamp start organiser room =
    (codes "UID:" ++ uid) ∷ (codes "RECURRENCE-ID:" ++ recurrence) ∷ (codes "SEQUENCE:" ++ sequence) ∷ (codes "DTSTAMP:" ++ stamp) ∷ (codes "DTSTART:" ++ start)
    ∷ codes "DURATION:PT0S" ∷ codes "STATUS:CANCELLED" ∷ (codes "ORGANIZER:" ++ organiser) ∷ (codes "ATTENDEE;PARTSTAT=DECLINED:" ++ room) ∷ []

-- and what they say
abbrev pub hidden_event : List ℕ → ℤ → ℕ → List ℕ → ℤ → List ℕ → EventComponent
hidden_event uid instant sequence organiser stamp room = record {
  uid = uid;
  organiser = Some organiser;
  stamp = Some stamp;
  sequence = sequence;
  cancelled = true;
  recurrence = Some instant;
  times = record { form = Fixed; zone = None; local = instant; start = instant; length = record { days = 0; seconds = 0 } };
  rule = None;
  additions = [];
  exceptions = [];
  written = none_written (Some instant);
  summary = [];
  attendees = record { address = room; participation = Declined; scheduled = true } ∷ [];
}

pub hidden_says : (uid_is : List ℕ) (instant : ℤ) (number : ℕ) (uid recurrence sequence stamp start organiser room : List ℕ) (stamped : ℤ) → SpellPart uid_is number uid sequence stamp organiser room stamped → SpellsStamp recurrence instant → SpellsStamp start instant → IsStart instant
    → (object : Tree) → SaysEventComponent object None (hidden_own uid recurrence sequence stamp start organiser room) (hidden_event uid_is instant number organiser stamped room)
hidden_says uid_is instant number uid recurrence sequence stamp start organiser room stamped s at begins dated object = record {
  uid = record { line = Some (codes "UID:" ++ uid); once = refl; present = λ _. refl; is = (s.uid_there, s.is_uid) };
  organiser = record { line = Some (codes "ORGANIZER:" ++ organiser); once = refl; present = λ _. refl; is = (s.organised, sym s.lower) };
  stamp = record { line = Some (codes "DTSTAMP:" ++ stamp); once = refl; present = λ _. refl; is = s.stamped_is };
  sequence = (Some number, record { line = Some (codes "SEQUENCE:" ++ sequence); once = refl; present = λ _. refl; is = s.numbered }, refl);
  status = (Some (codes "STATUS:CANCELLED"), refl, refl);
  times = inl (record {
    line = codes "DTSTART:" ++ start;
    once = refl;
    says = (refl, begins);
    means = utc_means instant;
    end_line = None;
    duration_line = Some (codes "DURATION:PT0S");
    end_once = refl;
    duration_once = refl;
    lasts = (subst (λ (text : List ℕ). SpellsDuration text 0 0) (ap (λ (d : List ℕ). codes "PT" ++ (d ++ codes "S")) (decimal_digit 0 (lit< tt))) (duration_written 0 0 (omega arith) (omega arith)), tt);
    most = omega arith;
    in_dates = (dated.0, dated.0, dated.1);
  });
  rule = record { text = None; spells = record { line = None; once = refl; present = λ h. absurd (false≢true h); is = tt }; gives = tt };
  occurrences = record {
    is = record { line = Some (codes "RECURRENCE-ID:" ++ recurrence); once = refl; present = λ h. absurd (false≢true h); is = (refl, (None, instant, (refl, at), utc_means instant, (dated.0, dated.0, dated.1))) };
    fixed_recurrence = λ h. absurd (false≢true h);
    adds = (tt, omega arith);
    inside = tt;
    takes = (tt, omega arith);
    alone = refl;
  };
  instants = record { slot = refl; added = refl; taken = refl };
  summary = refl;
  attendees = (record { address = (s.addressed, sym s.room_lower); participation = refl; scheduled = refl }, tt);
}

-- the room has accepted what is shown
pub kept_confirmed : (event : EventComponent) (slot : Option ℤ) (number : ℕ) (organiser : List ℕ) (stamped : ℤ) (room : List ℕ) (rule : Option Rule) (additions exceptions : List Time) → has_accepted room (zoned_event event slot number organiser stamped room rule additions exceptions) ≡ true
kept_confirmed event slot number organiser stamped room rule additions exceptions =
    let same : bytes_eq room room ≡ true = (bytes_eq-Decides room room).1 refl in
    let attendee : Attendee = record { address = room; participation = Accepted; scheduled = true } in
    ap (λ b. unwrap_or (option_map is_accepted (option_map (λ (a : Attendee). a.participation) (cond b (Some attendee) None))) false) same

-- and what is hidden names the room
pub hidden_named : (uid : List ℕ) (instant : ℤ) (number : ℕ) (organiser : List ℕ) (stamped : ℤ) (room : List ℕ) → names room (hidden_event uid instant number organiser stamped room) ≡ true
hidden_named uid instant number organiser stamped room =
    let same : bytes_eq room room ≡ true = (bytes_eq-Decides room room).1 refl in
    let attendee : Attendee = record { address = room; participation = Declined; scheduled = true } in
    ap (λ b. is_some (option_map (λ (a : Attendee). a.participation) (cond b (Some attendee) None))) same
