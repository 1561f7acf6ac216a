-- What a room's declines name: keys of instances that messages asked for, whose organisers and UIDs were read.
-- Cited by answers_name_texts.
use Rattle.std.proofs.Common.{◌≡◌, ◌∙◌, ℕ, ℤ, Bool, true, false, cond, filter, List, [], ◌∷◌, length, not, Option, Some, None, inl, inr, ◌⊎◌, sym, ap, subst, arith}
use Rattle.std.specs.Prelude.{IsTrue, nat_lt, Contains, unwrap_or, option_map}
use Rattle.std.specs.Option.{option_to_list}
use Rattle.std.specs.Str.{IsUtf8}
use Rattle.std.proofs.lemmas.Bool.{lt-ltb}
use Rattle.std.proofs.lemmas.Option.{same_Some}
use Rattle.std.proofs.lemmas.List.Elements.{All-contains, Contains-append_cases}
use Rattle.profile.specs.checker.Instances.{Instance, Key}
use Rattle.profile.specs.events.Confirmed.{AreApart, AreOfRule, IsOfSeries, alone}
use Rattle.profile.specs.events.EventComponents.{EventComponent}
use Rattle.profile.specs.events.Events.{Event, is_override}
use Rattle.profile.specs.events.Starts.{IsInstance, key_at}
use Rattle.profile.specs.rooms.Messages.{Accept, Busy, Outcome, SeriesLimit, SinglesLimit}
use Rattle.profile.specs.rooms.Revisions.{Part}
use Rattle.profile.specs.rooms.Rooms.{Book, Claim, Confirms, Decides, Delivery, IsStep, PartAnswer, Recurring, Runs, answered, asked, if_accepted, is_confirmed, is_hidden, is_set, left_of, recurring_in}
use Rattle.profile.specs.series.Zones.{Zone}
use Rattle.profile.specs.streams.Streams.{AsksFor, IsDelivered, IsReached}
use Rattle.itip_messages.specs.Law.{AreTextAnswers, IsTextKey, IsTextOutcome}
use Rattle.itip_messages.proofs.law_lemmas.PartTexts.{named}
use Rattle.itip_order.proofs.Lists.{filter_at, in_cons, in_head, in_tail, none_in_nil}
use Rattle.room_books.proofs.shared_lemmas.Pairs.{flat_at, map_at}
use Rattle.room_books.proofs.laws_lemmas.KeptAnswers.{IsAskedFor}
use Rattle.room_books.proofs.laws_lemmas.KeptRuns.{AllAsked, KeepsAll, delivered_asked, keeps_none, keeps_step}
use Rattle.room_books.proofs.laws_lemmas.Runs.{new_answer}

-- ---- the key of what is asked for

-- each instance of an event is of the event's meeting
key_alone : (event : EventComponent) (instance : Instance) → IsInstance (alone event) instance → (slot : ℤ) × (instance.key ≡ key_at event slot)
key_alone event instance = by (is_override event)
  where
    by : (overrides : Bool) → IsInstance (cond overrides (record { master = None; overrides = event ∷ [] }) (record { master = Some event; overrides = [] })) instance
        → (slot : ℤ) × (instance.key ≡ key_at event slot)
    by true (inl m) = let none = m.is in cc
    by true (inr o) = elim (in_cons event [] o.override o.is) [
      | inl same ↦ (instance.key.slot, o.key ∙ ap (λ (e : EventComponent). key_at e instance.key.slot) (sym same))
      | inr none ↦ absurd (none_in_nil o.override none)
    ]
    by false (inl m) = (instance.start, m.key ∙ ap (λ (e : EventComponent). key_at e instance.start) (sym (same_Some event m.master m.is)))
    by false (inr o) = absurd (none_in_nil o.override o.is)

-- the claim asks for the instance: a single, or one of its series
abbrev AsksInstance : Claim → Instance → Type 0
AsksInstance claim instance = Contains claim.singles instance ⊎ ((series : Event) × (claim.series ≡ Some series) × IsInstance series instance)

asks_alone : (event : EventComponent) (claim : Claim) → AreApart event claim.singles → AreOfRule event claim.series → (instance : Instance) → AsksInstance claim instance → IsInstance (alone event) instance
asks_alone event claim apart rule instance (inl single) =
    let IsApart : Instance → Type 0 = λ one. IsInstance (alone event) one × (IsOfSeries event one → ⊥) in
    (All-contains IsApart claim.singles instance apart.each single).0
asks_alone event claim apart rule instance (inr (series, has, one)) = (((subst (AreOfRule event) has rule).1 instance).0 one).0

-- octets asked for the claim, whose part is to take place
record IsAskedToSet (room : List ℕ) (zone : Option Zone) (claim : Claim) : Type 0 where
  asked : IsAskedFor room zone claim
  set : is_set claim.part ≡ true

text_key : (room : List ℕ) (zone : Option Zone) (claim : Claim) → IsAskedToSet room zone claim → (instance : Instance) → AsksInstance claim instance → IsTextKey instance.key
text_key room zone claim a instance asks =
    let part = a.asked.asked in
    let texts = named room claim.content claim.part part in
    let (placed, is, apart, rule) = subst (λ (set : Bool). AsksFor set zone part.event claim) a.set a.asked.books in
    let (slot, key) = key_alone placed instance (asks_alone placed claim apart rule instance asks) in
    let organiser : placed.organiser ≡ Some claim.part.organiser = ap (λ (e : EventComponent). e.organiser) is.is ∙ part.is_part.organiser in
    let uid : placed.uid ≡ claim.part.uid = ap (λ (e : EventComponent). e.uid) is.is ∙ sym part.is_part.uid in
    record {
      organiser = subst IsUtf8 (sym (ap (λ (k : Key). k.organiser) key ∙ ap (λ (o : Option (List ℕ)). unwrap_or o []) organiser)) texts.organiser.utf8;
      uid = subst IsUtf8 (sym (ap (λ (k : Key). k.uid) key ∙ uid)) texts.uid.utf8;
    }

-- ---- what a book confirms is asked for by a claim that was answered

record IsAnswered (answers : List PartAnswer) (instance : Instance) : Type 0 where
  answer : PartAnswer
  among : Contains answers answer
  asks : AsksInstance answer.claim instance

series_of : (part : Part) (o : Option Event) (recurring : Recurring)
    → Contains (option_to_list (option_map (λ (meeting : Event). record { part = part; meeting = meeting }) o)) recurring → o ≡ Some recurring.meeting
series_of part None recurring c = absurd (none_in_nil recurring c)
series_of part (Some meeting) recurring c = elim (in_cons _ [] recurring c) [
  | inl same ↦ ap (λ (r : Recurring). Some r.meeting) same
  | inr none ↦ absurd (none_in_nil recurring none)
]

confirmed_answered : (book : Book) (instance : Instance) → Confirms book instance → IsAnswered book.answers instance
confirmed_answered book instance (inl single) =
    let found = flat_at (left_of book.taken) (filter (is_confirmed book.taken) book.answers) instance single in
    record {
      answer = found.0;
      among = (filter_at (is_confirmed book.taken) book.answers found.0 found.1).0;
      asks = inl (filter_at (λ booked. not (is_hidden book.taken found.0.claim.part booked)) found.0.claim.singles instance found.2).0;
    }
confirmed_answered book instance (inr one) =
    let found = flat_at recurring_in (filter (is_confirmed book.taken) book.answers) one.series one.among in
    record {
      answer = found.0;
      among = (filter_at (is_confirmed book.taken) book.answers found.0 found.1).0;
      asks = inr (one.series.meeting, series_of found.0.claim.part found.0.claim.series one.series found.2, one.is);
    }

-- ---- an outcome names such keys

outcome_texts : (book : Book) (outcome : Outcome) → ((instance : Instance) → Confirms book instance → IsTextKey instance.key) → Decides book outcome → IsTextOutcome outcome
outcome_texts book Accept text decides = tt
outcome_texts book (Busy first second t) text (few, names) =
    (subst IsTextKey names.first_is (text names.a names.of_first), subst IsTextKey names.second_is (text names.b names.of_second))
outcome_texts book SeriesLimit text decides = tt
outcome_texts book SinglesLimit text decides = tt

some_there : (claims : List Claim) (claim : Claim) → Contains claims claim → IsTrue (nat_lt 0 (length claims))
some_there claims claim (k, within, is) = lt-ltb 0 (length claims) (omega (arith, within))

module _ (room : List ℕ) (zone : Option Zone) (before : Book) (claims : List Claim) (moment : ℤ) (outcome : Outcome) (after : Book)
    (all : AllAsked room zone claims) (step : IsStep before claims moment outcome after) (keeps : KeepsAll room zone before) where
  abbrev asked_now : List Claim
  asked_now = asked before.taken after.taken claims

  abbrev accepted : Book
  accepted = if_accepted before claims moment after.taken

  each_asked : (answer : PartAnswer) → Contains accepted.answers answer → IsAskedToSet room zone answer.claim
  each_asked answer c = elim (Contains-append_cases before.answers (answered moment Accept asked_now) answer c) [
    | inl was ↦ record { asked = keeps.each answer was; set = keeps.set answer was }
    | inr now ↦
        let is = new_answer before.taken after.taken moment Accept claims answer now in
        record { asked = all.each answer.claim is.among; set = is.set }
  ]

  -- what would be confirmed if each that is asked were accepted
  confirmed_text : (instance : Instance) → Confirms accepted instance → IsTextKey instance.key
  confirmed_text instance confirms =
      let found = confirmed_answered accepted instance confirms in
      text_key room zone found.answer.claim (each_asked found.answer found.among) instance found.asks

  step_texts : AreTextAnswers before → AreTextAnswers after
  step_texts texts answer c =
      let among = subst (λ (answers : List PartAnswer). Contains answers answer) step.answers c in
      elim (Contains-append_cases before.answers (answered moment outcome asked_now) answer among) [
        | inl was ↦ texts answer was
        | inr now ↦
            let (claim, there, is) = map_at (λ (claim : Claim). record { claim = claim; moment = moment; outcome = outcome }) asked_now answer now in
            let decides = step.decided (some_there asked_now claim there) in
            subst (λ (one : PartAnswer). IsTextOutcome one.outcome) is (outcome_texts accepted outcome confirmed_text decides)
      ]

-- ---- over every run

run_texts : (room : List ℕ) (zone : Option Zone) (before : Book) (ds : List Delivery) (after : Book) → ((d : Delivery) → Contains ds d → IsDelivered room zone d) → Runs before ds after
    → KeepsAll room zone before → AreTextAnswers before → AreTextAnswers after
run_texts room z before [] after delivered runs keeps texts = subst AreTextAnswers (sym runs) texts
run_texts room zone before (d ∷ ds) after delivered (mid, outcome, step, runs) keeps texts =
    let all = delivered_asked room zone d (delivered d (in_head d ds)) in
    run_texts room zone mid ds after (λ x c. delivered x (in_tail d ds x c)) runs
    (keeps_step room zone before d.claims d.moment outcome mid all step keeps)
    (step_texts room zone before d.claims d.moment outcome mid all step keeps texts)

pub reached_texts : (room : List ℕ) (zone : Option Zone) (book : Book) → IsReached room zone book → AreTextAnswers book
reached_texts room zone book reached =
    run_texts room zone _ reached.deliveries book reached.delivered reached.runs (keeps_none room zone) (λ answer c. absurd (none_in_nil answer c))
