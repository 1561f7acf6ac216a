-- That no VEVENT of an object has a flaw: one property after another, one VEVENT after another, and the octets.
use Rattle.std.proofs.Common.{◌≡◌, ◌∙◌, ap, sym, refl, subst, ℕ, zero, suc, ◌+◌, ◌<◌, ◌≤◌, Bool, true, false, List, [], ◌∷◌, length, map, filter, get_or, drop, codes, inl, inr, arith}
use Rattle.std.specs.Prelude.{Contains, Option, Some, None, IfNone, ◌⊎◌}
use Rattle.std.proofs.lemmas.List.{drop_more, drop_all}
use Rattle.ical_tree.specs.Tree.{component_name, component_lines, component_children}
use Rattle.ical_tree.specs.declared.component.Component.{Component}
use Rattle.ical_lines.specs.declared.fault.Fault.TheVariants.{Refused}
use Rattle.ical_tree.specs.Reading.{TreeHas}
use Rattle.ical_tree.specs.Tree.{IsObjectOf, tree_of}
use Rattle.ical_tree.proofs.TreeOfLemmas.{object_tree, tree_of-own}
use Rattle.profile.specs.text.Lines.{is_same_name, logical_lines, reads_as_lines, text_has}
use Rattle.profile.specs.text.Objects.{IsObject}
use Rattle.profile.specs.text.Trees.{tree_own, vevents}
use Rattle.profile.specs.events.Messages.{NamesMethod}
use Rattle.cal_events.specs.Component.{is_vevent}
use Rattle.cal_events.proofs.reading_lemmas.OneText.{OneTree, PairsUp}
use Rattle.cal_events.proofs.shared_lemmas.InOneOrder.{of_filtered, of_mapped}
use Rattle.cal_events.proofs.shared_lemmas.ObjectFaults.{has_few_events, has_version_only, no_object}
use Rattle.cal_events.proofs.shared_lemmas.TreeLemmas.{vevents_tree}
use Rattle.profile.specs.events.EventComponents.{Method, Store, Request, Add, Cancel, Reply, Refresh, Property, UID, ORGANIZER, DTSTAMP, SEQUENCE, STATUS, RECURRENCE-ID, DTSTART, DTEND, DURATION, RRULE, RDATE, EXDATE, ATTENDEE, SUMMARY, PresenceFault, twice, missing, is_once, missing_number, occurs_once, presence, properties, property_name}
use Rattle.profile.specs.events.Properties.{IsMissing, SomeLine}
use Rattle.fault_places.specs.EventFlaws.{AreFree, AreRight, HasNoFlaw, IsFree, IsRight, OccursRightly, PropertiesFault, in_presence, end_and_duration}

-- ---- all of a list, from one place on

one_more : {A : Type 0} (P : A → Type 0) (x : A) (xs : List A) → P x → ((y : A) → Contains xs y → P y) → (y : A) → Contains (x ∷ xs) y → P y
one_more P x xs here later y (zero, w, e) = subst P e here
one_more P x xs here later y (suc k, w, e) = later y (k, omega (arith, w), e)

further : {A : Type 0} (P : A → Type 0) (xs : List A) (i : ℕ) (x : A) → i < length xs → x ≡ get_or xs i x → P x → ((y : A) → Contains (drop (i + 1) xs) y → P y) → (y : A) → Contains (drop i xs) y → P y
further P xs i x within here is later y there =
    one_more P x (drop (i + 1) xs) is later y (subst (λ l. Contains l y) (drop_more xs i x within ∙ ap (λ z. z ∷ drop (i + 1) xs) (sym here)) there)

pub if_none : {A : Type 0} (r : Option A) (P Q : Type 0) → (P → Q) → IfNone r P → IfNone r Q
if_none None P Q f h = f h
if_none (Some x) P Q f h = tt

-- ---- the properties of one VEVENT

-- what METHOD asks for occurs at most once
asked_once : (method : Method) (property : Property) → is_once (presence property (Some method)) ≡ true → occurs_once property ≡ true
asked_once method UID e = refl
asked_once method ORGANIZER e = refl
asked_once method DTSTAMP e = refl
asked_once method SEQUENCE e = refl
asked_once method STATUS e = refl
asked_once method RECURRENCE-ID e = refl
asked_once method DTSTART e = refl
asked_once method DTEND e = refl
asked_once method DURATION e = refl
asked_once method RRULE e = refl
asked_once Store RDATE e = cc
asked_once Request RDATE e = cc
asked_once Add RDATE e = cc
asked_once Cancel RDATE e = cc
asked_once Reply RDATE e = cc
asked_once Refresh RDATE e = cc
asked_once method EXDATE e = cc
asked_once Store ATTENDEE e = cc
asked_once Request ATTENDEE e = cc
asked_once Add ATTENDEE e = cc
asked_once Cancel ATTENDEE e = cc
asked_once Reply ATTENDEE e = cc
asked_once Refresh ATTENDEE e = cc
asked_once method SUMMARY e = cc

not_both : (b : Bool) → b ≡ true → b ≡ false → ⊥
not_both b e f = cc

-- one that may occur again has no fault
pub again_right : (method : Method) (lines : List (List ℕ)) (property : Property) → occurs_once property ≡ false → IsRight method lines property
again_right method lines property again = record {
  once = λ e more. not_both (occurs_once property) e again;
  there = λ e n none. not_both (occurs_once property) (asked_once method property e) again;
}

-- one that occurs as it should has none
pub rightly : (method : Method) (lines : List (List ℕ)) (property : Property) (needed : Bool)
    → (is_once (presence property (Some method)) ≡ true → missing_number property ≡ 61 → needed ≡ true) → OccursRightly needed (property_name property) lines → IsRight method lines property
rightly method lines property needed asks is = record {
  once = λ e more. is.once more;
  there = λ e n none. is.there (asks e n) none;
}

pub right_further : {A : Type 0} (said : A → Property) (method : Method) (lines : List (List ℕ)) (xs : List A) (i : ℕ) (d : A) (all : List Property) → i < length xs
    → IsRight method lines (said (get_or xs i d)) → (AreRight method lines (map said (drop i xs)) → AreRight method lines all) → AreRight method lines (map said (drop (i + 1) xs)) → AreRight method lines all
right_further said method lines xs i d all within is so_far later =
    so_far (λ property there. one_more (IsRight method lines) (said (get_or xs i d)) (map said (drop (i + 1) xs)) is later property
    (subst (λ l. Contains l property) (ap (map said) (drop_more xs i d within)) there))

none_at : {A : Type 0} (x : A) → Contains [] x → ⊥
none_at x (k, w, e) = absurd (omega (arith, w))

pub right_all : {A : Type 0} (said : A → Property) (method : Method) (lines : List (List ℕ)) (xs : List A) (i : ℕ) (all : List Property) → length xs ≤ i
    → (AreRight method lines (map said (drop i xs)) → AreRight method lines all) → AreRight method lines all
right_all said method lines xs i all done so_far =
    so_far (λ property there. absurd (none_at property (subst (λ l. Contains (map said l) property) (drop_all i xs done) there)))

-- each property is one of all
listed : (property : Property) → Contains properties property
listed UID = (0, omega arith, refl)
listed ORGANIZER = (1, omega arith, refl)
listed DTSTAMP = (2, omega arith, refl)
listed SEQUENCE = (3, omega arith, refl)
listed STATUS = (4, omega arith, refl)
listed RECURRENCE-ID = (5, omega arith, refl)
listed DTSTART = (6, omega arith, refl)
listed DTEND = (7, omega arith, refl)
listed DURATION = (8, omega arith, refl)
listed RRULE = (9, omega arith, refl)
listed RDATE = (10, omega arith, refl)
listed EXDATE = (11, omega arith, refl)
listed ATTENDEE = (12, omega arith, refl)
listed SUMMARY = (13, omega arith, refl)

none_there : (name : List ℕ) (P : List ℕ → Type 0) (lines : List (List ℕ)) → SomeLine name P lines → IsMissing name lines → ⊥
none_there name P lines (line, there, is) none = none_at line (subst (λ l. Contains l line) none there)

missing_61 : (property : Property) (n : ℕ) → n ≡ missing_number property → (n ≡ 63 → ⊥) → missing_number property ≡ 61
missing_61 UID n e other = refl
missing_61 ORGANIZER n e other = absurd (other e)
missing_61 DTSTAMP n e other = refl
missing_61 SEQUENCE n e other = refl
missing_61 STATUS n e other = refl
missing_61 RECURRENCE-ID n e other = refl
missing_61 DTSTART n e other = refl
missing_61 DTEND n e other = refl
missing_61 DURATION n e other = refl
missing_61 RRULE n e other = refl
missing_61 RDATE n e other = refl
missing_61 EXDATE n e other = refl
missing_61 ATTENDEE n e other = refl
missing_61 SUMMARY n e other = refl

-- where each property is right and DTEND or DURATION is missing, only 63 is left
pub free_of_61 : (method : Method) (n : ℕ) (lines : List (List ℕ)) → (n ≡ 63 → ⊥) → AreRight method lines properties → IsMissing (codes "DTEND") lines ⊎ IsMissing (codes "DURATION") lines → IsFree method n lines
free_of_61 method n lines other right apart fault = go n other fault
  where
    in_one : (n : ℕ) → (n ≡ 63 → ⊥) → PresenceFault (Some method) lines n → ⊥
    in_one n other (twice property single more) = (right property (listed property)).once single more
    in_one n other (missing property asked none) = (right property (listed property)).there asked (missing_61 property (missing_number property) refl other) none

    go : (n : ℕ) → (n ≡ 63 → ⊥) → PropertiesFault method lines n → ⊥
    go n other (in_presence fault) = in_one n other fault
    go n other (end_and_duration end duration) = beside apart
      where
        beside : IsMissing (codes "DTEND") lines ⊎ IsMissing (codes "DURATION") lines → ⊥
        beside (inl none) = none_there (codes "DTEND") (λ _. Unit {0}) lines end none
        beside (inr none) = none_there (codes "DURATION") (λ _. Unit {0}) lines duration none

-- 63 is that of a missing ORGANIZER alone
pub free_of_63 : (method : Method) (n : ℕ) (lines : List (List ℕ)) → n ≡ 63 → OccursRightly true (codes "ORGANIZER") lines → IsFree method n lines
free_of_63 method n lines is right fault = go n is fault
  where
    of_organizer : (property : Property) → missing_number property ≡ 63 → IsMissing (property_name property) lines → ⊥
    of_organizer ORGANIZER e none = right.there refl none
    of_organizer UID e none = absurd (omega (arith, e))
    of_organizer DTSTAMP e none = absurd (omega (arith, e))
    of_organizer SEQUENCE e none = absurd (omega (arith, e))
    of_organizer STATUS e none = absurd (omega (arith, e))
    of_organizer RECURRENCE-ID e none = absurd (omega (arith, e))
    of_organizer DTSTART e none = absurd (omega (arith, e))
    of_organizer DTEND e none = absurd (omega (arith, e))
    of_organizer DURATION e none = absurd (omega (arith, e))
    of_organizer RRULE e none = absurd (omega (arith, e))
    of_organizer RDATE e none = absurd (omega (arith, e))
    of_organizer EXDATE e none = absurd (omega (arith, e))
    of_organizer ATTENDEE e none = absurd (omega (arith, e))
    of_organizer SUMMARY e none = absurd (omega (arith, e))

    in_one : (n : ℕ) → n ≡ 63 → PresenceFault (Some method) lines n → ⊥
    in_one n e (twice property single more) = absurd (omega (arith, e))
    in_one n e (missing property asked none) = of_organizer property e none

    go : (n : ℕ) → n ≡ 63 → PropertiesFault method lines n → ⊥
    go n e (in_presence fault) = in_one n e fault
    go n e (end_and_duration end duration) = absurd (omega (arith, e))

-- ---- the VEVENTs

pub free_further : (method : Method) (n : ℕ) (children : List Component) (i : ℕ) (c : Component) → i < length children → c ≡ get_or children i c → IsFree method n (component_lines c)
    → (AreFree method n (drop i children) → AreFree method n children) → AreFree method n (drop (i + 1) children) → AreFree method n children
free_further method n children i c within here is so_far later =
    so_far (further (λ event. is_same_name (component_name event) (codes "VEVENT") ≡ true → IsFree method n (component_lines event)) children i c within here (λ _. is) later)

pub free_past : (method : Method) (n : ℕ) (children : List Component) (i : ℕ) (c : Component) → i < length children → c ≡ get_or children i c → is_same_name (component_name c) (codes "VEVENT") ≡ false
    → (AreFree method n (drop i children) → AreFree method n children) → AreFree method n (drop (i + 1) children) → AreFree method n children
free_past method n children i c within here other so_far later =
    so_far (further (λ event. is_same_name (component_name event) (codes "VEVENT") ≡ true → IsFree method n (component_lines event)) children i c within here
    (λ named. absurd (not_both (is_same_name (component_name c) (codes "VEVENT")) named other)) later)

pub free_all : (method : Method) (n : ℕ) (children : List Component) (i : ℕ) → length children ≤ i → (AreFree method n (drop i children) → AreFree method n children) → AreFree method n children
free_all method n children i done so_far =
    so_far (λ event there named. absurd (none_at event (subst (λ l. Contains l event) (drop_all i children done) there)))

-- ---- the octets

-- these faults have no number but 61 and 63
pub no_other : (octets : List ℕ) (n : ℕ) → (n ≡ 61 → ⊥) → (n ≡ 63 → ⊥) → HasNoFlaw octets n
no_other octets n one other object reads is method named lines there fault = go n one other fault
  where
    in_one : (n : ℕ) → (n ≡ 61 → ⊥) → (n ≡ 63 → ⊥) → PresenceFault (Some method) lines n → ⊥
    in_one n one other (twice property single more) = one refl
    in_one n one other (missing property asked none) = one (missing_61 property (missing_number property) refl other)

    go : (n : ℕ) → (n ≡ 61 → ⊥) → (n ≡ 63 → ⊥) → PropertiesFault method lines n → ⊥
    go n one other (in_presence fault) = in_one n one other fault
    go n one other (end_and_duration end duration) = one refl

abbrev ReadsFine : Type 0
ReadsFine = (bounded : Bool) (octets : List ℕ) (number : ℕ) → reads_as_lines bounded octets ≡ true → text_has bounded number octets ≡ false

-- octets that are no object have none
pub no_lines : ReadsFine → (octets : List ℕ) (n m : ℕ) → text_has true m octets ≡ true → HasNoFlaw octets n
no_lines fine octets n m has object reads is method named lines there fault = not_both (text_has true m octets) has (fine true octets m reads)

pub no_tree : OneTree → PairsUp → ReadsFine → (octets : List ℕ) (text : List (List ℕ)) (n m : ℕ) → text ≡ logical_lines octets → TreeHas true m text → HasNoFlaw octets n
no_tree one pairs fine octets text n m same has object reads is method named lines there fault =
    no_object octets (λ _. ⊥) (has_version_only one octets object is) (has_few_events one octets object is)
    (λ k h. not_both (text_has true k octets) h (fine true octets k reads))
    (λ k h. pairs true object (logical_lines octets) k is h)
    (Refused (record { number = m; line = 0 })) (inr (subst (TreeHas true m) same has))

-- an object whose VEVENTs have none has none
pub no_flaw : OneTree → (octets : List ℕ) (text : List (List ℕ)) (whole : Component) (n : ℕ) → text ≡ logical_lines octets → IsObjectOf true whole text
    → ((method : Method) → NamesMethod (component_lines whole) method → AreFree method n (component_children whole)) → HasNoFlaw octets n
no_flaw one octets text whole n same spelled free object reads is method named lines there fault =
    let tree : IsObject true (tree_of whole) (logical_lines octets) = object_tree true whole (logical_lines octets) (subst (IsObjectOf true whole) same spelled) in
    let alike : object ≡ tree_of whole = one 7 7 (logical_lines octets) object (tree_of whole) is.spelled tree.spelled in
    let own = subst (λ (ls : List (List ℕ)). NamesMethod ls method) (ap tree_own alike ∙ tree_of-own whole) named in
    let among = subst (λ (ls : List (List (List ℕ))). Contains ls lines) (ap vevents alike ∙ vevents_tree whole) there in
    let event = of_mapped component_lines (filter is_vevent (component_children whole)) lines among in
    let child = of_filtered is_vevent (component_children whole) event.0 event.1 in
    free method own event.0 child.0 child.1 (subst (λ (ls : List (List ℕ)). PropertiesFault method ls n) (sym event.2) fault)
