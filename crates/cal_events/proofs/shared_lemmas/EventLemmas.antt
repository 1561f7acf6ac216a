-- What the readers of a VEVENT's properties say, put together.
-- Cited by EventComponent::status_of of component, read_attendees of component_values, read_organiser of component_values, read_sequence of component_values, read_stamp of component_values, read_summary of component_values and 10 more.
use Rattle.std.proofs.Common.{◌≡◌, ℕ, zero, suc, ◌+◌, ◌<◌, Bool, true, false, eqb, List, [], ◌∷◌, ◌++◌, length, get_or, drop, drop-cons, add-one, append_assoc, cond, map, codes, subst, sym, refl, ap, ◌∙◌, inl, inr, arith, Option}
use Rattle.std.specs.Prelude.{Option, Some, option_map, unwrap_or, Result, Ok, Err, IfOk, OnOk, Contains, IsTrue}
use Rattle.std.specs.List.{AllZip, find}
use Rattle.std.proofs.lemmas.List.{map-append}
use Rattle.std.proofs.lemmas.List.Elements.{Contains-append_right}
use Rattle.std.proofs.lemmas.Bool.Decides.{nat_tests}
use Rattle.ical_lines.specs.Fault.{RefusesOnly, RefusesBy}
use Rattle.ical_lines.specs.declared.fault.Fault.{Fault}
use Rattle.ical_lines.specs.declared.fault.Fault.TheVariants.{Refused, Memory}
use Rattle.ical_lines.specs.declared.fault.Refusal.{Refusal}
use Rattle.ical_values.specs.Refused.{IfRefused}
use Rattle.ical_values.specs.Octets.{text_octets}
use Rattle.ical_values.specs.declared.text.Text.{Text}
use Rattle.cal_events.specs.declared.component.Attendee.{Attendee}
use Rattle.profile.specs.text.Lines.{line_value}
use Rattle.profile.specs.text.Values.{SpellsSequence, SpellsDuration, SpellsLong, IsUid, unescaped}
use Rattle.profile.specs.text.Trees.{Tree}
use Rattle.profile.specs.events.EventComponents.{SaysSequence, EventComponentFault, IsAttendee, bad_attendee, Method, first_text, summary_of}
use Rattle.profile.specs.events.Properties.{is_of, lines_named, OccursAtMostOnce, SomeLine, Says, IsUidLine, IsNegativeOrLong, IsNoAddress}
use Rattle.cal_events.specs.Component.{attendee_of}
use Rattle.ical_tree.proofs.OneLine.{the_line}

-- ---- faults

-- a fault's one number
is_number : (n k : ℕ) → IsTrue (eqb n k) → n ≡ k
is_number n k h = grind (arith, nat_tests)

-- what a call says that refuses by one number
pub by_number : (f : Fault) (P : ℕ → Type 0) (Q : Type 0) (k : ℕ) → (Q → P k) → RefusesOnly (λ n. eqb n k) f → IfRefused Q f → RefusesBy P f
by_number Memory P Q k g t q = tt
by_number (Refused r) P Q k g t q = subst P (sym (is_number r.number k t)) (g q)

-- ---- lines

pub some_line : (name : List ℕ) (P : List ℕ → Type 0) (lines : List (List ℕ)) (line : List ℕ) → OccursAtMostOnce name lines (Some line) → P line → SomeLine name P lines
some_line name P lines line e p = (line, the_line name lines line e, p)

-- ---- values

pub uid_said : (r : Result Text Fault) (lines : List (List ℕ)) (line value : List ℕ) → OccursAtMostOnce (codes "UID") lines (Some line) → value ≡ line_value line
    → IfOk r (λ t. text_octets t ≡ unescaped value) → OnOk r (IsUid (unescaped value)) → IfOk r (λ t. Says (codes "UID") true IsUidLine lines (Some (text_octets t)))
uid_said (Ok t) lines line value once v h u = record {
  line = Some line;
  once = once;
  present = λ _. refl;
  is = (h ∙ ap unescaped v, subst IsUid (sym h) u);
}
uid_said (Err e) lines line value once v h u = tt

pub sequence_said : (r : Result ℕ Refusal) (lines : List (List ℕ)) (line value : List ℕ) → OccursAtMostOnce (codes "SEQUENCE") lines (Some line) → value ≡ line_value line
    → IfOk r (SpellsSequence value) → IfOk r (SaysSequence lines)
sequence_said (Ok n) lines line value once v h = (
  Some n,
  record { line = Some line; once = once; present = λ _. refl; is = subst (λ (t : List ℕ). SpellsSequence t n) v h },
  refl,
)
sequence_said (Err e) lines line value once v h = tt

-- ---- durations

pub long_length : (line : List ℕ) → SpellsLong (line_value line) → IsNegativeOrLong line
long_length line (d, s, spells, inl h) = inr (record { days = d; seconds = s }, spells, omega arith)
long_length line (d, s, spells, inr h) = inr (record { days = d; seconds = s }, spells, omega arith)

abbrev pub IsNone : List ℕ → Type 0
IsNone text = (days seconds : ℕ) → SpellsDuration text days seconds → ⊥

-- ---- attendees

-- one more line
pub one_more : (name : List ℕ) (line : List ℕ) (left : List (List ℕ)) → is_of name line ≡ true → lines_named name (line ∷ left) ≡ line ∷ lines_named name left
one_more name line left h = ap (λ b. cond b (line ∷ lines_named name left) (lines_named name left)) h

pub push_zip : {A B : Type 0} (R : A → B → Type 0) (xs : List A) (ys : List B) (x : A) (y : B) → AllZip R xs ys → R x y → AllZip R (xs ++ x ∷ []) (ys ++ y ∷ [])
push_zip R [] [] x y h r = (r, tt)
push_zip R [] (b ∷ ys) x y h r = absurd h
push_zip R (a ∷ xs) [] x y h r = absurd h
push_zip R (a ∷ xs) (b ∷ ys) x y h r = (h.0, push_zip R xs ys x y h.1 r)

pub in_rest : (done rest all : List (List ℕ)) (line : List ℕ) → all ≡ done ++ line ∷ rest → Contains all line
in_rest done rest all line e = subst (λ ls. Contains ls line) (sym e) (Contains-append_right done (line ∷ rest) line (zero, omega arith, refl))

-- a line that the loop over all lines comes to
pub one_other : (name : List ℕ) (line : List ℕ) (left : List (List ℕ)) → is_of name line ≡ false → lines_named name (line ∷ left) ≡ lines_named name left
one_other name line left h = ap (λ b. cond b (line ∷ lines_named name left) (lines_named name left)) h

named_next : (name : List ℕ) (all left rest done : List (List ℕ)) (line : List ℕ) → lines_named name all ≡ done ++ lines_named name left → left ≡ line ∷ rest → is_of name line ≡ true
    → lines_named name all ≡ done ++ line ∷ lines_named name rest
named_next name all left rest done line e s h =
    e ∙ ap (λ l. done ++ lines_named name l) s ∙ ap (λ l. done ++ l) (one_more name line rest h)

pub attendee_pushed : (all left rest done : List (List ℕ)) (line : List ℕ) (old new : List Attendee) (a : Attendee)
    → lines_named (codes "ATTENDEE") all ≡ done ++ lines_named (codes "ATTENDEE") left → left ≡ line ∷ rest → is_of (codes "ATTENDEE") line ≡ true
    → AllZip IsAttendee done (map attendee_of old) → new ≡ old ++ a ∷ [] → IsAttendee line (attendee_of a)
    → (x : List (List ℕ)) × (lines_named (codes "ATTENDEE") all ≡ x ++ lines_named (codes "ATTENDEE") rest) × AllZip IsAttendee x (map attendee_of new)
attendee_pushed all left rest done line old new a e s h zip n is = (
  done ++ line ∷ [],
  named_next (codes "ATTENDEE") all left rest done line e s h ∙ sym (append_assoc done (line ∷ []) (lines_named (codes "ATTENDEE") rest)),
  subst (AllZip IsAttendee (done ++ line ∷ [])) (sym (ap (map attendee_of) n ∙ map-append attendee_of old (a ∷ [])))
      (push_zip IsAttendee done (map attendee_of old) line (attendee_of a) zip is),
)

pub attendee_fault : (object : Tree) (m : Option Method) (all left rest done : List (List ℕ)) (line : List ℕ) (f : Fault)
    → lines_named (codes "ATTENDEE") all ≡ done ++ lines_named (codes "ATTENDEE") left → left ≡ line ∷ rest → is_of (codes "ATTENDEE") line ≡ true
    → RefusesBy (λ n. (n ≡ 15) × IsNoAddress line) f → RefusesBy (EventComponentFault object m all) f
attendee_fault object m all left rest done line Memory e s h w = tt
attendee_fault object m all left rest done line (Refused r) e s h w =
    subst (EventComponentFault object m all) (sym w.0)
    (bad_attendee (line, in_rest done (lines_named (codes "ATTENDEE") rest) (lines_named (codes "ATTENDEE") all) line (named_next (codes "ATTENDEE") all left rest done line e s h), w.1))

-- the first element of a kind, from a place on, where the one that is there is none
pub find_drop : {X Y : Type 0} (p : Y → Bool) (g : X → Y) (xs : List X) (i : ℕ) (x : X) → i < length xs → x ≡ get_or xs i x → p (g x) ≡ false
    → find p (map g (drop i xs)) ≡ find p (map g (drop (i + 1) xs))
find_drop p g xs i x w e f =
    rw (add-one, drop-cons xs i x w) (ap (λ b. cond b (Some (g (get_or xs i x))) (find p (map g (drop (suc i) xs)))) (ap (λ y. p (g y)) (sym e) ∙ f))

-- ---- SUMMARY

text_by : (name : List ℕ) (lines : List (List ℕ)) → first_text (lines_named name lines) ≡ unwrap_or (option_map (λ line. unescaped (line_value line)) (find (is_of name) lines)) []
text_by name [] = refl
text_by name (line ∷ lines) = go (is_of name line) (text_by name lines)
  where
    go : (b : Bool) → first_text (lines_named name lines) ≡ unwrap_or (option_map (λ line. unescaped (line_value line)) (find (is_of name) lines)) []
        → first_text (cond b (line ∷ lines_named name lines) (lines_named name lines))
        ≡ unwrap_or (option_map (λ line. unescaped (line_value line)) (cond b (Some line) (find (is_of name) lines))) []
    go true rest = refl
    go false rest = rest

-- what is the first line of a property, and what is there where there is none
pub summary_found : (lines : List (List ℕ)) (found : Option (List ℕ)) → found ≡ find (is_of (codes "SUMMARY")) lines
    → summary_of lines ≡ unwrap_or (option_map (λ line. unescaped (line_value line)) found) []
summary_found lines found e = text_by (codes "SUMMARY") lines ∙ ap (λ (o : Option (List ℕ)). unwrap_or (option_map (λ line. unescaped (line_value line)) o) []) (sym e)
