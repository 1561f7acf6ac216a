-- At which line of a VEVENT a property is refused.
use Rattle.std.proofs.Common.{◌≡◌, ℕ, zero, suc, ◌<◌, Bool, true, false, List, [], ◌∷◌, ◌++◌, codes, cond, filter, get_or, length, map, subst, sym, refl, arith, inl, inr, Option}
use Rattle.std.specs.Prelude.{Some, None, is_some, IfSome, Contains, Result, Ok, Err, IfOk, IfErr, IsTrue, MatchResult, OnErr}
use Rattle.ical_lines.specs.Fault.{RefusesAt, RefusesBy, RefusesOnly, RefusesWhere, IsPlacedAt, IsFaultAt}
use Rattle.ical_lines.specs.Text.{line_text, numbered}
use Rattle.ical_lines.specs.declared.fault.Fault.{Fault}
use Rattle.ical_lines.specs.declared.fault.Fault.TheVariants.{Refused, Memory}
use Rattle.ical_lines.specs.declared.fault.Refusal.{Refusal}
use Rattle.ical_lines.specs.declared.line.Line.{Line}
use Rattle.ical_lines.proofs.FaultLemmas.{placed_where, fault_where}
use Rattle.ical_tree.specs.Own.{own_lines, numbered_own}
use Rattle.ical_tree.specs.declared.properties.Properties.{Properties}
use Rattle.ical_tree.proofs.OneLine.{the_line}
use Rattle.ical_tree.proofs.OwnLemmas.{is_among, texts_of_own}
use Rattle.ical_values.specs.Refused.{IfRefused}
use Rattle.ical_values.proofs.Exits.{err_both}
use Rattle.profile.specs.faults.Blame.{IsSecond, Numbered, texts_of_numbered}
use Rattle.profile.specs.series.ZoneBlame.{NumberedZone}
use Rattle.profile.specs.text.Lines.{line_value}
use Rattle.profile.specs.events.EventBlame as blame
use Rattle.profile.specs.events.EventBlame.{EventBlame, IsWrong, may_have}
use Rattle.profile.specs.events.EventComponents as profile
use Rattle.profile.specs.events.EventComponents.{Method, is_named_by, is_once, missing_number, occurs_once, presence, property_name}
use Rattle.profile.specs.events.Properties.{is_of, IsMissing, IsNoAddress, OccursAtMostOnce}
use Rattle.std.proofs.lemmas.List.Elements.{Contains-append_right}
use Rattle.cal_events.specs.Blame.{IsZoneLine}
use Rattle.cal_events.specs.Occurrences.{IsAtSaid, IsLineNamed, IsListLine, IsRecurringLine}
use Rattle.cal_events.specs.declared.event_rule.SaidRule.{SaidRule}
use Rattle.cal_events.specs.declared.occurrences.Listing.TheVariants.{Additions}
use Rattle.cal_events.specs.declared.occurrences.SaidInstant.{SaidInstant}
use Rattle.cal_events.specs.Property.{property_said, IsLineOf}
use Rattle.cal_events.specs.declared.property.Property.{Property}
use Rattle.cal_events.specs.declared.property.Property.TheVariants.{Attendee}

-- ---- what the lines of a property say

-- what a filter keeps passes its test
passes : {A : Type 0} (test : A → Bool) (xs : List A) (x : A) → Contains (filter test xs) x → test x ≡ true
passes test [] x (k, w, e) = absurd (omega (arith, w))
passes {A} test (y ∷ ys) x h = go (passes test ys x) (test y) refl h
  where
    go : (Contains (filter test ys) x → test x ≡ true) → (b : Bool) → test y ≡ b → Contains (cond b (y ∷ filter test ys) (filter test ys)) x → test x ≡ true
    go rest false e c = rest c
    go rest true e (zero, w, is) = subst (λ z. test z ≡ true) is e
    go rest true e (suc k, w, is) = rest (k, omega (arith, w), is)

-- the one line of a property is of it
pub line_of_property : (property : Property) (event : Numbered) (lines : List (List ℕ)) (line : Line) → Contains event.lines (numbered line)
    → OccursAtMostOnce (property_name (property_said property)) lines (Some (line_text line)) → IsLineOf property event line
line_of_property property event lines line among once =
    (among, passes (λ l. is_named_by l (property_said property)) lines (line_text line) (the_line (property_name (property_said property)) lines (line_text line) once))

-- ---- how a VEVENT is blamed

pub twice_blamed : (m : Option Method) (zones : List NumberedZone) (property : profile.Property) (event : Numbered) {at : ℕ} → occurs_once property ≡ true
    → IsSecond (λ line. is_named_by line property) event.lines at → EventBlame m zones event 61 at
twice_blamed m zones property event once second = blame.twice property once second

pub missing_blamed : (m : Option Method) (zones : List NumberedZone) (property : profile.Property) (own : Properties) (refusal : Refusal)
    → is_once (presence property m) ≡ true → IsMissing (property_name property) (own_lines own) → refusal.number ≡ missing_number property → refusal.line ≡ own.begun
    → EventBlame m zones (numbered_own own) refusal.number refusal.line
missing_blamed m zones property own refusal once none number line =
    let none : IsMissing (property_name property) (texts_of_numbered (numbered_own own).lines) =
    subst (λ (lines : List (List ℕ)). IsMissing (property_name property) lines) (sym (texts_of_own own.lines.items)) none in
    rw (number, line) (blame.missing property once none)

-- a value that was read of a line of a property
pub alone_blamed : (m : Option Method) (zones : List NumberedZone) (property : Property) (event : Numbered) (line : Line) → IsLineOf property event line
    → (refusal : Refusal) → IsWrong (property_said property) (line_text line) refusal.number → refusal.line ≡ line.number
    → EventBlame m zones event refusal.number refusal.line
alone_blamed m zones property event line (among, named) refusal wrong at =
    rw at (blame.alone (property_said property) (record { line = line_text line; among = among; holds = (named, wrong) }))

pub placed_blamed : {T : Type 0} (m : Option Method) (zones : List NumberedZone) (property : Property) (event : Numbered) (line : Line) → IsLineOf property event line
    → (read : Result T Refusal) (placed : Refusal) → IsPlacedAt line.number read placed
    → IfErr read (λ e. IsWrong (property_said property) (line_text line) e.number) → EventBlame m zones event placed.number placed.line
placed_blamed m zones property event line is read placed so wrong =
    let h = placed_where (IsWrong (property_said property) (line_text line)) line.number read placed so wrong in
    alone_blamed m zones property event line is placed h.0 h.1

pub fault_blamed : {T : Type 0} (m : Option Method) (zones : List NumberedZone) (property : Property) (event : Numbered) (line : Line) → IsLineOf property event line
    → (read : Result T Fault) (placed : Fault) → IsFaultAt line.number read placed
    → IfErr read (RefusesBy (IsWrong (property_said property) (line_text line))) → RefusesWhere (EventBlame m zones event) placed
fault_blamed m zones property event line is read placed so wrong =
    go placed (fault_where (IsWrong (property_said property) (line_text line)) line.number read placed so wrong)
  where
    go : (f : Fault) → RefusesWhere (λ n at. IsWrong (property_said property) (line_text line) n × (at ≡ line.number)) f → RefusesWhere (EventBlame m zones event) f
    go Memory h = tt
    go (Refused r) h = alone_blamed m zones property event line is r h.0 h.1

-- ---- what a reading says says what was placed

-- the numbers stay as they were
pub ok_placed : {T E : Type 0} (Q : E → Type 0) (placed read : Result T E) (P : T → Type 0) → MatchResult placed (λ value. read ≡ Ok value) Q → IfOk read P → IfOk placed P
ok_placed Q (Ok value) read P so holds = subst (λ found. IfOk found P) so holds
ok_placed Q (Err e) read P so holds = tt

pub if_err : {T E : Type 0} (P : T → Type 0) (Q R : E → Type 0) (r : Result T E) → MatchResult r P Q → ((e : E) → Q e → R e) → IfErr r R
if_err P Q R (Ok value) h f = tt
if_err P Q R (Err e) h f = f e h

pub fault_number : {T : Type 0} (P : ℕ → Type 0) (line : ℕ) (read : Result T Fault) (placed : Fault) → IsFaultAt line read placed → IfErr read (RefusesBy P) → RefusesBy P placed
fault_number P line read placed so holds = go placed (fault_where P line read placed so holds)
  where
    go : (f : Fault) → RefusesWhere (λ n at. P n × (at ≡ line)) f → RefusesBy P f
    go Memory h = tt
    go (Refused r) h = h.0

-- ---- values

pub value_wrong : {T : Type 0} (test : ℕ → Bool) (Q : Type 0) (read : Result T Fault) → IfErr read (RefusesOnly test) → IfErr read (IfRefused Q)
    → IfErr read (RefusesBy (λ n. IsTrue (test n) × Q))
value_wrong test Q read only none = err_both read (RefusesOnly test) (IfRefused Q) (RefusesBy (λ n. IsTrue (test n) × Q)) both only none
  where
    both : (f : Fault) → RefusesOnly test f → IfRefused Q f → RefusesBy (λ n. IsTrue (test n) × Q) f
    both Memory t q = tt
    both (Refused r) t q = (t, q)

pub number_wrong : {T : Type 0} (k : ℕ) (IsNone : List ℕ → Type 0) (read : Result T Refusal) (value line : List ℕ) → value ≡ line_value line → IfErr read (λ e. e.number ≡ k)
    → OnErr read (IsNone value) → IfErr read (λ e. (e.number ≡ k) × IsNone (line_value line))
number_wrong k IsNone (Ok x) value line is number none = tt
number_wrong k IsNone (Err e) value line is number none = (number, subst IsNone is none)

pub attendee_blamed : (m : Option Method) (zones : List NumberedZone) (own : Properties) (items : List Line) (i : ℕ) (x : Line) → items ≡ own.lines.items
    → i < length items → x ≡ get_or items i x → is_named_by (line_text x) profile.ATTENDEE ≡ true → (f : Fault)
    → RefusesBy (λ n. (n ≡ 15) × IsNoAddress (line_text x)) f → RefusesAt (λ at. at ≡ x.number) f → RefusesWhere (EventBlame m zones (numbered_own own)) f
attendee_blamed m zones own items i x are w is named Memory h at = tt
attendee_blamed m zones own items i x are w is named (Refused r) h at =
    let among = subst (λ (lines : List Line). Contains (map numbered lines) (numbered x)) are (is_among items i x w is) in
    alone_blamed m zones Attendee (numbered_own own) x (among, named) r (rw h.0 (refl, h.1)) at

-- ---- what lines have together

pub named_blamed : (m : Option Method) (zones : List NumberedZone) (property : profile.Property) (event : Numbered) (n : ℕ) (refusal : Refusal) → may_have property n ≡ true
    → refusal.number ≡ n → IsLineNamed property event refusal.line → EventBlame m zones event refusal.number refusal.line
named_blamed m zones property event n refusal may is named = rw is (blame.together property may named)

pub recurrence_blamed : (m : Option Method) (zones : List NumberedZone) (event : Numbered) (n : ℕ) (said : Option SaidInstant) (refusal : Refusal) → may_have profile.RECURRENCE-ID n ≡ true
    → IfSome said (λ x. IsLineNamed profile.RECURRENCE-ID event x.line) → (refusal.number ≡ n) × IsAtSaid said refusal.line → EventBlame m zones event refusal.number refusal.line
recurrence_blamed m zones event n None refusal may named (is, at) = cc
recurrence_blamed m zones event n (Some x) refusal may named (is, at) =
    let same : x.line ≡ refusal.line = cc in
    named_blamed m zones profile.RECURRENCE-ID event n refusal may is (subst (IsLineNamed profile.RECURRENCE-ID event) same named)

pub additions_blamed : (m : Option Method) (zones : List NumberedZone) (event : Numbered) (outside : Option ℕ) (refusal : Refusal) → IfSome outside (IsListLine Additions event)
    → (refusal.number ≡ 52) × (outside ≡ Some refusal.line) → EventBlame m zones event refusal.number refusal.line
additions_blamed m zones event outside refusal named (is, at) =
    named_blamed m zones profile.RDATE event 52 refusal refl is (subst (λ found. IfSome found (IsListLine Additions event)) at named)

pub recurring_blamed : (m : Option Method) (zones : List NumberedZone) (event : Numbered) (refusal : Refusal) → refusal.number ≡ 67 → IsRecurringLine event refusal.line
    → EventBlame m zones event refusal.number refusal.line
recurring_blamed m zones event refusal is (inl named) = named_blamed m zones profile.RRULE event 67 refusal refl is named
recurring_blamed m zones event refusal is (inr named) = named_blamed m zones profile.RDATE event 67 refusal refl is named

pub rule_blamed : (m : Option Method) (zones : List NumberedZone) (event : Numbered) (said : SaidRule) → (is_some said.text ≡ true → IsLineNamed profile.RRULE event said.line)
    → (f : Fault) → RefusesWhere (λ n at. (n ≡ 34) × (is_some said.text ≡ true) × (at ≡ said.line)) f → RefusesWhere (EventBlame m zones event) f
rule_blamed m zones event said named Memory h = tt
rule_blamed m zones event said named (Refused r) (is, there, at) = named_blamed m zones profile.RRULE event 34 r refl is (subst (IsLineNamed profile.RRULE event) (sym at) (named there))

-- ---- the zone of a room

pub zone_line_found : (numbers : List (ℕ × List ℕ)) (lines : List (List ℕ)) (line : Line) (at : ℕ) (found : Option Line) → found ≡ Some line
    → IfSome found (λ line. Contains numbers (numbered line)) → OccursAtMostOnce (codes "X-ROOM-ZONE") lines (Some (line_text line)) → at ≡ line.number → IsZoneLine numbers at
zone_line_found numbers lines line at found is among once so =
    let among : Contains numbers (numbered line) = subst (λ (found : Option Line). IfSome found (λ line. Contains numbers (numbered line))) is among in
    rw so (record { line = line_text line; among = among; holds = passes (is_of (codes "X-ROOM-ZONE")) lines (line_text line) (the_line (codes "X-ROOM-ZONE") lines (line_text line) once) })

in_rest_numbered : (before after all : List (ℕ × List ℕ)) (x : ℕ × List ℕ) → all ≡ before ++ x ∷ after → Contains all x
in_rest_numbered before after all x e = subst (λ ls. Contains ls x) (sym e) (Contains-append_right before (x ∷ after) x (zero, omega arith, refl))

pub zone_line_again : (numbers : List (ℕ × List ℕ)) (at : ℕ) → IsSecond (is_of (codes "X-ROOM-ZONE")) numbers at → IsZoneLine numbers at
zone_line_again numbers at second = record {
  line = second.line;
  among = in_rest_numbered second.before second.after numbers (at, second.line) second.are;
  holds = second.named;
}

pub fault_line : {T : Type 0} (P : ℕ → Type 0) (line : ℕ) (read : Result T Fault) (placed : Fault) → IsFaultAt line read placed → P line → RefusesAt P placed
fault_line P line read placed (Memory, is, so) holds = rw so tt
fault_line P line read placed (Refused r, is, so) holds = rw so holds
