-- At which line an object is refused as a message.
-- Cited by first_without_one, method_of, read_events, Message::read.
use Rattle.std.proofs.Common.{◌≡◌, ℕ, zero, suc, ◌<◌, true, List, [], ◌∷◌, ◌++◌, map, length, get_or, sym, ap, subst, refl, codes, Some, arith, Contains, Result, Ok, Err, IfErr}
use Rattle.std.specs.List.{enumerate_from}
use Rattle.std.proofs.lemmas.List.Elements.{Contains-append_right}
use Rattle.ical_lines.specs.Fault.{RefusesAt, RefusesOnly, RefusesWhere}
use Rattle.ical_lines.specs.Text.{line_text, numbered}
use Rattle.ical_lines.specs.declared.fault.Fault.{Fault}
use Rattle.ical_lines.specs.declared.fault.Fault.TheVariants.{Refused, Memory}
use Rattle.ical_lines.specs.declared.fault.Refusal.{Refusal}
use Rattle.ical_lines.specs.declared.line.Line.{Line}
use Rattle.ical_tree.proofs.OneLine.{the_line}
use Rattle.ical_tree.specs.Tree.{ArePlaced, IsObjectOf, component_lines, component_numbered, events_in, zones_in}
use Rattle.ical_tree.specs.declared.component.Component.{Component}
use Rattle.profile.specs.events.EventBlame.{EventsBlame}
use Rattle.profile.specs.events.EventComponents.{Method}
use Rattle.profile.specs.events.Messages.{MethodFault, two_methods, bad_method, NamesMethod}
use Rattle.profile.specs.events.Properties.{is_of, OccursAtMostOnce}
use Rattle.profile.specs.faults.Blame.{IsAt, IsSecond, Numbered}
use Rattle.profile.specs.faults.First.{is_number, text_fault, text_place}
use Rattle.profile.specs.text.Lines.{logical_lines}
use Rattle.profile.specs.text.ObjectBlame.{ObjectBlame}
use Rattle.cal_events.specs.Begins.{begins_of}
use Rattle.cal_events.specs.declared.component.EventComponent.{EventComponent}
use Rattle.cal_zones.proofs.Blamed.{is_named}
use Rattle.itip_messages.specs.Blame.{MessageBlame, MessageTextBlame}
use Rattle.itip_messages.specs.Blame.MessageBlame.{method, in_events, attendee}
use Rattle.itip_messages.specs.Blame.MessageTextBlame.{in_lines, in_tree, in_object}

abbrev IsMethodAt : List (ℕ × List ℕ) → ℕ → Type 0
IsMethodAt numbers at = IsAt numbers at (λ line. is_of (codes "METHOD") line ≡ true)

-- ---- METHOD

pub method_lines : (numbers : List (ℕ × List ℕ)) (at : ℕ) → IsSecond (is_of (codes "METHOD")) numbers at → IsMethodAt numbers at
method_lines numbers at second =
    let later : Contains (second.before ++ (at, second.line) ∷ second.after) (at, second.line) = Contains-append_right second.before ((at, second.line) ∷ second.after) (at, second.line) (zero, omega arith, refl) in
    record { line = second.line; among = subst (λ ls. Contains ls (at, second.line)) (sym second.are) later; holds = second.named }

pub method_line : {T : Type 0} (numbers : List (ℕ × List ℕ)) (lines : List (List ℕ)) (line : Line) (r : Result T Refusal)
    → OccursAtMostOnce (codes "METHOD") lines (Some (line_text line)) → Contains numbers (numbered line) → IfErr r (λ e. e.line ≡ line.number)
    → IfErr r (λ e. IsMethodAt numbers e.line)
method_line numbers lines line (Ok x) once among at = tt
method_line numbers lines line (Err e) once among at =
    rw at (record { line = line_text line; among = among; holds = is_named (codes "METHOD") lines (line_text line) (the_line (codes "METHOD") lines (line_text line) once) })

method_number : (own : List (List ℕ)) (n : ℕ) → MethodFault own n → n ≡ 60
method_number own n (two_methods twice) = refl
method_number own n (bad_method bad) = refl

-- ---- the object

pub method_blamed : (object : Component) (own : List (List ℕ)) (numbers : List (ℕ × List ℕ)) (r : Refusal) → numbers ≡ component_numbered object
    → MethodFault own r.number → IsMethodAt numbers r.line → MessageBlame object r.number r.line
method_blamed object own numbers r same fault at =
    rw (method_number own r.number fault) (method (subst (λ (ns : List (ℕ × List ℕ)). IsMethodAt ns r.line) same at))

pub events_blamed : (object : Component) (m : Method) → NamesMethod (component_lines object) m → (f : Fault)
    → RefusesWhere (EventsBlame (Some m) (zones_in object) (events_in object)) f → RefusesWhere (MessageBlame object) f
events_blamed object m named Memory h = tt
events_blamed object m named (Refused r) h = in_events m named h

-- a number among some is that of one of them
begun_of : (events : List Numbered) (at : ℕ) → Contains (map (λ event. event.begun) events) at → (event : Numbered) × Contains events event × (event.begun ≡ at)
begun_of [] at (k, w, e) = absurd (omega (arith, w))
begun_of (event ∷ events) at (zero, w, e) = (event, (zero, omega arith, refl), e)
begun_of (event ∷ events) at (suc k, w, e) =
    let there = begun_of events at (k, omega (arith, w), e) in (there.0, (suc there.1.0, omega (arith, there.1.1), there.1.2), there.2)

pub attendee_blamed : (object : Component) (begins : List ℕ) (r : Refusal) → begins ≡ map (λ event. event.begun) (events_in object) → r.number ≡ 64 → Contains begins r.line
    → MessageBlame object r.number r.line
attendee_blamed object begins r same is among =
    let there = begun_of (events_in object) r.line (subst (λ (bs : List ℕ). Contains bs r.line) same among) in
    rw (is, sym there.2) (attendee there.0 there.1)

pub begun_among : (events : List EventComponent) (i : ℕ) (x : EventComponent) → i < length events → x ≡ get_or events i x → Contains (begins_of events) x.begun
begun_among [] i x w e = absurd (omega (arith, w))
begun_among (y ∷ ys) zero x w e = (zero, omega arith, ap (λ z. z.begun) (sym e))
begun_among (y ∷ ys) (suc i) x w e = let there = begun_among ys i x (omega (arith, w)) e in (suc there.0, omega (arith, there.1), there.2)

-- ---- the octets

pub lines_blamed : (octets : List ℕ) (f : Fault) → RefusesOnly (is_number (text_fault true octets)) f → RefusesAt (λ line. line ≡ text_place true octets) f
    → RefusesWhere (MessageTextBlame octets) f
lines_blamed octets Memory first at = tt
lines_blamed octets (Refused r) first at = rw at (in_lines first)

pub tree_blamed : (octets : List ℕ) (lines : List (List ℕ)) (f : Fault) → lines ≡ logical_lines octets → RefusesWhere (ObjectBlame true lines) f
    → RefusesWhere (MessageTextBlame octets) f
tree_blamed octets lines Memory same h = tt
tree_blamed octets lines (Refused r) same h = in_tree (subst (λ (ls : List (List ℕ)). ObjectBlame true ls r.number r.line) same h)

pub object_blamed : {T : Type 0} (octets : List ℕ) (object : Component) (r : Result T Fault) → IsObjectOf true object (logical_lines octets)
    → ArePlaced (enumerate_from 1 (logical_lines octets)) object → IfErr r (RefusesWhere (MessageBlame object)) → IfErr r (RefusesWhere (MessageTextBlame octets))
object_blamed octets object (Ok x) is there h = tt
object_blamed octets object (Err Memory) is there h = tt
object_blamed octets object (Err (Refused r)) is there h = in_object object is there h
