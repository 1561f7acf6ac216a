-- The message of a component that lines spell is the message of its tree.
-- Cited by Message::read.
use Rattle.std.proofs.Common.{◌≡◌, ℕ, true, List, subst, sym, inl, inr}
use Rattle.ical_lines.specs.Fault.{RefusesBy}
use Rattle.std.specs.Prelude.{Result, Ok, Err, IfOk, IfErr}
use Rattle.std.specs.Result.{IsErrAnd}
use Rattle.ical_lines.specs.declared.fault.Fault.{Fault}
use Rattle.ical_lines.specs.declared.fault.Fault.TheVariants.{Refused, Memory}
use Rattle.ical_tree.specs.Tree.{IsObjectOf, tree_of}
use Rattle.ical_tree.proofs.TreeOfLemmas.{object_tree}
use Rattle.ical_tree.specs.declared.component.Component.{Component}
use Rattle.profile.specs.text.Lines.{logical_lines, reads_as_lines}
use Rattle.profile.specs.events.Messages.{MessageFault}
use Rattle.itip_messages.specs.declared.message.Message.{Message}
use Rattle.itip_messages.specs.Message.{IsMessageOf, IsSpelled, ReadFault}
use Rattle.ical_tree.specs.Reading.{IsRefusalOf}

-- the message that the octets spell
pub message_spelled : (r : Result Message Fault) (octets : List ℕ) (c : Component) → reads_as_lines true octets ≡ true
    → IsObjectOf true c (logical_lines octets) → IfOk r (IsMessageOf (tree_of c)) → IfOk r (IsSpelled octets)
message_spelled (Ok message) octets c lines object says =
    (says.0, record { lines = lines; tree = tree_of c; object = object_tree true c (logical_lines octets) object; says = says.1 }, says.2)
message_spelled (Err e) octets c lines object says = tt

-- what is refused: out of memory, or a fault of the octets, of the object or of what it says
pub octets_refused : {T : Type 0} (r : Result T Fault) (octets : List ℕ) (f : Fault) → IsErrAnd r (λ e. e ≡ f) → IsRefusalOf true octets f → IfErr r (ReadFault octets)
octets_refused (Ok x) octets f e h = tt
octets_refused (Err g) octets f e h = subst (ReadFault octets) (sym e) (inl h)

fault_there : (octets : List ℕ) (c : Component) (f : Fault) → IsObjectOf true c (logical_lines octets) → RefusesBy (MessageFault (tree_of c)) f → ReadFault octets f
fault_there octets c Memory is h = inr tt
fault_there octets c (Refused x) is h = inr (record { tree = tree_of c; object = object_tree true c (logical_lines octets) is; fault = h })

pub faults_there : {T : Type 0} (r : Result T Fault) (octets : List ℕ) (c : Component) → IsObjectOf true c (logical_lines octets)
    → IfErr r (RefusesBy (MessageFault (tree_of c))) → IfErr r (ReadFault octets)
faults_there (Ok x) octets c object h = tt
faults_there (Err f) octets c object h = fault_there octets c f object h

pub object_refused : {T : Type 0} (r : Result T Fault) (octets : List ℕ) (c : Component) (f : Fault) → IsObjectOf true c (logical_lines octets) → IsErrAnd r (λ e. e ≡ f)
    → RefusesBy (MessageFault (tree_of c)) f → IfErr r (ReadFault octets)
object_refused (Ok x) octets c f is e h = tt
object_refused (Err g) octets c f is e h = subst (ReadFault octets) (sym e) (fault_there octets c f is h)
