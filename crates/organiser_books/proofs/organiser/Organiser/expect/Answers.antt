use Rattle.std.proofs.Common.{rules, false, ◌≡◌, ◌∙◌, sym, subst, true}
use Rattle.std.specs.Str.{bytes_eq}
use Rattle.std.proofs.lemmas.Bool.{both_ways, not-true}
use Rattle.ical_values.specs.Octets.{address_octets}
use Rattle.cal_events.specs.Component.{method_said}
use Rattle.cal_events.specs.contracts.method.MethodPartialEq.TheImpl as methods
use Rattle.organiser_books.specs.Calls.CallFault.{other_kind, other_organiser}
use Rattle.organiser_books.proofs.Lines.{same_itself}
use Rattle.organiser_books.proofs.Taking.{methods_differ}
use Rattle.organiser_books.proofs.organiser.Organiser.expect.Goals as goal

pub returns-then-ne-clause-fault : goal.returns-then-ne-clause-fault
returns-then-ne-clause-fault c = λ said is book.
    other_kind (λ same. methods_differ c.args.object.now.method c.args.method (subst (λ m. methods.eq-value.it m c.args.method ≡ false) c.method.ensures (not-true _ (sym c.ne.ensures ∙ c.if-ne.true))) (is.method ∙ same))

pub returns-then-ne-2-clause-fault : goal.returns-then-ne-2-clause-fault
returns-then-ne-2-clause-fault c = λ said is book.
    let kind : method_said c.args.object.now.method ≡ method_said c.args.method = search rules in
    other_organiser (sym is.method ∙ kind) (λ same. both_ways _ (subst (λ a. bytes_eq (address_octets a) (address_octets c.args.self.now.address) ≡ false) c.organiser.ensures (not-true _ (sym c.ne-2.ensures ∙ c.if-ne-2.true))) (subst (λ a. bytes_eq (address_octets c.args.object.now.organiser) a ≡ true) (is.organiser ∙ same) (same_itself (address_octets c.args.object.now.organiser))))
