use Rattle.std.proofs.Common.{◌≡◌, ◌∙◌, ◌+◌, ◌++◌, ◌∷◌, List, drop, sym, ap, subst, append-nil, arith}
use Rattle.std.specs.List.{AllZip}
use Rattle.std.proofs.lemmas.List.{drop_all, drop_more}
use Rattle.itip_messages.specs.Message.{SaysComponent}
use Rattle.itip_messages.specs.declared.message_component.MessageComponent.{MessageComponent}
use Rattle.organiser_books.proofs.Storing.{one_copied}
use Rattle.organiser_books.proofs.organiser.copies_of.Goals as goal

pub loop-component-init : goal.loop-component-init
loop-component-init c = λ said says. subst (λ (l : List MessageComponent). AllZip SaysComponent said (l ++ c.args.components.now)) (sym c.new-copies.ensures.items) says

pub loop-component-preserved : goal.loop-component-preserved
loop-component-preserved c = λ said says.
    let components = c.args.components.now in
    let i = c.loop-component.component-index in
    let done = c.loop-component.copies.items in
    let component = c.component-item.result in
    let copy = c.in_ok-without_instances.field-0 in
    let left : drop i components ≡ component ∷ drop (i + 1) components =
    drop_more components i component (omega arith) ∙ ap (λ x. x ∷ drop (i + 1) components) (sym c.component-item.is) in
    subst (λ (l : List MessageComponent). AllZip SaysComponent said (l ++ drop (i + 1) components)) (sym c.in_ok-push.ensures.items)
    (one_copied SaysComponent component copy c.in_ok-without_instances.ensures said done (drop (i + 1) components)
    (subst (λ (l : List MessageComponent). AllZip SaysComponent said (done ++ l)) left (c.loop-component.invariant said says)))

pub returns : goal.returns
returns c = λ said says.
    let components = c.args.components.now in
    let i = c.loop-component.component-index in
    let done = c.loop-component.copies.items in
    subst (AllZip SaysComponent said) (ap (λ (l : List MessageComponent). done ++ l) (drop_all i components (omega arith)) ∙ append-nil done) (c.loop-component.invariant said says)
