use Rattle.std.proofs.Common.{◌∙◌, take, sym, ap, max}
use Rattle.organiser_books.specs.Storing.{own_in}
use Rattle.itip_order.specs.declared.part.Revision.{Revision}
use Rattle.organiser_books.proofs.Loops.{one_more}
use Rattle.organiser_books.proofs.Sends.{own_push}
use Rattle.organiser_books.proofs.sequence.own_sequence.Goals as goal

pub loop-component-preserved : goal.loop-component-preserved
loop-component-preserved c =
    let components = c.args.components.now in
    let place = c.loop-component.component-index in
    let component = c.component-item.result in
    c.max-greatest.ensures ∙ ap (max c.loop-component.greatest) (c.number.ensures.value ∙ ap (λ (r : Revision). r.sequence) c.revision.ensures) ∙ ap (λ n. max n component.revision.sequence) c.loop-component.invariant
    ∙ sym (own_push (take place components) component) ∙ ap own_in (sym (one_more components place component c.loop-component-test.true c.component-item.is))
