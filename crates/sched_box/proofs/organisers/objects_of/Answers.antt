use Rattle.std.proofs.Common.{◌∙◌, ◌∷◌, ◌++◌, [], ap, sym, rules, map-id}
use Rattle.std.proofs.lemmas.Iterator.Adapters.{YieldsList-from_vec}
use Rattle.std.proofs.lemmas.Iterator.Consumers.{YieldsList-end}
use Rattle.std.proofs.lemmas.List.{map-append}
use Rattle.organiser_books.specs.declared.outgoing.Outgoing.{Outgoing}
use Rattle.sched_box.specs.Answering.{octets_each}
use Rattle.sched_box.proofs.organisers.objects_of.Goals as goal

pub loop-one-init : goal.loop-one-init
loop-one-init c = ap octets_each c.new-objects.ensures.items

pub loop-one-preserved : goal.loop-one-preserved
loop-one-preserved c =
    let octets = λ (one : Outgoing). one.octets.items in
    ap octets_each c.in_ok-push.ensures.items ∙ map-append (λ object. object.items) c.loop-one.objects.items _
    ∙ ap (λ list. list ++ octets c.in-Some.one ∷ []) c.loop-one.invariant ∙ sym (map-append octets c.loop-one.yielded (c.in-Some.one ∷ []))

pub returns : goal.returns
returns c =
    let end = YieldsList-end (YieldsList-from_vec {s = c.into_iter-one-iterator.result} c.args.sent.items (search rules) (search rules))
    c.loop-one.yielded c.loop-one.one-iterator c.loop-one.yielded_by c.next.result c.next.new.self c.in-None.is c.next.ensures.steps in
    rw (← end.0, map-id) c.loop-one.invariant
