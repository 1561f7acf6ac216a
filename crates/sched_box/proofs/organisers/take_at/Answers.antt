use Rattle.std.proofs.Common.{◌∙◌, ap, subst}
use Rattle.std.proofs.lemmas.Result.{IfErr-weaker, IfOk-weaker}
use Rattle.ical_lines.specs.Fault.{RefusesBy}
use Rattle.ical_values.specs.Refused.{IfRefused}
use Rattle.organiser_books.specs.Representation.{address_of}
use Rattle.organiser_books.specs.declared.organiser.Organiser.{Organiser}
use Rattle.sched_box.specs.Answering.{octets_each}
use Rattle.sched_box.specs.Organising.{KeepsBook, OrganiserRefuses, OrganiserTakes}
use Rattle.sched_box.proofs.OrganiserLemmas.{taken_at, refused_at, kept_at, same_addresses}
use Rattle.sched_box.proofs.organisers.take_at.Goals as goal

pub returns-clause-takes : goal.returns-clause-takes
returns-clause-takes c =
    let object = c.args.object.now in
    let d = c.index_mut.result.now in
    let new = c.take_object.new.organiser in
    IfOk-weaker c.take_object.result _ _
    (λ sent takes. taken_at c.args.now object c.args.organisers.now.items c.args.place d new (octets_each sent.items) c.requires.within c.requires.named
    (c.take_object.ensures.address ∙ ap address_of c.index_mut.ensures.value) (subst (λ (o : Organiser). OrganiserTakes c.args.now object o new (octets_each sent.items)) c.index_mut.ensures.value takes))
    c.take_object.ensures.takes

pub returns-clause-fault : goal.returns-clause-fault
returns-clause-fault c =
    let d = c.index_mut.result.now in
    IfErr-weaker c.take_object.result _ _
    (λ f h. refused_at c.args.object.now c.args.organisers.now.items c.args.place d f c.requires.within c.requires.named (subst (λ (o : Organiser). RefusesBy (OrganiserRefuses c.args.object.now o) f) c.index_mut.ensures.value h))
    c.take_object.ensures.fault

pub returns-clause-keeps : goal.returns-clause-keeps
returns-clause-keeps c =
    let d = c.index_mut.result.now in
    let new = c.take_object.new.organiser in
    IfErr-weaker c.take_object.result _ _
    (λ f h. kept_at c.args.organisers.now.items c.args.place d new f (c.take_object.ensures.address ∙ ap address_of c.index_mut.ensures.value) (subst (λ (o : Organiser). IfRefused (KeepsBook o new) f) c.index_mut.ensures.value h))
    c.take_object.ensures.keeps

pub returns-clause-addresses : goal.returns-clause-addresses
returns-clause-addresses c =
    same_addresses c.args.organisers.now.items c.args.place c.index_mut.result.now c.take_object.new.organiser (c.take_object.ensures.address ∙ ap address_of c.index_mut.ensures.value)
