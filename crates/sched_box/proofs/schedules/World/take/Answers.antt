use Rattle.std.proofs.Common.{◌∙◌, ap, refl}
use Rattle.std.proofs.lemmas.List.{map-append}
use Rattle.sched_box.specs.Answering.{octets_each}
use Rattle.sched_box.specs.Schedules.{step_said}
use Rattle.sched_box.specs.declared.schedules.World.{World}
use Rattle.sched_box.proofs.ScheduleLemmas.{leads_on}
use Rattle.sched_box.proofs.schedules.World.take.Goals as goal

pub returns : goal.returns
returns c =
    let mid = c.effect.new.self in
    let sent = c.in_ok-sent.sent.items in
    let new : World = record { alloc = mid.alloc; rooms = mid.rooms; organisers = mid.organisers; sent = c.append.new.self } in
    leads_on (step_said c.args.step.now) c.args.self.now mid new (octets_each sent) c.in_ok-sent.ensures refl refl
    (ap octets_each c.in_ok-append.ensures.items ∙ map-append (λ object. object.items) mid.sent.items sent)
