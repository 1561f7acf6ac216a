use Rattle.std.proofs.Common.{◌∙◌, IfOk, ap, subst, sym}
use Rattle.ical_values.specs.Octets.{address_octets}
use Rattle.profile.specs.streams.Worlds.{Storing}
use Rattle.sched_box.specs.Answering.{octets_each}
use Rattle.sched_box.specs.Schedules.{TakesStep, step_said}
use Rattle.sched_box.proofs.schedules.World.effect.Goals as goal

pub returns-in-Store : goal.returns-in-Store
returns-in-Store c =
    let organiser = address_octets c.in-Store.organiser in
    let same = ap step_said c.in-Store.is ∙ ap (λ object. Storing organiser object c.in-Store.now) (sym c.deref.ensures.value) in
    subst (λ step. IfOk c.store.result (λ sent. TakesStep step c.args.self.now c.store.new.self (octets_each sent.items))) (sym same) c.store.ensures
