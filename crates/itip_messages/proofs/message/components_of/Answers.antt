use Rattle.itip_messages.specs.Components.{HasInstances, SaysComponent}
use Rattle.itip_messages.proofs.shared_lemmas.MessageLemmas.{next_there, said_more}
use Rattle.itip_messages.proofs.message.components_of.Goals as goal

pub of-requires : goal.of-requires
of-requires c =
    let event = c.in-Some.event in
    let there = next_there c.args.events.items c.loop-event.yielded _ c.next.new.self.rest.items event c.loop-event.invariant.0 c.in-Some.ensures.steps.0 in
    record {
      stamp = c.requires.stamped event there;
      dated = c.requires.dated event there;
      dated_each = c.requires.dated_each event there;
      ready = c.requires.ready event there;
      written = c.requires.written event there;
      instants = c.requires.instants event there;
    }

pub loop-event-preserved : goal.loop-event-preserved
loop-event-preserved c =
    let says = said_more SaysComponent c.args.events.items c.loop-event.yielded _ c.next.new.self.rest.items c.in-Some.event c.loop-event.components.items c.push.new.self.items
    c.in_ok-of.field-0 c.loop-event.invariant.0 c.in-Some.ensures.steps.0 c.loop-event.invariant.1 c.in_ok-of.ensures.says c.in_ok-push.ensures.items in (
      says.0,
      says.1,
      λ to. (said_more HasInstances c.args.events.items c.loop-event.yielded _ c.next.new.self.rest.items c.in-Some.event c.loop-event.components.items c.push.new.self.items
          c.in_ok-of.field-0 c.loop-event.invariant.0 c.in-Some.ensures.steps.0 (c.loop-event.invariant.2 to) (c.in_ok-of.ensures.instances to) c.in_ok-push.ensures.items).1,
    )
