-- The message that is made of the events that an object says.
-- Cited by Message::of.
use Rattle.std.proofs.Common.{◌≡◌, ◌∙◌, ℕ, ◌<◌, true, List, [], length, map, refl, sym, ap, arith, Option, Some, IsSome, option_map, unwrap_or}
use Rattle.std.specs.Prelude.{Contains}
use Rattle.std.specs.List.{AllZip}
use Rattle.std.proofs.lemmas.List.{length-map}
use Rattle.ical_values.specs.Octets.{address_octets, text_octets}
use Rattle.ical_values.specs.declared.address.Address.{Address}
use Rattle.ical_values.specs.declared.text.Text.{Text}
use Rattle.itip_order.specs.Parts.{revision_of}
use Rattle.itip_order.specs.declared.part.Revision.{Revision}
use Rattle.profile.specs.text.Trees.{Tree}
use Rattle.profile.specs.events.EventComponents.{AreOfWritten}
use Rattle.profile.specs.events.Messages as profile
use Rattle.profile.specs.events.Messages.{SaysMessage, is_to_rooms, master_in}
use Rattle.profile.specs.rooms.Messages.{own_revision}
use Rattle.cal_events.specs.Component.{component_of, method_said}
use Rattle.cal_events.specs.Said.{IsWritten}
use Rattle.cal_events.specs.declared.component.EventComponent.{EventComponent}
use Rattle.cal_events.specs.declared.method.Method.{Method}
use Rattle.cal_events.proofs.shared_lemmas.InOneOrder.{in_mapped}
use Rattle.itip_messages.specs.declared.message_component.MessageComponent.{MessageComponent}
use Rattle.itip_messages.specs.Body.{IsReady}
use Rattle.itip_messages.specs.Components.{AreMessageEvents, AreOfMessage, HasInstances, IsDated, IsDatedEach, SaysComponent, event_slot}
use Rattle.itip_messages.specs.Message.{SaysEvents}
use Rattle.itip_messages.proofs.message_lemmas.KnownEvents.{of_message, of_organiser}
use Rattle.itip_messages.proofs.shared_lemmas.MessageLemmas as each

module _ (object : Tree) (method : Method) (events : List EventComponent) (s : SaysEvents object (method_said method) (map component_of events)) where
  abbrev pub message_said : profile.Message
  message_said = record { method = method_said method; organiser = s.0; uid = s.1; events = map component_of events }

  known : AreMessageEvents (map component_of events)
  known = of_message object message_said s.2

  pub some_event : 0 < length events
  some_event = let long = length-map events component_of in let some = known.some in omega (arith, long, some)

  pub organiser_given : (event : EventComponent) → Contains events event → IsSome event.organiser
  organiser_given event c = each.organiser_given events known event c

  pub stamp_given : (event : EventComponent) → Contains events event → IsSome event.stamp
  stamp_given event c = each.stamp_given events known event c

  pub slot_there : (event : EventComponent) → Contains events event → IsDated (event_slot event)
  slot_there event c = each.slot_dated events known event c

  pub slots_there : (event : EventComponent) → Contains events event → IsDatedEach (component_of event)
  slots_there event c = each.slots_dated events known event c

  pub ready_there : (event : EventComponent) → Contains events event → IsReady (component_of event)
  ready_there event c = each.event_is_ready events known event c

  pub written_there : (event : EventComponent) → Contains events event → ∥ IsWritten (component_of event) ∥₁
  written_there event c = ∣ each.event_is_written events known event c ∣₁

  pub instants_there : (event : EventComponent) → Contains events event
      → AreOfWritten (component_of event).written (component_of event).recurrence (component_of event).additions (component_of event).exceptions
  instants_there event c = each.event_of_written events known event c

  -- what it is, by the names of one of the events
  pub made : (organiser : Address) (uid : Text) (event : EventComponent) → Contains events event → (component_of event).organiser ≡ Some (address_octets organiser) → (component_of event).uid ≡ text_octets uid
      → (whole : Option Revision) → option_map revision_of whole ≡ option_map own_revision (master_in (map component_of events))
      → (components : List MessageComponent) → AllZip SaysComponent (map component_of events) components
      → (is_to_rooms (method_said method) ≡ true → AllZip HasInstances (map component_of events) components) → AreOfMessage method organiser uid whole components message_said
  made organiser uid event c by named whole whole_is components says instances =
      let names = s.2.are.of_it (component_of event) (in_mapped component_of events event c) in
      record {
        method = refl;
        organiser = ap (λ o. unwrap_or o []) (sym by) ∙ ap (λ (p : List ℕ × List ℕ). p.0) names;
        uid = sym named ∙ ap (λ (p : List ℕ × List ℕ). p.1) names;
        whole_is = whole_is;
        are = s.2.are;
        organised = of_organiser object message_said s.2;
        each = says;
        instances = instances;
      }
