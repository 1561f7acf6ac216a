use Rattle.std.proofs.Common.{◌≡◌, ◌<◌, sym, subst, List, length, map, option_map}
use Rattle.std.specs.Prelude.{Contains}
use Rattle.ical_tree.specs.Tree.{tree_of}
use Rattle.itip_order.specs.Parts.{revision_of}
use Rattle.profile.specs.events.Messages.{master_in}
use Rattle.profile.specs.rooms.Messages.{own_revision}
use Rattle.cal_events.specs.Component.{component_of}
use Rattle.cal_events.specs.declared.component.EventComponent.{EventComponent}
use Rattle.itip_messages.proofs.message_lemmas.MadeMessage.{instants_there, made, message_said, organiser_given, ready_there, slot_there, slots_there, some_event, stamp_given, written_there}
use Rattle.itip_messages.proofs.message.Message.of.Goals as goal

pub name_of-requires-clause-some : goal.name_of-requires-clause-some
name_of-requires-clause-some c =
    subst (λ (l : List EventComponent). 0 < length l) (sym c.deref.ensures.value) (some_event (tree_of c.args.object.now) c.args.method c.args.events.items c.requires.says)

pub name_of-requires-clause-organised : goal.name_of-requires-clause-organised
name_of-requires-clause-organised c e at =
    organiser_given (tree_of c.args.object.now) c.args.method c.args.events.items c.requires.says e (subst (λ (l : List EventComponent). Contains l e) c.deref.ensures.value at)

pub whole_revision-whole-requires : goal.whole_revision-whole-requires
whole_revision-whole-requires c e at =
    stamp_given (tree_of c.args.object.now) c.args.method c.args.events.items c.requires.says e (subst (λ (l : List EventComponent). Contains l e) c.deref-2.ensures.value at)

pub components_of-requires : goal.components_of-requires
components_of-requires c =
    let object = tree_of c.args.object.now in
    let method = c.args.method in
    let items = c.args.events.items in
    let says = c.requires.says in
    record {
      stamped = stamp_given object method items says;
      dated = slot_there object method items says;
      dated_each = slots_there object method items says;
      ready = ready_there object method items says;
      written = written_there object method items says;
      instants = instants_there object method items says;
    }

-- octets spell the message that it is
pub invariant_of-result : goal.invariant_of-result
invariant_of-result c =
    let object = tree_of c.args.object.now in
    let method = c.args.method in
    let items = c.args.events.items in
    let says = c.requires.says in
    let name = c.in_ok-organiser.ensures in
    let first = subst (λ (l : List EventComponent). Contains l name.0) c.deref.ensures.value name.1 in
    let said = message_said object method items says in
    let spelled = c.requires.spelled said says.2 in
    let whole = subst (λ (l : List EventComponent). option_map revision_of c.whole_revision-whole.result ≡ option_map own_revision (master_in (map component_of l))) c.deref-2.ensures.value c.whole_revision-whole.ensures in
    record {
      read = ∣ record {
        octets = spelled.0;
        said = said;
        spells = spelled.1;
        are = made object method items says _ _ name.0 first name.2 name.3 _ whole _ c.in_ok-components.ensures.says c.in_ok-components.ensures.instances;
      } ∣₁;
    }

pub returns : goal.returns
returns c =
    let object = tree_of c.args.object.now in
    let method = c.args.method in
    let items = c.args.events.items in
    let says = c.requires.says in
    let name = c.in_ok-organiser.ensures in
    let first = subst (λ (l : List EventComponent). Contains l name.0) c.deref.ensures.value name.1 in
    let whole = subst (λ (l : List EventComponent). option_map revision_of c.whole_revision-whole.result ≡ option_map own_revision (master_in (map component_of l))) c.deref-2.ensures.value c.whole_revision-whole.ensures in (
      message_said object method items says,
      says.2,
      made object method items says _ _ name.0 first name.2 name.3 _ whole _ c.in_ok-components.ensures.says c.in_ok-components.ensures.instances,
    )
