use Rattle.std.proofs.Common.{◌≡◌, ◌≢◌, ◌∙◌, ℕ, List, ap, sym, subst, map, rules, AllPairs}
use Rattle.std.proofs.lemmas.Iterator.Adapters.{YieldsList-from_vec}
use Rattle.std.proofs.lemmas.Iterator.Consumers.{YieldsList-end}
use Rattle.std.proofs.lemmas.List.{map-id}
use Rattle.ical_values.specs.Octets.{address_octets}
use Rattle.profile.specs.streams.Streams.{addresses, room_in}
use Rattle.sched_box.specs.Settings.{zoned_room}
use Rattle.sched_box.specs.declared.settings.ZonedRoom.{ZonedRoom}
use Rattle.sched_box.proofs.SettingLemmas.{in_given, more_in}
use Rattle.sched_box.proofs.ZoneLemmas.{same_addresses}
use Rattle.sched_box.proofs.config.Config.of.Goals as goal

pub loop-address-preserved : goal.loop-address-preserved
loop-address-preserved c =
    let room : ZonedRoom = record { address = c.in-Some.address; zone = c.zone_of-zone.result } in
    more_in _ _ _ _ room c.loop-address.invariant c.in_ok-push.ensures.items (in_given c.deref.result.now c.args.settings.zones.items room c.deref.ensures.value c.zone_of-zone.ensures)

pub invariant_of-result : goal.invariant_of-result
invariant_of-result c =
    let end = YieldsList-end (YieldsList-from_vec {s = c.into_iter-address-iterator.result} c.args.settings.rooms.items (search rules) (search rules))
    c.loop-address.yielded c.loop-address.address-iterator c.loop-address.yielded_by c.next.result c.next.new.self c.in-None.is c.next.ensures.steps in
    let P : List (List ℕ) → Type 0 = AllPairs ◌≢◌ in
    let all : map zoned_room c.loop-address.rooms.items ≡ map (room_in (map zoned_room c.args.settings.zones.items)) (map address_octets c.args.settings.rooms.items) =
    rw (← end.0, map-id) c.loop-address.invariant in
    record {
      rooms_differ = subst P (sym (ap addresses all ∙ same_addresses (map zoned_room c.args.settings.zones.items) (map address_octets c.args.settings.rooms.items))) c.requires.rooms;
      organisers_differ = c.requires.organisers;
    }

pub returns-clause-rooms : goal.returns-clause-rooms
returns-clause-rooms c =
    let end = YieldsList-end (YieldsList-from_vec {s = c.into_iter-address-iterator.result} c.args.settings.rooms.items (search rules) (search rules))
    c.loop-address.yielded c.loop-address.address-iterator c.loop-address.yielded_by c.next.result c.next.new.self c.in-None.is c.next.ensures.steps in
    rw (← end.0, map-id) c.loop-address.invariant
