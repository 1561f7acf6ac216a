use Rattle.std.proofs.Common.{map, subst, arith, take, take_all}
use Rattle.profile.specs.streams.Streams.{new_room}
use Rattle.profile.specs.streams.Worlds.{rooms_once}
use Rattle.sched_box.specs.Answering.{AreHosted}
use Rattle.sched_box.specs.Asked.{directory_addresses}
use Rattle.sched_box.specs.Settings.{zoned_room}
use Rattle.sched_box.proofs.HostLemmas.{made_next, none_in}
use Rattle.sched_box.proofs.rooms.Rooms.new.Goals as goal

pub loop-host-init : goal.loop-host-init
loop-host-init c = none_in _ _ c.new-rooms.ensures.items c.new-directory.ensures

pub loop-host-preserved : goal.loop-host-preserved
loop-host-preserved c =
    made_next c.add_room.new.rooms.items (directory_addresses c.add_room.new.directory) c.args.hosts.now c.loop-host.host-index c.host-item.result c.loop-host-test.true c.host-item.is
    (c.in_ok-add_room.ensures (map zoned_room (take c.loop-host.host-index c.args.hosts.now)) c.loop-host.invariant)

pub invariant_of-result : goal.invariant_of-result
invariant_of-result c = record { listed = c.loop-host.invariant.in_order }

pub returns : goal.returns
returns c = record {
  hosted = subst (λ list. AreHosted c.loop-host.rooms.items (map new_room (rooms_once (map zoned_room list)))) (take_all c.loop-host.host-index c.args.hosts.now (omega (arith, c.loop-host-test.false)))
      c.loop-host.invariant.hosted;
}
