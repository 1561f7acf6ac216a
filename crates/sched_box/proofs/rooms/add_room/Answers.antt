use Rattle.sched_box.specs.Asked.{directory_addresses}
use Rattle.sched_box.specs.Settings.{zoned_room}
use Rattle.sched_box.proofs.HostLemmas.{one_in, one_there}
use Rattle.sched_box.proofs.rooms.add_room.Goals as goal

pub returns-then-not-is_new : goal.returns-then-not-is_new
returns-then-not-is_new c =
    λ done made. one_there c.args.rooms.now.items (directory_addresses c.args.directory.now) (directory_addresses c.add.new.self) done (zoned_room c.args.host.now) c.in_ok-is_new.is_new c.in_ok-is_new.ensures c.if-not-is_new.true made

pub returns : goal.returns
returns c =
    λ done made. one_in c.args.rooms.now.items c.push.new.self.items (directory_addresses c.args.directory.now) (directory_addresses c.add.new.self) done c.in_ok-room.room (zoned_room c.args.host.now)
    c.in_ok-room.ensures c.in_ok-is_new.is_new c.in_ok-is_new.ensures c.if-not-is_new.false c.in_ok-push.ensures.items made
