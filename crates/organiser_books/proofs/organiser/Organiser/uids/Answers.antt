use Rattle.std.specs.Map.{keys_of}
use Rattle.organiser_books.proofs.Showing.{are_uids, one_more_key, all_keys}
use Rattle.organiser_books.proofs.organiser.Organiser.uids.Goals as goal

pub loop-uid-preserved : goal.loop-uid-preserved
loop-uid-preserved c =
    one_more_key c.loop-uid.uids.items c.push.new.self.items c.loop-uid.uid-iterator c.next.new.self (keys_of c.args.self.now.meetings.entries) c.in-Some.uid c.in_ok-push.ensures.items
    c.in-Some.ensures.steps c.loop-uid.invariant

pub returns : goal.returns
returns c =
    are_uids c.args.self.now c.loop-uid.uids.items c.sort.new.uids.items
    (all_keys c.loop-uid.uids.items c.loop-uid.uid-iterator (keys_of c.args.self.now.meetings.entries) c.in-None.ensures.steps.0 c.loop-uid.invariant) c.keys-uid-items.ensures.unique c.sort.ensures.same c.sort.ensures.rises
