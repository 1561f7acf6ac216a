use Rattle.cal_events.proofs.shared_lemmas.PlaceLemmas.{moved_first}
use Rattle.cal_events.proofs.instances.first_moved.Goals as goal

pub returns : goal.returns
returns c = let e = c.args.event.now in moved_first e.overrides.items e.places e.placed c.args.after c.first.result c.first.ensures
