use Rattle.std.proofs.Common.{[]}
use Rattle.cal_events.specs.Recurrence.{recurring}
use Rattle.cal_events.proofs.shared_lemmas.InstanceLemmas.{first_of_both}
use Rattle.cal_events.proofs.instances.first_start.Goals as goal

pub returns-clause-first : goal.returns-clause-first
returns-clause-first c =
    first_of_both (recurring c.args.recurrence.now) [] c.args.after _ _ _ c.first_given-given.ensures.first c.first_added-added.ensures c.lesser.ensures
