use Rattle.cal_events.proofs.shared_lemmas.HiddenLemmas.{all_admitted}
use Rattle.cal_events.proofs.recurrence.Recurrence.of.Goals as goal

pub invariant_of-result : goal.invariant_of-result
invariant_of-result c = record {
  steady = c.requires;
  added = all_admitted c.args.additions.now _ _ c.in_ok-additions.ensures;
  ascending = c.of-exceptions.ensures.ascending;
}
