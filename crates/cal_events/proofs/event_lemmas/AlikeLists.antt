-- Lists of instances of events that take place alike.
-- Cited by all_instances.
use Rattle.std.proofs.Common.{List, get_or, ℤ}
use Rattle.profile.specs.checker.Instances.{Instance}
use Rattle.profile.specs.events.Events.{Event as Whole}
use Rattle.profile.specs.events.Starts.{AreInstancesFrom}
use Rattle.cal_events.specs.Event.{AreAlike}

pub instances_alike : (one other : Whole) → AreAlike one other → (from : ℤ) (all : List Instance) → AreInstancesFrom one from all → AreInstancesFrom other from all
instances_alike one other same from all h = record {
  each = λ k d w. let x = h.each k d w in ((same (get_or all k d)).0 x.0, x.1);
  ordered = h.ordered;
  all = λ b is after. h.all b ((same b).1 is) after;
}
