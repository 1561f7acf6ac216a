-- What an iterator over the instances of an event gives when it is taken to its end.
use Rattle.std.specs.Prelude.{List, [], ◌∷◌, Some, None}
use Rattle.profile.specs.checker.Instances.{Instance as SaidInstance}
use Rattle.cal_events.specs.Calendar.{instance_of}
use Rattle.cal_events.specs.Left.{GivesFirst}
use Rattle.cal_events.specs.declared.instance.Instance.{Instance}
use Rattle.cal_events.specs.declared.instances.Instances.{Instances}

-- it gives these, one after another, and then there is none
pub data GivesAll : Instances → List SaidInstance → Type 0 where
  no_more : (left rest : Instances) → GivesFirst left None rest → GivesAll left []
  one_more : (left rest : Instances) (i : Instance) (others : List SaidInstance) → GivesFirst left (Some i) rest → GivesAll rest others → GivesAll left (instance_of i ∷ others)
