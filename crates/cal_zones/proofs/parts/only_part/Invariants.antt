use Rattle.ical_tree.specs.Tree.{component_children}
use Rattle.profile.specs.series.ZoneTexts.{is_part}
use Rattle.cal_zones.proofs.PartLemmas.{FoundSofar}
use Rattle.cal_zones.proofs.parts.only_part.Given as goal

abbrev pub invariant-loop-child : goal.invariant-loop-child
invariant-loop-child l = FoundSofar is_part (component_children l.zone) l.child-index l.only
