use Rattle.ical_tree.specs.Tree.{component_children}
use Rattle.profile.specs.text.Lines.{is_same_name}
use Rattle.cal_zones.proofs.PartLemmas.{FoundSofar}
use Rattle.cal_zones.proofs.parts.only_named.Given as goal

abbrev pub invariant-loop-child : goal.invariant-loop-child
invariant-loop-child l = FoundSofar (λ n. is_same_name n l.name) (component_children l.zone) l.child-index l.found
