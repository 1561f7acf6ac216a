-- What the table of an object's VTIMEZONEs has of a name.
use Rattle.std.proofs.Common.{◌≡◌, ap, refl}
use Rattle.std.specs.Prelude.{Option, Some, None, option_map}
use denote.Ref.{Bor}
use Rattle.ical_tree.specs.Tree.{tree_of}
use Rattle.ical_tree.specs.declared.component.Component.{Component}
use Rattle.profile.specs.events.Properties.{BothOrNeither}

abbrev pub IsThat : Component → Bor Component → Type 0
IsThat c zone = zone.now ≡ c

-- ---- what the table has of a name

pub there : (f : Option Component) (zone : Bor Component) → BothOrNeither IsThat f (Some zone) → Some (tree_of zone.now) ≡ option_map tree_of f
there (Some c) zone h = ap (λ x. Some (tree_of x)) h
there None zone h = absurd h

pub not_there : (f : Option Component) → BothOrNeither {B = Bor Component} IsThat f None → None ≡ option_map tree_of f
not_there None h = refl
not_there (Some c) h = absurd h
