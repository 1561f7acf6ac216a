-- What taking a part did to the view.
use Rattle.std.specs.Prelude.{List, [], ◌∷◌, ◌++◌, IsTrue}
use Rattle.profile.specs.rooms.Revisions.{Part, in_view}
use Rattle.itip_order.specs.declared.held.Freshness.{Freshness}
use Rattle.itip_order.specs.declared.held.Freshness.TheVariants.{Fresh, Same, Stale}

-- what taking the part did to the view of the history
abbrev pub IsFreshness : Freshness → List Part → Part → Type 0
IsFreshness Fresh history part = IsTrue (in_view (history ++ part ∷ []) part) × ¬ IsTrue (in_view history part)
IsFreshness Same history part = IsTrue (in_view (history ++ part ∷ []) part) × IsTrue (in_view history part)
IsFreshness Stale history part = ¬ IsTrue (in_view (history ++ part ∷ []) part)
