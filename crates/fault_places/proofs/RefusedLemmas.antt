-- The VTIMEZONE that an object is refused for.
use Rattle.std.proofs.Common.{◌≡◌, ◌∙◌, ap, sym, subst, ℕ, suc, true, List, ◌∷◌, arith}
use denote.Ref.{Bor}
use Rattle.std.specs.Prelude.{Option, Some, option_map, Contains}
use Rattle.ical_tree.specs.Tree.{tree_of}
use Rattle.ical_tree.specs.declared.component.Component.{Component}
use Rattle.profile.specs.text.Trees.{Tree}
use Rattle.profile.specs.doors.Uses.{is_time_line}
use Rattle.profile.specs.series.ZoneTexts.{PartsFault, ZoneFault, parts_by, is_part, is_standard, is_daylight}
use Rattle.cal_zones.specs.Read.{HasZoneFault, daylights_of, standards_of, zone_parts}
use Rattle.cal_zones.proofs.PartLemmas.{parts_tree}
use Rattle.fault_places.specs.InTheWay.{IsRefusedAs, NamesRefused, RefusedBy}

same_fault : (a b c x y z : List (List (List ℕ))) (n : ℕ) → a ≡ x → b ≡ y → c ≡ z → PartsFault a b c n → PartsFault x y z n
same_fault a b c x y z n e f g h = rw (e, f, g) at h

-- the fault of a tree, as that of the component
pub fault_of : (c : Component) (n : ℕ) → ZoneFault (tree_of c) n → HasZoneFault c n
fault_of c n h =
    same_fault (parts_by is_part (tree_of c)) (parts_by is_standard (tree_of c)) (parts_by is_daylight (tree_of c)) (zone_parts c) (standards_of c) (daylights_of c) n
    (parts_tree is_part c) (parts_tree is_standard c) (parts_tree is_daylight c) h

-- the name of a parameter
same_text : (r : Option (Bor (List ℕ))) (name : Bor (List ℕ)) (o : Option (List ℕ)) → r ≡ Some name → option_map (λ x. x.now) r ≡ o → o ≡ Some name.now
same_text r name o e f = sym f ∙ ap (option_map (λ x. x.now)) e

same_zone : (r : Option (Bor Component)) (zone : Bor Component) (o : Option Tree) → r ≡ Some zone → option_map (λ z. tree_of z.now) r ≡ o → o ≡ Some (tree_of zone.now)
same_zone r zone o e f = sym f ∙ ap (option_map (λ z. tree_of z.now)) e

-- a line of a VEVENT that does
pub refused_by : (object : Tree) (lines : List (List ℕ)) (line : List ℕ) (n : ℕ) (zone : Component) → Contains lines line → is_time_line line ≡ true → IsRefusedAs object line n zone → RefusedBy object lines n zone
refused_by object lines line n zone among says found = record {
  name = found.name;
  line = line;
  named = record { among = among; says_times = says; in_zone = found.param };
  meant = found.meant;
  fault = found.fault;
}

rest_there : (line x : List ℕ) (rest : List (List ℕ)) → Contains rest x → Contains (line ∷ rest) x
rest_there line x rest (k, w, e) = (suc k, omega (arith, w), e)

pub rest_among : (all left rest : List (List ℕ)) (line : List ℕ) → ((x : List ℕ) → Contains left x → Contains all x) → left ≡ line ∷ rest → (x : List ℕ) → Contains rest x → Contains all x
rest_among all left rest line inside e x there = inside x (subst (λ (l : List (List ℕ)). Contains l x) (sym e) (rest_there line x rest there))

-- what it names has the fault
pub zone_fault : (object : Component) (n : ℕ) (zone : Component) → NamesRefused object n zone → HasZoneFault zone n
zone_fault object n zone (event, there, named, by) = fault_of zone n by.fault

-- so has one that is the same
pub same_tree : (object : Component) (n : ℕ) (zone other : Component) → tree_of other ≡ tree_of zone → NamesRefused object n zone → NamesRefused object n other
same_tree object n zone other same (event, there, named, by) = (
  event,
  there,
  named,
  record {
    name = by.name;
    line = by.line;
    named = by.named;
    meant = by.meant ∙ ap Some (sym same);
    fault = subst (λ t. ZoneFault t n) (sym same) by.fault;
  },
)
