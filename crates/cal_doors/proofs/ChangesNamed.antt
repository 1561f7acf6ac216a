-- What a name means at the door, and which parts a VTIMEZONE has. For `meant`, `has_part` and `need_of`.
use Rattle.std.proofs.Common.{◌≡◌, ◌∙◌, ap, sym, refl, subst, ℕ, List, inl, inr, Bor}
use Rattle.std.specs.Prelude.{Option, Some, None, option_map}
use Rattle.ical_tree.specs.Tree.{tree_of}
use Rattle.ical_tree.specs.declared.component.Component.{Component}
use Rattle.profile.specs.text.Trees.{Tree}
use Rattle.profile.specs.series.Zones.{Zone}
use Rattle.profile.specs.series.ZoneTexts.{SaysZone}
use Rattle.profile.specs.events.ZonedTimes.{zone_named, SaysZoneOf}
use Rattle.profile.specs.doors.Adapting.{SaysNothing, IsListedZone, IsSameFor, SetsBack, IsZoneUnread}
use Rattle.profile.specs.series.GeneralZones.{Run}
use Rattle.profile.specs.series.GeneralZoneTexts.{SaysGeneralZone}
use Rattle.cal_zones.specs.Kinds.{zone_of}
use Rattle.cal_doors.specs.Adapted.{listed_of, IsZoneReadable, IsNeeded, IsMeantZone, IsUseFor}
use Rattle.cal_doors.specs.declared.changes.Need.TheVariants.{Nothing, Change}
use Rattle.cal_doors.specs.declared.uses.Use.{Use}
use Rattle.cal_doors.specs.declared.choice.Choice.{Choice}
use Rattle.cal_doors.specs.declared.named.NamedZones.{NamedZones}

abbrev pub Lines : Type 0
Lines = List (List ℕ)

abbrev pub tree_at : Bor Component → Tree
tree_at c = tree_of c.now

-- the VTIMEZONE of the object has a part
pub own_meant : (listed : Option Tree) (name : List ℕ) (own : Option (Bor Component)) (part : Bor Component) (zone : List Run) → own ≡ Some part
    → (SaysNothing (Some (tree_of part.now)) → ⊥) → SaysGeneralZone (tree_of part.now) zone → (object : Tree) → option_map tree_at own ≡ zone_named name object
    → IsMeantZone listed object name zone
own_meant listed name own part zone is some says object e = (tree_of part.now, inl (sym (ap (option_map tree_at) (sym is) ∙ e), some), says)

-- it says nothing, or there is none
pub listed_meant : (listed : Option (Bor NamedZones)) (name : List ℕ) (own : Option (Bor Component)) (zones : Bor NamedZones) (part : Bor Component) (zone : List Run)
    → listed ≡ Some zones → SaysNothing (option_map tree_at own) → zone_named name (tree_of zones.now.object.now) ≡ Some (tree_of part.now)
    → SaysGeneralZone (tree_of part.now) zone → (object : Tree) → option_map tree_at own ≡ zone_named name object → IsMeantZone (listed_of listed) object name zone
listed_meant listed name own zones part zone is nothing found says object e =
    (tree_of part.now, inr (subst SaysNothing e nothing, subst (λ (l : Option (Bor NamedZones)). IsListedZone (listed_of l) name (tree_of part.now)) (sym is) found), says)

-- a room reads what the name means, or doesn't
says_some : (o : Option Tree) (said : Zone) → SaysZoneOf o said → (part : Tree) × (o ≡ Some part) × SaysZone part said
says_some None said h = absurd h
says_some (Some part) said h = (part, refl, h)

pub is_readable : (object : Tree) (name : List ℕ) (own : Option (Bor Component)) → option_map tree_at own ≡ zone_named name object
    → (said : Zone) × SaysZoneOf (option_map tree_at own) said → IsZoneReadable object name
is_readable object name own e said =
    let w = says_some (option_map tree_at own) said.0 said.1 in
    (w.0, said.0, sym e ∙ w.1, w.2)

pub is_unread : (object : Tree) (name : List ℕ) (own : Option (Bor Component)) → option_map tree_at own ≡ zone_named name object
    → ((said : Zone) → SaysZoneOf (option_map tree_at own) said → ⊥) → IsZoneUnread object name
is_unread object name own e none = subst (λ (o : Option Tree). (said : Zone) → SaysZoneOf o said → ⊥) e none

-- ---- what has to be done

pub nothing_needed : (listed : Option Tree) (object : Tree) (name : List ℕ) (own : Option (Bor Component)) → option_map tree_at own ≡ zone_named name object
    → (said : Zone) × SaysZoneOf (option_map tree_at own) said → IsNeeded listed object name Nothing
nothing_needed listed object name own e said = is_readable object name own e said

pub change_needed : (listed : Option Tree) (object : Tree) (name : List ℕ) (own : Option (Bor Component)) (u : Use) (zone : List Run) (c : Choice)
    → option_map tree_at own ≡ zone_named name object → ((said : Zone) → SaysZoneOf (option_map tree_at own) said → ⊥) → IsUseFor object name u
    → ((other : Tree) → option_map tree_at own ≡ zone_named name other → IsMeantZone listed other name zone) → IsSameFor zone (zone_of c.zone) c.goes_on u.first u.last
    → SetsBack (zone_of c.zone) → IsNeeded listed object name (Change c)
change_needed listed object name own u zone c e none about means same sides =
    let m = means object e in (
      is_unread object name own e none,
      record {
        meant = m.0;
        is_meant = m.1;
        zone = zone;
        says = m.2;
        first = u.first;
        from_first = about.from_first;
        last = u.last;
        to_last = about.to_last;
        same = same;
        sides = sides;
      },
    )
