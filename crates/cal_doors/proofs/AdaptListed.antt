-- With a list of VTIMEZONEs the same takes the place of what a name means as without. For `changes_by`.
use Rattle.std.proofs.Common.{ℕ, Bool, List, inl, inr}
use Rattle.std.specs.Prelude.{Option, None, String}
use Rattle.profile.specs.text.Trees.{Tree}
use Rattle.profile.specs.series.Zones.{Zone}
use Rattle.profile.specs.doors.Adapting.{IsMeant, TakesPlace}
use Rattle.cal_zones.specs.Kinds.{zone_of}
use Rattle.cal_doors.specs.Adapted.{AreChanges}
use Rattle.cal_doors.specs.declared.uses.Use.{Use}
use Rattle.cal_doors.specs.declared.choice.Choice.{Choice}

still_meant : (listed : Option Tree) (object : Tree) (name : List ℕ) (meant : Tree) → IsMeant None object name meant → IsMeant listed object name meant
still_meant listed object name meant (inl own) = inl own
still_meant listed object name meant (inr none) = absurd none.1

still_taken : (listed : Option Tree) (object : Tree) (name : List ℕ) (some : Bool) (other : Zone) → TakesPlace None object name some other → TakesPlace listed object name some other
still_taken listed object name some other t = record {
  meant = t.meant;
  is_meant = still_meant listed object name t.meant t.is_meant;
  zone = t.zone;
  says = t.says;
  first = t.first;
  from_first = t.from_first;
  last = t.last;
  to_last = t.to_last;
  same = t.same;
  sides = t.sides;
}

pub still_changes : {X Y : Type 0} (listed : Option Tree) (object : Tree) (uses : List (String X × Use)) (changes : List (String Y × Choice)) → AreChanges None object uses changes
    → AreChanges listed object uses changes
still_changes listed object uses changes c = record {
  used = c.used;
  unread = c.unread;
  replaced = λ name choice there. still_taken listed object name choice.goes_on (zone_of choice.zone) (c.replaced name choice there);
  kept = c.kept;
}
