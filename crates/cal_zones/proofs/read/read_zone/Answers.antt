use Rattle.std.proofs.Common.{◌≡◌, sym, subst, ℤ, to_z, of_z, w32, Some, None}
use Rattle.ical_tree.specs.Tree.{component_name, component_lines, component_children, numbered_of, zone_of_component}
use Rattle.profile.specs.series.Zones.{Zone}
use Rattle.profile.specs.series.ZoneTexts.{is_part, PartsSay, KeepsOffset, Strays, TimesFault, no_part, constant}
use Rattle.profile.specs.series.ZoneTexts as texts
use Rattle.cal_zones.specs.Onsets.{observance_of}
use Rattle.cal_zones.specs.Read.{HasZoneFault, SomeTimesFault, zone_parts, standards_of, daylights_of}
use Rattle.cal_zones.proofs.Casts.{narrow}
use Rattle.cal_zones.proofs.Blamed.{where_exit, in_part}
use Rattle.cal_zones.proofs.Reading.{fault_exit, some_times_fault}
use Rattle.profile.specs.series.ZoneBlame.{PartBlame, ZoneBlame}
use Rattle.cal_zones.proofs.PartLemmas.{found_in, find_among, nothing_in}
use Rattle.cal_zones.proofs.read.read_zone.Goals as goal

pub returns-in_default-clause-fault : goal.returns-in_default-clause-fault
returns-in_default-clause-fault c = rw c.at.ensures (no_part (nothing_in is_part (component_children c.args.zone.now) None c.in_default.ensures))

pub returns-in_err-first-clause-fault : goal.returns-in_err-first-clause-fault
returns-in_err-first-clause-fault c =
    let part = component_lines c.in-Some.part.now in
    fault_exit _ (HasZoneFault c.args.zone.now) (TimesFault part) _ (λ n h. texts.in_part part (found_in is_part (component_children c.args.zone.now) (Some c.in-Some.part) c.in-Some.ensures) h) c.from_residual.ensures.1 c.in_err-first.ensures.fault

pub returns-in_err-first-clause-at : goal.returns-in_err-first-clause-at
returns-in_err-first-clause-at c =
    let zone = c.args.zone.now in
    let part = c.in-Some.part.now in
    where_exit _ (ZoneBlame (zone_of_component zone)) (PartBlame (numbered_of part)) _ (λ n at h. in_part zone part n at (find_among (λ c. is_part (component_name c)) (component_children zone) part (sym c.in-Some.ensures)) h) c.from_residual.ensures.1 c.in_err-first.ensures.at

pub returns-in_err-all_keep-clause-fault : goal.returns-in_err-all_keep-clause-fault
returns-in_err-all_keep-clause-fault c =
    let zone = c.args.zone.now in
    fault_exit _ (HasZoneFault zone) (SomeTimesFault (zone_parts zone)) _ (some_times_fault (zone_parts zone) (standards_of zone) (daylights_of zone))
    c.from_residual-in_err-all_keep.ensures.1 c.in_err-all_keep.ensures.fault

pub returns-then-branch-clause-says : goal.returns-then-branch-clause-says
returns-then-branch-clause-says c =
    let zone = c.args.zone.now in
    let first = c.in_ok-first.first in
    let same : to_z w32 (of_z w32 first.offset_from) ≡ first.offset_from = narrow first.offset_from first.from in
    let keeps = c.in_ok-all_keep.ensures.yes c.if-branch.true in
    subst (λ (z : Zone). PartsSay (zone_parts zone) (standards_of zone) (daylights_of zone) z) (sym c.keeping.ensures)
    (record {
      form = constant first.offset_from (component_lines c.in-Some.part.now) (found_in is_part (component_children c.args.zone.now) (Some c.in-Some.part) c.in-Some.ensures) (λ other there. subst (λ (z : ℤ). KeepsOffset z other) same (keeps other there));
      matched = tt;
      spaced = tt;
    })

pub read_changing-requires : goal.read_changing-requires
read_changing-requires c =
    let first = c.in_ok-first.first in
    let same : to_z w32 (of_z w32 first.offset_from) ≡ first.offset_from = narrow first.offset_from first.from in
    let other = c.in_ok-all_keep.ensures.no c.if-branch.false in
    record {
      one = component_lines c.in-Some.part.now;
      other = other.0;
      o = observance_of first;
      one_in = (found_in is_part (component_children c.args.zone.now) (Some c.in-Some.part) c.in-Some.ensures);
      other_in = other.1;
      says = c.in_ok-first.ensures.says;
      strays = subst (λ (z : ℤ). Strays z other.0) same other.2;
    }
