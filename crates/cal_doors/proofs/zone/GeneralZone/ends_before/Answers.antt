use Rattle.std.proofs.Common.{rules, ◌≡◌, subst, to_z, of_z, w64, to_z-of_z}
use Rattle.cal_doors.specs.Found.{general_of}
use Rattle.profile.specs.doors.Adapting.{HasEnd}
use Rattle.cal_doors.proofs.Stated.{one_end}
use Rattle.cal_doors.proofs.zone.GeneralZone.ends_before.Goals as goal

pub returns-in_default-clause-no : goal.returns-in_default-clause-no
returns-in_default-clause-no c = λ _ ends. let end = ends.table_end in c.in_default.ensures.none end.reaches

pub returns-clause-no : goal.returns-clause-no
returns-clause-no c = λ h ends.
    let to : to_z w64 (of_z w64 c.in-Some.to) ≡ c.in-Some.to = to_z-of_z {w = w64} (search rules) in
    let same : ends.to ≡ c.in-Some.to = one_end (general_of c.args.self.now) ends.to c.in-Some.to ends.table_end c.in-Some.ensures.end in
    (rw (c.as_slice.ensures.value, to) at (c.has_end.ensures.no h)) (subst (HasEnd (general_of c.args.self.now)) same ends.has_end)

pub returns-clause-yes : goal.returns-clause-yes
returns-clause-yes c = λ h. record {
  endless = search rules;
  to = c.in-Some.to;
  table_end = c.in-Some.ensures.end;
  has_end =
      let to : to_z w64 (of_z w64 c.in-Some.to) ≡ c.in-Some.to = to_z-of_z {w = w64} (search rules) in
      rw (c.as_slice.ensures.value, to) at (c.has_end.ensures.yes h);
}
