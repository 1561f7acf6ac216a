use Rattle.std.proofs.Common.{◌≡◌, ◌∙◌, subst, arith, of_z, w32}
use Rattle.std.proofs.lemmas.Bool.Decides.{nat_tests}
use Rattle.profile.specs.text.Values.{IsOffset}
use Rattle.cal_zones.proofs.Casts.{same_offset}
use Rattle.cal_doors.proofs.run.Run.ends.Goals as goal

pub returns : goal.returns
returns c = λ h x is.
    let run = c.args.self.now in
    let same : of_z w32 run.offset_from ≡ of_z w32 c.args.offset = grind (arith, nat_tests) in
    is.is.before ∙ run.before ∙ same_offset run.offset_from c.args.offset (subst IsOffset run.before run.observance.from) c.ranges.offset same
