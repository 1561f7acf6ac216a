use Rattle.std.proofs.Common.{◌≡◌, ◌∙◌, subst, arith, of_z, w32}
use Rattle.std.proofs.lemmas.Bool.Decides.{nat_tests}
use Rattle.profile.specs.text.Values.{IsOffset}
use Rattle.cal_zones.proofs.Casts.{same_offset}
use Rattle.cal_doors.proofs.run.Run.sets.Goals as goal

pub returns : goal.returns
returns c = λ h x is.
    let run = c.args.self.now in
    let same : of_z w32 run.offset_to ≡ of_z w32 c.args.offset = grind (arith, nat_tests) in
    is.is.after ∙ run.after ∙ same_offset run.offset_to c.args.offset (subst IsOffset run.after run.observance.to) c.ranges.offset same
