use Rattle.std.proofs.Common.{arith}
use Rattle.cal_doors.proofs.UsesLines.{seconds_alone}
use Rattle.cal_doors.proofs.uses.duration_end.Goals as goal

pub returns : goal.returns
returns c = λ days seconds s.
    let length = c.in-Ok.length in
    seconds_alone c.args.text.now length.days length.seconds c.in-Ok.ensures.reads (omega (arith, c.if-length-gt0.false)) days seconds s
