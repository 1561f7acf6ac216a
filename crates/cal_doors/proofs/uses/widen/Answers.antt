use Rattle.std.proofs.Common.{◌∙◌}
use Rattle.cal_doors.proofs.UsesTables.{widened}
use Rattle.cal_doors.proofs.uses.widen.Goals as goal

pub returns : goal.returns
returns c =
    widened c.args.name.now c.args.more c.wider-both.result c.in_ok-name.name c.args.uses.now.entries c.insert.new.self.entries c.in_ok-name.ensures.ok c.in_ok-insert.ensures.entries
    c.wider-both.ensures.more (λ u h. c.wider-both.ensures.earlier u (c.get.ensures.value ∙ h))
