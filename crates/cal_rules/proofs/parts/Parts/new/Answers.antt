use Rattle.std.proofs.Common.{refl}
use Rattle.cal_rules.proofs.Taking.{none_taken}
use Rattle.cal_rules.proofs.parts.Parts.new.Goals as goal

pub returns : goal.returns
returns c = none_taken _ refl refl refl refl refl refl refl refl refl refl
