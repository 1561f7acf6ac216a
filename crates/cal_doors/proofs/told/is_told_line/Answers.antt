use Rattle.std.proofs.Common.{◌∙◌, sym}
use Rattle.cal_doors.proofs.told.is_told_line.Goals.{then-is_kept, else-is_kept}
use Rattle.cal_doors.proofs.told.is_told_line.Goals as goal

pub returns-then-is_its_instance : goal.returns-then-is_its_instance
returns-then-is_its_instance c = λ told read answer are. elim c.if-is_kept.branch [
  | then-is_kept w ↦ c.is_kept.ensures w.if-is_kept.true read answer
  | else-is_kept w ↦ w.is_its_instance.ensures (sym w.value-is ∙ told) read answer are
]
