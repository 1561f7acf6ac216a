use Rattle.std.proofs.Common.{subst}
use Rattle.sched_box.specs.FileNames.{IsNoName}
use Rattle.sched_box.proofs.NameLemmas.{none_exit}
use Rattle.sched_box.proofs.file_names.MessageName.read.Goals as goal

pub returns-in_err-moment : goal.returns-in_err-moment
returns-in_err-moment c = none_exit _ _ _ c.from_residual.ensures (subst IsNoName c.as_str.ensures.value c.in_err-moment.ensures)
