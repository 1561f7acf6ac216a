use Rattle.sched_box.proofs.NameLemmas.{none_is_no_name}
use Rattle.sched_box.proofs.file_names.is_no_message.Goals as goal

pub returns : goal.returns
returns c = none_is_no_name c.moment_of.result c.args.name.now c.is_none.result c.moment_of.ensures c.is_none.ensures
