use Rattle.clash_check.proofs.SpanLemmas.{certificate_clear}
use Rattle.clash_check.proofs.checking.certificate_means_clear.Goals as goal

pub returns : goal.returns
returns c = λ all text said holds. certificate_clear c.spans_settle.ensures c.residues_settle.ensures.two c.residues_settle.ensures.one all said text holds
