use Rattle.std.proofs.Common.{◌∙◌, sym}
use Rattle.clash_cert.proofs.GroupWords.{cut_found, cut_not_found}
use Rattle.clash_cert.proofs.reading.cut_word.Goals as goal

pub returns-in-Some : goal.returns-in-Some
returns-in-Some c = cut_found c.args.text.now c.split_at.result.0.now c.split_at.result.1.now c.in-Some.end (sym c.first_space.ensures ∙ c.in-Some.is) c.split_at.ensures.front c.split_at.ensures.back

pub returns-in-None : goal.returns-in-None
returns-in-None c = cut_not_found c.args.text.now (sym c.first_space.ensures ∙ c.in-None.is)
