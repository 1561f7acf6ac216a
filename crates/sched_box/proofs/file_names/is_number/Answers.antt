use Rattle.std.proofs.Common.{◌∙◌, sym}
use Rattle.sched_box.proofs.NameLemmas.{digits_known, digits_shown}
use Rattle.sched_box.proofs.file_names.is_number.Goals as goal

pub returns-then-octets-eq8 : goal.returns-then-octets-eq8
returns-then-octets-eq8 c = (λ t. (c.if-octets-eq8.true, digits_shown _ (sym c.all_digits.ensures ∙ t)), λ (eight, all). c.all_digits.ensures ∙ digits_known _ all)
