-- The calendar is the one that the certificate holds for, and each key is that of one instance.
use Rattle.clash_check.proofs.FreeLemmas.{free}
use Rattle.clash_check.proofs.law.yes_means_free.Goals as goal

pub returns : goal.returns
returns c =
    free c.certificate_means_clear.ensures c.calendar_series_are_said.ensures c.series_and_singles_divide.ensures.single c.singles_are_confirmed.ensures.keys
