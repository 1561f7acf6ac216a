use Rattle.std.proofs.Common.{◌∙◌, Ok, Err, refl, sym}
use Rattle.std.proofs.KnownBytes.{Keeps-refl}
use Rattle.sched_devices.proofs.InputLemmas.{for_each}
use Rattle.sched_cli.proofs.Keeping.{not_done}
use Rattle.sched_cli.proofs.commands.run_serve.Goals as goal

pub returns-in-Ok-clause-taken : goal.returns-in-Ok-clause-taken
returns-in-Ok-clause-taken g c = for_each _ _ _ _ _ _ _ c.in-Ok.ensures.taken (λ input left h. record { ended = Ok _; serves = h; status_is = refl; said = Keeps-refl _ })

pub returns-in-Err-clause-taken : goal.returns-in-Err-clause-taken
returns-in-Err-clause-taken g c =
    for_each _ _ _ _ _ _ _ c.in-Err.ensures.taken (λ input left h. record { ended = Err c.in-Err.fault; serves = h; status_is = c.report_stream.ensures.status; said = c.report_stream.ensures.says })

pub returns-in-Err-clause-ended : goal.returns-in-Err-clause-ended
returns-in-Err-clause-ended g c = λ e. absurd (not_done c.in-Err.fault (sym c.report_stream.ensures.status ∙ e))
