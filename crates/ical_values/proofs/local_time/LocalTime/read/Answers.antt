use Rattle.ical_values.proofs.local_time.LocalTime.read.Goals as goal

pub returns-in-None-clause-none : goal.returns-in-None-clause-none
returns-in-None-clause-none c = λ seconds s. c.in-None.ensures.none seconds (rw c.as_bytes.ensures.value s)
