use Rattle.sched_cli.proofs.status.report_stream.Goals as goal

pub returns-in-Refused-clause-says : goal.returns-in-Refused-clause-says
returns-in-Refused-clause-says g c = rw c.in-Refused.is c.report_refused.ensures.says
