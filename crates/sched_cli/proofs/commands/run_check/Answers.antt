use Rattle.sched_cli.proofs.CheckSaid.{check_done, check_unwritten}
use Rattle.sched_cli.proofs.commands.run_check.Goals as goal

pub returns-in-Err-clause-said : goal.returns-in-Err-clause-said
returns-in-Err-clause-said g c = check_unwritten c.args.calendar.now _ _ _ _ _ c.report_write.ensures.status c.report_write.ensures.says

pub returns-in-Ok-print_verdict-clause-said : goal.returns-in-Ok-print_verdict-clause-said
returns-in-Ok-print_verdict-clause-said g c = check_done c.args.calendar.now _ _ _ _ c.close_check.ensures.range c.close_check.ensures.quiet c.close_check.ensures.said
