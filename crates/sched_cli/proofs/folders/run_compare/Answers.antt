use Rattle.std.proofs.Common.{Ok, refl, inl, inr}
use Rattle.sched_box.specs.Config.{config_hosts}
use Rattle.sched_cli.proofs.RunningLemmas.{runs_none}
use Rattle.sched_cli.proofs.folders.run_compare.Goals as goal

pub returns-in-Err-clause-compares : goal.returns-in-Err-clause-compares
returns-in-Err-clause-compares g c =
    let none = runs_none c.report_read.result c.args.config.now c.in-Err.fault _ _ _ c.report_read.ensures.status c.report_read.ensures.says c.in-Err.ensures.refuses c.in-Err.ensures.none in
    inl (none, refl, refl)

pub returns-in-Ok-compare_box-clause-compares : goal.returns-in-Ok-compare_box-clause-compares
returns-in-Ok-compare_box-clause-compares g c =
    let (closed, spells) = c.in-Ok.ensures.reads in
    inr (record {
      closed = closed;
      hosts = config_hosts c.in-Ok.config;
      spells = spells;
      ended = Ok c.in-Ok-compare_box.found;
      compares = c.in-Ok-compare_box.ensures.compares;
      status_is = c.report_comparison.ensures.status;
      said = c.report_comparison.ensures.says;
    })
