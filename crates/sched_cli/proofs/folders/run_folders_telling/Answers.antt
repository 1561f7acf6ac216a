use Rattle.std.proofs.Common.{◌∙◌, refl, inl, sym}
use Rattle.sched_box.specs.Config.{config_hosts}
use Rattle.sched_cli.proofs.RunningLemmas.{box_fails, read_fails, runs_none}
use Rattle.sched_cli.proofs.folders.run_folders_telling.Goals as goal

pub returns-in-Err-clause-runs : goal.returns-in-Err-clause-runs
returns-in-Err-clause-runs g c =
    let none = runs_none c.report_read.result c.args.config.now c.in-Err.fault _ _ _ c.report_read.ensures.status c.report_read.ensures.says c.in-Err.ensures.refuses c.in-Err.ensures.none in
    inl (none, refl, refl)

pub returns-in-Err-clause-tells : goal.returns-in-Err-clause-tells
returns-in-Err-clause-tells g c = λ done in_known out_known. absurd (read_fails c.in-Err.fault (sym c.report_read.ensures.status ∙ done))

pub returns-in-Ok-run_box_telling-clause-tells : goal.returns-in-Ok-run_box_telling-clause-tells
returns-in-Ok-run_box_telling-clause-tells g c = λ done in_known out_known.
    let (closed, spells) = c.in-Ok.ensures.reads in
    (closed, config_hosts c.in-Ok.config, spells, c.in-Ok-run_box_telling.ensures.tells in_known out_known)

pub returns-clause-tells : goal.returns-clause-tells
returns-clause-tells g c = λ done in_known out_known. absurd (box_fails c.in-Err-run_box_telling.fault (sym c.report_box.ensures.status ∙ done))
