use Rattle.sched_box.proofs.SettingLemmas.{if_refused, is_configuration, has_moment}
use Rattle.sched_box.proofs.config.Config.read.Goals as goal

pub returns-in_ok-of-in-None-clause-reads : goal.returns-in_ok-of-in-None-clause-reads
returns-in_ok-of-in-None-clause-reads c =
    is_configuration _ _ c.in_ok-settings.ensures.reads c.in-None.is _ c.in_ok-of-in-None.ensures.rooms c.in_ok-of-in-None.ensures.organisers

pub returns-in-Some-clause-none : goal.returns-in-Some-clause-none
returns-in-Some-clause-none c = if_refused _ c.refused.result (has_moment _ _ _ c.in_ok-settings.ensures.reads c.in-Some.is)
