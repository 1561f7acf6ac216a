use Rattle.sched_box.proofs.settings.Settings.set_moment.Goals as goal

pub returns-in_default-clause-none : goal.returns-in_default-clause-none
returns-in_default-clause-none c = λ t says can. c.in_default.ensures.none t says
