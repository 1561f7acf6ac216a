use Rattle.std.proofs.lemmas.Result.{err_from_is_err_and}
use Rattle.sched_devices.proofs.InputLemmas.{for_both, for_each}
use Rattle.sched_box.proofs.ServingLemmas.{stream_all, stream_none, stream_told, stream_until, stream_whole}
use Rattle.sched_box.proofs.serving.serve_stream_telling.Goals as goal

pub returns-in_err-config-clause-taken : goal.returns-in_err-config-clause-taken
returns-in_err-config-clause-taken g c =
    let p = err_from_is_err_and c.from_residual.result c.from_residual.ensures.1 in
    rw (p.1, p.2)
    (for_each _ _ _ _ _ _ _ c.in_err-config.ensures.taken_not (λ input left h. stream_none _ input left (g.W.Output.contents c.args.writer.now) c.in_err-config.ensures.faults h))

pub returns-in_err-report-clause-taken : goal.returns-in_err-report-clause-taken
returns-in_err-report-clause-taken g c =
    let p = err_from_is_err_and c.from_residual-in_err-report.result c.from_residual-in_err-report.ensures.1 in
    rw (p.1, p.2)
    (for_both _ _ _ _ _ _ _ _ _ g.met.R.Input.takes_more g.met.R.Input.takes_follows c.in_ok-config.ensures.taken c.in_err-report.ensures.taken
    (λ a b d opens h follows. stream_until _ _ a b d _ _ opens _ h))

pub returns-clause-taken : goal.returns-clause-taken
returns-clause-taken g c =
    for_both _ _ _ _ _ _ _ _ _ g.met.R.Input.takes_more g.met.R.Input.takes_follows c.in_ok-config.ensures.taken c.in_ok-report.ensures.taken
    (λ a b d opens h follows. stream_all _ _ a b d _ _ opens _ h)

pub returns-clause-answers : goal.returns-clause-answers
returns-clause-answers g c = for_each _ _ _ _ _ _ _ (returns-clause-taken g c) (λ input left h. stream_whole input left _ _ _ h)

pub returns-clause-taken_told : goal.returns-clause-taken_told
returns-clause-taken_told g c =
    for_both _ _ _ _ _ _ _ _ _ g.met.R.Input.takes_more g.met.R.Input.takes_follows c.in_ok-config.ensures.taken c.in_ok-report.ensures.taken_told
    (λ a b d opens h follows. stream_told _ _ a b d _ _ opens g.J.Journal.tells _ _ _ h)
