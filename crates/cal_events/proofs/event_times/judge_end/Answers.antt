use Rattle.std.proofs.Common.{◌≡◌, ◌∙◌, sym, to_z, of_z, w64, to_z-of_z, FitsSigned, rules}
use Rattle.cal_events.specs.Component.{other_form}
use Rattle.cal_events.proofs.event_times_lemmas.TimesLemmas.{forms_differ, forms_same, end_faulty}
use Rattle.cal_events.proofs.event_times.judge_end.Goals as goal

pub returns-then-ne-clause-fault : goal.returns-then-ne-clause-fault
returns-then-ne-clause-fault c =
    let end = c.args.end in
    other_form end (forms_differ end.form c.args.form (sym c.ne.ensures ∙ c.if-ne.true))

pub returns-clause-fault : goal.returns-clause-fault
returns-clause-fault c =
    let end = c.args.end in
    let fits : FitsSigned w64 end.seconds = search rules in
    let kept : to_z w64 (of_z w64 end.seconds) ≡ end.seconds = to_z-of_z fits in
    end_faulty c.length_to.result end _ (forms_same end.form c.args.form (sym c.ne.ensures ∙ c.if-ne.false)) (rw kept at (c.length_to.ensures.fault))
