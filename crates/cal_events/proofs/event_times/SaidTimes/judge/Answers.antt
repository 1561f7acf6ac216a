use Rattle.std.proofs.Common.{◌≡◌, subst, inl, inr, to_z, of_z, w64, FitsSigned, to_z-of_z, rules}
use Rattle.std.proofs.lemmas.Result.{IfErr-weaker}
use Rattle.profile.specs.events.EventBlame.{EventBlame}
use Rattle.profile.specs.events.ZonedTimes.{SaysEventTimes, SaysNoStart, SaysTimes}
use Rattle.cal_events.specs.Component.{times_of}
use Rattle.cal_events.specs.declared.event_times.SaidTimes.{SaidTimes}
use Rattle.cal_events.specs.declared.event_times.SaidTimes.TheVariants.{From}
use Rattle.cal_events.specs.Zoned.{AreLinesSaid, AreSaidBy}
use Rattle.cal_events.proofs.event_times_lemmas.TimesLemmas.{ok_so, extent_blamed, start_blamed}
use Rattle.cal_events.proofs.event_times.SaidTimes.judge.Goals as goal

pub returns-in-From-clause-says : goal.returns-in-From-clause-says
returns-in-From-clause-says c may object lines a =
    let fits : FitsSigned w64 c.in-From.instant = search rules in
    let kept : to_z w64 (of_z w64 c.in-From.instant) ≡ c.in-From.instant = to_z-of_z fits in
    let said : AreSaidBy may object lines (From c.in-From.start c.in-From.instant c.in-From.in_dates c.in-From.extent c.in-From.lines) = subst (λ (x : SaidTimes). AreSaidBy may object lines x) c.in-From.is a in
    ok_so _ (λ times. SaysEventTimes object lines (times_of times)) (λ times. SaysTimes may object lines (times_of times)) (λ times h. inl h) (c.judge_from.ensures.says object lines (rw kept said))

pub returns-in-From-clause-fault : goal.returns-in-From-clause-fault
returns-in-From-clause-fault c may object lines a =
    let fits : FitsSigned w64 c.in-From.instant = search rules in
    let kept : to_z w64 (of_z w64 c.in-From.instant) ≡ c.in-From.instant = to_z-of_z fits in
    let said : AreSaidBy may object lines (From c.in-From.start c.in-From.instant c.in-From.in_dates c.in-From.extent c.in-From.lines) = subst (λ (x : SaidTimes). AreSaidBy may object lines x) c.in-From.is a in
    c.judge_from.ensures.fault object lines (rw kept said)

pub returns-in-Alone-clause-says : goal.returns-in-Alone-clause-says
returns-in-Alone-clause-says c may object lines a =
    let said = subst (λ (x : SaidTimes). AreSaidBy may object lines x) c.in-Alone.is a in
    ok_so _ (λ times. SaysNoStart object lines (times_of times)) (λ times. SaysTimes may object lines (times_of times)) (λ times h. inr (said.0, h)) (c.judge_alone.ensures.says object lines said.1)

pub returns-in-Alone-clause-fault : goal.returns-in-Alone-clause-fault
returns-in-Alone-clause-fault c may object lines a =
    c.judge_alone.ensures.fault object lines (subst (λ (x : SaidTimes). AreSaidBy may object lines x) c.in-Alone.is a).1

pub returns-in-From-clause-at : goal.returns-in-From-clause-at
returns-in-From-clause-at c m zones event a =
    let said = subst (λ (x : SaidTimes). AreLinesSaid event x) c.in-From.is a in
    IfErr-weaker _ _ (λ e. EventBlame m zones event e.number e.line) (λ e h. elim h [
      | inl (number, line) ↦ rw line (start_blamed m zones event e.number c.in-From.lines.start said.0 number)
      | inr (may, line) ↦ rw line (extent_blamed m zones event c.in-From.extent e.number c.in-From.lines.extent said.1 may)
    ]) c.judge_from.ensures.at

pub returns-in-Alone-clause-at : goal.returns-in-Alone-clause-at
returns-in-Alone-clause-at c m zones event a =
    let said = subst (λ (x : SaidTimes). AreLinesSaid event x) c.in-Alone.is a in
    IfErr-weaker _ _ (λ e. EventBlame m zones event e.number e.line) (λ e h. rw h.1 (extent_blamed m zones event c.in-Alone.extent e.number c.in-Alone.lines.extent said h.0)) c.judge_alone.ensures.at
