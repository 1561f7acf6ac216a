use Rattle.std.proofs.Common.{◌∙◌, ap, inr, refl, subst, sym}
use Rattle.std.specs.Prelude.{Contains, IfSome, is_none}
use Rattle.ical_lines.specs.declared.fault.Refusal.{Refusal}
use Rattle.cal_events.specs.Begins.{begins_of, BetweenBlame}
use Rattle.cal_events.proofs.shared_lemmas.LaterLemmas.{later_other}
use Rattle.cal_events.proofs.shared_lemmas.MeetingLemmas.{components_not_one, components_one}
use Rattle.cal_events.proofs.meeting_components.judge_meeting.Goals as goal

pub returns-in-Some-of_another_meeting-clause-fault : goal.returns-in-Some-of_another_meeting-clause-fault
returns-in-Some-of_another_meeting-clause-fault c =
    inr (
      ap (λ (e : Refusal). e.number) c.at.ensures,
      components_not_one c.args.components.now c.in-Some.first.now c.in-Some.others.now c.in-Some.ensures.cases.0
          (ap is_none (sym c.in-Some-of_another_meeting.is) ∙ c.of_another_meeting.ensures.none),
    )

pub returns-in-Some-of_another_meeting-clause-at : goal.returns-in-Some-of_another_meeting-clause-at
returns-in-Some-of_another_meeting-clause-at c =
    let line = c.in-Some-of_another_meeting.line in
    let among = subst (λ found. IfSome found (Contains (begins_of c.in-Some.others.now))) c.in-Some-of_another_meeting.is c.of_another_meeting.ensures.at in
    subst (λ (e : Refusal). BetweenBlame (begins_of c.args.components.now) e.number e.line) (sym c.at.ensures)
    (inr (refl, later_other c.args.components.now c.in-Some.first.now c.in-Some.others.now line c.in-Some.ensures.cases.0 among))

pub returns-in-None-clause-one : goal.returns-in-None-clause-one
returns-in-None-clause-one c =
    components_one c.args.components.now c.in-Some.first.now c.in-Some.others.now c.in-Some.ensures.cases.0
    (ap is_none (sym c.in-None.is) ∙ c.of_another_meeting.ensures.none)
