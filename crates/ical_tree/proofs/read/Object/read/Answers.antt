use Rattle.std.proofs.Common.{◌≡◌, ◌∙◌, inl, inr, refl, subst}
use Rattle.std.proofs.lemmas.Result.{err_from_is_err_and}
use Rattle.ical_lines.specs.Limits.{is_bounded}
use Rattle.ical_tree.specs.Runs.{run_numbered}
use Rattle.ical_tree.specs.Own.{numbered_own}
use Rattle.ical_tree.specs.Reading.{SpellsOf}
use Rattle.ical_tree.specs.Tree.{numbered_of}
use Rattle.ical_tree.proofs.InsideLemmas.{whole_blames}
use Rattle.ical_tree.proofs.NumberLemmas.{numbered_next, none_left, plain_whole, texts_enumerated, all_numbered}
use Rattle.ical_tree.proofs.PlacedLemmas.{whole_placed}
use Rattle.ical_tree.proofs.RefusalLemmas.{state_first, state_next, state_spelled, take_refuses, take_blames, finish_refuses, finish_blames, fault_by}
use Rattle.ical_tree.proofs.read.Object.read.Goals as goal

pub loop-line-init : goal.loop-line-init
loop-line-init c = record {
  follows = c.new-reader.ensures.follows;
  state = state_first c.new-reader.result.«open».items (run_numbered c.new-reader.result.run) c.new-reader.result.closed _ _ c.new-reader.ensures.«open» c.new-reader.ensures.closed (all_numbered c.lines-lines.result _ c.lines-lines.ensures);
}

pub take-requires-clause-next : goal.take-requires-clause-next
take-requires-clause-next c = c.loop-line.invariant.follows ∙ numbered_next c.loop-line.lines c.next_text.new.self _ c.in-Some.ensures.next c.in-Some.ensures.number

pub loop-line-preserved : goal.loop-line-preserved
loop-line-preserved c = record {
  follows = c.in_default-take.ensures.follows;
  state = state_next _ _ _ _ _ _ _ _ c.loop-line.invariant.state (numbered_next c.loop-line.lines c.next_text.new.self _ c.in-Some.ensures.next c.in-Some.ensures.number) c.in_default-take.ensures.built c.in_default-take.ensures.names;
}

pub returns-in-Err-clause-fault : goal.returns-in-Err-clause-fault
returns-in-Err-clause-fault c =
    let next = numbered_next c.loop-line.lines c.next_text.new.self _ c.in-Some.ensures.next c.in-Some.ensures.number in
    rw c.at.ensures (fault_by _ c.passed.result c.in-Err.fault (take_refuses (is_bounded c.args.limits) c.args.text.now _ _ _ _ _ _ _ c.loop-line.invariant.state next c.in-Err.ensures.fault))

pub returns-in-Err-clause-at : goal.returns-in-Err-clause-at
returns-in-Err-clause-at c =
    let next = numbered_next c.loop-line.lines c.next_text.new.self _ c.in-Some.ensures.next c.in-Some.ensures.number in
    rw (c.at.ensures, c.passed.ensures) (take_blames (is_bounded c.args.limits) c.args.text.now _ _ _ _ _ _ c.in-Err.fault c.loop-line.invariant.state next c.in-Err.ensures.fault)

pub returns-in_err-calendar-clause-fault : goal.returns-in_err-calendar-clause-fault
returns-in_err-calendar-clause-fault c =
    let p = err_from_is_err_and c.from_residual.result c.from_residual.ensures.1 in
    rw (p.1, p.2) (inl (finish_refuses (is_bounded c.args.limits) c.args.text.now _ _ _ c.in_err-calendar.field-0.0.number c.loop-line.invariant.state (none_left c.loop-line.lines c.in_default.ensures.next.0) c.in_err-calendar.ensures.fault))

pub returns-in_err-calendar-clause-at : goal.returns-in_err-calendar-clause-at
returns-in_err-calendar-clause-at c =
    let p = err_from_is_err_and c.from_residual.result c.from_residual.ensures.1 in
    rw (p.1, p.2) (finish_blames (is_bounded c.args.limits) c.args.text.now _ _ _ _ _ c.loop-line.invariant.state (none_left c.loop-line.lines c.in_default.ensures.next.0) c.in_err-calendar.ensures.fault c.in_err-calendar.ensures.at)

pub returns-in_err-check_calendar-clause-fault : goal.returns-in_err-check_calendar-clause-fault
returns-in_err-check_calendar-clause-fault c =
    let p = err_from_is_err_and c.from_residual-in_err-check_calendar.result c.from_residual-in_err-check_calendar.ensures.1 in
    let spelled = state_spelled _ _ _ _ c.in_ok-calendar.calendar c.loop-line.invariant.state (none_left c.loop-line.lines c.in_default.ensures.next.0) c.in_ok-calendar.ensures.spelled in
    let plain = subst (SpellsOf 7 c.in_ok-calendar.calendar) (texts_enumerated 1 c.args.text.now) (plain_whole spelled.0) in
    rw (p.1, p.2) (inr (c.in_ok-calendar.calendar, (plain, c.in_err-check_calendar.ensures.fault)))

pub returns-in_err-check_calendar-clause-at : goal.returns-in_err-check_calendar-clause-at
returns-in_err-check_calendar-clause-at c =
    let p = err_from_is_err_and c.from_residual-in_err-check_calendar.result c.from_residual-in_err-check_calendar.ensures.1 in
    let spelled = state_spelled _ _ _ _ c.in_ok-calendar.calendar c.loop-line.invariant.state (none_left c.loop-line.lines c.in_default.ensures.next.0) c.in_ok-calendar.ensures.spelled in
    let own : numbered_own c.in_ok-own.own ≡ numbered_of c.in_ok-calendar.calendar = rw (c.in_ok-own.ensures.begun, c.in_ok-own.ensures.numbered) refl in
    rw (p.1, p.2) (whole_blames (is_bounded c.args.limits) c.args.text.now c.in_ok-calendar.calendar _ _ spelled (rw own at c.in_err-check_calendar.ensures.at))

pub returns-clause-spelled : goal.returns-clause-spelled
returns-clause-spelled c =
    let whole = state_spelled _ _ _ _ c.in_ok-calendar.calendar c.loop-line.invariant.state (none_left c.loop-line.lines c.in_default.ensures.next.0) c.in_ok-calendar.ensures.spelled in record {
      spelled = subst (SpellsOf 7 c.in_ok-calendar.calendar) (texts_enumerated 1 c.args.text.now) (plain_whole whole.0);
      calendar = whole.1;
      version = c.in_ok-check_calendar.ensures.version;
      events = c.in_ok-check_calendar.ensures.events;
    }

pub returns-clause-placed : goal.returns-clause-placed
returns-clause-placed c =
    whole_placed (state_spelled _ _ _ _ c.in_ok-calendar.calendar c.loop-line.invariant.state (none_left c.loop-line.lines c.in_default.ensures.next.0) c.in_ok-calendar.ensures.spelled).0

pub check_calendar-requires-clause-calendar : goal.check_calendar-requires-clause-calendar
check_calendar-requires-clause-calendar c =
    (state_spelled _ _ _ _ c.in_ok-calendar.calendar c.loop-line.invariant.state (none_left c.loop-line.lines c.in_default.ensures.next.0) c.in_ok-calendar.ensures.spelled).1

pub check_calendar-requires-clause-own : goal.check_calendar-requires-clause-own
check_calendar-requires-clause-own c = c.in_ok-own.ensures.lines
