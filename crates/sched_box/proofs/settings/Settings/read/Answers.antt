use Rattle.std.proofs.Common.{rules, refl, sym, subst}
use Rattle.std.proofs.lemmas.Result.{err_from_is_err_and}
use Rattle.sched_box.specs.Settings.{Reads, SaysNone}
use Rattle.sched_box.proofs.SettingLemmas.{none_yet, line_more, line_none, ended, ended_none, last_more, last_none, all_read, is_some, if_refused, if_refused_map, not_nil}
use Rattle.ical_values.proofs.Facts.{empty_from}
use Rattle.sched_box.proofs.settings.Settings.read.Goals.{then-not-is_empty+in_ok-add_line-2, else-not-is_empty}
use Rattle.sched_box.proofs.settings.Settings.read.Goals as goal

pub loop-line-init : goal.loop-line-init
loop-line-init c = (c.utf8.text, none_yet _ _ c.new.ensures.items c.new-2.ensures.items c.new-3.ensures.items refl)

pub returns-then-is_empty-2-clause-reads : goal.returns-then-is_empty-2-clause-reads
returns-then-is_empty-2-clause-reads c =
    ended _ _ _ _ _ c.loop-line.invariant.1 c.in-Some.ensures.split (empty_from _ _ c.is_empty.ensures c.if-is_empty.true) (empty_from _ _ c.is_empty-then-is_empty.ensures c.if-is_empty-2.true)

pub returns-else-is_empty-2-clause-none : goal.returns-else-is_empty-2-clause-none
returns-else-is_empty-2-clause-none c =
    if_refused (SaysNone c.args.text.now) c.refused.result
    (ended_none _ _ _ _ _ c.loop-line.invariant.1 c.in-Some.ensures.split (empty_from _ _ c.is_empty.ensures c.if-is_empty.true) (not_nil _ (is_some _ _ c.is_empty-then-is_empty.ensures c.if-is_empty-2.false)))

pub returns-in_err-add_line-clause-none : goal.returns-in_err-add_line-clause-none
returns-in_err-add_line-clause-none c =
    let p = err_from_is_err_and c.from_residual.result c.from_residual.ensures.1 in
    rw (p.1, p.2)
    (if_refused_map _ (SaysNone c.args.text.now) _ (line_none _ _ _ _ _ c.loop-line.invariant.1 c.in-Some.ensures.split (is_some _ _ c.is_empty.ensures c.if-is_empty.false)) c.in_err-add_line.ensures.none)

pub loop-line-preserved : goal.loop-line-preserved
loop-line-preserved c =
    (search rules, line_more _ _ _ _ _ _ c.loop-line.invariant.1 c.in-Some.ensures.split (is_some _ _ c.is_empty.ensures c.if-is_empty.false) c.in_ok-add_line.ensures.added)

pub returns-in_err-add_line-2-clause-none : goal.returns-in_err-add_line-2-clause-none
returns-in_err-add_line-2-clause-none c =
    let p = err_from_is_err_and c.from_residual-in_err-add_line-2.result c.from_residual-in_err-add_line-2.ensures.1 in
    rw (p.1, p.2)
    (if_refused_map _ (SaysNone c.args.text.now) _ (last_none _ _ _ c.loop-line.invariant.1 c.in_default.ensures.split (search rules)) c.in_err-add_line-2.ensures.none)

pub returns-clause-reads : goal.returns-clause-reads
returns-clause-reads c =
    elim c.if-not-is_empty.branch [
      | then-not-is_empty+in_ok-add_line-2 w ↦ subst (λ s. Reads s c.args.text.now) (sym w.settings-is) (last_more _ _ _ _ c.loop-line.invariant.1 c.in_default.ensures.split (search rules) w.in_ok-add_line-2.ensures.added)
      | else-not-is_empty w ↦ subst (λ s. Reads s c.args.text.now) (sym w.settings-is) (all_read _ _ _ c.loop-line.invariant.1 (empty_from _ _ c.is_empty-2.ensures (search rules)))
    ]
