use Rattle.std.proofs.Common.{◌≡◌, ◌∙◌, ◌++◌, [], ◌∷◌, ap, sym, subst, rules, ℤ, to_z, of_z, w64, FitsSigned, to_z-of_z}
use Rattle.std.specs.Prelude.{Option, IfSome}
use Rattle.profile.specs.doors.Uses.{EventEndsBy}
use Rattle.cal_doors.specs.declared.uses.Use.{Use}
use Rattle.cal_doors.specs.Used.{AllBeginBy}
use Rattle.ical_lines.specs.Text.{line_text}
use Rattle.ical_tree.specs.Runs.{lines_left}
use Rattle.ical_tree.specs.Tree.{component_lines}
use Rattle.cal_doors.proofs.UsesScans.{moved, all_done}
use Rattle.cal_doors.proofs.UsesTables.{AreAdded, none_added, line_passed, line_added, event_added}
use Rattle.cal_doors.proofs.uses.add_event.Goals as goal

pub loop-line-init : goal.loop-line-init
loop-line-init c = ([], sym c.lines-line-items.ensures ∙ ap lines_left (sym c.into_iter-line-iterator.ensures.into_iter_gives), none_added _ _)

pub loop-line-preserved-then-not-is_time_line : goal.loop-line-preserved-then-not-is_time_line
loop-line-preserved-then-not-is_time_line c =
    let i = c.loop-line.invariant in
    let line = line_text c.in-Some.line in (
      i.0 ++ line ∷ [],
      i.1 ∙ ap (λ l. i.0 ++ l) c.in-Some.ensures.steps ∙ moved i.0 line _,
      line_passed _ _ _ i.0 line (sym c.is_time_line.ensures ∙ c.if-not-is_time_line.true) i.2,
    )

pub loop-line-preserved : goal.loop-line-preserved
loop-line-preserved c =
    let i = c.loop-line.invariant in
    let line = line_text c.in-Some.line in (
      i.0 ++ line ∷ [],
      i.1 ∙ ap (λ l. i.0 ++ l) c.in-Some.ensures.steps ∙ moved i.0 line _,
      line_added _ _ _ _ i.0 line (sym c.is_time_line.ensures ∙ c.if-not-is_time_line.false) (c.in_ok-add_line.ensures c.if-not-branch.false) i.2,
    )

pub returns : goal.returns
returns c = λ _.
    let i = c.loop-line.invariant in
    let lines = component_lines c.args.event.now in
    let first = c.in_ok-event_first.field-0 in
    let fits : FitsSigned w64 first = search rules in
    let cast : to_z w64 (of_z w64 first) ≡ first = to_z-of_z fits in
    let all = i.1 ∙ ap (λ l. i.0 ++ l) c.in-None.ensures.steps.0 ∙ all_done i.0 in
    let whole : Use = record { first = to_z w64 (of_z w64 first); last = c.in_ok-event_end.field-0 } in
    event_added whole _ _ lines (subst (AllBeginBy lines) (sym cast) c.in_ok-event_first.ensures)
    (λ end is. subst (λ (o : Option ℤ). IfSome o (EventEndsBy lines)) is c.in_ok-event_end.ensures)
    (subst (λ done. AreAdded whole c.args.uses.now.entries done c.loop-line.uses.entries) (sym all) i.2)
