use Rattle.std.proofs.Common.{◌≡◌, ◌∙◌, sym, subst, ℤ, to_z, of_z, w64, to_z-of_z}
use Rattle.std.specs.Prelude.{Option, IfSome}
use Rattle.ical_lines.specs.Text.{line_text}
use Rattle.profile.specs.series.RuleTexts.{SpellsRule}
use Rattle.profile.specs.text.Values.{SpellsDuration}
use Rattle.cal_doors.specs.Used.{LineEndsBy}
use Rattle.cal_doors.proofs.UsesLines.{if_ok, if_some, rule_ends, duration_ends, times_end, says_nothing_last}
use Rattle.cal_doors.proofs.uses.line_end.Goals as goal

pub returns-then-is_named : goal.returns-then-is_named
returns-then-is_named c =
    if_ok _ (λ (o : Option ℤ). IfSome o (LineEndsBy (line_text c.args.line))) c.rule_end.result
    (λ o says. if_some _ (LineEndsBy (line_text c.args.line)) o
    (λ last e. rule_ends (line_text c.args.line) last (sym c.is_named.ensures ∙ c.if-is_named.true) (e.0, subst (λ v. SpellsRule v e.0) c.value.ensures e.1, e.2)) says) c.rule_end.ensures

pub returns-then-is_named-2 : goal.returns-then-is_named-2
returns-then-is_named-2 c =
    if_some _ (LineEndsBy (line_text c.args.line)) c.duration_end.result
    (λ last none. duration_ends (line_text c.args.line) last (sym c.is_named-2.ensures ∙ c.if-is_named-2.true)
    (λ days seconds s. none days seconds (subst (λ v. SpellsDuration v days seconds) (sym c.value-then-is_named-2.ensures) s))) c.duration_end.ensures

pub returns-then-is_time_line : goal.returns-then-is_time_line
returns-then-is_time_line c =
    let cast : to_z w64 (of_z w64 c.last_local.result) ≡ c.last_local.result = to_z-of_z {w = w64} (record { sfits = c.last_local.type_inv }) in
    rw cast (times_end (line_text c.args.line) c.last_local.result (sym c.is_named.ensures ∙ c.if-is_named.false) (sym c.is_named-2.ensures ∙ c.if-is_named-2.false) c.last_local.ensures)

pub returns : goal.returns
returns c =
    says_nothing_last (line_text c.args.line) _ (sym c.is_named.ensures ∙ c.if-is_named.false) (sym c.is_named-2.ensures ∙ c.if-is_named-2.false) (sym c.is_time_line.ensures ∙ c.if-is_time_line.false)
