use Rattle.std.proofs.Common.{◌≡◌, ◌∙◌, sym, subst, to_z, of_z, w64, to_z-of_z}
use Rattle.ical_lines.specs.Text.{line_text}
use Rattle.profile.specs.series.RuleTexts.{SpellsRule}
use Rattle.cal_doors.proofs.UsesLines.{if_ok, rule_begins, times_begin}
use Rattle.cal_doors.proofs.uses.line_first.Goals as goal

pub returns-then-is_named : goal.returns-then-is_named
returns-then-is_named c =
    if_ok _ _ c.until_local.result
    (λ first says. rule_begins c.args.days (line_text c.args.line) first (sym c.is_named.ensures ∙ c.if-is_named.true)
    (λ rule local s e. says rule local (subst (λ v. SpellsRule v rule) (sym c.value.ensures) s) e)) c.until_local.ensures

pub returns : goal.returns
returns c =
    let cast : to_z w64 (of_z w64 c.earliest.result) ≡ c.earliest.result = to_z-of_z {w = w64} (record { sfits = c.earliest.type_inv }) in
    rw cast (times_begin c.args.days (line_text c.args.line) c.earliest.result (sym c.is_named.ensures ∙ c.if-is_named.false) c.earliest.ensures.local c.earliest.ensures.utc)
