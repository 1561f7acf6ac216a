use Rattle.std.proofs.Common.{◌≡◌, ◌∙◌, ap, sym, subst, arith, to_z, of_z, w64, to_z-of_z}
use Rattle.std.specs.Prelude.{option_map}
use Rattle.std.proofs.lemmas.Int.{ints}
use Rattle.std.proofs.lemmas.Option.{same_Some}
use Rattle.profile.specs.series.Rules as rules
use Rattle.profile.specs.series.Rules.{UntilLocal}
use Rattle.ical_lines.specs.Fault.{RefusesBy}
use Rattle.profile.specs.series.RuleTexts.{IsLeastRuleFault}
use Rattle.cal_rules.specs.Views.{until_of}
use Rattle.cal_rules.proofs.OneRule.{one_rule_read, no_fault}
use Rattle.cal_doors.proofs.uses.until_local.Goals as goal

pub returns-in-Err-Refused : goal.returns-in-Err-Refused
returns-in-Err-Refused c = λ rule local s e.
    let least = subst (RefusesBy (IsLeastRuleFault c.args.text.now)) c.in-Err-Refused.field-0-is c.in-Err-Refused.ensures.refuses in
    absurd (no_fault c.args.text.now c.in-Err-Refused.field-0-0.number rule least.fault s)

pub returns : goal.returns
returns c = λ rule local s e.
    let cast : to_z w64 (of_z w64 c.local_of.result) ≡ c.local_of.result = to_z-of_z {w = w64} (record { sfits = c.local_of.type_inv }) in
    let same = one_rule_read c.args.text.now c.in-Ok.rule rule c.in-Ok.ensures.reads s in
    let is = sym (ap (option_map until_of) c.in-Some.is) ∙ c.until.ensures ∙ ap (λ (r : rules.RuleText). r.until) same ∙ e in
    let found = c.local_of.ensures local (same_Some (until_of c.in-Some.until) (UntilLocal local) is) in
    rw cast (omega (arith, ints, found))
