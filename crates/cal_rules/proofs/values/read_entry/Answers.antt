use Rattle.std.proofs.Common.{◌≡◌, ◌∙◌, inl, inr, refl, sym, subst, List, [], ◌∷◌, ℕ, pos, true, false, nat_eq, length, w16, FitsSigned, to_z-of_z, rules, arith}
use Rattle.std.proofs.lemmas.Bool.{false≢true}
use Rattle.std.proofs.lemmas.Bool.Decides.{nat_tests}
use Rattle.ical_values.proofs.Exits.{if_none}
use Rattle.profile.specs.series.RuleTexts.{SpellsWeekday, SpellsPlace}
use Rattle.cal_rules.proofs.Numbers.{entry_no_number, entry_parts, entry_reads}
use Rattle.cal_rules.proofs.values.read_entry.Goals as goal

no_octets : (xs : List ℕ) → nat_eq (length xs) 0 ≡ true → xs ≡ []
no_octets [] h = refl
no_octets (x ∷ xs) h = grind (arith, nat_tests)

pub returns-then-value-lt2-clause-none : goal.returns-then-value-lt2-clause-none
returns-then-value-lt2-clause-none c = λ entry s. omega (arith, (entry_parts c.args.value.now entry s).long, c.if-value-lt2.true)

pub returns-then-not-is_char_boundary-clause-none : goal.returns-then-not-is_char_boundary-clause-none
returns-then-not-is_char_boundary-clause-none c = λ entry s. absurd (false≢true (c.if-not-is_char_boundary.ensures.test.1 (entry_parts c.args.value.now entry s).boundary))

pub returns-in_err-weekday-clause-none : goal.returns-in_err-weekday-clause-none
returns-in_err-weekday-clause-none c =
    if_none c.from_residual.result (λ entry s. c.in_err-weekday.ensures.none entry.weekday (subst (λ letters. SpellsWeekday letters entry.weekday) (sym c.split_at.ensures.back) (entry_parts c.args.value.now entry s).letters))

pub returns-in_err-number-clause-none : goal.returns-in_err-number-clause-none
returns-in_err-number-clause-none c =
    let filled : nat_eq (length c.split_at.result.0.now) 0 ≡ false = sym c.is_empty.ensures ∙ c.if-is_empty.false in
    rw c.from_residual-in_err-number.ensures (entry_no_number c.args.value.now c.split_at.result.0.now c.split_at.ensures.front filled c.in_err-number.ensures.none)

pub overflow_sub-value-2 : goal.overflow_sub-value-2
overflow_sub-value-2 c = c.if-value-lt2.false

pub returns-then-is_empty-clause-none : goal.returns-then-is_empty-clause-none
returns-then-is_empty-clause-none c = tt

pub returns-then-is_empty-clause-reads : goal.returns-then-is_empty-clause-reads
returns-then-is_empty-clause-reads c =
    entry_reads c.args.value.now c.in_ok-weekday.weekday (pos 0) (subst (λ letters. SpellsWeekday letters c.in_ok-weekday.weekday) c.split_at.ensures.back c.in_ok-weekday.ensures.reads)
    (inl (sym c.split_at.ensures.front ∙ no_octets c.split_at.result.0.now (sym c.is_empty.ensures ∙ c.if-is_empty.true), refl))

pub returns-clause-none : goal.returns-clause-none
returns-clause-none c = tt

pub returns-clause-reads : goal.returns-clause-reads
returns-clause-reads c =
    let fits : FitsSigned w16 c.in_ok-number.number = search rules in
    rw (to_z-of_z fits) (entry_reads c.args.value.now c.in_ok-weekday.weekday c.in_ok-number.number (subst (λ letters. SpellsWeekday letters c.in_ok-weekday.weekday) c.split_at.ensures.back c.in_ok-weekday.ensures.reads)
    (inr (subst (λ front. SpellsPlace 53 front c.in_ok-number.number) c.split_at.ensures.front c.in_ok-number.ensures.reads)))
