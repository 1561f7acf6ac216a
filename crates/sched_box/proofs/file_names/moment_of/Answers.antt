use Rattle.std.proofs.Common.{◌∙◌, ◌≡◌, sym, arith, Some, None, subst, length, List, ℕ, true≢false}
use Rattle.std.proofs.lemmas.Str.Pattern.{split_parts}
use Rattle.std.specs.Str.Parse.{AllDigits}
use Rattle.sched_box.proofs.NameLemmas.{none_exit, none_uncut, none_whole, none_numbered, none_stamped, named, read_exit}
use Rattle.sched_box.proofs.file_names.moment_of.Goals as goal

pub returns-in_err-stem : goal.returns-in_err-stem
returns-in_err-stem c = none_exit _ _ _ c.from_residual.ensures (none_uncut _ c.in_err-stem.ensures)

pub returns-in_err-number : goal.returns-in_err-number
returns-in_err-number c =
    none_exit _ _ _ c.from_residual-in_err-number.ensures (none_whole _ _ c.in_ok-stem.ensures (split_parts 45 c.in_ok-stem.stem.now None c.in_err-number.ensures.cases (omega arith)))

pub returns-then-not-is_number : goal.returns-then-not-is_number
returns-then-not-is_number c =
    let parts = split_parts 45 c.in_ok-stem.stem.now (Some (c.in_ok-number.number, c.in_ok-number.stamp)) c.in_ok-number.ensures.cases (omega arith) in
    let P : List ℕ → Type 0 = λ octets. (length octets ≡ 8) × AllDigits 10 octets in
    none_numbered _ _ _ _ c.in_ok-stem.ensures parts.0 parts.1 (λ all. true≢false (sym (c.is_number.ensures.1 (subst P (sym c.as_bytes.ensures.value) all)) ∙ c.if-not-is_number.true))

pub returns : goal.returns
returns c =
    let parts = split_parts 45 c.in_ok-stem.stem.now (Some (c.in_ok-number.number, c.in_ok-number.stamp)) c.in_ok-number.ensures.cases (omega arith) in
    let P : List ℕ → Type 0 = λ octets. (length octets ≡ 8) × AllDigits 10 octets in
    let all = subst P c.as_bytes.ensures.value (c.is_number.ensures.0 c.if-not-is_number.false) in
    read_exit c.args.name.now c.in_ok-number.stamp.now c.read.result _ c.ok.ensures.value c.read.ensures.reads c.read.ensures.none
    (none_stamped _ _ _ _ c.in_ok-stem.ensures parts.0 parts.1) (λ moment spells. named _ _ _ _ moment c.in_ok-stem.ensures parts.0 parts.1 all.0 all.1 spells c.one_stamp.ensures.reading)
