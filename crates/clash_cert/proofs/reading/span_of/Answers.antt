use Rattle.std.proofs.Common.{◌≡◌, ◌++◌, ◌∙◌, drop, ap, subst, sym}
use Rattle.std.proofs.lemmas.List.{take-append-drop}
use Rattle.profile.specs.checker.Certificates.{Entry, IsEntryText}
use Rattle.clash_cert.proofs.TextLemmas.{none_exit}
use Rattle.clash_cert.proofs.Words.{no_stamp, span_words}
use Rattle.clash_cert.proofs.reading.span_of.Goals as goal

pub returns-in_err-from : goal.returns-in_err-from
returns-in_err-from c =
    let cut = c.in_ok-stamp.ensures.cases in
    let whole = c.in_ok-rest.rest.now in
    let parts : whole ≡ c.in_ok-stamp.stamp.now ++ c.in_ok-stamp.rest.now =
    sym (take-append-drop 16 whole) ∙ ap (λ l. l ++ drop 16 whole) (sym cut.1) ∙ ap (λ l. c.in_ok-stamp.stamp.now ++ l) (sym cut.2) in
    let long = cut.3 in
    none_exit _ _ _ c.from_residual-in_err-from.ensures
    (no_stamp c.args.words.now c.in_ok-rest.rest.now c.in_ok-rest.ensures c.in_ok-stamp.stamp.now c.in_ok-stamp.rest.now parts long c.in_err-from.ensures)

pub returns : goal.returns
returns c =
    let cut = c.in_ok-stamp.ensures.cases in
    let whole = c.in_ok-rest.rest.now in
    let parts : whole ≡ c.in_ok-stamp.stamp.now ++ c.in_ok-stamp.rest.now =
    sym (take-append-drop 16 whole) ∙ ap (λ l. l ++ drop 16 whole) (sym cut.1) ∙ ap (λ l. c.in_ok-stamp.stamp.now ++ l) (sym cut.2) in
    let long = cut.3 in (
      c.span.ensures.entry,
      subst (λ (entry : Entry). IsEntryText entry c.args.words.now) (sym c.span.ensures.value)
          (span_words c.args.words.now whole c.in_ok-rest.ensures c.in_ok-stamp.stamp.now c.in_ok-stamp.rest.now parts long c.in_ok-from.from
          c.in_ok-digits.digits.now c.in_ok-days.days c.in_ok-from.ensures c.in_ok-digits.ensures c.in_ok-days.ensures.1),
    )
