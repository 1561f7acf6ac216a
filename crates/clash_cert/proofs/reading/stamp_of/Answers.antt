use Rattle.ical_values.proofs.ShownValues.{utf8_stamp}
use Rattle.ical_values.proofs.Readings.{stamp_written}
use Rattle.clash_cert.proofs.TextLemmas.{at_value, at_no_value, none_exit}
use Rattle.clash_cert.proofs.Words.{no_ok, ok_is, exact, not_sixty, digit_is, digit_not}
use Rattle.std.proofs.Common.{subst, sym}
use Rattle.profile.specs.text.Values.{SpellsStamp, WritesStamp}
use Rattle.clash_cert.proofs.reading.stamp_of.Goals as goal

pub returns-in_err-text : goal.returns-in_err-text
returns-in_err-text c =
    none_exit _ _ _ c.from_residual.ensures (λ t w. (at_no_value _ _ _ c.in_err-text.ensures.value c.from_utf8.ensures.cases).1.0 (utf8_stamp c.args.octets.now t w))

pub returns-in_err-stamp : goal.returns-in_err-stamp
returns-in_err-stamp c =
    let text = at_value _ _ _ _ c.in_ok-text.ensures.value c.from_utf8.ensures.cases in
    none_exit _ _ _ c.from_residual-in_err-stamp.ensures (λ t w. no_ok c.read.result _ c.in_err-stamp.ensures.value c.read.ensures.none t (stamp_written c.in_ok-text.text.now t (subst (λ (s : _). WritesStamp s t) (sym text.0) w)))

pub returns-then-has_second_60 : goal.returns-then-has_second_60
returns-then-has_second_60 c t w = not_sixty c.args.octets.now t w (digit_is c.args.octets.now c.has_second_60.result c.has_second_60.ensures c.if-has_second_60.true)

pub returns-else-has_second_60 : goal.returns-else-has_second_60
returns-else-has_second_60 c =
    let text = at_value _ _ _ _ c.in_ok-text.ensures.value c.from_utf8.ensures.cases in
    let reads = ok_is c.read.result _ c.in_ok-stamp.stamp c.in_ok-stamp.ensures.value c.read.ensures.reads in
    exact c.args.octets.now c.in_ok-stamp.stamp (subst (λ (s : _). SpellsStamp s c.in_ok-stamp.stamp) text.0 reads) (digit_not c.args.octets.now c.has_second_60.result c.has_second_60.ensures c.if-has_second_60.false)
