use Rattle.std.proofs.Common.{inl}
use Rattle.profile.specs.checker.Certificates.{HasNoGroup, IsGrouped}
use Rattle.profile.proofs.MadeCertificates.{written_holds}
use Rattle.cal_period.proofs.EveryPair.{where_some}
use Rattle.clash_cert.proofs.grouping.certificate_written.Goals as goal

pub returns-in-Some-clause-holds : goal.returns-in-Some-clause-holds
returns-in-Some-clause-holds c clear text =
    let cal = c.args.calendar.now in
    let made = c.in_ok-made.made in
    let is = where_some c.in_ok-grouped.field-0 (HasNoGroup cal made) (IsGrouped cal made) c.in-Some.grouped c.in-Some.is (c.in_ok-grouped.ensures c.in_ok-made.ensures.made) in
    written_holds cal clear c.in-Some.grouped text (made, c.in_ok-made.ensures.made, inl is)
