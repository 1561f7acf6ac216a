use Rattle.std.proofs.Common.{sym, arith}
use Rattle.std.proofs.lemmas.List.{append-nil}
use Rattle.ical_values.proofs.AllOrNone.{one_more, all_of_them}
use Rattle.sched_cli.specs.Logging.{shown_octet}
use Rattle.sched_cli.proofs.shown.append_shown.Goals as goal

pub loop-octet-init : goal.loop-octet-init
loop-octet-init c = sym (append-nil _)

pub loop-octet-preserved : goal.loop-octet-preserved
loop-octet-preserved c = one_more shown_octet c.args.octets.now c.loop-octet.octet-index 0 _ _ _ c.loop-octet-test.true c.loop-octet.invariant c.in_ok-append_octet.ensures

pub returns : goal.returns
returns c = all_of_them shown_octet c.args.octets.now c.loop-octet.octet-index _ _ (omega (arith, c.loop-octet-test.false)) c.loop-octet.invariant
