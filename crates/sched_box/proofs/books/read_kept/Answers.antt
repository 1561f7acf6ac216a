use Rattle.std.proofs.Common.{arith, subst}
use Rattle.ical_lines.specs.Fault.{RefusesBy}
use Rattle.std.proofs.lemmas.Result.{IfOk-weaker, IfErr-weaker}
use Rattle.itip_messages.specs.Message.{IsSpelled}
use Rattle.profile.specs.streams.Streams.{ObjectFault}
use Rattle.sched_box.proofs.FaultLemmas.{kept_whole, long_fault, object_fault}
use Rattle.sched_box.proofs.books.read_kept.Goals as goal

pub returns-then-octets-ge-KEPT-clause-fault : goal.returns-then-octets-ge-KEPT-clause-fault
returns-then-octets-ge-KEPT-clause-fault c = λ object is. long_fault c.args.octets.now object is (omega arith)

pub returns-clause-spells : goal.returns-clause-spells
returns-clause-spells c =
    IfOk-weaker c.read.result _ _ (λ m s object is. subst (λ o. IsSpelled o m) (kept_whole c.args.octets.now object is (omega arith)) s) c.read.ensures.spells

pub returns-clause-fault : goal.returns-clause-fault
returns-clause-fault c =
    IfErr-weaker c.read.result _ _ (λ f h object is. subst (λ o. RefusesBy (λ n. ObjectFault n o) f) (kept_whole c.args.octets.now object is (omega arith)) (object_fault c.args.octets.now f h)) c.read.ensures.fault
