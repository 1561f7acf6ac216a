-- The two instances are those of the meetings.
use Rattle.std.proofs.Common.{◌∙◌, sym, ap, subst}
use Rattle.profile.specs.checker.Instances.{Instance}
use Rattle.cal_events.specs.Calendar.{instance_of}
use Rattle.clash_cert.specs.Makings.{IsNamedAs}
use Rattle.room_books.specs.Meeting.{keyed_instance}
use Rattle.room_books.proofs.decide.clash_between.Goals as goal

pub returns : goal.returns
returns c =
    let first = c.instance-asked.ensures in
    let second = c.instance-booked.ensures in
    let key : Instance → _ = λ b. b.key in
    let is = c.clash_of.ensures (c.in_ok-of_asked.ensures ∙ sym (ap key first)) (c.in_ok-of_booked.ensures ∙ sym (ap key second)) in
    let named = subst (λ b. IsNamedAs (keyed_instance c.args.key.now c.args.asked) b c.clash_of.result) second (subst (λ b. IsNamedAs b (instance_of c.instance-booked.result) c.clash_of.result) first is) in
    (record { first = named.1.0; second = named.1.1; one = named.1.2 }, named.0)
