use Rattle.std.proofs.Common.{refl}
use Rattle.cal_events.specs.Event.{said_meeting}
use Rattle.cal_events.proofs.event_lemmas.AlikeLists.{instances_alike}
use Rattle.cal_events.proofs.shared_lemmas.WholeLists.{all_given}
use Rattle.cal_events.proofs.whole.all_instances.Goals as goal

pub returns : goal.returns
returns c = λ words room octets from meeting instances all named spelled same begins given.
    let kept = said_meeting instances.event.now in
    instances_alike kept meeting same from all
    (all_given kept (λ a b h k. c.one_instance.ensures.one words room octets meeting a b named spelled ((same a).0 h) ((same b).0 k)) from instances all refl begins given)
