use Rattle.std.proofs.Common.{take}
use Rattle.cal_events.specs.Component.{form_of}
use Rattle.itip_messages.specs.Body.{AppendsOthers}
use Rattle.itip_messages.proofs.body.write_others.Given as goal

-- those so far
abbrev pub invariant-loop-instant : goal.invariant-loop-instant
invariant-loop-instant l = AppendsOthers (form_of l.form) (take l.instant-index l.instants) l.fn.body.items l.body.items
