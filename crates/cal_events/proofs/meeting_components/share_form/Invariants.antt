use Rattle.std.proofs.Common.{◌≡◌, map, take}
use Rattle.profile.specs.rooms.Messages.{instants_in}
use Rattle.cal_events.specs.Component.{form_of, time_of}
use Rattle.cal_events.proofs.meeting_components.share_form.Given as goal

-- those of this form so far
abbrev pub invariant-loop-time : goal.invariant-loop-time
invariant-loop-time l = l.instants.items ≡ instants_in (form_of l.form) (map time_of (take l.time-index l.times))
