use Rattle.std.proofs.Common.{ap, refl, subst, map, string_bytes}
use Rattle.sched_doors.specs.Pieces.{TakesObject}
use Rattle.sched_doors.proofs.Passing.{too_long, well_made}
use Rattle.sched_doors.proofs.door.Door.pass_object.Goals as goal

pub returns-then-whole-clause-passes : goal.returns-then-whole-clause-passes
returns-then-whole-clause-passes g c =
    well_made c.hand_on.result _ _ (g.R.Input.remaining c.take_object.new.reader) _ _ _ _ _ _ _ _ _ _ _ _ c.requires.place c.hand_on.ensures.place c.requires.begun c.requires.forgotten.all
    (ap g.R.Input.remaining c.hand_on.ensures.reader) (subst (TakesObject _ _ _ _ _ _) c.if-whole.true c.in_ok-whole.ensures.takes) c.hand_on.ensures.hands_on c.hand_on.ensures.some

pub returns-clause-passes : goal.returns-clause-passes
returns-clause-passes g c =
    too_long _ _ _ _ _ _ _ _ _ _ _ _ c.requires.place refl c.requires.begun c.requires.forgotten.all c.requires.forgotten.plain (ap (map string_bytes) c.requires.forgotten.none)
    (subst (TakesObject _ _ _ _ _ _) c.if-whole.false c.in_ok-whole.ensures.takes)
