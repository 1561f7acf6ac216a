use Rattle.std.proofs.Common.{[], refl}
use Rattle.std.proofs.KnownBytes.{Appends-nil}
use Rattle.sched_cli.proofs.Saying.{put_says}
use Rattle.sched_cli.proofs.status.say.Goals as goal

pub returns : goal.returns
returns g c = put_says _ _ _ _ _ c.args.line.now [] _ c.put.result refl (Appends-nil _) c.put.ensures.written c.put.ensures.stops c.put.ensures.lost
