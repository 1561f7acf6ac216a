use Rattle.ical_lines.proofs.IdleLemmas.{idle_front}
use Rattle.ical_lines.proofs.object_end.Cutter.idle.Goals as goal

pub returns-in-Line-Other-clause-idle : goal.returns-in-Line-Other-clause-idle
returns-in-Line-Other-clause-idle c =
    idle_front c.args.self.now c.args.octets.now c.memchr2.result c.unwrap_or.result c.in-Line-Other.is-0 c.in-Line-Other.is-1 c.if-self.true c.memchr2.ensures c.unwrap_or.ensures
