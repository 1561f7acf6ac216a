use Rattle.std.proofs.lemmas.Result.{IfOk-weaker}
use Rattle.ical_values.proofs.Signs.{fitted}
use Rattle.ical_values.proofs.duration.read_unsigned.Goals as goal

pub returns-clause-reads : goal.returns-clause-reads
returns-clause-reads c =
    IfOk-weaker c.fit.result _ _ (λ d h. fitted c.args.text.now c.in_ok-counts.counts.days c.in_ok-counts.counts.seconds d.days d.seconds (rw c.in_ok-counts.ensures.ok_part at c.read_counts.ensures.found) h.0 h.1 h.2 h.3) c.fit.ensures.ok
