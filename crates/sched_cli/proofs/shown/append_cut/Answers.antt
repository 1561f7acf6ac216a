use Rattle.std.proofs.Common.{sym, arith}
use Rattle.std.proofs.lemmas.List.{length-take-le}
use Rattle.sched_cli.proofs.shown.append_cut.Goals as goal

pub slice_bounds-front-end : goal.slice_bounds-front-end
slice_bounds-front-end c = sym (length-take-le 200 c.args.octets.now (omega (arith, c.if-octets-gt-MOST_SHOWN.true)))
