use Rattle.std.proofs.Common.{◌∙◌, ◌+◌, sym, arith}
use Rattle.std.proofs.lemmas.List.{take_rest}
use Rattle.sched_box.proofs.ObjectLemmas.{cuts_more, cuts_on}
use Rattle.sched_box.proofs.objects.scan.Goals as goal

pub loop-place-preserved : goal.loop-place-preserved
loop-place-preserved c =
    let lent = c.args.lent.now in
    let place = c.loop-place.place in
    let fed = cuts_more _ c.loop-place.cutter c.feed.new.self lent place (omega arith) c.loop-place.invariant.cuts (sym c.feed.ensures.ended ∙ c.if-feed.false) c.feed.ensures.after in
    let idle = rw (take_rest lent (place + 1)) at c.idle-place-in-loop-place.ensures.idle in
    record {
      within = omega (arith, c.idle-place-in-loop-place.ensures.within);
      cuts = cuts_on _ c.feed.new.self lent (place + 1) c.idle-place-in-loop-place.result fed idle;
    }
