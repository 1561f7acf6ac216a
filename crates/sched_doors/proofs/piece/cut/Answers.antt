use Rattle.std.proofs.Common.{◌∙◌, ◌+◌, ap, take, sym, arith}
use Rattle.std.proofs.lemmas.List.{take_rest}
use Rattle.sched_doors.proofs.Leading.{leads_idle, leads_more}
use Rattle.sched_doors.proofs.Taking.{some_before}
use Rattle.sched_doors.proofs.piece.cut.Goals as goal

pub loop-place-preserved : goal.loop-place-preserved
loop-place-preserved c =
    let lent = c.args.lent.now in
    let place = c.loop-place.place in
    let fed = leads_more _ c.loop-place.cutter c.feed.new.self lent place (omega arith) c.loop-place.invariant.leads (sym c.feed.ensures.ended ∙ c.if-feed.false) c.feed.ensures.after in
    let idle = rw (take_rest lent (place + 1)) at c.idle-place-in-loop-place.ensures.idle in
    record {
      within = omega (arith, c.idle-place-in-loop-place.ensures.within);
      leads = leads_idle _ c.feed.new.self lent (place + 1) c.idle-place-in-loop-place.result fed idle;
    }

pub returns-then-feed-clause-some : goal.returns-then-feed-clause-some
returns-then-feed-clause-some c =
    λ goes_on ended. some_before _ c.loop-place.cutter c.loop-place.place _ (λ none. c.loop-place.invariant.leads.none (ap (λ n. take n c.args.lent.now) none)) goes_on (sym c.feed.ensures.ended ∙ c.if-feed.true)
