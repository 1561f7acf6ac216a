use Rattle.std.proofs.Common.{sym, subst, map, arith}
use Rattle.std.proofs.lemmas.List.{length-map}
use Rattle.cal_events.specs.Series.{series_said}
use Rattle.clash_cert.proofs.LookedLemmas.{rows_start, rows_more, rows_all}
use Rattle.clash_cert.specs.Looked.{AreRowsLookedAt, IsRowLookedAt}
use Rattle.clash_cert.proofs.looking.clash_of_new.Goals as goal

pub loop-i-init : goal.loop-i-init
loop-i-init c = rows_start c.args.kept.now (map series_said c.args.series.now)

pub loop-i-preserved : goal.loop-i-preserved
loop-i-preserved c = rows_more c.args.kept.now (map series_said c.args.series.now) c.loop-i.i c.loop-i.invariant c.in_default.ensures

pub returns : goal.returns
returns c =
    let xs = c.args.series.now in
    let past = c.loop-i-test.false in
    rows_all c.args.kept.now (map series_said xs) c.loop-i.i (omega (arith, past, length-map xs series_said)) c.loop-i.invariant

pub returns-in-Some : goal.returns-in-Some
returns-in-Some c =
    let kept = c.args.kept.now in
    let all = map series_said c.args.series.now in
    let s = c.in-Some.shared in
    let is = c.in-Some.ensures in
    record {
      found = is.found;
      rows = subst (AreRowsLookedAt kept all) (sym is.of_row) c.loop-i.invariant;
      row = subst (λ i. IsRowLookedAt kept all i s.j) (sym is.of_row) is.row;
    }
