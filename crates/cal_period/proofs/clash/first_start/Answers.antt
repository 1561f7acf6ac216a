use Rattle.std.proofs.Common.{◌≡◌, arith, to_z, of_z, w64, FitsSigned, rules, to_z-of_z}
use Rattle.std.proofs.lemmas.Int.{ints}
use Rattle.cal_events.specs.Series.{series_said}
use Rattle.cal_period.proofs.Entries.{first_at, none_at}
use Rattle.cal_period.proofs.EveryPair.{none_exit}
use Rattle.cal_period.proofs.Sweeping.{all_left}
use Rattle.cal_period.proofs.clash.first_start.Goals as goal

pub returns-in_err-first : goal.returns-in_err-first
returns-in_err-first c =
    let series = c.args.series.now in
    let known = c.known_by_start.ensures series in
    let all = all_left (series_said series) _ c.starts-starts.result known (omega (arith, ints)) c.starts-starts.ensures.left in
    none_exit _ _ _ c.from_residual.ensures (none_at (series_said series) c.starts-starts.result c.next.new.self known all c.in_err-first.ensures.steps)

pub returns : goal.returns
returns c =
    let series = c.args.series.now in
    let known = c.known_by_start.ensures series in
    let all = all_left (series_said series) _ c.starts-starts.result known (omega (arith, ints)) c.starts-starts.ensures.left in
    let first = c.in_ok-first.first in
    let fits : FitsSigned w64 first.start = search rules in
    let cast : to_z w64 (of_z w64 first.start) ≡ first.start = to_z-of_z fits in
    rw cast (first_at (series_said series) c.starts-starts.result c.next.new.self first known all c.in_ok-first.ensures.steps)
