use Rattle.std.proofs.Common.{◌≡◌, ◌∙◌, sym, to_z, of_z, w64, to_z-of_z}
use Rattle.cal_events.specs.Series.{series_said}
use Rattle.cal_period.proofs.NearLists.{none_shares}
use Rattle.cal_period.proofs.near.meets.Goals as goal

pub returns-then-not-counts : goal.returns-then-not-counts
returns-then-not-counts c =
    let cast_reach : to_z w64 (of_z w64 c.args.reach) ≡ c.args.reach = to_z-of_z c.ranges.reach in
    let cast_bound : to_z w64 (of_z w64 c.args.bound) ≡ c.args.bound = to_z-of_z c.ranges.bound in
    λ e before near y is s. absurd ((rw (cast_reach, cast_bound) at (c.counts.ensures c.if-not-counts.true)) before near)

pub returns : goal.returns
returns c = λ e before near. none_shares (series_said c.args.other.now) c.args.one.now.span.start c.args.one.now.span.end c.first_sharer.result (sym c.is_some.ensures ∙ e) c.first_sharer.ensures
