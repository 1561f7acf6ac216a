use Rattle.std.proofs.Common.{◌≡◌, ◌∙◌, ◌∷◌, [], ◌+◌, ◌≤◌, ap, drop, map, refl, subst, ℕ, to_z, of_z, w64, to_z-of_z}
use Rattle.std.proofs.lemmas.List.{drop_all}
use Rattle.ical_tree.proofs.OneLine.{at_place}
use Rattle.profile.specs.series.Days.{day_index}
use Rattle.profile.specs.series.Zones.{local_time}
use Rattle.profile.specs.series.GeneralZoneTexts.{IsRunAt}
use Rattle.cal_doors.specs.Runs.{run_of, runs_in}
use Rattle.cal_doors.specs.Reading.{AddsRuns}
use Rattle.cal_doors.proofs.RuleDays.{bound_at, in_years, second_is}
use Rattle.cal_doors.proofs.PartSays.{one_run, no_days_added, day_added, days_added}
use Rattle.cal_doors.proofs.part.add_days.Goals as goal

pub loop-day-init : goal.loop-day-init
loop-day-init c = no_days_added c.args.times.now.from c.args.times.now.to c.day_and_second-second.result.1 _ _ (runs_in c.args.runs.now.items) refl

pub unwrap-onset-requires : goal.unwrap-onset-requires
unwrap-onset-requires c =
    let second = c.day_and_second-second.result.1 in
    let high = bound_at c.args.days.now c.loop-day.day-index c.day-item.result c.loop-day-test.true c.day-item.is c.requires in
    let low : 366 ≤ c.index.result = c.index.ensures.range.0 in
    let years = in_years c.index.result second low (rw c.index.ensures.value high) c.day_and_second-second.ensures.second in
    let cast : to_z w64 (of_z w64 c.seconds_at.result) ≡ c.seconds_at.result = to_z-of_z {w = w64} (record { sfits = c.seconds_at.type_inv }) in
    c.of_seconds.ensures.found.1 (rw (cast, c.seconds_at.ensures) years)

pub loop-day-preserved : goal.loop-day-preserved
loop-day-preserved c =
    let from = c.args.times.now.from in
    let to = c.args.times.now.to in
    let second = c.day_and_second-second.result.1 in
    let days = c.args.days.now in
    let i = c.loop-day.day-index in
    let x = c.day-item.result in
    let onset = c.unwrap-onset.result in
    let cast : to_z w64 (of_z w64 c.seconds_at.result) ≡ c.seconds_at.result = to_z-of_z {w = w64} (record { sfits = c.seconds_at.type_inv }) in
    let value = rw (c.unwrap-onset.ensures, cast) at c.of_seconds.ensures.value in
    let at : onset ≡ local_time (day_index x) second = value ∙ c.seconds_at.ensures ∙ ap (λ (n : ℕ). local_time n second) c.index.ensures.value in
    let run = c.once.result in
    let left = map day_index (drop i days) in
    let rest = map day_index (drop (i + 1) days) in
    let steps : left ≡ day_index x ∷ rest = ap (map day_index) (at_place days i x c.loop-day-test.true c.day-item.is) in
    day_added from to second (map day_index days) left rest (day_index x) (runs_in c.args.runs.now.items) (runs_in c.loop-day.runs.items) _ c.loop-day.invariant steps
    (one_run from to (local_time (day_index x) second) c.loop-day.runs.items c.push.new.self.items run
    (λ o e f. subst (λ t. IsRunAt o t (run_of run)) at (c.once.ensures.run o e f)) c.in_ok-push.ensures.items)

pub returns : goal.returns
returns c =
    let from = c.args.times.now.from in
    let to = c.args.times.now.to in
    let split = c.day_and_second-second in
    let days = c.args.days.now in
    let old = runs_in c.args.runs.now.items in
    let new = runs_in c.loop-day.runs.items in
    let left = map day_index (drop c.loop-day.day-index days) in
    let none : left ≡ [] = ap (map day_index) (drop_all c.loop-day.day-index days c.loop-day-test.false) in
    let added = days_added from to split.result.1 (map day_index days) left old new c.loop-day.invariant none in
    λ o has.
    let same : split.result.1 ≡ o.second = second_is c.args.times.now.start from split.result.0 split.result.1 o split.ensures.second split.ensures.sum has in
    subst (λ (s : ℕ). AddsRuns from to (map (λ day. local_time day s) (map day_index days)) old new) same added
