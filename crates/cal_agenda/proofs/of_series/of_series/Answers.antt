use Rattle.std.proofs.Common.{◌≡◌, List, map, sym, subst, arith, rules, ◌<◌, ℤ, pos, ◌+ℤ◌, ◌-ℤ◌, ◌≤ℤ◌, ◌⊎◌, to_z, of_z, w64, FitsSigned, to_z-of_z}
use Rattle.std.specs.Prelude.{Option}
use Rattle.std.specs.Int.{saturate_signed}
use Rattle.std.proofs.lemmas.Int.{ints}
use Rattle.profile.specs.events.Properties.{first_second}
use Rattle.cal_events.specs.Calendar.{instance_of}
use Rattle.cal_events.specs.Left.{GivesFirst}
use Rattle.cal_events.specs.Series.{series_said}
use Rattle.cal_events.specs.declared.instance.Instance.{Instance}
use Rattle.cal_events.proofs.shared_lemmas.Overlaps.{at_most}
use Rattle.cal_agenda.proofs.SeriesWalk.{IsAt, begins, goes_on, ends_early, ended, fewer, before_horizon, seconds_left}
use Rattle.cal_agenda.proofs.of_series.of_series.Goals as goal

pub loop-next-init : goal.loop-next-init
loop-next-init c =
    let series = series_said c.args.series.now in
    let from = c.args.span.start in
    let until = c.args.span.end in
    let n = c.width.result in
    let begin = c.saturating_sub.result in
    let starts = c.starts-starts.result in
    let fits : FitsSigned w64 begin = search rules in
    let cast : to_z w64 (of_z w64 begin) ≡ begin = to_z-of_z fits in
    let fits_n : FitsSigned w64 n = search rules in
    let cast_n : to_z w64 (of_z w64 n) ≡ n = to_z-of_z fits_n in
    let fits_from : FitsSigned w64 from = search rules in
    let cast_from : to_z w64 (of_z w64 from) ≡ from = to_z-of_z fits_from in
    let is : begin ≡ saturate_signed w64 (from -ℤ n) = rw (cast_from, cast_n) at c.saturating_sub.ensures in
    let early : (begin ≤ℤ (from -ℤ n)) ⊎ (begin ≤ℤ first_second) = subst (λ (x : ℤ). (x ≤ℤ (from -ℤ n)) ⊎ (x ≤ℤ first_second)) (sym is) (at_most (from -ℤ n)) in
    let at = begins series from until begin n starts (c.known_by_start.ensures c.args.series.now) (λ b of_it. (c.instances_last.ensures.series c.args.series.now n b c.width.ensures.of of_it).1) early
    c.starts-starts.ensures.of (rw cast at c.starts-starts.ensures.left) in
    record {
      place = begin;
      old = starts;
      at = subst (λ (l : List Instance). IsAt series from until begin starts (map instance_of l)) (sym c.new-found.ensures.items) at;
      given = c.next-next.ensures.steps;
    }

pub loop-next-preserved : goal.loop-next-preserved
loop-next-preserved c =
    let walk = c.loop-next.invariant in
    let i = c.in-Some.instance in
    let given = subst (λ (o : Option Instance). GivesFirst walk.old o c.loop-next.starts) c.in-Some.is walk.given in
    record {
      place = i.start +ℤ pos 1;
      old = c.loop-next.starts;
      at = goes_on (series_said c.args.series.now) c.args.span.start c.args.span.end walk.place walk.old c.loop-next.starts (map instance_of c.loop-next.found.items) walk.at i given
          (c.known_by_start.ensures c.args.series.now) (map instance_of c.keep.new.found.items) c.in_ok-keep.ensures;
      given = c.next-next-in-Some.ensures.steps;
    }

pub loop-next-smaller : goal.loop-next-smaller
loop-next-smaller c =
    let series = series_said c.args.series.now in
    let from = c.args.span.start in
    let until = c.args.span.end in
    let known = c.known_by_start.ensures c.args.series.now in
    let walk = c.loop-next.invariant in
    let i = c.in-Some.instance in
    let given = subst (λ (o : Option Instance). GivesFirst walk.old o c.loop-next.starts) c.in-Some.is walk.given in
    let found = map instance_of c.loop-next.found.items in
    let more = map instance_of c.keep.new.found.items in
    let next = c.next-next-in-Some.result in
    subst (λ (o : Option Instance). seconds_left next < seconds_left o) (sym c.in-Some.is)
    (fewer series from until i.start c.loop-next.starts c.next-next-in-Some.new.self more next known
    (before_horizon series from until walk.place walk.old c.loop-next.starts found walk.at i given known)
    (goes_on series from until walk.place walk.old c.loop-next.starts found walk.at i given known more c.in_ok-keep.ensures)
    c.next-next-in-Some.ensures.steps)

pub returns-then-instance-span : goal.returns-then-instance-span
returns-then-instance-span c =
    let until = c.args.span.end in
    let walk = c.loop-next.invariant in
    let i = c.in-Some.instance in
    let given = subst (λ (o : Option Instance). GivesFirst walk.old o c.loop-next.starts) c.in-Some.is walk.given in
    let fits_start : FitsSigned w64 i.start = search rules in
    let start : to_z w64 (of_z w64 i.start) ≡ i.start = to_z-of_z fits_start in
    let fits_until : FitsSigned w64 until = search rules in
    let cast_until : to_z w64 (of_z w64 until) ≡ until = to_z-of_z fits_until in
    let late = rw (cast_until, start) at c.if-instance-span.true in
    ends_early (series_said c.args.series.now) c.args.span.start until walk.place walk.old c.loop-next.starts (map instance_of c.loop-next.found.items) walk.at i given (grind (arith, ints, late))

pub returns : goal.returns
returns c =
    ended (series_said c.args.series.now) c.args.span.start c.args.span.end (map instance_of c.loop-next.found.items) c.loop-next.next c.loop-next.starts c.loop-next.invariant c.in_default.not-Some
