use Rattle.std.proofs.Common.{◌≡◌, rules, pos, ◌+ℤ◌, to_z, of_z, w64, FitsSigned, to_z-of_z}
use Rattle.std.specs.Prelude.{Some, None}
use Rattle.std.proofs.lemmas.Int.{ints}
use Rattle.clash_check.proofs.OpenLemmas.{ready, still_of, first_there, none_first, none_still_before, none_still_left, dated, one_first, later_before, later_left}
use Rattle.clash_check.proofs.open_series.OpenSeries.next.Goals as goal

pub invariant_of-self-in_default-next : goal.invariant_of-self-in_default-next
invariant_of-self-in_default-next c =
    let own = c.args.self.now in
    let old = c.in-Some.starts in
    let new = c.next.new.self in
    let all = own.calendar.now in
    let r = ready all own.place own.from own.starts old c.in-Some.is own.of own.before own.left c.series-series.result.now c.series-series.ensures.are c.known_by_start.ensures in
    let gives = c.in_default-next.ensures.steps in
    record {
      of = still_of all own.place own.from old new r gives.0;
      before = none_still_before all own.place own.from old new r gives;
      left = none_still_left all own.place own.from old new r gives;
    }

pub returns-in_default-next-clause-first : goal.returns-in_default-next-clause-first
returns-in_default-next-clause-first c =
    let own = c.args.self.now in
    let old = c.in-Some.starts in
    let new = c.next.new.self in
    let all = own.calendar.now in
    let r = ready all own.place own.from own.starts old c.in-Some.is own.of own.before own.left c.series-series.result.now c.series-series.ensures.are c.known_by_start.ensures in
    first_there all own.place own.from old new r None (none_first all own.place own.from old new r c.in_default-next.ensures.steps)

pub overflow_add-self : goal.overflow_add-self
overflow_add-self c =
    let own = c.args.self.now in
    let old = c.in-Some.starts in
    let new = c.next.new.self in
    let all = own.calendar.now in
    let r = ready all own.place own.from own.starts old c.in-Some.is own.of own.before own.left c.series-series.result.now c.series-series.ensures.are c.known_by_start.ensures in
    let i = c.in-Some-next.instance in
    let d = dated all own.place own.from old new r i c.in-Some-next.ensures.steps in
    let early = d.0 in
    let late = d.1 in
    let fits : FitsSigned w64 i.start = search rules in
    let cast : to_z w64 (of_z w64 i.start) ≡ i.start = to_z-of_z fits in
    rw cast (search (ints, rules))

pub invariant_of-self-2 : goal.invariant_of-self-2
invariant_of-self-2 c =
    let own = c.args.self.now in
    let old = c.in-Some.starts in
    let new = c.next.new.self in
    let all = own.calendar.now in
    let r = ready all own.place own.from own.starts old c.in-Some.is own.of own.before own.left c.series-series.result.now c.series-series.ensures.are c.known_by_start.ensures in
    let i = c.in-Some-next.instance in
    let gives = c.in-Some-next.ensures.steps in
    let d = dated all own.place own.from old new r i gives in
    let early = d.0 in
    let late = d.1 in
    let fits : FitsSigned w64 i.start = search rules in
    let cast : to_z w64 (of_z w64 i.start) ≡ i.start = to_z-of_z fits in
    let fits_later : FitsSigned w64 (i.start +ℤ pos 1) = search (ints, rules) in
    let later : to_z w64 (of_z w64 (i.start +ℤ pos 1)) ≡ i.start +ℤ pos 1 = to_z-of_z fits_later in
    rw cast (rw later (record {
      of = still_of all own.place own.from old new r gives.0;
      before = later_before all own.place own.from old new r i gives;
      left = later_left all own.place own.from old new r i gives;
    }))

pub returns-clause-first : goal.returns-clause-first
returns-clause-first c =
    let own = c.args.self.now in
    let old = c.in-Some.starts in
    let new = c.next.new.self in
    let all = own.calendar.now in
    let r = ready all own.place own.from own.starts old c.in-Some.is own.of own.before own.left c.series-series.result.now c.series-series.ensures.are c.known_by_start.ensures in
    let i = c.in-Some-next.instance in
    let fits : FitsSigned w64 i.start = search rules in
    let cast : to_z w64 (of_z w64 i.start) ≡ i.start = to_z-of_z fits in
    let fits_end : FitsSigned w64 i.end = search rules in
    let cast_end : to_z w64 (of_z w64 i.end) ≡ i.end = to_z-of_z fits_end in
    rw (cast, cast_end) (first_there all own.place own.from old new r (Some (i.start, i.end)) (one_first all own.place own.from old new r i c.in-Some-next.ensures.steps))

pub returns-clause-early : goal.returns-clause-early
returns-clause-early c =
    let own = c.args.self.now in
    let old = c.in-Some.starts in
    let new = c.next.new.self in
    let all = own.calendar.now in
    let r = ready all own.place own.from own.starts old c.in-Some.is own.of own.before own.left c.series-series.result.now c.series-series.ensures.are c.known_by_start.ensures in
    let i = c.in-Some-next.instance in
    let d = dated all own.place own.from old new r i c.in-Some-next.ensures.steps in
    let fits : FitsSigned w64 i.start = search rules in
    let cast : to_z w64 (of_z w64 i.start) ≡ i.start = to_z-of_z fits in
    rw cast d.1
