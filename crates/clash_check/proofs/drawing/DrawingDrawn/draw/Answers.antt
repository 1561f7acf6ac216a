use Rattle.std.proofs.Common.{◌≡◌, ◌∙◌, ap, sym, subst, rules, arith, ◌-◌, ◌<◌, length, pos, ◌+ℤ◌, to_z, of_z, w64, FitsSigned, to_z-of_z}
use Rattle.std.specs.Prelude.{Some, None}
use Rattle.std.specs.List.{slice_get}
use Rattle.std.proofs.lemmas.Int.{ints}
use Rattle.std.proofs.lemmas.List.{length-set}
use Rattle.profile.specs.events.Confirmed.{Confirmed}
use Rattle.clash_check.proofs.DrawLemmas.{drawn_first, later, others, series_at, wanted_at, opened_at, still_same}
use Rattle.clash_check.proofs.drawing.DrawingDrawn.draw.Goals as goal

pub first_from-found-requires : goal.first_from-found-requires
first_from-found-requires c =
    let own = c.args.self.now in
    let all = own.calendar.now in
    let one = c.index_mut.result.now in
    let same = own.same one (opened_at own.opened.items all.series c.args.i c.place_of-place.result one own.all_opened c.requires c.place_of-place.ensures c.index_mut.ensures.value) in
    let some = c.requires.0 in
    let most = c.requires.1 in
    subst (λ (a : Confirmed). c.place_of-place.result < length a.series) (sym same) (omega (arith, some, most, c.place_of-place.ensures))

pub invariant_of-self-clause-all_opened : goal.invariant_of-self-clause-all_opened
invariant_of-self-clause-all_opened c =
    let own = c.args.self.now in
    length-set own.opened.items c.place_of-place.result c.first_from-found.new.self ∙ own.all_opened

pub invariant_of-self-clause-same : goal.invariant_of-self-clause-same
invariant_of-self-clause-same c =
    let own = c.args.self.now in
    let all = own.calendar.now in
    let one = c.index_mut.result.now in
    let same = own.same one (opened_at own.opened.items all.series c.args.i c.place_of-place.result one own.all_opened c.requires c.place_of-place.ensures c.index_mut.ensures.value) in
    still_same all own.opened.items c.place_of-place.result c.first_from-found.new.self own.same (c.first_from-found.ensures.calendar ∙ same)

pub returns-in_default-clause-drawn : goal.returns-in_default-clause-drawn
returns-in_default-clause-drawn c =
    let own = c.args.self.now in
    let ws = own.wanted.items in
    let all = own.calendar.now in
    let i = c.args.i in
    let part = c.index_mut-part.result.now in
    let (series, at) = series_at all.series i c.requires in
    let wants = wanted_at ws all.series i c.place_of-place.result part own.counted c.requires c.place_of-place.ensures c.index_mut-part.ensures.value in
    let one = c.index_mut.result.now in
    let same = own.same one (opened_at own.opened.items all.series i c.place_of-place.result one own.all_opened c.requires c.place_of-place.ensures c.index_mut.ensures.value) in
    let there = ap (slice_get one.calendar.now.series) c.place_of-place.ensures ∙ ap (λ (a : Confirmed). slice_get a.series (i - 1)) same ∙ at in
    let fits_from : FitsSigned w64 part.from = search rules in
    let from : to_z w64 (of_z w64 part.from) ≡ part.from = to_z-of_z fits_from in
    let fits_bound : FitsSigned w64 part.bound = search rules in
    let bound : to_z w64 (of_z w64 part.bound) ≡ part.bound = to_z-of_z fits_bound in
    let first = rw from at (c.first_from-found.ensures.first series there) in
    let none = rw bound at (c.in_default.ensures.first series part.from first) in
    drawn_first all ws i series part c.requires.0 at wants None none

pub invariant_of-self-2-clause-all_opened : goal.invariant_of-self-2-clause-all_opened
invariant_of-self-2-clause-all_opened c =
    let own = c.args.self.now in
    length-set own.opened.items c.place_of-place.result c.first_from-found.new.self ∙ own.all_opened

pub invariant_of-self-2-clause-same : goal.invariant_of-self-2-clause-same
invariant_of-self-2-clause-same c =
    let own = c.args.self.now in
    let all = own.calendar.now in
    let one = c.index_mut.result.now in
    let same = own.same one (opened_at own.opened.items all.series c.args.i c.place_of-place.result one own.all_opened c.requires c.place_of-place.ensures c.index_mut.ensures.value) in
    still_same all own.opened.items c.place_of-place.result c.first_from-found.new.self own.same (c.first_from-found.ensures.calendar ∙ same)

pub returns-clause-drawn : goal.returns-clause-drawn
returns-clause-drawn c =
    let own = c.args.self.now in
    let ws = own.wanted.items in
    let all = own.calendar.now in
    let i = c.args.i in
    let part = c.index_mut-part.result.now in
    let (series, at) = series_at all.series i c.requires in
    let wants = wanted_at ws all.series i c.place_of-place.result part own.counted c.requires c.place_of-place.ensures c.index_mut-part.ensures.value in
    let one = c.index_mut.result.now in
    let same = own.same one (opened_at own.opened.items all.series i c.place_of-place.result one own.all_opened c.requires c.place_of-place.ensures c.index_mut.ensures.value) in
    let there = ap (slice_get one.calendar.now.series) c.place_of-place.ensures ∙ ap (λ (a : Confirmed). slice_get a.series (i - 1)) same ∙ at in
    let fits_from : FitsSigned w64 part.from = search rules in
    let from : to_z w64 (of_z w64 part.from) ≡ part.from = to_z-of_z fits_from in
    let fits_bound : FitsSigned w64 part.bound = search rules in
    let bound : to_z w64 (of_z w64 part.bound) ≡ part.bound = to_z-of_z fits_bound in
    let first = rw from at (c.first_from-found.ensures.first series there) in
    let found = rw bound at (c.in-Some.ensures.first series part.from first) in
    let start = c.in-Some.start in
    let end = c.in-Some.end in
    let fits : FitsSigned w64 start = search rules in
    let cast : to_z w64 (of_z w64 start) ≡ start = to_z-of_z fits in
    let fits_end : FitsSigned w64 end = search rules in
    let cast_end : to_z w64 (of_z w64 end) ≡ end = to_z-of_z fits_end in
    rw (cast, cast_end) (drawn_first all ws i series part c.requires.0 at wants (Some (start, end)) found)

pub returns-clause-coming : goal.returns-clause-coming
returns-clause-coming c =
    let own = c.args.self.now in
    let ws = own.wanted.items in
    let all = own.calendar.now in
    let i = c.args.i in
    let part = c.index_mut-part.result.now in
    let (series, at) = series_at all.series i c.requires in
    let wants = wanted_at ws all.series i c.place_of-place.result part own.counted c.requires c.place_of-place.ensures c.index_mut-part.ensures.value in
    let one = c.index_mut.result.now in
    let same = own.same one (opened_at own.opened.items all.series i c.place_of-place.result one own.all_opened c.requires c.place_of-place.ensures c.index_mut.ensures.value) in
    let there = ap (slice_get one.calendar.now.series) c.place_of-place.ensures ∙ ap (λ (a : Confirmed). slice_get a.series (i - 1)) same ∙ at in
    let fits_from : FitsSigned w64 part.from = search rules in
    let from : to_z w64 (of_z w64 part.from) ≡ part.from = to_z-of_z fits_from in
    let fits_bound : FitsSigned w64 part.bound = search rules in
    let bound : to_z w64 (of_z w64 part.bound) ≡ part.bound = to_z-of_z fits_bound in
    let first = rw from at (c.first_from-found.ensures.first series there) in
    let found = rw bound at (c.in-Some.ensures.first series part.from first) in
    let start = c.in-Some.start in
    let end = c.in-Some.end in
    let fits : FitsSigned w64 start = search rules in
    let cast : to_z w64 (of_z w64 start) ≡ start = to_z-of_z fits in
    let fits_end : FitsSigned w64 end = search rules in
    let cast_end : to_z w64 (of_z w64 end) ≡ end = to_z-of_z fits_end in
    let early = c.in-Some.ensures.early in
    let fits_later : FitsSigned w64 (start +ℤ pos 1) = search (ints, rules) in
    let cast_later : to_z w64 (of_z w64 (start +ℤ pos 1)) ≡ start +ℤ pos 1 = to_z-of_z fits_later in
    let some = c.requires.0 in
    let most = c.requires.1 in
    let count = own.counted in
    let within : (i - 1) < length ws = omega (arith, some, most, count) in
    rw cast (rw (cast_later, c.place_of-place.ensures) (later all ws i series part some at wants within start end found))

pub returns-clause-others : goal.returns-clause-others
returns-clause-others c =
    let own = c.args.self.now in
    rw c.place_of-place.ensures (others own.calendar.now own.wanted.items c.args.i _ c.requires.0)
