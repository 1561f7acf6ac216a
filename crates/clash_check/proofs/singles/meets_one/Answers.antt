use Rattle.std.proofs.Common.{◌≡◌, pos, subst, arith, Some}
use Rattle.std.specs.List.{slice_get}
use Rattle.std.proofs.lemmas.Option.{slice_get-get_or}
use Rattle.profile.specs.checker.Certificates.{IsSeriesAt}
use Rattle.profile.specs.checker.Instances.{AreClear}
use Rattle.profile.specs.events.Confirmed.{Confirmed}
use Rattle.profile.specs.events.Events.{Event}
use Rattle.profile.specs.events.Starts.{IsInstance}
use Rattle.cal_events.specs.Sweep.{span_at}
use Rattle.clash_check.specs.Singles.{HasSharer, IsSharedByNone, IsFewMore}
use Rattle.clash_check.proofs.SingleLemmas.{met_found, met_some, met_next, met_none, met_all}
use Rattle.clash_check.proofs.singles.meets_one.Goals as goal

pub meets-requires-clause-residues : goal.meets-requires-clause-residues
meets-requires-clause-residues g c = λ a there. c.requires.residues a (subst (λ (x : Confirmed). IsSeriesAt x c.args.i a) c.loop-span.invariant.same there)

pub returns-then-meets-clause-meets : goal.returns-then-meets-clause-meets
returns-then-meets-clause-meets g c =
    let spans = c.args.spans.now in
    let place = c.loop-span.span-index in
    let s = span_at spans place in
    let there : slice_get spans place ≡ Some s = slice_get-get_or spans place (record { start = pos 0; end = pos 0 }) c.loop-span-test.true in
    met_found (g.D.Drawn.calendar c.args.drawn.now) c.args.i spans place (g.D.Drawn.calendar c.loop-span.drawn) _ _ (g.D.Drawn.count c.meets.new.drawn) s there c.loop-span.invariant
    (subst (λ (x : Confirmed). (a : Event) → IsSeriesAt x c.args.i a → AreClear (IsInstance a) (IsInstance a) → IsFewMore (g.D.Drawn.count c.loop-span.drawn) (g.D.Drawn.count c.meets.new.drawn) 3) c.loop-span.invariant.same c.meets.ensures.count)
    (subst (λ (x : Confirmed). (a : Event) → IsSeriesAt x c.args.i a → HasSharer a s.start s.end) c.loop-span.invariant.same c.if-meets.ensures.meets)

pub returns-then-meets-clause-count : goal.returns-then-meets-clause-count
returns-then-meets-clause-count g c =
    let spans = c.args.spans.now in
    let place = c.loop-span.span-index in
    let s = span_at spans place in
    let there : slice_get spans place ≡ Some s = slice_get-get_or spans place (record { start = pos 0; end = pos 0 }) c.loop-span-test.true in
    met_some (g.D.Drawn.calendar c.args.drawn.now) c.args.i spans place (g.D.Drawn.calendar c.loop-span.drawn) _ _ (g.D.Drawn.count c.meets.new.drawn) s there c.loop-span.invariant
    (subst (λ (x : Confirmed). (a : Event) → IsSeriesAt x c.args.i a → AreClear (IsInstance a) (IsInstance a) → IsFewMore (g.D.Drawn.count c.loop-span.drawn) (g.D.Drawn.count c.meets.new.drawn) 3) c.loop-span.invariant.same c.meets.ensures.count)

pub loop-span-preserved : goal.loop-span-preserved
loop-span-preserved g c =
    let spans = c.args.spans.now in
    let place = c.loop-span.span-index in
    let s = span_at spans place in
    let there : slice_get spans place ≡ Some s = slice_get-get_or spans place (record { start = pos 0; end = pos 0 }) c.loop-span-test.true in
    met_next (g.D.Drawn.calendar c.args.drawn.now) c.args.i spans place (g.D.Drawn.calendar c.loop-span.drawn) _ _ (g.D.Drawn.count c.meets.new.drawn) s there c.loop-span.invariant
    (subst (λ (x : Confirmed). (a : Event) → IsSeriesAt x c.args.i a → AreClear (IsInstance a) (IsInstance a) → IsFewMore (g.D.Drawn.count c.loop-span.drawn) (g.D.Drawn.count c.meets.new.drawn) 3) c.loop-span.invariant.same c.meets.ensures.count)
    (g.D.Drawn.calendar c.meets.new.drawn) c.meets.ensures.calendar
    (subst (λ (x : Confirmed). (a : Event) → IsSeriesAt x c.args.i a → IsSharedByNone a s.start s.end) c.loop-span.invariant.same c.if-meets.ensures.meets)

pub returns-clause-meets : goal.returns-clause-meets
returns-clause-meets g c =
    let test = c.loop-span-test.false in
    met_none (g.D.Drawn.calendar c.args.drawn.now) c.args.i c.args.spans.now c.loop-span.span-index (g.D.Drawn.calendar c.loop-span.drawn) _ _ (omega (arith, test)) c.loop-span.invariant

pub returns-clause-count : goal.returns-clause-count
returns-clause-count g c =
    let most = c.loop-span.auto.span-index-end in
    met_all (g.D.Drawn.calendar c.args.drawn.now) c.args.i c.args.spans.now c.loop-span.span-index (g.D.Drawn.calendar c.loop-span.drawn) _ _ (omega (arith, most)) c.loop-span.invariant
