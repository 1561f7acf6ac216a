use Rattle.std.proofs.lemmas.Grind.{common_steps}
use Rattle.std.proofs.Common.{sym, ◌∙◌, refl, arith}
use Rattle.ical_lines.proofs.CutLemmas.{cut_here, cut_none, cut_all}
use Rattle.ical_lines.proofs.BegunLemmas.{begun_here, begun_all}
use Rattle.ical_lines.proofs.object_end.cut.Goals as goal

pub returns-then-feed : goal.returns-then-feed
returns-then-feed c = record {
  rest = (
    c.loop-place.auto.place-end,
    cut_here c.loop-place.cutter c.args.bytes.now c.loop-place.place _ c.loop-place-test.true refl (sym c.feed.ensures.ended ∙ c.if-feed.true) c.loop-place.invariant.rest,
  );
  begun = sym (begun_here c.loop-place.cutter c.args.bytes.now c.loop-place.place _ c.loop-place-test.true refl (sym c.feed.ensures.ended ∙ c.if-feed.true) c.loop-place.invariant.begun);
}

pub returns-then-has_begun : goal.returns-then-has_begun
returns-then-has_begun c = record {
  rest = (
    omega arith,
    cut_all c.loop-place.cutter c.args.bytes.now c.loop-place.place c.loop-place-test.false c.loop-place.invariant.rest,
  );
  begun = sym (begun_all c.loop-place.cutter c.args.bytes.now c.loop-place.place c.loop-place-test.false c.loop-place.invariant.begun ∙ (sym c.has_begun.ensures ∙ c.if-has_begun.true));
}

pub returns-else-has_begun : goal.returns-else-has_begun
returns-else-has_begun c = record {
  rest = cut_none c.loop-place.cutter c.args.bytes.now c.loop-place.place c.loop-place-test.false c.loop-place.invariant.rest;
  begun = sym (begun_all c.loop-place.cutter c.args.bytes.now c.loop-place.place c.loop-place-test.false c.loop-place.invariant.begun ∙ (sym c.has_begun.ensures ∙ c.if-has_begun.false));
}

pub loop-place-preserved : goal.loop-place-preserved
loop-place-preserved c = grind (arith, common_steps)
