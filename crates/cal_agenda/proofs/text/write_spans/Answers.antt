use Rattle.std.proofs.Common.{◌∙◌, option_map, sym}
use Rattle.ical_values.proofs.AllOrNone.{taken_back, where_err, where_ok}
use Rattle.cal_zones.specs.Kinds.{zone_of}
use Rattle.cal_agenda.specs.Gaps.{ends_of}
use Rattle.cal_agenda.specs.Printing.{IsFreeLine}
use Rattle.cal_agenda.proofs.LineLemmas.{next_line, all_lines}
use Rattle.cal_agenda.proofs.text.write_spans.Goals as goal

pub loop-span-preserved : goal.loop-span-preserved
loop-span-preserved c =
    let (line, is, grown) = where_ok c.write_span.result _ (sym c.is_err.ensures.value ∙ c.if-is_err.false) c.write_span.ensures.ok in (
      c.loop-span.invariant.0,
      next_line (IsFreeLine (option_map zone_of c.args.zone)) ends_of c.args.spans.now c.loop-span.span-index _ c.args.out.now.items c.loop-span.out.items c.write_span.new.out.items line
          c.loop-span-test.true is grown c.loop-span.invariant.1,
    )

pub returns-then-is_err-clause-err : goal.returns-then-is_err-clause-err
returns-then-is_err-clause-err c =
    let kept = where_err c.write_span.result _ (sym c.is_err.ensures.value ∙ c.if-is_err.true) c.write_span.ensures.err in
    taken_back c.args.out.now.items _ c.loop-span.out.items _ _ c.len-kept.result c.loop-span.invariant.0 c.loop-span.invariant.1.2 kept c.truncate.ensures.items

pub returns-clause-ok : goal.returns-clause-ok
returns-clause-ok c = all_lines (IsFreeLine (option_map zone_of c.args.zone)) ends_of c.args.spans.now c.loop-span.span-index c.args.out.now.items _ c.loop-span-test.false c.loop-span.invariant.1
