use Rattle.std.proofs.Common.{◌∙◌, option_map, sym}
use Rattle.ical_values.proofs.AllOrNone.{taken_back, where_err, where_ok}
use Rattle.cal_zones.specs.Kinds.{zone_of}
use Rattle.cal_events.specs.Calendar.{instance_of}
use Rattle.cal_agenda.specs.Printing.{IsAgendaLine}
use Rattle.cal_agenda.proofs.LineLemmas.{next_line, all_lines}
use Rattle.cal_agenda.proofs.text.write_agenda.Goals as goal

pub loop-instance-preserved : goal.loop-instance-preserved
loop-instance-preserved c =
    let (line, is, grown) = where_ok c.write_instance.result _ (sym c.is_err.ensures.value ∙ c.if-is_err.false) c.write_instance.ensures.ok in (
      c.loop-instance.invariant.0,
      next_line (IsAgendaLine (option_map zone_of c.args.zone)) instance_of c.args.instances.now c.loop-instance.instance-index _ c.args.out.now.items c.loop-instance.out.items c.write_instance.new.out.items line
          c.loop-instance-test.true is grown c.loop-instance.invariant.1,
    )

pub returns-then-is_err-clause-err : goal.returns-then-is_err-clause-err
returns-then-is_err-clause-err c =
    let kept = where_err c.write_instance.result _ (sym c.is_err.ensures.value ∙ c.if-is_err.true) c.write_instance.ensures.err in
    taken_back c.args.out.now.items _ c.loop-instance.out.items _ _ c.len-start.result c.loop-instance.invariant.0 c.loop-instance.invariant.1.2 kept c.truncate.ensures.items

pub returns-clause-ok : goal.returns-clause-ok
returns-clause-ok c = all_lines (IsAgendaLine (option_map zone_of c.args.zone)) instance_of c.args.instances.now c.loop-instance.instance-index c.args.out.now.items _ c.loop-instance-test.false c.loop-instance.invariant.1
