use Rattle.std.proofs.lemmas.Grind.{merely}
use Rattle.ical_tree.specs.Tree.{component_lines}
use Rattle.cal_events.specs.Component.{component_of, method_read}
use Rattle.cal_events.specs.Zones.{object_of}
use Rattle.cal_events.proofs.shared_lemmas.Placing.{is_written}
use Rattle.cal_events.proofs.reading.read_placed.Goals as goal

-- what was read is written
pub placed-requires : goal.placed-requires
placed-requires c =
    merely (is_written (object_of c.args.zones.now) (method_read c.args.method) (component_lines c.args.component.now) (component_of c.in_ok-event.event) c.in_ok-event.ensures.says)
