use Rattle.std.specs.Prelude.{option_map}
use Rattle.cal_events.specs.Calendar.{instance_of}
use Rattle.cal_events.specs.Series.{series_said}
use Rattle.cal_events.proofs.shared_lemmas.Overlaps.{sharer_of}
use Rattle.cal_events.proofs.series.Series.first_sharer.Goals as goal

pub returns : goal.returns
returns c = sharer_of (series_said c.args.self.now) c.args.span c.before_horizon.result c.before_horizon.ensures (option_map instance_of c.first_overlap.result) c.first_overlap.ensures
