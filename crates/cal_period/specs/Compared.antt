-- A series that is compared with many others.
use Rattle.profile.specs.events.Events.{Event}
use Rattle.cal_events.specs.Series.{series_said}
use Rattle.cal_period.specs.declared.new_series.NewSeries.{NewSeries}

-- the series itself
abbrev pub compared : NewSeries → Event
compared new = series_said new.series.now
