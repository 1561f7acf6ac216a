-- The series of a calendar while it is made, beside the masters that they are made of.
use Rattle.std.specs.Prelude.{◌≡◌, All, List, true, is_some}
use Rattle.std.specs.List.{AllZip}
use Rattle.std.specs.List.Sorted.{IsPermutation}
use Rattle.profile.specs.checker.Instances.{Key}
use Rattle.profile.specs.events.Events.{is_master}
use Rattle.cal_events.specs.Draft.{IsSaid, override_keys}
use Rattle.cal_events.specs.Entries.{Name}
use Rattle.cal_events.specs.Component.{component_of}
use Rattle.cal_events.specs.Ruled.{IsRuledBeside}
use Rattle.cal_events.specs.Series.{series_said}
use Rattle.cal_events.specs.declared.component.EventComponent.{EventComponent}
use Rattle.cal_events.specs.declared.series.Series.{Series}

-- a master with RRULE that some VEVENT says
pub record IsRuler (master : EventComponent) : Type 0 where
  pub said : IsSaid (component_of master)
  pub is : is_master (component_of master) ≡ true
  pub rule : is_some master.rule ≡ true

abbrev pub AreMasters : List EventComponent → Type 0
AreMasters masters = All IsRuler masters

-- these are the series of those, where overrides replace the instances of these keys
abbrev pub AreSeriesOf : List Key → List EventComponent → List Series → Type 0
AreSeriesOf keys masters series = AllZip (λ m s. IsRuledBeside keys (component_of m) (series_said s)) masters series

-- where overrides replace these instances, in some order
pub record AreRuled (entries : List Name) (masters : List EventComponent) (series : List Series) : Type 0 where
  pub keys : List Key
  pub same : IsPermutation (override_keys entries) keys
  pub each : AreSeriesOf keys masters series
