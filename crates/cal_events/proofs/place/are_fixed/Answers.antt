use Rattle.std.proofs.Common.{◌∙◌, sym}
use Rattle.std.proofs.lemmas.List.Folds.{list_all-map}
use Rattle.profile.specs.events.Occurrences.{Time}
use Rattle.profile.specs.events.Properties.{is_fixed}
use Rattle.cal_events.specs.Component.{time_of}
use Rattle.cal_events.proofs.place.are_fixed.Goals as goal

pub returns : goal.returns
returns c = c.is_each_fixed.ensures ∙ sym (list_all-map (λ (time : Time). is_fixed time.form) time_of c.args.times.now)
