use Rattle.std.proofs.Common.{◌∙◌, map, sym, ap}
use Rattle.std.proofs.lemmas.List.{length-map}
use Rattle.std.specs.Prelude.{◌==◌}
use Rattle.profile.specs.events.Confirmed.{IsOneOf}
use Rattle.cal_events.specs.Calendar.{instance_of}
use Rattle.cal_agenda.proofs.GapLemmas.{free_if_none}
use Rattle.cal_agenda.proofs.free_spans.is_free.Goals as goal

pub returns : goal.returns
returns c = λ calendar from until agenda.
    free_if_none (IsOneOf calendar) from until (map instance_of c.args.instances.now) c.is_empty.result (c.is_empty.ensures ∙ ap (λ n. n == 0) (sym (length-map c.args.instances.now instance_of))) agenda
