use Rattle.std.proofs.Common.{List, ℕ, subst}
use Rattle.std.specs.Prelude.{IfOk, IfErr}
use Rattle.ical_lines.specs.Text.{line_text, numbered}
use Rattle.profile.specs.events.ZonedTimes.{SaysZonedText, ZonedTextFault}
use Rattle.cal_events.specs.Blame.{TextBlame, zones_of}
use Rattle.cal_events.specs.Times.{form_said, zone_said, local_said}
use Rattle.cal_events.specs.Zones.{object_of}
use Rattle.cal_events.proofs.when.When.read.Goals as goal

pub returns-clause-says : goal.returns-clause-says
returns-clause-says c =
    subst (λ (text : List ℕ). IfOk c.read_text.result (λ t. SaysZonedText (object_of c.args.zones.now) (line_text c.args.line) text (form_said t) (zone_said t) (local_said t))) c.value.ensures
    c.read_text.ensures.says

pub returns-clause-fault : goal.returns-clause-fault
returns-clause-fault c =
    subst (λ (text : List ℕ). IfErr c.read_text.result (λ e. ZonedTextFault (object_of c.args.zones.now) (line_text c.args.line) text e.number)) c.value.ensures
    c.read_text.ensures.fault

pub returns-clause-at : goal.returns-clause-at
returns-clause-at c =
    subst (λ (text : List ℕ). IfErr c.read_text.result (λ e. TextBlame (zones_of c.args.zones.now) (numbered c.args.line) text e.number e.line)) c.value.ensures
    c.read_text.ensures.at
