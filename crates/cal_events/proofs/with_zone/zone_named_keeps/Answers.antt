use Rattle.cal_events.proofs.with_zone_lemmas.Named.{spells_named, holds_named}
use Rattle.cal_events.proofs.with_zone.zone_named_keeps.Goals as goal

pub returns-clause-spells : goal.returns-clause-spells
returns-clause-spells c = spells_named

pub returns-clause-holds : goal.returns-clause-holds
returns-clause-holds c = holds_named
