use Rattle.std.proofs.Common.{rules}
use Rattle.std.proofs.lemmas.List.Elements.{All-nil}
use Rattle.cal_events.specs.Draft.{IsSaid}
use Rattle.cal_events.proofs.draft.Draft.new.Goals as goal

pub returns-clause-draft : goal.returns-clause-draft
returns-clause-draft c room = record { said = All-nil IsSaid; entries = search rules; begins = search rules; series = search rules; singles = search rules; naming = c.none.ensures room }
