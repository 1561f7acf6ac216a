use Rattle.std.proofs.Common.{sym}
use Rattle.cal_events.proofs.shared_lemmas.DraftLemmas.{none_hidden}
use Rattle.cal_events.proofs.draft.without_hidden.Goals as goal

pub returns-then-is_empty : goal.returns-then-is_empty
returns-then-is_empty c = none_hidden c.args.entries.now c.args.overrides.now c.args.singles.items (sym c.if-is_empty.ensures)
