use Rattle.std.proofs.Common.{◌∙◌, rules, tests}
use Rattle.std.proofs.lemmas.Iterator.{YieldsList-from_slice}
use Rattle.std.proofs.lemmas.Iterator.Search.{find_from_yields_List, YieldsList-from_take_while}
use Rattle.room_books.specs.Timeline.{is_leaving, starts_before, stays}
use Rattle.room_books.proofs.timeline.first_staying.Goals as goal

pub returns : goal.returns
returns c = c.copied.ensures ∙ find_from_yields_List (stays (is_leaving c.args.own c.args.gone.now)) _ _ _ c.find.ensures.ran
    (YieldsList-from_take_while _ (starts_before c.args.end) (YieldsList-from_slice c.args.busy.now (cc)) c.take_while.ensures.closure c.take_while.ensures.done (λ x b q k. search (rules, tests))) (λ x b q k. search (rules, tests))
