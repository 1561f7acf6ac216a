use Rattle.std.proofs.Common.{◌≡◌, ◌∙◌, ◌+◌, ◌++◌, ◌∷◌, [], take, sym, ap, arith}
use Rattle.std.proofs.lemmas.List.{take_more}
use Rattle.itip_messages.proofs.shared_lemmas.LineLemmas.{events_more}
use Rattle.itip_messages.proofs.reply.write_events.Goals as goal

pub loop-event-preserved : goal.loop-event-preserved
loop-event-preserved c =
    let events = c.args.events.now in
    let i = c.loop-event.event-index in
    let event = c.event-item.result in
    let more : take (i + 1) events ≡ take i events ++ event ∷ [] = take_more events i event (omega arith) ∙ ap (λ x. take i events ++ x ∷ []) (sym c.event-item.is) in
    rw more (events_more (take i events) event _ _ _ c.loop-event.invariant c.in_ok-write_event.ensures.ok)
