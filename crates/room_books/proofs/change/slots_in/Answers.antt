use Rattle.std.proofs.Common.{◌∙◌, ◌++◌, ◌∷◌, [], take, map, sym, ap, arith}
use Rattle.std.proofs.lemmas.List.{map-append}
use Rattle.room_books.specs.declared.meeting.PartAnswer.{PartAnswer}
use Rattle.room_books.proofs.shared_lemmas.Loops.{one_more}
use Rattle.room_books.proofs.change.slots_in.Goals as goal

pub loop-given-preserved : goal.loop-given-preserved
loop-given-preserved c =
    let answers = c.args.answers.now in
    let i = c.loop-given.given-index in
    c.in_ok-push.ensures.items ∙ ap (λ l. l ++ c.given-item.result.slot ∷ []) c.loop-given.invariant
    ∙ sym (map-append (λ (given : PartAnswer). given.slot) (take i answers) (c.given-item.result ∷ []))
    ∙ ap (map (λ (given : PartAnswer). given.slot)) (sym (one_more answers i c.given-item.result (omega arith) c.given-item.is))
