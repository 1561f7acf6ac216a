use Rattle.std.proofs.Common.{◌++◌, ◌∷◌, [], sym, subst, List}
use Rattle.std.specs.List.{AllZip}
use Rattle.room_books.specs.declared.meeting.PartAnswer.{PartAnswer}
use Rattle.room_books.specs.Taking.{IsDecided}
use Rattle.room_books.proofs.shared_lemmas.Loops.{zip_push}
use Rattle.room_books.proofs.decide.decided.Goals as goal

pub loop-candidate-preserved : goal.loop-candidate-preserved
loop-candidate-preserved c =
    let R : PartAnswer → PartAnswer → Type 0 = λ candidate given. IsDecided candidate c.args.outcome.now given in
    subst (λ (l : List PartAnswer). AllZip R (c.loop-candidate.yielded ++ c.in-Some.candidate ∷ []) l) (sym c.in_ok-push.ensures.items)
    (zip_push R c.loop-candidate.yielded c.loop-candidate.given.items c.in-Some.candidate c.in_ok-decided.field-0 c.loop-candidate.invariant c.in_ok-decided.ensures)
