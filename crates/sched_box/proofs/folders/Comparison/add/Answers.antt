use Rattle.std.proofs.Common.{◌∙◌, ◌∷◌, [], map, string_bytes, refl, ap, subst}
use Rattle.std.proofs.lemmas.List.{map-append}
use Rattle.sched_box.specs.Running.{IsStanding, file_in}
use Rattle.sched_box.proofs.FolderLemmas.{other_finds}
use Rattle.sched_box.proofs.folders.Comparison.add.Goals as goal

pub returns-in_ok-push-in-Other-clause-finds : goal.returns-in_ok-push-in-Other-clause-finds
returns-in_ok-push-in-Other-clause-finds c = λ image stands.
    let answer = c.args.compared.answer in
    other_finds image (file_in answer) c.args.self.now _ (subst (IsStanding image (file_in answer)) c.in-Other.is stands) refl refl
    (ap (map string_bytes) c.in_ok-push-in-Other.ensures.items ∙ map-append string_bytes c.args.self.now.differing.items (answer.name ∷ []))
