use Rattle.std.proofs.Common.{◌≡◌, ◌∙◌, ◌+◌, ◌++◌, ◌∷◌, [], Global, List, String, take, take_all, map, string_bytes, refl, sym, ap, subst, arith}
use Rattle.std.proofs.lemmas.List.{take_more}
use Rattle.sched_box.specs.Telling.{AllPassed}
use Rattle.sched_box.proofs.TellingLemmas.{name_passed}
use Rattle.sched_box.proofs.folders.tell_left_alone.Goals as goal

pub loop-name-init : goal.loop-name-init
loop-name-init g c = refl

pub loop-name-preserved : goal.loop-name-preserved
loop-name-preserved g c =
    let names = c.args.names.now in
    let i = c.loop-name.name-index in
    let front : take (i + 1) names ≡ take i names ++ c.name-item.result ∷ [] = take_more names i c.name-item.result (omega arith) ∙ ap (λ x. take i names ++ x ∷ []) (sym c.name-item.is) in
    name_passed g.J.Journal.passes c.args.journal.now c.loop-name.journal c.tell_if_left_alone.new.journal (take (i + 1) names) (take i names) c.name-item.result _ front c.as_str.ensures.value c.loop-name.invariant c.tell_if_left_alone.ensures

pub returns : goal.returns
returns g c =
    let P : List (String Global) → Type 0 = λ l. AllPassed g.J.Journal.passes c.args.journal.now (map string_bytes l) c.loop-name.journal in
    subst P (take_all c.loop-name.name-index c.args.names.now (omega arith)) c.loop-name.invariant
