use Rattle.std.proofs.Common.{◌∙◌, ◌++◌, ◌∷◌, [], refl, sym, subst}
use Rattle.std.proofs.lemmas.Iterator.Adapters.{YieldsList-from_vec}
use Rattle.std.proofs.lemmas.Iterator.Consumers.{YieldsList-end}
use Rattle.std.proofs.lemmas.List.{map-id}
use Rattle.sched_box.proofs.MessageLemmas.{ReadSofar, apart_from, messages_are, none_read, read_more, read_none}
use Rattle.sched_box.proofs.folders.messages_among.Goals as goal

pub loop-name-init : goal.loop-name-init
loop-name-init c = none_read _ _ refl c.new-files.ensures.items

pub loop-name-preserved-in_default : goal.loop-name-preserved-in_default
loop-name-preserved-in_default c = read_none _ _ _ c.loop-name.invariant c.in_default.ensures

pub loop-name-preserved : goal.loop-name-preserved
loop-name-preserved c =
    subst (ReadSofar (c.loop-name.yielded ++ c.in-Some.name ∷ [])) (sym c.in_ok-push.ensures.items) (read_more _ _ _ c.in-Some-read.file c.loop-name.invariant c.in-Some-read.ensures.0 c.in-Some-read.ensures.1)

pub returns : goal.returns
returns c =
    let names = c.args.names in
    let gives = c.into_iter-name-iterator.ensures.into_iter_gives in
    let end = YieldsList-end (YieldsList-from_vec {s = c.into_iter-name-iterator.result} names.items gives.0 (gives.1 ∙ names.ok.0)) c.loop-name.yielded c.loop-name.name-iterator c.loop-name.yielded_by c.next.result c.next.new.self c.in-None.is c.next.ensures.steps in
    let all = subst (λ n. ReadSofar n c.loop-name.files.items) (sym (map-id c.loop-name.yielded) ∙ end.0) c.loop-name.invariant in
    record {
      messages = λ image up are. messages_are image names.items c.loop-name.files.items all up are;
      apart = λ up. apart_from names.items c.loop-name.files.items all up;
    }
