use Rattle.std.proofs.Common.{◌≡◌, ◌∙◌, ◌+◌, ◌++◌, ◌∷◌, [], List, ℕ, None, refl, take, take_all, map, sym, ap, subst, arith, Contains}
use Rattle.std.proofs.lemmas.List.{map-append, take_more}
use Rattle.std.proofs.lemmas.Result.{err_from_is_err_and}
use Rattle.profile.specs.streams.Folders.{File}
use Rattle.cal_events.proofs.shared_lemmas.InOneOrder.{in_mapped}
use Rattle.sched_box.specs.Running.{GoesOn, HasPublished, IsGained, IsWhole, LeavesHeld, MayGain, file_in}
use Rattle.sched_box.specs.declared.folders.Answer.{Answer}
use Rattle.sched_box.proofs.FolderLemmas.{file_same, first_mapped, never_failed, none_published, published_more, published_some, still_free}
use Rattle.sched_box.proofs.folders.publish_all.Goals as goal

pub loop-answer-init : goal.loop-answer-init
loop-answer-init g c = record {
  known = refl;
  told = refl;
  goes_on = λ known loses. loses;
  so = λ known. none_published (g.O.Folder.image c.args.outbox.now) (g.O.Folder.moment c.args.outbox.now) (g.O.Folder.left_since c.args.outbox.now) (g.O.Folder.may_leave c.args.outbox.now);
}

pub publish_answers-requires : goal.publish_answers-requires
publish_answers-requires g c = λ known.
    let inv = c.loop-answer.invariant in
    let answers = c.args.answers.now in
    let i = c.loop-answer.answer-index in
    let answer = c.answer-item.result in
    let known' = sym inv.known ∙ known in
    let among : Contains answers answer = (i, omega arith, sym c.answer-item.is) in
    let free = c.requires.free known' (file_in answer) (in_mapped file_in answers answer among) in
    let P : List ℕ → Type 0 = λ n. g.O.Folder.image c.loop-answer.outbox n ≡ None in
    subst P (sym c.as_str.ensures.value) (still_free _ _ answers i answer (c.requires.apart known') (omega arith) c.answer-item.is (inv.so known').held free)

pub returns-in_err-publish_answers-clause-ended : goal.returns-in_err-publish_answers-clause-ended
returns-in_err-publish_answers-clause-ended g c =
    let p = err_from_is_err_and c.from_residual.result c.from_residual.ensures.1 in
    rw p.1 (λ known.
    let inv = c.loop-answer.invariant in
    let answers = c.args.answers.now in
    let i = c.loop-answer.answer-index in
    let answer = c.answer-item.result in
    let known' = inv.known ∙ known in
    let same = file_same _ _ _ _ c.as_str.ensures.value c.deref.ensures.value in
    let Whole : File → Type 0 = λ file. IsWhole file (g.O.Folder.image c.loop-answer.outbox) (g.O.Folder.image c.publish_answers.new.outbox) in
    let Goes : File → Type 0 = λ file. GoesOn (g.O.Folder.moment c.loop-answer.outbox) (g.O.Folder.moment c.publish_answers.new.outbox) (g.O.Folder.left_since c.loop-answer.outbox) (g.O.Folder.left_since c.publish_answers.new.outbox) (MayGain file (g.O.Folder.may_leave c.loop-answer.outbox)) in
    published_some _ (map file_in answers) (i + 1) (map file_in (take i answers)) (file_in answer) _ _ _ _ _ _ _ _ _ _ (first_mapped answers i answer (omega arith) c.answer-item.is) (inv.so known)
    (subst Whole same (c.in_err-publish_answers.ensures.whole known')) (subst Goes same (c.in_err-publish_answers.ensures.time known')))

pub loop-answer-preserved : goal.loop-answer-preserved
loop-answer-preserved g c =
    let inv = c.loop-answer.invariant in
    let answers = c.args.answers.now in
    let i = c.loop-answer.answer-index in
    let answer = c.answer-item.result in
    record {
      known = c.in_ok-publish_answers.ensures.known ∙ inv.known;
      told = c.in_ok-publish_answers.ensures.told (never_failed _ _) ∙ inv.told;
      goes_on = λ known loses. c.in_ok-publish_answers.ensures.goes_on (inv.known ∙ known) (inv.goes_on known loses);
      so = λ known.
          let known' = inv.known ∙ known in
          let start = g.O.Folder.image c.args.outbox.now in
          let new = c.publish_answers.new.outbox in
          let same = file_same _ _ _ _ c.as_str.ensures.value c.deref.ensures.value in
          let Gained : File → Type 0 = λ file. IsGained file (g.O.Folder.image c.loop-answer.outbox) (g.O.Folder.image new) (g.O.Folder.may_leave c.loop-answer.outbox) (g.O.Folder.may_leave new) in
          let Goes : File → Type 0 = λ file. GoesOn (g.O.Folder.moment c.loop-answer.outbox) (g.O.Folder.moment new) (g.O.Folder.left_since c.loop-answer.outbox) (g.O.Folder.left_since new) (MayGain file (g.O.Folder.may_leave c.loop-answer.outbox)) in
          let Published : List File → Type 0 = λ l. HasPublished start l (g.O.Folder.moment c.args.outbox.now) (g.O.Folder.image new) (g.O.Folder.moment new) (LeavesHeld start (g.O.Folder.may_leave c.args.outbox.now)) (g.O.Folder.left_since c.args.outbox.now) (g.O.Folder.left_since new) (g.O.Folder.may_leave new) in
          let front : map file_in (take (i + 1) answers) ≡ map file_in (take i answers) ++ file_in answer ∷ [] =
          ap (map file_in) (take_more answers i answer (omega arith) ∙ ap (λ x. take i answers ++ x ∷ []) (sym c.answer-item.is)) ∙ map-append file_in (take i answers) (answer ∷ []) in
          subst Published (sym front)
          (published_more start (map file_in (take i answers)) (file_in answer) _ _ _ _ _ _ _ _ _ _ _ (inv.so known) (subst Gained same (c.in_ok-publish_answers.ensures.published known')) (subst Goes same (c.in_ok-publish_answers.ensures.time known')));
    }

pub returns-clause-published : goal.returns-clause-published
returns-clause-published g c = λ known.
    let start = g.O.Folder.image c.args.outbox.now in
    let new = c.loop-answer.outbox in
    let Published : List Answer → Type 0 = λ l. HasPublished start (map file_in l) (g.O.Folder.moment c.args.outbox.now) (g.O.Folder.image new) (g.O.Folder.moment new) (LeavesHeld start (g.O.Folder.may_leave c.args.outbox.now)) (g.O.Folder.left_since c.args.outbox.now) (g.O.Folder.left_since new) (g.O.Folder.may_leave new) in
    subst Published (take_all c.loop-answer.answer-index c.args.answers.now (omega arith)) (c.loop-answer.invariant.so known)
