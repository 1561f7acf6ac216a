use Rattle.std.proofs.Common.{◌∙◌, ◌++◌, List, map, ap, sym, append-nil}
use denote.Ref.{Bor}
use Rattle.cal_events.specs.declared.series.Series.{Series}
use Rattle.room_books.specs.Meeting.{all_series}
use Rattle.room_books.proofs.confirming_lemmas.WholeAlone.{series_lost, series_stay, whole_series}
use Rattle.room_books.proofs.confirming.push_kept.Goals as goal

pub returns-then-is_touched : goal.returns-then-is_touched
returns-then-is_touched c =
    let old : List Series = map (λ (one : Bor Series). one.now) c.args.series.now.items in
    sym (append-nil old) ∙ ap (λ l. old ++ l) (sym (series_lost c.args.lost.now c.args.answers.now (sym c.is_touched.ensures ∙ c.if-is_touched.true)))

pub returns : goal.returns
returns c =
    let old : List Series = map (λ (one : Bor Series). one.now) c.args.series.now.items in
    let answers = c.args.answers.now in
    c.in_ok-push_series.ensures
    ∙ ap (λ l. old ++ l) (ap all_series c.answers_of.ensures ∙ whole_series answers ∙ sym (series_stay c.args.lost.now answers (sym c.is_touched.ensures ∙ c.if-is_touched.false)))
