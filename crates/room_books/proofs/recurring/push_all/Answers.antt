use Rattle.std.proofs.Common.{◌∙◌, ◌++◌, List, map, refl, sym, ap, append-nil}
use Rattle.std.proofs.lemmas.List.{take_all}
use denote.Ref.{Bor}
use Rattle.cal_events.specs.declared.series.Series.{Series}
use Rattle.room_books.specs.Recurring.{keyed_of}
use Rattle.room_books.proofs.shared_lemmas.Recurrings.{mapped_more}
use Rattle.room_books.proofs.recurring.push_all.Goals as goal

pub loop-one-init : goal.loop-one-init
loop-one-init c = sym (append-nil (map keyed_of c.args.all.now.items))

pub loop-one-preserved : goal.loop-one-preserved
loop-one-preserved c =
    mapped_more keyed_of (λ (one : Bor Series). (c.args.key.now, one.now)) c.args.all.now.items c.loop-one.all.items c.push.new.self.items c.args.series.now c.loop-one.one-index
    (record { key = c.args.key; series = c.one-item.result }) c.one-item.result c.loop-one-test.true c.one-item.is refl c.in_ok-push.ensures.items c.loop-one.invariant

pub returns : goal.returns
returns c =
    c.loop-one.invariant
    ∙ ap (λ (l : List (Bor Series)). map keyed_of c.args.all.now.items ++ map (λ (one : Bor Series). (c.args.key.now, one.now)) l) (take_all c.loop-one.one-index c.args.series.now c.loop-one-test.false)
