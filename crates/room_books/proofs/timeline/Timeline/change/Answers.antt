-- What goes is taken out, and what is added is put in beside what is kept.
use Rattle.std.proofs.Common.{ℤ, ◌++◌}
use Rattle.cal_events.specs.declared.instance.Single.{Single}
use Rattle.room_books.specs.Gone.{HaveInstant}
use Rattle.room_books.proofs.timeline_lemmas.Changing.{free_beside}
use Rattle.room_books.proofs.shared_lemmas.Pairs.{pairs_from}
use Rattle.room_books.proofs.shared_lemmas.Parts.{pairs_to, pairs_right, pairs_across}
use Rattle.room_books.proofs.timeline_lemmas.Timelines.{changed_then}
use Rattle.room_books.proofs.timeline.Timeline.change.Goals as goal

abbrev Apart : Single → Single → Type 0
Apart a b = (t : ℤ) → HaveInstant a.span b.span t → ⊥

pub put_all-requires-clause-free : goal.put_all-requires-clause-free
put_all-requires-clause-free c = λ s among.
    let kept = c.requires.shift.0 in let is = c.requires.shift.1 in let added = c.args.added.now in
    free_beside c.args.place kept c.args.self.now.busy.items c.take_all.new.self.busy.items s.span (c.take_all.ensures.changed kept is.held is.apart) (is.free s among)
    (λ k t c h. pairs_across Apart kept added (pairs_to Apart (kept ++ added) is.after) k s c among t h)

pub put_all-requires-clause-separate : goal.put_all-requires-clause-separate
put_all-requires-clause-separate c =
    let kept = c.requires.shift.0 in let added = c.args.added.now in
    pairs_from Apart added (pairs_right Apart kept added (pairs_to Apart (kept ++ added) c.requires.shift.1.after))

pub returns-clause-changed : goal.returns-clause-changed
returns-clause-changed c = λ kept is.
    let first = c.take_all.ensures.changed kept is.held is.apart in
    changed_then c.args.place kept (kept ++ c.args.added.now) c.args.self.now.busy.items c.take_all.new.self.busy.items c.put_all.new.self.busy.items first (c.put_all.ensures.changed kept first.own)
