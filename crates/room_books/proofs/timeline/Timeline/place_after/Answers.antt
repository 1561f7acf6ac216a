-- Those that end by an instant come first.
use Rattle.std.proofs.Common.{List, sym, subst, rules}
use Rattle.std.proofs.lemmas.List.Sorted.{IsPartitionPoint-from_clause}
use Rattle.room_books.specs.declared.timeline.Busy.{Busy}
use Rattle.room_books.specs.Timeline.{AreBusy, IsPlaceAfter}
use Rattle.room_books.proofs.timeline_lemmas.Timelines.{ends_by, ends_from, ends_to, ends_not, parted, placed}
use Rattle.room_books.proofs.timeline.Timeline.place_after.Goals as goal

pub returns : goal.returns
returns c =
    let t = c.args.instant in
    let items = c.deref.result.now in
    let busy : AreBusy items = subst AreBusy (sym c.deref.ensures.value) c.args.self.now.apart in
    let point = IsPartitionPoint-from_clause (ends_by t) items c.partition_point.result c.partition_point.ensures.partitioned (parted items t (ends_by t) busy (ends_from t) (ends_to t)) (λ a r q k. search rules) in
    subst (λ (l : List Busy). IsPlaceAfter l t c.partition_point.result) c.deref.ensures.value
    (placed items t (ends_by t) c.partition_point.result c.partition_point.ensures.bound (ends_from t) (ends_not t) point)
