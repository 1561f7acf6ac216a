use Rattle.std.proofs.Common.{◌≤◌, ◌<◌, ◌∙◌, ℕ, List, [], length, map, get_or, subst, sym}
use Rattle.std.proofs.lemmas.List.{take_all}
use Rattle.room_books.specs.declared.recurring.Recurring.{Recurring}
use Rattle.room_books.specs.Recurring.{recurring_said}
use Rattle.room_books.proofs.room_lemmas.RoomSeries.{AreThere, there_all, there_more, there_none, there_pass, place_eq, place_there}
use Rattle.room_books.proofs.decide.Deciding.other_series.Goals as goal

pub loop-place-init : goal.loop-place-init
loop-place-init c =
    let k = c.args.self.now.key.now in let es = c.args.self.now.room.now.meetings.entries in let own = c.get_index_of-own.result in
    subst (λ (l : List Recurring). AreThere k es own [] (map recurring_said l)) (sym c.new-all.ensures.items) (there_none k es c.get_index_of-own.ensures.unique own c.get_index_of-own.ensures.index)

pub loop-place-preserved-then-eq : goal.loop-place-preserved-then-eq
loop-place-preserved-then-eq c =
    let k = c.args.self.now.key.now in let es = c.args.self.now.room.now.meetings.entries in let own = c.get_index_of-own.result in
    let places = c.args.self.now.room.now.recurring.items in let lent = c.deref-place-items.result.now in
    let place = get_or lent c.loop-place.place-index 0 in
    there_pass k es c.get_index_of-own.ensures.unique own c.get_index_of-own.ensures.index places c.loop-place.place-index place (map recurring_said c.loop-place.all.items)
    (subst (λ (l : List ℕ). c.loop-place.place-index < length l) c.deref-place-items.ensures.value c.loop-place-test.true)
    (place_there places lent c.deref-place-items.ensures.value c.loop-place.place-index c.loop-place-test.true)
    (sym (place_eq own place) ∙ sym c.eq.ensures ∙ c.if-eq.true) c.loop-place.invariant

pub loop-place-preserved : goal.loop-place-preserved
loop-place-preserved c =
    let k = c.args.self.now.key.now in let es = c.args.self.now.room.now.meetings.entries in let own = c.get_index_of-own.result in
    let places = c.args.self.now.room.now.recurring.items in let lent = c.deref-place-items.result.now in
    let place = get_or lent c.loop-place.place-index 0 in
    there_more k es c.get_index_of-own.ensures.unique own c.get_index_of-own.ensures.index places c.loop-place.place-index place (map recurring_said c.loop-place.all.items) (map recurring_said c.push_at.new.all.items)
    (subst (λ (l : List ℕ). c.loop-place.place-index < length l) c.deref-place-items.ensures.value c.loop-place-test.true)
    (place_there places lent c.deref-place-items.ensures.value c.loop-place.place-index c.loop-place-test.true)
    (sym (place_eq own place) ∙ sym c.eq.ensures ∙ c.if-eq.false) c.in_ok-push_at.ensures c.loop-place.invariant

pub returns : goal.returns
returns c =
    let k = c.args.self.now.key.now in let es = c.args.self.now.room.now.meetings.entries in let own = c.get_index_of-own.result in
    let places = c.args.self.now.room.now.recurring.items in
    let end = subst (λ (l : List ℕ). length l ≤ c.loop-place.place-index) c.deref-place-items.ensures.value c.loop-place-test.false in
    there_all k es c.get_index_of-own.ensures.unique own c.get_index_of-own.ensures.index places c.loop-place.all.items c.args.self.now.room.now.recurs
    (subst (λ (l : List ℕ). AreThere k es own l (map recurring_said c.loop-place.all.items)) (take_all c.loop-place.place-index places end) c.loop-place.invariant)
