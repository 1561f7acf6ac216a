-- The first that ends after the start.
use Rattle.std.proofs.Common.{◌≡◌, ◌-◌, ℤ, sym, ap, ◌∙◌, subst, rules, w64, FitsSigned, length, take, drop}
use Rattle.std.specs.List.{find, take_while}
use Rattle.std.proofs.lemmas.Bool.{true≢false}
use Rattle.std.proofs.lemmas.Int.{to_z-of_z}
use Rattle.std.proofs.lemmas.List.{take_rest}
use Rattle.room_books.specs.Timeline.{IsPlaceAfter, is_leaving, starts_before, stays}
use Rattle.room_books.proofs.timeline_lemmas.Timelines.{shared_is, shared_none}
use Rattle.room_books.proofs.timeline.Timeline.taken_in.Goals as goal

pub returns-then-not-holds_instants : goal.returns-then-not-holds_instants
returns-then-not-holds_instants c = shared_none (is_leaving c.args.own c.args.gone.now) c.args.self.now.busy.items c.args.span (λ h. true≢false (sym (c.holds_instants.ensures.1 h) ∙ c.if-not-holds_instants.true))

pub returns : goal.returns
returns c =
    let items = c.args.self.now.busy.items in
    let place = c.place_after-place.result in
    let fits : FitsSigned w64 c.args.span.start = search rules in
    let fits_end : FitsSigned w64 c.args.span.end = search rules in
    let at = subst (λ (t : ℤ). IsPlaceAfter items t place) (to_z-of_z w64 c.args.span.start fits) c.place_after-place.ensures in
    let rest : take (length c.deref.result.now - place) (drop place c.deref.result.now) ≡ drop place items = take_rest c.deref.result.now place ∙ ap (drop place) c.deref.ensures.value in
    shared_is (is_leaving c.args.own c.args.gone.now) items c.args.span place c.first_staying.result c.args.self.now.apart (c.holds_instants.ensures.0 c.if-not-holds_instants.false) at
    (c.first_staying.ensures ∙ ap (λ t. find (stays (is_leaving c.args.own c.args.gone.now)) (take_while (starts_before t) (take (length c.deref.result.now - place) (drop place c.deref.result.now)))) (to_z-of_z w64 c.args.span.end fits_end) ∙ ap (λ l. find (stays (is_leaving c.args.own c.args.gone.now)) (take_while (starts_before c.args.span.end) l)) rest)
