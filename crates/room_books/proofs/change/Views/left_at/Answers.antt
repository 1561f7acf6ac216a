use Rattle.std.proofs.Common.{◌≡◌, ◌∙◌, ◌++◌, ◌∷◌, sym, ap, subst, List, Option, take, arith, [], None, Some, refl, append-nil}
use Rattle.std.proofs.lemmas.List.{map-append}
use denote.Ref.{Bor}
use Rattle.itip_order.specs.Parts.{part_of}
use Rattle.room_books.specs.declared.meeting.PartAnswer.{PartAnswer}
use Rattle.room_books.specs.Slots.{givens}
use Rattle.room_books.specs.Gone.{Sheds, IsSplitInto}
use Rattle.room_books.specs.Taking.{series_still, singles_of_left}
use Rattle.room_books.specs.Meeting.{all_series, all_singles, AddsLoss, AreFewer, SaysLossOfOne}
use Rattle.room_books.specs.Room.{KeepsSome}
use Rattle.itip_messages.proofs.shared_lemmas.WrittenLines.{flat_push}
use Rattle.room_books.proofs.shared_lemmas.Loops.{one_more}
use Rattle.room_books.proofs.change_lemmas.Own.{keeps_none, keeps_more}
use Rattle.std.specs.Option.{option_to_list}
use Rattle.room_books.proofs.shared_lemmas.Fewer.{fewer_none, one_fewer}
use Rattle.room_books.proofs.shared_lemmas.Losses.{lost_none, one_lost}
use Rattle.room_books.proofs.change_lemmas.Splits.{one_shed, split_none}
use Rattle.room_books.proofs.change.Views.left_at.Goals as goal

some_is : {X : Type 0} (a b : X) → Some a ≡ Some b → a ≡ b
some_is a b e = cc

none_is : {X : Type 0} (a : X) → Some a ≡ None → ⊥
none_is a e = absurd (cc)

pub loop-given-init : goal.loop-given-init
loop-given-init c =
    let part = part_of c.args.self.now.part.now in let slots = c.args.self.now.slots.now in let before = c.args.before.now.held in let after = c.args.self.now.after.now in (
      subst (λ (l : List PartAnswer). KeepsSome part slots before after [] l) (sym c.new-left.ensures.items) (keeps_none part slots before after),
      split_none [] c.new.result.items c.new-left.result.items refl c.new.ensures.items c.new-left.ensures.items,
      subst (λ (l : List PartAnswer). AreFewer [] (all_series l)) (sym c.new-left.ensures.items) (fewer_none []),
      λ history s. lost_none (all_series c.new-left.result.items),
    )

pub loop-given-preserved : goal.loop-given-preserved
loop-given-preserved c =
    let out = c.args.out.now in
    let i = c.loop-given.given-index in
    let given = c.given-item.result.now in
    let o = c.in_ok-still.field-0 in
    let left = c.in-Some.still in
    let part = part_of c.args.self.now.part.now in let slots = c.args.self.now.slots.now in let before = c.args.before.now.held in let after = c.args.self.now.after.now in
    let more = ap givens (one_more out i c.given-item.result (omega arith) c.given-item.is) ∙ map-append (λ (g : Bor PartAnswer). g.now) (take i out) (c.given-item.result ∷ []) in
    let old = c.loop-given.left.items in
    let new = c.push.new.self.items in
    let shed = subst (λ (x : Option PartAnswer). Sheds given.singles.items (singles_of_left x) c.loop-given.gone.singles.items c.still.new.gone.singles.items) c.in-Some.is c.in_ok-still.ensures.sheds in (
      subst (λ (l : List PartAnswer). KeepsSome part slots before after l new) (sym more)
          (keeps_more part slots before after (givens (take i out)) old new given o c.loop-given.invariant.0 c.in_ok-still.ensures.still
          (λ found e. c.in_ok-push.ensures.items ∙ ap (λ x. old ++ x ∷ []) (some_is left found (sym c.in-Some.is ∙ e)))
          (λ e. absurd (none_is left (sym c.in-Some.is ∙ e)))),
      subst (λ (l : List PartAnswer). IsSplitInto (all_singles l) c.still.new.gone.singles.items (all_singles new)) (sym more)
          (one_shed (givens (take i out)) given left.singles.items (all_singles old) (all_singles new) c.loop-given.gone.singles.items c.still.new.gone.singles.items shed
          (ap all_singles c.in_ok-push.ensures.items ∙ flat_push (λ (x : PartAnswer). x.singles.items) old left) c.loop-given.invariant.1),
      subst (λ (l : List PartAnswer). AreFewer (all_series l) (all_series new)) (sym more)
          (one_fewer (givens (take i out)) given (option_to_list left.series) (all_series old) (all_series new)
          (subst (λ (x : Option PartAnswer). AreFewer (option_to_list given.series) (series_still x)) c.in-Some.is c.in_ok-still.ensures.fewer)
          (ap all_series c.in_ok-push.ensures.items ∙ flat_push (λ (x : PartAnswer). option_to_list x.series) old left) c.loop-given.invariant.2),
      λ history s. subst (λ (l : List PartAnswer). SaysLossOfOne c.still.new.gone.recurs (all_series l) (all_series new)) (sym more)
          (one_lost c.loop-given.gone.recurs c.still.new.gone.recurs (givens (take i out)) given (option_to_list left.series) (all_series old) (all_series new)
          (subst (λ (x : Option PartAnswer). AddsLoss c.loop-given.gone.recurs c.still.new.gone.recurs (option_to_list given.series) (series_still x)) c.in-Some.is (c.in_ok-still.ensures.loses history s))
          (ap all_series c.in_ok-push.ensures.items ∙ flat_push (λ (x : PartAnswer). option_to_list x.series) old left) c.loop-given.invariant.2
          (subst (λ (x : Option PartAnswer). AreFewer (option_to_list given.series) (series_still x)) c.in-Some.is c.in_ok-still.ensures.fewer) (c.loop-given.invariant.3 history s)),
    )

pub loop-given-preserved-in_default : goal.loop-given-preserved-in_default
loop-given-preserved-in_default c =
    let out = c.args.out.now in
    let i = c.loop-given.given-index in
    let given = c.given-item.result.now in
    let part = part_of c.args.self.now.part.now in let slots = c.args.self.now.slots.now in let before = c.args.before.now.held in let after = c.args.self.now.after.now in
    let more = ap givens (one_more out i c.given-item.result (omega arith) c.given-item.is) ∙ map-append (λ (g : Bor PartAnswer). g.now) (take i out) (c.given-item.result ∷ []) in
    let old = c.loop-given.left.items in
    let shed = subst (λ (x : Option PartAnswer). Sheds given.singles.items (singles_of_left x) c.loop-given.gone.singles.items c.still.new.gone.singles.items) c.in_default.is c.in_ok-still.ensures.sheds in (
      subst (λ (l : List PartAnswer). KeepsSome part slots before after l old) (sym more)
          (keeps_more part slots before after (givens (take i out)) old old given c.in_ok-still.field-0 c.loop-given.invariant.0 c.in_ok-still.ensures.still
          (λ left e. absurd (none_is left (sym e ∙ c.in_default.is)))
          (λ e. refl)),
      subst (λ (l : List PartAnswer). IsSplitInto (all_singles l) c.still.new.gone.singles.items (all_singles old)) (sym more)
          (one_shed (givens (take i out)) given [] (all_singles old) (all_singles old) c.loop-given.gone.singles.items c.still.new.gone.singles.items shed (sym (append-nil (all_singles old))) c.loop-given.invariant.1),
      subst (λ (l : List PartAnswer). AreFewer (all_series l) (all_series old)) (sym more)
          (one_fewer (givens (take i out)) given [] (all_series old) (all_series old) (fewer_none (option_to_list given.series)) (sym (append-nil (all_series old))) c.loop-given.invariant.2),
      λ history s. subst (λ (l : List PartAnswer). SaysLossOfOne c.still.new.gone.recurs (all_series l) (all_series old)) (sym more)
          (one_lost c.loop-given.gone.recurs c.still.new.gone.recurs (givens (take i out)) given [] (all_series old) (all_series old)
          (subst (λ (x : Option PartAnswer). AddsLoss c.loop-given.gone.recurs c.still.new.gone.recurs (option_to_list given.series) (series_still x)) c.in_default.is (c.in_ok-still.ensures.loses history s))
          (sym (append-nil (all_series old))) c.loop-given.invariant.2 (fewer_none (option_to_list given.series)) (c.loop-given.invariant.3 history s)),
    )
