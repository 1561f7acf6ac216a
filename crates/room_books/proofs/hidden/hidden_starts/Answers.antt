use Rattle.std.proofs.Common.{◌≡◌, ◌∙◌, List, [], ◌∷◌, ◌++◌, sym, ap, subst, FitsSigned, to_z, of_z, w64, rules, arith}
use Rattle.std.proofs.lemmas.List.{take_all}
use Rattle.std.proofs.lemmas.Int.{ints}
use Rattle.itip_order.specs.declared.part.Slot.{Slot as OwnSlot}
use Rattle.itip_order.specs.declared.part.Slot.TheVariants as own
use Rattle.itip_order.specs.Parts.{part_of}
use Rattle.room_books.specs.Taking.{AreHiddenStarts, IsHiddenStart}
use Rattle.room_books.proofs.hidden_lemmas.HiddenStarts.{no_starts, starts_pass, starts_push}
use Rattle.room_books.proofs.hidden.hidden_starts.Goals as goal

pub loop-slot-init : goal.loop-slot-init
loop-slot-init c = λ history represented. subst (AreHiddenStarts [] history (part_of c.args.part.now)) (sym c.new-starts.ensures.items) (no_starts history (part_of c.args.part.now))

pub loop-slot-preserved : goal.loop-slot-preserved
loop-slot-preserved c = λ history represented.
    let part = part_of c.args.part.now in
    let start = c.in-Some.start in
    let fits : FitsSigned w64 start = search rules in
    let same : to_z w64 (of_z w64 start) ≡ start = omega (arith, ints) in
    starts_push history part c.args.slots.now c.loop-slot.slot-index own.Whole c.loop-slot-test.true c.loop-slot.starts.items (c.loop-slot.invariant history represented) start c.push.new.self.items
    (subst (IsHiddenStart history part _) c.in-Some.is (c.hidden_start.ensures history represented)) (c.in_ok-push.ensures.items ∙ ap (λ t. c.loop-slot.starts.items ++ t ∷ []) same)

pub loop-slot-preserved-in_default : goal.loop-slot-preserved-in_default
loop-slot-preserved-in_default c = λ history represented.
    let part = part_of c.args.part.now in
    starts_pass history part c.args.slots.now c.loop-slot.slot-index own.Whole c.loop-slot-test.true c.loop-slot.starts.items (c.loop-slot.invariant history represented)
    (subst (IsHiddenStart history part _) c.in_default.is (c.hidden_start.ensures history represented))

pub returns : goal.returns
returns c = λ history represented.
    subst (λ (l : List OwnSlot). AreHiddenStarts l history (part_of c.args.part.now) c.loop-slot.starts.items) (take_all c.loop-slot.slot-index c.args.slots.now (omega arith)) (c.loop-slot.invariant history represented)
