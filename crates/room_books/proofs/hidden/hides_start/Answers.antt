use Rattle.std.proofs.Common.{◌≡◌, false, List, sym, subst, arith, Option}
use Rattle.std.proofs.lemmas.List.{take_all}
use Rattle.itip_order.specs.declared.part.Slot.{Slot as OwnSlot}
use Rattle.itip_order.specs.declared.part.Slot.TheVariants as own
use Rattle.itip_order.specs.Parts.{part_of}
use Rattle.cal_events.specs.declared.series.Series.{Series}
use Rattle.room_books.specs.Taking.{is_hidden_by, IsSeriesLeft}
use Rattle.room_books.proofs.hidden_lemmas.HiddenStarts.{none_before, none_hidden, one_hidden, series_whole}
use Rattle.room_books.proofs.hidden.hides_start.Goals as goal

pub loop-slot-init : goal.loop-slot-init
loop-slot-init c = λ history represented b inside. none_before history (part_of c.args.part.now) b

pub loop-slot-preserved : goal.loop-slot-preserved
loop-slot-preserved c = λ history represented b inside.
    let slots = c.args.slots.now in
    let i = c.loop-slot.slot-index in
    let part = part_of c.args.part.now in
    none_hidden slots i own.Whole c.loop-slot-test.true history part b (c.loop-slot.invariant history represented b inside) (c.hides_one.ensures.none c.if-hides_one.false history represented b inside)

pub returns-clause-none : goal.returns-clause-none
returns-clause-none c = λ none history represented.
    let slots = c.args.slots.now in
    let hides = is_hidden_by slots history (part_of c.args.part.now) in
    let all = take_all c.loop-slot.slot-index slots (omega arith) in
    let series = c.in-Some.series in
    subst (λ (o : Option Series). IsSeriesLeft hides o o) (sym c.in-Some.is)
    (series_whole hides series (λ b inside. subst (λ (l : List OwnSlot). is_hidden_by l history (part_of c.args.part.now) b ≡ false) all (c.loop-slot.invariant history represented b inside)))

pub returns-then-hides_one-clause-one : goal.returns-then-hides_one-clause-one
returns-then-hides_one-clause-one c = λ t history represented.
    let found = c.hides_one.ensures.one c.if-hides_one.true history represented in
    one_hidden c.args.slots.now c.loop-slot.slot-index own.Whole c.loop-slot-test.true history (part_of c.args.part.now) c.in-Some.series found.0 found.1 found.2 found.3 c.args.series.now c.in-Some.is
