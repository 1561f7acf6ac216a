use Rattle.std.proofs.Common.{◌&&◌, not, ◌++◌, ◌∷◌, [], List, ◌∙◌, sym, ap, append-nil}
use Rattle.organiser_books.specs.Attending.{gone_in, is_no_organiser, is_reached}
use Rattle.ical_values.specs.Octets.{address_octets}
use Rattle.organiser_books.proofs.Loops.{walked}
use Rattle.organiser_books.proofs.Picking.{Entry, picked_no, picked_yes, gone_is}
use Rattle.organiser_books.proofs.attending.gone.Goals as goal

pub loop-address-preserved-in_ok-push : goal.loop-address-preserved-in_ok-push
loop-address-preserved-in_ok-push c =
    let i = c.loop-address.invariant in
    let e : Entry = (c.in-Some.address.now, c.in-Some.attendance.now) in (
      i.0 ++ e ∷ [],
      walked i.0 c.loop-address.address-iterator c.next.new.self c.args.last.now.entries e c.in-Some.ensures.steps i.1,
      picked_yes (λ (x : Entry). (x.1.scheduled && is_no_organiser (address_octets c.args.organiser.now) x.0) && not (is_reached c.args.called_off (address_octets x.0) c.args.now.now.entries)) i.0 e c.loop-address.gone.items c.push.new.self.items c.in_ok-clone.field-0 c.in_ok-push.ensures.items c.in_ok-clone.ensures.cases i.2 (sym c.is_gone.ensures ∙ c.if-is_gone.true),
    )

pub loop-address-preserved : goal.loop-address-preserved
loop-address-preserved c =
    let i = c.loop-address.invariant in
    let e : Entry = (c.in-Some.address.now, c.in-Some.attendance.now) in (
      i.0 ++ e ∷ [],
      walked i.0 c.loop-address.address-iterator c.next.new.self c.args.last.now.entries e c.in-Some.ensures.steps i.1,
      picked_no (λ (x : Entry). (x.1.scheduled && is_no_organiser (address_octets c.args.organiser.now) x.0) && not (is_reached c.args.called_off (address_octets x.0) c.args.now.now.entries)) i.0 e c.loop-address.gone.items i.2 (sym c.is_gone.ensures ∙ c.if-is_gone.false),
    )

pub returns : goal.returns
returns c = λ before lists was are.
    let i = c.loop-address.invariant in
    let all = sym (append-nil i.0) ∙ ap (λ (l : List Entry). i.0 ++ l) (sym c.in-None.ensures.steps.0) ∙ i.1 in
    let u = c.into_iter-address-iterator.ensures.into_iter_gives in
    i.2 ∙ ap (λ (l : List Entry). gone_in c.args.called_off (address_octets c.args.organiser.now) l c.args.now.now.entries) all ∙ gone_is c.args.called_off (address_octets c.args.organiser.now) before lists c.args.last.now.entries c.args.now.now.entries was are u.4
