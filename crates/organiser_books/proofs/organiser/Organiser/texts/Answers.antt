use Rattle.std.proofs.Common.{sym, subst}
use denote.Ref.{Bor}
use Rattle.ical_values.specs.declared.text.Text.{Text}
use Rattle.organiser_books.specs.Showing.{AreUids, ShowsLast, octets_at}
use Rattle.organiser_books.proofs.Showing.{none_shown, one_more_shown, all_shown}
use Rattle.organiser_books.proofs.organiser.Organiser.texts.Goals as goal

pub loop-uid-init : goal.loop-uid-init
loop-uid-init c = none_shown c.args.self.now _ c.new-octets.ensures.items

pub loop-uid-preserved : goal.loop-uid-preserved
loop-uid-preserved c =
    let uids = c.deref-uid-items.result.now in
    let are = subst (AreUids c.args.self.now) (sym c.deref-uid-items.ensures.value) c.in_ok-uids.ensures in
    let (more, shows, grown) = c.in_ok-append_text.ensures in
    one_more_shown c.args.self.now uids are c.loop-uid.uid-index c.uid-item.result c.loop-uid.octets.items c.append_text.new.octets.items more c.loop-uid-test.true c.loop-uid.invariant
    (subst (λ (u : Bor Text). ShowsLast c.args.self.now (octets_at u) more) c.uid-item.is shows) grown

pub returns : goal.returns
returns c =
    let uids = c.deref-uid-items.result.now in
    let are = subst (AreUids c.args.self.now) (sym c.deref-uid-items.ensures.value) c.in_ok-uids.ensures in
    all_shown c.args.self.now uids are c.loop-uid.uid-index c.loop-uid.octets.items c.loop-uid-test.false c.loop-uid.invariant
