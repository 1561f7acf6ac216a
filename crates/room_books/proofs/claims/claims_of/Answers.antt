use Rattle.std.proofs.Common.{◌≡◌, ◌∙◌, sym, subst, true, false, arith}
use Rattle.std.proofs.lemmas.Grind.{common_steps}
use Rattle.ical_values.specs.Octets.{address_octets}
use Rattle.cal_zones.specs.RoomZones.{room_of, words_of}
use Rattle.cal_zones.proofs.RoomZoneLemmas.{room_means}
use Rattle.itip_messages.specs.Message.{RepresentsMessage, is_message_for}
use Rattle.profile.specs.events.Messages as profile
use Rattle.room_books.specs.Claims.{AreClaimed, AreClaimsOf}
use Rattle.room_books.proofs.shared_lemmas.Claiming.{if_ok, all_claimed, none_claimed}
use Rattle.room_books.proofs.claims.claims_of.Goals as goal

pub returns : goal.returns
returns c =
    let room = address_octets c.args.room.now in
    let zone = c.args.zone.now in
    let message = c.args.message.now in
    let all = c.in_ok-all.all.items in
    let kept = c.in_ok-kept.kept.items in
    let has : is_message_for room message ≡ true = grind (arith, common_steps) in
    if_ok c.claims_for.result (λ claims. AreClaimsOf kept claims.items) (λ claims. (said : profile.Message) → RepresentsMessage message said → AreClaimed room (room_of zone) said claims.items)
    (λ claims made said s. all_claimed room (words_of zone) (room_of zone) (room_means zone) message said s all kept claims.items c.in_ok-all.ensures c.in_ok-kept.ensures made has) c.claims_for.ensures

pub returns-then-not-is_addressed_to : goal.returns-then-not-is_addressed_to
returns-then-not-is_addressed_to c = λ said s.
    let room = address_octets c.args.room.now in
    let zone = room_of c.args.zone.now in
    let message = c.args.message.now in
    let off : is_message_for room message ≡ false = sym c.is_addressed_to.ensures ∙ c.if-not-is_addressed_to.true in
    subst (AreClaimed room zone said) (sym c.new.ensures.items) (none_claimed room zone message said s off)
