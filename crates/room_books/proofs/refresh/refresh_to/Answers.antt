-- A refresh comes exactly where the message adds instances, and one of its parts is the first that was taken of its meeting.
use Rattle.ical_values.specs.Octets.{address_octets}
use Rattle.room_books.proofs.room_lemmas.Refreshing.{not_adding, nothing_unheard, asks_for_it}
use Rattle.room_books.proofs.refresh.refresh_to.Goals as goal

pub returns-then-not-adds : goal.returns-then-not-adds
returns-then-not-adds c = λ before after b a. not_adding (address_octets c.args.room.now) before after c.args.views.now.claims.now c.args.moment c.args.adds c.if-not-adds.true

pub returns-in_default : goal.returns-in_default
returns-in_default c = λ before after b a.
    nothing_unheard (address_octets c.args.room.now) before after c.args.views.now.claims.now c.args.moment c.args.adds (c.in_default.ensures.wanted before after b a)

pub returns : goal.returns
returns c = λ before after b a.
    asks_for_it (address_octets c.args.room.now) before after c.args.views.now.claims.now c.args.moment c.args.adds c.if-not-adds.false (c.in-Some.ensures.wanted before after b a) c.in-Some.claim.now c.in-Some.ensures.found
    c.in_ok-octets.octets.items c.in_ok-octets.ensures
