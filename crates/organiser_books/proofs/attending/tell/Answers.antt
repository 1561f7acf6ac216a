-- One after another.
use Rattle.std.proofs.Common.{◌∙◌, ◌∷◌, [], List, ℕ, map, take, sym, ap, subst, arith}
use Rattle.std.proofs.lemmas.List.{map-append, take_all}
use Rattle.ical_values.specs.Octets.{address_octets}
use Rattle.organiser_books.specs.Attending.{AreSentTo}
use Rattle.organiser_books.proofs.Loops.{one_more}
use Rattle.organiser_books.proofs.Telling.{told_nobody, told_then}
use Rattle.organiser_books.proofs.attending.tell.Goals as goal

pub loop-address-init : goal.loop-address-init
loop-address-init c = told_nobody _

pub loop-address-preserved : goal.loop-address-preserved
loop-address-preserved c =
    let to = c.args.to.now in
    let i = c.loop-address.address-index in
    let more = map-append address_octets (take i to) (c.address-item.result ∷ []) in
    let last = ap (map address_octets) (one_more to i c.address-item.result (omega arith) c.address-item.is) in
    subst (λ (l : List (List ℕ)). AreSentTo l c.args.attending.now.entries c.tell_one.new.attending.entries) (sym (last ∙ more))
    (told_then (map address_octets (take i to)) (address_octets c.address-item.result ∷ []) _ c.loop-address.attending.entries c.tell_one.new.attending.entries c.loop-address.invariant c.tell_one.ensures)

pub returns : goal.returns
returns c =
    let to = c.args.to.now in
    subst (λ (l : List _). AreSentTo (map address_octets l) c.args.attending.now.entries c.loop-address.attending.entries) (take_all c.loop-address.address-index to (omega arith)) c.loop-address.invariant
