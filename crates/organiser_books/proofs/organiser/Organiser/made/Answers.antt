-- Those who are sent something are told.
use Rattle.std.proofs.Common.{rules, sym, ◌≡◌, ◌∙◌, ◌&&◌, ◌||◌, ◌++◌, List, map, ap, subst}
use Rattle.std.specs.List.{list_any}
use Rattle.std.specs.Str.{bytes_eq}
use Rattle.std.proofs.lemmas.List.Folds.{list_any-append}
use Rattle.ical_values.specs.Octets.{address_octets}
use Rattle.ical_values.specs.declared.address.Address.{Address}
use Rattle.indexmap.specs.IndexMap.{get}
use Rattle.ical_values.specs.declared.text.Text.{Text}
use Rattle.organiser_books.specs.Representation.{address_of, same_text}
use Rattle.organiser_books.specs.Storing.{calls_off, LastAttends}
use Rattle.itip_messages.specs.declared.message_component.MessageComponent.{MessageComponent}
use Rattle.organiser_books.specs.Attending.{gone_among, lists_of, names, sent_among, AreAttending, AreSentTo}
use Rattle.organiser_books.proofs.Telling.{told_are, told_then}
use Rattle.organiser_books.proofs.organiser.Organiser.made.Goals as goal

pub returns-clause-told : goal.returns-clause-told
returns-clause-told c = λ before last q.
    let lists = lists_of c.args.object.now.components.items in
    let first = c.in_ok-attending.attending.entries in
    let next = c.tell.new.attending.entries in
    let after = c.tell-2.new.attending.entries in
    let are : AreAttending lists first = subst (λ (l : List MessageComponent). AreAttending (lists_of l) first) c.components.ensures c.in_ok-attending.ensures.attending in
    let to = map address_octets c.in_ok-to.to.items in
    let gone = map address_octets c.in_ok-gone.gone.items in
    let these : AreSentTo to first next = subst (λ (l : List Address). AreSentTo (map address_octets l) first next) c.deref.ensures.value c.tell.ensures in
    let those : AreSentTo gone next after = subst (λ (l : List Address). AreSentTo (map address_octets l) next after) c.deref-2.ensures.value c.tell-2.ensures in
    let off : c.calls_off-called_off.result ≡ calls_off c.args.object.now.components.items = search rules in
    told_are lists (to ++ gone) first after are c.in_ok-attending.ensures.untold (told_then to gone first next after these those) q
    ∙ ap (λ b. list_any (names q) lists && b) (list_any-append (bytes_eq q) to gone)
    ∙ (λ i. list_any (names q) lists && (list_any (bytes_eq q) (c.in_ok-to.ensures lists are i) || list_any (bytes_eq q) (c.in_ok-gone.ensures before lists (subst (λ (u : Text). LastAttends before (get same_text c.args.self.now.meetings u)) (sym c.uid.ensures) last) are i)))
    ∙ ap (λ b. list_any (names q) lists && (list_any (bytes_eq q) (sent_among (address_of c.args.self.now) lists) || list_any (bytes_eq q) (gone_among b (address_of c.args.self.now) before lists))) off
