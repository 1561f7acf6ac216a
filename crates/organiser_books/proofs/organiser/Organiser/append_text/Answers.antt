use Rattle.std.proofs.Common.{◌≡◌, ◌∙◌, ◌++◌, [], List, ℕ, Option, None, Some, option_map, ap, sym, subst}
use Rattle.std.proofs.lemmas.List.{append-nil}
use Rattle.std.specs.declared.vec.Vec.{Vec}
use Rattle.ical_values.specs.Octets.{text_octets}
use Rattle.profile.specs.organisers.Organisers.{IsShown}
use Rattle.organiser_books.specs.Representation.{address_of}
use Rattle.organiser_books.proofs.Showing.{shown_nothing}
use Rattle.organiser_books.proofs.organiser.Organiser.append_text.Goals as goal

pub returns-in_default : goal.returns-in_default
returns-in_default c =
    let uid = text_octets c.args.uid.now in
    let address = address_of c.args.self.now in
    ([], (λ book keeps stored last. absurd (shown_nothing (λ octets. octets.items) address book uid c.in_ok-text.field-0 stored c.in_default.not-Some (c.in_ok-text.ensures book keeps) last)), sym (append-nil c.args.octets.now.items))

pub returns : goal.returns
returns c =
    let uid = text_octets c.args.uid.now in
    let address = address_of c.args.self.now in (
      c.in-Some.text.items,
      (λ book keeps stored last. subst (λ o. IsShown address book uid (option_map (λ octets. octets.items) o)) c.in-Some.is (c.in_ok-text.ensures book keeps)),
      c.in_ok-extend_from_slice.ensures.items ∙ ap (λ (t : List ℕ). c.args.octets.now.items ++ t) c.as_slice.ensures.value,
    )
