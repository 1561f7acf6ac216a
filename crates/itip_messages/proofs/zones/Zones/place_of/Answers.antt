-- The zone is at the place of its key.
use Rattle.std.proofs.Common.{◌≡◌, ◌∙◌, ℕ, Vec, Global, List, Some, map, sym, ap, subst, refl}
use Rattle.std.specs.Prelude.{is_some, slice_get}
use Rattle.std.specs.Str.{bytes_eq}
use Rattle.itip_messages.specs.Zones.{with_zone}
use Rattle.itip_messages.proofs.zones_lemmas.ZoneSets.{found_zone, known_zone, put_zone, stored_zone}
use Rattle.itip_messages.proofs.zones.Zones.place_of.Goals as goal

abbrev items : Vec ℕ Global → List ℕ
items text = text.items

pub returns-in-Some-clause-zones : goal.returns-in-Some-clause-zones
returns-in-Some-clause-zones c =
    subst (λ zones. zones ≡ with_zone zones c.args.rest.now) c.self.view_is
    (known_zone _ items c.args.rest.now (λ x. refl) c.self.inside.rests.keys (sym c.get_index_of.ensures.found ∙ ap is_some c.in-Some.is))

pub returns-in-Some-clause-there : goal.returns-in-Some-clause-there
returns-in-Some-clause-there c =
    subst (λ zones. slice_get zones c.in-Some.place ≡ Some c.args.rest.now) c.self.view_is
    (found_zone _ items c.args.rest.now (λ x. refl) c.self.inside.rests.keys c.in-Some.place (sym c.get_index_of.ensures.index ∙ c.in-Some.is))

pub returns-clause-zones : goal.returns-clause-zones
returns-clause-zones c =
    let copied : c.in_ok-copy.copy.items ≡ c.args.rest.now = c.in_ok-copy.ensures.items in
    ap (map items) c.in_ok-place.ensures.keys
    ∙ put_zone _ items c.in_ok-copy.copy.items (λ x. refl) c.self.inside.rests.keys c.in_ok-copy.copy refl
    ∙ (λ i. with_zone (c.self.view_is i) (copied i))

pub returns-clause-there : goal.returns-clause-there
returns-clause-there c =
    let s = c.in_ok-place.ensures.stored in
    stored_zone _ items c.args.rest.now (λ x. ap (λ l. bytes_eq l (items x)) c.in_ok-copy.ensures.items) c.insert_full.new.self.keys c.in_ok-place.place s.0 s.1 s.2
