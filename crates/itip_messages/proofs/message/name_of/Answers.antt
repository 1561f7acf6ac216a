use Rattle.std.proofs.Common.{◌≡◌, ◌∙◌, [], ◌∷◌, List, Some, None, Option, IsSome, option_map, sym, ap, arith}
use Rattle.std.specs.Prelude.{Contains}
use Rattle.std.specs.List.{slice_get}
use Rattle.std.proofs.lemmas.Option.{same_Some}
use Rattle.ical_values.specs.Octets.{address_octets}
use Rattle.ical_values.specs.declared.address.Address.{Address}
use Rattle.cal_events.specs.declared.component.EventComponent.{EventComponent}
use Rattle.itip_messages.proofs.message.name_of.Goals as goal

first_at : (xs : List EventComponent) (x : EventComponent) → Some x ≡ slice_get xs 0 → Contains xs x
first_at [] x e = absurd (cc)
first_at (y ∷ ys) x e = (0, omega arith, sym (same_Some x y e))

not_none : (o : Option Address) → o ≡ None → IsSome o → ⊥
not_none None e h = cc
not_none (Some x) e h = cc

pub unreachable-requires-in_default-organiser : goal.unreachable-requires-in_default-organiser
unreachable-requires-in_default-organiser c =
    let first = c.in-Some.first.now in
    not_none first.organiser c.in_default-organiser.is (c.requires.organised first (first_at c.args.events.now first c.in-Some.ensures.value))

pub returns : goal.returns
returns c =
    let first = c.in-Some.first.now in (
      first,
      first_at c.args.events.now first c.in-Some.ensures.value,
      ap (option_map address_octets) c.in-Some-organiser.is ∙ ap Some (sym c.in_ok-organiser.ensures.cases),
      sym c.in_ok-uid.ensures.cases,
    )
