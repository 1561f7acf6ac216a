-- The zones of an object that is sent: each is one that some VTIMEZONE of the store said.
-- Behind requests_read_back, shown_reads_back.
use Rattle.std.proofs.Common.{subst, inl, inr, ℕ, not, List, [], ◌∷◌, Option, None, Some}
use Rattle.std.specs.Prelude.{Contains}
use Rattle.std.specs.Option.{option_to_list}
use Rattle.std.specs.List.{flat_map, AllZip}
use Rattle.std.specs.Str.{bytes_eq}
use Rattle.std.proofs.lemmas.List.Elements.{Contains-append_cases}
use Rattle.profile.specs.events.EventComponents.{EventComponent}
use Rattle.profile.specs.events.Properties.{BothOrNeither}
use Rattle.profile.specs.organisers.Sent.{Component, IsComponentOf, zones_of}
use Rattle.profile.specs.rooms.Kept.{each_once}
use Rattle.profile.specs.rooms.Messages.{IsZoneRest}
use Rattle.profile.specs.series.Zones.{Zone}
use Rattle.cal_events.proofs.shared_lemmas.InOneOrder.{of_filtered}
use Rattle.itip_order.proofs.Lists.{in_cons, in_head, in_tail, none_in_nil}
use Rattle.itip_messages.proofs.shared_lemmas.ZonedObjects.{IsZone}
use Rattle.itip_messages.proofs.shared_lemmas.ZonedStarts.{IsSaid}

once_from : (xs : List (List ℕ)) (z : List ℕ) → Contains (each_once xs) z → Contains xs z
once_from [] z c = c
once_from (x ∷ xs) z c = elim (in_cons x _ z c) [
  | inl here ↦ subst (λ (y : List ℕ). Contains (x ∷ xs) y) here (in_head x xs)
  | inr there ↦ in_tail x xs z (once_from xs z (of_filtered (λ other. not (bytes_eq x other)) (each_once xs) z there).0)
]

-- the zone of a content
in_content : (zone : Option Zone) (rest : Option (List ℕ)) → IsSaid zone → BothOrNeither IsZoneRest zone rest → (z : List ℕ) → Contains (option_to_list rest) z → IsZone z
in_content None None s w z c = absurd (none_in_nil z c)
in_content None (Some rest) s w z c = absurd w
in_content (Some zone) None s w z c = absurd w
in_content (Some zone) (Some rest) s w z c = elim (in_cons rest [] z c) [
  | inl here ↦ subst IsZone here (zone, s.0, s.1, w)
  | inr there ↦ absurd (none_in_nil z there)
]

of_one : (event : EventComponent) (component : Component) → IsSaid event.times.zone → IsComponentOf event component → (z : List ℕ) → Contains (option_to_list component.1.zone) z → IsZone z
of_one event component said (same, c) z k = in_content event.times.zone component.1.zone said c.in_zone z k

of_all : (events : List EventComponent) (components : List Component) → ((event : EventComponent) → Contains events event → IsSaid event.times.zone) → AllZip IsComponentOf events components
    → (z : List ℕ) → Contains (flat_map (λ component. option_to_list component.1.zone) components) z → IsZone z
of_all [] [] f a z c = absurd (none_in_nil z c)
of_all [] (x ∷ components) f a z c = absurd a
of_all (e ∷ events) [] f a z c = absurd a
of_all (e ∷ events) (x ∷ components) f a z c = elim (Contains-append_cases (option_to_list x.1.zone) (flat_map (λ component. option_to_list component.1.zone) components) z c) [
  | inl here ↦ of_one e x (f e (in_head e events)) a.0 z here
  | inr there ↦ of_all events components (λ y k. f y (in_tail e events y k)) a.1 z there
]

pub sent_zones : (events : List EventComponent) (components : List Component) → ((event : EventComponent) → Contains events event → IsSaid event.times.zone) → AllZip IsComponentOf events components → (z : List ℕ) → Contains (zones_of components) z → IsZone z
sent_zones events components f a z c = of_all events components f a z (once_from (flat_map (λ component. option_to_list component.1.zone) components) z c)
