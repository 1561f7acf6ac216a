-- The UIDs of an organiser's meetings, in order.
use Rattle.std.specs.Borrow.{Bor}
use Rattle.std.specs.Prelude.{◌≡◌, ℕ, List, map, AllPairs, Contains, Option, Some}
use Rattle.std.specs.List.{AllZip, concat}
use Rattle.std.specs.List.Sorted.{IsPermutation}
use Rattle.std.specs.Map.{keys_of}
use Rattle.std.specs.Ordering.{nat_cmp}
use Rattle.std.specs.Cmp.Lexicographic.{slice_cmp}
use Rattle.std.specs.declared.cmp.Ordering.TheVariants.{Less}
use Rattle.ical_values.specs.Octets.{text_octets}
use Rattle.ical_values.specs.declared.text.Text.{Text}
use Rattle.profile.specs.organisers.Organisers.{OrganiserBook, Stored, IsShown, last_store}
use Rattle.organiser_books.specs.Representation.{Keeps, address_of}
use Rattle.organiser_books.specs.declared.organiser.Organiser.{Organiser}

abbrev pub octets_at : Bor Text → List ℕ
octets_at uid = text_octets uid.now

-- these are the UIDs of its meetings, each once, by their octets
pub record AreUids (organiser : Organiser) (uids : List (Bor Text)) : Type 0 where
  pub same : IsPermutation (map text_octets (keys_of organiser.meetings.entries)) (map octets_at uids)
  pub ordered : AllPairs (λ a b. slice_cmp nat_cmp a b ≡ Less) (map octets_at uids)

-- the text shows the last store of that UID, in each book that is kept
abbrev pub ShowsLast : Organiser → List ℕ → List ℕ → Type 0
ShowsLast organiser uid text =
    (book : OrganiserBook) → Keeps organiser book → (stored : Stored) → last_store uid book ≡ Some stored → IsShown (address_of organiser) book uid (Some text)
