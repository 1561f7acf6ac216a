-- What a binary search says about an address among addresses in order.
-- Cited by Attendees::contains, is_among.
use Rattle.std.proofs.Common.{◌≡◌, ◌∙◌, ℕ, ◌<◌, Bool, ◌||◌, List, [], ◌∷◌, length, get_or, map, refl, sym, ap, arith, inl, inr, Result, Ok, Err}
use Rattle.std.specs.List.{list_any}
use Rattle.std.specs.List.Sorted.{IsPermutation, IsSearchInRange, IsBinarySearchResult, IsSortedByKey}
use Rattle.std.specs.Ordering.{nat_cmp, is_eq}
use Rattle.std.specs.Result.{is_ok}
use Rattle.std.specs.Cmp.Lexicographic.{slice_cmp}
use Rattle.std.specs.Str.{bytes_eq}
use Rattle.std.proofs.lemmas.Bool.{cases_lt}
use Rattle.std.proofs.lemmas.Cmp.{nat_list_cmp_total}
use Rattle.std.proofs.lemmas.List.Folds.{list_any_at, list_any_none}
use Rattle.std.proofs.lemmas.List.Sorted.{searchable_from_sorted, list_any-IsPermutation}
use Rattle.std.proofs.lemmas.Map.Text.{is_eq-slice_cmp}
use Rattle.ical_values.specs.declared.address.Address.{Address}
use Rattle.ical_values.specs.Octets.{address_octets}
use Rattle.cal_events.specs.declared.component.Attendee.{Attendee}
use Rattle.cal_events.specs.Component.{attendee_of}
use Rattle.itip_messages.specs.Attendees.{octets_of}

element : (xs : List Address) (k : ℕ) → k < length xs → Address
element [] k lt = absurd (omega arith)
element (x ∷ xs) k lt = x

-- an address is found where it is among the others
pub found : (xs : List Address) (address : List ℕ) (r : Result ℕ ℕ) → IsSortedByKey address_octets (slice_cmp nat_cmp) xs → IsSearchInRange r (length xs)
    → IsBinarySearchResult (λ a. slice_cmp nat_cmp (address_octets a) address) xs r → is_ok r ≡ list_any (λ a. bytes_eq (address_octets a) address) xs
found xs address (Ok i) up in_range at =
    let d = element xs i in_range in
    sym (list_any_at (λ a. bytes_eq (address_octets a) address) xs i d in_range (sym (is_eq-slice_cmp (address_octets (get_or xs i d)) address) ∙ ap is_eq (at d)))
found xs address (Err i) up in_range parted =
    let parts = parted (searchable_from_sorted nat_list_cmp_total address_octets xs address up) in
    sym (list_any_none (λ a. bytes_eq (address_octets a) address) xs (λ k d lt.
    sym (is_eq-slice_cmp (address_octets (get_or xs k d)) address) ∙ elim (cases_lt k i) [ inl below ↦ ap is_eq (parts.0 k d (omega arith) below) | inr from ↦ ap is_eq (parts.1 k d from lt) ]))

any_sorted : (p : List ℕ → Bool) (xs : List Address) → list_any (λ a. p (address_octets a)) xs ≡ list_any p (map address_octets xs)
any_sorted p [] = refl
any_sorted p (x ∷ xs) = ap (λ b. p (address_octets x) || b) (any_sorted p xs)

any_line : (p : List ℕ → Bool) (xs : List Attendee) → list_any p (map octets_of xs) ≡ list_any (λ a. p a.address) (map attendee_of xs)
any_line p [] = refl
any_line p (x ∷ xs) = ap (λ b. p (octets_of x) || b) (any_line p xs)

-- what is among the sorted addresses is among those of the lines
pub among : (p : List ℕ → Bool) (lines : List Attendee) (sorted : List Address) → IsPermutation (map octets_of lines) (map address_octets sorted)
    → list_any (λ a. p (address_octets a)) sorted ≡ list_any (λ a. p a.address) (map attendee_of lines)
among p lines sorted same =
    any_sorted p sorted ∙ sym (list_any-IsPermutation p (map octets_of lines) (map address_octets sorted) same) ∙ any_line p lines
