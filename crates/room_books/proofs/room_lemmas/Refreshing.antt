-- When a message makes a room ask for the whole of a meeting, and what it asks.
-- Cited by Room::refresh_of.
use Rattle.std.proofs.Common.{◌≡◌, ◌∙◌, ℕ, ℤ, Bool, true, false, ◌&&◌, List, Some, None, refl, sym, ap}
use Rattle.std.specs.List.{list_any, Contains}
use Rattle.itip_order.specs.Parts.{part_of}
use Rattle.profile.specs.rooms.Kept.{Refreshes}
use Rattle.profile.specs.rooms.Revisions.{Part}
use Rattle.profile.specs.rooms.Rooms.{is_fresh, lacks_whole, wants_whole}
use Rattle.room_books.specs.declared.claim.Claim.{Claim}
use Rattle.room_books.specs.Reply.{IsRefreshOf}
use Rattle.room_books.specs.Taking.{claim_said, claims_said, parts_said}
use Rattle.room_books.proofs.shared_lemmas.KindLemmas.{parts_are}
use Rattle.room_books.proofs.shared_lemmas.Pairs.{map_from}

module _ (room : List ℕ) (before after : List Part) (claims : List Claim) (moment : ℤ) where
  -- one of the parts is fresh, and nothing of its whole was ever taken
  abbrev is_unheard : Part → Bool
  is_unheard part = is_fresh before after part && lacks_whole after part

  wanted : (adds b : Bool) → b ≡ list_any is_unheard (parts_said claims) → wants_whole adds before after (claims_said claims) ≡ (adds && b)
  wanted adds b e = ap (λ l. adds && list_any is_unheard l) (parts_are claims) ∙ ap (λ x. adds && x) (sym e)

  pub not_adding : (adds : Bool) → adds ≡ false → Refreshes room adds before after (claims_said claims) moment None
  not_adding adds off = ap (λ a. wants_whole a before after (claims_said claims)) off

  pub nothing_unheard : (adds : Bool) → false ≡ list_any is_unheard (parts_said claims) → Refreshes room adds before after (claims_said claims) moment None
  nothing_unheard adds e = wanted adds false e ∙ none adds
    where
      none : (b : Bool) → (b && false) ≡ false
      none true = refl
      none false = refl

  pub asks_for_it : (adds : Bool) → adds ≡ true → true ≡ list_any is_unheard (parts_said claims) → (claim : Claim) → Contains claims claim → (octets : List ℕ) → IsRefreshOf room (part_of claim.part) moment octets
      → Refreshes room adds before after (claims_said claims) moment (Some octets)
  asks_for_it adds on e claim c octets r = (
    wanted adds true e ∙ ap (λ a. a && true) on,
    record { claim = claim_said claim; of_them = map_from claim_said claims claim c; lines = r.lines; shows = r.shows; is = r.is },
  )
