-- A message to rooms: what all rooms of several boxes write for it, the rooms of one box write in another order.
use Rattle.std.proofs.Common.{◌≡◌, ◌∙◌, ℕ, ℤ, List, [], ◌∷◌, ◌++◌, map, refl, sym, ap, subst}
use Rattle.std.specs.Prelude.{All, IsPermutation}
use Rattle.std.specs.List.{AllZip, flat_map}
use Rattle.std.proofs.lemmas.List.{map-append}
use Rattle.std.proofs.lemmas.List.Elements.{All-append, All-cons, All-head, All-nil, All-tail}
use Rattle.std.proofs.lemmas.List.Sorted.{All-permutation, IsPermutation-map}
use Rattle.profile.specs.events.Messages.{Message}
use Rattle.profile.specs.streams.Divisions.{Answer, IsOfPieces, Piece}
use Rattle.profile.specs.streams.Streams.{AllTake, Hosted, Takes}
use Rattle.box_laws.proofs.law_lemmas.Lists.{permuted}

module _ (moment : ℤ) (said : Message) where
  abbrev pub IsTook : Piece → Type 0
  IsTook piece = Takes moment said piece.before piece.after piece.octets

  abbrev pub before_of : List Piece → List Hosted
  before_of = map (λ piece. piece.before)

  abbrev pub after_of : List Piece → List Hosted
  after_of = map (λ piece. piece.after)

  abbrev pub octets_of : List Piece → List ℕ
  octets_of = flat_map (λ piece. piece.octets)

  -- what the rooms of one box write, piece by piece
  pub pieces_of : (befores afters : List Hosted) (octets : List ℕ) → AllTake moment said befores afters octets
      → (pieces : List Piece) × (before_of pieces ≡ befores) × (after_of pieces ≡ afters) × All IsTook pieces × (octets ≡ octets_of pieces)
  pieces_of [] [] octets is = ([], refl, refl, All-nil IsTook, is)
  pieces_of [] (after ∷ afters) octets is = absurd is
  pieces_of (before ∷ befores) [] octets is = absurd is
  pieces_of (before ∷ befores) (after ∷ afters) octets (first, rest, is, takes, others) =
      let (pieces, befores_are, afters_are, each, rest_is) = pieces_of befores afters rest others in
      let piece : Piece = record { before = before; after = after; octets = first } in (
        piece ∷ pieces,
        ap (λ l. before ∷ l) befores_are,
        ap (λ l. after ∷ l) afters_are,
        All-cons IsTook piece pieces takes each,
        is ∙ ap (λ l. first ++ l) rest_is,
      )

  -- and back
  pub take_pieces : (pieces : List Piece) → All IsTook pieces → AllTake moment said (before_of pieces) (after_of pieces) (octets_of pieces)
  take_pieces [] each = refl
  take_pieces (piece ∷ pieces) each =
      (piece.octets, octets_of pieces, refl, All-head IsTook piece pieces each, take_pieces pieces (All-tail IsTook piece pieces each))

  -- the answer of one box, by its rooms
  abbrev pub TakesByRooms : Answer → Type 0
  TakesByRooms answer =
      AllTake moment said answer.before.rooms answer.after.rooms answer.octets × (answer.after.organisers ≡ answer.before.organisers) × (answer.refused ≡ 0)

  -- the pieces of several boxes, all together
  pub all_pieces : (several : List Answer) → All TakesByRooms several
      → (pieces : List (List Piece)) × AllZip (IsOfPieces moment said) several pieces × All IsTook (flat_map (λ own. own) pieces)
      × (flat_map (λ box. box.rooms) (map (λ answer. answer.before) several) ≡ before_of (flat_map (λ own. own) pieces))
      × (flat_map (λ box. box.rooms) (map (λ answer. answer.after) several) ≡ after_of (flat_map (λ own. own) pieces))
      × (flat_map (λ box. box.organisers) (map (λ answer. answer.after) several) ≡ flat_map (λ box. box.organisers) (map (λ answer. answer.before) several))
  all_pieces [] h = ([], tt, All-nil IsTook, refl, refl, refl)
  all_pieces (answer ∷ several) h =
      let (take, others, none) = All-head TakesByRooms answer several h in
      let (own, before_is, after_is, each, octets_are) = pieces_of answer.before.rooms answer.after.rooms answer.octets take in
      let (pieces, fit, all, befores_are, afters_are, organisers_are) = all_pieces several (All-tail TakesByRooms answer several h) in
      let flat = flat_map (λ (l : List Piece). l) pieces in (
        own ∷ pieces,
        (record { before = before_is; after = after_is; each = each; octets = octets_are; refused = none }, fit),
        All-append IsTook own flat each all,
        ap (λ l. answer.before.rooms ++ l) befores_are ∙ ap (λ l. l ++ before_of flat) (sym before_is) ∙ sym (map-append (λ piece. piece.before) own flat),
        ap (λ l. answer.after.rooms ++ l) afters_are ∙ ap (λ l. l ++ after_of flat) (sym after_is) ∙ sym (map-append (λ piece. piece.after) own flat),
        ap (λ l. answer.after.organisers ++ l) organisers_are
            ∙ ap (λ l. l ++ flat_map (λ box. box.organisers) (map (λ (a : Answer). a.before) several)) others,
      )

  -- the rooms of the one box write the same pieces
  pub one_takes : (pieces : List Piece) (whole : List Hosted) → All IsTook pieces → IsPermutation (before_of pieces) whole
      → (all : List Piece) × IsPermutation pieces all × (before_of all ≡ whole) × All IsTook all × IsPermutation (after_of pieces) (after_of all)
      × AllTake moment said whole (after_of all) (octets_of all)
  one_takes pieces whole each order =
      let (all, moved, is) = permuted (λ (piece : Piece). piece.before) pieces whole order in
      let took = All-permutation IsTook pieces all moved each in (
        all,
        moved,
        is,
        took,
        IsPermutation-map (λ piece. piece.after) pieces all moved,
        subst (λ (l : List Hosted). AllTake moment said l (after_of all) (octets_of all)) is (take_pieces all took),
      )
