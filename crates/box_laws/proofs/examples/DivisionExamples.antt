-- Two boxes of one room each, and one box of both: that there is such a division, and what the law allows there and what it doesn't.
use Rattle.std.proofs.Common.{◌≡◌, ◌∙◌, ℕ, true, false, List, [], ◌∷◌, ◌++◌, codes, get_or, refl, sym, ap, subst, arith}
use Rattle.std.specs.Prelude.{All}
use Rattle.std.proofs.lemmas.List.{append-nil}
use Rattle.std.proofs.lemmas.List.Elements.{All-cons, All-contains, All-nil, Contains-append_right}
use Rattle.std.proofs.lemmas.List.Sorted.{IsPermutation-append_comm, IsPermutation-refl}
use Rattle.profile.specs.events.Messages.{Message, SpellsMessage, is_to_rooms}
use Rattle.profile.specs.streams.Divisions.{Answer, IsDivided, IsJoined, IsRefusal, KeepsAll, Piece, Told, by_fault, by_host, by_none, by_rooms}
use Rattle.profile.specs.streams.Streams.{Box, Config, Hosted, Takes, in_utc, new_box, refused_line}
use Rattle.box_laws.proofs.law_lemmas.NewBoxes.{new_boxes}

-- ---- a division: the first box has one room and an organiser, the second one room; the one box has the rooms in another order

abbrev ann : List ℕ
ann = codes "m:ann"

abbrev first_part : Config
first_part = record { rooms = in_utc (codes "r:1") ∷ []; organisers = ann ∷ [] }

abbrev second_part : Config
second_part = record { rooms = in_utc (codes "r:2") ∷ []; organisers = [] }

abbrev whole : Config
whole = record { rooms = in_utc (codes "r:2") ∷ in_utc (codes "r:1") ∷ []; organisers = ann ∷ [] }

divided : IsDivided (first_part ∷ second_part ∷ []) whole
divided = record {
  some = omega arith;
  rooms_are = IsPermutation-append_comm (in_utc (codes "r:1") ∷ []) (in_utc (codes "r:2") ∷ []);
  organisers_are = IsPermutation-refl (ann ∷ []);
  organisers_differ = λ i j d less bound. absurd (omega (arith, less, bound));
}

-- as they begin, the one box keeps what the two keep
begins : KeepsAll (new_box first_part ∷ new_box second_part ∷ []) (new_box whole)
begins = new_boxes (first_part ∷ second_part ∷ []) whole divided

-- ---- a message to rooms that each of them takes: the one box writes what both write, in the order of its rooms

module _ (told : Told) (said : Message) (spells : SpellsMessage told.octets said) (to : is_to_rooms said.method ≡ true)
    (first first_after second second_after : Hosted) (one_writes other_writes : List ℕ)
    (takes : Takes told.moment said first first_after one_writes) (also : Takes told.moment said second second_after other_writes) where
  abbrev one_room : Hosted → Box
  one_room host = record { rooms = host ∷ []; organisers = [] }

  abbrev answer_of : Hosted → Hosted → List ℕ → Answer
  answer_of before after octets = record { before = one_room before; after = one_room after; octets = octets; refused = 0 }

  abbrev both : List ℕ → Answer
  both octets = record {
    before = record { rooms = second ∷ first ∷ []; organisers = [] };
    after = record { rooms = second_after ∷ first_after ∷ []; organisers = [] };
    octets = octets;
    refused = 0;
  }

  abbrev first_piece : Piece
  first_piece = record { before = first; after = first_after; octets = one_writes }

  abbrev second_piece : Piece
  second_piece = record { before = second; after = second_after; octets = other_writes }

  rooms_joined : IsJoined told (answer_of first first_after one_writes ∷ answer_of second second_after other_writes ∷ []) (both (other_writes ++ one_writes))
  rooms_joined =
      let Took : Piece → Type 0 = λ piece. Takes told.moment said piece.before piece.after piece.octets in
      let ones = All-cons Took first_piece [] takes (All-nil Took) in
      let others = All-cons Took second_piece [] also (All-nil Took) in
      by_rooms said spells to ((first_piece ∷ []) ∷ (second_piece ∷ []) ∷ []) (second_piece ∷ first_piece ∷ []) (
        record { before = refl; after = refl; each = ones; octets = sym (append-nil one_writes); refused = refl },
        (record { before = refl; after = refl; each = others; octets = sym (append-nil other_writes); refused = refl }, tt),
      )
      (record { before = refl; after = refl; each = All-cons Took second_piece (first_piece ∷ []) also ones; octets = ap (λ l. other_writes ++ l) (sym (append-nil one_writes)); refused = refl })
      (IsPermutation-append_comm (first_piece ∷ []) (second_piece ∷ []))

-- ---- what comes to ann: the first box answers, the second writes REFUSED with 70, which the one box doesn't

module _ (told : Told) (said : Message) (spells : SpellsMessage told.octets said) (away : is_to_rooms said.method ≡ false) (ours : said.organiser ≡ ann)
    (after : Box) (writes : List ℕ) where
  abbrev at_first : Answer
  at_first = record { before = new_box first_part; after = after; octets = writes; refused = 0 }

  abbrev at_second : Answer
  at_second = record { before = new_box second_part; after = new_box second_part; octets = refused_line told.number 70; refused = 1 }

  host_joined : (one_after : Box) → IsJoined told (at_first ∷ at_second ∷ []) (record { before = new_box whole; after = one_after; octets = writes; refused = 0 })
  host_joined one_after =
      by_host said spells away [] (at_second ∷ []) at_first refl (0, omega arith, sym ours)
      (All-cons (IsRefusal told 70) at_second [] (refl, refl) (All-nil (IsRefusal told 70))) refl refl

-- ---- an object that all refuse: so does the one box, with one line, which counts once, and not in silence

module _ (told : Told) (first : Answer) (others : List Answer) (one : Answer) where
  abbrev Refuses : Answer → Type 0
  Refuses answer = (n : ℕ) × IsRefusal told n answer

  refused_once : All Refuses (first ∷ others) → IsJoined told (first ∷ others) one → Refuses one
  refused_once all (by_rooms said spells to [] pieces fit is moved) = absurd fit
  refused_once all (by_rooms said spells to (own ∷ rest) pieces (fit, _) is moved) =
      let (n, refusal) = all 0 first (omega arith) in
      absurd (omega (arith, refusal.1, fit.refused))
  refused_once all (by_host said spells away ahead behind host are hosts elsewhere same counted) =
      let there = Contains-append_right ahead (host ∷ behind) host (0, omega arith, refl) in
      let (n, refusal) = All-contains Refuses (ahead ++ host ∷ behind) host (subst (All Refuses) are all) there in
      (n, (same ∙ refusal.0, counted ∙ refusal.1))
  refused_once all (by_none said spells away nobody each refusal) = (70, refusal)
  refused_once all (by_fault numbers faults fit n there refusal) = (n, refusal)

  not_silent : All Refuses (first ∷ others) → IsJoined told (first ∷ others) one → one.octets ≡ [] → ⊥
  not_silent all joined none =
      let (n, refusal) = refused_once all joined in
      omega (arith, ap (λ (l : List ℕ). get_or l 0 0) (sym refusal.0 ∙ none))
