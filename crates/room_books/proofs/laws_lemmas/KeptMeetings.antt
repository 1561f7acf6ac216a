-- Meeting by meeting: what a room keeps is what it has confirmed, and no two kept answers are of one meeting.
-- Behind kept_texts_pass, kept_texts_spell, served_texts_pass.
use Rattle.std.proofs.Common.{◌≡◌, ◌∙◌, ℕ, Bool, true, false, not, List, [], ◌∷◌, length, refl, ap, subst, inl, inr}
use Rattle.std.specs.Ordering.{is_eq, ordering_then}
use Rattle.std.specs.List.{filter, flat_map, Contains}
use Rattle.std.proofs.lemmas.Bool.{not-true, both_ways, cases_Bool, false_from_ne_true, not_from_false}
use Rattle.std.proofs.lemmas.Cmp.{tied_itself, tied_back}
use Rattle.profile.specs.rooms.Revisions.{Part, same_meeting, octets_cmp}
use Rattle.profile.specs.rooms.Rooms.{PartAnswer, Book, is_confirmed}
use Rattle.profile.specs.rooms.Kept.{first_parts}
use Rattle.room_books.specs.Texts.{kept}
use Rattle.itip_order.proofs.Lists.{in_cons, in_head, in_tail, none_in_nil, filter_at, filter_from}
use Rattle.itip_order.proofs.Order.{meeting_total, is_eq_true}
use Rattle.room_books.proofs.shared_lemmas.Arrivals.{meeting_congr}
use Rattle.room_books.specs.Room.{Pairwise}
use Rattle.room_books.proofs.shared_lemmas.Pairs.{pairs_filter, filter_through, filter_and, flat_same}

-- ---- meetings

pub meeting_refl : (p : Part) → same_meeting p p ≡ true
meeting_refl p = ap is_eq (tied_itself meeting_total p)

pub meeting_sym : (p q : Part) → same_meeting p q ≡ true → same_meeting q p ≡ true
meeting_sym p q e = ap is_eq (tied_back meeting_total p q (is_eq_true _ e))

pub meeting_trans : (p q r : Part) → same_meeting p q ≡ true → same_meeting q r ≡ true → same_meeting p r ≡ true
meeting_trans p q r e f = meeting_congr p q r e ∙ f

abbrev pub meeting_of : PartAnswer → List ℕ × List ℕ
meeting_of a = (a.claim.part.organiser, a.claim.part.uid)

-- one organiser and one UID are one meeting
pub meeting_same : (a b : PartAnswer) → meeting_of a ≡ meeting_of b → same_meeting a.claim.part b.claim.part ≡ true
meeting_same a b e =
    subst (λ (m : List ℕ × List ℕ). is_eq (ordering_then (octets_cmp a.claim.part.organiser m.0) (octets_cmp a.claim.part.uid m.1)) ≡ true) e (meeting_refl a.claim.part)

-- of different meetings
abbrev pub Apart : Part → Part → Type 0
Apart p q = same_meeting p q ≡ false

abbrev pub AnswersApart : PartAnswer → PartAnswer → Type 0
AnswersApart a b = Apart a.claim.part b.claim.part

-- ---- the first parts

pub firsts_apart : (ps : List Part) → Pairwise Apart (first_parts ps)
firsts_apart [] = tt
firsts_apart (p ∷ ps) = (
  λ q c. not-true _ (filter_at (λ other. not (same_meeting p other)) (first_parts ps) q c).1,
  pairs_filter Apart (λ other. not (same_meeting p other)) (first_parts ps) (firsts_apart ps),
)

-- one of these is of the part's meeting
abbrev Covered : List Part → Part → Type 0
Covered ps r = (p : Part) × Contains ps p × (same_meeting p r ≡ true)

pub firsts_cover : (ps : List Part) (r : Part) → Contains ps r → Covered (first_parts ps) r
firsts_cover [] r c = absurd (none_in_nil r c)
firsts_cover (p ∷ ps) r c =
    let later = filter (λ other. not (same_meeting p other)) (first_parts ps) in
    let first : same_meeting p r ≡ true → Covered (p ∷ later) r = λ e. (p, in_head p later, e) in
    elim (in_cons p ps r c) [
      | inl here ↦ first (subst (λ (x : Part). same_meeting p x ≡ true) here (meeting_refl p))
      | inr there ↦
          let found = firsts_cover ps r there in
          elim (cases_Bool (same_meeting p found.0)) [
            | inl same ↦ first (meeting_trans p found.0 r same found.2)
            | inr other ↦ (found.0, in_tail p later found.0 (filter_from (λ x. not (same_meeting p x)) (first_parts ps) found.0 found.1 (not_from_false _ other)), found.2)
          ]
    ]

-- ---- answers by meetings

abbrev pub of_part : Part → PartAnswer → Bool
of_part p a = same_meeting p a.claim.part

abbrev pub grouped : List Part → List PartAnswer → List PartAnswer
grouped ps xs = flat_map (λ p. filter (of_part p) xs) ps

none_left : (xs : List PartAnswer) → ((a : PartAnswer) → Contains xs a → ⊥) → 0 ≡ length xs
none_left [] h = refl
none_left (x ∷ xs) h = absurd (h x (in_head x xs))

-- without the answers of another meeting
others_same : (p q : Part) (xs : List PartAnswer) → Apart p q → filter (of_part q) xs ≡ filter (of_part q) (filter (λ a. not (of_part p a)) xs)
others_same p q xs apart =
    filter_through (of_part q) (λ a. not (of_part p a)) xs (λ a c e. not_from_false _ (false_from_ne_true _ (λ f. both_ways _ apart (meeting_trans p a.claim.part q f (meeting_sym q a.claim.part e)))))

-- ---- what is kept

pub kept_is : (book : Book) → kept book ≡ grouped (first_parts book.taken) (filter (is_confirmed book.taken) book.answers)
kept_is book = flat_same _ _ (first_parts book.taken) (λ p c. filter_and (of_part p) (is_confirmed book.taken) book.answers)
