-- What is confirmed, meeting by meeting: the same instances, and as many. What answers give is any list: of singles, or of series.
-- Behind Meeting::take of kept, put of kept, take_out of kept, take_out_of of kept, answers_stay of laws, Room::certificate_text of room and 18 more.
use Rattle.std.proofs.Common.{◌≡◌, Bool, true, false, not, cond, List, [], ◌∷◌, ◌++◌, inl, inr, refl, sym, ap, ◌∙◌, subst, append_assoc}
use Rattle.std.specs.List.{Contains, filter, flat_map, IsDistinct, AllByRecursion}
use Rattle.std.specs.Map.{keys_of}
use Rattle.std.proofs.lemmas.Bool.{both_ways, not-true, false_from_ne_true}
use Rattle.std.proofs.lemmas.Map.Keys.{IsDistinct-head, IsDistinct-tail}
use Rattle.profile.specs.rooms.Revisions.{Part}
use Rattle.profile.specs.rooms.Rooms.{PartAnswer, is_confirmed}
use Rattle.itip_order.proofs.Lists.{in_cons, in_head, in_tail, none_in_nil, filter_at}
use Rattle.room_books.specs.declared.meeting.MeetingKey.{MeetingKey}
use Rattle.room_books.specs.declared.kept.Meeting.{Meeting}
use Rattle.room_books.specs.Meeting.{same_key}
use Rattle.room_books.specs.Room.{is_of_meeting, answers_of}
use Rattle.room_books.proofs.room_lemmas.Meetings.{one_meeting, filter_none}
use Rattle.room_books.proofs.shared_lemmas.Same.{AreSame, same_itself, same_then, same_append, same_swap}

-- what the confirmed answers give
abbrev pub given_by : {X : Type 0} → (PartAnswer → List X) → List Part → List PartAnswer → List X
given_by f t xs = flat_map f (filter (is_confirmed t) xs)

module _ {X : Type 0} (f : PartAnswer → List X) (t : List Part) where
  -- one more answer, which is confirmed or not, and is of the first kind or of the second
  split_step : (c p : Bool) (own all yes no : List X) → AreSame all (yes ++ no)
      → AreSame (cond c (own ++ all) all) ((cond p (cond c (own ++ yes) yes) yes) ++ (cond (not p) (cond c (own ++ no) no) no))
  split_step true true own all ys ns s = subst (AreSame (own ++ all)) (sym (append_assoc own ys ns)) (same_append own own all (ys ++ ns) (same_itself own) s)
  split_step true false own all ys ns s = same_then _ _ _ (same_append own own all (ys ++ ns) (same_itself own) s) (same_swap own ys ns)
  split_step false true own all ys ns s = s
  split_step false false own all ys ns s = s

  flat_cond : (b : Bool) (a : PartAnswer) (xs : List PartAnswer) → flat_map f (cond b (a ∷ xs) xs) ≡ cond b (f a ++ flat_map f xs) (flat_map f xs)
  flat_cond true a xs = refl
  flat_cond false a xs = refl

  given_cons : (a : PartAnswer) (xs : List PartAnswer) → given_by f t (a ∷ xs) ≡ cond (is_confirmed t a) (f a ++ given_by f t xs) (given_by f t xs)
  given_cons a xs = flat_cond (is_confirmed t a) a (filter (is_confirmed t) xs)

  given_cond : (b : Bool) (a : PartAnswer) (xs : List PartAnswer) → given_by f t (cond b (a ∷ xs) xs) ≡ cond b (cond (is_confirmed t a) (f a ++ given_by f t xs) (given_by f t xs)) (given_by f t xs)
  given_cond true a xs = given_cons a xs
  given_cond false a xs = refl

  pub given_split : (p : PartAnswer → Bool) (xs : List PartAnswer) → AreSame (given_by f t xs) (given_by f t (filter p xs) ++ given_by f t (filter (λ a. not (p a)) xs))
  given_split p [] = same_itself []
  given_split p (a ∷ xs) =
      let rest = given_split p xs in
      let l = given_cons a xs in
      let y = given_cond (p a) a (filter p xs) in
      let n = given_cond (not (p a)) a (filter (λ x. not (p x)) xs) in
      let P : List X → Type 0 = λ z. AreSame z (given_by f t (filter p (a ∷ xs)) ++ given_by f t (filter (λ x. not (p x)) (a ∷ xs))) in
      subst P (sym l) (subst (AreSame (cond (is_confirmed t a) (f a ++ given_by f t xs) (given_by f t xs))) (sym (λ i. y i ++ n i))
      (split_step (is_confirmed t a) (p a) (f a) (given_by f t xs) (given_by f t (filter p xs)) (given_by f t (filter (λ x. not (p x)) xs)) rest))

-- answers of one meeting are not among those of another
apart_step : (q : MeetingKey) (b : Bool) (a : PartAnswer) (rest xs : List PartAnswer) → answers_of q rest ≡ answers_of q xs → (b ≡ true → is_of_meeting q a.claim.part ≡ false) → answers_of q (cond (not b) (a ∷ rest) rest) ≡ answers_of q (a ∷ xs)
apart_step q true a rest xs e f = e ∙ sym (ap (λ c. cond c (a ∷ answers_of q xs) (answers_of q xs)) (f refl))
apart_step q false a rest xs e f = ap (λ l. cond (is_of_meeting q a.claim.part) (a ∷ l) l) e

pub answers_apart : (k q : MeetingKey) (xs : List PartAnswer) → same_key k q ≡ false → answers_of q (filter (λ a. not (is_of_meeting k a.claim.part)) xs) ≡ answers_of q xs
answers_apart k q [] d = refl
answers_apart k q (a ∷ xs) d =
    apart_step q (is_of_meeting k a.claim.part) a (filter (λ a. not (is_of_meeting k a.claim.part)) xs) xs (answers_apart k q xs d)
    (λ e. false_from_ne_true _ (λ f. both_ways _ d (one_meeting k q a.claim.part e f)))

pub differs : (k : MeetingKey) (es : List (MeetingKey × Meeting)) → AllByRecursion (λ y. same_key k y ≡ false) (keys_of es) → (e : MeetingKey × Meeting) → Contains es e → same_key k e.0 ≡ false
differs k [] d e c = absurd (none_in_nil e c)
differs k (x ∷ xs) d e c = elim (in_cons x xs e c) [
  | inl here ↦ subst (λ (z : MeetingKey × Meeting). same_key k z.0 ≡ false) here d.0
  | inr there ↦ differs k xs d.1 e there
]

-- what the answers give is what the meetings do, where each does what its own answers give
module _ {X Y : Type 0} (R : List X → List Y → Type 0) (none : R [] []) (both : (a : List X) (b : List Y) (c : List X) (d : List Y) → R a b → R c d → R (a ++ c) (b ++ d))
    (turn : (a b : List X) (c : List Y) → AreSame a b → R b c → R a c) (f : PartAnswer → List X) (g : MeetingKey × Meeting → List Y) (t : List Part) where
  pub partition : (es : List (MeetingKey × Meeting)) (xs : List PartAnswer) → IsDistinct same_key (keys_of es)
      → ((a : PartAnswer) → Contains xs a → is_confirmed t a ≡ true → (e : MeetingKey × Meeting) × Contains es e × (is_of_meeting e.0 a.claim.part ≡ true))
      → ((e : MeetingKey × Meeting) → Contains es e → R (given_by f t (answers_of e.0 xs)) (g e))
      → R (given_by f t xs) (flat_map g es)
  partition [] xs d covered each =
      let nothing : given_by f t xs ≡ [] = ap (flat_map f) (filter_none (is_confirmed t) xs (λ a c. false_from_ne_true _ (λ h. none_in_nil _ (covered a c h).1))) in
      subst (λ (l : List X). R l []) (sym nothing) none
  partition (e ∷ es) xs d covered each =
      let own = λ (a : PartAnswer). is_of_meeting e.0 a.claim.part in
      let rest : List PartAnswer = filter (λ a. not (is_of_meeting e.0 a.claim.part)) xs in
      let others = partition es rest (IsDistinct-tail same_key e.0 (keys_of es) d)
      (λ a c h.
      let from = filter_at (λ a. not (is_of_meeting e.0 a.claim.part)) xs a c in
      let found = covered a from.0 h in
      let Q : Type 0 = (x : MeetingKey × Meeting) × Contains es x × (is_of_meeting x.0 a.claim.part ≡ true) in
      let q : Q = elim (in_cons e es found.0 found.1) [
        | inl here ↦ absurd (both_ways _ (not-true _ from.1) (subst (λ (z : MeetingKey × Meeting). is_of_meeting z.0 a.claim.part ≡ true) (sym here) found.2))
        | inr there ↦ (found.0, there, found.2)
      ] in q)
      (λ x c. subst (λ (l : List PartAnswer). R (given_by f t l) (g x)) (sym (answers_apart e.0 x.0 xs (differs e.0 es (IsDistinct-head same_key e.0 (keys_of es) d) x c))) (each x (in_tail e es x c))) in
      turn (given_by f t xs) (given_by f t (answers_of e.0 xs) ++ given_by f t rest) (flat_map g (e ∷ es)) (given_split f t own xs)
      (both (given_by f t (answers_of e.0 xs)) (g e) (given_by f t rest) (flat_map g es) (each e (in_head e es)) others)
