-- The original starts of what one meeting has confirmed differ.
-- Behind answers_stay of laws, kept_texts_pass of laws, kept_texts_spell of laws, served_texts_pass of laws, Room::put of room, Room::settled of room and 2 more.
use Rattle.std.proofs.Common.{◌≡◌, ◌≢◌, ◌∙◌, ◌≤◌, true, false, not, ◌&&◌, ℤ, List, [], ◌∷◌, ◌++◌, length, map, inl, inr, Option, None, Some, refl, sym, ap, subst, arith}
use Rattle.std.specs.Prelude.{IfSome, option_map}
use Rattle.std.specs.Option.{option_to_list}
use Rattle.std.specs.Ordering.{is_eq}
use Rattle.std.specs.List.{Contains, AllPairs, filter, flat_map}
use Rattle.std.proofs.lemmas.Bool.{and_from, both_ways, not-true}
use Rattle.itip_order.proofs.Lasting.{view_one, view_taken}
use Rattle.itip_order.proofs.Lists.{in_cons, in_head, in_tail, none_in_nil, filter_at, any_from}
use Rattle.profile.specs.checker.Instances.{Instance}
use Rattle.profile.specs.events.Events.{Event as Whole}
use Rattle.profile.specs.events.Starts.{IsInstance}
use Rattle.profile.specs.rooms.Revisions as revisions
use Rattle.profile.specs.rooms.Revisions.{Part, Slot, At, slot_cmp, same_place, in_view}
use Rattle.profile.specs.rooms.Messages.{Outcome}
use Rattle.profile.specs.rooms.Rooms.{PartAnswer, Claim, Recurring, IsShownInSeries, is_confirmed, is_hidden, is_set, is_fresh, left_of, recurring_in, singles_confirmed, series_confirmed, asked, answered}
use Rattle.room_books.specs.declared.meeting.MeetingKey.{MeetingKey}
use Rattle.cal_events.specs.declared.instance.Single.{Single}
use Rattle.room_books.specs.Room.{is_of_meeting, IsOfSlot, IsFitting, IsFittingSeries, Pairwise}
use Rattle.room_books.specs.Meeting.{keyed_instance, instance_list, slots_of}
use Rattle.room_books.proofs.room_lemmas.Meetings.{of_part, same_place_of}
use Rattle.room_books.proofs.shared_lemmas.Pairs.{pairs_from, pairs_append, pairs_filter, pairs_map, flat_at, map_from}

abbrev pub OtherPart : PartAnswer → PartAnswer → Type 0
OtherPart a b = a.claim.part ≢ b.claim.part

abbrev pub OtherSlot : Instance → Instance → Type 0
OtherSlot x y = x.key.slot ≢ y.key.slot

module _ (k : MeetingKey) (t : List Part) where
  -- the answer is to a part of the meeting that is in the view
  pub record IsSeen (a : PartAnswer) : Type 0 where
    pub own : is_of_meeting k a.claim.part ≡ true
    pub seen : in_view t a.claim.part ≡ true
    pub fit : IsFitting a.claim

  -- the instance that a part in the view is for is hidden in its Whole
  hides : (w o : PartAnswer) (x : Instance) → IsSeen w → IsSeen o → w.claim.part.slot ≡ revisions.Whole → o.claim.part.slot ≡ At x.key.slot → is_hidden t w.claim.part x ≡ true
  hides w o x p q whole place =
      and_from _ _ (ap (λ (s : Slot). is_eq (slot_cmp s revisions.Whole)) whole)
      (any_from (λ other. in_view t other && same_place other (record w.claim.part { slot = At x.key.slot })) t o.claim.part (view_taken t o.claim.part q.seen)
      (and_from _ _ q.seen (same_place_of k o.claim.part (record w.claim.part { slot = At x.key.slot }) q.own p.own place)))

  module _ (a b : PartAnswer) (p : IsSeen a) (q : IsSeen b) (differ : OtherPart a b) (x y : Instance) (c : Contains (left_of t a) x) (d : Contains (left_of t b) y) (same : x.key.slot ≡ y.key.slot) where
    first : Contains a.claim.singles x × (not (is_hidden t a.claim.part x) ≡ true)
    first = filter_at (λ z. not (is_hidden t a.claim.part z)) a.claim.singles x c

    second : Contains b.claim.singles y × (not (is_hidden t b.claim.part y) ≡ true)
    second = filter_at (λ z. not (is_hidden t b.claim.part z)) b.claim.singles y d

    one_slot : a.claim.part.slot ≡ b.claim.part.slot → ⊥
    one_slot e = differ (view_one t a.claim.part b.claim.part p.seen q.seen (same_place_of k a.claim.part b.claim.part p.own q.own e))

    by_slots : (s u : Slot) → a.claim.part.slot ≡ s → b.claim.part.slot ≡ u → ⊥
    by_slots revisions.Whole revisions.Whole e f = one_slot (e ∙ sym f)
    by_slots revisions.Whole (At v) e f =
        let at : y.key.slot ≡ v = subst (λ (s : Slot). IsOfSlot s y.key.slot) f (q.fit.slot y second.0) in
        both_ways _ (not-true _ first.1) (hides a b x p q e (f ∙ ap At (sym (same ∙ at))))
    by_slots (At u) revisions.Whole e f =
        let at : x.key.slot ≡ u = subst (λ (s : Slot). IsOfSlot s x.key.slot) e (p.fit.slot x first.0) in
        both_ways _ (not-true _ second.1) (hides b a y q p f (e ∙ ap At (sym at ∙ same)))
    by_slots (At u) (At v) e f =
        let at : x.key.slot ≡ u = subst (λ (s : Slot). IsOfSlot s x.key.slot) e (p.fit.slot x first.0) in
        let other : y.key.slot ≡ v = subst (λ (s : Slot). IsOfSlot s y.key.slot) f (q.fit.slot y second.0) in
        one_slot (e ∙ ap At (sym at ∙ same ∙ other) ∙ sym f)

    pub no_slot_twice : ⊥
    no_slot_twice = by_slots a.claim.part.slot b.claim.part.slot refl refl

  left_apart : (xs : List PartAnswer) → ((a : PartAnswer) → Contains xs a → IsSeen a) → Pairwise OtherPart xs → Pairwise OtherSlot (flat_map (left_of t) xs)
  left_apart [] h p = tt
  left_apart (a ∷ xs) h p =
      pairs_append OtherSlot (left_of t a) (flat_map (left_of t) xs)
      (pairs_filter OtherSlot (λ z. not (is_hidden t a.claim.part z)) a.claim.singles (h a (in_head a xs)).fit.differ)
      (left_apart xs (λ b c. h b (in_tail a xs b c)) p.1)
      (λ x y c d same. let found = flat_at (left_of t) xs y d in
      no_slot_twice a found.0 (h a (in_head a xs)) (h found.0 (in_tail a xs found.0 found.1)) (p.0 found.0 found.1) x y c found.2 same)

  pub confirmed_apart : (xs : List PartAnswer) → ((a : PartAnswer) → Contains xs a → IsSeen a) → Pairwise OtherPart xs → Pairwise OtherSlot (singles_confirmed t xs)
  confirmed_apart xs h p = left_apart (filter (is_confirmed t) xs) (λ a c. h a (filter_at (is_confirmed t) xs a c).0) (pairs_filter OtherPart (is_confirmed t) xs p)

  -- ---- series

  series_whole : (a : PartAnswer) → IsSeen a → (m : Whole) → a.claim.series ≡ Some m → IsFittingSeries a.claim m
  series_whole a p m e = subst (λ (o : Option Whole). IfSome o (IsFittingSeries a.claim)) e p.fit.recurs

  -- two answers to parts of the whole are to one part
  one_whole : (a b : PartAnswer) → IsSeen a → IsSeen b → a.claim.part.slot ≡ revisions.Whole → b.claim.part.slot ≡ revisions.Whole → a.claim.part ≡ b.claim.part
  one_whole a b p q e f = view_one t a.claim.part b.claim.part p.seen q.seen (same_place_of k a.claim.part b.claim.part p.own q.own (e ∙ sym f))

  gives : (a : PartAnswer) (o : Option Whole) → a.claim.series ≡ o → recurring_in a ≡ option_to_list (option_map (λ (meeting : Whole). record { part = a.claim.part; meeting = meeting }) o)
  gives a o e = ap (λ (x : Option Whole). option_to_list (option_map (λ (meeting : Whole). record { part = a.claim.part; meeting = meeting }) x)) e

  flat_none : (xs : List PartAnswer) → ((a : PartAnswer) → Contains xs a → recurring_in a ≡ []) → flat_map recurring_in xs ≡ []
  flat_none [] h = refl
  flat_none (a ∷ xs) h = ap (λ l. l ++ flat_map recurring_in xs) (h a (in_head a xs)) ∙ flat_none xs (λ b c. h b (in_tail a xs b c))

  -- so at most one of them has a series
  one_series : (xs : List PartAnswer) → ((a : PartAnswer) → Contains xs a → IsSeen a) → Pairwise OtherPart xs → length (flat_map recurring_in xs) ≤ 1
  one_series [] h p = omega arith
  one_series (a ∷ xs) h p = by_series a.claim.series refl (one_series xs (λ b c. h b (in_tail a xs b c)) p.1)
    where
      by_series : (o : Option Whole) → a.claim.series ≡ o → length (flat_map recurring_in xs) ≤ 1 → length (recurring_in a ++ flat_map recurring_in xs) ≤ 1
      by_series None e rest = subst (λ (l : List Recurring). length (l ++ flat_map recurring_in xs) ≤ 1) (sym (gives a None e)) rest
      by_series (Some m) e rest =
          let seen = h a (in_head a xs) in
          let none : flat_map recurring_in xs ≡ [] = flat_none xs (λ b c. alone b c b.claim.series refl) in
          subst (λ (l : List Recurring). length l ≤ 1) (sym ((λ i. gives a (Some m) e i ++ none i))) (omega arith)
        where
          alone : (b : PartAnswer) → Contains xs b → (o : Option Whole) → b.claim.series ≡ o → recurring_in b ≡ []
          alone b c None f = gives b None f
          alone b c (Some n) f =
              let seen = h a (in_head a xs) in
              let other = h b (in_tail a xs b c) in
              absurd (p.0 b c (one_whole a b seen other (series_whole a seen m e).whole (series_whole b other n f).whole))

  pub series_few : (xs : List PartAnswer) → ((a : PartAnswer) → Contains xs a → IsSeen a) → Pairwise OtherPart xs → length (series_confirmed t xs) ≤ 1
  series_few xs h p = one_series (filter (is_confirmed t) xs) (λ a c. h a (filter_at (is_confirmed t) xs a c).0) (pairs_filter OtherPart (is_confirmed t) xs p)

  -- answers to one part are one
  one_answer : (xs : List PartAnswer) → Pairwise OtherPart xs → (a b : PartAnswer) → Contains xs a → Contains xs b → a.claim.part ≡ b.claim.part → a ≡ b
  one_answer [] p a b c d e = absurd (none_in_nil a c)
  one_answer (x ∷ xs) p a b c d e = elim (in_cons x xs a c) [
    | inl first ↦ elim (in_cons x xs b d) [
      | inl second ↦ sym first ∙ second
      | inr later ↦ absurd (p.0 b later (ap (λ (z : PartAnswer). z.claim.part) first ∙ e))
    ]
    | inr later ↦ elim (in_cons x xs b d) [
      | inl second ↦ absurd (p.0 a later (ap (λ (z : PartAnswer). z.claim.part) second ∙ sym e))
      | inr also ↦ one_answer xs p.1 a b later also e
    ]
  ]

  pub has_series : (b : PartAnswer) (r : Recurring) (o : Option Whole) → b.claim.series ≡ o → Contains (recurring_in b) r → b.claim.series ≡ Some r.meeting
  has_series b r None e c = absurd (none_in_nil r (subst (λ (l : List Recurring). Contains l r) (gives b None e) c))
  has_series b r (Some m) e c = elim (in_cons _ [] r (subst (λ (l : List Recurring). Contains l r) (gives b (Some m) e) c)) [
    | inl here ↦ e ∙ ap (λ (z : Recurring). Some z.meeting) here
    | inr none ↦ absurd (none_in_nil r none)
  ]

  -- a single and an instance of a series have different original starts
  pub single_apart : (xs : List PartAnswer) → ((a : PartAnswer) → Contains xs a → IsSeen a) → Pairwise OtherPart xs → (x y : Instance) → Contains (singles_confirmed t xs) x → IsShownInSeries t (series_confirmed t xs) y → OtherSlot x y
  single_apart xs h p x y c l same =
      let one = flat_at (left_of t) (filter (is_confirmed t) xs) x c in
      let two = flat_at recurring_in (filter (is_confirmed t) xs) l.series l.among in
      let a = one.0 in let b = two.0 in
      let a_in = (filter_at (is_confirmed t) xs a one.1).0 in
      let b_in = (filter_at (is_confirmed t) xs b two.1).0 in
      let single = filter_at (λ z. not (is_hidden t a.claim.part z)) a.claim.singles x one.2 in
      let series = has_series b l.series b.claim.series refl two.2 in
      let fits = series_whole b (h b b_in) l.series.meeting series in
      let shown : is_hidden t b.claim.part y ≡ false = subst (λ (q : Part). is_hidden t q y ≡ false) (of_part b l.series two.2) l.shown in
      by_slot a b a_in b_in single.0 l.series.meeting series fits l.is shown same a.claim.part.slot refl
    where
      by_slot : (a b : PartAnswer) → Contains xs a → Contains xs b → Contains a.claim.singles x → (m : Whole) → b.claim.series ≡ Some m → IsFittingSeries b.claim m → IsInstance m y → is_hidden t b.claim.part y ≡ false
          → x.key.slot ≡ y.key.slot → (s : Slot) → a.claim.part.slot ≡ s → ⊥
      by_slot a b a_in b_in single m series fits is shown same revisions.Whole e =
          let parts = one_whole a b (h a a_in) (h b b_in) e fits.whole in
          let answers : a ≡ b = one_answer xs p a b a_in b_in parts in
          fits.apart x y (subst (λ (z : PartAnswer). Contains z.claim.singles x) answers single) is same
      by_slot a b a_in b_in single m series fits is shown same (At u) e =
          let at : x.key.slot ≡ u = subst (λ (s : Slot). IsOfSlot s x.key.slot) e ((h a a_in).fit.slot x single) in
          both_ways _ shown (hides b a y (h b b_in) (h a a_in) fits.whole (e ∙ ap At (sym at ∙ same)))

-- and so do those of the instances that spell them
pub unmapped : {X Y : Type 0} (R : Y → Y → Type 0) (f : X → Y) (xs : List X) → Pairwise R (map f xs) → Pairwise (λ a b. R (f a) (f b)) xs
unmapped R f [] p = tt
unmapped R f (x ∷ xs) p = (λ y c. p.0 (f y) (map_from f xs y c), unmapped R f xs p.1)

pub slots_apart : (k : MeetingKey) (singles : List Single) → Pairwise OtherSlot (instance_list k singles) → AllPairs ◌≢◌ (slots_of singles)
slots_apart k singles p =
    pairs_from ◌≢◌ (slots_of singles) (pairs_map ◌≢◌ (λ (s : Single). s.slot) singles (unmapped OtherSlot (keyed_instance k) singles p))

-- no part is answered twice by a message
pub new_once : (moment : ℤ) (outcome : Outcome) (before after : List Part) (claims : List Claim) → Pairwise (λ a b. a.part ≢ b.part) claims → Pairwise OtherPart (answered moment outcome (asked before after claims))
new_once moment outcome before after claims differ =
    pairs_map OtherPart (λ (c : Claim). record { claim = c; moment = moment; outcome = outcome }) (asked before after claims)
    (pairs_filter (λ a b. a.part ≢ b.part) (λ (c : Claim). is_set c.part && is_fresh before after c.part) claims differ)
