-- Parts of one meeting, and what one more part does to the view of them.
-- Cited by Room::settled.
use Rattle.std.proofs.Common.{◌≡◌, Bool, true, false, not, ◌&&◌, cond, List, [], ◌∷◌, ◌++◌, inl, inr, Option, None, Some, refl, sym, ap, ◌∙◌, subst}
use Rattle.std.specs.Prelude.{option_map}
use Rattle.std.specs.Option.{option_to_list}
use Rattle.std.specs.Ordering.{is_eq, ordering_then}
use Rattle.std.specs.declared.cmp.Ordering.TheVariants.{Equal}
use Rattle.std.specs.Str.{bytes_eq}
use Rattle.std.specs.List.{Contains, filter, flat_map}
use Rattle.std.specs.Cmp.{both_ways as same_tests}
use Rattle.std.specs.FinMap.{nat_cmp-IsAntisymmetric, slice_cmp-IsAntisymmetric}
use Rattle.std.proofs.lemmas.Bool.{and_parts, and_from, cases_Bool, or_left, or_right, or_cases, true≢false}
use Rattle.std.proofs.lemmas.List.{append-nil}
use Rattle.std.proofs.lemmas.List.Elements.{filter-append}
use Rattle.std.proofs.lemmas.Slice.Eq.{bytes_eq-Decides}
use Rattle.ical_values.specs.Octets.{address_octets, text_octets}
use Rattle.profile.specs.checker.Instances.{Instance}
use Rattle.profile.specs.events.Events.{Event as Whole}
use Rattle.profile.specs.rooms.Revisions.{Part, octets_cmp, At, slot_cmp, meeting_cmp, same_place, is_whole, is_greatest, implies, leaves_in_view, in_view, same_meeting, stays_beside}
use Rattle.profile.specs.rooms.Rooms.{PartAnswer, Recurring, is_accept, is_confirmed, is_hidden, left_of, recurring_in, singles_confirmed, series_confirmed}
use Rattle.itip_order.proofs.Lists.{all_at, all_from, any_at, any_from, in_cons, in_head, in_tail, none_in_nil, filter_at, filter_from}
use Rattle.itip_order.proofs.Order.{is_eq_true, then_equal}
use Rattle.itip_order.proofs.Registers.{greatest_at, greatest_from, eq_refl, implies_at, implies_from}
use Rattle.room_books.specs.declared.meeting.MeetingKey.{MeetingKey}
use Rattle.room_books.specs.Meeting.{same_key}
use Rattle.room_books.specs.Room.{is_of_meeting, of_meeting}
use Rattle.room_books.proofs.shared_lemmas.Pairs.{flat_at, flat_same}

pub is_of_parts : (k : MeetingKey) (p : Part) → is_of_meeting k p ≡ true → (address_octets k.organiser ≡ p.organiser) × (text_octets k.uid ≡ p.uid)
is_of_parts k p e =
    let both = and_parts _ _ e in
    ((bytes_eq-Decides (address_octets k.organiser) p.organiser).0 both.0, (bytes_eq-Decides (text_octets k.uid) p.uid).0 both.1)

pub is_of_from : (k : MeetingKey) (p : Part) → address_octets k.organiser ≡ p.organiser → text_octets k.uid ≡ p.uid → is_of_meeting k p ≡ true
is_of_from k p o u = and_from _ _ ((bytes_eq-Decides (address_octets k.organiser) p.organiser).1 o) ((bytes_eq-Decides (text_octets k.uid) p.uid).1 u)

-- keys of one meeting
pub key_parts : (k q : MeetingKey) → same_key k q ≡ true → (address_octets k.organiser ≡ address_octets q.organiser) × (text_octets k.uid ≡ text_octets q.uid)
key_parts k q e =
    let both = and_parts _ _ e in
    ((bytes_eq-Decides (address_octets k.organiser) (address_octets q.organiser)).0 both.0, (bytes_eq-Decides (text_octets k.uid) (text_octets q.uid)).0 both.1)

pub key_from : (k q : MeetingKey) → address_octets k.organiser ≡ address_octets q.organiser → text_octets k.uid ≡ text_octets q.uid → same_key k q ≡ true
key_from k q o u = and_from _ _ ((bytes_eq-Decides (address_octets k.organiser) (address_octets q.organiser)).1 o) ((bytes_eq-Decides (text_octets k.uid) (text_octets q.uid)).1 u)

pub is_of_same : (k q : MeetingKey) (p : Part) → same_key k q ≡ true → is_of_meeting k p ≡ is_of_meeting q p
is_of_same k q p e = let s = key_parts k q e in λ i. bytes_eq (s.0 i) p.organiser && bytes_eq (s.1 i) p.uid

-- a part is of one meeting
pub one_meeting : (k q : MeetingKey) (p : Part) → is_of_meeting k p ≡ true → is_of_meeting q p ≡ true → same_key k q ≡ true
one_meeting k q p e f =
    let a = is_of_parts k p e in
    let b = is_of_parts q p f in
    key_from k q (a.0 ∙ sym b.0) (a.1 ∙ sym b.1)

pub meeting_of_key : (k : MeetingKey) (p y : Part) → meeting_cmp y p ≡ Equal → is_of_meeting k p ≡ true → is_of_meeting k y ≡ true
meeting_of_key k p y e f =
    let meetings = then_equal (octets_cmp y.organiser p.organiser) (octets_cmp y.uid p.uid) e in
    let o : y.organiser ≡ p.organiser = slice_cmp-IsAntisymmetric nat_cmp-IsAntisymmetric _ _ meetings.0 in
    let u : y.uid ≡ p.uid = slice_cmp-IsAntisymmetric nat_cmp-IsAntisymmetric _ _ meetings.1 in
    let both = is_of_parts k p f in
    is_of_from k y (both.0 ∙ sym o) (both.1 ∙ sym u)

pub place_of_key : (k : MeetingKey) (p y : Part) → same_place y p ≡ true → is_of_meeting k p ≡ true → is_of_meeting k y ≡ true
place_of_key k p y e f = meeting_of_key k p y (then_equal (meeting_cmp y p) (slot_cmp y.slot p.slot) (is_eq_true _ e)).0 f

-- parts of one meeting and one slot
pub same_place_of : (k : MeetingKey) (p q : Part) → is_of_meeting k p ≡ true → is_of_meeting k q ≡ true → p.slot ≡ q.slot → same_place p q ≡ true
same_place_of k p q e f s =
    let a = is_of_parts k p e in
    let b = is_of_parts k q f in
    let o : p.organiser ≡ q.organiser = sym a.0 ∙ b.0 in
    let u : p.uid ≡ q.uid = sym a.1 ∙ b.1 in
    (λ i. is_eq (ordering_then (ordering_then (octets_cmp (o i) q.organiser) (octets_cmp (u i) q.uid)) (slot_cmp (s i) q.slot))) ∙ eq_refl q

greatest_of : (k : MeetingKey) (h : List Part) (p : Part) → is_of_meeting k p ≡ true → is_greatest (of_meeting k h) p ≡ is_greatest h p
greatest_of k h p e = same_tests _ _
    (λ g. let x = greatest_at (of_meeting k h) p g in greatest_from h p record {
      taken = (filter_at (is_of_meeting k) h p x.taken).0;
      top = λ y c s. x.top y (filter_from (is_of_meeting k) h y c (place_of_key k p y s e)) s;
    })
    (λ g. let x = greatest_at h p g in greatest_from (of_meeting k h) p record {
      taken = filter_from (is_of_meeting k) h p x.taken e;
      top = λ y c s. x.top y (filter_at (is_of_meeting k) h y c).0 s;
    })

-- a Whole of another meeting leaves a part in the view
allowed_from : (k : MeetingKey) (p w : Part) → is_of_meeting k p ≡ true → (is_of_meeting k w ≡ true → leaves_in_view w p ≡ true) → leaves_in_view w p ≡ true
allowed_from k p w e f = elim (cases_Bool (is_whole p)) [
  | inl whole ↦ or_left (is_whole p) (implies (is_whole w && same_meeting w p) (stays_beside w p)) whole
  | inr single ↦ or_right (is_whole p) (implies (is_whole w && same_meeting w p) (stays_beside w p)) (implies_from (is_whole w && same_meeting w p) (stays_beside w p) (λ both.
      elim (or_cases (is_whole p) (implies (is_whole w && same_meeting w p) (stays_beside w p)) (f (meeting_of_key k p w (is_eq_true _ (and_parts (is_whole w) (same_meeting w p) both).1) e))) [
        | inl whole ↦ absurd (true≢false (sym whole ∙ single))
        | inr rest ↦ implies_at (is_whole w && same_meeting w p) (stays_beside w p) rest both
      ]))
]

-- the view of a meeting is that of its own parts
pub view_of : (k : MeetingKey) (h : List Part) (p : Part) → is_of_meeting k p ≡ true → in_view (of_meeting k h) p ≡ in_view h p
view_of k h p e = same_tests _ _
    (λ v.
    let both = and_parts _ _ v in
    and_from _ _ (sym (greatest_of k h p e) ∙ both.0) (all_from (λ w. implies (is_greatest h w) (leaves_in_view w p)) h (λ w c. implies_from _ _ (λ g. allowed_from k p w e (λ own.
    implies_at _ _ (all_at (λ w. implies (is_greatest (of_meeting k h) w) (leaves_in_view w p)) (of_meeting k h) w both.1 (filter_from (is_of_meeting k) h w c own)) (greatest_of k h w own ∙ g))))))
    (λ v.
    let both = and_parts _ _ v in
    and_from _ _ (greatest_of k h p e ∙ both.0) (all_from (λ w. implies (is_greatest (of_meeting k h) w) (leaves_in_view w p)) (of_meeting k h) (λ w c. implies_from _ _ (λ g.
    let from = filter_at (is_of_meeting k) h w c in
    implies_at _ _ (all_at (λ w. implies (is_greatest h w) (leaves_in_view w p)) h w both.1 from.0) (sym (greatest_of k h w from.1) ∙ g)))))

-- what hides an instance is of its meeting
pub hidden_of : (k : MeetingKey) (h : List Part) (p : Part) (b : Instance) → is_of_meeting k p ≡ true → is_hidden (of_meeting k h) p b ≡ is_hidden h p b
hidden_of k h p b e = ap (λ t. is_whole p && t) (same_tests _ _
    (λ v. let x = any_at (λ o. in_view (of_meeting k h) o && same_place o (record p { slot = At b.key.slot })) (of_meeting k h) v in
    let both = and_parts _ _ x.2 in
    let from = filter_at (is_of_meeting k) h x.0 x.1 in
    any_from (λ o. in_view h o && same_place o (record p { slot = At b.key.slot })) h x.0 from.0 (and_from _ _ (sym (view_of k h x.0 from.1) ∙ both.0) both.1))
    (λ v. let x = any_at (λ o. in_view h o && same_place o (record p { slot = At b.key.slot })) h v in
    let both = and_parts _ _ x.2 in
    let own = place_of_key k (record p { slot = At b.key.slot }) x.0 both.1 e in
    any_from (λ o. in_view (of_meeting k h) o && same_place o (record p { slot = At b.key.slot })) (of_meeting k h) x.0 (filter_from (is_of_meeting k) h x.0 x.1 own) (and_from _ _ (view_of k h x.0 own ∙ both.0) both.1)))

-- a meeting's parts, where more are taken
pub of_more_own : (k : MeetingKey) (h more : List Part) → ((p : Part) → Contains more p → is_of_meeting k p ≡ true) → of_meeting k (h ++ more) ≡ of_meeting k h ++ more
of_more_own k h more own = filter-append (is_of_meeting k) h more ∙ ap (λ l. of_meeting k h ++ l) (all_own more own)
  where
    all_own : (ps : List Part) → ((p : Part) → Contains ps p → is_of_meeting k p ≡ true) → of_meeting k ps ≡ ps
    all_own [] f = refl
    all_own (p ∷ ps) f = ap (λ b. cond b (p ∷ of_meeting k ps) (of_meeting k ps)) (f p (in_head p ps)) ∙ ap (λ l. p ∷ l) (all_own ps (λ q c. f q (in_tail p ps q c)))

pub of_more_other : (k : MeetingKey) (h more : List Part) → ((p : Part) → Contains more p → is_of_meeting k p ≡ false) → of_meeting k (h ++ more) ≡ of_meeting k h
of_more_other k h more other = filter-append (is_of_meeting k) h more ∙ ap (λ l. of_meeting k h ++ l) (none_own more other) ∙ append-nil (of_meeting k h)
  where
    none_own : (ps : List Part) → ((p : Part) → Contains ps p → is_of_meeting k p ≡ false) → of_meeting k ps ≡ []
    none_own [] f = refl
    none_own (p ∷ ps) f = ap (λ b. cond b (p ∷ of_meeting k ps) (of_meeting k ps)) (f p (in_head p ps)) ∙ none_own ps (λ q c. f q (in_tail p ps q c))

-- ---- what answers confirm

pub filter_same : {X : Type 0} (f g : X → Bool) (xs : List X) → ((x : X) → Contains xs x → f x ≡ g x) → filter f xs ≡ filter g xs
filter_same f g [] h = refl
filter_same f g (x ∷ xs) h =
    ap (λ b. cond b (x ∷ filter f xs) (filter f xs)) (h x (in_head x xs)) ∙ ap (λ l. cond (g x) (x ∷ l) l) (filter_same f g xs (λ a c. h a (in_tail x xs a c)))

pub filter_none : {X : Type 0} (f : X → Bool) (xs : List X) → ((x : X) → Contains xs x → f x ≡ false) → filter f xs ≡ []
filter_none f [] h = refl
filter_none f (x ∷ xs) h = ap (λ b. cond b (x ∷ filter f xs) (filter f xs)) (h x (in_head x xs)) ∙ filter_none f xs (λ a c. h a (in_tail x xs a c))

-- what answers of one meeting confirm is what its own parts leave of them
left_same : (k : MeetingKey) (h : List Part) (p : Part) (bs : List Instance) → is_of_meeting k p ≡ true → filter (λ b. not (is_hidden (of_meeting k h) p b)) bs ≡ filter (λ b. not (is_hidden h p b)) bs
left_same k h p [] e = refl
left_same k h p (b ∷ bs) e =
    ap (λ t. cond (not t) (b ∷ filter (λ b. not (is_hidden (of_meeting k h) p b)) bs) (filter (λ b. not (is_hidden (of_meeting k h) p b)) bs)) (hidden_of k h p b e)
    ∙ ap (λ l. cond (not (is_hidden h p b)) (b ∷ l) l) (left_same k h p bs e)

pub series_own : (k : MeetingKey) (h : List Part) (xs : List PartAnswer) → ((a : PartAnswer) → Contains xs a → is_of_meeting k a.claim.part ≡ true) → series_confirmed (of_meeting k h) xs ≡ series_confirmed h xs
series_own k h xs own =
    ap (flat_map recurring_in) (filter_same (is_confirmed (of_meeting k h)) (is_confirmed h) xs (λ a c. ap (λ b. is_accept a.outcome && b) (view_of k h a.claim.part (own a c))))

pub confirmed_own : (k : MeetingKey) (h : List Part) (xs : List PartAnswer) → ((a : PartAnswer) → Contains xs a → is_of_meeting k a.claim.part ≡ true) → singles_confirmed (of_meeting k h) xs ≡ singles_confirmed h xs
confirmed_own k h xs own =
    ap (flat_map (left_of (of_meeting k h))) (filter_same (is_confirmed (of_meeting k h)) (is_confirmed h) xs (λ a c. ap (λ b. is_accept a.outcome && b) (view_of k h a.claim.part (own a c))))
    ∙ flat_same (left_of (of_meeting k h)) (left_of h) (filter (is_confirmed h) xs) (λ a c. left_same k h a.claim.part a.claim.singles (own a (filter_at (is_confirmed h) xs a c).0))

-- ---- the series of answers are of their parts

pub of_part : (a : PartAnswer) (r : Recurring) → Contains (recurring_in a) r → r.part ≡ a.claim.part
of_part a r c = at_series a.claim.series c
  where
    at_series : (o : Option Whole) → Contains (option_to_list (option_map (λ (meeting : Whole). record { part = a.claim.part; meeting = meeting }) o)) r → r.part ≡ a.claim.part
    at_series None c = absurd (none_in_nil r c)
    at_series (Some meeting) c = elim (in_cons _ [] r c) [ inl here ↦ sym (ap (λ (x : Recurring). x.part) here) | inr none ↦ absurd (none_in_nil r none) ]

pub part_own : (k : MeetingKey) (t : List Part) (xs : List PartAnswer) → ((a : PartAnswer) → Contains xs a → is_of_meeting k a.claim.part ≡ true) → (r : Recurring) → Contains (series_confirmed t xs) r → is_of_meeting k r.part ≡ true
part_own k t xs own r c =
    let found = flat_at recurring_in (filter (is_confirmed t) xs) r c in
    subst (λ (p : Part). is_of_meeting k p ≡ true) (sym (of_part found.0 r found.2)) (own found.0 (filter_at (is_confirmed t) xs found.0 found.1).0)
