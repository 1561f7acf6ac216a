-- The series of a room once one of its meetings has others: where they are, how many there are, and that all is clear.
-- Cited by Room::put.
use Rattle.std.proofs.Common.{◌≡◌, ◌≢◌, ◌∙◌, ℕ, ◌<◌, ◌≤◌, ◌+◌, Bool, true, false, not, cond, List, [], ◌∷◌, ◌++◌, ◌⊎◌, inl, inr, refl, sym, ap, subst, length, arith, length-append}
use Rattle.std.specs.Prelude.{◌==◌}
use Rattle.std.specs.Option.{option_to_list}
use Rattle.std.specs.List.{Contains, IsDistinct, filter}
use Rattle.std.specs.Map.{keys_of}
use Rattle.std.proofs.lemmas.Bool.{both_ways, cases_Bool, eq-eqb, eqb-true}
use Rattle.std.proofs.lemmas.List.{length-map}
use Rattle.std.proofs.lemmas.List.Elements.{Contains-append_left, Contains-append_right, Contains-append_cases}
use Rattle.std.proofs.lemmas.Map.Keys.{IsDistinct-head, IsDistinct-tail}
use Rattle.indexmap.specs.IndexMap.{insert_entry}
use Rattle.itip_order.proofs.Lists.{any_at, any_from, in_cons, in_head, in_tail, none_in_nil, filter_from}
use Rattle.profile.specs.checker.Instances.{Instance}
use Rattle.profile.specs.events.Confirmed.{IsOneOf}
use Rattle.profile.specs.events.Events.{Event as Whole}
use Rattle.cal_events.specs.declared.series.Series.{Series}
use Rattle.room_books.specs.Slots.{Reordered}
use Rattle.room_books.specs.declared.meeting.MeetingKey.{MeetingKey}
use Rattle.room_books.specs.declared.kept.Meeting.{Meeting}
use Rattle.room_books.specs.declared.meeting.PartAnswer.{PartAnswer}
use Rattle.room_books.specs.Meeting.{all_series, all_singles, beside, instance_list, has_place, in_room, is_other, joined, meeting_singles, other_recurring, others, recurring_of, all_recurring, same_key, series_at, series_list, series_of, AreRecurring, IsClearIn}
use Rattle.room_books.proofs.shared_lemmas.Keys.{key_congr}
use Rattle.room_books.proofs.room_lemmas.Meetings.{key_from}
use Rattle.room_books.proofs.shared_lemmas.Pairs.{flat_at, flat_from, map_at, map_from}
use Rattle.room_books.proofs.shared_lemmas.Partition.{differs}
use Rattle.room_books.proofs.shared_lemmas.Places.{booked_from, in_booked, place_of, series_other, series_put}
use Rattle.room_books.proofs.room_lemmas.Putting.{put_same}
use Rattle.room_books.proofs.shared_lemmas.Reordering.{re_back, re_flat, re_in, re_length}
use Rattle.room_books.proofs.room_lemmas.Representing.{series_same}

-- ---- places

pub place_among : (places : List ℕ) (place : ℕ) → has_place places place ≡ true → Contains places place
place_among places place h = let f = any_at (λ own. own == place) places h in subst (Contains places) (eqb-true f.0 place f.2) f.1

pub among_place : (places : List ℕ) (place : ℕ) → Contains places place → has_place places place ≡ true
among_place places place c = any_from (λ own. own == place) places place c (eq-eqb place place refl)

some_long : {X : Type 0} (xs : List X) (x : X) → Contains xs x → 0 < length xs
some_long [] x c = absurd (none_in_nil x c)
some_long (y ∷ xs) x c = omega arith

module _ (k : MeetingKey) (m : Meeting) (es : List (MeetingKey × Meeting)) where
  -- the places of series with that of this meeting
  pub recurring_put : (old new : List ℕ) → AreRecurring (series_at es) old → ((other : ℕ) → other ≢ place_of k es → Contains old other → Contains new other)
      → (0 < length (all_series m.answers.items) → Contains new (place_of k es)) → AreRecurring (series_at (insert_entry same_key es k m)) new
  recurring_put old new was others own place series c = elim (cases_Bool (place == place_of k es)) [
    | inl here ↦
        let e = eqb-true place (place_of k es) here in
        let is : series_at (insert_entry same_key es k m) place ≡ all_series m.answers.items = ap (series_at (insert_entry same_key es k m)) e ∙ series_put k m es in
        among_place new place (subst (Contains new) (sym e) (own (some_long (all_series m.answers.items) series (subst (λ (l : List Series). Contains l series) is c))))
    | inr there ↦
        let n : place ≢ place_of k es = λ e. both_ways _ there (eq-eqb place (place_of k es) e) in
        among_place new place (others place n (place_among old place (was place series (subst (λ (l : List Series). Contains l series) (series_other k m es place n) c))))
  ]

-- ---- the limit, where the answers are in another order

pub series_joined : (k : MeetingKey) (es : List (MeetingKey × Meeting)) (answers given : List PartAnswer) → Reordered answers given → length (other_recurring k es ++ series_list k (all_series answers)) ≤ 64
    → length (other_recurring k es) + length (all_series given) ≤ 64
series_joined k es answers given same few =
    let n = re_length (all_series answers) (all_series given) (re_flat (λ (g : PartAnswer). option_to_list g.series) answers given same) in
    let l = length-map (all_series answers) (series_of k) in
    omega (arith, n, l, few, length-append (other_recurring k es) (series_list k (all_series answers)))

-- ---- all is clear

-- an entry is that of the meeting, or another one
pub entry_put : (k : MeetingKey) (m : Meeting) (es : List (MeetingKey × Meeting)) → IsDistinct same_key (keys_of es) → (x : MeetingKey × Meeting) → Contains (insert_entry same_key es k m) x
    → ((x.1 ≡ m) × (same_key k x.0 ≡ true)) ⊎ (Contains es x × (same_key k x.0 ≡ false))
entry_put k m [] d x c = elim (in_cons (k, m) [] x c) [
  | inl here ↦ inl (sym (ap (λ (z : MeetingKey × Meeting). z.1) here), subst (λ (z : MeetingKey × Meeting). same_key k z.0 ≡ true) here (key_from k k refl refl))
  | inr none ↦ absurd (none_in_nil x none)
]
entry_put k m (e ∷ es) d x c = at_test (same_key k e.0) refl (entry_put k m es (IsDistinct-tail same_key e.0 (keys_of es) d) x) c
  where
    at_test : (b : Bool) → same_key k e.0 ≡ b → (Contains (insert_entry same_key es k m) x → ((x.1 ≡ m) × (same_key k x.0 ≡ true)) ⊎ (Contains es x × (same_key k x.0 ≡ false)))
        → Contains (cond b ((e.0, m) ∷ es) (e ∷ insert_entry same_key es k m)) x → ((x.1 ≡ m) × (same_key k x.0 ≡ true)) ⊎ (Contains (e ∷ es) x × (same_key k x.0 ≡ false))
    at_test true own rest c = elim (in_cons (e.0, m) es x c) [
      | inl here ↦ inl (sym (ap (λ (z : MeetingKey × Meeting). z.1) here), subst (λ (z : MeetingKey × Meeting). same_key k z.0 ≡ true) here own)
      | inr there ↦ inr (in_tail e es x there, key_congr k e.0 x.0 own ∙ differs e.0 es (IsDistinct-head same_key e.0 (keys_of es) d) x there)
    ]
    at_test false other rest c = elim (in_cons e (insert_entry same_key es k m) x c) [
      | inl here ↦ inr (subst (Contains (e ∷ es)) here (in_head e es), subst (λ (z : MeetingKey × Meeting). same_key k z.0 ≡ false) here other)
      | inr there ↦ elim (rest there) [ inl own ↦ inl own | inr old ↦ inr (in_tail e es x old.0, old.1) ]
    ]

module _ (k : MeetingKey) (m : Meeting) (es : List (MeetingKey × Meeting)) (distinct : IsDistinct same_key (keys_of es)) (answers : List PartAnswer) (same : Reordered answers m.answers.items) where
  abbrev now : List (MeetingKey × Meeting)
  now = insert_entry same_key es k m

  series_in_now : (x : Whole) → Contains (all_recurring now) x → Contains (other_recurring k es ++ series_list k (all_series answers)) x
  series_in_now x c =
      let f = flat_at recurring_of now x c in
      elim (entry_put k m es distinct f.0 f.1) [
        | inl own ↦
            let listed : recurring_of f.0 ≡ series_list k (all_series m.answers.items) = ap (λ (z : Meeting). series_list f.0.0 (all_series z.answers.items)) own.0 ∙ sym (series_same k f.0.0 (all_series m.answers.items) own.1) in
            let here = map_at (series_of k) (all_series m.answers.items) x (subst (λ (l : List Whole). Contains l x) listed f.2) in
            let back = re_in (all_series m.answers.items) (all_series answers) (re_back (all_series answers) (all_series m.answers.items) (re_flat (λ (g : PartAnswer). option_to_list g.series) answers m.answers.items same)) here.0 here.1 in
            Contains-append_right (other_recurring k es) (series_list k (all_series answers)) x (subst (Contains (series_list k (all_series answers))) here.2 (map_from (series_of k) (all_series answers) here.0 back))
        | inr other ↦
            Contains-append_left (other_recurring k es) (series_list k (all_series answers)) x
            (flat_from recurring_of (filter (is_other k) es) f.0 x (filter_from (is_other k) es f.0 other.0 (ap not other.1)) f.2)
      ]

  singles_in_now : (x : Instance) → Contains (others k es ++ instance_list k (meeting_singles m)) x → Contains (others k es ++ instance_list k (all_singles answers)) x
  singles_in_now x c = elim (Contains-append_cases (others k es) (instance_list k (meeting_singles m)) x c) [
    | inl other ↦ Contains-append_left (others k es) (instance_list k (all_singles answers)) x other
    | inr own ↦
        let s = in_booked k (meeting_singles m) x own in
        let back = re_in (meeting_singles m) (all_singles answers) (re_back (all_singles answers) (meeting_singles m) (re_flat (λ (g : PartAnswer). g.singles.items) answers m.answers.items same)) s.0 s.1 in
        Contains-append_right (others k es) (instance_list k (all_singles answers)) x (subst (Contains (instance_list k (all_singles answers))) s.2 (booked_from k (all_singles answers) s.0 back))
  ]

  one_of_now : (b : Instance) → IsOneOf (in_room now) b → IsOneOf (joined (beside k es) k (all_singles answers) (all_series answers)) b
  one_of_now b (inl c) = inl (singles_in_now b ((put_same k m es distinct).to b c))
  one_of_now b (inr i) = inr (i.0, series_in_now i.0 i.1, i.2)

  pub put_series_clear : IsClearIn (joined (beside k es) k (all_singles answers) (all_series answers)) → IsClearIn (in_room now)
  put_series_clear clear a b t p q clash = clear a b t (one_of_now a p) (one_of_now b q) clash
