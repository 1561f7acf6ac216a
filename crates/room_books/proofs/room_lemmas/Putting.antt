-- What all meetings confirm once one of them confirms something else: what the others do, and its own.
-- Cited by Room::put.
use Rattle.std.proofs.Common.{◌≡◌, ℕ, ◌+◌, ◌≤◌, Bool, true, false, not, cond, List, [], ◌∷◌, ◌++◌, inl, inr, Some, refl, sym, ap, ◌∙◌, subst, length, arith, length-append, append_assoc, append-nil}
use Rattle.std.specs.List.{Contains, IsDistinct, filter, flat_map}
use Rattle.std.specs.Map.{lookup, keys_of}
use Rattle.std.proofs.lemmas.Bool.{and_parts}
use Rattle.std.proofs.lemmas.List.{length-map}
use Rattle.std.proofs.lemmas.List.Elements.{Contains-append_cases}
use Rattle.std.proofs.lemmas.Map.Keys.{IsDistinct-tail, IsDistinct-head}
use Rattle.std.proofs.lemmas.Slice.Eq.{bytes_eq-Decides}
use Rattle.indexmap.specs.IndexMap.{insert_entry}
use Rattle.itip_order.proofs.Lists.{none_in_nil, in_head, in_tail, filter_at}
use Rattle.ical_values.specs.Octets.{address_octets, text_octets}
use Rattle.profile.specs.checker.Instances.{Instance, IsClear}
use Rattle.room_books.specs.declared.meeting.MeetingKey.{MeetingKey}
use Rattle.room_books.specs.declared.kept.Meeting.{Meeting}
use Rattle.cal_events.specs.declared.instance.Single.{Single}
use Rattle.room_books.specs.Meeting.{same_key, is_other, keyed_instance, instance_list, meeting_singles, confirmed_of, singles_by, others, all_confirmed}
use Rattle.room_books.proofs.shared_lemmas.Places.{in_flat, flat_from, in_booked, booked_from, no_others, others_count}
use Rattle.room_books.proofs.shared_lemmas.Same.{AreSame, same_itself, same_append, same_swap, clear_same}

-- one meeting's instances have one key, however its name is spelled
pub booked_same : (k q : MeetingKey) (s : Single) → same_key k q ≡ true → keyed_instance k s ≡ keyed_instance q s
booked_same k q s e =
    let both = and_parts _ _ e in
    let o = (bytes_eq-Decides (address_octets k.organiser) (address_octets q.organiser)).0 both.0 in
    let u = (bytes_eq-Decides (text_octets k.uid) (text_octets q.uid)).0 both.1 in
    λ i. record { key = record { organiser = o i; uid = u i; slot = s.slot }; start = s.span.start; end = s.span.end }

pub booked_list_same : (k q : MeetingKey) (singles : List Single) → same_key k q ≡ true → instance_list k singles ≡ instance_list q singles
booked_list_same k q [] e = refl
booked_list_same k q (s ∷ singles) e = let head = booked_same k q s e in let tail = booked_list_same k q singles e in λ i. head i ∷ tail i

-- ---- what all confirm afterwards

module _ (k : MeetingKey) (m : Meeting) where
  put_same_at : (e : MeetingKey × Meeting) (es : List (MeetingKey × Meeting)) (t : Bool) → same_key k e.0 ≡ t → IsDistinct same_key (keys_of (e ∷ es))
      → AreSame (all_confirmed (insert_entry same_key es k m)) (others k es ++ instance_list k (meeting_singles m))
      → AreSame (all_confirmed (cond t ((e.0, m) ∷ es) (e ∷ insert_entry same_key es k m))) (flat_map confirmed_of (cond (not t) (e ∷ filter (is_other k) es) (filter (is_other k) es)) ++ instance_list k (meeting_singles m))
  put_same_at e es true same distinct h =
      let rest : others k es ≡ all_confirmed es = ap (flat_map confirmed_of) (no_others k e.0 es same (IsDistinct-head same_key e.0 (keys_of es) distinct)) in
      let own = booked_list_same k e.0 (meeting_singles m) same in
      subst (AreSame (instance_list e.0 (meeting_singles m) ++ all_confirmed es)) (sym (λ i. rest i ++ own i)) (same_turned_about (instance_list e.0 (meeting_singles m)) (all_confirmed es))
    where
      same_turned_about : (a b : List Instance) → AreSame (a ++ b) (b ++ a)
      same_turned_about a b = subst (λ l. AreSame l (b ++ a)) (ap (λ l. a ++ l) (append-nil b)) (subst (λ l. AreSame (a ++ (b ++ [])) (b ++ l)) (append-nil a) (same_swap a b []))
  put_same_at e es false other distinct h =
      subst (AreSame (confirmed_of e ++ all_confirmed (insert_entry same_key es k m))) (sym (append_assoc (confirmed_of e) (others k es) (instance_list k (meeting_singles m))))
      (same_append (confirmed_of e) (confirmed_of e) (all_confirmed (insert_entry same_key es k m)) (others k es ++ instance_list k (meeting_singles m)) (same_itself (confirmed_of e)) h)

  pub put_same : (es : List (MeetingKey × Meeting)) → IsDistinct same_key (keys_of es) → AreSame (all_confirmed (insert_entry same_key es k m)) (others k es ++ instance_list k (meeting_singles m))
  put_same [] distinct = subst (λ l. AreSame l (instance_list k (meeting_singles m))) (sym (append-nil (instance_list k (meeting_singles m)))) (same_itself (instance_list k (meeting_singles m)))
  put_same (e ∷ es) distinct = put_same_at e es (same_key k e.0) refl distinct (put_same es (IsDistinct-tail same_key e.0 (keys_of es) distinct))

  -- they are clear where the others and its own are
  pub put_clear : (es : List (MeetingKey × Meeting)) → IsDistinct same_key (keys_of es) → IsClear (Contains (others k es ++ instance_list k (meeting_singles m))) → IsClear (Contains (all_confirmed (insert_entry same_key es k m)))
  put_clear es distinct clear = clear_same (all_confirmed (insert_entry same_key es k m)) (others k es ++ instance_list k (meeting_singles m)) (put_same es distinct) clear

-- ---- what all confirmed before

found_step : (k : MeetingKey) (e : MeetingKey × Meeting) (es : List (MeetingKey × Meeting)) (s : Single) (t : Bool) → same_key k e.0 ≡ t → Contains (singles_by (cond t (Some e.1) (lookup (same_key k) es))) s
    → (Contains (singles_by (lookup (same_key k) es)) s → (x : MeetingKey × Meeting) × Contains es x × (same_key k x.0 ≡ true) × Contains (meeting_singles x.1) s)
    → (x : MeetingKey × Meeting) × Contains (e ∷ es) x × (same_key k x.0 ≡ true) × Contains (meeting_singles x.1) s
found_step k e es s true same c h = (e, in_head e es, same, c)
found_step k e es s false other c h = let r = h c in (r.0, in_tail e es r.0 r.1, r.2, r.3)

-- what a look-up finds confirmed is of an entry of that meeting
pub found_single : (k : MeetingKey) (es : List (MeetingKey × Meeting)) (s : Single) → Contains (singles_by (lookup (same_key k) es)) s
    → (x : MeetingKey × Meeting) × Contains es x × (same_key k x.0 ≡ true) × Contains (meeting_singles x.1) s
found_single k [] s c = absurd (none_in_nil s c)
found_single k (e ∷ es) s c = found_step k e es s (same_key k e.0) refl c (found_single k es s)

module _ (k : MeetingKey) (es : List (MeetingKey × Meeting)) (kept : List Single) (own : (s : Single) → Contains kept s → Contains (singles_by (lookup (same_key k) es)) s) where
  pub kept_in : (b : Instance) → Contains (others k es ++ instance_list k kept) b → Contains (all_confirmed es) b
  kept_in b c = elim (Contains-append_cases (others k es) (instance_list k kept) b c) [
    | inl other ↦ (let f = in_flat (filter (is_other k) es) b other in flat_from es f.0 b (filter_at (is_other k) es f.0 f.1).0 f.2)
    | inr here ↦ (
        let s = in_booked k kept b here in
        let x = found_single k es s.0 (own s.0 s.1) in
        flat_from es x.0 b x.1 (subst (Contains (confirmed_of x.0)) (sym (booked_same k x.0.0 s.0 x.2) ∙ s.2) (booked_from x.0.0 (meeting_singles x.0.1) s.0 x.3)))
  ]

  -- the others and some of its own are clear where all are
  pub clear_kept : IsClear (Contains (all_confirmed es)) → IsClear (Contains (others k es ++ instance_list k kept))
  clear_kept clear a b t in_a in_b clash = clear a b t (kept_in a in_a) (kept_in b in_b) clash

-- ---- the counts that a change asks for

module _ (k : MeetingKey) (es : List (MeetingKey × Meeting)) (distinct : IsDistinct same_key (keys_of es)) (count : ℕ) (counted : count ≡ length (all_confirmed es)) where
  pub own_counted : length (singles_by (lookup (same_key k) es)) ≤ count
  own_counted = let n = others_count k es distinct in omega (arith, n, counted)

  pub beside_is : (beside : ℕ) → beside + length (singles_by (lookup (same_key k) es)) ≡ count → beside ≡ length (others k es)
  beside_is beside e = let n = others_count k es distinct in omega (arith, n, e, counted)

  pub few_after : (singles : List Single) → length (others k es ++ instance_list k singles) ≤ 10_000 → count + length singles ≤ 10_000 + length (singles_by (lookup (same_key k) es))
  few_after singles few =
      let n = others_count k es distinct in
      let l = length-append (others k es) (instance_list k singles) in
      let m = length-map singles (keyed_instance k) in
      omega (arith, n, l, m, few, counted)
