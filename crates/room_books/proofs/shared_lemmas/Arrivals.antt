-- The order of first arrival: the first part of a meeting puts it last, another one moves none.
-- Behind answers_stay of laws, kept_texts_pass of laws, kept_texts_spell of laws, served_texts_pass of laws, Room::put of room, Room::take_claims of room and 1 more.
use Rattle.std.proofs.Common.{◌≡◌, Bool, true, false, not, ◌&&◌, cond, List, [], ◌∷◌, ◌++◌, refl, sym, ap, ◌∙◌, subst}
use Rattle.std.specs.List.{filter}
use Rattle.std.specs.Map.{keys_of}
use Rattle.std.specs.Cmp.{both_ways as same_tests, tied_then}
use Rattle.std.specs.Ordering.{is_eq}
use Rattle.std.specs.Str.{bytes_eq}
use Rattle.std.proofs.lemmas.Bool.{and_parts, and_from, true≢false}
use Rattle.std.proofs.lemmas.Map.Text.{is_eq-slice_cmp}
use Rattle.std.proofs.lemmas.Slice.Eq.{bytes_eq-Decides}
use Rattle.indexmap.specs.IndexMap.{insert_entry}
use Rattle.ical_values.specs.Octets.{address_octets, text_octets}
use Rattle.profile.specs.rooms.Revisions.{Part, same_meeting, octets_cmp}
use Rattle.profile.specs.rooms.Kept.{first_parts}
use Rattle.room_books.specs.declared.meeting.MeetingKey.{MeetingKey}
use Rattle.room_books.specs.declared.kept.Meeting.{Meeting}
use Rattle.room_books.specs.Meeting.{same_key}
use Rattle.room_books.specs.Room.{is_of_meeting, AreKeysOf}
use Rattle.itip_order.proofs.Order.{meeting_total, is_eq_true}
use Rattle.room_books.proofs.room_lemmas.Meetings.{is_of_parts}

-- ---- meetings of parts

pub meeting_is : (a b : Part) → same_meeting a b ≡ (bytes_eq a.organiser b.organiser && bytes_eq a.uid b.uid)
meeting_is a b = sym (tied_then (octets_cmp a.organiser b.organiser) (octets_cmp a.uid b.uid)) ∙ (λ i. is_eq-slice_cmp a.organiser b.organiser i && is_eq-slice_cmp a.uid b.uid i)

-- parts of a key's meeting
pub key_meeting : (k : MeetingKey) (p q : Part) → is_of_meeting k p ≡ true → is_of_meeting k q ≡ same_meeting p q
key_meeting k p q e =
    let s = is_of_parts k p e in
    (λ i. bytes_eq (s.0 i) q.organiser && bytes_eq (s.1 i) q.uid) ∙ sym (meeting_is p q)

meeting_parts : (a b : Part) → same_meeting a b ≡ true → (a.organiser ≡ b.organiser) × (a.uid ≡ b.uid)
meeting_parts a b e =
    let both = and_parts _ _ (sym (meeting_is a b) ∙ e) in
    ((bytes_eq-Decides a.organiser b.organiser).0 both.0, (bytes_eq-Decides a.uid b.uid).0 both.1)

-- meetings that are one are alike to every other
pub meeting_congr : (a b c : Part) → same_meeting a b ≡ true → same_meeting a c ≡ same_meeting b c
meeting_congr a b c e = ap is_eq (meeting_total.congr a b c (is_eq_true _ e))

-- ---- one more part

-- the first parts, where one more is taken
push_first : List Part → Part → List Part
push_first [] p = p ∷ []
push_first (f ∷ fs) p = cond (same_meeting f p) (f ∷ fs) (f ∷ push_first fs p)

abbrev others : Part → Part → Bool
others q p = not (same_meeting q p)

-- a part of the meeting of q adds nothing that isn't q's
filter_own : (q p : Part) (fs : List Part) → same_meeting q p ≡ true → filter (others q) (push_first fs p) ≡ filter (others q) fs
unfolding push_first
filter_own q p [] e = ap (λ b. cond (not b) (p ∷ []) []) e
filter_own q p (f ∷ fs) e = filter_own_at (same_meeting f p) (filter_own q p fs e)
  where
    filter_own_at : (b : Bool) → filter (others q) (push_first fs p) ≡ filter (others q) fs → filter (others q) (cond b (f ∷ fs) (f ∷ push_first fs p)) ≡ filter (others q) (f ∷ fs)
    filter_own_at true h = refl
    filter_own_at false h = ap (λ l. cond (others q f) (f ∷ l) l) h

-- a part of another meeting is added to the others
filter_other : (q p : Part) (fs : List Part) → same_meeting q p ≡ false → filter (others q) (push_first fs p) ≡ push_first (filter (others q) fs) p
unfolding push_first
filter_other q p [] e = ap (λ b. cond (not b) (p ∷ []) []) e
filter_other q p (f ∷ fs) e = at_tests (same_meeting f p) (same_meeting q f) refl refl (filter_other q p fs e)
  where
    at_tests : (b c : Bool) → same_meeting f p ≡ b → same_meeting q f ≡ c → filter (others q) (push_first fs p) ≡ push_first (filter (others q) fs) p
        → filter (others q) (cond b (f ∷ fs) (f ∷ push_first fs p)) ≡ push_first (cond (not c) (f ∷ filter (others q) fs) (filter (others q) fs)) p
    at_tests true true h k r = absurd (true≢false (sym h ∙ sym (meeting_congr q f p k) ∙ e))
    at_tests true false h k r = ap (λ b. cond (not b) (f ∷ filter (others q) fs) (filter (others q) fs)) k ∙ sym (ap (λ b. cond b (f ∷ filter (others q) fs) (f ∷ push_first (filter (others q) fs) p)) h)
    at_tests false true h k r = ap (λ b. cond (not b) (f ∷ filter (others q) (push_first fs p)) (filter (others q) (push_first fs p))) k ∙ r
    at_tests false false h k r = ap (λ b. cond (not b) (f ∷ filter (others q) (push_first fs p)) (filter (others q) (push_first fs p))) k ∙ ap (λ l. f ∷ l) r
        ∙ sym (ap (λ b. cond b (f ∷ filter (others q) fs) (f ∷ push_first (filter (others q) fs) p)) h)

first_parts_push : (ps : List Part) (p : Part) → first_parts (ps ++ p ∷ []) ≡ push_first (first_parts ps) p
unfolding push_first
first_parts_push [] p = refl
first_parts_push (q ∷ qs) p = ap (λ l. q ∷ filter (others q) l) (first_parts_push qs p) ∙ at_test (same_meeting q p) refl
  where
    at_test : (b : Bool) → same_meeting q p ≡ b → q ∷ filter (others q) (push_first (first_parts qs) p) ≡ cond b (q ∷ filter (others q) (first_parts qs)) (q ∷ push_first (filter (others q) (first_parts qs)) p)
    at_test true e = ap (λ l. q ∷ l) (filter_own q p (first_parts qs) e)
    at_test false e = ap (λ l. q ∷ l) (filter_other q p (first_parts qs) e)

-- ---- one more meeting

key_tests : (k q : MeetingKey) (f p : Part) → is_of_meeting k p ≡ true → is_of_meeting q f ≡ true → same_key k q ≡ same_meeting f p
key_tests k q f p e g =
    let a = is_of_parts k p e in
    let b = is_of_parts q f g in
    same_tests _ _
    (λ h. let both = and_parts _ _ h in
    meeting_is f p ∙ and_from _ _
    ((bytes_eq-Decides f.organiser p.organiser).1 (sym b.0 ∙ sym ((bytes_eq-Decides (address_octets k.organiser) (address_octets q.organiser)).0 both.0) ∙ a.0))
    ((bytes_eq-Decides f.uid p.uid).1 (sym b.1 ∙ sym ((bytes_eq-Decides (text_octets k.uid) (text_octets q.uid)).0 both.1) ∙ a.1)))
    (λ h. let s = meeting_parts f p h in and_from _ _
    ((bytes_eq-Decides (address_octets k.organiser) (address_octets q.organiser)).1 (a.0 ∙ sym s.0 ∙ sym b.0))
    ((bytes_eq-Decides (text_octets k.uid) (text_octets q.uid)).1 (a.1 ∙ sym s.1 ∙ sym b.1)))

insert_first : (es : List (MeetingKey × Meeting)) (fs : List Part) (k : MeetingKey) (m : Meeting) (p : Part) → is_of_meeting k p ≡ true → AreKeysOf (keys_of es) fs → AreKeysOf (keys_of (insert_entry same_key es k m)) (push_first fs p)
unfolding push_first
insert_first [] [] k m p e z = (e, tt)
insert_first [] (f ∷ fs) k m p e z = absurd z
insert_first (x ∷ es) [] k m p e z = absurd z
insert_first (x ∷ es) (f ∷ fs) k m p e z = at_test (same_key k x.0) (key_tests k x.0 f p e z.0) (insert_first es fs k m p e z.1)
  where
    at_test : (b : Bool) → b ≡ same_meeting f p → AreKeysOf (keys_of (insert_entry same_key es k m)) (push_first fs p) → AreKeysOf (keys_of (cond b ((x.0, m) ∷ es) (x ∷ insert_entry same_key es k m))) (cond (same_meeting f p) (f ∷ fs) (f ∷ push_first fs p))
    at_test true h r = subst (λ (c : Bool). AreKeysOf (x.0 ∷ keys_of es) (cond c (f ∷ fs) (f ∷ push_first fs p))) h (z.0, z.1)
    at_test false h r = subst (λ (c : Bool). AreKeysOf (x.0 ∷ keys_of (insert_entry same_key es k m)) (cond c (f ∷ fs) (f ∷ push_first fs p))) h (z.0, r)

-- the meetings stay in order of first arrival, where a part of this meeting is taken
pub arrives : (es : List (MeetingKey × Meeting)) (ps : List Part) (k : MeetingKey) (m : Meeting) (p : Part) → is_of_meeting k p ≡ true → AreKeysOf (keys_of es) (first_parts ps) → AreKeysOf (keys_of (insert_entry same_key es k m)) (first_parts (ps ++ p ∷ []))
arrives es ps k m p e z = subst (AreKeysOf (keys_of (insert_entry same_key es k m))) (sym (first_parts_push ps p)) (insert_first es (first_parts ps) k m p e z)
