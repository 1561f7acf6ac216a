-- What holds of all meetings of a room, when one of them is put in its place.
-- Cited by Room::answers_after, Room::put, Room::take.
use Rattle.std.proofs.Common.{◌≡◌, ◌≤◌, ℕ, ℤ, Bool, true, false, ◌&&◌, cond, List, [], ◌∷◌, ◌++◌, inl, inr, Option, None, Some, refl, sym, ap, ap₂, ◌∙◌, subst, length, arith, length-append, append-nil}
use Rattle.std.specs.List.{Contains, IsDistinct, AllZip}
use Rattle.std.specs.Prelude.{if◌then◌else◌}
use Rattle.std.specs.Map.{lookup, keys_of}
use Rattle.std.proofs.lemmas.Bool.{true≢false}
use Rattle.std.proofs.lemmas.Grind.{flat_map-append}
use Rattle.std.proofs.lemmas.List.{length-map}
use Rattle.indexmap.specs.IndexMap.{insert_entry}
use Rattle.itip_order.proofs.Lists.{in_head, in_tail, in_cons, none_in_nil}
use Rattle.profile.specs.checker.Instances.{Instance, IsClear}
use Rattle.profile.specs.events.Confirmed.{Confirmed}
use Rattle.std.specs.Option.{option_to_list}
use Rattle.cal_events.specs.declared.series.Series.{Series}
use Rattle.profile.specs.rooms.Kept.{Replies, Refreshes}
use Rattle.profile.specs.rooms.Messages as messages
use Rattle.profile.specs.rooms.Messages.{Accept, Busy, SeriesLimit, SinglesLimit}
use Rattle.profile.specs.rooms.Rooms.{Book, Kind, NotAddressed, is_accept}
use Rattle.room_books.specs.declared.meeting.Outcome.{Outcome}
use Rattle.room_books.specs.declared.meeting.PartAnswer.{PartAnswer}
use Rattle.room_books.specs.Room.{Represents, StepsWith}
use Rattle.room_books.specs.Taking.{IsDecided, MayJoinAll}
use Rattle.room_books.specs.declared.meeting.MeetingKey.{MeetingKey}
use Rattle.room_books.specs.declared.kept.Meeting.{Meeting}
use Rattle.cal_events.specs.declared.instance.Single.{Single}
use Rattle.room_books.specs.Gone.{AreSeparate, IsPartOf}
use Rattle.room_books.specs.Meeting.{same_key, keyed_instance, instance_list, all_series, all_singles, meeting_singles, singles_by, outcome_of, others, all_confirmed, AreAllApart, MayJoin, SeriesMayJoin}
use Rattle.room_books.proofs.shared_lemmas.Places.{others_count}
use Rattle.room_books.proofs.room_lemmas.Putting.{clear_kept}

pub found_apart : (k : MeetingKey) (es : List (MeetingKey × Meeting)) → AreAllApart es → AreSeparate (singles_by (lookup (same_key k) es))
found_apart k [] h = λ i j d l w. absurd (omega (arith, w))
found_apart k (e ∷ es) h = at_test (same_key k e.0) (found_apart k es (λ x c. h x (in_tail e es x c)))
  where
    at_test : (b : Bool) → AreSeparate (singles_by (lookup (same_key k) es)) → AreSeparate (singles_by (cond b (Some e.1) (lookup (same_key k) es)))
    at_test true r = h e (in_head e es)
    at_test false r = r

pub put_apart : (k : MeetingKey) (m : Meeting) (es : List (MeetingKey × Meeting)) → AreAllApart es → AreSeparate (meeting_singles m) → AreAllApart (insert_entry same_key es k m)
put_apart k m [] h s x c = elim (in_cons (k, m) [] x c) [ inl here ↦ subst (λ (z : MeetingKey × Meeting). AreSeparate (meeting_singles z.1)) here s | inr none ↦ absurd (none_in_nil x none) ]
put_apart k m (e ∷ es) h s x c = at_test (same_key k e.0) (put_apart k m es (λ y d. h y (in_tail e es y d)) s x) c
  where
    at_test : (b : Bool) → (Contains (insert_entry same_key es k m) x → AreSeparate (meeting_singles x.1)) → Contains (cond b ((e.0, m) ∷ es) (e ∷ insert_entry same_key es k m)) x → AreSeparate (meeting_singles x.1)
    at_test true r d = elim (in_cons (e.0, m) es x d) [ inl here ↦ subst (λ (z : MeetingKey × Meeting). AreSeparate (meeting_singles z.1)) here s | inr there ↦ h x (in_tail e es x there) ]
    at_test false r d = elim (in_cons e (insert_entry same_key es k m) x d) [ inl here ↦ subst (λ (z : MeetingKey × Meeting). AreSeparate (meeting_singles z.1)) here (h e (in_head e es)) | inr there ↦ r there ]

-- what a meeting keeps may be confirmed beside the others
pub kept_joins : (k : MeetingKey) (es : List (MeetingKey × Meeting)) (kept : List Single) → IsDistinct same_key (keys_of es) → IsClear (Contains (all_confirmed es)) → AreAllApart es → length (all_confirmed es) ≤ 10_000
    → IsPartOf kept (singles_by (lookup (same_key k) es)) → MayJoin (others k es) k kept
kept_joins k es kept distinct clear apart few part = record {
  few = (let n = others_count k es distinct in let s = part.shorter in let m = length-map kept (keyed_instance k) in omega (arith, n, s, m, few, length-append (others k es) (instance_list k kept)));
  clear = clear_kept k es kept part.within clear;
  separate = part.separate (found_apart k es apart);
}

-- ---- what new answers confirm

-- candidates with what was decided confirm all that they ask for where that is to accept them, else nothing
pub decided_singles : (outcome : Outcome) (candidates new : List PartAnswer) → AllZip (λ candidate given. IsDecided candidate outcome given) candidates new
    → all_singles new ≡ (if is_accept (outcome_of outcome) then all_singles candidates else [])
decided_singles outcome [] [] z = none (is_accept (outcome_of outcome))
  where
    none : (b : Bool) → all_singles [] ≡ (if b then [] else [])
    none true = refl
    none false = refl
decided_singles outcome (c ∷ cs) (n ∷ ns) z =
    ap₂ (λ (a b : List Single). a ++ b) z.0.singles (decided_singles outcome cs ns z.1) ∙ joined (is_accept (outcome_of outcome)) c.singles.items (all_singles cs)
  where
    joined : (b : Bool) (xs ys : List Single) → (if b then xs else []) ++ (if b then ys else []) ≡ (if b then xs ++ ys else [])
    joined true xs ys = refl
    joined false xs ys = refl
decided_singles outcome [] (n ∷ ns) z = absurd z
decided_singles outcome (c ∷ cs) [] z = absurd z

-- and the series of all where that is to accept them, else none
pub decided_series : (outcome : Outcome) (candidates new : List PartAnswer) → AllZip (λ candidate given. IsDecided candidate outcome given) candidates new
    → all_series new ≡ (if is_accept (outcome_of outcome) then all_series candidates else [])
decided_series outcome [] [] z = none (is_accept (outcome_of outcome))
  where
    none : (b : Bool) → all_series [] ≡ (if b then [] else [])
    none true = refl
    none false = refl
decided_series outcome (c ∷ cs) (n ∷ ns) z =
    ap₂ (λ (a b : List Series). a ++ b) (ap option_to_list z.0.series) (decided_series outcome cs ns z.1) ∙ joined (is_accept (outcome_of outcome)) c.series (all_series cs)
  where
    joined : (b : Bool) (x : Option Series) (ys : List Series) → option_to_list (if b then x else None) ++ (if b then ys else []) ≡ (if b then option_to_list x ++ ys else [])
    joined true x ys = refl
    joined false x ys = refl
decided_series outcome [] (n ∷ ns) z = absurd z
decided_series outcome (c ∷ cs) [] z = absurd z

-- with what was decided of candidates a meeting may be confirmed beside the others
pub answers_join : (others : List Instance) (k : MeetingKey) (outcome : Outcome) (kept candidates new : List PartAnswer) → (outcome_of outcome ≡ Accept → MayJoin others k (all_singles kept ++ all_singles candidates))
    → AllZip (λ candidate given. IsDecided candidate outcome given) candidates new → MayJoin others k (all_singles kept) → MayJoin others k (all_singles (kept ++ new))
answers_join others k outcome kept candidates new joins z j =
    subst (MayJoin others k) (sym (flat_map-append (λ (g : PartAnswer). g.singles.items) kept new))
    (subst (λ (l : List Single). MayJoin others k (all_singles kept ++ l)) (sym (decided_singles outcome candidates new z)) (by_outcome (outcome_of outcome) joins))
  where
    by_outcome : (o : messages.Outcome) → (o ≡ Accept → MayJoin others k (all_singles kept ++ all_singles candidates)) → MayJoin others k (all_singles kept ++ (if is_accept o then all_singles candidates else []))
    by_outcome Accept f = f refl
    by_outcome (Busy a b t) f = subst (MayJoin others k) (sym (append-nil (all_singles kept))) j
    by_outcome SeriesLimit f = subst (MayJoin others k) (sym (append-nil (all_singles kept))) j
    by_outcome SinglesLimit f = subst (MayJoin others k) (sym (append-nil (all_singles kept))) j

-- and its series
pub answers_series_join : (others : Confirmed) (k : MeetingKey) (outcome : Outcome) (kept candidates new : List PartAnswer)
    → (outcome_of outcome ≡ Accept → SeriesMayJoin others k (all_singles kept ++ all_singles candidates) (all_series kept ++ all_series candidates))
    → AllZip (λ candidate given. IsDecided candidate outcome given) candidates new → MayJoinAll others k kept → MayJoinAll others k (kept ++ new)
answers_series_join others k outcome kept candidates new joins z j =
    subst (λ (l : List Single). SeriesMayJoin others k l (all_series (kept ++ new))) (sym (flat_map-append (λ (g : PartAnswer). g.singles.items) kept new))
    (subst (SeriesMayJoin others k (all_singles kept ++ all_singles new)) (sym (flat_map-append (λ (g : PartAnswer). option_to_list g.series) kept new))
    (subst (λ (l : List Single). SeriesMayJoin others k (all_singles kept ++ l) (all_series kept ++ all_series new)) (sym (decided_singles outcome candidates new z))
    (subst (λ (l : List Series). SeriesMayJoin others k (all_singles kept ++ (if is_accept (outcome_of outcome) then all_singles candidates else [])) (all_series kept ++ l)) (sym (decided_series outcome candidates new z))
    (by_outcome (outcome_of outcome) joins))))
  where
    alone : SeriesMayJoin others k (all_singles kept ++ []) (all_series kept ++ [])
    alone = subst (λ (l : List Single). SeriesMayJoin others k l (all_series kept ++ [])) (sym (append-nil (all_singles kept))) (subst (SeriesMayJoin others k (all_singles kept)) (sym (append-nil (all_series kept))) j)

    by_outcome : (o : messages.Outcome) → (o ≡ Accept → SeriesMayJoin others k (all_singles kept ++ all_singles candidates) (all_series kept ++ all_series candidates))
        → SeriesMayJoin others k (all_singles kept ++ (if is_accept o then all_singles candidates else [])) (all_series kept ++ (if is_accept o then all_series candidates else []))
    by_outcome Accept f = f refl
    by_outcome (Busy a b t) f = alone
    by_outcome SeriesLimit f = alone
    by_outcome SinglesLimit f = alone

-- ---- a message that isn't addressed to the room

none_wanted : (adds : Bool) → (adds && false) ≡ false
none_wanted true = refl
none_wanted false = refl

-- it is a step that changes nothing
pub none_steps : (room : List ℕ) (entries : List (MeetingKey × Meeting)) (book : Book) (moment : ℤ) (kind : Kind) (reply : Option (List ℕ)) (adds : Bool) (refresh : Option (List ℕ)) → Represents entries book → kind ≡ NotAddressed → reply ≡ None
    → refresh ≡ None → StepsWith room entries book [] moment kind reply adds refresh
none_steps room entries book moment kind reply adds refresh st kind_is reply_is refresh_is = record {
  steps = record {
    outcome = Accept;
    after = book;
    step = record {
      taken = sym (append-nil book.taken);
      answers = sym (append-nil book.answers);
      decided = λ some. absurd (true≢false (sym some));
    };
    represents = st;
    kind_is = kind_is;
  };
  replies = subst (Replies room book []) (sym reply_is) refl;
  refreshes = subst (Refreshes room adds book.taken book.taken [] moment) (sym refresh_is) (none_wanted adds);
}
