-- What a meeting's answers confirm is what the answers of its book do.
-- Behind answers_stay of laws, Room::certificate_text of room, Room::put of room, Room::settled of room, Room::take_claims of room, Room::taken_by of room and 1 more.
use Rattle.std.proofs.Common.{◌≡◌, List, [], ◌∷◌, ◌++◌, refl, sym, ap, ◌∙◌, subst}
use Rattle.std.specs.Option.{option_to_list}
use Rattle.std.specs.List.{AllZip, filter, flat_map}
use Rattle.profile.specs.checker.Instances.{Instance}
use Rattle.std.proofs.lemmas.Bool.{and_parts}
use Rattle.std.proofs.lemmas.Grind.{flat_map-append}
use Rattle.std.proofs.lemmas.List.{map-append}
use Rattle.std.proofs.lemmas.List.Elements.{filter-append}
use Rattle.profile.specs.rooms.Revisions.{Part, in_view}
use Rattle.profile.specs.rooms.Rooms.{PartAnswer as SaidAnswer, Recurring, is_accept, is_confirmed, left_of, recurring_in, singles_confirmed, series_confirmed}
use Rattle.room_books.specs.declared.meeting.MeetingKey.{MeetingKey}
use Rattle.room_books.specs.declared.meeting.PartAnswer.{PartAnswer}
use Rattle.room_books.specs.Meeting.{keyed_instance, instance_list, all_singles, all_series, series_of, series_list}
use Rattle.room_books.specs.Slots.{Reordered}
use Rattle.room_books.specs.Room.{AreGiven, AreSameSeries, HasAnswer, answers_in_view}
use Rattle.room_books.proofs.shared_lemmas.Partition.{given_by}
use Rattle.room_books.proofs.shared_lemmas.Reordering.{re_back, re_filter, re_flat, re_in, re_length}
use Rattle.room_books.proofs.shared_lemmas.Same.{AreSame}
use Rattle.room_books.proofs.shared_lemmas.SameSeries.{series_none, series_append, series_turn}
use Rattle.room_books.proofs.change_lemmas.Own.{filter_within}

module _ {X : Type 0} (f : SaidAnswer → List X) (t : List Part) where
  -- those to parts in the view give all that there is
  pub view_gives : (xs : List SaidAnswer) → given_by f t (answers_in_view t xs) ≡ given_by f t xs
  view_gives xs = ap (flat_map f) (filter_within (is_confirmed t) (λ a. in_view t a.claim.part) xs (λ a c h. (and_parts (is_accept a.outcome) (in_view t a.claim.part) h).1))

  -- some, and after them others
  pub given_append : (xs ys : List SaidAnswer) → given_by f t (xs ++ ys) ≡ given_by f t xs ++ given_by f t ys
  given_append xs ys = ap (flat_map f) (filter-append (is_confirmed t) xs ys) ∙ flat_map-append f (filter (is_confirmed t) xs) (filter (is_confirmed t) ys)

  -- in another order they give the same
  pub gives_reordered : (xs ys : List SaidAnswer) → Reordered xs ys → AreSame (given_by f t xs) (given_by f t ys)
  gives_reordered xs ys r = same_reordered (given_by f t xs) (given_by f t ys) (re_flat f (filter (is_confirmed t) xs) (filter (is_confirmed t) ys) (re_filter (is_confirmed t) xs ys r))
    where
      same_reordered : (xs ys : List X) → Reordered xs ys → AreSame xs ys
      same_reordered xs ys r = record { to = re_in xs ys r; from = re_in ys xs (re_back xs ys r); long = re_length xs ys r }

-- ---- singles

-- answer by answer
pub given_confirms : (key : MeetingKey) (t : List Part) (xs : List SaidAnswer) (given : List PartAnswer) → AllZip (HasAnswer key t) xs given → singles_confirmed t xs ≡ instance_list key (all_singles given)
given_confirms key t [] [] z = refl
given_confirms key t [] (g ∷ gs) z = absurd z
given_confirms key t (a ∷ xs) [] z = absurd z
given_confirms key t (a ∷ xs) (g ∷ gs) z =
    let first = z.0.confirms in
    let rest = given_confirms key t xs gs z.1 in
    given_append (left_of t) t (a ∷ []) xs ∙ (λ i. sym first i ++ rest i) ∙ sym (map-append (keyed_instance key) g.singles.items (all_singles gs))

pub zip_confirms : (key : MeetingKey) (t : List Part) (answers : List SaidAnswer) (given : List PartAnswer) → AreGiven key t (answers_in_view t answers) given → AreSame (singles_confirmed t answers) (instance_list key (all_singles given))
zip_confirms key t answers given are =
    subst (λ (l : List Instance). AreSame l (instance_list key (all_singles given))) (view_gives (left_of t) t answers)
    (subst (AreSame (singles_confirmed t (answers_in_view t answers))) (given_confirms key t are.order given are.each) (gives_reordered (left_of t) t (answers_in_view t answers) are.order are.same))

-- ---- series

pub given_recurs : (key : MeetingKey) (t : List Part) (xs : List SaidAnswer) (given : List PartAnswer) → AllZip (HasAnswer key t) xs given → AreSameSeries t (series_confirmed t xs) (series_list key (all_series given))
given_recurs key t [] [] z = series_none t
given_recurs key t [] (g ∷ gs) z = absurd z
given_recurs key t (a ∷ xs) [] z = absurd z
given_recurs key t (a ∷ xs) (g ∷ gs) z =
    subst (λ (l : List Recurring). AreSameSeries t l (series_list key (all_series (g ∷ gs)))) (sym (given_append recurring_in t (a ∷ []) xs))
    (subst (AreSameSeries t (series_confirmed t (a ∷ []) ++ series_confirmed t xs)) (sym (map-append (series_of key) (option_to_list g.series) (all_series gs)))
    (series_append t (series_confirmed t (a ∷ [])) (series_list key (option_to_list g.series)) (series_confirmed t xs) (series_list key (all_series gs)) z.0.recurs (given_recurs key t xs gs z.1)))

pub zip_recurs : (key : MeetingKey) (t : List Part) (answers : List SaidAnswer) (given : List PartAnswer) → AreGiven key t (answers_in_view t answers) given → AreSameSeries t (series_confirmed t answers) (series_list key (all_series given))
zip_recurs key t answers given are =
    subst (λ (l : List Recurring). AreSameSeries t l (series_list key (all_series given))) (view_gives recurring_in t answers)
    (series_turn t (series_confirmed t (answers_in_view t answers)) (series_confirmed t are.order) (series_list key (all_series given)) (gives_reordered recurring_in t (answers_in_view t answers) are.order are.same)
    (given_recurs key t are.order given are.each))
