-- Of a meeting's answers those to the whole alone have a series.
-- Cited by count_series, push_kept.
use Rattle.std.proofs.Common.{◌≡◌, ◌∙◌, ◌≤◌, Bool, true, false, not, cond, List, [], ◌∷◌, ◌++◌, length, Option, None, Some, refl, sym, ap, arith}
use Rattle.std.specs.List.{filter}
use Rattle.std.specs.Option.{option_to_list}
use Rattle.std.proofs.lemmas.Bool.{true≢false}
use Rattle.itip_order.specs.declared.part.Slot.{Slot}
use Rattle.itip_order.specs.Parts.{slot_of}
use Rattle.profile.specs.rooms.Revisions.{Whole}
use Rattle.cal_events.specs.declared.series.Series.{Series}
use Rattle.room_books.specs.Slots.{is_at, left_without, is_touched}
use Rattle.room_books.specs.Meeting.{all_series}
use Rattle.room_books.specs.Claim.{is_of_whole}
use Rattle.room_books.specs.declared.meeting.PartAnswer.{PartAnswer}
use Rattle.room_books.proofs.shared_lemmas.AcceptedSlots.{slot_same}

-- a test that says one thing of all answers to the whole: their series pass, or none do
pub series_filter : (test : PartAnswer → Bool) (b : Bool) (answers : List PartAnswer) → ((g : PartAnswer) → is_at Whole g ≡ true → test g ≡ b) → all_series (filter test answers) ≡ cond b (all_series answers) []
series_filter test true [] says = refl
series_filter test false [] says = refl
series_filter test b (g ∷ gs) says = one b (filter test gs) g.series refl g.whole (test g) (says g) (series_filter test b gs says)
  where
    passed : (b t : Bool) (rest : List PartAnswer) → t ≡ b → all_series rest ≡ cond b (all_series gs) [] → all_series (cond t (g ∷ rest) rest) ≡ cond b (option_to_list g.series ++ all_series gs) []
    passed true true rest h r = ap (λ l. option_to_list g.series ++ l) r
    passed true false rest h r = absurd (true≢false (sym h))
    passed false true rest h r = absurd (true≢false h)
    passed false false rest h r = r

    none : (b t : Bool) (rest : List PartAnswer) → [] ≡ option_to_list g.series → all_series rest ≡ cond b (all_series gs) [] → all_series (cond t (g ∷ rest) rest) ≡ cond b (option_to_list g.series ++ all_series gs) []
    none true true rest e r = ap (λ l. option_to_list g.series ++ l) r
    none true false rest e r = r ∙ ap (λ (l : List Series). l ++ all_series gs) e
    none false true rest e r = ap (λ (l : List Series). l ++ all_series rest) (sym e) ∙ r
    none false false rest e r = r

    one : (b : Bool) (rest : List PartAnswer) (o : Option Series) → g.series ≡ o → is_of_whole o g.slot ≡ true → (t : Bool) → (is_at Whole g ≡ true → t ≡ b) → all_series rest ≡ cond b (all_series gs) []
        → all_series (cond t (g ∷ rest) rest) ≡ cond b (option_to_list g.series ++ all_series gs) []
    one b rest None e whole t says r = none b t rest (sym (ap option_to_list e)) r
    one b rest (Some s) e whole t says r = passed b t rest (says whole) r

pub whole_series : (answers : List PartAnswer) → all_series (filter (is_at Whole) answers) ≡ all_series answers
whole_series answers = series_filter (is_at Whole) true answers (λ g h. h)

-- where the answers of some slots are lost
without : (lost : List Slot) (answers : List PartAnswer) (b : Bool) → is_touched lost Whole ≡ b → all_series (left_without lost answers) ≡ cond (not b) (all_series answers) []
without lost answers b e = series_filter (λ g. not (is_touched lost (slot_of g.slot))) (not b) answers
    (λ g h. ap not (ap (is_touched lost) (slot_same (slot_of g.slot) Whole h) ∙ e))

pub series_lost : (lost : List Slot) (answers : List PartAnswer) → is_touched lost Whole ≡ true → all_series (left_without lost answers) ≡ []
series_lost lost answers e = without lost answers true e

pub series_stay : (lost : List Slot) (answers : List PartAnswer) → is_touched lost Whole ≡ false → all_series (left_without lost answers) ≡ all_series answers
series_stay lost answers e = without lost answers false e

-- an answer has one at most
pub few_series : (answers : List PartAnswer) → length (all_series answers) ≤ length answers
few_series [] = omega arith
few_series (g ∷ gs) = one g.series (few_series gs)
  where
    one : (o : Option Series) → length (all_series gs) ≤ length gs → length (option_to_list o ++ all_series gs) ≤ length (g ∷ gs)
    one None r = omega (arith, r)
    one (Some s) r = omega (arith, r)
