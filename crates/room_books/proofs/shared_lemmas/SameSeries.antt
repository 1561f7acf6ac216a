-- Series of a book, as far as other parts leave them, and series that a room keeps: as many, with the same instances.
-- Behind Meeting::take of kept, put of kept, take_out of kept, take_out_of of kept, answers_stay of laws, Room::certificate_text of room and 18 more.
use Rattle.std.proofs.Common.{◌≡◌, List, [], ◌++◌, ◌≤◌, inl, inr, refl, sym, ◌∙◌, length, arith, length-append}
use Rattle.std.specs.List.{Contains}
use Rattle.std.proofs.lemmas.List.Elements.{Contains-append_left, Contains-append_right, Contains-append_cases}
use Rattle.itip_order.proofs.Lists.{none_in_nil}
use Rattle.profile.specs.checker.Instances.{Instance}
use Rattle.profile.specs.events.Confirmed.{Confirmed, IsOneOf}
use Rattle.profile.specs.events.Events.{Event as Series}
use Rattle.profile.specs.rooms.Messages.{Outcome, Accept, Busy, SeriesLimit, SinglesLimit}
use Rattle.profile.specs.rooms.Revisions.{Part}
use Rattle.profile.specs.rooms.Rooms.{Book, Confirms, Recurring, IsShownInSeries, is_hidden, confirmed_singles, confirmed_series, most_series, most_singles, Decides}
use Rattle.room_books.specs.Room.{AreSameSeries}
use Rattle.room_books.specs.Taking.{DecidesOf}
use Rattle.room_books.proofs.shared_lemmas.Same.{AreSame}

module _ (t : List Part) where
  pub left_in : (xs ys : List Recurring) → ((r : Recurring) → Contains xs r → Contains ys r) → (b : Instance) → IsShownInSeries t xs b → IsShownInSeries t ys b
  left_in xs ys to b l = record { series = l.series; among = to l.series l.among; is = l.is; shown = l.shown }

  pub series_none : AreSameSeries t [] []
  series_none = record { long = refl; same = λ b. (λ l. absurd (none_in_nil l.series l.among), λ i. absurd (none_in_nil i.0 i.1)) }

  pub series_append : (a : List Recurring) (b : List Series) (c : List Recurring) (d : List Series) → AreSameSeries t a b → AreSameSeries t c d → AreSameSeries t (a ++ c) (b ++ d)
  series_append a b c d p q = record {
    long = let s = p.long in let u = q.long in omega (arith, length-append a c, length-append b d);
    same = λ x. (
      λ l. elim (Contains-append_cases a c l.series l.among) [
        | inl first ↦ (let i = (p.same x).0 (record { series = l.series; among = first; is = l.is; shown = l.shown }) in (i.0, Contains-append_left b d i.0 i.1, i.2))
        | inr second ↦ (let i = (q.same x).0 (record { series = l.series; among = second; is = l.is; shown = l.shown }) in (i.0, Contains-append_right b d i.0 i.1, i.2))
      ],
      λ i. elim (Contains-append_cases b d i.0 i.1) [
        | inl first ↦ left_in a (a ++ c) (Contains-append_left a c) x ((p.same x).1 (i.0, first, i.2))
        | inr second ↦ left_in c (a ++ c) (Contains-append_right a c) x ((q.same x).1 (i.0, second, i.2))
      ],
    );
  }

  pub series_turn : (xs ys : List Recurring) (zs : List Series) → AreSame xs ys → AreSameSeries t ys zs → AreSameSeries t xs zs
  series_turn xs ys zs same p = record {
    long = same.long ∙ p.long;
    same = λ b. (λ l. (p.same b).0 (left_in xs ys same.to b l), λ i. left_in ys xs same.from b ((p.same b).1 i));
  }

  pub series_then : (xs : List Recurring) (ys zs : List Series) → AreSameSeries t xs ys → AreSame ys zs → AreSameSeries t xs zs
  series_then xs ys zs p same = record {
    long = p.long ∙ same.long;
    same = λ b. (λ l. (let i = (p.same b).0 l in (i.0, same.to i.0 i.1, i.2)), λ i. (p.same b).1 (i.0, same.from i.0 i.1, i.2));
  }

-- where other parts hide the same
pub series_hidden : (t u : List Part) (xs : List Recurring) (ys : List Series) → ((r : Recurring) → Contains xs r → (b : Instance) → is_hidden t r.part b ≡ is_hidden u r.part b) → AreSameSeries t xs ys → AreSameSeries u xs ys
series_hidden t u xs ys h p = record {
  long = p.long;
  same = λ b. (
    λ l. (p.same b).0 (record { series = l.series; among = l.among; is = l.is; shown = h l.series l.among b ∙ l.shown }),
    λ i. (let l = (p.same b).1 i in record { series = l.series; among = l.among; is = l.is; shown = sym (h l.series l.among b) ∙ l.shown }),
  );
}

-- ---- a book, and what a room confirms

pub record AreAlike (book : Book) (all : Confirmed) : Type 0 where
  pub singles : AreSame (confirmed_singles book) all.singles
  pub series : AreSameSeries book.taken (confirmed_series book) all.series

module _ (book : Book) (all : Confirmed) (alike : AreAlike book all) where
  pub alike_to : (b : Instance) → Confirms book b → IsOneOf all b
  alike_to b (inl c) = inl (alike.singles.to b c)
  alike_to b (inr l) = inr ((alike.series.same b).0 l)

  pub alike_from : (b : Instance) → IsOneOf all b → Confirms book b
  alike_from b (inl c) = inl (alike.singles.from b c)
  alike_from b (inr i) = inr ((alike.series.same b).1 i)

  series_few : length all.series ≤ most_series → length (confirmed_series book) ≤ most_series
  series_few few = let l = alike.series.long in omega (arith, few, l)

  singles_few : length all.singles ≤ most_singles → length (confirmed_singles book) ≤ most_singles
  singles_few few = let l = alike.singles.long in omega (arith, few, l)

  -- what is decided of the one is decided of the other
  pub decides_alike : (o : Outcome) → DecidesOf all o → Decides book o
  decides_alike Accept d = (
    record { series = series_few d.0.series; singles = singles_few d.0.singles },
    λ a b t p q clash. d.1 a b t (alike_to a p) (alike_to b q) clash,
  )
  decides_alike (Busy first second t) d = (
    record { series = series_few d.0.series; singles = singles_few d.0.singles },
    (let n = d.1 in record { a = n.a; b = n.b; of_first = alike_from n.a n.of_first; of_second = alike_from n.b n.of_second; clash = n.clash; first_is = n.first_is; second_is = n.second_is; ordered = n.ordered; later = n.later }),
  )
  decides_alike SeriesLimit d = let l = alike.series.long in omega (arith, d, l)
  decides_alike SinglesLimit d = (series_few d.0, let l = alike.singles.long in let m = d.1 in omega (arith, m, l))
