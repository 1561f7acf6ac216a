-- What is written for the objects of a stream is the answers to each, one behind the other.
use Rattle.std.proofs.Common.{◌≡◌, ◌∙◌, ℕ, ℤ, ◌+◌, List, [], ◌∷◌, ◌++◌, map, refl, sym, ap, subst}
use Rattle.std.specs.Prelude.{sum}
use Rattle.std.specs.List.{flat_map}
use Rattle.std.proofs.lemmas.List.Sums.{sum_by-cons}
use Rattle.profile.specs.streams.Divisions.{Answer, AnswersEach, AreOneByOne, told_from}
use Rattle.profile.specs.streams.Streams.{AllAnswers, Answers, Box}

abbrev pub written_in : List Answer → List ℕ
written_in = flat_map (λ answer. answer.octets)

abbrev pub refusals_in : List Answer → ℕ
refusals_in answers = sum (map (λ answer. answer.refused) answers)

more_refusals : (answer : Answer) (answers : List Answer) → refusals_in (answer ∷ answers) ≡ answer.refused + refusals_in answers
more_refusals answer answers = sum_by-cons (λ (n : ℕ). n) answer.refused (map (λ (a : Answer). a.refused) answers)

pub to_each : (moment : ℤ) (k : ℕ) (objects : List (List ℕ)) (before after : Box) (octets : List ℕ) (refused : ℕ)
    → AllAnswers moment k objects before after octets refused
    → (answers : List Answer) × AnswersEach (told_from moment k objects) before after answers × (octets ≡ written_in answers) × (refused ≡ refusals_in answers)
to_each moment k [] before after octets refused (same, none, zero_refused) = ([], (same, refl), none, zero_refused)
to_each moment k (object ∷ objects) before after octets refused (mid, first, rest, one, others, octets_are, refused_is, answer, all) =
    let (answers, each, rest_is, others_are) = to_each moment (k + 1) objects mid after rest others all in
    let own : Answer = record { before = before; after = mid; octets = first; refused = one } in (
      own ∷ answers,
      (own, answers, refl, refl, answer, each),
      octets_are ∙ ap (λ l. first ++ l) rest_is,
      refused_is ∙ ap (λ n. one + n) others_are ∙ sym (more_refusals own answers),
    )

pub from_each : (moment : ℤ) (k : ℕ) (objects : List (List ℕ)) (before after : Box) (octets : List ℕ) (refused : ℕ)
    → (answers : List Answer) → AnswersEach (told_from moment k objects) before after answers → octets ≡ written_in answers → refused ≡ refusals_in answers
    → AllAnswers moment k objects before after octets refused
from_each moment k [] before after octets refused answers (same, none) written counted =
    (same, written ∙ ap written_in none, counted ∙ ap refusals_in none)
from_each moment k (object ∷ objects) before after octets refused answers (first, others, are, starts, answer, each) written counted = (
  first.after,
  first.octets,
  written_in others,
  first.refused,
  refusals_in others,
  written ∙ ap written_in are,
  counted ∙ ap refusals_in are ∙ more_refusals first others,
  subst (λ (b : Box). Answers moment k object b first.after first.octets first.refused) starts answer,
  from_each moment (k + 1) objects first.after after (written_in others) (refusals_in others) others each refl refl,
)

pub one_by_one : AreOneByOne
one_by_one moment k objects before after octets refused = (
  to_each moment k objects before after octets refused,
  λ given. from_each moment k objects before after octets refused given.0 given.1 given.2 given.3,
)
