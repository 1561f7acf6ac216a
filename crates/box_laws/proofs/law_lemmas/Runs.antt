-- Objects one after another: whatever several boxes do with them, one box that keeps all their books may do that together. Behind
-- several_act_as_one.
use Rattle.std.proofs.Common.{◌≡◌, ◌∙◌, ℕ, ◌<◌, suc, zero, List, [], ◌∷◌, length, map, get_or, refl, sym, ap, subst, arith}
use Rattle.std.specs.Prelude.{All}
use Rattle.std.proofs.lemmas.List.Elements.{All-map, All-weaker}
use Rattle.profile.specs.streams.Divisions.{Answer, AnswersEach, IsDoneByOne, IsJoined, IsServed, KeepsAll, Served, Told}
use Rattle.profile.specs.streams.Streams.{Box}
use Rattle.box_laws.proofs.law_lemmas.Lists.{chosen, mapped_alike, map_map}
use Rattle.box_laws.proofs.law_lemmas.OrganiserSteps.{afters, befores}
use Rattle.box_laws.proofs.law_lemmas.OneStep.{IsAnswer, Joins, Laws, joins}

-- what one box does with the first object, and then with the others
record Going : Type 0 where
  whole : Served
  first : Answer
  later : Served

record IsGoing (told : Told) (rest : List Told) (box : Going) : Type 0 where
  answers : box.whole.answers ≡ box.first ∷ box.later.answers
  before : box.first.before ≡ box.whole.before
  may : IsAnswer told box.first
  between : box.later.before ≡ box.first.after
  after : box.later.after ≡ box.whole.after
  serves : IsServed rest box.later

going : (told : Told) (rest : List Told) (box : Served) → IsServed (told ∷ rest) box → (g : Going) × (g.whole ≡ box) × IsGoing told rest g
going told rest box (first, others, are, before, may, each) =
    let later : Served = record { before = first.after; after = box.after; answers = others } in (
      record { whole = box; first = first; later = later },
      refl,
      record { answers = are; before = before; may = may; between = refl; after = refl; serves = each },
    )

abbrev firsts : List Going → List Answer
firsts = map (λ box. box.first)

abbrev laters : List Going → List Served
laters = map (λ box. box.later)

abbrev wholes : List Going → List Served
wholes = map (λ box. box.whole)

-- what holds of the first objects and of the others, read off from what holds of each box
module _ (told : Told) (rest : List Told) (all : List Going) (each : All (IsGoing told rest) all) where
  alike : {X : Type 0} (f g : Going → X) → ((box : Going) → IsGoing told rest box → f box ≡ g box) → map f all ≡ map g all
  alike {X} f g same = mapped_alike f g all (All-weaker (IsGoing told rest) (λ box. f box ≡ g box) same all each)

  first_answers : All (IsAnswer told) (firsts all)
  first_answers = All-map (IsAnswer told) (λ (box : Going). box.first) all (All-weaker (IsGoing told rest) (λ box. IsAnswer told box.first) (λ box g. g.may) all each)

  later_serve : All (IsServed rest) (laters all)
  later_serve = All-map (IsServed rest) (λ (box : Going). box.later) all (All-weaker (IsGoing told rest) (λ box. IsServed rest box.later) (λ box g. g.serves) all each)

  first_befores : map (λ box. box.before) (wholes all) ≡ befores (firsts all)
  first_befores =
      map_map (λ (box : Served). box.before) (λ (box : Going). box.whole) all
      ∙ alike (λ box. box.whole.before) (λ box. box.first.before) (λ box g. sym g.before)
      ∙ sym (map_map (λ (answer : Answer). answer.before) (λ (box : Going). box.first) all)

  later_befores : afters (firsts all) ≡ map (λ box. box.before) (laters all)
  later_befores =
      map_map (λ (answer : Answer). answer.after) (λ (box : Going). box.first) all
      ∙ alike (λ box. box.first.after) (λ box. box.later.before) (λ box g. sym g.between)
      ∙ sym (map_map (λ (box : Served). box.before) (λ (box : Going). box.later) all)

  later_afters : map (λ box. box.after) (laters all) ≡ map (λ box. box.after) (wholes all)
  later_afters =
      map_map (λ (box : Served). box.after) (λ (box : Going). box.later) all
      ∙ alike (λ box. box.later.after) (λ box. box.whole.after) (λ box g. g.after)
      ∙ sym (map_map (λ (box : Served). box.after) (λ (box : Going). box.whole) all)

  answers_at_first : (d : Answer) → firsts all ≡ map (λ box. get_or box.answers 0 d) (wholes all)
  answers_at_first d =
      alike (λ box. box.first) (λ box. get_or box.whole.answers 0 d) (λ box g. sym (ap (λ l. get_or l 0 d) g.answers))
      ∙ sym (map_map (λ (box : Served). get_or box.answers 0 d) (λ (box : Going). box.whole) all)

  answers_later : (i : ℕ) (d : Answer) → map (λ box. get_or box.answers i d) (laters all) ≡ map (λ box. get_or box.answers (suc i) d) (wholes all)
  answers_later i d =
      map_map (λ (box : Served). get_or box.answers i d) (λ (box : Going). box.later) all
      ∙ alike (λ box. get_or box.later.answers i d) (λ box. get_or box.whole.answers (suc i) d) (λ box g. sym (ap (λ l. get_or l (suc i) d) g.answers))
      ∙ sym (map_map (λ (box : Served). get_or box.answers (suc i) d) (λ (box : Going). box.whole) all)

  joined_at : (whole : Box) (j : Joins told (firsts all) whole) (one : Served) → IsDoneByOne rest (laters all) one
      → (i : ℕ) (t : Told) (d : Answer) → i < length (told ∷ rest)
      → IsJoined (get_or (told ∷ rest) i t) (map (λ box. get_or box.answers i d) (wholes all)) (get_or (j.one ∷ one.answers) i d)
  joined_at whole j one done zero t d bound = subst (λ (l : List Answer). IsJoined told l j.one) (answers_at_first d) j.joined
  joined_at whole j one done (suc i) t d bound =
      subst (λ (l : List Answer). IsJoined (get_or rest i t) l (get_or one.answers i d)) (answers_later i d) (done.joined i t d (omega (arith, bound)))

  -- one step, and then all others
  stepped : (whole : Box) (j : Joins told (firsts all) whole) (one : Served) → one.before ≡ j.one.after → IsDoneByOne rest (laters all) one
      → (first : Served) × (first.before ≡ whole) × IsDoneByOne (told ∷ rest) (wholes all) first
  stepped whole j one same done =
      let first : Served = record { before = whole; after = one.after; answers = j.one ∷ one.answers } in (
        first,
        refl,
        record {
          served = (j.one, one.answers, refl, j.before, j.may, subst (λ (b : Box). AnswersEach rest b one.after one.answers) same done.served);
          keeps = subst (λ (l : List Box). KeepsAll l one.after) later_afters done.keeps;
          joined = joined_at whole j one done;
        },
      )

module _ (laws : Laws) where
  pub act_as_one : (objects : List Told) (several : List Served) (whole : Box) → All (IsServed objects) several
      → KeepsAll (map (λ box. box.before) several) whole → (one : Served) × (one.before ≡ whole) × IsDoneByOne objects several one
  act_as_one [] several whole h keeps =
      let same = mapped_alike (λ (box : Served). box.after) (λ box. box.before) several (λ k d bound. (h k d bound).0) in (
        record { before = whole; after = whole; answers = [] },
        refl,
        record {
          served = (refl, refl);
          keeps = subst (λ (l : List Box). KeepsAll l whole) (sym same) keeps;
          joined = λ i t d bound. absurd (omega (arith, bound));
        },
      )
  act_as_one (told ∷ rest) several whole h keeps =
      let (all, are, each) = chosen (λ (g : Going). g.whole) (IsGoing told rest) several (λ k d bound. going told rest _ (h k d bound)) in
      let before = sym (ap (map (λ (box : Served). box.before)) are) ∙ first_befores told rest all each in
      let j = joins laws told (firsts all) whole (first_answers told rest all each) (subst (λ (l : List Box). KeepsAll l whole) before keeps) in
      let (one, same, done) = act_as_one rest (laters all) j.one.after (later_serve told rest all each)
      (subst (λ (l : List Box). KeepsAll l j.one.after) (later_befores told rest all each) j.keeps) in
      subst (λ (l : List Served). (first : Served) × (first.before ≡ whole) × IsDoneByOne (told ∷ rest) l first) are
      (stepped told rest all each whole j one same done)
