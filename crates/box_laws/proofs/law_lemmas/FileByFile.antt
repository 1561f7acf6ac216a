-- What is written for the files of an inbox is the answers to each of their objects, one behind the other.
use Rattle.std.proofs.Common.{◌≡◌, ◌∙◌, ℕ, false, List, [], ◌∷◌, ◌++◌, refl, sym, ap, subst}
use Rattle.std.specs.List.{flat_map}
use Rattle.std.proofs.lemmas.Bool.{true≢false}
use Rattle.std.proofs.lemmas.List.{append_cancel_right}
use Rattle.std.proofs.lemmas.List.Concat.{flat_map-append}
use Rattle.profile.specs.text.Objects.{after_object, is_begun}
use Rattle.profile.specs.streams.Divisions.{Answer, AnswersEach, AreTold, FilesAreOneByOne, Told, told_from}
use Rattle.profile.specs.streams.Folders.{AnswersFile, AnswersFiles, File, MessageFile, outbox_name}
use Rattle.profile.specs.streams.Streams.{AreObjects, BeginsWith, Box}
use Rattle.box_laws.proofs.law_lemmas.OneByOne.{from_each, refusals_in, to_each, written_in}

-- a stream has one list of objects
one_list : (objects others : List (List ℕ)) (stream rest left : List ℕ) → BeginsWith stream objects rest → is_begun rest ≡ false
    → BeginsWith stream others left → is_begun left ≡ false → objects ≡ others
one_list [] [] stream rest left b e c f = refl
one_list [] (other ∷ others) stream rest left b e (begun, _, _) f = absurd (true≢false (sym begun ∙ ap is_begun (sym b) ∙ e))
one_list (object ∷ objects) [] stream rest left (begun, _, _) e c f = absurd (true≢false (sym begun ∙ ap is_begun (sym c) ∙ f))
one_list (object ∷ objects) (other ∷ others) stream rest left (_, is, more) e (_, are, others_more) f =
    ap (λ o. o ∷ objects) (append_cancel_right object other (after_object stream) (sym is ∙ are))
    ∙ ap (λ l. other ∷ l) (one_list objects others (after_object stream) rest left more e others_more f)

one_objects : (stream : List ℕ) (objects others : List (List ℕ)) → AreObjects stream objects → AreObjects stream others → objects ≡ others
one_objects stream objects others a b = one_list objects others stream a.0 b.0 a.1 a.2 b.1 b.2

-- objects behind others
joined_each : (told rest : List Told) (before mid after : Box) (answers others : List Answer) → AnswersEach told before mid answers → AnswersEach rest mid after others
    → AnswersEach (told ++ rest) before after (answers ++ others)
joined_each [] rest before mid after answers others (same, none) more =
    subst (λ (l : List Answer). AnswersEach rest before after (l ++ others)) (sym none) (subst (λ (b : Box). AnswersEach rest b after others) same more)
joined_each (t ∷ told) rest before mid after answers others (first, later, are, starts, answer, each) more =
    (first, later ++ others, ap (λ l. l ++ others) are, starts, answer, joined_each told rest first.after mid after later others each more)

record Parted (told rest : List Told) (before after : Box) (answers : List Answer) : Type 0 where
  mid : Box
  first : List Answer
  others : List Answer
  are : answers ≡ first ++ others
  each : AnswersEach told before mid first
  later : AnswersEach rest mid after others

parted_each : (told rest : List Told) (before after : Box) (answers : List Answer) → AnswersEach (told ++ rest) before after answers → Parted told rest before after answers
parted_each [] rest before after answers each = record { mid = before; first = []; others = answers; are = refl; each = (refl, refl); later = each }
parted_each (t ∷ told) rest before after answers (first, later, are, starts, answer, each) =
    let p = parted_each told rest first.after after later each in
    record {
      mid = p.mid;
      first = first ∷ p.first;
      others = p.others;
      are = are ∙ ap (λ l. first ∷ l) p.are;
      each = (first, p.first, refl, starts, answer, p.each);
      later = p.later;
    }

abbrev written_as : List File → List ℕ
written_as = flat_map (λ file. file.octets)

to_objects : (files : List MessageFile) (objects : List Told) → AreTold files objects → (before after : Box) (written : List File) → AnswersFiles files before after written
    → (answers : List Answer) × AnswersEach objects before after answers × (written_as written ≡ written_in answers)
to_objects [] objects none before after written (same, nothing) =
    ([], subst (λ (l : List Told). AnswersEach l before after []) (sym none) (same, refl), ap written_as nothing)
to_objects (file ∷ files) objects told before after [] all = absurd all
to_objects (file ∷ files) objects (own, rest, are, is, more) before after (answer ∷ written) (mid, first, others) =
    let same = one_objects file.octets first.objects own first.are are in
    let (answers, each, octets_are, _) = to_each file.moment 1 first.objects before mid answer.octets first.refused first.answers in
    let (later, later_each, later_are) = to_objects files rest more mid after written others in
    let own_each = subst (λ (l : List (List ℕ)). AnswersEach (told_from file.moment 1 l) before mid answers) same each in (
      answers ++ later,
      subst (λ (l : List Told). AnswersEach l before after (answers ++ later)) (sym is) (joined_each (told_from file.moment 1 own) rest before mid after answers later own_each later_each),
      ap (λ l. l ++ written_as written) octets_are ∙ ap (λ l. written_in answers ++ l) later_are ∙ sym (flat_map-append (λ (a : Answer). a.octets) answers later),
    )

from_objects : (files : List MessageFile) (objects : List Told) → AreTold files objects → (before after : Box) (answers : List Answer) → AnswersEach objects before after answers
    → (written : List File) × AnswersFiles files before after written × (written_as written ≡ written_in answers)
from_objects [] objects none before after answers each =
    let (same, nothing) = subst (λ (l : List Told). AnswersEach l before after answers) none each in
    ([], (same, refl), sym (ap written_in nothing))
from_objects (file ∷ files) objects (own, rest, are, is, more) before after answers each =
    let p = parted_each (told_from file.moment 1 own) rest before after answers (subst (λ (l : List Told). AnswersEach l before after answers) is each) in
    let (written, all, later_are) = from_objects files rest more p.mid after p.others p.later in
    let answer : File = record { name = outbox_name file; octets = written_in p.first } in
    let first : AnswersFile file before p.mid answer = record {
      objects = own;
      refused = refusals_in p.first;
      are = are;
      answers = from_each file.moment 1 own before p.mid (written_in p.first) (refusals_in p.first) p.first p.each refl refl;
      named = refl;
    } in (
      answer ∷ written,
      (p.mid, first, all),
      ap (λ l. written_in p.first ++ l) later_are ∙ sym (flat_map-append (λ (a : Answer). a.octets) p.first p.others) ∙ sym (ap written_in p.are),
    )

pub file_by_file : FilesAreOneByOne
file_by_file files objects told before after octets = (
  λ given.
      let (answers, each, are) = to_objects files objects told before after given.0 given.1 in
      (answers, each, given.2 ∙ are),
  λ given.
      let (written, all, are) = from_objects files objects told before after given.0 given.1 in
      (written, all, given.2 ∙ sym are),
)
