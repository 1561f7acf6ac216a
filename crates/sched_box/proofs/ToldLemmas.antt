-- What became of the objects so far, and who was told of it.
use Rattle.std.proofs.Common.{◌≡◌, ◌≤◌, ◌+◌, ◌∷◌, ◌++◌, ◌∙◌, ℕ, ℤ, Bool, true, false, if◌then◌else◌, List, [], length, inl, inr, refl, sym, ap, subst, arith}
use Rattle.std.proofs.lemmas.List.{append_assoc, append-nil}
use Rattle.profile.specs.events.Messages.{Message, SpellsMessage, is_to_rooms}
use Rattle.profile.specs.streams.Reports.{Fate, Refused, Unreached, Stale, Repeated, CancelsNothing, Taken, AllAnswersAs, AllTold, AnswersAs, Becomes, refusals}
use Rattle.profile.specs.streams.Streams.{Box, IsRefusedWith, Steps, refused_line}

pub at_most_one : (fate : Fate) → refusals fate ≤ 1
at_most_one (Refused n) = omega arith
at_most_one Unreached = omega arith
at_most_one Stale = omega arith
at_most_one Repeated = omega arith
at_most_one CancelsNothing = omega arith
at_most_one Taken = omega arith

-- ---- one object

none_refused : (moment : ℤ) (message : Message) (before after : Box) (fate : Fate) (to_rooms : Bool) → Becomes to_rooms moment message before after fate → refusals fate ≡ 0
none_refused moment message before after fate true (kinds, all, inl is) = ap refusals is.1
none_refused moment message before after fate true (kinds, all, inr is) = ap refusals is.1 ∙ never _ _ _
  where
    never : (a b c : Bool) → refusals (if a then Taken else (if b then Repeated else (if c then Stale else Unreached))) ≡ 0
    never true b c = refl
    never false true c = refl
    never false false true = refl
    never false false false = refl
none_refused moment message before after fate false is = ap refusals is

pub as_taken : (moment : ℤ) (k : ℕ) (object : List ℕ) (before after : Box) (octets : List ℕ) (fate : Fate) (said : Message) → SpellsMessage object said → Steps moment said before after octets
    → Becomes (is_to_rooms said.method) moment said before after fate → AnswersAs moment k object before after octets fate
as_taken moment k object before after octets fate said spells steps became =
    (inl (said, spells, steps, none_refused moment said before after fate (is_to_rooms said.method) became), inl (said, spells, became))

pub as_refused : (moment : ℤ) (k : ℕ) (object : List ℕ) (box : Box) (octets : List ℕ) (n : ℕ) → IsRefusedWith box n object → octets ≡ refused_line k n → AnswersAs moment k object box box octets (Refused n)
as_refused moment k object box octets n refuses line = (inr (n, refuses, refl, line, refl), inr (n, refuses, refl))

-- ---- one more object

pub as_more : (moment : ℤ) (k : ℕ) (objects : List (List ℕ)) (object : List ℕ) (before mid after : Box) (octets more : List ℕ) (fates : List Fate) (fate : Fate)
    → AllAnswersAs moment k objects before mid octets fates → AnswersAs moment (k + length objects) object mid after more fate
    → AllAnswersAs moment k (objects ++ object ∷ []) before after (octets ++ more) (fates ++ fate ∷ [])
as_more moment k [] object before mid after octets more fates fate (same, none, nothing) a =
    let P : Box → Type 0 = λ box. AnswersAs moment k object box after more fate in
    let Q : ℕ → Type 0 = λ n. AnswersAs moment n object mid after more fate in
    let here : k + 0 ≡ k = omega arith in
    (after, more, [], fate, [], ap (λ z. z ++ more) none ∙ sym (append-nil more), ap (λ z. z ++ fate ∷ []) nothing, subst P same (subst Q here a), (refl, refl, refl))
as_more moment k (o ∷ os) object before mid after octets more fates fate (box, first, rest, this, others, is, are, one, those) answer =
    let Q : ℕ → Type 0 = λ n. AnswersAs moment n object mid after more fate in
    let place : k + length (o ∷ os) ≡ k + 1 + length os = omega arith in
    (box, first, rest ++ more, this, others ++ fate ∷ [], ap (λ z. z ++ more) is ∙ append_assoc first rest more, ap (λ z. z ++ fate ∷ []) are, one, as_more moment (k + 1) os object box mid after rest more others fate those (subst Q place answer))

pub told_more : {Told : Type 0} (Tells : Told → ℕ → List ℕ → Fate → Told → Type 0) (old mid new : Told) (k n : ℕ) (objects : List (List ℕ)) (object : List ℕ) (fates : List Fate) (fate : Fate)
    → AllTold Tells old k objects fates mid → n ≡ k + length objects → Tells mid n object fate new → AllTold Tells old k (objects ++ object ∷ []) (fates ++ fate ∷ []) new
told_more Tells old mid new k n [] object [] fate same is one =
    let here : n ≡ k = omega arith in
    (new, subst (λ z. Tells z k object fate new) same (subst (λ z. Tells mid z object fate new) here one), refl)
told_more Tells old mid new k n [] object (first ∷ fates) fate told is one = absurd told
told_more Tells old mid new k n (o ∷ os) object [] fate told is one = absurd told
told_more Tells old mid new k n (o ∷ os) object (first ∷ fates) fate (next, told, more) is one =
    let there : n ≡ k + 1 + length os = omega arith in
    (next, told, told_more Tells next mid new (k + 1) n os object fates fate more there one)
