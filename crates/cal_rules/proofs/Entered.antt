-- Lists of entries, read one after another.
use Rattle.std.proofs.Common.{◌≡◌, ◌≢◌, ◌∙◌, inl, inr, ap, sym, refl, subst, Option, Some, None, Result, Ok, Err, IfOk, IfSome, IfNone, ℕ, zero, suc, ◌+◌, ◌<◌, ◌≤◌, Bool, true, ◌==◌, List, [], ◌∷◌, ◌++◌, length, map, slice_index_or, append_assoc, append-nil, length-append, arith}
use denote.Ref.{Bor}
use Rattle.std.specs.Fn.{Shared, FnReturnsAt}
use Rattle.std.specs.List.{AllZip, Contains, list_all, slice_split}
use Rattle.std.proofs.lemmas.List.{length-map, map-id}
use Rattle.std.proofs.lemmas.List.Elements.{Contains-append_right}
use Rattle.profile.specs.series.RuleTexts.{SpellsList, SpellsNone}
use Rattle.cal_rules.specs.Lists.{IsNoList}

push_zip : {A : Type 0} (Is : List ℕ → A → Type 0) (vs : List (List ℕ)) (xs : List A) (v : List ℕ) (x : A) → AllZip Is vs xs → Is v x → AllZip Is (vs ++ v ∷ []) (xs ++ x ∷ [])
push_zip Is [] [] v x h is = (is, tt)
push_zip Is [] (y ∷ xs) v x h is = absurd h
push_zip Is (w ∷ vs) [] v x h is = absurd h
push_zip Is (w ∷ vs) (y ∷ xs) v x h is = (h.0, push_zip Is vs xs v x h.1 is)

-- the entries so far, at most 366, and those that are left, are all
pub record EntriesRead {A : Type 0} (Is : List ℕ → A → Type 0) (all left : List (List ℕ)) (xs : List A) : Type 0 where
  pub done : List (List ℕ)
  pub parted : all ≡ done ++ left
  pub read : AllZip Is done xs
  pub short : length xs ≤ 366

pub none_yet : {A : Type 0} (Is : List ℕ → A → Type 0) (all left : List (List ℕ)) → left ≡ all → EntriesRead Is all left []
none_yet Is all left e = record { done = []; parted = sym e; read = tt; short = omega arith }

pub one_more : {A : Type 0} (Is : List ℕ → A → Type 0) (all left rest : List (List ℕ)) (entry : List ℕ) (old new : List A) (x : A) → EntriesRead Is all left old → left ≡ entry ∷ rest → length old ≢ 366 → new ≡ old ++ x ∷ [] → Is entry x → EntriesRead Is all rest new
one_more Is all left rest entry old new x r s some n is = record {
  done = r.done ++ entry ∷ [];
  parted = r.parted ∙ ap (λ l. r.done ++ l) s ∙ sym (append_assoc r.done (entry ∷ []) rest);
  read = subst (AllZip Is (r.done ++ entry ∷ [])) (sym n) (push_zip Is r.done old entry x r.read is);
  short = let more : length new ≡ length old + 1 = ap length n ∙ length-append old (x ∷ []) in omega (arith, r.short, some);
}

-- the entry that comes is one of all
pub is_there_in : {A : Type 0} (Is : List ℕ → A → Type 0) (all left rest : List (List ℕ)) (entry : List ℕ) (old : List A) → EntriesRead Is all left old → left ≡ entry ∷ rest → Contains all entry
is_there_in Is all left rest entry old r s =
    rw (r.parted ∙ ap (λ l. r.done ++ l) s) (Contains-append_right r.done (entry ∷ rest) entry (0, omega arith, refl))

all_done : {A : Type 0} (Is : List ℕ → A → Type 0) (all left : List (List ℕ)) (xs : List A) → EntriesRead Is all left xs → left ≡ [] → AllZip Is all xs
all_done Is all left xs r e =
    let same : all ≡ r.done = r.parted ∙ ap (λ l. r.done ++ l) e ∙ append-nil r.done in rw same r.read

-- no entry is left
pub list_read : {A : Type 0} (Is : List ℕ → A → Type 0) (all left : List (List ℕ)) (xs : List A) → EntriesRead Is all left xs → left ≡ [] → AllZip Is all xs × (length xs ≤ 366)
list_read Is all left xs r e = (all_done Is all left xs r e, r.short)

zip_length : {A : Type 0} (Is : List ℕ → A → Type 0) (vs : List (List ℕ)) (xs : List A) → AllZip Is vs xs → length xs ≡ length vs
zip_length Is [] [] h = refl
zip_length Is [] (x ∷ xs) h = absurd h
zip_length Is (v ∷ vs) [] h = absurd h
zip_length Is (v ∷ vs) (x ∷ xs) h = ap suc (zip_length Is vs xs h.1)

-- one more entry makes them too many
pub too_many : {A : Type 0} (Is : List ℕ → A → Type 0) (all left rest : List (List ℕ)) (entry : List ℕ) (old : List A) → EntriesRead Is all left old → left ≡ entry ∷ rest → length old ≡ 366 → 366 < length all
too_many Is all left rest entry old r s full =
    let parted : all ≡ r.done ++ entry ∷ rest = r.parted ∙ ap (λ l. r.done ++ l) s in
    let long : length all ≡ length r.done + suc (length rest) = ap length parted ∙ length-append r.done (entry ∷ rest) in
    let here = zip_length Is r.done old r.read in
    omega (arith, long, here, full)

-- ---- lists that a call of a function reads, value by value

zip_as : {A B : Type 0} (Is : List ℕ → A → Type 0) (Spells : List ℕ → B → Type 0) (view : A → B) → ((v : List ℕ) (x : A) → Is v x → Spells v (view x)) → (vs : List (List ℕ)) (xs : List A) → AllZip Is vs xs → AllZip Spells vs (map view xs)
zip_as Is Spells view spell [] [] h = tt
zip_as Is Spells view spell [] (x ∷ xs) h = absurd h
zip_as Is Spells view spell (v ∷ vs) [] h = absurd h
zip_as Is Spells view spell (v ∷ vs) (x ∷ xs) h = (spell v x h.0, zip_as Is Spells view spell vs xs h.1)

zip_none : {A : Type 0} (Is : List ℕ → A → Type 0) (vs : List (List ℕ)) (xs : List A) (v : List ℕ) (k : ℕ) → k < length vs → slice_index_or vs k v ≡ v → ((x : A) → Is v x → ⊥) → AllZip Is vs xs → ⊥
zip_none Is [] xs v k l e none h = absurd (omega (arith, l))
zip_none Is (w ∷ vs) [] v k l e none h = h
zip_none Is (w ∷ vs) (x ∷ xs) v zero l e none h = none x (subst (λ u. Is u x) e h.0)
zip_none Is (w ∷ vs) (x ∷ xs) v (suc k) l e none h = zip_none Is vs xs v k (omega (arith, l)) e none h.1

module _ {F A B : Type 0} (g : Shared F (Bor (List ℕ) × Unit {0}) (Option A)) (f : F) (Spells : List ℕ → B → Type 0) (view : A → B) where
  -- what the function reads is what the values spell
  pub list_viewed : (text : List ℕ) (xs : List A) → SpellsList (λ v x. FnReturnsAt g f v (Some x)) text xs → ((v : Bor (List ℕ)) (x : A) → g.post f (v, tt) (Some x) → Spells v.now (view x)) → SpellsList Spells text (map view xs)
  list_viewed text xs h spell =
      (zip_as (λ v x. FnReturnsAt g f v (Some x)) Spells view (λ v x at. subst (λ t. Spells t (view x)) at.shows (spell at.shown x at.says.met)) (slice_split (λ c. c == 44) text) xs h.0, rw (length-map xs view) h.1)

  -- a value that it takes for none spells none; or they are too many
  pub list_none : (text : List ℕ) → IsNoList (λ v. FnReturnsAt g f v None) text → ((v : Bor (List ℕ)) → g.post f (v, tt) None → SpellsNone Spells v.now) → SpellsNone (SpellsList Spells) text
  list_none text (inl h) none xs s =
      zip_none Spells (slice_split (λ c. c == 44) text) xs h.0 h.1.0 h.1.1 h.1.2 (subst (SpellsNone Spells) h.2.shows (none h.2.shown h.2.says.met)) s.0
  list_none text (inr long) none xs s = omega (arith, long, zip_length Spells (slice_split (λ c. c == 44) text) xs s.0, s.1)

pub list_spelled : {F A : Type 0} (g : Shared F (Bor (List ℕ) × Unit {0}) (Option A)) (f : F) (Spells : List ℕ → A → Type 0) (text : List ℕ) (xs : List A) → SpellsList (λ v x. FnReturnsAt g f v (Some x)) text xs → ((v : Bor (List ℕ)) (x : A) → g.post f (v, tt) (Some x) → Spells v.now x) → SpellsList Spells text xs
list_spelled g f Spells text xs h spell = subst (λ ys. SpellsList Spells text ys) (map-id xs) (list_viewed g f Spells (λ x. x) text xs h spell)

-- what is in an answer
pub ok_some : {V E : Type 0} {P Q : V → Type 0} (r : Result (Option V) E) → ((v : V) → P v → Q v) → IfOk r (λ o. IfSome o P) → IfOk r (λ o. IfSome o Q)
ok_some (Ok (Some v)) f h = f v h
ok_some (Ok None) f h = tt
ok_some (Err e) f h = tt

pub ok_none : {V E P Q : Type 0} (r : Result (Option V) E) → (P → Q) → IfOk r (λ o. IfNone o P) → IfOk r (λ o. IfNone o Q)
ok_none (Ok (Some v)) f h = tt
ok_none (Ok None) f h = f h
ok_none (Err e) f h = tt

pub zip_same : {A : Type 0} (Is : List ℕ → A → Type 0) → ((v : List ℕ) (x y : A) → Is v x → Is v y → x ≡ y) → (vs : List (List ℕ)) (xs ys : List A) → AllZip Is vs xs → AllZip Is vs ys → xs ≡ ys
zip_same Is one [] [] [] h g = refl
zip_same Is one [] [] (y ∷ ys) h g = absurd g
zip_same Is one [] (x ∷ xs) ys h g = absurd h
zip_same Is one (v ∷ vs) [] ys h g = absurd h
zip_same Is one (v ∷ vs) (x ∷ xs) [] h g = absurd g
zip_same Is one (v ∷ vs) (x ∷ xs) (y ∷ ys) h g = rw (one v x y h.0 g.0, zip_same Is one vs xs ys h.1 g.1) refl

pub zip_all : {A : Type 0} (Is : List ℕ → A → Type 0) (test : A → Bool) → ((v : List ℕ) (x : A) → Is v x → test x ≡ true) → (vs : List (List ℕ)) (xs : List A) → AllZip Is vs xs → list_all test xs ≡ true
zip_all Is test passes [] [] h = refl
zip_all Is test passes [] (x ∷ xs) h = absurd h
zip_all Is test passes (v ∷ vs) [] h = absurd h
zip_all Is test passes (v ∷ vs) (x ∷ xs) h = rw (passes v x h.0, zip_all Is test passes vs xs h.1) refl
