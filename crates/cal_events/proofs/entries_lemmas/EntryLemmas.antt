-- The names of a calendar's VEVENTs: the one at a place, and one more at the end.
-- Cited by Entries::key_at, Entries::len, Entries::owned_key_at, Entries::push, Entries::recurrence.
use Rattle.std.proofs.Common.{◌≡◌, ◌∙◌, ℕ, zero, suc, ◌<◌, List, [], ◌∷◌, ◌++◌, length, get_or, refl, sym, ap, arith}
use Rattle.std.specs.Prelude.{All, ℤ}
use Rattle.std.proofs.lemmas.List.{get_or_append_left}
use Rattle.std.proofs.lemmas.List.Elements.{All-tail}
use Rattle.cal_events.specs.Entries.{Name, name_of, names_of}
use Rattle.cal_events.specs.Names.{name_at, meeting_at}
use Rattle.cal_events.specs.Calendar.{key_in}
use Rattle.cal_events.specs.declared.entries.ComponentName.{ComponentName}

abbrev pub Within : List (List ℕ) → List ComponentName → Type 0
Within organisers entries = All (λ x. x.organiser < length organisers) entries

pub count : (os us : List (List ℕ)) (es : List ComponentName) → length us ≡ length es → length (names_of os us es) ≡ length es
count os us [] h = refl
count os [] (e ∷ es) h = absurd (omega (arith, h))
count os (u ∷ us) (e ∷ es) h = ap suc (count os us es (omega (arith, h)))

pub named_at : (os us : List (List ℕ)) (es : List ComponentName) (k : ℕ) (e : ComponentName) → length us ≡ length es → k < length es → name_at (names_of os us es) k ≡ name_of os (get_or us k []) (get_or es k e)
named_at os us [] k e h w = absurd (omega (arith, w))
named_at os [] (x ∷ es) k e h w = absurd (omega (arith, h))
named_at os (u ∷ us) (x ∷ es) zero e h w = refl
named_at os (u ∷ us) (x ∷ es) (suc k) e h w = named_at os us es k e (omega (arith, h)) (omega (arith, w))

-- organisers that are added at the end change nothing
pub more_organisers : (os more us : List (List ℕ)) (es : List ComponentName) → Within os es → names_of (os ++ more) us es ≡ names_of os us es
more_organisers os more us [] h = refl
more_organisers os more [] (e ∷ es) h = refl
more_organisers os more (u ∷ us) (e ∷ es) h =
    let l : e.organiser < length os = h 0 e (omega arith) in
    let first : get_or (os ++ more) e.organiser [] ≡ get_or os e.organiser [] = get_or_append_left os more [] e.organiser l in
    let rest = more_organisers os more us es (All-tail (λ x. x.organiser < length os) e es h) in
    λ i. ((first i, u), e.recurrence) ∷ rest i

pub one_more : (os us : List (List ℕ)) (es : List ComponentName) (u : List ℕ) (e : ComponentName) → length us ≡ length es
    → names_of os (us ++ u ∷ []) (es ++ e ∷ []) ≡ names_of os us es ++ name_of os u e ∷ []
one_more os [] [] u e h = refl
one_more os [] (x ∷ es) u e h = absurd (omega (arith, h))
one_more os (v ∷ us) [] u e h = absurd (omega (arith, h))
one_more os (v ∷ us) (x ∷ es) u e h = ap (λ l. name_of os v x ∷ l) (one_more os us es u e (omega (arith, h)))

pub pushed : (os more us : List (List ℕ)) (es : List ComponentName) (organiser u : List ℕ) (e : ComponentName) → Within os es → length us ≡ length es → get_or (os ++ more) e.organiser [] ≡ organiser
    → names_of (os ++ more) (us ++ u ∷ []) (es ++ e ∷ []) ≡ names_of os us es ++ ((organiser, u), e.recurrence) ∷ []
pushed os more us es organiser u e w h is =
    one_more (os ++ more) us es u e h ∙ ap (λ l. l ++ name_of (os ++ more) u e ∷ []) (more_organisers os more us es w)
    ∙ ap (λ (o : List ℕ). names_of os us es ++ ((o, u), e.recurrence) ∷ []) is

-- ---- what is at a place

module _ (os us : List (List ℕ)) (es : List ComponentName) (names : List Name) (view : names_of os us es ≡ names) (same : length us ≡ length es) (k : ℕ) (w : k < length names) where
  pub entry_in : k < length es
  entry_in = let n = count os us es same in let m = ap length view in omega (arith, w, n, m)

  pub uid_in : k < length us
  uid_in = let l = entry_in in omega (arith, l, same)

  pub name_there : (e : ComponentName) → e ≡ get_or es k e → name_at names k ≡ name_of os (get_or us k []) e
  name_there e is = ap (λ l. name_at l k) (sym view) ∙ named_at os us es k e same entry_in ∙ ap (name_of os (get_or us k [])) (sym is)

  pub key_there : (organiser uid : List ℕ) (t slot : ℤ) (e : ComponentName) → e ≡ get_or es k e → organiser ≡ get_or os e.organiser [] → uid ≡ get_or us k [] → t ≡ slot
      → key_in (organiser, uid) t ≡ key_in (meeting_at names k) slot
  key_there organiser uid t slot e is o u s =
      ap (λ (x : List ℕ). key_in (x, uid) t) o ∙ ap (λ (x : List ℕ). key_in (get_or os e.organiser [], x) t) u ∙ ap (key_in (get_or os e.organiser [], get_or us k [])) s
      ∙ ap (λ (n : Name). key_in n.0 slot) (sym (name_there e is))
