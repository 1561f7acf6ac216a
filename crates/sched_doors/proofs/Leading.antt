-- Where the octets of an object lead.
use Rattle.std.proofs.Common.{◌≡◌, ℕ, ◌+◌, ◌<◌, Bool, true, false, not, ◌&&◌, cond, eqb, List, [], ◌∷◌, ◌++◌, take, drop, get_or, length, refl, sym, ap, subst, ◌∙◌}
use Rattle.std.proofs.Math.Seq.{take-add}
use Rattle.std.proofs.lemmas.Bool.{true≢false}
use Rattle.std.proofs.lemmas.List.{append_assoc, take_more}
use Rattle.ical_lines.specs.Cut.{ChangeNothing, added, after_line, after_return, at_place, at_start, begun_after, ends_before, ends_from, is_blank, is_whole, next_seen, rest_after, step, step_from}
use Rattle.ical_lines.specs.declared.object_end.Cutter.{Cutter}
use Rattle.ical_lines.specs.declared.object_end.CutPlace.{CutPlace}
use Rattle.ical_lines.specs.declared.object_end.CutPlace.TheVariants.{Mark, Line, Return, Break}
use Rattle.ical_lines.specs.declared.object_end.Seen.{Seen}
use Rattle.ical_lines.specs.declared.object_end.Seen.TheVariants.{First, Other}
use Rattle.sched_doors.specs.Pieces.{IsEmpty, IsFront, LeadsOn}

-- ---- leading on

nil_left : (xs ys : List ℕ) → xs ++ ys ≡ [] → xs ≡ []
nil_left [] ys e = refl
nil_left (x ∷ xs) ys e = absurd (cc)

nil_right : (xs ys : List ℕ) → xs ++ ys ≡ [] → ys ≡ []
nil_right [] ys e = e
nil_right (x ∷ xs) ys e = absurd (cc)

pub leads_nowhere : (c : Cutter) → LeadsOn c [] c
leads_nowhere c = record { rest = λ more. refl; begun = λ more. refl; none = λ e. refl }

pub leads_trans : (a b c : Cutter) (xs ys : List ℕ) → LeadsOn a xs b → LeadsOn b ys c → LeadsOn a (xs ++ ys) c
leads_trans a b c xs ys l m = record {
  rest = λ more. ap (rest_after a) (append_assoc xs ys more) ∙ l.rest (ys ++ more) ∙ m.rest more;
  begun = λ more. ap (begun_after a) (append_assoc xs ys more) ∙ l.begun (ys ++ more) ∙ m.begun more;
  none = λ e. m.none (nil_right xs ys e) ∙ l.none (nil_left xs ys e);
}

leads_step : (c : Cutter) (x : ℕ) → ends_before c x ≡ false → LeadsOn c (x ∷ []) (step c x)
leads_step c x goes = record {
  rest = λ more. ap (λ b. cond b (x ∷ more) (rest_after (step c x) more)) goes;
  begun = λ more. ap (λ b. cond b true (begun_after (step c x) more)) goes;
  none = λ e. absurd (cc);
}

pub fed : (b c : Cutter) (x : ℕ) → ends_before b x ≡ false → c ≡ cond (ends_before b x) b (step b x) → c ≡ step b x
fed b c x goes is = is ∙ ap (λ t. cond t b (step b x)) goes

-- one more octet, as `feed` says it
pub leads_more : (a b c : Cutter) (lent : List ℕ) (i : ℕ) → i < length lent → LeadsOn a (take i lent) b → ends_before b (get_or lent i 0) ≡ false
    → c ≡ cond (ends_before b (get_or lent i 0)) b (step b (get_or lent i 0)) → LeadsOn a (take (i + 1) lent) c
leads_more a b c lent i l leads goes is =
    let x = get_or lent i 0 in
    subst (λ z. LeadsOn a z c) (sym (take_more lent i 0 l))
    (leads_trans a b c (take i lent) (x ∷ []) leads (subst (LeadsOn b (x ∷ [])) (sym (fed b c x goes is)) (leads_step b x goes)))

-- octets that need not be fed, after those that were
pub leads_idle : (a b : Cutter) (lent : List ℕ) (i n : ℕ) → LeadsOn a (take i lent) b → ChangeNothing b (take n (drop i lent)) → LeadsOn a (take (i + n) lent) b
leads_idle a b lent i n leads same =
    let idle : LeadsOn b (take n (drop i lent)) b = record { rest = same.rest; begun = same.begun; none = λ e. refl } in
    subst (λ z. LeadsOn a z b) (sym (take-add i n lent)) (leads_trans a b b (take i lent) (take n (drop i lent)) leads idle)

-- ---- before the end

and_false : (t u : Bool) → u ≡ false → (t && u) ≡ false
and_false true u e = e
and_false false u e = refl

ends_not : (p : CutPlace) (c : Cutter) (x : ℕ) → is_whole c.seen ≡ false → ends_from p c x ≡ false
ends_not (Mark k) c x h = refl
ends_not Line c x h = refl
ends_not Return c x h = refl
ends_not Break c x h = and_false (not (is_blank x)) (is_whole c.seen) h

-- an object that hasn't ended goes on with any octet
pub goes_on : (c : Cutter) (x : ℕ) → is_whole c.seen ≡ false → ends_before c x ≡ false
goes_on c x h = ends_not c.place c x h

pub ends_not_yet : (c : Cutter) (x : ℕ) → is_whole c.seen ≡ false → ends_before c x ≡ true → ⊥
ends_not_yet c x h e = true≢false (sym e ∙ goes_on c x h)

-- ---- the front of an object

pub empty_goes_on : (c : Cutter) → IsEmpty c → is_whole c.seen ≡ false
empty_goes_on c e = ap is_whole e.start

pub empty_is_front : (c : Cutter) → IsEmpty c → IsFront c
empty_is_front c e = record { goes_on = empty_goes_on c e; empty = λ none. e.start }

front_cond : (t : Bool) (x y : Cutter) → IsFront x → IsFront y → IsFront (cond t x y)
front_cond true x y h k = h
front_cond false x y h k = k

front_place : (p : CutPlace) (c : Cutter) → IsEmpty c → IsFront (at_place p c)
front_place p c e = record { goes_on = empty_goes_on c e; empty = λ none. e.start }

one_seen : (t : Bool) → is_whole (cond t (First 1) Other) ≡ false
one_seen true = refl
one_seen false = refl

front_added : (p : CutPlace) (c : Cutter) (x : ℕ) → IsEmpty c → IsFront (at_place p (added c x))
front_added p c x e = record {
  goes_on = ap (λ s. is_whole (next_seen s x)) e.start ∙ one_seen _;
  empty = λ none. absurd (true≢false none);
}

front_line : (c : Cutter) (x : ℕ) → IsEmpty c → IsFront (after_line c x)
front_line c x e = front_cond (eqb x 10) _ _ (front_place Break c e) (front_cond (eqb x 13) _ _ (front_place Return c e) (front_added Line c x e))

-- a line that is something else
record IsOther (c : Cutter) : Type 0 where
  seen : c.seen ≡ Other
  begun : c.begun ≡ true

front_other : (p : CutPlace) (c : Cutter) → IsOther c → IsFront (at_place p c)
front_other p c o = record { goes_on = ap is_whole o.seen; empty = λ none. absurd (true≢false (sym o.begun ∙ none)) }

other_added : (c : Cutter) (x : ℕ) → IsOther c → IsOther (added c x)
other_added c x o = record { seen = ap (λ s. next_seen s x) o.seen; begun = refl }

front_other_line : (c : Cutter) (x : ℕ) → IsOther c → IsFront (after_line c x)
front_other_line c x o =
    front_cond (eqb x 10) _ _ (front_other Break c o) (front_cond (eqb x 13) _ _ (front_other Return c o) (front_other Line (added c x) (other_added c x o)))

front_return : (c : Cutter) (x : ℕ) → IsEmpty c → IsFront (after_return c x)
front_return c x e =
    let o : IsOther (added c 13) = record { seen = ap (λ s. next_seen s 13) e.start; begun = refl } in
    front_cond (eqb x 10) _ _ (front_line c x e) (front_other_line (added c 13) x o)

start_empty : (c : Cutter) → IsEmpty c → IsEmpty (at_start c)
start_empty c e = record { nothing = e.nothing; start = refl }

front_from : (p : CutPlace) (c : Cutter) (x : ℕ) → IsEmpty c → IsFront (step_from p c x)
front_from (Mark k) c x e =
    front_cond (eqb k 0 && eqb x 0xEF) _ _ (front_added (Mark 1) c x e)
    (front_cond (eqb k 1 && eqb x 0xBB) _ _ (front_added (Mark 2) c x e)
    (front_cond (eqb k 2 && eqb x 0xBF) _ _ (front_place Line (at_start c) (start_empty c e)) (front_line c x e)))
front_from Line c x e = front_line c x e
front_from Return c x e = front_return c x e
front_from Break c x e = front_cond (is_blank x) _ _ (front_place Line c e) (front_line (at_start c) x (start_empty c e))

-- behind empty lines one more octet comes, as `feed` says it
pub front_more : (b c : Cutter) (x : ℕ) → IsEmpty b → c ≡ cond (ends_before b x) b (step b x) → IsFront c
front_more b c x e is = subst IsFront (sym (fed b c x (goes_on b x (empty_goes_on b e)) is)) (front_from b.place b x e)

pub still_empty : (c : Cutter) → IsFront c → c.begun ≡ false → IsEmpty c
still_empty c f none = record { nothing = none; start = f.empty none }
