-- Where the octets of an object lead, and what follows it.
use Rattle.std.proofs.Common.{◌≡◌, inl, ℕ, zero, suc, ◌+◌, ◌-◌, ◌<◌, ◌≤◌, min, Bool, true, false, cond, nat_lt, List, [], ◌∷◌, ◌++◌, length, take, drop, get_or, Option, Some, None, IfSome, OnSome, refl, sym, ap, subst, ◌∙◌, arith, length-drop, length-take, length-take-le, take-take, true≢false, get_or-take}
use Rattle.std.proofs.Math.Seq.{take-add}
use Rattle.std.proofs.lemmas.Bool.Decides.{nat_tests}
use Rattle.std.proofs.lemmas.List.{append-nil, append_assoc, drop_more, take_more}
use Rattle.std.specs.Io.KnownBytes.{Consumes, IsAtEnd}
use Rattle.profile.specs.text.Objects.{is_begun, after_object}
use Rattle.ical_lines.specs.Cut.{ChangeNothing, rest_after, begun_after, ends_before, step, fresh}
use Rattle.ical_lines.specs.declared.object_end.Cutter.{Cutter}
use Rattle.ical_lines.proofs.CutLemmas.{cutter_ends}
use Rattle.ical_lines.proofs.BegunLemmas.{cutter_begins}
use Rattle.sched_box.specs.declared.fault.ServeFault.{ServeFault}
use Rattle.sched_box.specs.declared.fault.ServeFault.TheVariants.{Read, Write, TooLong, Memory}
use Rattle.sched_box.specs.declared.objects.Objects.{Objects}
use Rattle.sched_box.specs.declared.objects.Piece.{Piece}
use Rattle.sched_box.specs.declared.objects.Piece.TheVariants.{Ended, Goes, End}
use Rattle.std.specs.Io.KnownBytes.{prepend_known}
use Rattle.std.proofs.KnownBytes.{starts_with_rest}
use Rattle.sched_devices.specs.Input.{MayFollow}
use Rattle.sched_box.specs.Objects.{kept_of, Cuts, IsPieceEnd, IsPieceFault, LeavesMore, LendsNext, LendsNothing, piece_of, TakesNextObject, IsStop, StopsReading}

-- ---- leading on

nil_left : (xs ys : List ℕ) → xs ++ ys ≡ [] → xs ≡ []
nil_left [] ys e = refl
nil_left (x ∷ xs) ys e = absurd (cc)

nil_right : (xs ys : List ℕ) → xs ++ ys ≡ [] → ys ≡ []
nil_right [] ys e = e
nil_right (x ∷ xs) ys e = absurd (cc)

pub cuts_trans : (a b c : Cutter) (xs ys : List ℕ) → Cuts a xs b → Cuts b ys c → Cuts a (xs ++ ys) c
cuts_trans a b c xs ys l m = record {
  rest = λ more. ap (rest_after a) (append_assoc xs ys more) ∙ l.rest (ys ++ more) ∙ m.rest more;
  begun = λ more. ap (begun_after a) (append_assoc xs ys more) ∙ l.begun (ys ++ more) ∙ m.begun more;
  none = λ e. m.none (nil_right xs ys e) ∙ l.none (nil_left xs ys e);
}

pub cuts_step : (c : Cutter) (x : ℕ) → ends_before c x ≡ false → Cuts c (x ∷ []) (step c x)
cuts_step c x goes = record {
  rest = λ more. ap (λ b. cond b (x ∷ more) (rest_after (step c x) more)) goes;
  begun = λ more. ap (λ b. cond b true (begun_after (step c x) more)) goes;
  none = λ e. absurd (cc);
}

-- one more octet, as `feed` says it
pub cuts_more : (a b c : Cutter) (lent : List ℕ) (i : ℕ) → i < length lent → Cuts a (take i lent) b → ends_before b (get_or lent i 0) ≡ false
    → c ≡ cond (ends_before b (get_or lent i 0)) b (step b (get_or lent i 0)) → Cuts a (take (i + 1) lent) c
cuts_more a b c lent i l cuts goes is =
    let x = get_or lent i 0 in
    let P : Cutter → Type 0 = Cuts b (x ∷ []) in
    let Q : List ℕ → Type 0 = λ z. Cuts a z c in
    subst Q (sym (take_more lent i 0 l)) (cuts_trans a b c (take i lent) (x ∷ []) cuts (subst P (sym (is ∙ ap (λ t. cond t b (step b x)) goes)) (cuts_step b x goes)))

-- octets that need not be fed, after those that were
pub cuts_on : (a b : Cutter) (lent : List ℕ) (i n : ℕ) → Cuts a (take i lent) b → ChangeNothing b (take n (drop i lent)) → Cuts a (take (i + n) lent) b
cuts_on a b lent i n cuts same =
    let idle : Cuts b (take n (drop i lent)) b = record { rest = same.rest; begun = same.begun; none = λ e. refl } in
    subst (λ z. Cuts a z b) (sym (take-add i n lent)) (cuts_trans a b b (take i lent) (take n (drop i lent)) cuts idle)

cond_short : (b : Bool) (y : ℕ) (ys zs : List ℕ) → length zs ≤ length ys → length (cond b (y ∷ ys) zs) ≤ length (y ∷ ys)
cond_short true y ys zs h = omega arith
cond_short false y ys zs h = omega arith

rest_short : (c : Cutter) (ys : List ℕ) → length (rest_after c ys) ≤ length ys
rest_short c [] = omega arith
rest_short c (y ∷ ys) = cond_short (ends_before c y) y ys (rest_after (step c y) ys) (rest_short (step c y) ys)

pub after_short : (octets : List ℕ) → length (after_object octets) ≤ length octets
after_short octets =
    let same : length (rest_after fresh octets) ≡ length (after_object octets) = ap length (cutter_ends octets) in
    let short = rest_short fresh octets in
    omega arith

ends_rest : (c : Cutter) (x : ℕ) (more : List ℕ) → ends_before c x ≡ true → rest_after c (x ∷ more) ≡ x ∷ more
ends_rest c x more e = ap (λ b. cond b (x ∷ more) (rest_after (step c x) more)) e

ends_begun : (c : Cutter) (x : ℕ) (more : List ℕ) → ends_before c x ≡ true → begun_after c (x ∷ more) ≡ true
ends_begun c x more e = ap (λ b. cond b true (begun_after (step c x) more)) e

-- ---- what is kept

pub kept_more : (k : ℕ) (old new taken more : List ℕ) → old ≡ take k taken → new ≡ old ++ take (k - length old) more → new ≡ take k (taken ++ more)
kept_more k old new taken more is e = e ∙ ap (λ z. z ++ take (k - length z) more) is ∙ sym (front k taken more)
  where
    front : (k : ℕ) (xs ys : List ℕ) → take k (xs ++ ys) ≡ take k xs ++ take (k - length (take k xs)) ys
    front zero xs ys = refl
    front (suc k) [] ys = let none : suc k ≡ suc k - 0 = omega arith in ap (λ n. take n ys) none
    front (suc k) (x ∷ xs) ys =
        let less : k - length (take k xs) ≡ suc k - suc (length (take k xs)) = omega arith in
        ap (λ z. x ∷ z) (front k xs ys) ∙ ap (λ n. x ∷ (take k xs ++ take n ys)) less

-- ---- a piece

-- the octet that a reader lent after those that were taken is lent still
pub piece_end : (lent rest : List ℕ) (has_ended : Bool) (most count left : ℕ) (ended : Bool) (cutter : Cutter) → most ≡ min (length lent) left → 0 < left
    → count ≤ length (take most lent) → (ended ≡ true → count < length (take most lent)) → (ended ≡ true → ends_before cutter (get_or (take most lent) count 0) ≡ true)
    → (ended ≡ false → count ≡ length (take most lent)) → rest ≡ drop count lent → (length lent ≡ 0 → has_ended ≡ true)
    → IsPieceEnd rest has_ended cutter (take count (take most lent)) (piece_of count ended)
piece_end lent rest has_ended most count left true cutter most_is some within before ends all rest_is end =
    let l = before refl in
    let long : length (take most lent) ≡ most = length-take-le most lent (omega arith) in
    let same : get_or (take most lent) count 0 ≡ get_or lent count 0 = get_or-take most lent count 0 (omega arith) in
    (get_or lent count 0, drop (count + 1) lent, rest_is ∙ drop_more lent count 0 (omega arith), ap (ends_before cutter) (sym same) ∙ ends refl)
piece_end lent rest has_ended most count left false cutter most_is some within before ends all rest_is end = at (nat_lt 0 count) refl
  where
    P : Bool → Type 0
    P b = IsPieceEnd rest has_ended cutter (take count (take most lent)) (cond b Goes End)

    nothing : (n m : ℕ) → 0 < m → min n m ≡ 0 → n ≡ 0
    nothing n m h e = omega arith

    none_of : (xs : List ℕ) → length xs ≡ 0 → xs ≡ []
    none_of [] e = refl
    none_of (x ∷ xs) e = absurd (omega arith)

    at : (b : Bool) → nat_lt 0 count ≡ b → P b
    at true e =
        let h : 0 < count = grind (arith, nat_tests) in
        let long = length-take-le count (take most lent) within in
        omega arith
    at false e =
        let h : count ≡ 0 = grind (arith, nat_tests) in
        let long : length (take most lent) ≡ most = length-take-le most lent (omega arith) in
        let same = all refl in
        let none : length lent ≡ 0 = nothing (length lent) left some (sym most_is ∙ sym long ∙ sym same ∙ h) in
        (rest_is ∙ none_of (drop count lent) (omega (arith, length-drop count lent)), end none)

pub same_piece : (lent : List ℕ) (most count : ℕ) → count ≤ length (take most lent) → take count (take most lent) ≡ take count lent
same_piece lent most count within = take-take count most lent (omega (arith, length-take most lent))

pub left_over : (lent : List ℕ) (most count left : ℕ) → most ≡ min (length lent) left → count ≤ length (take most lent) → left - count + length (take count (take most lent)) ≡ left
left_over lent most count left is within =
    let long = length-take-le count (take most lent) within in
    omega (arith, length-take most lent)

-- ---- what may follow

-- the object ends before an octet that comes next
abbrev pub EndsBeforeNext : Option (List ℕ) → Option (List ℕ) → Cutter → Type 0
EndsBeforeNext old new cutter = (next : ℕ) × (ends_before cutter next ≡ true) × IfSome old (λ _. IfSome new (λ rest. (more : List ℕ) × (rest ≡ next ∷ more)))

-- the octet that is lent comes next, whatever follows
pub ends_next : (taken part lent : List ℕ) (has_ended : Bool) (cutter : Cutter) (left : Option (List ℕ)) → IfSome left (MayFollow lent has_ended) → IsPieceEnd lent has_ended cutter part Ended
    → EndsBeforeNext (prepend_known taken left) left cutter
ends_next taken part lent has_ended cutter None follows (next, more, is, ends) = (next, ends, tt)
ends_next taken part lent has_ended cutter (Some xs) follows (next, more, is, ends) =
    (next, ends, (more ++ drop (length lent) xs, starts_with_rest xs lent follows.begins ∙ ap (λ z. z ++ drop (length lent) xs) is))

-- nothing follows where the input has ended and nothing is lent
pub nothing_next : (taken lent : List ℕ) (has_ended : Bool) (left : Option (List ℕ)) → IfSome left (MayFollow lent has_ended) → LendsNothing lent has_ended → OnSome (prepend_known taken left) (IsAtEnd left)
nothing_next taken lent has_ended None follows none = tt
nothing_next taken lent has_ended (Some xs) follows none = follows.ends none.1 ∙ none.0

pub lends_next : (lent : List ℕ) (has_ended : Bool) (cutter : Cutter) (taken : List ℕ) → IsPieceEnd lent has_ended cutter taken Ended → LendsNext lent has_ended
lends_next lent has_ended cutter taken (next, more, is, ends) = inl (subst (λ (z : List ℕ). 0 < length z) (sym is) (omega arith))

pub piece_stops : (f : ServeFault) (left : ℕ) → IsPieceFault f → 0 < left → IsStop f left
piece_stops Read left h some = some
piece_stops Write left h some = h
piece_stops TooLong left h some = absurd h
piece_stops Memory left h some = some

pub leaves_more : (lent : List ℕ) (most count left : ℕ) (ended : Bool) → most ≡ min (length lent) left → 0 < left → count ≤ length (take most lent)
    → (ended ≡ true → count < length (take most lent)) → LeavesMore (piece_of count ended) (left - count)
leaves_more lent most count left true most_is some within before =
    let l = before refl in
    let long : length (take most lent) ≡ most = length-take-le most lent (omega arith) in
    omega arith
leaves_more lent most count left false most_is some within before = at (nat_lt 0 count) refl
  where
    at : (b : Bool) → nat_lt 0 count ≡ b → LeavesMore (cond b Goes End) (left - count)
    at true e = tt
    at false e = let none : count ≡ 0 = grind (arith, nat_tests) in omega arith

-- what a piece that goes on takes
pub goes_some : (lent : List ℕ) (has_ended : Bool) (cutter : Cutter) (taken : List ℕ) (piece : Piece) → piece ≡ Goes → IsPieceEnd lent has_ended cutter taken piece → 0 < length taken
goes_some lent has_ended cutter taken piece is ends = subst (IsPieceEnd lent has_ended cutter taken) is ends

-- ---- an object

module _ (a b : Option (List ℕ)) (taken : List ℕ) (cutter : Cutter) (consumed : Consumes a b taken) (cuts : Cuts fresh taken cutter) where
  after_is : (rest : List ℕ) → after_object (taken ++ rest) ≡ rest_after cutter rest
  after_is rest = sym (cutter_ends (taken ++ rest)) ∙ cuts.rest rest

  begun_is : (rest : List ℕ) → is_begun (taken ++ rest) ≡ begun_after cutter rest
  begun_is rest = sym (cutter_begins (taken ++ rest)) ∙ cuts.begun rest

  fresh_not : cutter.begun ≡ true → taken ≡ [] → ⊥
  fresh_not e none = true≢false (sym e ∙ ap (λ c. c.begun) (cuts.none none))

  not_nil : (taken ≡ [] → ⊥) → 0 < length taken
  not_nil h = at taken h
    where
      at : (xs : List ℕ) → (xs ≡ [] → ⊥) → 0 < length xs
      at [] h = absurd (h refl)
      at (x ∷ xs) h = omega arith

  -- the object ended before an octet
  pub whole_object : (kept : List ℕ) → kept ≡ kept_of taken → EndsBeforeNext a b cutter → TakesNextObject a b kept true taken
  whole_object kept kept_is (next, ends, comes) = record {
    consumed = consumed;
    kept_is = kept_is;
    begun = begins a b consumed comes;
    rest = rests a b consumed comes;
    end = λ e. absurd (true≢false e);
    some = λ e. not_nil (λ none. true≢false (sym ends ∙ ap (λ c. ends_before c next) (cuts.none none)));
  }
    where
      begins : (a b : Option (List ℕ)) → Consumes a b taken → IfSome a (λ _. IfSome b (λ rest. (more : List ℕ) × (rest ≡ next ∷ more))) → IfSome a (λ octets. is_begun octets ≡ true)
      begins None b h n = tt
      begins (Some xs) None h n = absurd h
      begins (Some xs) (Some ys) h (more, is) = ap is_begun h ∙ begun_is ys ∙ ap (begun_after cutter) is ∙ ends_begun cutter next more ends

      rests : (a b : Option (List ℕ)) → Consumes a b taken → IfSome a (λ _. IfSome b (λ rest. (more : List ℕ) × (rest ≡ next ∷ more))) → IfSome a (λ octets. IfSome b (λ rest. rest ≡ after_object octets))
      rests None b h n = tt
      rests (Some xs) None h n = absurd h
      rests (Some xs) (Some ys) h (more, is) = is ∙ sym (ends_rest cutter next more ends) ∙ sym (ap (rest_after cutter) is) ∙ sym (after_is ys) ∙ sym (ap after_object h)

  -- the input ended
  pub last_object : (kept : List ℕ) (found : Bool) → kept ≡ kept_of taken → OnSome a (IsAtEnd b) → found ≡ cutter.begun → TakesNextObject a b kept found taken
  last_object kept found kept_is end found_is = record {
    consumed = consumed;
    kept_is = kept_is;
    begun = begins a b consumed end;
    rest = rests a b consumed end;
    end = λ e. end;
    some = λ e. not_nil (fresh_not (sym found_is ∙ e));
  }
    where
      begins : (a b : Option (List ℕ)) → Consumes a b taken → OnSome a (IsAtEnd b) → IfSome a (λ octets. is_begun octets ≡ found)
      begins None b h e = tt
      begins (Some xs) None h e = absurd h
      begins (Some xs) (Some ys) h e = ap is_begun h ∙ begun_is ys ∙ ap (begun_after cutter) e ∙ sym found_is

      rests : (a b : Option (List ℕ)) → Consumes a b taken → OnSome a (IsAtEnd b) → IfSome a (λ octets. IfSome b (λ rest. rest ≡ after_object octets))
      rests None b h e = tt
      rests (Some xs) None h e = absurd h
      rests (Some xs) (Some ys) h e = e ∙ sym (ap (rest_after cutter) e) ∙ sym (after_is ys) ∙ sym (ap after_object h)

  within_object : (a b : Option (List ℕ)) → Consumes a b taken → IfSome a (λ octets. IfSome b (λ rest. length (after_object octets) ≤ length rest))
  within_object None b h = tt
  within_object (Some xs) None h = absurd h
  within_object (Some xs) (Some ys) h =
      let e : length (after_object xs) ≡ length (rest_after cutter ys) = ap length (ap after_object h ∙ after_is ys) in
      let k = rest_short cutter ys in
      omega arith

  pub stops_in : (before after : Objects) (fault : ServeFault) → after.left + length taken ≡ before.left → IsStop fault after.left → StopsReading a b before after fault
  stops_in before after fault left stop = record { taken = taken; consumed = consumed; within = within_object a b consumed; goes_on = ap after_object (sym (append-nil taken)) ∙ after_is []; left = left; stop = stop }
