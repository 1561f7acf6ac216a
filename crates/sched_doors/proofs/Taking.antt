-- What is taken of an input, from what it lends.
use Rattle.std.proofs.Common.{zero, suc, ◌≡◌, inl, inr, ◌≤◌, ◌<◌, ◌-◌, ◌+◌, ℕ, Bool, true, false, not, List, [], ◌∷◌, ◌++◌, take, drop, get_or, min, nat_lt, cond, length, Option, Some, None, IfSome, OnSome, ap, sym, subst, ◌∙◌, arith, refl, length-append, length-take, append_assoc, get_or-take, take-append-drop}
use Rattle.std.proofs.lemmas.Bool.Decides.{nat_tests}
use Rattle.std.proofs.lemmas.List.{append_cancel_left, drop_more, take-take, length-take-le}
use Rattle.std.proofs.KnownBytes.{Consumes-trans}
use Rattle.std.specs.Io.{StartsWith}
use Rattle.std.specs.Io.KnownBytes.{Consumes, Keeps, IsAtEnd}
use Rattle.ical_lines.specs.Cut.{ends_before, is_whole}
use Rattle.ical_lines.specs.declared.object_end.Cutter.{Cutter}
use Rattle.sched_doors.specs.Pieces.{BeginsLast, EndsBeforeNext, HasEnded, IsEndOfPiece, LeadsOn, Scans, TakesDoorPiece, TakesFront, TakesObject, TakesPreamble, may_begin_object, piece_after}
use Rattle.sched_doors.specs.declared.piece.Piece.{Piece}
use Rattle.sched_doors.specs.declared.piece.Piece.TheVariants.{Ended, Goes, End}
use Rattle.sched_doors.specs.declared.place.FrontCutter.{FrontCutter}
use Rattle.sched_doors.specs.declared.preamble.LineSoFar.{LineSoFar}
use Rattle.sched_doors.proofs.Leading.{ends_not_yet, leads_trans}

-- of what it lends octets are taken; where it lends nothing it is at its end
pub record TakesOf (a c : Option (List ℕ)) (lent : List ℕ) (count : ℕ) : Type 0 where
  pub consumed : Consumes a c (take count lent)
  pub front : IfSome a (λ octets. StartsWith octets lent)
  pub end : length lent ≡ 0 → OnSome a (IsAtEnd c)

pub taken_of : (a b c : Option (List ℕ)) (lent shown : List ℕ) (count : ℕ) → shown ≡ lent → Keeps a b → IfSome b (λ octets. StartsWith octets lent) → (length lent ≡ 0 → OnSome a (IsAtEnd b))
    → (count ≤ length lent → IfSome b (λ octets. StartsWith octets lent) → Consumes b c (take count lent)) → count ≤ length shown → TakesOf a c shown count
taken_of a b c lent shown count is kept front end consumes within =
    let P : List ℕ → Type 0 = λ l. TakesOf a c l count in
    let few : count ≤ length lent = omega (arith, within, ap length is) in
    subst P (sym is) (at a b c kept front end (consumes few front))
  where
    second : (l m : List ℕ) → l ++ m ≡ [] → m ≡ []
    second [] m e = e
    second (x ∷ l) m e = absurd (cc)

    at : (a b c : Option (List ℕ)) → Keeps a b → IfSome b (λ octets. StartsWith octets lent) → (length lent ≡ 0 → OnSome a (IsAtEnd b)) → Consumes b c (take count lent) → TakesOf a c lent count
    at None b c kept front end taken = record { consumed = tt; front = tt; end = λ none. tt }
    at (Some xs) None c kept front end taken = absurd kept
    at (Some xs) (Some ys) None kept front end taken = absurd taken
    at (Some xs) (Some ys) (Some zs) kept front end taken = record {
      consumed = sym kept ∙ taken;
      front = subst (λ (l : List ℕ). StartsWith l lent) kept front;
      end = λ none. second (take count lent) zs (sym taken ∙ end none);
    }

same_piece : (lent : List ℕ) (most count : ℕ) → count ≤ length (take most lent) → take count (take most lent) ≡ take count lent
same_piece lent most count within = take-take count most lent (omega (arith, length-take most lent))

-- a piece of at most so many octets lacks octets only where nothing is lent
none_lent : (lent : List ℕ) (most count : ℕ) → most ≡ min (length lent) 65_536 → count ≤ length (take most lent) → (0 < length (take most lent) → 0 < count)
    → length (take count (take most lent)) ≡ 0 → length lent ≡ 0
none_lent lent most count is within some none = at (length (take most lent)) refl
  where
    long : length (take count (take most lent)) ≡ count
    long = length-take-le count (take most lent) within

    at : (n : ℕ) → length (take most lent) ≡ n → length lent ≡ 0
    at zero e = omega (arith, is, e, length-take most lent)
    at (suc n) e = absurd (let s : 0 < count = some (omega (arith, e)) in omega (arith, s, none, long))

-- a piece of what is lent, which is all of it, or at least an octet
module _ (a c : Option (List ℕ)) (lent : List ℕ) (most count : ℕ) (most_is : most ≡ min (length lent) 65_536) (within : count ≤ length (take most lent)) (takes : TakesOf a c lent count) where
  abbrev part : List ℕ
  part = take count (take most lent)

  consumed_piece : Consumes a c part
  consumed_piece = subst (Consumes a c) (sym (same_piece lent most count within)) takes.consumed

  end_at_none : (0 < length (take most lent) → 0 < count) → length part ≡ 0 → OnSome a (IsAtEnd c)
  end_at_none some none = takes.end (none_lent lent most count most_is within some none)

  pub taken_preamble : (from : LineSoFar) (to : Option LineSoFar) (before after : List ℕ) → (0 < length (take most lent) → 0 < count) → after ≡ before ++ part → Scans from part to
      → TakesPreamble a c from before after to
  taken_preamble from to before after some added scans = record { taken = part; consumed = consumed_piece; added = added; scans = scans; end = end_at_none some }

  pub taken_front : (from : Cutter) (to : FrontCutter) (before after : List ℕ) → (0 < length (take most lent) → 0 < count) → after ≡ before ++ part → LeadsOn from part to.cutter
      → BeginsLast from part to.cutter → TakesFront a c from before after to
  taken_front from to before after some added leads few =
      record { taken = part; consumed = consumed_piece; added = added; leads = leads; few = few; end = end_at_none some }

  long : length part ≡ count
  long = length-take-le count (take most lent) within

  -- the octet that was lent after those that were taken comes next
  next_lent : count < length lent → IfSome a (λ _. IfSome c (λ ys. (more : List ℕ) × (ys ≡ get_or lent count 0 ∷ more)))
  next_lent l = at a c takes.front takes.consumed
    where
      whole : (xs : List ℕ) → StartsWith xs lent → xs ≡ take count lent ++ (get_or lent count 0 ∷ (drop (count + 1) lent ++ drop (length lent) xs))
      whole xs front =
          sym (take-append-drop (length lent) xs) ∙ ap (λ z. z ++ drop (length lent) xs) front
          ∙ ap (λ z. z ++ drop (length lent) xs) (sym (take-append-drop count lent) ∙ ap (λ z. take count lent ++ z) (drop_more lent count 0 l))
          ∙ append_assoc (take count lent) (get_or lent count 0 ∷ drop (count + 1) lent) (drop (length lent) xs)

      at : (a c : Option (List ℕ)) → IfSome a (λ octets. StartsWith octets lent) → Consumes a c (take count lent) → IfSome a (λ _. IfSome c (λ ys. (more : List ℕ) × (ys ≡ get_or lent count 0 ∷ more)))
      at None c front h = tt
      at (Some xs) None front h = absurd h
      at (Some xs) (Some ys) front h = (drop (count + 1) lent ++ drop (length lent) xs, append_cancel_left (take count lent) ys _ (sym h ∙ whole xs front))

  -- a piece of an object
  pub taken_piece : (from to : Cutter) (before after : List ℕ) (ended : Bool) → after ≡ before ++ part → LeadsOn from part to
      → (is_whole from.seen ≡ false → ended ≡ true → 0 < count) → (ended ≡ true → count < length (take most lent))
      → (ended ≡ true → ends_before to (get_or (take most lent) count 0) ≡ true) → (ended ≡ false → count ≡ length (take most lent))
      → TakesDoorPiece a c from to before after (piece_after count ended)
  taken_piece from to before after ended added leads some before_end ends all = record {
    taken = part;
    consumed = consumed_piece;
    added = added;
    leads = leads;
    ends = at ended some before_end ends all;
  }
    where
      goes : (b : Bool) → nat_lt 0 count ≡ b → count ≡ length (take most lent) → IsEndOfPiece a c from part to (cond b Goes End)
      goes true e full = (let l : 0 < count = grind (arith, nat_tests) in omega (arith, l, long))
      goes false e full =
          let l : count ≡ 0 = grind (arith, nat_tests) in
          takes.end (none_lent lent most count most_is within (λ some. omega (arith, l, full, some)) (omega (arith, l, long)))

      at : (b : Bool) → (is_whole from.seen ≡ false → b ≡ true → 0 < count) → (b ≡ true → count < length (take most lent))
          → (b ≡ true → ends_before to (get_or (take most lent) count 0) ≡ true) → (b ≡ false → count ≡ length (take most lent)) → IsEndOfPiece a c from part to (piece_after count b)
      at true first before_end ends all =
          let l = before_end refl in
          let whole : length (take most lent) ≡ most = length-take-le most lent (omega (arith, most_is)) in
          let same : get_or (take most lent) count 0 ≡ get_or lent count 0 = get_or-take most lent count 0 (omega (arith, l, whole)) in
          ((λ new. (let s = first new refl in omega (arith, s, long))), (get_or lent count 0, ap (ends_before to) (sym same) ∙ ends refl, next_lent (omega (arith, l, whole, most_is))))
      at false first before_end ends all = goes (nat_lt 0 count) refl (all refl)

-- ---- an object

-- octets of an object were taken
pub record HasTaken (a b : Option (List ℕ)) (from to : Cutter) (before mid : List ℕ) : Type 0 where
  pub taken : List ℕ
  pub consumed : Consumes a b taken
  pub added : mid ≡ before ++ taken
  pub leads : LeadsOn from taken to

-- and then a piece
pub taken_more : (a b c : Option (List ℕ)) (from to next : Cutter) (before mid after : List ℕ) (piece : Piece) → HasTaken a b from to before mid
    → TakesDoorPiece b c to next mid after piece → HasTaken a c from next before after
taken_more a b c from to next before mid after piece h t = record {
  taken = h.taken ++ t.taken;
  consumed = Consumes-trans a b c h.taken t.taken h.consumed t.consumed;
  added = t.added ∙ ap (λ (l : List ℕ). l ++ t.taken) h.added ∙ append_assoc before h.taken t.taken;
  leads = leads_trans from to next h.taken t.taken h.leads t.leads;
}

end_from : (a b : Option (List ℕ)) (taken : List ℕ) (P : Type 0) → Consumes a b taken → OnSome b P → OnSome a P
end_from None b taken P consumed p = tt
end_from (Some xs) None taken P consumed p = absurd consumed
end_from (Some xs) (Some ys) taken P consumed p = p

next_from : (a b c : Option (List ℕ)) (taken : List ℕ) (to : Cutter) → Consumes a b taken → EndsBeforeNext b c to → EndsBeforeNext a c to
next_from None b c taken to consumed (next, ends, comes) = (next, ends, tt)
next_from (Some xs) None c taken to consumed n = absurd consumed
next_from (Some xs) (Some ys) c taken to consumed n = n

no_octets : (xs ys : List ℕ) → length (xs ++ ys) ≡ 0 → (xs ≡ []) × (length ys ≡ 0)
no_octets [] ys e = (refl, e)
no_octets (x ∷ xs) ys e = absurd (omega (arith, e))

-- an object that ended before an octet: some of it was taken, since it hadn't ended
pub ended_taken : (a b c : Option (List ℕ)) (from to next : Cutter) (before mid after : List ℕ) → is_whole from.seen ≡ false → HasTaken a b from to before mid
    → TakesDoorPiece b c to next mid after Ended → TakesObject a c from next before after true
unfolding taken_more
ended_taken a b c from to next before mid after goes_on h t =
    let all = taken_more a b c from to next before mid after Ended h t in
    record {
      taken = all.taken;
      consumed = all.consumed;
      added = all.added;
      leads = all.leads;
      ends = inl (next_from a b c h.taken next h.consumed t.ends.1);
      end = λ none. absurd (
          let (first, second) = no_octets h.taken t.taken none in
          let some = t.ends.0 (ap (λ (k : Cutter). is_whole k.seen) (h.leads.none first) ∙ goes_on) in
          omega (arith, some, second));
    }

-- an object that ended with the input
pub last_taken : (a b c : Option (List ℕ)) (from to next : Cutter) (before mid after : List ℕ) → HasTaken a b from to before mid
    → TakesDoorPiece b c to next mid after End → TakesObject a c from next before after true
last_taken a b c from to next before mid after h t =
    let all = taken_more a b c from to next before mid after End h t in
    let end = end_from a b h.taken (IsAtEnd c) h.consumed t.ends in
    record { taken = all.taken; consumed = all.consumed; added = all.added; leads = all.leads; ends = inr end; end = λ none. end }

-- an object that goes on and is too long
pub long_taken : (a b : Option (List ℕ)) (from to : Cutter) (before mid : List ℕ) → HasTaken a b from to before mid → 1_048_576 < length mid → length before < length mid
    → TakesObject a b from to before mid false
long_taken a b from to before mid h many more = record {
  taken = h.taken;
  consumed = h.consumed;
  added = h.added;
  leads = h.leads;
  ends = many;
  end = λ none. absurd (omega (arith, ap length h.added, length-append before h.taken, none, more));
}

-- an object doesn't end before its first octets
pub some_before : (from now : Cutter) (n x : ℕ) → (n ≡ 0 → now ≡ from) → is_whole from.seen ≡ false → ends_before now x ≡ true → 0 < n
some_before from now zero x same goes_on ends = absurd (ends_not_yet now x (ap (λ (k : Cutter). is_whole k.seen) (same refl) ∙ goes_on) ends)
some_before from now (suc n) x same goes_on ends = omega arith

-- so what is taken grows
pub goes_more : (a c : Option (List ℕ)) (from to : Cutter) (before after : List ℕ) (piece : Piece) (most : ℕ) → piece ≡ Goes → TakesDoorPiece a c from to before after piece
    → length before < most → most - length after < most - length before
goes_more a c from to before after piece most is t few =
    let some : 0 < length t.taken = subst (IsEndOfPiece a c from t.taken to) is t.ends in
    omega (arith, ap length t.added, length-append before t.taken, some, few)

-- ---- what comes first

pub begins_from : (a b : Option (List ℕ)) (lent : List ℕ) (comes : Bool) → Keeps a b → IfSome b (λ octets. StartsWith octets lent) → (length lent ≡ 0 → OnSome a (IsAtEnd b))
    → may_begin_object lent ≡ comes → IfSome a (λ octets. may_begin_object octets ≡ comes)
begins_from None b lent comes kept front end is = tt
begins_from (Some xs) None lent comes kept front end is = absurd kept
begins_from (Some xs) (Some ys) [] comes kept front end is = ap may_begin_object (sym kept ∙ end refl) ∙ is
begins_from (Some xs) (Some ys) (l ∷ lent) comes kept front end is = at xs (subst (λ (z : List ℕ). StartsWith z (l ∷ lent)) kept front)
  where
    at : (xs : List ℕ) → StartsWith xs (l ∷ lent) → may_begin_object xs ≡ comes
    at [] e = absurd (cc)
    at (x ∷ xs) e = let same : x ≡ l = cc in ap (λ (n : ℕ). may_begin_object (n ∷ xs)) same ∙ is
