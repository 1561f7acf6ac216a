-- What is handed on of what was taken.
use Rattle.std.proofs.Common.{◌≡◌, ◌≤◌, ◌<◌, inl, inr, ℕ, Bool, true, false, not, eqb, List, [], ◌∷◌, ◌++◌, take, drop, length, Option, Some, None, IfSome, OnSome, Result, Ok, Err, IfErr, IfOk, OnOk, ap, refl, sym, subst, ◌∙◌, arith, length-append, length-take-le, take-append-drop}
use Rattle.std.proofs.lemmas.Bool.{true≢false}
use Rattle.std.proofs.lemmas.Bool.Decides.{nat_tests}
use Rattle.std.proofs.lemmas.List.{drop_at, take_at}
use Rattle.std.specs.Io.KnownBytes.{Consumes, Keeps, IsAtEnd}
use Rattle.profile.specs.text.Trees.{Tree}
use Rattle.profile.specs.doors.Adapting.{IsAdapted}
use Rattle.ical_lines.specs.Cut.{ends_before, fresh}
use Rattle.ical_lines.specs.declared.object_end.Cutter.{Cutter}
use Rattle.sched_doors.specs.Handing.{HandsOn, IsBeforeObject, IsForgotten, IsFrontPiece, IsInPreamble, IsPiece, IsPreamblePiece, IsWhole, LendsAsCame, Passes, after_preamble, begun_at, ends_long, ends_whole, gets_long, long_front, of_front, of_preamble, short_front, stays_long}
use Rattle.sched_doors.specs.Pieces.{EndsBeforeNext, HasEnded, IsEmpty, IsEndOfPiece, KeepsUnlessRead, LeadsOn, TakesDoorPiece, TakesFront, TakesObject, TakesPreamble, may_begin_object}
use Rattle.sched_doors.specs.declared.fault.DoorFault.{DoorFault}
use Rattle.sched_doors.specs.declared.fault.DoorFault.TheVariants.{Read, Memory}
use Rattle.sched_doors.specs.declared.piece.Piece.TheVariants.{Ended, Goes, End}
use Rattle.sched_doors.specs.declared.place.FrontCutter.{FrontCutter}
use Rattle.sched_doors.specs.declared.place.Place.{Place}
use Rattle.sched_doors.specs.declared.place.Place.TheVariants.{Start, Preamble, Between, Front, Long}
use Rattle.sched_doors.specs.declared.preamble.LineSoFar.{LineSoFar}
use Rattle.sched_doors.specs.declared.preamble.LineSoFar.TheVariants as line

pub on_ok : {X E : Type 0} {P Q : Type 0} (r : Result X E) → OnOk r P → (P → Q) → OnOk r Q
on_ok (Ok x) p f = f p
on_ok (Err e) p f = tt

-- what was taken is behind what was lent before
pub lent_is : (before after taken : List ℕ) (consumed : ℕ) → consumed ≡ length before → after ≡ before ++ taken → drop consumed after ≡ taken
lent_is before after taken consumed all added = ap (drop consumed) added ∙ drop_at before taken consumed (sym all)

-- ---- as it came

pub lends_preamble : (old new : Option (List ℕ)) (from : LineSoFar) (next : Option LineSoFar) (to : Place) (before after : List ℕ) (consumed : ℕ) → to ≡ after_preamble next
    → consumed ≡ length before → TakesPreamble old new from before after next → LendsAsCame old new (IsPreamblePiece from to) to before (begun_at to after) (drop consumed after)
lends_preamble old new from next to before after consumed is all t =
    let handed = lent_is before after t.taken consumed all t.added in
    record {
      taken = t.taken;
      consumed = t.consumed;
      piece = (next, t.scans, is);
      kept = ap (begun_at to) t.added;
      as_it_came = handed;
      end = λ none. t.end (subst (λ (l : List ℕ). length l ≡ 0) handed none);
    }

-- the front of an object, or one that is too long already
pub lends_front : (old new : Option (List ℕ)) (from : Cutter) (front : FrontCutter) (to : Place) (before after : List ℕ) (consumed : ℕ) → (to ≡ Front front)
    → consumed ≡ length before → TakesFront old new from before after front
    → LendsAsCame old new (λ taken. IsFrontPiece from before taken to) to before (begun_at to after) (drop consumed after)
lends_front old new from front to before after consumed is all t =
    let handed = lent_is before after t.taken consumed all t.added in
    record {
      taken = t.taken;
      consumed = t.consumed;
      piece = subst (IsFrontPiece from before t.taken) (sym is) (short_front front t.leads t.few);
      kept = ap (begun_at to) t.added;
      as_it_came = handed;
      end = λ none. t.end (subst (λ (l : List ℕ). length l ≡ 0) handed none);
    }

pub lends_long : (old new : Option (List ℕ)) (from : Cutter) (front : FrontCutter) (to : Place) (before after : List ℕ) (consumed : ℕ) → (to ≡ Long front.cutter)
    → 1_048_576 < length after → consumed ≡ length before → TakesFront old new from before after front
    → LendsAsCame old new (λ taken. IsFrontPiece from before taken to) to before (begun_at to after) (drop consumed after)
lends_long old new from front to before after consumed is much all t =
    let handed = lent_is before after t.taken consumed all t.added in
    record {
      taken = t.taken;
      consumed = t.consumed;
      piece = subst (IsFrontPiece from before t.taken) (sym is) (long_front front.cutter t.leads (subst (λ (l : List ℕ). 1_048_576 < length l) t.added much));
      kept = ap (begun_at to) t.added;
      as_it_came = handed;
      end = λ none. t.end (subst (λ (l : List ℕ). length l ≡ 0) handed none);
    }

-- what was lent before is that of the object, and the rest is lent now
pub passes_of : {X E : Type 0} (r : Result X E) (listed : Option Tree) (old new : Option (List ℕ)) (K : List ℕ → Type 0) (from to : Place) (octets begun_then : List ℕ) (is_adapted : Bool)
    (going_on : List (List ℕ)) (handed : List ℕ) → octets ≡ begun_at from octets → is_adapted ≡ false → going_on ≡ [] → ((taken : List ℕ) → K taken → IsPiece old new octets taken from to)
    → OnOk r (LendsAsCame old new K to octets begun_then handed) → OnOk r (Passes listed old new from to (begun_at from octets) begun_then is_adapted going_on handed)
passes_of r listed old new K from to octets begun_then is_adapted going_on handed kept plain none piece lends = on_ok r lends (λ l.
    subst (λ (b : List ℕ). Passes listed old new from to b begun_then is_adapted going_on handed) kept (record {
      taken = l.taken;
      consumed = l.consumed;
      piece = piece l.taken l.piece;
      kept = l.kept;
      hands_on = subst (λ f. HandsOn listed (octets ++ l.taken) f going_on (octets ++ handed)) (sym plain) (ap (λ (z : List ℕ). octets ++ z) l.as_it_came, none);
      whole = λ adapted. absurd (true≢false (sym adapted ∙ plain));
      end = l.end;
    }))

-- nothing was taken before that
kept_end : (a b : Option (List ℕ)) (P : Type 0) → Keeps a b → OnSome b P → OnSome a P
kept_end None b P kept p = tt
kept_end (Some xs) None P kept p = absurd kept
kept_end (Some xs) (Some ys) P kept p = p

kept_consumes : (a b c : Option (List ℕ)) (taken : List ℕ) → Keeps a b → Consumes b c taken → Consumes a c taken
kept_consumes None b c taken kept h = tt
kept_consumes (Some xs) None c taken kept h = absurd kept
kept_consumes (Some xs) (Some ys) None taken kept h = absurd h
kept_consumes (Some xs) (Some ys) (Some zs) taken kept h = sym kept ∙ h

pub lends_later : {X E : Type 0} (r : Result X E) (a b c : Option (List ℕ)) (K : List ℕ → Type 0) (to : Place) (begun begun_then handed : List ℕ) → Keeps a b
    → OnOk r (LendsAsCame b c K to begun begun_then handed) → OnOk r (LendsAsCame a c K to begun begun_then handed)
lends_later r a b c K to begun begun_then handed kept lends = on_ok r lends (λ l. record {
  taken = l.taken;
  consumed = kept_consumes a b c l.taken kept l.consumed;
  piece = l.piece;
  kept = l.kept;
  as_it_came = l.as_it_came;
  end = λ none. kept_end a b (IsAtEnd c) kept (l.end none);
})

-- ---- an object

-- the rest of an object was read, and something was made of it
pub well_made : {X E : Type 0} (r : Result X E) (listed : Option Tree) (old mid new : Option (List ℕ)) (front : FrontCutter) (cutter : Cutter) (from to : Place) (before read after : List ℕ)
    (consumed now : ℕ) (is_adapted : Bool) (going_on : List (List ℕ)) → from ≡ Front front → to ≡ Between → front.cutter.begun ≡ true → consumed ≡ length before
    → new ≡ mid → TakesObject old mid front.cutter cutter before read true
    → OnOk r (HandsOn listed read is_adapted going_on (take consumed read ++ drop now after))
    → OnOk r (length (drop now after) ≡ 0 → length (drop consumed read) ≡ 0)
    → OnOk r (Passes listed old new from to (begun_at from before) (begun_at to after) is_adapted going_on (drop now after))
well_made (Err e) listed old mid new front cutter from to before read after consumed now is_adapted going_on comes ends begun all same t made some = tt
well_made (Ok x) listed old mid new front cutter from to before read after consumed now is_adapted going_on comes ends begun all same t made some =
    let handed = drop now after in
    let lent : drop consumed read ≡ t.taken = lent_is before read t.taken consumed all t.added in
    let first : take consumed read ≡ before = ap (take consumed) t.added ∙ take_at before t.taken consumed (sym all) in
    let made_of : HandsOn listed (before ++ t.taken) is_adapted going_on (before ++ handed) =
    subst (λ (l : List ℕ). HandsOn listed l is_adapted going_on (before ++ handed)) t.added (subst (λ (l : List ℕ). HandsOn listed read is_adapted going_on (l ++ handed)) first made) in
    let all_of : (f : Place) (g : Place) → f ≡ Front front → g ≡ Between → Passes listed old mid f g (begun_at f before) (begun_at g after) is_adapted going_on handed =
    λ f g comes ends. subst (λ (f : Place). Passes listed old mid f g (begun_at f before) (begun_at g after) is_adapted going_on handed) (sym comes)
    (subst (λ (g : Place). Passes listed old mid (Front front) g before (begun_at g after) is_adapted going_on handed) (sym ends) (record {
      taken = t.taken;
      consumed = t.consumed;
      piece = ends_whole front cutter begun t.leads t.ends;
      kept = refl;
      hands_on = made_of;
      whole = λ adapted. record { front = front; comes = refl; ends = refl };
      end = λ empty. t.end (subst (λ (l : List ℕ). length l ≡ 0) lent (some empty));
    })) in
    subst (λ n. Passes listed old n from to (begun_at from before) (begun_at to after) is_adapted going_on handed) (sym same) (all_of from to comes ends)

-- an object stays as it came
pub as_it_is : (listed : Option Tree) (octets : List ℕ) (consumed : ℕ) (is_adapted : Bool) (going_on : List (List ℕ)) → is_adapted ≡ false → going_on ≡ []
    → HandsOn listed octets is_adapted going_on (take consumed octets ++ drop consumed octets)
as_it_is listed octets consumed is_adapted going_on plain none = subst (λ f. HandsOn listed octets f going_on (take consumed octets ++ drop consumed octets)) (sym plain) (take-append-drop consumed octets, none)

-- or what was handed on of it begins what it is now
module _ (octets made rest : List ℕ) (consumed : ℕ) (within : consumed ≤ length octets) (is : made ≡ take consumed octets ++ rest) where
  rest_is : drop consumed made ≡ rest
  rest_is = ap (drop consumed) is ∙ drop_at (take consumed octets) rest consumed (length-take-le consumed octets within)

  pub made_so : (listed : Option Tree) (going_on : List (List ℕ)) → IsAdapted listed octets going_on made → HandsOn listed octets true going_on (take consumed octets ++ drop consumed made)
  made_so listed going_on adapted = subst (IsAdapted listed octets going_on) (is ∙ ap (λ (l : List ℕ). take consumed octets ++ l) (sym rest_is)) adapted

  pub made_some : 0 < length rest → length (drop consumed made) ≡ 0 → ⊥
  made_some some none = let same = ap length rest_is in omega (arith, same, some, none)

-- octets of an object that is too long were
pub too_long : (listed : Option Tree) (old new : Option (List ℕ)) (front : FrontCutter) (cutter : Cutter) (from to : Place) (before after : List ℕ) (consumed : ℕ) (is_adapted : Bool)
    (going_on : List (List ℕ)) → from ≡ Front front → to ≡ Long cutter → front.cutter.begun ≡ true → consumed ≡ length before → is_adapted ≡ false → going_on ≡ []
    → TakesObject old new front.cutter cutter before after false
    → Passes listed old new from to (begun_at from before) (begun_at to after) is_adapted going_on (drop consumed after)
too_long listed old new front cutter from to before after consumed is_adapted going_on comes ends begun all plain none t =
    let handed = lent_is before after t.taken consumed all t.added in
    subst (λ (f : Place). Passes listed old new f to (begun_at f before) (begun_at to after) is_adapted going_on (drop consumed after)) (sym comes)
    (subst (λ (g : Place). Passes listed old new (Front front) g before (begun_at g after) is_adapted going_on (drop consumed after)) (sym ends) (record {
      taken = t.taken;
      consumed = t.consumed;
      piece = gets_long front cutter begun t.leads (subst (λ (l : List ℕ). 1_048_576 < length l) t.added t.ends);
      kept = refl;
      hands_on = subst (λ f. HandsOn listed (before ++ t.taken) f going_on (before ++ drop consumed after)) (sym plain) (ap (λ (z : List ℕ). before ++ z) handed, none);
      whole = λ adapted. absurd (true≢false (sym adapted ∙ plain));
      end = λ empty. t.end (subst (λ (l : List ℕ). length l ≡ 0) handed empty);
    }))

-- a piece of such an object was read, where nothing else is lent
module _ (listed : Option Tree) (old new : Option (List ℕ)) (from to : Cutter) (before after : List ℕ) (consumed : ℕ) (is_adapted : Bool) (going_on : List (List ℕ))
    (nothing : before ≡ []) (all : consumed ≡ length before) (plain : is_adapted ≡ false) (none : going_on ≡ []) where
  passes_long : (p q : Place) (taken : List ℕ) → p ≡ Long from → Consumes old new taken → after ≡ before ++ taken → IsPiece old new [] taken p q → begun_at q taken ≡ []
      → begun_at q after ≡ [] → (length taken ≡ 0 → OnSome old (IsAtEnd new))
      → Passes listed old new p q (begun_at p before) (begun_at q after) is_adapted going_on (drop consumed after)
  passes_long p q taken is consumes added piece kept kept_after end =
      let handed = lent_is before after taken consumed all added in
      let no_begun : begun_at p before ≡ [] = ap (λ (f : Place). begun_at f before) is in
      subst (λ (b : List ℕ). Passes listed old new p q b (begun_at q after) is_adapted going_on (drop consumed after)) (sym no_begun) (record {
        taken = taken;
        consumed = consumes;
        piece = piece;
        kept = kept_after ∙ sym kept;
        hands_on = subst (λ f. HandsOn listed taken f going_on (drop consumed after)) (sym plain) (handed, none);
        whole = λ adapted. absurd (true≢false (sym adapted ∙ plain));
        end = λ empty. end (subst (λ (l : List ℕ). length l ≡ 0) handed empty);
      })

  on_long : (p q : Place) → p ≡ Long from → q ≡ Long to → (taken : List ℕ) → Consumes old new taken → after ≡ before ++ taken → LeadsOn from taken to
      → (length taken ≡ 0 → OnSome old (IsAtEnd new)) → Passes listed old new p q (begun_at p before) (begun_at q after) is_adapted going_on (drop consumed after)
  on_long p q is is_then taken consumes added leads end =
      passes_long p q taken is consumes added
      (subst (λ (f : Place). IsPiece old new [] taken f q) (sym is) (subst (IsPiece old new [] taken (Long from)) (sym is_then) (stays_long from to leads)))
      (ap (λ (g : Place). begun_at g taken) is_then) (ap (λ (g : Place). begun_at g after) is_then) end

  -- it goes on, or the input has ended
  pub goes_long : (p q : Place) → p ≡ Long from → q ≡ Long to → TakesDoorPiece old new from to before after Goes
      → Passes listed old new p q (begun_at p before) (begun_at q after) is_adapted going_on (drop consumed after)
  goes_long p q is is_then t = on_long p q is is_then t.taken t.consumed t.added t.leads (λ empty. absurd (let some = t.ends in omega (arith, some, empty)))

  pub last_long : (p q : Place) → p ≡ Long from → q ≡ Long to → TakesDoorPiece old new from to before after End
      → Passes listed old new p q (begun_at p before) (begun_at q after) is_adapted going_on (drop consumed after)
  last_long p q is is_then t = on_long p q is is_then t.taken t.consumed t.added t.leads (λ empty. t.ends)

  -- it ended behind what was read
  pub ended_long : (p q : Place) → p ≡ Long from → q ≡ Between → (length after ≡ 0 → ⊥) → TakesDoorPiece old new from to before after Ended
      → Passes listed old new p q (begun_at p before) (begun_at q after) is_adapted going_on (drop consumed after)
  ended_long p q is is_then some t =
      passes_long p q t.taken is t.consumed t.added
      (subst (λ (f : Place). IsPiece old new [] t.taken f q) (sym is) (subst (IsPiece old new [] t.taken (Long from)) (sym is_then) (ends_long from to t.leads t.ends.1)))
      (ap (λ (g : Place). begun_at g t.taken) is_then) (ap (λ (g : Place). begun_at g after) is_then)
      (λ empty. absurd (some (omega (arith, ap length t.added, length-append before t.taken, ap length nothing, empty))))

-- none was left of it
nothing_taken : (before after taken : List ℕ) → after ≡ before ++ taken → length after ≡ 0 → taken ≡ []
nothing_taken [] after [] added empty = refl
nothing_taken [] after (x ∷ taken) added empty = absurd (omega (arith, ap length added, empty))
nothing_taken (b ∷ before) after taken added empty = absurd (omega (arith, ap length added, empty))

pub keeps_of_none : (a b : Option (List ℕ)) (taken : List ℕ) → taken ≡ [] → Consumes a b taken → Keeps a b
keeps_of_none None b taken none h = tt
keeps_of_none (Some xs) None taken none h = h
keeps_of_none (Some xs) (Some ys) taken none h = sym (h ∙ ap (λ (l : List ℕ). l ++ ys) none)

pub is_none : (empty : Bool) (n : ℕ) → empty ≡ eqb n 0 → empty ≡ true → n ≡ 0
is_none empty n is holds = grind (arith, nat_tests)

pub not_empty : (empty : Bool) (n : ℕ) → empty ≡ eqb n 0 → empty ≡ false → n ≡ 0 → ⊥
not_empty empty n is fails none = true≢false (sym (ap (λ (m : ℕ). eqb m 0) none) ∙ sym is ∙ fails)

-- so the next object begins
pub next_begins : (a b : Option (List ℕ)) (from to : Cutter) (before after : List ℕ) → length after ≡ 0 → TakesDoorPiece a b from to before after Ended
    → Keeps a b × IsBeforeObject a (Long from) fresh
next_begins a b from to before after empty t =
    let none : t.taken ≡ [] = nothing_taken before after t.taken t.added empty in
    (keeps_of_none a b t.taken none t.consumed, (refl, at a b t.taken none (t.leads.none none) t.consumed t.ends.1))
  where
    at : (a b : Option (List ℕ)) (taken : List ℕ) → taken ≡ [] → to ≡ from → Consumes a b taken → EndsBeforeNext a b to
        → (next : ℕ) × (ends_before from next ≡ true) × IfSome a (λ octets. (more : List ℕ) × (octets ≡ next ∷ more))
    at None b taken none same h (next, ends, comes) = (next, ap (λ (c : Cutter). ends_before c next) (sym same) ∙ ends, tt)
    at (Some xs) None taken none same h ends = absurd h
    at (Some xs) (Some ys) taken none same h (next, ends, (more, is)) =
        (next, ap (λ (c : Cutter). ends_before c next) (sym same) ∙ ends, (more, h ∙ ap (λ (l : List ℕ). l ++ ys) none ∙ is))

-- the front of the next object, behind one that is too long
pub front_after_long : {X E : Type 0} (r : Result X E) (listed : Option Tree) (a b c : Option (List ℕ)) (from to new : Cutter) (p q : Place) (before after begun_then : List ℕ) (is_adapted : Bool)
    (going_on : List (List ℕ)) (handed : List ℕ) → new ≡ fresh → p ≡ Long from → length after ≡ 0 → is_adapted ≡ false → going_on ≡ [] → TakesDoorPiece a b from to before after Ended
    → OnOk r (LendsAsCame b c (λ taken. IsFrontPiece new after taken q) q after begun_then handed) → OnOk r (Passes listed a c p q (begun_at p before) begun_then is_adapted going_on handed)
front_after_long r listed a b c from to new p q before after begun_then is_adapted going_on handed new_is is empty plain none t lends =
    let (kept, comes) = next_begins a b from to before after empty t in
    let no_octets : after ≡ [] = nothing_taken [] after after refl empty in
    let first : begun_at p after ≡ [] = ap (λ (f : Place). begun_at f after) is in
    let second : begun_at p before ≡ [] = ap (λ (f : Place). begun_at f before) is in
    let comes_at : IsBeforeObject a p new = subst (λ (f : Place). IsBeforeObject a f new) (sym is) (subst (IsBeforeObject a (Long from)) (sym new_is) comes) in
    let later = lends_later r a b c (λ taken. IsFrontPiece new after taken q) q after begun_then handed kept lends in
    on_ok r (passes_of r listed a c (λ taken. IsFrontPiece new after taken q) p q after begun_then is_adapted going_on handed (no_octets ∙ sym first) plain none
    (λ taken piece. of_front new comes_at piece) later)
    (λ passes. subst (λ (l : List ℕ). Passes listed a c p q l begun_then is_adapted going_on handed) (first ∙ sym second) passes)

-- ---- what comes first

pub first_preamble : {X E : Type 0} (r : Result X E) (listed : Option Tree) (a b c : Option (List ℕ)) (p q : Place) (octets begun_then : List ℕ) (is_adapted : Bool) (going_on : List (List ℕ))
    (handed : List ℕ) (comes : Bool) → p ≡ Start → octets ≡ begun_at p octets → is_adapted ≡ false → going_on ≡ [] → Keeps a b → comes ≡ true
    → IfSome a (λ input. may_begin_object input ≡ not comes) → OnOk r (LendsAsCame b c (IsPreamblePiece line.Nothing q) q octets begun_then handed)
    → OnOk r (Passes listed a c p q (begun_at p octets) begun_then is_adapted going_on handed)
first_preamble r listed a b c p q octets begun_then is_adapted going_on handed comes is nothing plain none kept holds begins lends =
    let begins_not : IfSome a (λ input. may_begin_object input ≡ false) = subst (λ t. IfSome a (λ input. may_begin_object input ≡ not t)) holds begins in
    let inside : IsInPreamble a p line.Nothing = subst (λ (f : Place). IsInPreamble a f line.Nothing) (sym is) (refl, begins_not) in
    passes_of r listed a c (IsPreamblePiece line.Nothing q) p q octets begun_then is_adapted going_on handed nothing plain none (λ taken piece. of_preamble line.Nothing inside piece)
    (lends_later r a b c (IsPreamblePiece line.Nothing q) q octets begun_then handed kept lends)

pub first_front : {X E : Type 0} (r : Result X E) (listed : Option Tree) (a b c : Option (List ℕ)) (cutter : Cutter) (p q : Place) (octets begun_then : List ℕ) (is_adapted : Bool)
    (going_on : List (List ℕ)) (handed : List ℕ) (comes : Bool) → p ≡ Start → octets ≡ begun_at p octets → is_adapted ≡ false → going_on ≡ [] → Keeps a b → comes ≡ false → cutter ≡ fresh
    → IfSome a (λ input. may_begin_object input ≡ not comes) → OnOk r (LendsAsCame b c (λ taken. IsFrontPiece cutter octets taken q) q octets begun_then handed)
    → OnOk r (Passes listed a c p q (begun_at p octets) begun_then is_adapted going_on handed)
first_front r listed a b c cutter p q octets begun_then is_adapted going_on handed comes is nothing plain none kept fails new begins lends =
    let begins_so : IfSome a (λ input. may_begin_object input ≡ true) = subst (λ t. IfSome a (λ input. may_begin_object input ≡ not t)) fails begins in
    let before : IsBeforeObject a p cutter = subst (λ (f : Place). IsBeforeObject a f cutter) (sym is) (new, begins_so) in
    passes_of r listed a c (λ taken. IsFrontPiece cutter octets taken q) p q octets begun_then is_adapted going_on handed nothing plain none (λ taken piece. of_front cutter before piece)
    (lends_later r a b c (λ taken. IsFrontPiece cutter octets taken q) q octets begun_then handed kept lends)

-- in a preamble, and before an object
pub next_preamble : {X E : Type 0} (r : Result X E) (listed : Option Tree) (a c : Option (List ℕ)) (from : LineSoFar) (p q : Place) (octets begun_then : List ℕ) (is_adapted : Bool)
    (going_on : List (List ℕ)) (handed : List ℕ) → p ≡ Preamble from → octets ≡ begun_at p octets → is_adapted ≡ false → going_on ≡ []
    → OnOk r (LendsAsCame a c (IsPreamblePiece from q) q octets begun_then handed) → OnOk r (Passes listed a c p q (begun_at p octets) begun_then is_adapted going_on handed)
next_preamble r listed a c from p q octets begun_then is_adapted going_on handed is nothing plain none lends =
    let inside : IsInPreamble a p from = subst (λ (f : Place). IsInPreamble a f from) (sym is) refl in
    passes_of r listed a c (IsPreamblePiece from q) p q octets begun_then is_adapted going_on handed nothing plain none (λ taken piece. of_preamble from inside piece) lends

pub next_front : {X E : Type 0} (r : Result X E) (listed : Option Tree) (a c : Option (List ℕ)) (cutter : Cutter) (p q : Place) (octets begun_then : List ℕ) (is_adapted : Bool)
    (going_on : List (List ℕ)) (handed : List ℕ) → IsBeforeObject a p cutter → octets ≡ begun_at p octets → is_adapted ≡ false → going_on ≡ []
    → OnOk r (LendsAsCame a c (λ taken. IsFrontPiece cutter octets taken q) q octets begun_then handed) → OnOk r (Passes listed a c p q (begun_at p octets) begun_then is_adapted going_on handed)
next_front r listed a c cutter p q octets begun_then is_adapted going_on handed before nothing plain none lends =
    passes_of r listed a c (λ taken. IsFrontPiece cutter octets taken q) p q octets begun_then is_adapted going_on handed nothing plain none (λ taken piece. of_front cutter before piece) lends

pub between : (a : Option (List ℕ)) (cutter : Cutter) (p : Place) → p ≡ Between → cutter ≡ fresh → IsBeforeObject a p cutter
between a cutter p is new = subst (λ (f : Place). IsBeforeObject a f cutter) (sym is) new

pub still_before : (a : Option (List ℕ)) (front : FrontCutter) (p : Place) → p ≡ Front front → front.cutter.begun ≡ false → IsBeforeObject a p front.cutter
still_before a front p is none = subst (λ (f : Place). IsBeforeObject a f front.cutter) (sym is) (refl, record { nothing = none; start = front.empty none })

pub told_from : {X : Type 0} (r : Result X DoorFault) (old mid new : Bool) → mid ≡ old → IfErr r (KeepsUnlessRead mid new) → IfErr r (KeepsUnlessRead old new)
told_from (Ok x) old mid new same told = tt
told_from (Err Read) old mid new same told = tt
told_from (Err Memory) old mid new same told = told ∙ same
