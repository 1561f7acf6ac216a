-- What was handed on, piece by piece, and what was said of it.
use Rattle.std.proofs.Common.{◌≡◌, ◌⊎◌, inl, inr, ℕ, Bool, true, false, List, [], ◌∷◌, ◌++◌, take, get_or, map, length, ◌<◌, ◌+◌, Option, Result, Ok, Err, IfErr, sym, ap, subst, ◌∙◌, refl, arith, append-nil, append_assoc}
use Rattle.std.proofs.KnownBytes.{Keeps-refl}
use Rattle.std.specs.Io.KnownBytes.{Appends}
use Rattle.profile.specs.text.Trees.{Tree}
use Rattle.sched_doors.specs.Streams.{AtDoor, HandsOnAll, PassesAt, WritesStream, one_passed}
use Rattle.sched_doors.specs.declared.place.Place.TheVariants.{Start}
use Rattle.sched_doors.proofs.StreamLemmas.{whole_stream}
use Rattle.sched_cli.specs.declared.adapt.AdaptFault.{AdaptFault}
use Rattle.sched_cli.specs.declared.adapt.AdaptFault.TheVariants.{Device, Memory}
use Rattle.sched_cli.specs.Adapting.{AdaptStopsFor, AdaptsFront, KeepsMarks, PassesOn, StopsPassing, StopsPutting, adapt_status, adapt_text, adapted_text, goes_on_text}
use Rattle.std.specs.List.{flat_map}
use Rattle.std.proofs.lemmas.List.{map-append, take_more}
use Rattle.std.proofs.lemmas.Grind.{flat_map-append}
use Rattle.sched_cli.specs.Commands.{IsStatusSaid, SaysLine}

-- ---- a piece

-- it was lent, and couldn't be written whole
pub put_stops : {X : Type 0} (r : Result X AdaptFault) (listed : Option Tree) (old later : AtDoor) (is_adapted : Bool) (going_on : List (List ℕ)) (handed lent : List ℕ)
    (output written : Option (List ℕ)) (failed : Bool) → lent ≡ handed → PassesAt listed old later is_adapted going_on handed → IfErr r (StopsPutting output written failed lent)
    → IfErr r (StopsPassing listed old output written)
put_stops (Ok x) listed old later is_adapted going_on handed lent output written failed same p stops = tt
put_stops (Err Device) listed old later is_adapted going_on handed lent output written failed same p (blamed, (n, cut)) = inr (record {
  later = later;
  is_adapted = is_adapted;
  going_on = going_on;
  handed = handed;
  passes = p;
  count = n;
  cut = subst (λ (l : List ℕ). Appends output written (take n l)) same cut;
})
put_stops (Err Memory) listed old later is_adapted going_on handed lent output written failed same p kept = kept

-- ---- all pieces

pub one_more : (listed now : Option Tree) (first mid last : AtDoor) (output sofar written : Option (List ℕ)) (goes : Bool) → now ≡ listed → HandsOnAll listed first mid output sofar
    → PassesOn now mid last sofar written goes → HandsOnAll listed first last output written
one_more listed now first mid last output sofar written goes same all p =
    one_passed first mid last output sofar written p.is_adapted p.going_on p.handed all (subst (λ l. PassesAt l mid last p.is_adapted p.going_on p.handed) same p.passes) p.appended

-- up to the end of the input, from the first octet on
pub whole_so : (listed now : Option Tree) (first mid last : AtDoor) (output sofar written : Option (List ℕ)) → now ≡ listed → first.place ≡ Start → first.begun ≡ []
    → HandsOnAll listed first mid output sofar → PassesOn now mid last sofar written false → WritesStream listed first.left output written
whole_so listed now first mid last output sofar written same start none all p =
    whole_stream listed first mid last output sofar written p.is_adapted p.going_on p.handed start none all (subst (λ l. PassesAt l mid last p.is_adapted p.going_on p.handed) same p.passes)
    p.appended (p.end refl)

pub blames : (reader writer : Bool) (status : ℕ) (fault : AdaptFault) → status ≡ adapt_status fault → AdaptStopsFor reader writer fault → status ≡ 4 → (reader ≡ true) ⊎ (writer ≡ true)
blames reader writer status Device is stops e = stops
blames reader writer status Memory is stops e = absurd (omega (arith, is, e))

pub tells : (reader_before reader writer_before writer : Bool) (status : ℕ) (fault : AdaptFault) → status ≡ adapt_status fault → KeepsMarks reader_before reader writer_before writer fault
    → (status ≡ 4 → ⊥) → (reader ≡ reader_before) × (writer ≡ writer_before)
tells reader_before reader writer_before writer status Device is kept other = absurd (other is)
tells reader_before reader writer_before writer status Memory is kept other = kept

pub status_of : (status : ℕ) (fault : AdaptFault) → status ≡ adapt_status fault → (status ≡ 0) ⊎ ((status ≡ 3) ⊎ ((status ≡ 4) ⊎ (status ≡ 5)))
status_of status Device is = inr (inr (inl is))
status_of status Memory is = inr (inr (inr is))

pub said_of : (status : ℕ) (fault : AdaptFault) (a b : Option (List ℕ)) (lost : Bool) → status ≡ adapt_status fault → SaysLine (adapt_text fault) a b lost → IsStatusSaid status a b lost
said_of status Device a b lost is says = record { quiet = λ l. absurd (omega (arith, is, l)); device = λ e. says; memory = λ e. absurd (omega (arith, is, e)) }
said_of status Memory a b lost is says = record { quiet = λ l. absurd (omega (arith, is, l)); device = λ e. absurd (omega (arith, is, e)); memory = λ e. says }

-- whole pieces were handed on
pub whole_pieces : (listed : Option Tree) (first mid : AtDoor) (output sofar : Option (List ℕ)) (status : ℕ) → HandsOnAll listed first mid output sofar → AdaptsFront status listed first output sofar
whole_pieces listed first mid output sofar status all = record { before = mid; sofar = sofar; all = all; rest = inl (Keeps-refl sofar) }

-- ---- what is said of an object

pub all_names : (number : ℕ) (names : List (List ℕ)) → (names ≡ [] → ⊥) → adapted_text number names ≡ flat_map (goes_on_text number) names
all_names number [] some = absurd (some refl)
all_names number (name ∷ names) some = refl

-- one more name
pub one_name : {X : Type 0} (f : List ℕ → List ℕ) (h : X → List ℕ) (xs : List X) (i : ℕ) (d : X) (out now new : List ℕ) → i < length xs → now ≡ out ++ flat_map f (map h (take i xs))
    → new ≡ now ++ f (h (get_or xs i d)) → new ≡ out ++ flat_map f (map h (take (i + 1) xs))
one_name f h xs i d out now new l e g =
    let x = get_or xs i d in
    let names : map h (take (i + 1) xs) ≡ map h (take i xs) ++ h x ∷ [] = ap (map h) (take_more xs i d l) ∙ map-append h (take i xs) (x ∷ []) in
    let texts : flat_map f (map h (take (i + 1) xs)) ≡ flat_map f (map h (take i xs)) ++ f (h x) =
    ap (flat_map f) names ∙ flat_map-append f (map h (take i xs)) (h x ∷ []) ∙ ap (λ (z : List ℕ). flat_map f (map h (take i xs)) ++ z) (append-nil (f (h x))) in
    g ∙ ap (λ (z : List ℕ). z ++ f (h x)) e ∙ append_assoc out (flat_map f (map h (take i xs))) (f (h x)) ∙ ap (λ (z : List ℕ). out ++ z) (sym texts)
