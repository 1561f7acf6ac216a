-- What was handed on for the pieces of what `serve` wrote.
use Rattle.std.proofs.Common.{◌≡◌, ◌⊎◌, inl, inr, ℕ, zero, suc, ◌<◌, ◌≤◌, true, false, List, [], ◌∷◌, ◌++◌, length, take, drop, take-append-drop, Option, None, Some, Result, Ok, Err, IfOk, IfSome, MatchOption, sym, ap, subst, ◌∙◌, refl, arith, append-nil}
use Rattle.std.specs.List.{flat_map}
use Rattle.std.specs.Io.KnownBytes.{Appends}
use Rattle.std.proofs.KnownBytes.{Appends-nil, Appends-trans}
use Rattle.std.proofs.lemmas.Bool.{cond_both}
use Rattle.std.proofs.lemmas.Grind.{flat_map-append}
use Rattle.std.proofs.lemmas.List.Elements.{AllZip-push}
use Rattle.profile.specs.text.Objects.{after_object}
use Rattle.ical_lines.specs.declared.object_end.Cutter.{Cutter}
use Rattle.ical_lines.specs.Cut.{ends_before, fresh, rest_after, step}
use Rattle.ical_lines.proofs.CutLemmas.{cutter_ends}
use Rattle.sched_cli.specs.declared.returned.WayBack.{WayBack}
use Rattle.sched_cli.specs.Returned.{ArePieces, HandsBack, IsParted, IsPieceTold, Returns, ReturnsAll, after_piece, is_line, more, none}

-- ---- where an object ends

-- what follows it is no more than there was
shorter : (s : Cutter) (octets : List ℕ) → length (rest_after s octets) ≤ length octets
shorter s [] = omega arith
shorter s (b ∷ bs) =
    cond_both (ends_before s b) (b ∷ bs) (rest_after (step s b) bs) (λ (rest : List ℕ). length rest ≤ length (b ∷ bs)) (λ e. omega arith) (λ e. omega (arith, shorter (step s b) bs))

-- and less, since an object has an octet
object_less : (octets : List ℕ) → 0 < length octets → length (after_object octets) < length octets
object_less [] l = absurd (omega (arith, l))
object_less (b ∷ bs) l = omega (arith, ap length (sym (cutter_ends (b ∷ bs))), shorter (step fresh b) bs)

pub some_octets : (octets : List ℕ) (n : ℕ) → 0 < length octets → drop n octets ≡ after_object octets → 0 < n
some_octets octets zero l e = absurd (omega (arith, object_less octets l, ap length e))
some_octets octets (suc n) l e = omega arith

-- ---- a piece

-- a line that no object has
pub as_it_came : (way : WayBack) (piece : List ℕ) → HandsBack way piece piece
as_it_came way piece = record { told = piece; is_told = inl refl; given = inl refl; line = λ e. refl }

-- anything else
hands_back : (way : WayBack) (piece told out : List ℕ) → is_line piece ≡ false → IsPieceTold way piece told → (out ≡ told) ⊎ ((way.is_single ≡ true) × IsParted told out) → HandsBack way piece out
hands_back way piece told out other is_told given = record { told = told; is_told = is_told; given = given; line = λ e. absurd (cc) }

pub handed_so : {T E : Type 0} (octets : T → List ℕ) (way : WayBack) (piece told : List ℕ) (r : Result (Option T) E) → is_line piece ≡ false → IsPieceTold way piece told
    → IfOk r (λ found. IfSome found (λ out. (way.is_single ≡ true) × IsParted told (octets out)))
    → IfOk r (λ found. MatchOption found (HandsBack way piece told) (λ out. HandsBack way piece (octets out)))
handed_so octets way piece told (Ok (Some out)) other is_told parted = hands_back way piece told (octets out) other is_told (inr parted)
handed_so octets way piece told (Ok None) other is_told parted = hands_back way piece told told other is_told (inl refl)
handed_so octets way piece told (Err e) other is_told parted = tt

-- ---- all pieces

one_piece : {octets mid : List ℕ} {pieces : List (List ℕ)} (piece : List ℕ) → ArePieces octets pieces mid → mid ≡ piece ++ after_piece mid
    → ArePieces octets (pieces ++ piece ∷ []) (after_piece mid)
one_piece piece (none left) e = more left piece (after_piece left) [] e (none (after_piece left))
one_piece piece (more octets first left pieces is rest) e = more octets first (after_piece left) (pieces ++ piece ∷ []) is (one_piece piece rest e)

pub no_piece : (way : WayBack) (octets : List ℕ) (output : Option (List ℕ)) → ReturnsAll way octets octets output output
no_piece way octets output = record { pieces = []; outs = []; are = none octets; each = tt; appended = Appends-nil output }

-- the first piece, cut off the octets that are left
cut_off : (mid piece left : List ℕ) (n : ℕ) → piece ≡ take n mid → left ≡ drop n mid → drop n mid ≡ after_piece mid → mid ≡ piece ++ after_piece mid
cut_off mid piece left n front back rest = sym (take-append-drop n mid) ∙ ap (λ (l : List ℕ). take n mid ++ l) rest ∙ ap (λ (p : List ℕ). p ++ after_piece mid) (sym front)

pub one_more : (way : WayBack) (octets mid piece left : List ℕ) (n : ℕ) (output sofar written : Option (List ℕ)) → ReturnsAll way octets mid output sofar → piece ≡ take n mid → left ≡ drop n mid
    → drop n mid ≡ after_piece mid → Returns way piece sofar written → ReturnsAll way octets left output written
one_more way octets mid piece left n output sofar written all front back rest (out, handed, put) =
    let joined : flat_map (λ (o : List ℕ). o) (all.outs ++ out ∷ []) ≡ flat_map (λ (o : List ℕ). o) all.outs ++ out =
    flat_map-append (λ (o : List ℕ). o) all.outs (out ∷ []) ∙ ap (λ (l : List ℕ). flat_map (λ (o : List ℕ). o) all.outs ++ l) (append-nil out) in
    record {
      pieces = all.pieces ++ piece ∷ [];
      outs = all.outs ++ out ∷ [];
      are = subst (ArePieces octets (all.pieces ++ piece ∷ [])) (sym (back ∙ rest)) (one_piece piece all.are (cut_off mid piece left n front back rest));
      each = AllZip-push (HandsBack way) all.pieces all.outs piece out all.each handed;
      appended = subst (Appends output written) (sym joined) (Appends-trans output sofar written (flat_map (λ (o : List ℕ). o) all.outs) out all.appended put);
    }
