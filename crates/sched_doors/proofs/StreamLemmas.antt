-- What was handed on piece by piece is a preamble, and whole objects.
use Rattle.std.proofs.Common.{◌≡◌, ◌⊎◌, inl, inr, ◌<◌, ℕ, Bool, true, false, not, ◌&&◌, cond, eqb, List, [], ◌∷◌, ◌++◌, length, Option, Some, None, IfSome, OnSome, ap, refl, sym, subst, ◌∙◌, arith, append-nil, append_assoc}
use Rattle.std.specs.List.{flat_map, AllZip}
use Rattle.std.specs.Io.KnownBytes.{Appends, Consumes, IsAtEnd}
use Rattle.std.proofs.lemmas.Bool.{true≢false}
use Rattle.std.proofs.lemmas.Grind.{flat_map-append}
use Rattle.std.proofs.lemmas.List.{append_cancel_left}
use Rattle.profile.specs.text.Trees.{Tree}
use Rattle.profile.specs.text.Objects.{after_object, is_begun}
use Rattle.profile.specs.streams.Streams.{BeginsWith}
use Rattle.ical_lines.specs.Cut.{added, after_line, after_return, at_place, at_start, begun_after, ends_before, fresh, is_blank, rest_after, step, step_from}
use Rattle.ical_lines.specs.declared.object_end.Cutter.{Cutter}
use Rattle.ical_lines.specs.declared.object_end.CutPlace.{CutPlace}
use Rattle.ical_lines.specs.declared.object_end.CutPlace.TheVariants.{Mark, Line, Return, Break}
use Rattle.ical_lines.proofs.CutLemmas.{cutter_ends}
use Rattle.ical_lines.proofs.BegunLemmas.{cutter_begins}
use Rattle.sched_doors.specs.Handing.{HandsOn, IsBeforeObject, IsFrontPiece, IsInPreamble, IsPiece, IsPreamblePiece, IsWhole, Passes, after_preamble, begun_at, ends_long, ends_whole, gets_long, long_front, of_front, of_preamble, short_front, stays_long}
use Rattle.sched_doors.specs.Pieces.{BeginsLast, EndsBeforeNext, HasEnded, LeadsOn, Scans, may_begin_object, scans_last, scans_more, scans_none}
use Rattle.sched_doors.specs.Streams.{AtDoor, HandsOnAll, HandsOnStream, HasPreamble, IsHandedOn, PassesAt, WritesStream, none_passed, one_passed}
use Rattle.sched_doors.specs.declared.place.FrontCutter.{FrontCutter}
use Rattle.sched_doors.specs.declared.place.Place.{Place}
use Rattle.sched_doors.specs.declared.place.Place.TheVariants.{Start, Preamble, Between, Front, Long}
use Rattle.sched_doors.specs.declared.preamble.LineSoFar.{LineSoFar}
use Rattle.sched_doors.specs.declared.preamble.LineSoFar.TheVariants as line
use Rattle.sched_doors.proofs.Leading.{leads_nowhere, leads_trans}

-- ---- once begun, always begun

cond_begun : (t : Bool) (x y : Cutter) → x.begun ≡ true → y.begun ≡ true → (cond t x y).begun ≡ true
cond_begun true x y h k = h
cond_begun false x y h k = k

line_begun : (c : Cutter) (b : ℕ) → c.begun ≡ true → (after_line c b).begun ≡ true
line_begun c b h = cond_begun (eqb b 10) (at_place Break c) _ h (cond_begun (eqb b 13) (at_place Return c) (at_place Line (added c b)) h refl)

step_begun : (p : CutPlace) (c : Cutter) (b : ℕ) → c.begun ≡ true → (step_from p c b).begun ≡ true
step_begun (Mark k) c b h =
    cond_begun (eqb k 0 && eqb b 0xEF) (at_place (Mark 1) (added c b)) _ refl (cond_begun (eqb k 1 && eqb b 0xBB) (at_place (Mark 2) (added c b)) _ refl
    (cond_begun (eqb k 2 && eqb b 0xBF) (at_place Line (at_start c)) (after_line c b) h (line_begun c b h)))
step_begun Line c b h = line_begun c b h
step_begun Return c b h = cond_begun (eqb b 10) (after_line c b) (after_line (added c 13) b) (line_begun c b h) (line_begun (added c 13) b refl)
step_begun Break c b h = cond_begun (is_blank b) (at_place Line c) (after_line (at_start c) b) h (line_begun (at_start c) b h)

cond_true : (t x : Bool) → x ≡ true → cond t true x ≡ true
cond_true true x h = refl
cond_true false x h = h

stays_begun : (c : Cutter) (octets : List ℕ) → c.begun ≡ true → begun_after c octets ≡ true
stays_begun c [] h = h
stays_begun c (b ∷ octets) h = cond_true (ends_before c b) (begun_after (step c b) octets) (stays_begun (step c b) octets (step_begun c.place c b h))

leads_begun : (from to : Cutter) (octets : List ℕ) → LeadsOn from octets to → from.begun ≡ true → to.begun ≡ true
leads_begun from to octets l h = sym (l.begun []) ∙ stays_begun from (octets ++ []) h

-- ---- a preamble

join_scans : {from mid : LineSoFar} {to : Option LineSoFar} {xs ys : List ℕ} → Scans from xs (Some mid) → Scans mid ys to → Scans from (xs ++ ys) to
join_scans (scans_none) behind = behind
join_scans (scans_more b is rest) behind = scans_more b is (join_scans rest behind)

-- ---- objects

all_zip_more : {A B : Type 0} (R : A → B → Type 0) (xs : List A) (ys : List B) (x : A) (y : B) → AllZip R xs ys → R x y → AllZip R (xs ++ x ∷ []) (ys ++ y ∷ [])
all_zip_more R [] [] x y each r = (r, tt)
all_zip_more R [] (b ∷ ys) x y each r = absurd each
all_zip_more R (a ∷ xs) [] x y each r = absurd each
all_zip_more R (a ∷ xs) (b ∷ ys) x y (first, each) r = (first, all_zip_more R xs ys x y each r)

-- one more object of a stream
begins_more : (stream rest object : List ℕ) (objects : List (List ℕ)) → BeginsWith stream objects (object ++ rest) → is_begun (object ++ rest) ≡ true → after_object (object ++ rest) ≡ rest
    → BeginsWith stream (objects ++ object ∷ []) rest
begins_more stream rest object [] is begun after =
    let P : List ℕ → Type 0 = λ (s : List ℕ). BeginsWith s (object ∷ []) rest in
    subst P is (begun, ap (λ (l : List ℕ). object ++ l) (sym after), sym after)
begins_more stream rest object (first ∷ objects) (begun, is, others) begins after = (begun, is, begins_more (after_object stream) rest object objects others begins after)

-- octets of an object that begins, up to where a cutter is
module _ (begun rest : List ℕ) (cutter : Cutter) (leads : LeadsOn fresh begun cutter) where
  after_is : after_object (begun ++ rest) ≡ rest_after cutter rest
  after_is = sym (cutter_ends (begun ++ rest)) ∙ leads.rest rest

  begun_is : is_begun (begun ++ rest) ≡ begun_after cutter rest
  begun_is = sym (cutter_begins (begun ++ rest)) ∙ leads.begun rest

  -- an octet comes before which it has ended
  ends_at : (next : ℕ) (tail : List ℕ) → rest ≡ next ∷ tail → ends_before cutter next ≡ true → (is_begun (begun ++ rest) ≡ true) × (after_object (begun ++ rest) ≡ rest)
  ends_at next tail is ends = (
    begun_is ∙ ap (begun_after cutter) is ∙ ap (λ b. cond b true (begun_after (step cutter next) tail)) ends,
    after_is ∙ ap (rest_after cutter) is ∙ ap (λ b. cond b (next ∷ tail) (rest_after (step cutter next) tail)) ends ∙ sym is,
  )

  -- the input has ended
  ends_with : rest ≡ [] → (after_object (begun ++ rest) ≡ rest) × (is_begun (begun ++ rest) ≡ cutter.begun)
  ends_with none = (after_is ∙ ap (rest_after cutter) none ∙ sym none, begun_is ∙ ap (begun_after cutter) none)

-- ---- so far

abbrev joined : List (List ℕ) → List ℕ
joined = flat_map (λ (object : List ℕ). object)

-- where the cutter is at this place, and what is kept then of the octets of an object that isn't whole
abbrev IsAt : Place → Cutter → List ℕ → List ℕ → Type 0
IsAt Start cutter octets begun = ⊥
IsAt (Preamble sofar) cutter octets begun = ⊥
IsAt Between cutter octets begun = (octets ≡ []) × (begun ≡ [])
IsAt (Front front) cutter octets begun = (cutter ≡ front.cutter) × (octets ≡ begun)
IsAt (Long now) cutter octets begun = (cutter ≡ now) × (begun ≡ [])

-- objects were handed on, and octets of the next one
record InObjects (listed : Option Tree) (stream : List ℕ) (place : Place) (begun left out : List ℕ) : Type 0 where
  preamble : List ℕ
  rest : List ℕ
  is : stream ≡ preamble ++ rest
  has : HasPreamble stream preamble rest
  objects : List (List ℕ)
  octets : List ℕ
  begins : BeginsWith rest objects (octets ++ left)
  cutter : Cutter
  leads : LeadsOn fresh octets cutter
  is_at : IsAt place cutter octets begun
  made : List (List ℕ)
  each : AllZip (IsHandedOn listed) objects made
  out_is : out ≡ preamble ++ (joined made ++ octets)

data IsSofar (listed : Option Tree) (stream : List ℕ) : Place → List ℕ → List ℕ → List ℕ → Type 0 where
  not_begun : {left : List ℕ} → left ≡ stream → IsSofar listed stream Start [] left []
  in_preamble : {left out : List ℕ} (sofar : LineSoFar) → stream ≡ out ++ left → may_begin_object stream ≡ false → Scans line.Nothing out (Some sofar)
      → IsSofar listed stream (Preamble sofar) [] left out
  in_objects : {place : Place} {begun left out : List ℕ} → InObjects listed stream place begun left out → IsSofar listed stream place begun left out

-- a piece was handed on as it came
abbrev is_front : Place → Bool
is_front Start = false
is_front (Preamble sofar) = false
is_front Between = false
is_front (Front front) = true
is_front (Long now) = false

abbrev is_between : Place → Bool
is_between Start = false
is_between (Preamble sofar) = false
is_between Between = true
is_between (Front front) = false
is_between (Long now) = false

plain_of : (listed : Option Tree) (adapted : Bool) (going_on : List (List ℕ)) (begun taken handed : List ℕ) (from to : Place) → HandsOn listed (begun ++ taken) adapted going_on (begun ++ handed)
    → (adapted ≡ true → IsWhole from to) → (IsWhole from to → ⊥) → handed ≡ taken
plain_of listed true going_on begun taken handed from to hands whole other = absurd (other (whole refl))
plain_of listed false going_on begun taken handed from to (same, none) whole other = append_cancel_left begun handed taken same

not_whole_from : (from to : Place) → is_front from ≡ false → IsWhole from to → ⊥
not_whole_from from to other w = true≢false (sym (ap is_front w.comes) ∙ other)

not_whole_to : (from to : Place) → is_between to ≡ false → IsWhole from to → ⊥
not_whole_to from to other w = true≢false (sym (ap is_between w.ends) ∙ other)

-- the first object begins
start_objects : (listed : Option Tree) (stream preamble rest : List ℕ) → stream ≡ preamble ++ rest → HasPreamble stream preamble rest → InObjects listed stream Between [] rest preamble
start_objects listed stream preamble rest is has = record {
  preamble = preamble;
  rest = rest;
  is = is;
  has = has;
  objects = [];
  octets = [];
  begins = refl;
  cutter = fresh;
  leads = leads_nowhere fresh;
  is_at = (refl, refl);
  made = [];
  each = tt;
  out_is = sym (append-nil preamble);
}

module _ {listed : Option Tree} {stream : List ℕ} {place : Place} {begun left out : List ℕ} (o : InObjects listed stream place begun left out) (taken left_then : List ℕ) (split : left ≡ taken ++ left_then) where
  comes : o.octets ++ left ≡ (o.octets ++ taken) ++ left_then
  comes = ap (λ (l : List ℕ). o.octets ++ l) split ∙ sym (append_assoc o.octets taken left_then)

  -- octets of an object were handed on as they came
  grow : (to : Place) (begun_then : List ℕ) (cutter : Cutter) → LeadsOn o.cutter taken cutter → IsAt to cutter (o.octets ++ taken) begun_then → InObjects listed stream to begun_then left_then (out ++ taken)
  grow to begun_then cutter leads at = record {
    preamble = o.preamble;
    rest = o.rest;
    is = o.is;
    has = o.has;
    objects = o.objects;
    octets = o.octets ++ taken;
    begins = subst (λ (l : List ℕ). BeginsWith o.rest o.objects l) comes o.begins;
    cutter = cutter;
    leads = leads_trans fresh o.cutter cutter o.octets taken o.leads leads;
    is_at = at;
    made = o.made;
    each = o.each;
    out_is =
        ap (λ (l : List ℕ). l ++ taken) o.out_is ∙ append_assoc o.preamble (joined o.made ++ o.octets) taken
        ∙ ap (λ (l : List ℕ). o.preamble ++ l) (append_assoc (joined o.made) o.octets taken);
  }

  -- an object has ended
  push : (handed : List ℕ) → (is_begun ((o.octets ++ taken) ++ left_then) ≡ true) × (after_object ((o.octets ++ taken) ++ left_then) ≡ left_then)
      → IsHandedOn listed (o.octets ++ taken) (o.octets ++ handed) → InObjects listed stream Between [] left_then (out ++ handed)
  push handed (begins, after) handed_on =
      let object = o.octets ++ taken in
      let one = o.octets ++ handed in
      let all : joined o.made ++ one ≡ joined (o.made ++ one ∷ []) ++ [] =
      sym (append-nil (joined (o.made ++ one ∷ [])) ∙ flat_map-append (λ (l : List ℕ). l) o.made (one ∷ []) ∙ ap (λ (l : List ℕ). joined o.made ++ l) (append-nil one)) in
      record {
        preamble = o.preamble;
        rest = o.rest;
        is = o.is;
        has = o.has;
        objects = o.objects ++ object ∷ [];
        octets = [];
        begins = begins_more o.rest left_then object o.objects (subst (λ (l : List ℕ). BeginsWith o.rest o.objects l) comes o.begins) begins after;
        cutter = fresh;
        leads = leads_nowhere fresh;
        is_at = (refl, refl);
        made = o.made ++ one ∷ [];
        each = all_zip_more (IsHandedOn listed) o.objects o.made object one o.each handed_on;
        out_is =
            ap (λ (l : List ℕ). l ++ handed) o.out_is ∙ append_assoc o.preamble (joined o.made ++ o.octets) handed
            ∙ ap (λ (l : List ℕ). o.preamble ++ l) (append_assoc (joined o.made) o.octets handed ∙ all);
      }

  -- an object begins
  front_piece : (to : Place) (begun_then : List ℕ) → o.octets ≡ begun → begun_then ≡ begun_at to (begun ++ taken) → IsFrontPiece o.cutter begun taken to
      → InObjects listed stream to begun_then left_then (out ++ taken)
  front_piece to begun_then same kept (short_front front leads few) =
      grow (Front front) begun_then front.cutter leads (refl, ap (λ (l : List ℕ). l ++ taken) same ∙ sym kept)
  front_piece to begun_then same kept (long_front cutter leads long) = grow (Long cutter) begun_then cutter leads (refl, kept)

front_to : (from : Cutter) (begun taken : List ℕ) (to : Place) → IsFrontPiece from begun taken to → is_between to ≡ false
front_to from begun taken to (short_front front leads few) = refl
front_to from begun taken to (long_front cutter leads long) = refl

-- ---- one more piece

-- of a preamble
preamble_step : (listed : Option Tree) (stream out left taken left_then begun_then any : List ℕ) (from : LineSoFar) (next : Option LineSoFar) (to : Place) → stream ≡ out ++ left
    → may_begin_object stream ≡ false → Scans line.Nothing out (Some from) → left ≡ taken ++ left_then → Scans from taken next → to ≡ after_preamble next → begun_then ≡ begun_at to any
    → IsSofar listed stream to begun_then left_then (out ++ taken)
preamble_step listed stream out left taken left_then begun_then any from next to is other scans split goes to_is kept = at next to_is goes
  where
    whole : stream ≡ (out ++ taken) ++ left_then
    whole = is ∙ ap (λ (l : List ℕ). out ++ l) split ∙ sym (append_assoc out taken left_then)

    P : Place → List ℕ → Type 0
    P place begun = IsSofar listed stream place begun left_then (out ++ taken)

    at : (next : Option LineSoFar) → to ≡ after_preamble next → Scans from taken next → P to begun_then
    at (Some sofar) e goes =
        let none : begun_then ≡ [] = kept ∙ ap (λ (p : Place). begun_at p any) e in
        subst (λ (p : Place). P p begun_then) (sym e) (subst (P (Preamble sofar)) (sym none) (in_preamble sofar whole other (join_scans scans goes)))
    at None e goes =
        let none : begun_then ≡ [] = kept ∙ ap (λ (p : Place). begun_at p any) e in
        let has : HasPreamble stream (out ++ taken) left_then = inr (other, (None, join_scans scans goes, inl refl)) in
        subst (λ (p : Place). P p begun_then) (sym e) (subst (P Between) (sym none) (in_objects (start_objects listed stream (out ++ taken) left_then whole has)))

-- the front of an object
front_step : (listed : Option Tree) (stream out left taken left_then begun begun_then : List ℕ) (place to : Place) (from : Cutter) → IsSofar listed stream place begun left out
    → IsBeforeObject (Some left) place from → left ≡ taken ++ left_then → begun_then ≡ begun_at to (begun ++ taken) → IsFrontPiece from begun taken to
    → IsSofar listed stream to begun_then left_then (out ++ taken)
front_step listed stream out left taken left_then begun begun_then Start to from (not_begun is) (new, first) split kept piece =
    let o = start_objects listed stream [] left (sym is) (inl (subst (λ (l : List ℕ). may_begin_object l ≡ true) is first, refl)) in
    let same : o.cutter ≡ from = o.leads.none o.is_at.0 ∙ sym new in
    in_objects (front_piece o taken left_then split to begun_then o.is_at.0 kept (subst (λ (c : Cutter). IsFrontPiece c [] taken to) (sym same) piece))
front_step listed stream out left taken left_then begun begun_then (Preamble sofar) to from s before split kept piece = absurd before
front_step listed stream out left taken left_then begun begun_then Start to from (in_objects o) before split kept piece = absurd o.is_at
front_step listed stream out left taken left_then begun begun_then Between to from (in_objects o) new split kept piece =
    let same : o.cutter ≡ from = o.leads.none o.is_at.0 ∙ sym new in
    in_objects (front_piece o taken left_then split to begun_then (o.is_at.0 ∙ sym o.is_at.1) kept (subst (λ (c : Cutter). IsFrontPiece c begun taken to) (sym same) piece))
front_step listed stream out left taken left_then begun begun_then (Front front) to from (in_objects o) (sofar, empty) split kept piece =
    let same : o.cutter ≡ from = o.is_at.0 ∙ sym sofar in
    in_objects (front_piece o taken left_then split to begun_then o.is_at.1 kept (subst (λ (c : Cutter). IsFrontPiece c begun taken to) (sym same) piece))
front_step listed stream out left taken left_then begun begun_then (Long now) to from (in_objects o) (new, (next, ends, (tail, is))) split kept piece =
    let all : o.octets ++ [] ≡ o.octets = append-nil o.octets in
    let ended = ends_at o.octets left o.cutter o.leads next tail is (ap (λ (c : Cutter). ends_before c next) o.is_at.0 ∙ ends) in
    let at = subst (λ (l : List ℕ). (is_begun (l ++ left) ≡ true) × (after_object (l ++ left) ≡ left)) (sym all) ended in
    let p = push o [] left refl [] at (false, [], (refl, refl)) in
    let same : p.cutter ≡ from = p.leads.none p.is_at.0 ∙ sym new in
    let q = front_piece p taken left_then split to begun_then p.is_at.0 (kept ∙ ap (λ (l : List ℕ). begun_at to (l ++ taken)) o.is_at.1)
    (subst (λ (l : List ℕ). IsFrontPiece p.cutter l taken to) o.is_at.1 (subst (λ (c : Cutter). IsFrontPiece c begun taken to) (sym same) piece)) in
    in_objects (subst (λ (l : List ℕ). InObjects listed stream to begun_then left_then (l ++ taken)) (append-nil out) q)

-- a whole object, and octets of one that is too long
module _ (listed : Option Tree) (stream out left left_then begun begun_then handed : List ℕ) (adapted : Bool) (going_on : List (List ℕ)) (taken : List ℕ) (split : left ≡ taken ++ left_then) where
  abbrev Then : Place → Type 0
  Then to = IsSofar listed stream to begun_then left_then (out ++ handed)

  ended_so : (octets : List ℕ) (cutter : Cutter) → LeadsOn fresh (octets ++ taken) cutter → cutter.begun ≡ true → HasEnded (Some left) (Some left_then) cutter
      → (is_begun ((octets ++ taken) ++ left_then) ≡ true) × (after_object ((octets ++ taken) ++ left_then) ≡ left_then)
  ended_so octets cutter leads begun (inl (next, ends, (tail, is))) = ends_at (octets ++ taken) left_then cutter leads next tail is ends
  ended_so octets cutter leads begun (inr none) =
      let (after, begins) = ends_with (octets ++ taken) left_then cutter leads none in
      (begins ∙ begun, after)

  whole_step : (from : FrontCutter) (cutter : Cutter) → IsSofar listed stream (Front from) begun left out → from.cutter.begun ≡ true → LeadsOn from.cutter taken cutter
      → HasEnded (Some left) (Some left_then) cutter → HandsOn listed (begun ++ taken) adapted going_on (begun ++ handed) → begun_then ≡ [] → Then Between
  whole_step from cutter (in_objects o) begins leads ended hands none =
      let on : LeadsOn o.cutter taken cutter = subst (λ (c : Cutter). LeadsOn c taken cutter) (sym o.is_at.0) leads in
      let all = leads_trans fresh o.cutter cutter o.octets taken o.leads on in
      let hands_on = subst (λ (l : List ℕ). HandsOn listed (l ++ taken) adapted going_on (l ++ handed)) (sym o.is_at.1) hands in
      let p = push o taken left_then split handed (ended_so o.octets cutter all (leads_begun from.cutter cutter taken leads begins) ended) (adapted, going_on, hands_on) in
      subst (λ (b : List ℕ). IsSofar listed stream Between b left_then (out ++ handed)) (sym none) (in_objects p)

  long_step : (from : FrontCutter) (cutter : Cutter) → IsSofar listed stream (Front from) begun left out → LeadsOn from.cutter taken cutter → handed ≡ taken → begun_then ≡ [] → Then (Long cutter)
  long_step from cutter (in_objects o) leads same none =
      let on : LeadsOn o.cutter taken cutter = subst (λ (c : Cutter). LeadsOn c taken cutter) (sym o.is_at.0) leads in
      let p = grow o taken left_then split (Long cutter) begun_then cutter on (refl, none) in
      in_objects (subst (λ (l : List ℕ). InObjects listed stream (Long cutter) begun_then left_then (out ++ l)) (sym same) p)

  longer_step : (from cutter : Cutter) → IsSofar listed stream (Long from) begun left out → LeadsOn from taken cutter → handed ≡ taken → begun_then ≡ [] → Then (Long cutter)
  longer_step from cutter (in_objects o) leads same none =
      let on : LeadsOn o.cutter taken cutter = subst (λ (c : Cutter). LeadsOn c taken cutter) (sym o.is_at.0) leads in
      let p = grow o taken left_then split (Long cutter) begun_then cutter on (refl, none) in
      in_objects (subst (λ (l : List ℕ). InObjects listed stream (Long cutter) begun_then left_then (out ++ l)) (sym same) p)

  end_step : (from cutter : Cutter) → IsSofar listed stream (Long from) begun left out → LeadsOn from taken cutter → EndsBeforeNext (Some left) (Some left_then) cutter → handed ≡ taken
      → begun_then ≡ [] → Then Between
  end_step from cutter (in_objects o) leads (next, ends, (tail, is)) same none =
      let on : LeadsOn o.cutter taken cutter = subst (λ (c : Cutter). LeadsOn c taken cutter) (sym o.is_at.0) leads in
      let all = leads_trans fresh o.cutter cutter o.octets taken o.leads on in
      let p = push o taken left_then split handed (ends_at (o.octets ++ taken) left_then cutter all next tail is ends) (false, [], (ap (λ (l : List ℕ). o.octets ++ l) same, refl)) in
      subst (λ (b : List ℕ). IsSofar listed stream Between b left_then (out ++ handed)) (sym none) (in_objects p)

-- of a preamble
preamble_piece : (listed : Option Tree) (stream out left taken left_then begun begun_then handed : List ℕ) (place to : Place) (adapted : Bool) (going_on : List (List ℕ)) (from : LineSoFar)
    (next : Option LineSoFar) → IsSofar listed stream place begun left out → IsInPreamble (Some left) place from → left ≡ taken ++ left_then → begun_then ≡ begun_at to (begun ++ taken)
    → handed ≡ taken → Scans from taken next → to ≡ after_preamble next → IsSofar listed stream to begun_then left_then (out ++ handed)
preamble_piece listed stream out left taken left_then begun begun_then handed Start to adapted going_on from next (not_begun first) (new, other) split kept same scans is =
    subst (λ (h : List ℕ). IsSofar listed stream to begun_then left_then h) (sym same)
    (preamble_step listed stream [] left taken left_then begun_then taken from next to (sym first) (subst (λ (l : List ℕ). may_begin_object l ≡ false) first other)
    (subst (λ (l : LineSoFar). Scans line.Nothing [] (Some l)) (sym new) scans_none) split scans is kept)
preamble_piece listed stream out left taken left_then begun begun_then handed Start to adapted going_on from next (in_objects o) inside split kept same scans is = absurd o.is_at
preamble_piece listed stream out left taken left_then begun begun_then handed (Preamble now) to adapted going_on from next (in_preamble sofar first other before) inside split kept same scans is =
    subst (λ (h : List ℕ). IsSofar listed stream to begun_then left_then (out ++ h)) (sym same)
    (preamble_step listed stream out left taken left_then begun_then taken from next to first other
    (subst (λ (l : LineSoFar). Scans line.Nothing out (Some l)) (sym inside) before) split scans is kept)
preamble_piece listed stream out left taken left_then begun begun_then handed (Preamble now) to adapted going_on from next (in_objects o) inside split kept same scans is = absurd o.is_at
preamble_piece listed stream out left taken left_then begun begun_then handed Between to adapted going_on from next s inside split kept same scans is = absurd inside
preamble_piece listed stream out left taken left_then begun begun_then handed (Front front) to adapted going_on from next s inside split kept same scans is = absurd inside
preamble_piece listed stream out left taken left_then begun begun_then handed (Long now) to adapted going_on from next s inside split kept same scans is = absurd inside

-- no preamble goes on in an object
not_in_front : (left : List ℕ) (place : Place) (from : LineSoFar) → IsInPreamble (Some left) place from → is_front place ≡ false
not_in_front left Start from inside = refl
not_in_front left (Preamble now) from inside = refl
not_in_front left Between from inside = refl
not_in_front left (Front front) from inside = absurd inside
not_in_front left (Long now) from inside = refl

-- whatever it is
piece_step : (listed : Option Tree) (stream out left taken left_then begun begun_then handed : List ℕ) (place to : Place) (adapted : Bool) (going_on : List (List ℕ))
    → IsSofar listed stream place begun left out → left ≡ taken ++ left_then → begun_then ≡ begun_at to (begun ++ taken) → HandsOn listed (begun ++ taken) adapted going_on (begun ++ handed)
    → (adapted ≡ true → IsWhole place to) → IsPiece (Some left) (Some left_then) begun taken place to → IsSofar listed stream to begun_then left_then (out ++ handed)
piece_step listed stream out left taken left_then begun begun_then handed place to adapted going_on s split kept hands whole (of_preamble from inside (next, scans, is)) =
    let same = plain_of listed adapted going_on begun taken handed place to hands whole (not_whole_from place to (not_in_front left place from inside)) in
    preamble_piece listed stream out left taken left_then begun begun_then handed place to adapted going_on from next s inside split kept same scans is
piece_step listed stream out left taken left_then begun begun_then handed place to adapted going_on s split kept hands whole (of_front from before piece) =
    let same = plain_of listed adapted going_on begun taken handed place to hands whole (not_whole_to place to (front_to from begun taken to piece)) in
    subst (λ (h : List ℕ). IsSofar listed stream to begun_then left_then (out ++ h)) (sym same)
    (front_step listed stream out left taken left_then begun begun_then place to from s before split kept piece)
piece_step listed stream out left taken left_then begun begun_then handed place to adapted going_on s split kept hands whole (ends_whole from cutter begins leads ended) =
    whole_step listed stream out left left_then begun begun_then handed adapted going_on taken split from cutter s begins leads ended hands kept
piece_step listed stream out left taken left_then begun begun_then handed place to adapted going_on s split kept hands whole (gets_long from cutter begins leads much) =
    long_step listed stream out left left_then begun begun_then handed adapted going_on taken split from cutter s leads
    (plain_of listed adapted going_on begun taken handed (Front from) (Long cutter) hands whole (not_whole_to (Front from) (Long cutter) refl)) kept
piece_step listed stream out left taken left_then begun begun_then handed place to adapted going_on s split kept hands whole (stays_long from cutter leads) =
    longer_step listed stream out left left_then begun begun_then handed adapted going_on taken split from cutter s leads
    (plain_of listed adapted going_on begun taken handed (Long from) (Long cutter) hands whole (not_whole_to (Long from) (Long cutter) refl)) kept
piece_step listed stream out left taken left_then begun begun_then handed place to adapted going_on s split kept hands whole (ends_long from cutter leads ended) =
    end_step listed stream out left left_then begun begun_then handed adapted going_on taken split from cutter s leads ended
    (plain_of listed adapted going_on begun taken handed (Long from) Between hands whole (not_whole_from (Long from) Between refl)) kept

-- ---- all pieces

-- the whole input was handed on
stream_end : (listed : Option Tree) (stream : List ℕ) (place : Place) (begun out : List ℕ) → IsSofar listed stream place begun [] out → HandsOnStream listed stream out
stream_end listed stream place begun out (not_begun is) = record {
  preamble = [];
  rest = [];
  is = sym is;
  has = inl (ap may_begin_object (sym is), refl);
  objects = [];
  left = [];
  begins = refl;
  empty = sym (cutter_begins []);
  made = [];
  each = tt;
  handed_is = refl;
}
stream_end listed stream place begun out (in_preamble sofar is other scans) = record {
  preamble = out;
  rest = [];
  is = is;
  has = inr (other, (Some sofar, scans, inr refl));
  objects = [];
  left = [];
  begins = refl;
  empty = sym (cutter_begins []);
  made = [];
  each = tt;
  handed_is = sym (append-nil out);
}
stream_end listed stream place begun out (in_objects o) = at o.cutter.begun refl
  where
    at : (b : Bool) → o.cutter.begun ≡ b → HandsOnStream listed stream out
    at false e = record {
      preamble = o.preamble;
      rest = o.rest;
      is = o.is;
      has = o.has;
      objects = o.objects;
      left = o.octets ++ [];
      begins = o.begins;
      empty = begun_is o.octets [] o.cutter o.leads ∙ e;
      made = o.made;
      each = o.each;
      handed_is = o.out_is ∙ ap (λ (l : List ℕ). o.preamble ++ (joined o.made ++ l)) (sym (append-nil o.octets));
    }
    at true e =
        let (after, begins) = ends_with (o.octets ++ []) [] o.cutter (subst (λ (l : List ℕ). LeadsOn fresh l o.cutter) (sym (append-nil o.octets)) o.leads) refl in
        let p = push o [] [] refl [] (begins ∙ e, after) (false, [], (refl, refl)) in
        record {
          preamble = p.preamble;
          rest = p.rest;
          is = p.is;
          has = p.has;
          objects = p.objects;
          left = [];
          begins = subst (λ (l : List ℕ). BeginsWith p.rest p.objects (l ++ [])) p.is_at.0 p.begins;
          empty = sym (cutter_begins []);
          made = p.made;
          each = p.each;
          handed_is = sym (append-nil out) ∙ p.out_is ∙ ap (λ (l : List ℕ). p.preamble ++ (joined p.made ++ l)) p.is_at.0;
        }

-- so it is after some pieces
abbrev HasPassed : Option Tree → Option (List ℕ) → Option (List ℕ) → AtDoor → Option (List ℕ) → Type 0
HasPassed listed input output at written = IfSome input (λ stream. IfSome output (λ before.
    (left : List ℕ) × (out : List ℕ) × (at.left ≡ Some left) × (written ≡ Some (before ++ out)) × IsSofar listed stream at.place at.begun left out))

passed : (left : List ℕ) (now : Option (List ℕ)) (taken : List ℕ) → Consumes (Some left) now taken → (behind : List ℕ) × (now ≡ Some behind)
passed left None taken h = absurd h
passed left (Some behind) taken h = (behind, refl)

appended : (sofar : List ℕ) (written : Option (List ℕ)) (handed : List ℕ) → Appends (Some sofar) written handed → written ≡ Some (sofar ++ handed)
appended sofar None handed h = absurd h
appended sofar (Some w) handed h = ap (λ (l : List ℕ). Some l) h

next_passed : (listed : Option Tree) (input output : Option (List ℕ)) (mid last : AtDoor) (sofar written : Option (List ℕ)) (adapted : Bool) (going_on : List (List ℕ)) (handed : List ℕ)
    → HasPassed listed input output mid sofar → PassesAt listed mid last adapted going_on handed → Appends sofar written handed → HasPassed listed input output last written
next_passed listed None output mid last sofar written adapted going_on handed h p appends = tt
next_passed listed (Some stream) None mid last sofar written adapted going_on handed h p appends = tt
next_passed listed (Some stream) (Some before) mid last sofar written adapted going_on handed (left, out, left_is, sofar_is, s) p appends =
    let Q : Option (List ℕ) → Option (List ℕ) → Type 0 = λ a b. Passes listed a b mid.place last.place mid.begun last.begun adapted going_on handed in
    let q : Q (Some left) last.left = subst (λ a. Q a last.left) left_is p in
    let (behind, behind_is) = passed left last.left q.taken q.consumed in
    let r : Q (Some left) (Some behind) = subst (λ b. Q (Some left) b) behind_is q in
    let written_is = appended (before ++ out) written handed (subst (λ (w : Option (List ℕ)). Appends w written handed) sofar_is appends) in (
      behind,
      out ++ handed,
      behind_is,
      written_is ∙ ap (λ (l : List ℕ). Some l) (append_assoc before out handed),
      piece_step listed stream out left r.taken behind mid.begun last.begun handed mid.place last.place adapted going_on s r.consumed r.kept r.hands_on r.whole r.piece,
    )

first_passed : (listed : Option Tree) (input output : Option (List ℕ)) (at : AtDoor) → at.left ≡ input → at.place ≡ Start → at.begun ≡ [] → HasPassed listed input output at output
first_passed listed None output at is start none = tt
first_passed listed (Some stream) None at is start none = tt
first_passed listed (Some stream) (Some before) at is start none = (
  stream,
  [],
  is,
  ap (λ (l : List ℕ). Some l) (sym (append-nil before)),
  subst (λ (p : Place). IsSofar listed stream p at.begun stream []) (sym start) (subst (λ (b : List ℕ). IsSofar listed stream Start b stream []) (sym none) (not_begun refl)),
)

all_passed : (listed : Option Tree) (first last : AtDoor) (output written : Option (List ℕ)) → first.place ≡ Start → first.begun ≡ [] → HandsOnAll listed first last output written
    → HasPassed listed first.left output last written
all_passed listed first last output written start none (none_passed at out) = first_passed listed first.left output first refl start none
all_passed listed first last output written start none (one_passed _ mid _ _ sofar _ adapted going_on handed all p appends) =
    next_passed listed first.left output mid last sofar written adapted going_on handed (all_passed listed first mid output sofar start none all) p appends

-- up to the end of the input
pub whole_stream : (listed : Option Tree) (first mid last : AtDoor) (output sofar written : Option (List ℕ)) (adapted : Bool) (going_on : List (List ℕ)) (handed : List ℕ) → first.place ≡ Start
    → first.begun ≡ [] → HandsOnAll listed first mid output sofar → PassesAt listed mid last adapted going_on handed → Appends sofar written handed → handed ≡ []
    → WritesStream listed first.left output written
whole_stream listed first mid last output sofar written adapted going_on handed start none all p appends empty =
    let before = all_passed listed first mid output sofar start none all in
    at first.left output before (next_passed listed first.left output mid last sofar written adapted going_on handed before p appends)
  where
    at : (input output : Option (List ℕ)) → HasPassed listed input output mid sofar → HasPassed listed input output last written → WritesStream listed input output written
    at None output h k = tt
    at (Some stream) None h k = tt
    at (Some stream) (Some was) (left, out, left_is, sofar_is, s) (behind, out_then, behind_is, written_is, s_then) =
        let q = subst (λ a. Passes listed a last.left mid.place last.place mid.begun last.begun adapted going_on handed) left_is p in
        let end : behind ≡ [] = subst (λ (l : Option (List ℕ)). IsAtEnd l) behind_is (q.end (ap length empty)) in
        (out_then, written_is, stream_end listed stream last.place last.begun out_then (subst (λ (l : List ℕ). IsSofar listed stream last.place last.begun l out_then) end s_then))
