-- What a reader with a buffer lends.
use Rattle.std.proofs.Common.{◌≡◌, ◌≤◌, ℕ, Bool, true, false, if◌then◌else◌, List, [], ◌∷◌, ◌++◌, length, take, drop, Option, Some, None, IfSome, OnSome, ◌∙◌, refl, ap, sym, subst, append-nil, arith, take-append-drop, true≢false}
use Rattle.std.proofs.lemmas.List.{append_assoc, take-append-le}
use Rattle.std.proofs.Math.Seq.{take-append_seam}
use Rattle.std.specs.Io.{StartsWith}
use Rattle.std.specs.Io.BufRead.{DropsConsumable}
use Rattle.std.specs.Io.KnownBytes.{Consumes, Keeps, IsAtEnd, prepend_known}
use Rattle.std.proofs.KnownBytes.{starts_with_rest}
use Rattle.sched_devices.specs.Input.{ForTaken, MayFollow, TakesOctets}

-- a buffer that is empty after it was filled is at the end
pub filled_end : (a b : Option (List ℕ)) (shown buffered : List ℕ) → IfSome a (λ xs. length shown ≡ 0 → xs ≡ []) → Keeps a b → IfSome a (λ _. length shown ≤ length buffered)
    → length buffered ≡ 0 → OnSome a (IsAtEnd b)
filled_end None b shown buffered end kept few none = tt
filled_end (Some xs) None shown buffered end kept few none = absurd kept
filled_end (Some xs) (Some ys) shown buffered end kept few none = kept ∙ end (omega (arith, few, none))

-- what was taken of a reader, up to its end, is all that it had
pub all_taken : (a b c : Option (List ℕ)) (done taken : List ℕ) → Consumes a b done → Consumes b c taken → OnSome b (IsAtEnd c) → IfSome a (λ all. done ++ taken ≡ all)
all_taken None b c done taken first second end = tt
all_taken (Some x) None c done taken first second end = absurd first
all_taken (Some x) (Some y) None done taken first second end = absurd second
all_taken (Some x) (Some y) (Some z) done taken first second end =
    ap (λ l. done ++ l) (sym (second ∙ ap (λ l. taken ++ l) end ∙ append-nil taken)) ∙ sym first

-- what is lent, and is taken in part
module _ (lent rest : List ℕ) (count : ℕ) (within : count ≤ length lent) (rest_is : rest ≡ drop count lent) where
  whole_lent : take count lent ++ rest ≡ lent
  whole_lent = ap (λ z. take count lent ++ z) rest_is ∙ take-append-drop count lent

  begins_before : (octets : List ℕ) → StartsWith octets rest → StartsWith (take count lent ++ octets) lent
  begins_before octets h =
      let more : List ℕ = drop (length rest) octets in
      let is : take count lent ++ octets ≡ lent ++ more =
      ap (λ z. take count lent ++ z) (starts_with_rest octets rest h) ∙ sym (append_assoc (take count lent) rest more) ∙ ap (λ z. z ++ more) whole_lent in
      ap (take (length lent)) is ∙ take-append_seam lent more

  follows_before : (has_ended : Bool) (octets : List ℕ) → MayFollow rest has_ended octets → MayFollow lent has_ended (take count lent ++ octets)
  follows_before has_ended octets h =
      record { begins = begins_before octets h.begins; ends = λ e. ap (λ z. take count lent ++ z) (h.ends e) ∙ whole_lent }

  taken_known : (known known' : Option (List ℕ)) → DropsConsumable known known' (Some (length lent)) count → IfSome known (MayFollow lent false) → Consumes known known' (take count lent)
  taken_known None known' drops h = tt
  taken_known (Some xs) known' drops h =
      let front : take count xs ≡ take count lent =
      ap (take count) (starts_with_rest xs lent h.begins) ∙ take-append-le count lent (drop (length lent) xs) within in
      let split : xs ≡ take count lent ++ drop count xs = sym (take-append-drop count xs) ∙ ap (λ z. z ++ drop count xs) front in
      subst (λ k. Consumes (Some xs) k (take count lent)) (sym (drops within)) split

  pub device_taken_of : (has_ended : Bool) (known known' : Option (List ℕ)) → DropsConsumable known known' (Some (length lent)) count → IfSome known (MayFollow lent false)
      → TakesOctets (record { known = if has_ended then Some lent else known; lent = lent; has_ended = has_ended }) (take count lent)
      (record { known = if has_ended then Some rest else known'; lent = rest; has_ended = has_ended })
  device_taken_of true known known' drops h = record { consumed = sym whole_lent; follows = follows_before true }
  device_taken_of false known known' drops h = record { consumed = taken_known known known' drops h; follows = follows_before false }

pub device_taken : (lent rest : List ℕ) (has_ended : Bool) (count : ℕ) (known known' : Option (List ℕ)) → count ≤ length lent → rest ≡ drop count lent → DropsConsumable known known' (Some (length lent)) count
    → IfSome known (MayFollow lent false)
    → TakesOctets (record { known = if has_ended then Some lent else known; lent = lent; has_ended = has_ended }) (take count lent)
    (record { known = if has_ended then Some rest else known'; lent = rest; has_ended = has_ended })
device_taken lent rest has_ended count known known' within is drops h = device_taken_of lent rest count within is has_ended known known' drops h

-- ---- a device that goes on

pub going_keeps : (lent lent' : List ℕ) (known known' : Option (List ℕ)) (was is : Bool) → was ≡ false → is ≡ false → Keeps known known'
    → Keeps (if was then Some lent else known) (if is then Some lent' else known')
going_keeps lent lent' known known' true is was_not _ h = absurd (true≢false was_not)
going_keeps lent lent' known known' false true _ is_not h = absurd (true≢false is_not)
going_keeps lent lent' known known' false false _ _ h = h

consumes_none : (a b : Option (List ℕ)) → Keeps a b → Consumes a b []
consumes_none None b h = tt
consumes_none (Some xs) None h = absurd h
consumes_none (Some xs) (Some ys) h = sym h

follows_nothing : (lent : List ℕ) (octets : List ℕ) → length lent ≡ 0 → MayFollow lent false octets
follows_nothing [] octets none = record { begins = refl; ends = λ e. absurd (true≢false (sym e)) }
follows_nothing (x ∷ xs) octets none = absurd (omega arith)

pub going_taken : (lent lent' : List ℕ) (known known' : Option (List ℕ)) (was is : Bool) → was ≡ false → is ≡ false → Keeps known known' → length lent ≡ 0
    → TakesOctets (record { known = if was then Some lent else known; lent = lent; has_ended = was }) [] (record { known = if is then Some lent' else known'; lent = lent'; has_ended = is })
going_taken lent lent' known known' true is was_not _ h none = absurd (true≢false was_not)
going_taken lent lent' known known' false true _ is_not h none = absurd (true≢false is_not)
going_taken lent lent' known known' false false _ _ h none = record { consumed = consumes_none known known' h; follows = λ octets _. follows_nothing lent octets none }

-- ---- nothing is known

pub lent_taken : (lent rest : List ℕ) (has_ended : Bool) (count : ℕ) → count ≤ length lent → rest ≡ drop count lent
    → TakesOctets (record { known = None; lent = lent; has_ended = has_ended }) (take count lent) (record { known = None; lent = rest; has_ended = has_ended })
lent_taken lent rest has_ended count within is = record { consumed = tt; follows = follows_before lent rest count within is has_ended }

pub nothing_taken : (lent rest : List ℕ) (was is : Bool) → was ≡ false → length lent ≡ 0
    → TakesOctets (record { known = None; lent = lent; has_ended = was }) [] (record { known = None; lent = rest; has_ended = is })
nothing_taken lent rest true is goes_on none = absurd (true≢false goes_on)
nothing_taken lent rest false is _ none = record { consumed = tt; follows = λ octets _. follows_nothing lent octets none }

-- ---- what is said of the octets that were taken

pub consumes_back : (taken : List ℕ) (left : Option (List ℕ)) → Consumes (prepend_known taken left) left taken
consumes_back taken None = tt
consumes_back taken (Some xs) = refl

prepend_more : (first second : List ℕ) (left : Option (List ℕ)) → prepend_known first (prepend_known second left) ≡ prepend_known (first ++ second) left
prepend_more first second None = refl
prepend_more first second (Some xs) = ap Some (sym (append_assoc first second xs))

prepend_nothing : (left : Option (List ℕ)) → left ≡ prepend_known [] left
prepend_nothing None = refl
prepend_nothing (Some xs) = refl

follows_back : (lent lent' : List ℕ) (has_ended has_ended' : Bool) (taken : List ℕ) → ((octets : List ℕ) → MayFollow lent' has_ended' octets → MayFollow lent has_ended (taken ++ octets))
    → (left : Option (List ℕ)) → IfSome left (MayFollow lent' has_ended') → IfSome (prepend_known taken left) (MayFollow lent has_ended)
follows_back lent lent' has_ended has_ended' taken back None follows = tt
follows_back lent lent' has_ended has_ended' taken back (Some xs) follows = back xs follows

-- where nothing was taken
pub for_nothing : {Reader : Type 0} (Takes : Reader → List ℕ → Reader → Type 0) (lent : Reader → List ℕ) (has_ended : Reader → Bool) (a b : Reader) (P : Option (List ℕ) → Option (List ℕ) → Type 0)
    → Takes a [] b → ((left : Option (List ℕ)) → P left left) → ForTaken Takes lent has_ended a b P
for_nothing Takes lent has_ended a b P takes all = record { taken = []; takes = takes; holds = λ left follows. subst (λ z. P z left) (prepend_nothing left) (all left) }

-- what was taken in turn
pub for_both : {Reader : Type 0} (Takes : Reader → List ℕ → Reader → Type 0) (lent : Reader → List ℕ) (has_ended : Reader → Bool) (a b c : Reader) (P Q R : Option (List ℕ) → Option (List ℕ) → Type 0)
    → ((a b c : Reader) (first second : List ℕ) → Takes a first b → Takes b second c → Takes a (first ++ second) c)
    → ((a b : Reader) (taken octets : List ℕ) → Takes a taken b → MayFollow (lent b) (has_ended b) octets → MayFollow (lent a) (has_ended a) (taken ++ octets))
    → ForTaken Takes lent has_ended a b P → ForTaken Takes lent has_ended b c Q
    → ((x y z : Option (List ℕ)) → P x y → Q y z → IfSome z (MayFollow (lent c) (has_ended c)) → R x z) → ForTaken Takes lent has_ended a c R
for_both Takes lent has_ended a b c P Q R more back one two join = record {
  taken = one.taken ++ two.taken;
  takes = more a b c one.taken two.taken one.takes two.takes;
  holds = λ left follows.
      let mid = prepend_known two.taken left in
      let still = follows_back (lent b) (lent c) (has_ended b) (has_ended c) two.taken (λ octets. back b c two.taken octets two.takes) left follows in
      subst (λ z. R z left) (prepend_more one.taken two.taken left) (join (prepend_known one.taken mid) mid left (one.holds mid still) (two.holds left follows) follows);
}

-- what follows from it
pub for_each : {Reader : Type 0} (Takes : Reader → List ℕ → Reader → Type 0) (lent : Reader → List ℕ) (has_ended : Reader → Bool) (a b : Reader) (P Q : Option (List ℕ) → Option (List ℕ) → Type 0)
    → ForTaken Takes lent has_ended a b P → ((x y : Option (List ℕ)) → P x y → Q x y) → ForTaken Takes lent has_ended a b Q
for_each Takes lent has_ended a b P Q one leads = record { taken = one.taken; takes = one.takes; holds = λ left follows. leads (prepend_known one.taken left) left (one.holds left follows) }

-- it holds of what is known
pub known_of : {Reader : Type 0} (Takes : Reader → List ℕ → Reader → Type 0) (lent : Reader → List ℕ) (has_ended : Reader → Bool) (known : Reader → Option (List ℕ)) (a b : Reader) (P : Option (List ℕ) → Option (List ℕ) → Type 0)
    → ((s : Reader) → IfSome (known s) (MayFollow (lent s) (has_ended s))) → ((a b : Reader) (taken : List ℕ) → Takes a taken b → Consumes (known a) (known b) taken)
    → ForTaken Takes lent has_ended a b P → ((left : Option (List ℕ)) → P None None → P None left) → P (known a) (known b)
known_of Takes lent has_ended known a b P follow consume one forget = at (known a) (known b) (follow b) (consume a b one.taken one.takes)
  where
    at : (x y : Option (List ℕ)) → IfSome y (MayFollow (lent b) (has_ended b)) → Consumes x y one.taken → P x y
    at None y follows consumed = forget y (one.holds None tt)
    at (Some xs) None follows consumed = absurd consumed
    at (Some xs) (Some ys) follows consumed = subst (λ z. P (Some z) (Some ys)) (sym consumed) (one.holds (Some ys) follows)
