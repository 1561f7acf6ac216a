-- The statements of a certificate, judged one after another.
use Rattle.std.proofs.Common.{◌≡◌, ◌∙◌, ap, sym, refl, subst, arith, ℕ, zero, suc, ◌+◌, ◌<◌, ◌≤◌, List, [], ◌∷◌, ◌++◌, length, map, take, drop, get_or, inl, inr, true, false, Bool}
use Rattle.std.specs.Prelude.{All, Contains, MatchBool, Option, Some, None}
use Rattle.std.proofs.lemmas.List.{append_assoc, take_more, take-append-drop, drop_more, length-map}
use Rattle.std.proofs.lemmas.List.Elements.{All-nil, All-cons, All-append, All-weaker}
use Rattle.std.proofs.lemmas.List.Sums.{sum_by-cons, sum_by-append}
use Rattle.profile.specs.checker.Certificates.{Claims, Group, Pair, Statement, OfGroup, OfPair, IsClaims, IsApart, IsPair, groups_of, statements, StatementHolds, StatementFails, IsNamedBy}
use Rattle.profile.specs.events.Confirmed.{Confirmed}
use Rattle.clash_check.specs.Counted.{IsStatementCount, AreCounts, total}
use Rattle.clash_check.specs.Entries.{IsMore, HasCompared, FailsDrawn, IsStatementDrawn, AllHold, OneFails, AreJudged, ArePairOf}
use Rattle.clash_check.proofs.PlacedLemmas.{zip_split}

-- ---- how many

more_then : (old mid new m n : ℕ) → IsMore old mid m → IsMore mid new n → IsMore old new (m + n)
more_then old mid new m n h k = omega (arith, h, k)

-- some of it after all of those before
fails_then : (Compared : Type 0) (old mid new m most : ℕ) → IsMore old mid m → FailsDrawn Compared mid new most → FailsDrawn Compared (old + m) new most
fails_then Compared old mid new m most so_far (inl (compared, (n, some, few, is))) = inl (compared, (n, some, few, omega (arith, so_far, is)))
fails_then Compared old mid new m most so_far (inr (none, is)) = inr (none, omega (arith, so_far, is))

total_joined : (us vs : List ℕ) → total (us ++ vs) ≡ total us + total vs
total_joined us vs = sum_by-append (λ n. n) us vs

-- ---- some after others

module _ (all : Confirmed) (xs : List Statement) (old mid : ℕ) (first : AllHold all xs old mid) where
  pub all_hold_then : (ys : List Statement) (new : ℕ) → AllHold all ys mid new → AllHold all (xs ++ ys) old new
  all_hold_then ys new then = record {
    hold = All-append (StatementHolds all) xs ys first.hold then.hold;
    drawn = λ counts are.
        let (us, vs, e, f, g) = zip_split (IsStatementCount all) xs ys counts are in
        subst (λ l. IsMore old new (total l)) (sym e) (subst (IsMore old new) (sym (total_joined us vs)) (more_then old mid new (total us) (total vs) (first.drawn us f) (then.drawn vs g)));
  }

  pub one_fails_then : (ys : List Statement) (i j new : ℕ) → OneFails all ys i j mid new → OneFails all (xs ++ ys) i j old new
  one_fails_then ys i j new f = record {
    failing = f.failing;
    stop = record {
      before = xs ++ f.stop.before;
      after = f.stop.after;
      are = ap (λ l. xs ++ l) f.stop.are ∙ sym (append_assoc xs f.stop.before (f.failing ∷ f.stop.after));
      hold = All-append (StatementHolds all) xs f.stop.before first.hold f.stop.hold;
      fails = f.stop.fails;
    };
    named = f.named;
    drawn = λ counts most are is.
        let (us, vs, e, g, h) = zip_split (IsStatementCount all) xs f.stop.before counts are in
        let more : old + total counts ≡ (old + total vs) + total us = sums us vs counts e in
        subst (λ n. FailsDrawn (HasCompared all f.failing) n new most) (sym more) (moved us vs most (first.drawn us g) (f.drawn vs most h is));
  }
    where
      sums : (us vs counts : List ℕ) → counts ≡ us ++ vs → old + total counts ≡ (old + total vs) + total us
      sums us vs counts e = let t = ap total e ∙ total_joined us vs in omega (arith, t)

      moved : (us vs : List ℕ) (most : ℕ) → IsMore old mid (total us) → FailsDrawn (HasCompared all f.failing) (mid + total vs) new most
          → FailsDrawn (HasCompared all f.failing) ((old + total vs) + total us) new most
      moved us vs most so_far drawn =
          fails_then (HasCompared all f.failing) (old + total vs) (mid + total vs) new (total us) most (let s = so_far in omega (arith, s)) drawn

  pub judged_then : (ys : List Statement) (found : Option (ℕ × ℕ)) (new : ℕ) → AreJudged all ys found mid new → AreJudged all (xs ++ ys) found old new
  judged_then ys None new h = all_hold_then ys new h
  judged_then ys (Some p) new h = one_fails_then ys p.0 p.1 new h

-- those after the first that doesn't hold say nothing
pub one_fails_before : (all : Confirmed) (xs ys : List Statement) (i j old new : ℕ) → OneFails all xs i j old new → OneFails all (xs ++ ys) i j old new
one_fails_before all xs ys i j old new f = record {
  failing = f.failing;
  stop = record {
    before = f.stop.before;
    after = f.stop.after ++ ys;
    are = ap (λ l. l ++ ys) f.stop.are ∙ append_assoc f.stop.before (f.failing ∷ f.stop.after) ys;
    hold = f.stop.hold;
    fails = f.stop.fails;
  };
  named = f.named;
  drawn = f.drawn;
}

-- ---- the first of them

pub none_hold : (all : Confirmed) (n : ℕ) → AllHold all [] n n
none_hold all n = record { hold = All-nil (StatementHolds all); drawn = none }
  where
    none : (counts : List ℕ) → AreCounts all [] counts → IsMore n n (total counts)
    none [] are = omega arith
    none (c ∷ counts) are = absurd are

one_holds : (all : Confirmed) (one : Statement) (old new : ℕ) → StatementHolds all one → ((n : ℕ) → IsStatementCount all one n → IsMore old new n) → AllHold all (one ∷ []) old new
one_holds all one old new holds drawn = record { hold = All-cons (StatementHolds all) one [] holds (All-nil (StatementHolds all)); drawn = only }
  where
    only : (counts : List ℕ) → AreCounts all (one ∷ []) counts → IsMore old new (total counts)
    only [] are = absurd are
    only (n ∷ []) (is, none) =
        let s = sum_by-cons (λ (n : ℕ). n) n [] in
        let m = drawn n is in
        omega (arith, s, m)
    only (n ∷ (m ∷ counts)) (is, none) = absurd none

-- the first k hold
pub record AreHeldTo (all : Confirmed) (those : List Statement) (k : ℕ) (calendar : Confirmed) (old new : ℕ) : Type 0 where
  pub same : calendar ≡ all
  pub so_far : AllHold all (take k those) old new

pub held_first : (all : Confirmed) (those : List Statement) (n : ℕ) → AreHeldTo all those 0 all n n
held_first all those n = record { same = refl; so_far = none_hold all n }

module _ (all : Confirmed) (those : List Statement) (k : ℕ) (calendar : Confirmed) (old mid new : ℕ) (within : k < length those) (at : AreHeldTo all those k calendar old mid)
    (one : Statement) (is : one ≡ get_or those k one) where
  pub held_next : (calendar' : Confirmed) → calendar' ≡ calendar → StatementHolds all one → ((n : ℕ) → IsStatementCount all one n → IsMore mid new n) → AreHeldTo all those (k + 1) calendar' old new
  held_next calendar' same holds drawn = record {
    same = same ∙ at.same;
    so_far = subst (λ l. AllHold all l old new) (ap (λ x. take k those ++ x ∷ []) is ∙ sym (take_more those k one within))
        (all_hold_then all (take k those) old mid at.so_far (one ∷ []) new (one_holds all one mid new holds drawn));
  }

  pub held_failing : StatementFails all one → (i j : ℕ) → IsNamedBy one i j → ((n : ℕ) → IsStatementCount all one n → FailsDrawn (HasCompared all one) mid new n) → OneFails all those i j old new
  held_failing fails i j named drawn = record {
    failing = one;
    stop = record {
      before = take k those;
      after = drop (k + 1) those;
      are = sym (take-append-drop k those) ∙ ap (λ l. take k those ++ l) (drop_more those k one within ∙ ap (λ x. x ∷ drop (k + 1) those) (sym is));
      hold = at.so_far.hold;
      fails = fails;
    };
    named = named;
    drawn = λ counts most are counted. fails_then (HasCompared all one) old mid new (total counts) most (at.so_far.drawn counts are) (drawn most counted);
  }

  -- by a judgement of it
  module _ (r : Bool) (judged : MatchBool r (StatementHolds calendar one) (StatementFails calendar one)) (drawn : (n : ℕ) → IsStatementCount calendar one n → IsStatementDrawn calendar one r mid new n) where
    pub judged_next : r ≡ true → (calendar' : Confirmed) → calendar' ≡ calendar → AreHeldTo all those (k + 1) calendar' old new
    judged_next e calendar' same =
        held_next calendar' same (subst (λ x. StatementHolds x one) at.same (subst (λ b. MatchBool b (StatementHolds calendar one) (StatementFails calendar one)) e judged))
        (subst (λ x. (n : ℕ) → IsStatementCount x one n → IsMore mid new n) at.same (subst (λ b. (n : ℕ) → IsStatementCount calendar one n → IsStatementDrawn calendar one b mid new n) e drawn))

    pub judged_failing : r ≡ false → (i j : ℕ) → IsNamedBy one i j → OneFails all those i j old new
    judged_failing e i j named =
        held_failing (subst (λ x. StatementFails x one) at.same (subst (λ b. MatchBool b (StatementHolds calendar one) (StatementFails calendar one)) e judged)) i j named
        (subst (λ x. (n : ℕ) → IsStatementCount x one n → FailsDrawn (HasCompared x one) mid new n) at.same
        (subst (λ b. (n : ℕ) → IsStatementCount calendar one n → IsStatementDrawn calendar one b mid new n) e drawn))

-- ---- of what is mapped

get_or-mapped : {X Y : Type 0} (f : X → Y) (xs : List X) (k : ℕ) (d : X) (e : Y) → k < length xs → get_or (map f xs) k e ≡ f (get_or xs k d)
get_or-mapped f [] k d e l = absurd (omega (arith, l))
get_or-mapped f (x ∷ xs) zero d e l = refl
get_or-mapped f (x ∷ xs) (suc k) d e l = get_or-mapped f xs k d e (omega (arith, l))

pub mapped_at : {X Y : Type 0} (f : X → Y) (xs : List X) (k : ℕ) (x : X) → k < length xs → x ≡ get_or xs k x → f x ≡ get_or (map f xs) k (f x)
mapped_at f xs k x l e = ap f e ∙ sym (get_or-mapped f xs k x (f x) l)

pub mapped_in : {X Y : Type 0} (f : X → Y) (xs : List X) (x : X) → Contains xs x → Contains (map f xs) (f x)
mapped_in f xs x (k, l, e) = let n = length-map xs f in (k, omega (arith, n, l), get_or-mapped f xs k x (f x) l ∙ ap f e)

-- the statement of an element of a list
module _ {X Y : Type 0} (say : X → Y) (state : Y → Statement) (xs : List X) (k : ℕ) (x : X) (l : k < length xs) (is : x ≡ get_or xs k x) where
  pub stated_within : k < length (map state (map say xs))
  stated_within = let m = length-map xs say in let n = length-map (map say xs) state in omega (arith, l, m, n)

  pub stated_at : state (say x) ≡ get_or (map state (map say xs)) k (state (say x))
  stated_at = mapped_at state (map say xs) k (say x) (let m = length-map xs say in omega (arith, l, m)) (mapped_at say xs k x l is)

  pub said_in : Contains (map say xs) (say x)
  said_in = mapped_in say xs x (k, l, sym is)

-- ---- groups, and then pairs

pub pairs_of : (all : Confirmed) (c : Claims) → IsClaims c → c.series ≡ length all.series → All (ArePairOf (length all.series)) c.pairs
pairs_of all c claims counts =
    All-weaker (IsApart c.series (groups_of c)) (ArePairOf (length all.series)) (λ p apart. (subst (λ n. IsPair n p.first p.second) counts apart.pair, apart.entry)) c.pairs claims.pairs

pub group_fails : (all : Confirmed) (c : Claims) (groups : List Group) → groups ≡ groups_of c → (i j old new : ℕ) → OneFails all (map OfGroup groups) i j old new → OneFails all (statements c) i j old new
group_fails all c groups are i j old new f =
    one_fails_before all (map OfGroup (groups_of c)) (map OfPair c.pairs) i j old new (subst (λ l. OneFails all (map OfGroup l) i j old new) are f)

pub all_judged : (all calendar : Confirmed) (c : Claims) (groups : List Group) (pairs : List Pair) → groups ≡ groups_of c → pairs ≡ c.pairs → calendar ≡ all → (old mid new : ℕ)
    → AllHold all (map OfGroup groups) old mid → (found : Option (ℕ × ℕ)) → AreJudged calendar (map OfPair pairs) found mid new → AreJudged all (statements c) found old new
all_judged all calendar c groups pairs are too same old mid new first found judged =
    judged_then all (map OfGroup (groups_of c)) old mid (subst (λ l. AllHold all (map OfGroup l) old mid) are first) (map OfPair c.pairs) found new
    (subst (λ (x : Confirmed). AreJudged x (map OfPair c.pairs) found mid new) same (subst (λ l. AreJudged calendar (map OfPair l) found mid new) too judged))
