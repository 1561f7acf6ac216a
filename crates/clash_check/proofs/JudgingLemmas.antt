-- The judgement of a certificate by what is drawn.
use Rattle.std.proofs.Common.{◌≡◌, ◌∙◌, ap, sym, refl, subst, inl, inr, ℕ, zero, suc, ◌+◌, ◌-◌, ◌≤◌, arith, List, [], ◌∷◌}
use Rattle.std.specs.Prelude.{Some, Contains}
use Rattle.std.specs.List.{slice_get}
use Rattle.std.proofs.lemmas.Option.{slice_get-get_or}
use Rattle.profile.specs.checker.Instances.{AreClear, HasClash}
use Rattle.profile.specs.checker.Certificates.{Claims, Entry, End, Span, Res, InGroup, IsClaims, IsSeriesAt, EntryHolds, StatementsHold, HasCounts, HasFailingStatement, HasClashes, statements}
use Rattle.profile.specs.events.Events.{Event}
use Rattle.profile.specs.events.Starts.{IsInstance}
use Rattle.profile.specs.events.Confirmed.{Confirmed, IsOneOf}
use Rattle.profile.specs.events.Residues.{ResiduesHold}
use Rattle.clash_check.specs.Counted.{AreCounts}
use Rattle.clash_check.specs.Draws.{IsDrawable}
use Rattle.clash_check.specs.Entries.{AllHold, OneFails}
use Rattle.clash_check.specs.Judgings.{SpellsOnly, IsVerdictOf}
use Rattle.clash_check.specs.Singles.{IsEachClear, AreSinglesDrawn}
use Rattle.clash_check.specs.Verdicts.{IsVerdict, IsNo, MakesAll, MakesSome, MakesSomeOf, MakesFewFor}
use Rattle.clash_check.proofs.EntryLemmas.{one_place}
use Rattle.clash_check.proofs.SaidLemmas.{said_of}
use Rattle.clash_check.specs.declared.verdict.Verdict.{Verdict}
use Rattle.clash_check.specs.declared.verdict.Verdict.TheVariants.{Yes, No}

-- where all statements hold each series is clear by itself
pub each_clear : (all : Confirmed) → IsDrawable all → (c : Claims) → IsClaims c → HasCounts all c → StatementsHold all c → IsEachClear all
each_clear all drawable c claims counts hold series (k, w, e) =
    let n = counts.series in
    elim (said_of all c claims counts hold (k + 1) (k + 1) (omega arith, omega arith, omega (arith, w, n))) [
      | inl s ↦ drawable.settled s.those s.within s.from s.days s.holds series (s.first series there)
      | inr (entry, h) ↦ by entry h
    ]
  where
    there : IsSeriesAt all (k + 1) series
    there = ap (slice_get all.series) (let e : k + 1 - 1 ≡ k = omega arith in e) ∙ slice_get-get_or all.series k series w ∙ ap Some e

    only : (one : Event) → Contains (series ∷ []) one → Contains all.series one
    only one (zero, l, same) = subst (Contains all.series) same (k, w, e)
    only one (suc n, l, same) = absurd (omega (arith, l))

    by : (entry : Entry) → EntryHolds all (k + 1) (k + 1) entry → AreClear (IsInstance series) (IsInstance series)
    by End h = h series series there there
    by (Span from days) h = drawable.settled (series ∷ []) only from days (h series series there there) series (zero, omega arith, refl)
    by (Res m) h = drawable.apart series (k, w, e) m (subst (λ own. ResiduesHold own series series m) (one_place (k + 1) (k + 1) refl) (h series series there there))
    by (InGroup n) h = absurd h

-- ---- verdicts

-- a no with what it names
pub no_statement : (all : Confirmed) (text : List ℕ) (first second : ℕ) (v : Verdict) → IsNo 83 first second v → HasFailingStatement all text 83 first second → IsVerdict all text v
no_statement all text first second Yes h f = absurd h
no_statement all text first second (No why) h f =
    inr (subst (λ n. HasFailingStatement all text n why.first why.second) (sym h.0)
    (subst (λ n. HasFailingStatement all text 83 n why.second) (sym h.1) (subst (λ n. HasFailingStatement all text 83 first n) (sym h.2) f)))

-- a no that names nothing
pub no_singles : (all : Confirmed) (text : List ℕ) (v : Verdict) → IsNo 84 0 0 v → HasClashes all text 84 0 → IsVerdict all text v
no_singles all text Yes h f = absurd h
no_singles all text (No why) h f =
    inl (h.2, inr (inr (subst (λ n. HasClashes all text n why.first) (sym h.0) (subst (λ n. HasClashes all text 84 n) (sym h.1) f))))

pub verdict_statement : (all : Confirmed) (c : Claims) → HasCounts all c → (i j : ℕ) (v : Verdict) → IsNo 83 i j v → (old new : ℕ) → OneFails all (statements c) i j old new → IsVerdictOf all c v
verdict_statement all c counts i j v is_no old new f text s =
    no_statement all text i j v is_no (record { is = refl; c = c; spells = s.0; counts = counts; failing = f.failing; first_failing = f.stop; named = f.named })

pub verdict_singles : (all : Confirmed) (c : Claims) → HasCounts all c → StatementsHold all c → (v : Verdict) → IsNo 84 0 0 v → HasClash (Contains all.singles) (IsOneOf all) → IsVerdictOf all c v
verdict_singles all c counts holds v is_no clash text s =
    no_singles all text v is_no (record { is = refl; no_line = refl; c = c; spells = s.0; counts = counts; statements = holds; clash = clash })

pub verdict_yes : (all : Confirmed) (c : Claims) → HasCounts all c → StatementsHold all c → AreClear (Contains all.singles) (IsOneOf all) → IsVerdictOf all c Yes
verdict_yes all c counts holds clear text s = record { c = c; spells = s.0; counts = counts; statements = holds; singles = clear }

-- ---- how many were made

pub made_statement : (all : Confirmed) (c : Claims) (i j : ℕ) (v : Verdict) (old new made : ℕ) → IsNo 83 i j v → old ≡ 0 → made ≡ new → made ≤ 18446744073709551615
    → OneFails all (statements c) i j old new → (text : List ℕ) → SpellsOnly text c → MakesFewFor all text made v
made_statement all c i j Yes old new made h none same few f text s = absurd h
made_statement all c i j (No why) old new made h none same few f text s =
    let k = h.0 in (
      λ l. absurd (omega (arith, k, l)),
      λ _. subst (λ n. MakesSome all text n why.second made) (sym h.1) (subst (λ n. MakesSome all text i n made) (sym h.2) (λ d spells. subst (λ (x : Claims). MakesSomeOf all x i j made) (sym (s.1 d spells)) some)),
      λ e. absurd (omega (arith, k, e)),
    )
  where
    some : MakesSomeOf all c i j made
    some = record {
      failing = f.failing;
      stop = f.stop;
      named = f.named;
      made_for = λ counts most are is. elim (f.drawn counts most are is) [
        | inl (compared, (n, at_least, at_most, more)) ↦ inl (compared, (n, at_least, at_most, omega (arith, more, none, same, few)))
        | inr (other, more) ↦ inr (other, omega (arith, more, none, same, few))
      ];
    }

made_whole : (all : Confirmed) (c : Claims) (old mid new made : ℕ) → old ≡ 0 → made ≡ new → made ≤ 18446744073709551615
    → AllHold all (statements c) old mid → AreSinglesDrawn all mid new
    → (text : List ℕ) → SpellsOnly text c → MakesAll all text made
made_whole all c old mid new made none same few held (n, least, most, singles) text s d spells counts are =
    let is = held.drawn counts (subst (λ (x : Claims). AreCounts all (statements x) counts) (s.1 d spells) are) in
    (n, least, most, omega (arith, is, singles, none, same, few))

pub made_yes : (all : Confirmed) (c : Claims) (old mid new made : ℕ) → old ≡ 0 → made ≡ new → made ≤ 18446744073709551615
    → AllHold all (statements c) old mid → AreSinglesDrawn all mid new
    → (text : List ℕ) → SpellsOnly text c → MakesFewFor all text made Yes
made_yes all c old mid new made none same few held singles text s = made_whole all c old mid new made none same few held singles text s

pub made_singles : (all : Confirmed) (c : Claims) (v : Verdict) (old mid new made : ℕ) → IsNo 84 0 0 v → old ≡ 0 → made ≡ new → made ≤ 18446744073709551615
    → AllHold all (statements c) old mid → AreSinglesDrawn all mid new
    → (text : List ℕ) → SpellsOnly text c → MakesFewFor all text made v
made_singles all c Yes old mid new made h none same few held singles text s = absurd h
made_singles all c (No why) old mid new made h none same few held singles text s =
    let k = h.0 in
    (λ l. absurd (omega (arith, k, l)), λ e. absurd (omega (arith, k, e)), λ _. made_whole all c old mid new made none same few held singles text s)
