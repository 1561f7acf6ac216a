-- Each start that a rule gives is at one of the residues of its series, modulo any number of seconds.
use Rattle.std.proofs.Common.{◌≡◌, ◌∙◌, refl, sym, subst, ap, arith, inl, inr, ℕ, zero, suc, ◌+◌, ◌-◌, ◌*◌, ◌/◌, ◌%◌, ◌<◌, ◌≤◌, Bool, true, false, true≢false, ◌||◌, ◌&&◌, ◌==◌, List, [], ◌∷◌, ℤ, pos, negsuc, ◌+ℤ◌, ◌-ℤ◌, ◌≤ℤ◌}
use Rattle.std.proofs.lemmas.Int.{ints}
use Rattle.std.proofs.lemmas.Bool.{and_parts}
use Rattle.std.proofs.Math.Nat.{mod-add-div'}
use Rattle.std.specs.List.{list_any}
use Rattle.std.specs.Prelude.{Some}
use Rattle.profile.specs.series.Days.{weekday_of}
use Rattle.profile.specs.series.Rules.{Pattern, Rule, allows, counts_in_year, is_base, is_counted, is_in_step, is_long, is_placed, is_rule_day, is_within_count, names_weekday, passes, passes_month, passes_month_day, passes_weekday, same_weekdays_after, same_weekdays_before, weekdays_meant}
use Rattle.profile.specs.series.Zones.{Zone, Constant, Single, Pair, Onset, IsOffsetAt, IsZoneOnset, InForce, Since, Until, Means, local_time}
use Rattle.profile.specs.series.Repeating.{IsCongruent}
use Rattle.profile.specs.series.Residues.{IsOffsetOf, is_in_form, is_in_form_step, is_on_weekday}
use Rattle.profile.specs.events.ZonedTimes.{clock_of}
use Rattle.profile.specs.events.EventComponents.{EventComponent}
use Rattle.profile.specs.events.Events.{Event}
use Rattle.profile.specs.events.Starts.{IsRuleStart}
use Rattle.profile.specs.events.Residues.{IsResidue}

-- ---- a rule day is one that the form allows

or_left : (a b : Bool) → b ≡ true → (a || b) ≡ true
or_left true b h = refl
or_left false b h = h

or_more : (a b c d : Bool) → (a ≡ true → c ≡ true) → (b ≡ true → d ≡ true) → (a || b) ≡ true → (c || d) ≡ true
or_more true b c d f g h = ap (λ x. x || d) (f refl)
or_more false b c d f g h = or_left c d (g h)

any_more : {A : Type 0} (f g : A → Bool) → ((x : A) → f x ≡ true → g x ≡ true) → (xs : List A) → list_any f xs ≡ true → list_any g xs ≡ true
any_more f g more [] h = h
any_more f g more (x ∷ xs) h = or_more (f x) (list_any f xs) (g x) (list_any g xs) (more x) (any_more f g more xs) h

allows_more : {A : Type 0} (f g : A → Bool) → ((x : A) → f x ≡ true → g x ≡ true) → (xs : List A) → allows f xs ≡ true → allows g xs ≡ true
allows_more f g more [] h = h
allows_more f g more (x ∷ xs) h = any_more f g more (x ∷ xs) h

and_both : (a b : Bool) → a ≡ true → b ≡ true → (a && b) ≡ true
and_both true b h k = k
and_both false b h k = absurd (true≢false (sym h))

on_weekday : (p : Pattern) (n : ℕ) → passes_weekday p n ≡ true → is_on_weekday p n ≡ true
unfolding passes_weekday
on_weekday p n h =
    allows_more (names_weekday (weekday_of n) (same_weekdays_before (counts_in_year p) n) (same_weekdays_after (counts_in_year p) n))
    (λ entry. entry.weekday == weekday_of n) (λ entry e. (and_parts (entry.weekday == weekday_of n) _ e).0) (weekdays_meant p) h

base_in_form : (p : Pattern) (n : ℕ) → is_base p n ≡ true → is_in_form p n ≡ true
unfolding is_base passes is_in_form
base_in_form p n h =
    let a = and_parts (is_in_step p n) _ h in
    let b = and_parts (passes_month p n && passes_month_day p n) (passes_weekday p n) a.1 in
    and_both (is_in_form_step p n) (is_on_weekday p n) (or_left (is_long p.frequency) (is_in_step p n) a.0) (on_weekday p n b.1)

pub rule_day_in_form : (r : Rule) (n : ℕ) → is_rule_day r n ≡ true → is_in_form r.pattern n ≡ true
unfolding is_rule_day is_counted
rule_day_in_form r n h =
    let a = and_parts (is_counted r n) (is_within_count r n) h in
    let b = and_parts _ (is_placed r.pattern n) a.0 in
    let c = and_parts _ (is_base r.pattern n) b.0 in
    base_in_form r.pattern n c.1

-- ---- each offset that clocks have is one of the zone's

onset_offsets : (z : Zone) (x : Onset) → IsZoneOnset z x → IsOffsetOf z x.before × IsOffsetOf z x.after
onset_offsets (Constant k) x is = absurd is
onset_offsets (Single a) x is = (inl is.before, inr is.after)
onset_offsets (Pair a b) x (inl is) = (inl (inl is.before), inl (inr is.after))
onset_offsets (Pair a b) x (inr is) = (inr (inl is.before), inr (inr is.after))

in_force : (z : Zone) (t offset : ℤ) → InForce (IsZoneOnset z) t offset → IsOffsetOf z offset
in_force z t offset (Since onset latest e) = subst (IsOffsetOf z) (sym e) (onset_offsets z onset latest.listed).1
in_force z t offset (Until onset first e) = subst (IsOffsetOf z) (sym e) (onset_offsets z onset first.listed).0

pub offset_of_zone : (z : Zone) (t offset : ℤ) → IsOffsetAt z t offset → IsOffsetOf z offset
offset_of_zone (Constant k) t offset at = at
offset_of_zone (Single a) t offset at = in_force (Single a) t offset at
offset_of_zone (Pair a b) t offset at = in_force (Pair a b) t offset at

int_same_by : {a b : ℤ} → a ≤ℤ b → b ≤ℤ a → a ≡ b
int_same_by {a} {b} l m = omega (arith, ints, l, m)

-- a local time is read by one of the zone's offsets
pub read_by : (z : Zone) (local t : ℤ) → Means z local t → (offset : ℤ) × IsOffsetOf z offset × ((local -ℤ offset) ≡ t)
read_by z local t (inl shown) =
    let at = shown.shown in
    let e = at.2 in
    (at.0, offset_of_zone z t at.0 at.1, int_same_by (omega (arith, ints, e)) (omega (arith, ints, e)))
read_by z local t (inr skipped) =
    let e = skipped.read in
    (skipped.onset.before, (onset_offsets z skipped.onset skipped.listed).0, int_same_by (omega (arith, ints, e)) (omega (arith, ints, e)))

-- ---- each instant is at a residue

mod_below : (n m : ℕ) → 0 < m → n % m < m
mod_below n m some = omega (arith, some)

congruent_nat : (m n : ℕ) (t : ℤ) (k : ℕ) → 0 < m → (t +ℤ pos (k * m)) ≡ pos n → (r : ℕ) × (r < m) × IsCongruent m t (pos r)
congruent_nat m n t k some e =
    let d = mod-add-div' n m in
    (n % m, mod_below n m some, (k, n / m, e ∙ int_same_by (omega (arith, ints, d)) (omega (arith, ints, d))))

times_pred : (k m : ℕ) → 0 < m → k ≤ k * m
times_pred zero m some = let z : 0 * m ≡ 0 = omega arith in omega (arith, z)
times_pred (suc k) m some = let h = times_pred k m some in let e : suc k * m ≡ m + k * m = omega arith in omega (arith, some, e, h)

pub at_residue : (m : ℕ) (t : ℤ) → 0 < m → (r : ℕ) × (r < m) × IsCongruent m t (pos r)
at_residue m (pos n) some = let z : 0 * m ≡ 0 = omega arith in congruent_nat m n (pos n) 0 some (int_same_by (omega (arith, ints, z)) (omega (arith, ints, z)))
at_residue m (negsuc n) some =
    let l = times_pred (suc n) m some in
    congruent_nat m (suc n * m - suc n) (negsuc n) (suc n) some (int_same_by (omega (arith, ints, l)) (omega (arith, ints, l)))

-- ---- each start is

pub start_at_residue : (series : Event) (m : ℕ) (master : EventComponent) (rule : Rule) (t : ℤ) → 0 < m → series.master ≡ Some master → master.rule ≡ Some rule
    → IsRuleStart master.times rule t → (r : ℕ) × IsResidue series m r × IsCongruent m t (pos r)
start_at_residue series m master rule t some is ruled start =
    let read = read_by (clock_of master.times.zone) (local_time start.day start.second) t start.means in
    let at = at_residue m t some in (
      at.0,
      record {
        below = at.1;
        master = master;
        is = is;
        rule = rule;
        recurs = ruled;
        first = start.first;
        second = start.second;
        on = start.on;
        day = start.day;
        in_form = rule_day_in_form rule start.day start.listed;
        offset = read.0;
        of_zone = read.1;
        same = subst (λ x. IsCongruent m x (pos at.0)) (sym read.2) at.2;
      },
      at.2,
    )
