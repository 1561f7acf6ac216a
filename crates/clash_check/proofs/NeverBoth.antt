-- No statement both holds and fails.
use Rattle.std.proofs.Common.{subst, inl, inr, ℕ, List, ◌++◌, ℤ}
use Rattle.profile.specs.checker.Certificates.{Entry, End, Span, Res, InGroup, Statement, OfGroup, OfPair, EntryHolds, EntryFails, StatementHolds, StatementFails}
use Rattle.profile.specs.events.Events.{Event}
use Rattle.profile.specs.events.Confirmed.{Confirmed}
use Rattle.profile.specs.events.Spans.{SpanHolds, SpanFails, StartsBelow}
use Rattle.clash_check.proofs.PeriodLemmas.{one_bound}

span : (these those : List Event) (from : ℤ) (days : ℕ) → SpanHolds these those from days → SpanFails these those from days → ⊥
span these those from days holds (inl none) = none holds.span
span these those from days holds (inr (bound, is, two)) =
    let same = one_bound (these ++ those) from days bound holds.bound is holds.is in
    let c = two.clash in
    holds.clear two.a two.b two.first two.second c.a c.b c.t (subst (λ (t : ℤ). StartsBelow two.a t c.a) same c.first) (subst (λ (t : ℤ). StartsBelow two.b t c.b) same c.second) c.clash

entry : (all : Confirmed) (i j : ℕ) (said : Entry) → EntryHolds all i j said → EntryFails all i j said → ⊥
entry all i j End holds (a, b, here, there, c) = holds a b here there c.a c.b c.t c.first c.second c.clash
entry all i j (Span from days) holds (a, b, here, there, fails) = span _ _ from days (holds a b here there) fails
entry all i j (Res m) holds (a, b, here, there, none) = none (holds a b here there)
entry all i j (InGroup n) holds fails = fails

pub never_both : (all : Confirmed) (statement : Statement) → StatementHolds all statement → StatementFails all statement → ⊥
never_both all (OfGroup group) holds (those, are, fails) = span those those group.from group.days (holds those are) fails
never_both all (OfPair p) holds fails = entry all p.first p.second p.entry holds fails
