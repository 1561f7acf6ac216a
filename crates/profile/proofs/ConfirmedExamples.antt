-- What is confirmed, worked by the definitions alone; and of an event that happens once in UTC.
use Rattle.std.proofs.Common.{◌≡◌, ◌∙◌, ℕ, zero, suc, true, false, List, [], ◌∷◌, codes, refl, sym, ap, inl, inr, arith, ℤ, pos}
use Rattle.std.specs.Prelude.{Option, Some, None, Contains, Bool, is_some}
use Rattle.std.proofs.lemmas.Bool.{false≢true}
use Rattle.std.proofs.lemmas.Int.{ints}
use Rattle.profile.specs.events.Properties.{Fixed}
use Rattle.profile.specs.events.EventComponents.{EventComponent, Participation, Accepted, Declined}
use Rattle.profile.specs.events.Starts.{key_at}
use Rattle.profile.specs.events.Confirmed.{is_kept, is_series, IsInstanceAmong, IsConfirmed, MastersDiffer, OverridesDiffer}

abbrev room : List ℕ
room = codes "r:1"

-- an event in UTC without a rule, of one second, that the room answered so
abbrev event : Option ℤ → ℤ → Participation → Bool → EventComponent
event recurrence start answer cancelled = record {
  uid = codes "a";
  organiser = None;
  stamp = None;
  sequence = 0;
  cancelled = cancelled;
  recurrence = recurrence;
  times = record { form = Fixed; zone = None; local = start; start = start; length = record { days = 0; seconds = 1 } };
  rule = None;
  additions = pos 200 ∷ [];
  exceptions = [];
  written = record { recurrence = None; additions = record { form = Fixed; instant = pos 200 } ∷ []; exceptions = [] };
  summary = [];
  attendees = record { address = room; participation = answer; scheduled = true } ∷ [];
}

abbrev master : EventComponent
master = event None (pos 100) Accepted false

-- the room has declined this instance of it
abbrev declined : EventComponent
declined = event (Some (pos 100)) (pos 150) Declined false

abbrev events : List EventComponent
events = master ∷ declined ∷ []

accepted_is_kept : is_kept room master ≡ true
accepted_is_kept = refl

declined_is_not : is_kept room declined ≡ false
declined_is_not = refl

-- an event that is cancelled holds nothing, though the room had accepted it
cancelled_is_not : is_kept room (event None (pos 100) Accepted true) ≡ false
cancelled_is_not = refl

without_a_rule_is_no_series : is_series room master ≡ false
without_a_rule_is_no_series = refl

-- the declined override hides the start that it replaces, and isn't an instance itself
hidden : IsInstanceAmong events master (record { key = key_at master (pos 100); start = pos 100; end = pos 101 }) → ⊥
hidden i = i.shown refl (record { override = declined; among = ((1, omega arith, refl), refl); is = refl })

-- the other start stays
stays : IsConfirmed room events (record { key = key_at master (pos 200); start = pos 200; end = pos 201 })
stays = record {
  event = master;
  among = (0, omega arith, refl);
  kept = refl;
  is = record {
    is = inl (record {
      master = master;
      is = refl;
      starts = record { given = inr (0, omega arith, refl); in_dates = (omega (arith, ints), omega (arith, ints)); not_excepted = λ c. omega (arith, c.1); not_replaced = λ r. omega (arith, r.among.1) };
      key = refl;
      ends = (pos 200, inl (refl, refl), refl);
    });
    shown = λ _ replaced. other replaced.override replaced.among.0 replaced.is;
  };
}
  where
    some : (a b : ℤ) → Some a ≡ Some b → a ≡ b
    some a b e = ap (λ (o : Option ℤ). from o) e
      where
        from : Option ℤ → ℤ
        from None = a
        from (Some x) = x

    other : (o : EventComponent) → Contains events o → o.recurrence ≡ Some (pos 200) → ⊥
    other o (zero, w, e) is = false≢true (ap (λ (r : Option ℤ). is_some r) (ap (λ (x : EventComponent). x.recurrence) e ∙ is))
    other o (suc zero, w, e) is = let h = some (pos 100) (pos 200) (ap (λ (x : EventComponent). x.recurrence) e ∙ is) in omega (arith, ints, h)
    other o (suc (suc k), w, e) is = omega (arith, w)

-- a master and an override of one meeting aren't two masters; two masters are
one_master : MastersDiffer events
one_master zero zero d l w m n e = omega (arith, l)
one_master zero (suc zero) d l w m n e = false≢true (sym (ap (λ (r : Option ℤ). is_some r) n))
one_master zero (suc (suc j)) d l w m n e = omega (arith, w)
one_master (suc i) zero d l w m n e = omega (arith, l)
one_master (suc i) (suc zero) d l w m n e = omega (arith, l)
one_master (suc i) (suc (suc j)) d l w m n e = omega (arith, w)

two_masters : MastersDiffer (master ∷ master ∷ []) → ⊥
two_masters differ = differ 0 1 master (omega arith) (omega arith) refl refl refl

two_overrides : OverridesDiffer (declined ∷ declined ∷ []) → ⊥
two_overrides differ = differ 0 1 declined (omega arith) (omega arith) (pos 100) refl refl refl
