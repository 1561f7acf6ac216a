-- What is stored names the instances that it is for by fixed times: so it is for the same ones in each room, and no two events are for one.
-- Behind schedules_hold.
use Rattle.std.proofs.Common.{◌≡◌, ◌≢◌, ◌∙◌, ℕ, ℤ, ◌≤◌, Bool, true, false, not, List, [], ◌∷◌, length, filter, Option, Some, None, is_some, inl, inr, refl, sym, ap, subst, arith}
use Rattle.std.specs.Prelude.{AllPairs, Contains, option_map}
use Rattle.std.specs.List.{AllZip}
use Rattle.std.proofs.lemmas.Bool.{false≢true}
use Rattle.std.proofs.lemmas.Option.{same_Some}
use Rattle.profile.specs.events.EventComponents.{Attendee, EventComponent, Method, SaysEventComponent, Store}
use Rattle.profile.specs.events.Events.{TimesDiffer, is_master, is_override, taken_by}
use Rattle.profile.specs.events.Messages.{AreOfMeeting}
use Rattle.profile.specs.events.Occurrences.{Time}
use Rattle.profile.specs.events.Placed.{IsAt, IsInstantIn, IsPlaced}
use Rattle.profile.specs.events.Properties.{BothOrNeither, Fixed, Form}
use Rattle.profile.specs.organisers.Organisers.{Stored}
use Rattle.profile.specs.rooms.Messages.{IsSlotIn, slot_named, slot_of}
use Rattle.profile.specs.rooms.Revisions.{Revision, Slot}
use Rattle.profile.specs.series.Zones.{Zone}
use Rattle.profile.specs.text.Trees.{Tree, vevents}
use Rattle.cal_events.proofs.shared_lemmas.InOneOrder.{head_pairs, in_filtered, mapped_pairs, tail_pairs}
use Rattle.cal_events.proofs.shared_lemmas.SeriesLemmas.{zip_back}
use Rattle.itip_order.proofs.Lists.{in_cons, none_in_nil}
use Rattle.itip_messages.specs.Law.{instant_of_slot}
use Rattle.itip_messages.specs.SentLaw.{IsSaidAgain}
use Rattle.sched_laws.proofs.law_lemmas.Invariant.{AreNamedFixed, IsNamedFixed, IsStoreOf}

-- ---- what is stored

said_fixed : (object : Tree) (vs : List (List (List ℕ))) (events : List EventComponent) → AllZip (SaysEventComponent object (Some Store)) vs events → AreNamedFixed events
said_fixed object vs events z event c =
    let says = (zip_back (SaysEventComponent object (Some Store)) vs events event z c).2 in
    record { is = says.instants.slot; fixed = says.occurrences.fixed_recurrence refl }

pub stored_fixed : (organiser : List ℕ) (stored : Stored) → IsStoreOf organiser stored → AreNamedFixed stored.events
stored_fixed organiser stored s =
    let m = s.spells.says in
    let says = subst (λ (method : Method). AllZip (SaysEventComponent s.spells.tree (Some method)) (vevents s.spells.tree) m.events) s.store m.says in
    let taken = ap (λ (method : Method). taken_by (Some method) m.events) s.store in
    subst AreNamedFixed (sym (s.events ∙ m.taken ∙ taken)) (said_fixed s.spells.tree (vevents s.spells.tree) m.events says)

-- what is said again names it in the same way
pub again_fixed : (IsSuch : Slot → Attendee → Attendee → Type 0) (revision : Revision) (event said : EventComponent) → IsSaidAgain IsSuch revision event said → IsNamedFixed event
    → IsNamedFixed said
again_fixed IsSuch revision event said s f = record {
  is = s.recurrence ∙ f.is ∙ ap (option_map (λ (time : Time). time.instant)) (sym s.slot);
  fixed = λ time is. f.fixed time (sym s.slot ∙ is);
}

-- ---- in each room

fixed_instant : (zone : Option Zone) (time : Time) (instant : ℤ) → time.form ≡ Fixed → IsAt zone time instant → instant ≡ time.instant
fixed_instant zone time instant fixed at = subst (λ (form : Form). IsInstantIn zone form time.instant instant) fixed at

fixed_there : (zone : Option Zone) (written : Option Time) (instant : Option ℤ) → ((time : Time) → written ≡ Some time → time.form ≡ Fixed) → BothOrNeither (IsAt zone) written instant
    → instant ≡ option_map (λ time. time.instant) written
fixed_there z None None fixed both = refl
fixed_there z None (Some instant) fixed both = absurd both
fixed_there z (Some time) None fixed both = absurd both
fixed_there z (Some time) (Some instant) fixed both = ap Some (fixed_instant z time instant (fixed time refl) both)

-- its slot there is its slot
pub slot_there : (zone : Option Zone) (event : EventComponent) (slot : Slot) → IsNamedFixed event → IsSlotIn zone event slot → slot ≡ slot_of event
slot_there zone event slot f (instant, both, is) = is ∙ ap slot_named (fixed_there zone event.written.recurrence instant f.fixed both ∙ sym f.is)

pub placed_there : (zone : Option Zone) (event placed : EventComponent) → IsNamedFixed event → IsPlaced zone event placed → placed.recurrence ≡ event.recurrence
placed_there zone event placed f p =
    ap (λ (e : EventComponent). e.recurrence) p.is ∙ fixed_there zone event.written.recurrence p.recurrence f.fixed p.slot ∙ sym f.is

-- ---- one event for a slot

pub same_written : (a b : Option Time) → ((time : Time) → a ≡ Some time → time.form ≡ Fixed) → ((time : Time) → b ≡ Some time → time.form ≡ Fixed)
    → option_map (λ (time : Time). time.instant) a ≡ option_map (λ (time : Time). time.instant) b → a ≡ b
same_written None None f g same = refl
same_written None (Some b) f g same = cc
same_written (Some a) None f g same = cc
same_written (Some a) (Some b) f g same =
    let form = f a refl ∙ sym (g b refl) in
    let instant = same_Some a.instant b.instant same in
    λ i. Some (record { form = form i; instant = instant i })

one_of_few : (events : List EventComponent) → length events ≤ 1 → (a b : EventComponent) → Contains events a → Contains events b → a ≡ b
one_of_few [] few a b c d = absurd (none_in_nil a c)
one_of_few (e ∷ []) few a b c d =
    let is : (x : EventComponent) → Contains (e ∷ []) x → e ≡ x = λ x k. elim (in_cons e [] x k) [ inl here ↦ here | inr there ↦ absurd (none_in_nil x there) ] in
    sym (is a c) ∙ is b d
one_of_few (e ∷ f ∷ events) few a b c d = absurd (omega (arith, few))

one_of_time : (events : List EventComponent) → AllPairs (λ a b. a.written.recurrence ≢ b.written.recurrence) events
    → (a b : EventComponent) → Contains events a → Contains events b → a.written.recurrence ≡ b.written.recurrence → a ≡ b
one_of_time [] differ a b c d same = absurd (none_in_nil a c)
one_of_time (e ∷ events) differ a b c d same =
    let Differ : EventComponent → EventComponent → Type 0 = λ x y. x.written.recurrence ≢ y.written.recurrence in
    elim (in_cons e events a c) [
      | inl here ↦ elim (in_cons e events b d) [
        | inl also ↦ sym here ∙ also
        | inr later ↦ absurd (head_pairs Differ e b events differ later (ap (λ (x : EventComponent). x.written.recurrence) here ∙ same))
      ]
      | inr there ↦ elim (in_cons e events b d) [
        | inl also ↦ absurd (head_pairs Differ e a events differ there (ap (λ (x : EventComponent). x.written.recurrence) also ∙ sym same))
        | inr later ↦ one_of_time events (tail_pairs Differ e events differ) a b there later same
      ]
    ]

-- of a meeting
apart : (events : List EventComponent) → length (filter is_master events) ≤ 1 → TimesDiffer (filter is_override events) → (a b : EventComponent) → Contains events a → Contains events b
    → a.recurrence ≡ b.recurrence → a.written.recurrence ≡ b.written.recurrence → a ≡ b
apart events few differ a b c d same time = by (is_override a) refl (is_override b) refl
  where
    master : (x : EventComponent) → Contains events x → is_override x ≡ false → Contains (filter is_master events) x
    master x k e = in_filtered is_master events x k (ap not e)

    by : (m : Bool) → is_override a ≡ m → (n : Bool) → is_override b ≡ n → a ≡ b
    by false e false f = one_of_few (filter is_master events) few a b (master a c e) (master b d f)
    by false e true f = absurd (false≢true (sym e ∙ ap (λ (r : Option ℤ). is_some r) same ∙ f))
    by true e false f = absurd (false≢true (sym f ∙ ap (λ (r : Option ℤ). is_some r) (sym same) ∙ e))
    by true e true f =
        one_of_time (filter is_override events) (mapped_pairs ◌≢◌ (λ (e : EventComponent). e.written.recurrence) (filter is_override events) differ) a b
        (in_filtered is_override events a c e) (in_filtered is_override events b d f) time

named_back : (recurrence : Option ℤ) → instant_of_slot (slot_named recurrence) ≡ recurrence
named_back None = refl
named_back (Some t) = refl

recurrence_of : (a b : EventComponent) → slot_of a ≡ slot_of b → a.recurrence ≡ b.recurrence
recurrence_of a b same = sym (named_back a.recurrence) ∙ ap instant_of_slot same ∙ named_back b.recurrence

pub one_of_slot : (organiser uid : List ℕ) (events : List EventComponent) → AreNamedFixed events → AreOfMeeting organiser uid events
    → (a b : EventComponent) → Contains events a → Contains events b → slot_of a ≡ slot_of b → a ≡ b
one_of_slot organiser uid events fixed are a b c d same =
    let recurrence = recurrence_of a b same in
    let own = fixed a c in
    let its = fixed b d in
    apart events are.masters are.differ a b c d recurrence
    (same_written a.written.recurrence b.written.recurrence own.fixed its.fixed (sym own.is ∙ recurrence ∙ its.is))
