use Rattle.std.proofs.Common.{◌∙◌, List, ap, length, map, sym, subst, inl, inr}
use Rattle.std.specs.List.Sorted.{IsPermutation}
use Rattle.std.proofs.lemmas.List.Sorted.{IsPermutation-sym}
use Rattle.ical_lines.specs.Fault.{RefusesBy}
use Rattle.ical_values.proofs.Exits.{err_exit}
use Rattle.ical_lines.specs.declared.fault.Refusal.{Refusal}
use Rattle.profile.specs.events.Confirmed.{Confirmed}
use Rattle.std.proofs.lemmas.List.{length-map}
use Rattle.cal_events.specs.Names.{name_said}
use Rattle.cal_events.specs.Calendar.{key_of, named_instance}
use Rattle.cal_events.specs.Series.{series_said}
use Rattle.cal_events.specs.Draft.{AreInOrder, master_key, master_keys, IsTwoOf}
use Rattle.cal_events.specs.declared.instance.InstanceKey.{InstanceKey}
use Rattle.cal_events.proofs.draft_lemmas.KeyLemmas.{twins_of, no_twins_of, pairs_permutation}
use Rattle.cal_events.proofs.shared_lemmas.ZonedLemmas.{weaker_fault}
use Rattle.cal_events.proofs.draft_lemmas.CalendarKeys.{own_keys}
use Rattle.cal_events.proofs.shared_lemmas.DraftKeys.{two_keys, masters_there, there_masters, overrides_there, there_overrides}
use Rattle.cal_events.proofs.shared_lemmas.DraftLemmas.{within_entries, masters_of, confirmed_of, left_within, different_keys}
use Rattle.cal_events.proofs.draft.Draft.into_calendar.Goals as goal

pub begin_of_twin-requires-clause-two : goal.begin_of_twin-requires-clause-two
begin_of_twin-requires-clause-two c =
    let entries = c.args.self.entries in
    let sorted = c.in_ok-keys_of_masters.ensures.0 in
    let same = subst (λ (l : List InstanceKey). IsPermutation (master_keys entries) (map key_of l)) (sym c.deref.ensures.value) sorted in
    two_keys master_key entries
    (λ differ. twins_of c.deref.result.now c.if-has_equal_neighbours.ensures (pairs_permutation (master_keys entries) (map key_of c.deref.result.now) same differ))

pub returns-then-has_equal_neighbours-clause-fault : goal.returns-then-has_equal_neighbours-clause-fault
returns-then-has_equal_neighbours-clause-fault c room events d =
    let entries = c.args.self.entries in
    let sorted = c.in_ok-keys_of_masters.ensures.0 in
    let same = subst (λ (l : List InstanceKey). IsPermutation (master_keys entries) (map key_of l)) (sym c.deref.ensures.value) sorted in
    inl (ap (λ (e : Refusal). e.number) c.at.ensures, λ differ. twins_of c.deref.result.now c.if-has_equal_neighbours.ensures (pairs_permutation (master_keys entries) (map key_of c.deref.result.now) same (there_masters entries events d.entries differ)))

pub shown-requires : goal.shown-requires
shown-requires c =
    let d = c.requires in
    record {
      begins = ap length c.deref-2.ensures.value ∙ d.2.begins ∙ sym (ap length d.2.entries ∙ length-map d.1 name_said);
      within = within_entries d.0 d.1 c.args.self d.2;
      masters = masters_of d.0 d.1 c.args.self d.2;
    }

pub returns-in_err-singles-clause-fault : goal.returns-in_err-singles-clause-fault
returns-in_err-singles-clause-fault c room events d =
    let entries = c.args.self.entries in
    err_exit _ (RefusesBy (IsTwoOf events)) _ c.from_residual-in_err-singles.ensures.1
    (weaker_fault _ _ (IsTwoOf events)
    (λ n h. inr (h.0, λ differ. h.1 (there_overrides entries events d.entries differ)))
    c.in_err-singles.ensures.fault)

pub invariant_of-result : goal.invariant_of-result
invariant_of-result c =
    let entries = c.args.self.entries in
    let left = c.in_ok-singles.singles.items in
    let r = c.requires in
    let sorted = c.in_ok-keys_of_masters.ensures.0 in
    let same = subst (λ (l : List InstanceKey). IsPermutation (master_keys entries) (map key_of l)) (sym c.deref.ensures.value) sorted in
    let masters = masters_there entries r.1 r.2.entries (pairs_permutation (map key_of c.deref.result.now) (master_keys entries) (IsPermutation-sym _ _ same) (no_twins_of c.deref.result.now (subst AreInOrder (sym c.deref.ensures.value) c.in_ok-keys_of_masters.ensures.1) c.if-has_equal_neighbours.ensures)) in
    let overrides = overrides_there entries r.1 r.2.entries c.in_ok-singles.ensures.differ in
    let shown = c.in_ok-singles.ensures.shown in
    let are = confirmed_of r.0 r.1 c.args.self r.2 left shown c.in_ok-singles.series.items c.in_ok-singles.ensures.ruled in
    let all : Confirmed = record { series = map series_said c.in_ok-singles.series.items; singles = map (named_instance entries) left } in (
      different_keys r.0 r.1 c.args.self r.2 left shown masters overrides,
      left_within r.0 r.1 c.args.self r.2 left shown,
      own_keys r.0 r.1 all are masters overrides r.2.said,
    )

pub returns-clause-masters : goal.returns-clause-masters
returns-clause-masters c room events d =
    let entries = c.args.self.entries in
    let sorted = c.in_ok-keys_of_masters.ensures.0 in
    let same = subst (λ (l : List InstanceKey). IsPermutation (master_keys entries) (map key_of l)) (sym c.deref.ensures.value) sorted in (
      masters_there entries events d.entries (pairs_permutation (map key_of c.deref.result.now) (master_keys entries) (IsPermutation-sym _ _ same) (no_twins_of c.deref.result.now (subst AreInOrder (sym c.deref.ensures.value) c.in_ok-keys_of_masters.ensures.1) c.if-has_equal_neighbours.ensures)),
      overrides_there entries events d.entries c.in_ok-singles.ensures.differ,
    )

pub returns-clause-are : goal.returns-clause-are
returns-clause-are c room events d =
    confirmed_of room events c.args.self d c.in_ok-singles.singles.items
    c.in_ok-singles.ensures.shown
    c.in_ok-singles.series.items c.in_ok-singles.ensures.ruled
