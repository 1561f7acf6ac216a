use Rattle.std.proofs.Common.{◌≡◌, ◌∙◌, ◌<◌, ◌≤◌, ap, sym, subst, map, length, List, ℤ, arith, rules}
use Rattle.std.specs.Prelude.{Option, Some}
use Rattle.std.proofs.lemmas.List.{take_all}
use Rattle.std.proofs.lemmas.List.Sorted.{IsPermutation-map}
use Rattle.std.specs.List.Sorted.{IsPermutation}
use Rattle.profile.specs.checker.Instances.{Key}
use Rattle.cal_events.specs.Calendar.{key_of}
use Rattle.cal_events.specs.Entries.{Name}
use Rattle.cal_events.specs.Names.{meeting_at}
use Rattle.cal_events.specs.Draft.{override_key, override_keys}
use Rattle.cal_events.proofs.shared_lemmas.DraftKeys.{key_pushed, key_passed}
use Rattle.cal_events.proofs.draft.keys_of_overrides.Goals as goal
use Rattle.cal_events.proofs.draft.keys_of_overrides.Goals.{in-Some+in_ok-push, in_default}

pub loop-place-preserved : goal.loop-place-preserved
loop-place-preserved c =
    let names = c.args.entries.now in
    let k = c.loop-place.place in
    let within : k < length names = omega (arith, c.loop-place-test.true, c.len-place-end.ensures) in
    elim c.match-recurrence.branch [
      | in-Some+in_ok-push w ↦
          key_pushed override_key names k within c.loop-place.keys.items c.loop-place.invariant c.match-recurrence.keys.items w.key_at.result
          (ap (λ (r : Option ℤ). override_key (meeting_at names k, r)) (sym c.recurrence.ensures ∙ w.in-Some.is) ∙ ap (λ (t : ℤ). override_key (meeting_at names k, Some t)) (search rules) ∙ ap Some (sym w.key_at.ensures))
          (ap (λ v. v.items) w.keys-is ∙ w.in_ok-push.ensures.items)
      | in_default w ↦
          key_passed override_key names k within c.loop-place.keys.items c.loop-place.invariant c.match-recurrence.keys.items
          (ap (λ (r : Option ℤ). override_key (meeting_at names k, r)) (sym c.recurrence.ensures ∙ w.in_default.is)) (ap (λ v. v.items) w.keys-is)
    ]

pub returns : goal.returns
returns c =
    let end : length c.args.entries.now ≤ c.loop-place.place = omega (arith, c.loop-place-test.false, c.len-place-end.ensures) in
    let all = subst (λ (l : List Name). map key_of c.loop-place.keys.items ≡ override_keys l) (take_all c.loop-place.place c.args.entries.now end) c.loop-place.invariant in
    (subst (λ (l : List Key). IsPermutation l (map key_of c.sort_unstable.new.self.items)) all (IsPermutation-map key_of c.loop-place.keys.items c.sort_unstable.new.self.items c.sort_unstable.ensures.permutation), c.sort_unstable.ensures.sorted)
