use Rattle.std.proofs.Common.{◌≡◌, ◌∙◌, ◌<◌, ◌≤◌, ap, sym, subst, map, length, List, not, arith}
use Rattle.std.specs.Prelude.{Some}
use Rattle.std.proofs.lemmas.List.{take_all}
use Rattle.std.proofs.lemmas.List.Sorted.{IsPermutation-map}
use Rattle.std.specs.List.Sorted.{IsPermutation}
use Rattle.profile.specs.checker.Instances.{Key}
use Rattle.cal_events.specs.Calendar.{key_of}
use Rattle.cal_events.specs.Entries.{Name}
use Rattle.cal_events.specs.Names.{meeting_at}
use Rattle.cal_events.specs.Draft.{master_key, master_keys}
use Rattle.cal_events.proofs.shared_lemmas.DraftKeys.{key_pushed, key_passed, none_there, some_there}
use Rattle.cal_events.proofs.draft.keys_of_masters.Goals as goal
use Rattle.cal_events.proofs.draft.keys_of_masters.Goals.{then-is_none+in_ok-push, else-is_none}

pub loop-place-preserved : goal.loop-place-preserved
loop-place-preserved c =
    let names = c.args.entries.now in
    let k = c.loop-place.place in
    let within : k < length names = omega (arith, c.loop-place-test.true, c.len-place-end.ensures) in
    elim c.if-is_none.branch [
      | then-is_none+in_ok-push w ↦
          let none = none_there c.recurrence.result (c.is_none.ensures ∙ ap not w.if-is_none.true) in
          key_pushed master_key names k within c.loop-place.keys.items c.loop-place.invariant c.if-is_none.keys.items w.key_at.result
          (ap (λ r. master_key (meeting_at names k, r)) (sym c.recurrence.ensures ∙ none) ∙ ap Some (sym w.key_at.ensures)) (ap (λ v. v.items) w.keys-is ∙ w.in_ok-push.ensures.items)
      | else-is_none w ↦
          let some = some_there c.recurrence.result (c.is_none.ensures ∙ ap not w.if-is_none.false) in
          key_passed master_key names k within c.loop-place.keys.items c.loop-place.invariant c.if-is_none.keys.items
          (ap (λ r. master_key (meeting_at names k, r)) (sym c.recurrence.ensures ∙ some.1)) (ap (λ v. v.items) w.keys-is)
    ]

pub returns : goal.returns
returns c =
    let end : length c.args.entries.now ≤ c.loop-place.place = omega (arith, c.loop-place-test.false, c.len-place-end.ensures) in
    let all = subst (λ (l : List Name). map key_of c.loop-place.keys.items ≡ master_keys l) (take_all c.loop-place.place c.args.entries.now end) c.loop-place.invariant in
    (subst (λ (l : List Key). IsPermutation l (map key_of c.sort_unstable.new.self.items)) all (IsPermutation-map key_of c.loop-place.keys.items c.sort_unstable.new.self.items c.sort_unstable.ensures.permutation), c.sort_unstable.ensures.sorted)
