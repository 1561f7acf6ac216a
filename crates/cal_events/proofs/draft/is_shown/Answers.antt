use Rattle.std.proofs.Common.{◌≡◌, ◌∙◌, ◌||◌, Bool, not, map, ap, sym, to_z, of_z, w64, rules}
use Rattle.std.specs.Prelude.{is_some}
use Rattle.std.specs.List.{list_any}
use Rattle.std.specs.Ordering.{is_eq}
use Rattle.profile.specs.checker.Instances.{key_cmp}
use Rattle.cal_events.specs.Calendar.{key_of, key_in}
use Rattle.cal_events.specs.Names.{meeting_at}
use Rattle.cal_events.proofs.draft_lemmas.KeyLemmas.{missing}
use Rattle.cal_events.proofs.draft.is_shown.Goals as goal

pub returns-else-is_some : goal.returns-else-is_some
returns-else-is_some c =
    let names = c.args.entries.now in
    let k = c.args.single.entry in
    let keys = map key_of c.args.overrides.now in
    let none = ap is_some (sym c.recurrence.ensures) ∙ sym c.if-is_some.ensures in
    let cast : to_z w64 (of_z w64 c.args.single.slot) ≡ c.args.single.slot = search rules in
    c.is_err.ensures.value ∙ missing c.args.overrides.now (key_of c.key_at-key.result) c.binary_search.result c.requires.sorted c.binary_search.ensures.bound c.binary_search.ensures.position
    ∙ ap (λ own. not (list_any (λ key. is_eq (key_cmp key own)) keys)) (c.key_at-key.ensures ∙ ap (key_in (meeting_at names k)) cast)
    ∙ ap (λ (b : Bool). b || not (list_any (λ key. is_eq (key_cmp key (key_in (meeting_at names k) c.args.single.slot))) keys)) (sym none)
