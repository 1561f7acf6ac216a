use Rattle.std.proofs.Common.{◌≡◌, ◌∙◌, ◌∷◌, [], sym, subst, List, ℤ, pos, get_or, FitsSigned, to_z, of_z, w64, to_z-of_z, rules}
use Rattle.std.specs.List.{AllZip}
use Rattle.std.proofs.lemmas.List.{take_all}
use Rattle.profile.specs.events.Starts.{EndsAt}
use Rattle.cal_events.specs.Component.{component_of}
use Rattle.cal_events.specs.Draft.{IsMadeAt}
use Rattle.cal_events.specs.SingleStarts.{AreSingleStarts}
use Rattle.cal_events.proofs.shared_lemmas.Placing.{placed_good}
use Rattle.cal_events.proofs.shared_lemmas.DraftLemmas.{made_more}
use Rattle.cal_events.proofs.shared_lemmas.OwnSingles.{master_own, override_own}
use Rattle.cal_events.proofs.draft.add_singles.Goals as goal

pub single_starts-requires : goal.single_starts-requires
single_starts-requires c = λ _. let s = c.requires in placed_good s.words s.room s.named s.object s.lines (component_of c.args.event.now) s.says

pub loop-start-preserved : goal.loop-start-preserved
loop-start-preserved c =
    let xs = c.deref-start-items.result.now in
    let k = c.loop-start.start-index in
    let x = get_or xs k (pos 0) in
    let fits : FitsSigned w64 x = search rules in
    let cast : to_z w64 (of_z w64 x) ≡ x = to_z-of_z fits in
    let s = c.single_at-in-loop-start.result in
    let p = c.single_at-in-loop-start.ensures.place in
    made_more c.args.entry (component_of c.args.event.now) xs k c.args.singles.now.items c.loop-start.singles.items c.push-in-loop-start.new.self.items s c.loop-start-test.true c.loop-start.invariant c.in_ok-push-in-None.ensures.items
    (record { at = p.0; slot = p.1 ∙ cast; starts = p.2 ∙ cast; ends = subst (λ (t : ℤ). EndsAt (component_of c.args.event.now).times t s.end) cast c.single_at-in-loop-start.ensures.ends })

pub returns-in_ok-push-in-Some : goal.returns-in_ok-push-in-Some
returns-in_ok-push-in-Some c room kept =
    let event = component_of c.args.event.now in
    let s = c.single_at.result in
    let p = c.single_at.ensures.place in
    let slot : to_z w64 (of_z w64 c.in-Some.slot) ≡ c.in-Some.slot = search rules in
    let start : to_z w64 (of_z w64 c.instant-start.result) ≡ c.args.event.now.times.instant = search rules in (
      s ∷ [],
      c.in_ok-push-in-Some.ensures.items,
      override_own room c.args.entry event c.requires kept c.in-Some.slot c.args.event.now.times.instant s c.in-Some.is p.0 (p.1 ∙ slot) (p.2 ∙ start)
          (subst (λ (t : ℤ). EndsAt event.times t s.end) (sym p.2) c.single_at.ensures.ends),
    )

pub returns-after-loop-start : goal.returns-after-loop-start
returns-after-loop-start c room kept =
    let event = component_of c.args.event.now in
    let i = c.loop-start.invariant in
    let xs = c.deref-start-items.result.now in
    let all = subst (λ (l : List ℤ). AllZip (IsMadeAt c.args.entry event) l i.0) (take_all c.loop-start.start-index xs c.loop-start-test.false) i.2 in
    let are = subst (AreSingleStarts event) (sym c.deref-start-items.ensures.value) c.in_ok-starts-in-None.ensures in
    (i.0, i.1, master_own room c.args.entry event c.requires kept c.in-None.is xs i.0 are all)
