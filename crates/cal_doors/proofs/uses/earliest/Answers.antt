use Rattle.std.proofs.Common.{◌≡◌, ◌==◌, ap, arith, sym, to_z, of_z, w64, to_z-of_z}
use Rattle.jiff_core.proofs.SignedLemmas.{signed_arith}
use Rattle.std.specs.List.{slice_split}
use Rattle.cal_rules.proofs.Cuts.{all_left, cut_more, cut_done}
use Rattle.cal_doors.proofs.UsesScans.{none_scanned, one_scanned, all_scanned}
use Rattle.cal_doors.proofs.uses.earliest.Goals as goal

pub loop-text-init : goal.loop-text-init
loop-text-init c =
    let s = c.split-text-items.ensures in (
      slice_split (λ x. x == 44) c.value.result.now,
      all_left 44 c.value.result.now _ _ (omega arith) s.text s.has_more s.pattern c.into_iter-text-iterator.ensures.into_iter_gives,
      none_scanned _ _ (slice_split (λ x. x == 44) c.value.result.now) (ap (slice_split (λ x. x == 44)) (sym c.value.ensures)),
    )

pub loop-text-preserved : goal.loop-text-preserved
loop-text-preserved c =
    let i = c.loop-text.invariant in
    let text = c.in-Some.text.now in
    let more = cut_more c.loop-text.text-iterator c.next.new.self c.in-Some.text i.0 i.1 c.in-Some.ensures.steps in
    let new : to_z w64 (of_z w64 c.min-first.result) ≡ c.min-first.result = to_z-of_z {w = w64} (record { sfits = c.min-first.type_inv }) in
    let said : to_z w64 (of_z w64 c.earliest_of.result) ≡ c.earliest_of.result = to_z-of_z {w = w64} (record { sfits = c.earliest_of.type_inv }) in
    let own = c.min-first.ensures.self_bound in
    let its = c.min-first.ensures.other_bound in (
      more.0,
      more.2,
      one_scanned _ _ _ i.0 more.0 text more.1
          (λ y still. (λ local s. let k = still.0 local s in omega (arith, signed_arith, new, own, k), λ instant s. let k = still.1 instant s in omega (arith, signed_arith, new, own, k))) (
            λ local s. let k = c.earliest_of.ensures.local local s in omega (arith, signed_arith, new, said, its, k),
            λ instant s. let k = c.earliest_of.ensures.utc instant s in omega (arith, signed_arith, new, said, its, k),
          ) i.2,
    )

pub returns-clause-local : goal.returns-clause-local
returns-clause-local c = λ local s.
    let i = c.loop-text.invariant in
    let none = cut_done c.loop-text.text-iterator c.next.new.self i.0 i.1 c.in-None.ensures.steps in
    (all_scanned _ _ i.0 none i.2 s.0 s.1).0 local s.2

pub returns-clause-utc : goal.returns-clause-utc
returns-clause-utc c = λ instant s.
    let i = c.loop-text.invariant in
    let none = cut_done c.loop-text.text-iterator c.next.new.self i.0 i.1 c.in-None.ensures.steps in
    (all_scanned _ _ i.0 none i.2 s.0 s.1).1 instant s.2
