use Rattle.std.proofs.Common.{◌∙◌, inr, map, string_bytes, sym, arith, true≢false}
use Rattle.sched_box.proofs.FolderLemmas.{last_among, none_among}
use Rattle.sched_box.proofs.folders.place_behind_last.Goals as goal

pub returns-then-branch-clause-last : goal.returns-then-branch-clause-last
returns-then-branch-clause-last c =
    inr (last_among (map string_bytes c.args.theirs.now) c.args.files.now c.loop-place.place c.index-files-place.result (omega arith) c.loop-place.invariant.within c.index-files-place.is (c.in_ok-is_answered.ensures.0 c.if-branch.true))

pub loop-place-preserved : goal.loop-place-preserved
loop-place-preserved c =
    let within = c.loop-place.invariant.within in
    record {
      within = omega arith;
      behind = none_among (map string_bytes c.args.theirs.now) c.args.files.now c.loop-place.place c.index-files-place.result (omega arith) within c.index-files-place.is
          (λ there. true≢false (sym (c.in_ok-is_answered.ensures.1 there) ∙ c.if-branch.false)) c.loop-place.invariant.behind;
    }
