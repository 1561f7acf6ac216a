use Rattle.std.proofs.Common.{◌++◌, take, rules}
use Rattle.std.proofs.lemmas.Result.{err_from_is_err_and}
use Rattle.std.proofs.KnownBytes.{Appends-trans}
use Rattle.sched_devices.proofs.OutputLemmas.{moves_front, any_ok, any_err, all_written, some_written}
use Rattle.sched_devices.proofs.output.write_whole.Goals as goal

pub loop-rest-preserved : goal.loop-rest-preserved
loop-rest-preserved g c =
    let (done, split, appended) = c.loop-rest.invariant in
    let rest = c.loop-rest.rest.now in
    let n = c.in_ok-count.count in
    (done ++ take n rest, moves_front _ done rest n split, Appends-trans _ _ _ _ _ appended c.in_ok-count.ensures.written)

pub returns-clause-written : goal.returns-clause-written
returns-clause-written g c =
    let (done, split, appended) = c.loop-rest.invariant in
    any_ok c.flush.result _ (all_written _ _ _ _ done c.loop-rest.rest.now split appended (search rules) c.flush.ensures.keeps)

pub returns-clause-cut : goal.returns-clause-cut
returns-clause-cut g c =
    let (done, split, appended) = c.loop-rest.invariant in
    any_err c.flush.result _ (some_written _ _ _ _ done c.loop-rest.rest.now split appended c.flush.ensures.keeps)

pub returns-in_err-count-clause-cut : goal.returns-in_err-count-clause-cut
returns-in_err-count-clause-cut g c =
    let (done, split, appended) = c.loop-rest.invariant in
    let p = err_from_is_err_and c.from_residual.result c.from_residual.ensures.1 in
    rw p.1 (some_written _ _ _ _ done c.loop-rest.rest.now split appended c.in_err-count.ensures.keeps)
