use Rattle.sched_box.proofs.FolderLemmas.{goes_published}
use Rattle.sched_box.proofs.folders.publish_answers.Goals as goal

pub returns-in_err-publish-clause-time : goal.returns-in_err-publish-clause-time
returns-in_err-publish-clause-time g c = λ known.
    let wrote = c.in_ok-write_synced.ensures in
    let s2 = c.publish.new.self in
    goes_published _ _ _ _ _ _ _ _ _ (g.O.Folder.temporary c.write_synced.new.outbox) _ _ wrote.time wrote.stop (wrote.synced known) (wrote.octets known) c.in_err-publish.ensures.stop c.in_err-publish.ensures.time (g.met.O.Folder.counts_now s2)
