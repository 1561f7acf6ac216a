use Rattle.std.proofs.Common.{◌≡◌, true, take, map}
use Rattle.profile.specs.streams.Folders.{LosesNamesAlone}
use Rattle.sched_box.specs.Running.{HasPublished, LeavesHeld, file_in}
use Rattle.sched_box.proofs.folders.publish_all.Given as goal

abbrev pub invariant-loop-answer : goal.invariant-loop-answer
invariant-loop-answer g l = record {
  known : g.O.Folder.is_known l.outbox ≡ g.O.Folder.is_known l.fn.outbox;
  told : g.O.Folder.failed l.outbox ≡ g.O.Folder.failed l.fn.outbox;
  goes_on : g.O.Folder.is_known l.fn.outbox ≡ true → LosesNamesAlone (g.O.Folder.image l.fn.outbox) (g.O.Folder.may_leave l.fn.outbox)
      → LosesNamesAlone (g.O.Folder.image l.outbox) (g.O.Folder.may_leave l.outbox);
  so : g.O.Folder.is_known l.fn.outbox ≡ true
      → HasPublished (g.O.Folder.image l.fn.outbox) (map file_in (take l.answer-index l.answers)) (g.O.Folder.moment l.fn.outbox) (g.O.Folder.image l.outbox) (g.O.Folder.moment l.outbox)
      (LeavesHeld (g.O.Folder.image l.fn.outbox) (g.O.Folder.may_leave l.fn.outbox)) (g.O.Folder.left_since l.fn.outbox) (g.O.Folder.left_since l.outbox) (g.O.Folder.may_leave l.outbox);
}
