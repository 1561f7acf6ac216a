use Rattle.std.proofs.Common.{◌≡◌, ◌≤◌, ◌+◌, true, take, map, string_bytes}
use Rattle.profile.specs.streams.Folders.{LosesNamesAlone}
use Rattle.sched_devices.specs.Folder.{IsKept}
use Rattle.sched_box.specs.Running.{HasAnswered, LeavesHeld}
use Rattle.sched_box.specs.Telling.{FilesTold}
use Rattle.sched_box.proofs.folders.answer_all.Given as goal

abbrev pub invariant-loop-file : goal.invariant-loop-file
invariant-loop-file g l = record {
  inbox_kept : IsKept g.I.Folder.is_known g.I.Folder.image g.I.Folder.temporary g.I.Folder.may_leave l.fn.inbox l.inbox;
  inbox_told : g.I.Folder.failed l.inbox ≡ g.I.Folder.failed l.fn.inbox;
  outbox_known : g.O.Folder.is_known l.outbox ≡ g.O.Folder.is_known l.fn.outbox;
  outbox_told : g.O.Folder.failed l.outbox ≡ g.O.Folder.failed l.fn.outbox;
  outbox_goes_on : g.O.Folder.is_known l.fn.outbox ≡ true → LosesNamesAlone (g.O.Folder.image l.fn.outbox) (g.O.Folder.may_leave l.fn.outbox)
      → LosesNamesAlone (g.O.Folder.image l.outbox) (g.O.Folder.may_leave l.outbox);
  counted : l.report.files ≡ l.place + l.file-index;
  fewer : l.report.written ≤ l.report.files;
  so : g.O.Folder.is_known l.fn.outbox ≡ true
      → HasAnswered (record { known = g.I.Folder.is_known l.fn.inbox; inbox = g.I.Folder.image l.fn.inbox; books = l.fn.books; start = g.O.Folder.image l.fn.outbox; first = g.O.Folder.moment l.fn.outbox })
      (take (l.place + l.file-index) l.files) l.books (g.O.Folder.image l.outbox) (g.O.Folder.moment l.outbox) (LeavesHeld (g.O.Folder.image l.fn.outbox) (g.O.Folder.may_leave l.fn.outbox))
      (g.O.Folder.left_since l.fn.outbox) (g.O.Folder.left_since l.outbox) (g.O.Folder.may_leave l.outbox) l.report;
  files_told : g.I.Folder.is_known l.fn.inbox ≡ true
      → FilesTold g.J.Journal.begins g.J.Journal.tells (g.I.Folder.image l.fn.inbox) (map string_bytes l.theirs) l.fn.journal (take (l.place + l.file-index) l.files) l.fn.books l.books l.journal;
}
