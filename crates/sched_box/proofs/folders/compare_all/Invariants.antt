use Rattle.std.proofs.Common.{◌≡◌, ◌≤◌, true, take}
use Rattle.sched_devices.specs.Folder.{IsKept, StaysAsOpen}
use Rattle.sched_box.specs.Running.{HasFound}
use Rattle.sched_box.proofs.folders.compare_all.Given as goal

abbrev pub invariant-loop-file : goal.invariant-loop-file
invariant-loop-file g l = record {
  inbox_kept : IsKept g.I.Folder.is_known g.I.Folder.image g.I.Folder.temporary g.I.Folder.may_leave l.fn.inbox l.inbox;
  inbox_still : StaysAsOpen g.I.Folder.may_leave l.fn.inbox l.inbox;
  inbox_told : g.I.Folder.failed l.inbox ≡ g.I.Folder.failed l.fn.inbox;
  outbox_kept : IsKept g.O.Folder.is_known g.O.Folder.image g.O.Folder.temporary g.O.Folder.may_leave l.fn.outbox l.outbox;
  outbox_still : StaysAsOpen g.O.Folder.may_leave l.fn.outbox l.outbox;
  outbox_told : g.O.Folder.failed l.outbox ≡ g.O.Folder.failed l.fn.outbox;
  files : l.found.files ≡ l.file-index;
  missing : l.found.missing ≤ l.file-index;
  so : g.O.Folder.is_known l.fn.outbox ≡ true → HasFound (record { known = g.I.Folder.is_known l.fn.inbox; inbox = g.I.Folder.image l.fn.inbox; books = l.fn.books; start = g.O.Folder.image l.fn.outbox; first = g.O.Folder.moment l.fn.outbox }) (take l.file-index l.files) l.books l.found;
}
