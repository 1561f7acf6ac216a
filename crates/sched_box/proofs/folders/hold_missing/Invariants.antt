use Rattle.std.proofs.Common.{◌≡◌, ◌≤◌, true, take, map, length, string_bytes}
use Rattle.sched_devices.specs.Folder.{IsKept}
use Rattle.sched_box.specs.Running.{GoesOn, HasCompared, file_in}
use Rattle.sched_box.specs.Telling.{FilesTold}
use Rattle.sched_box.proofs.folders.hold_missing.Given as goal

abbrev pub invariant-loop-file : goal.invariant-loop-file
invariant-loop-file g l = record {
  inbox_kept : IsKept g.I.Folder.is_known g.I.Folder.image g.I.Folder.temporary g.I.Folder.may_leave l.fn.inbox l.inbox;
  inbox_told : g.I.Folder.failed l.inbox ≡ g.I.Folder.failed l.fn.inbox;
  outbox_kept : IsKept g.O.Folder.is_known g.O.Folder.image g.O.Folder.temporary g.O.Folder.may_leave l.fn.outbox l.outbox;
  outbox_told : g.O.Folder.failed l.outbox ≡ g.O.Folder.failed l.fn.outbox;
  time : GoesOn (g.O.Folder.moment l.fn.outbox) (g.O.Folder.moment l.outbox) (g.O.Folder.left_since l.fn.outbox) (g.O.Folder.left_since l.outbox) (g.O.Folder.may_leave l.fn.outbox);
  few : length l.held.items ≤ l.file-index;
  so : g.O.Folder.is_known l.fn.outbox ≡ true → HasCompared (record { known = g.I.Folder.is_known l.fn.inbox; inbox = g.I.Folder.image l.fn.inbox; books = l.fn.books; start = g.O.Folder.image l.fn.outbox; first = g.O.Folder.moment l.fn.outbox }) (take l.file-index l.files) l.books (map file_in l.held.items);
  files_told : g.I.Folder.is_known l.fn.inbox ≡ true
      → FilesTold g.J.Journal.begins g.J.Journal.tells (g.I.Folder.image l.fn.inbox) (map string_bytes l.theirs) l.fn.journal (take l.file-index l.files) l.fn.books l.books l.journal;
}
