use Rattle.std.proofs.Common.{Global, List, String, map, string_bytes, subst}
use Rattle.sched_box.specs.Telling.{AllPassed}
use Rattle.sched_box.proofs.folders.message_files.Goals as goal

pub returns-clause-messages : goal.returns-clause-messages
returns-clause-messages g c = λ known. c.in_ok-files.ensures.messages (g.I.Folder.image c.args.inbox.now) c.in_ok-names.ensures.rising (c.in_ok-names.ensures.names known)

pub returns-clause-passes : goal.returns-clause-passes
returns-clause-passes g c = λ known.
    let P : List (String Global) → Type 0 = λ l. AllPassed g.J.Journal.passes c.args.journal.now (map string_bytes l) c.tell_left_alone.new.journal in
    record {
      names = map string_bytes c.in_ok-names.names.items;
      are = c.in_ok-names.ensures.names known;
      rising = c.in_ok-names.ensures.rising;
      passed = subst P c.deref.ensures.value c.tell_left_alone.ensures;
    }
