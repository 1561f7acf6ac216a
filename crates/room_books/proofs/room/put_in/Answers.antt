use Rattle.std.proofs.Common.{sym}
use Rattle.room_books.proofs.room_lemmas.PutIn.{new_put, renewed_put}
use Rattle.room_books.proofs.room.put_in.Goals as goal

pub returns-clause-place : goal.returns-clause-place
returns-clause-place c =
    (renewed_put c.args.key c.args.more c.args.changes c.in-Some.place c.args.meetings.now.entries c.renew.new.meetings.entries (sym c.in-Some.ensures.index) c.in_ok-renew.ensures.renewed).0

pub returns-in_default-clause-put : goal.returns-in_default-clause-put
returns-in_default-clause-put c =
    new_put c.args.key c.args.more c.args.changes c.args.meetings.now.entries c.insert_full.new.self.entries c.new-meeting.result (sym c.in_default.ensures.index) c.new-meeting.ensures c.in_ok-place.ensures.entries

pub returns-clause-put : goal.returns-clause-put
returns-clause-put c =
    (renewed_put c.args.key c.args.more c.args.changes c.in-Some.place c.args.meetings.now.entries c.renew.new.meetings.entries (sym c.in-Some.ensures.index) c.in_ok-renew.ensures.renewed).1
