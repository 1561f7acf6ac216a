use Rattle.std.proofs.Common.{◌≡◌, ◌++◌}
use Rattle.itip_messages.proofs.shared_lemmas.LineLemmas.{refresh_written}
use Rattle.itip_messages.proofs.refresh.write_refresh.Goals as goal

pub returns-clause-ok : goal.returns-clause-ok
returns-clause-ok c =
    let last : c.extend_from_slice.new.self.items ≡ c.args.out.now.items ++ c.end_calendar.new.self = cc (c.in_ok-extend_from_slice.ensures.items) in
    (c.end_calendar.new.self, refresh_written c.args.refresh.now _ _ _ _ c.new-object.ensures c.in_ok-begin_calendar.ensures.ok c.in_ok-write_event.ensures c.in_ok-end_calendar.ensures.ok, last)
