use Rattle.std.proofs.Common.{map}
use Rattle.cal_events.specs.Component.{time_of}
use Rattle.itip_messages.proofs.body_lemmas.BodyLemmas.{listed_written}
use Rattle.itip_messages.proofs.body.write_listed.Goals as goal

pub returns : goal.returns
returns c =
    listed_written c.args.name.now (map time_of c.args.times.now) c.args.body.now.items c.write_times.new.body.items c.write_times-2.new.body.items c.write_times-3.new.body.items
    c.in_ok-write_times.ensures c.in_ok-write_times-2.ensures c.in_ok-write_times-3.ensures
