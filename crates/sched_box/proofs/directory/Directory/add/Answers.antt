use Rattle.std.proofs.Common.{rules}
use Rattle.ical_values.specs.Octets.{address_octets}
use Rattle.sched_box.proofs.AskedLemmas.{added_if, still_differ}
use Rattle.sched_box.proofs.directory.Directory.add.Goals as goal

pub invariant_of-self-2 : goal.invariant_of-self-2
invariant_of-self-2 c = record {
  differ = still_differ c.insert.result c.args.self.now.addresses.keys c.insert.new.self.keys c.in_ok-clone.field-0 c.insert.ensures.err c.insert.ensures.keys c.args.self.now.differ;
}

pub returns : goal.returns
returns c =
    added_if c.args.self.now.addresses.keys c.insert.new.self.keys c.in_ok-clone.field-0 (address_octets c.args.host.now) c.in_ok-is_new.is_new (search rules)
    c.in_ok-is_new.ensures.added c.in_ok-is_new.ensures.keys
