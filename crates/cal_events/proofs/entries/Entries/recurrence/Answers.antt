use Rattle.std.proofs.Common.{map, sym, ap, arith}
use Rattle.ical_values.specs.Octets.{address_octets}
use Rattle.cal_events.specs.Entries.{Name}
use Rattle.cal_events.proofs.entries_lemmas.EntryLemmas.{entry_in, name_there}
use Rattle.cal_events.proofs.entries.Entries.recurrence.Goals as goal

pub index-requires : goal.index-requires
index-requires c =
    let os = map address_octets c.self.inside.organisers.items in
    let us = c.self.inside.uids in
    let es = c.self.inside.entries.items in
    let k = c.args.place in
    let l = entry_in os us es c.args.self.now c.self.view_is c.self.invariant.0 k c.requires in
    omega (arith, l, c.self.inside.entries.ok.0)

pub returns : goal.returns
returns c =
    let os = map address_octets c.self.inside.organisers.items in
    let us = c.self.inside.uids in
    let es = c.self.inside.entries.items in
    let k = c.args.place in
    sym (ap (λ (n : Name). n.1) (name_there os us es c.args.self.now c.self.view_is c.self.invariant.0 k c.requires c.index.result.now c.index.ensures))
