use Rattle.std.proofs.Common.{length, map, ap, arith}
use Rattle.ical_values.specs.Octets.{address_octets}
use Rattle.cal_events.proofs.entries_lemmas.EntryLemmas.{count}
use Rattle.cal_events.proofs.entries.Entries.len.Goals as goal

pub returns : goal.returns
returns c =
    let os = map address_octets c.self.inside.organisers.items in
    let n = count os c.self.inside.uids c.self.inside.entries.items c.self.invariant.0 in
    let e = ap length c.self.view_is in
    omega (arith, c.len.ensures, c.self.inside.entries.ok.0, n, e)
