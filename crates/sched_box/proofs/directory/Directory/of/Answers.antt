use Rattle.std.proofs.Common.{◌∙◌, ap, map, arith, take_all}
use Rattle.ical_values.specs.Octets.{address_octets}
use Rattle.profile.specs.rooms.Kept.{each_once}
use Rattle.sched_box.specs.Asked.{directory_addresses}
use Rattle.sched_box.proofs.AskedLemmas.{listed_more}
use Rattle.sched_box.proofs.directory.Directory.of.Goals as goal

pub loop-host-init : goal.loop-host-init
loop-host-init c = c.new-directory.ensures

pub loop-host-preserved : goal.loop-host-preserved
loop-host-preserved c =
    listed_more c.args.hosts.now c.loop-host.host-index (directory_addresses c.loop-host.directory) (directory_addresses c.add.new.self) c.host-item.result c.in_ok-add.field-0
    c.loop-host-test.true c.host-item.is c.in_ok-add.ensures c.loop-host.invariant

pub returns : goal.returns
returns c = c.loop-host.invariant ∙ ap (λ list. each_once (map address_octets list)) (take_all c.loop-host.host-index c.args.hosts.now (omega (arith, c.loop-host-test.false)))
