use Rattle.std.proofs.Common.{◌∙◌, ap, map, subst}
use Rattle.ical_values.specs.Octets.{address_octets}
use Rattle.profile.specs.rooms.Kept.{each_once}
use Rattle.profile.specs.streams.Streams.{new_room}
use Rattle.profile.specs.streams.Worlds.{rooms_once}
use Rattle.sched_box.specs.Answering.{AreHosted}
use Rattle.sched_box.specs.Config.{config_organisers}
use Rattle.sched_box.specs.Organising.{AreKeptBy, nothing_kept}
use Rattle.sched_box.specs.Settings.{zoned_room}
use Rattle.sched_box.proofs.HostLemmas.{hosted_addresses, new_addresses, once_each, once_rooms}
use Rattle.sched_box.proofs.books.Books.new.Goals as goal

pub returns-clause-addresses : goal.returns-clause-addresses
returns-clause-addresses c =
    let hosts = map zoned_room c.args.config.now.rooms.items in
    let rooms = ap (λ list. rooms_once (map zoned_room list)) c.rooms.ensures.rooms ∙ once_rooms hosts c.rooms.ensures.differ in
    hosted_addresses c.in_ok-rooms.rooms.rooms.items (map new_room hosts)
    (subst (λ list. AreHosted c.in_ok-rooms.rooms.rooms.items (map new_room list)) rooms c.in_ok-rooms.ensures.hosted) ∙ new_addresses hosts

pub returns-clause-kept : goal.returns-clause-kept
returns-clause-kept c =
    let config = c.args.config.now in
    let rooms = ap (λ list. rooms_once (map zoned_room list)) c.rooms.ensures.rooms ∙ once_rooms (map zoned_room config.rooms.items) c.rooms.ensures.differ in
    let organisers = ap (λ list. each_once (map address_octets list)) c.organisers.ensures.organisers ∙ once_each (config_organisers config) c.organisers.ensures.differ in
    record {
      rooms = subst (λ list. AreHosted c.in_ok-rooms.rooms.rooms.items (map new_room list)) rooms c.in_ok-rooms.ensures.hosted;
      organisers = subst (λ list. AreKeptBy c.in_ok-organisers.organisers.organisers.items (map nothing_kept list)) organisers c.in_ok-organisers.ensures.kept;
    }
