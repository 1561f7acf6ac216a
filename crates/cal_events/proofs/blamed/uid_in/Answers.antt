use Rattle.std.proofs.Common.{List, ℕ, false, subst}
use Rattle.std.specs.Prelude.{IfSome}
use Rattle.ical_tree.specs.Tree.{IsObjectOf, tree_of}
use Rattle.ical_tree.proofs.TreeOfLemmas.{object_tree}
use Rattle.ical_values.specs.Octets.{text_octets}
use Rattle.profile.specs.text.Lines.{logical_lines}
use Rattle.profile.specs.checker.Blamed.{IsBlamedIn}
use Rattle.profile.specs.series.RoomZones.{NamesRoomZone}
use Rattle.cal_zones.specs.RoomZones.{room_of}
use Rattle.cal_events.proofs.shared_lemmas.BlamedLemmas.{blamed_there}
use Rattle.cal_events.proofs.blamed.uid_in.Goals as goal

pub returns-in-Some : goal.returns-in-Some
returns-in-Some c =
    let octets = c.args.bytes.now in
    let calendar = c.in_ok-object.object.calendar in
    let object = subst (λ (ls : List (List ℕ)). IsObjectOf false calendar ls) c.in_ok-text.ensures.lines c.in_ok-object.ensures.spelled in record {
      object = tree_of calendar;
      is = object_tree false calendar (logical_lines octets) object;
      blamed = subst (λ found. IfSome found (λ uid. IsBlamedIn (tree_of calendar) (text_octets uid) c.args.number)) c.in-Some.is c.in_ok-uid.ensures;
    }

pub returns : goal.returns
returns c =
    let octets = c.args.bytes.now in
    let calendar = c.in_ok-object.object.calendar in
    let object = subst (λ (ls : List (List ℕ)). IsObjectOf false calendar ls) c.in_ok-text.ensures.lines c.in_ok-object.ensures.spelled in
    let named = subst (λ own. NamesRoomZone own (room_of c.in_ok-zone.zone)) c.in_ok-object.ensures.own c.in_ok-zone.ensures.names in
    blamed_there octets (tree_of calendar) (object_tree false calendar (logical_lines octets) object) c.args.number c.twin_uid.result (c.twin_uid.ensures named)
