use Rattle.std.proofs.Common.{◌≡◌, ◌∙◌, ◌||◌, Bool, List, Some, true, false, length, length-set, set, sym, ap, subst, refl, arith, take_all}
use Rattle.std.specs.Prelude.{is_some}
use Rattle.std.specs.List.{list_any, position}
use Rattle.std.specs.Str.{bytes_eq}
use Rattle.std.proofs.lemmas.List.{length-map}
use Rattle.ical_values.specs.Octets.{address_octets}
use Rattle.ical_values.specs.declared.address.Address.{Address}
use Rattle.cal_events.specs.declared.component.Attendee.{Attendee}
use Rattle.sched_box.specs.Asked.{LeavesOut, directory_addresses, names}
use Rattle.sched_box.proofs.AskedLemmas.{off_none, off_found, marks_none, marks_more}
use Rattle.sched_box.proofs.directory.Directory.mark.Goals as goal
use Rattle.sched_box.proofs.directory.Directory.mark.Goals.{in-Some, in_default}

pub loop-attendee-init : goal.loop-attendee-init
loop-attendee-init c = marks_none _ _ _

pub loop-attendee-preserved : goal.loop-attendee-preserved
loop-attendee-preserved c =
    let directory = c.args.self.now in
    let keys = directory.addresses.keys in
    let x = c.attendee-item.result in
    let a = address_octets x.address in
    let is_it : Address → Bool = λ key. bytes_eq a (address_octets key) in
    let old = c.loop-attendee.asked.items in
    let kept = c.loop-attendee.invariant in
    let long : length old ≡ length keys = kept.long ∙ c.requires ∙ length-map keys address_octets in
    elim c.match-get_index_of.branch [
      | in-Some w ↦
          let place = w.in-Some.place in
          let found : position is_it keys ≡ Some place = sym c.get_index_of.ensures.index ∙ w.in-Some.is in
          rw w.asked-is (marks_more (directory_addresses directory) c.args.attendees.now c.loop-attendee.attendee-index x _ old (set old place true) c.loop-attendee-test.true c.attendee-item.is (length-set old place true)
          (off_found keys x.address a old place directory.differ long found) kept)
      | in_default w ↦
          let none : list_any is_it keys ≡ false = sym c.get_index_of.ensures.found ∙ ap is_some w.in_default.is in
          rw w.asked-is (marks_more (directory_addresses directory) c.args.attendees.now c.loop-attendee.attendee-index x _ old old c.loop-attendee-test.true c.attendee-item.is refl
          (λ other off. (off, off_none keys x.address a old long none other off)) kept)
    ]

pub returns-clause-marks : goal.returns-clause-marks
returns-clause-marks c test so =
    let all = take_all c.loop-attendee.attendee-index c.args.attendees.now (omega (arith, c.loop-attendee-test.false)) in
    subst (λ (list : List Attendee). LeavesOut (λ room. test room || names list room) (directory_addresses c.args.self.now) c.loop-attendee.asked.items) all (c.loop-attendee.invariant.marks test so)
