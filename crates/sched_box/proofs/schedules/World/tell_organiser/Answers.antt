use Rattle.std.proofs.Common.{◌≡◌, ◌∙◌, true, false, ap, refl, subst, sym}
use Rattle.std.specs.Str.{bytes_eq}
use Rattle.std.proofs.lemmas.Bool.{both_ways, not-false, not-true}
use Rattle.std.proofs.lemmas.Slice.Eq.{bytes_eq-Decides}
use Rattle.ical_lines.specs.Fault.{RefusesBy}
use Rattle.ical_values.specs.Octets.{address_octets}
use Rattle.ical_values.specs.Refused.{IfRefused}
use Rattle.sched_box.specs.Answering.{octets_each}
use Rattle.sched_box.specs.Organising.{KeepBooks, OrganisersRefuse}
use Rattle.sched_box.specs.declared.schedules.World.{World}
use Rattle.sched_box.proofs.ScheduleLemmas.{tells_other, tells_refused, tells_taken}
use Rattle.sched_box.proofs.schedules.World.tell_organiser.Goals as goal

pub returns-then-ne : goal.returns-then-ne
returns-then-ne c =
    let object = c.args.object.now in
    let to = address_octets c.args.organiser.now in
    let other = subst (λ a. bytes_eq (address_octets a) to ≡ false) c.organiser.ensures (not-true _ (sym c.ne.ensures ∙ c.if-ne.true)) in
    tells_other to c.args.now object c.args.self.now (octets_each c.new.result.items) (ap octets_each c.new.ensures.items)
    (λ same. both_ways _ other ((bytes_eq-Decides (address_octets object.organiser) to).1 same))

pub returns-in-Ok : goal.returns-in-Ok
returns-in-Ok c =
    let old = c.args.self.now in
    let to = address_octets c.args.organiser.now in
    let new : World = record { alloc = old.alloc; rooms = old.rooms; organisers = c.take.new.self; sent = old.sent } in
    let same = subst (λ a. bytes_eq (address_octets a) to ≡ true) c.organiser.ensures (not-false _ (sym c.ne.ensures ∙ c.if-ne.false)) in
    let named = (bytes_eq-Decides (address_octets c.args.object.now.organiser) to).0 same in
    tells_taken to c.args.now c.args.object.now old new (octets_each c.in-Ok.sent.items) named c.in-Ok.ensures.takes refl refl

pub returns-in-Err-Refused : goal.returns-in-Err-Refused
returns-in-Err-Refused c =
    let old = c.args.self.now in
    let to = address_octets c.args.organiser.now in
    let new : World = record { alloc = old.alloc; rooms = old.rooms; organisers = c.take.new.self; sent = old.sent } in
    let same = subst (λ a. bytes_eq (address_octets a) to ≡ true) c.organiser.ensures (not-false _ (sym c.ne.ensures ∙ c.if-ne.false)) in
    let named = (bytes_eq-Decides (address_octets c.args.object.now.organiser) to).0 same in
    let object = c.args.object.now in
    let olds = old.organisers.organisers.items in
    let refuses = subst (RefusesBy (OrganisersRefuse object olds)) c.in-Err-Refused.field-0-is c.in-Err-Refused.ensures.fault in
    let keep = subst (IfRefused (KeepBooks olds new.organisers.organisers.items)) c.in-Err-Refused.field-0-is c.in-Err-Refused.ensures.keeps in
    tells_refused to c.args.now object old new (octets_each c.new-in-Err-Refused.result.items) c.in-Err-Refused.field-0-0.number
    (ap octets_each c.new-in-Err-Refused.ensures.items) named refuses keep refl refl
