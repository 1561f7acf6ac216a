use Rattle.std.proofs.Common.{◌≡◌, ◌∙◌, ◌++◌, false, List, take, sym, ap, subst, append_assoc, arith}
use Rattle.std.specs.List.{flat_map}
use Rattle.std.proofs.lemmas.List.{take_all}
use Rattle.itip_order.specs.Parts.{revision_of}
use Rattle.itip_messages.specs.declared.message_component.MessageComponent.{MessageComponent}
use Rattle.profile.specs.organisers.Organisers.{Heard}
use Rattle.organiser_books.specs.Representation.{heard_said, is_unknown, AreSeen}
use Rattle.organiser_books.proofs.Hearing.{none_passes, unknown_same}
use Rattle.organiser_books.proofs.Loops.{flat_push, one_more}
use Rattle.organiser_books.proofs.meeting.StoredMeeting.hear_all.Goals as goal

pub loop-component-preserved : goal.loop-component-preserved
loop-component-preserved c =
    let i = c.loop-component.invariant in
    let components = c.args.components.now in
    let place = c.loop-component.component-index in
    let component = c.component-item.result in
    let inside = c.loop-component-test.true in
    let room = c.hear.ensures.spare in
    let left = i.5 in (
      c.hear.ensures.revision ∙ i.0,
      c.hear.ensures.components ∙ i.1,
      c.hear.ensures.attending ∙ i.2,
      c.hear.ensures.object ∙ i.3,
      λ stored replies revision seen known.
          let done = flat_map (heard_said stored.uid) (take place components) in
          let stranger : is_unknown c.loop-component.self component.attendees ≡ false =
          unknown_same c.loop-component.self c.args.self.now i.2 component.attendees
          ∙ none_passes (λ (x : MessageComponent). is_unknown c.args.self.now x.attendees) components place component known inside c.component-item.is in
          subst (λ (l : List Heard). AreSeen c.hear.new.self stored l)
          (append_assoc replies done (heard_said stored.uid component)
          ∙ ap (λ (l : List Heard). replies ++ l) (sym (ap (flat_map (heard_said stored.uid)) (one_more components place component inside c.component-item.is) ∙ flat_push (heard_said stored.uid) (take place components) component)))
          (c.hear.ensures.seen stored (replies ++ done) (ap revision_of i.0 ∙ revision) (i.4 stored replies revision seen known) stranger),
      omega (arith, room, left, inside),
    )

pub returns-clause-seen : goal.returns-clause-seen
returns-clause-seen c = λ stored replies revision seen known.
    let components = c.args.components.now in
    subst (λ (l : List MessageComponent). AreSeen c.loop-component.self stored (replies ++ flat_map (heard_said stored.uid) l)) (take_all c.loop-component.component-index components (omega arith))
    (c.loop-component.invariant.4 stored replies revision seen known)
