-- One more component.
use Rattle.std.proofs.Common.{◌≡◌, ◌∙◌, ◌∷◌, ◌++◌, ◌+◌, [], List, take, take_all, sym, ap, subst}
use Rattle.std.proofs.lemmas.List.{take_more}
use Rattle.itip_messages.specs.declared.message_component.MessageComponent.{MessageComponent}
use Rattle.itip_messages.specs.MeetingText.{WritesComponents}
use Rattle.itip_messages.proofs.shared_lemmas.MeetingLines.{components_more, none_written}
use Rattle.itip_messages.proofs.meeting_text.write_components.Goals as goal

pub loop-component-init : goal.loop-component-init
loop-component-init g c = none_written (g.A.AttendeeLines.line c.args.lines.now) c.args.meeting.now c.args.zones.now c.args.object.now

pub loop-component-preserved : goal.loop-component-preserved
loop-component-preserved g c =
    let cs = c.args.meeting.now.components.now in
    let i = c.loop-component.component-index in
    let it = c.component-item.result in
    let IsLine = g.A.AttendeeLines.line c.args.lines.now in
    let more : take (i + 1) cs ≡ take i cs ++ it ∷ [] = take_more cs i it c.loop-component-test.true ∙ ap (λ x. take i cs ++ x ∷ []) (sym c.component-item.is) in
    subst (λ (done : List MessageComponent). WritesComponents IsLine c.args.meeting.now done c.args.zones.now c.write_component.new.zones c.args.object.now c.write_component.new.object) (sym more)
    (components_more IsLine c.args.meeting.now (take i cs) it c.args.zones.now c.loop-component.zones c.write_component.new.zones c.args.object.now c.loop-component.object c.write_component.new.object c.loop-component.invariant c.in_ok-write_component.ensures)

pub returns : goal.returns
returns g c =
    let all = take_all c.loop-component.component-index c.args.meeting.now.components.now c.loop-component-test.false in
    subst (λ (done : List MessageComponent). WritesComponents (g.A.AttendeeLines.line c.args.lines.now) c.args.meeting.now done c.args.zones.now c.loop-component.zones c.args.object.now c.loop-component.object) all c.loop-component.invariant
