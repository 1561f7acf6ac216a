use Rattle.std.proofs.Common.{◌≡◌, ◌∙◌, ◌<◌, ◌≤◌, ◌&&◌, ◌==◌, List, false, sym, ap, subst, length, get_or, take_all, rules}
use Rattle.std.specs.Vec.{vec_len}
use Rattle.std.proofs.Math.Bool.{and-false}
use Rattle.itip_messages.specs.Message.{cancels_for_all}
use Rattle.cal_events.specs.Component.{method_said}
use Rattle.profile.specs.rooms.Messages.{is_cancel}
use Rattle.itip_messages.specs.declared.message_component.MessageComponent.{MessageComponent}
use Rattle.sched_box.specs.Asked.{LeavesOut, directory_addresses}
use Rattle.sched_box.proofs.AskedLemmas.{AsksSofar, asks_sofar, asks_more, asks_all}
use Rattle.sched_box.proofs.directory.Directory.asked_by.Goals as goal
use Rattle.sched_box.proofs.directory.Directory.asked_by.Goals.{then-cancels+then-names_nobody, else-cancels, else-cancels-via-then-cancels+else-names_nobody, else-cancels-via-else-cancels}

pub loop-component-preserved : goal.loop-component-preserved
loop-component-preserved c =
    let message = c.args.message.now in
    let addresses = directory_addresses c.args.self.now in
    let x = c.component-item.result in
    let i = c.loop-component.component-index in
    let all = c.components-component-items.ensures in
    let within : i < length message.components.items = subst (λ (l : List MessageComponent). i < length l) all c.loop-component-test.true in
    let is : x ≡ get_or message.components.items i x = subst (λ (l : List MessageComponent). x ≡ get_or l i x) all c.component-item.is in
    let old = c.loop-component.asked.items in
    let new = c.mark.new.asked.items in
    elim c.if-cancels.branch [
      | then-cancels+then-names_nobody w ↦
          let filled = ap (λ v. v.items) w.asked-is ∙ w.fill.ensures.items (λ y e. e) in
          let long : length w.fill.new.self.items ≡ length old = search rules in
          asks_all message addresses i (vec_len c.loop-component.asked) c.lines.result.now c.if-cancels.asked.items new filled
          (c.mark.ensures.long ∙ ap (λ v. length v.items) w.asked-is ∙ long ∙ c.loop-component.invariant.long) c.mark.ensures.marks
      | else-cancels w ↦
          let more = λ (none : cancels_for_all message x ≡ false). asks_more message addresses i x c.lines.result.now c.if-cancels.asked.items new within is (c.lines.ensures ∙ c.attendees.ensures) none c.mark.ensures.long c.mark.ensures.marks
          (subst (λ flags. AsksSofar message addresses i flags) (ap (λ v. v.items) (sym w.asked-is)) c.loop-component.invariant) in
          elim w.else-cancels.branch [
            | else-cancels-via-then-cancels+else-names_nobody v ↦
                more (ap (λ b. is_cancel (method_said message.method) && b) (sym v.names_nobody.ensures ∙ v.if-names_nobody.false) ∙ and-false (is_cancel (method_said message.method)))
            | else-cancels-via-else-cancels v ↦
                let none : is_cancel (method_said message.method) ≡ false = ap (λ m. is_cancel (method_said m)) (sym c.method.ensures) ∙ sym c.is_cancel-cancels.ensures ∙ v.if-cancels.false in
                more (ap (λ b. b && (length x.attendees == 0)) none)
          ]
    ]

pub returns-clause-out : goal.returns-clause-out
returns-clause-out c =
    let message = c.args.message.now in
    let components = message.components.items in
    let end : length components ≤ c.loop-component.component-index = subst (λ (l : List MessageComponent). length l ≤ c.loop-component.component-index) c.components-component-items.ensures c.loop-component-test.false in
    subst (λ (l : List MessageComponent). LeavesOut (asks_sofar message l) (directory_addresses c.args.self.now) c.loop-component.asked.items) (take_all c.loop-component.component-index components end) c.loop-component.invariant.out
