use Rattle.std.proofs.Common.{◌≡◌, ◌∙◌, MatchOption, false, ap, subst, sym, rules}
use Rattle.std.proofs.lemmas.Bool.{not-true}
use Rattle.std.proofs.lemmas.Result.{IfOk-weaker}
use Rattle.cal_events.specs.Component.{method_said}
use Rattle.cal_events.specs.contracts.method.MethodPartialEq.TheImpl as methods
use Rattle.cal_events.specs.declared.method.Method.TheVariants as the
use Rattle.ical_values.specs.Octets.{address_octets}
use Rattle.itip_messages.specs.Message.{IsSpelled}
use Rattle.organiser_books.proofs.Taking.{methods_differ}
use Rattle.profile.specs.events.EventComponents as events
use Rattle.sched_box.specs.Answering.{octets_each}
use Rattle.sched_box.specs.Schedules.{IsUnread}
use Rattle.sched_box.proofs.ScheduleLemmas.{stores_none, stores_told, stores_unread}
use Rattle.sched_box.proofs.schedules.World.store.Goals as goal

pub returns-in_default : goal.returns-in_default
returns-in_default c =
    let octets = c.args.object.now in
    let unread = subst (λ read. MatchOption read (IsUnread octets) (IsSpelled octets)) c.in_default.is c.in_ok-message.ensures in
    stores_unread (address_octets c.args.organiser.now) octets c.args.now c.args.self.now (octets_each c.new.result.items) (ap octets_each c.new.ensures.items) unread

pub returns-then-ne : goal.returns-then-ne
returns-then-ne c =
    let octets = c.args.object.now in
    let message = c.in-Some.message in
    let spelled = subst (λ read. MatchOption read (IsUnread octets) (IsSpelled octets)) c.in-Some.is c.in_ok-message.ensures in
    let other = methods_differ message.method the.Store (subst (λ m. methods.eq-value.it m the.Store ≡ false) c.method.ensures (not-true _ (sym c.ne.ensures ∙ c.if-ne.true))) in
    stores_none (address_octets c.args.organiser.now) octets c.args.now c.args.self.now (octets_each c.new-then-ne.result.items) message (ap octets_each c.new-then-ne.ensures.items) spelled other

pub returns : goal.returns
returns c =
    let octets = c.args.object.now in
    let message = c.in-Some.message in
    let spelled = subst (λ read. MatchOption read (IsUnread octets) (IsSpelled octets)) c.in-Some.is c.in_ok-message.ensures in
    let kind : method_said message.method ≡ events.Store = search rules in
    IfOk-weaker c.tell_organiser.result _ _
    (λ sent tells. stores_told (address_octets c.args.organiser.now) octets c.args.now c.args.self.now c.tell_organiser.new.self (octets_each sent.items) message spelled kind tells)
    c.tell_organiser.ensures
