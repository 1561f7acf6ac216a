use Rattle.std.proofs.Common.{◌≡◌, ◌∙◌, refl, Option, None, Some, ap, sym, subst}
use Rattle.indexmap.specs.IndexMap.{get}
use Rattle.ical_values.specs.Octets.{address_octets, text_octets}
use Rattle.profile.specs.events.EventComponents as events
use Rattle.profile.specs.organisers.Organisers.{last_store}
use Rattle.organiser_books.specs.declared.meeting.StoredMeeting.{StoredMeeting}
use Rattle.organiser_books.specs.Representation.{is_strange, same_text, RepresentsAt}
use Rattle.organiser_books.proofs.Books.{represented_known}
use Rattle.organiser_books.proofs.Sends.{copied}
use Rattle.organiser_books.proofs.Taking.{may_take, strange_fault, unknown_fault}
use Rattle.organiser_books.proofs.organiser.Organiser.take_refresh.Goals as goal

refresh_reply : events.Refresh ≡ events.Reply → ⊥
refresh_reply e = absurd (cc)

pub returns-in_default-clause-fault : goal.returns-in_default-clause-fault
returns-in_default-clause-fault c = λ said is book keeps.
    let object = c.args.object.now in
    let uid = text_octets object.uid in
    let found : RepresentsAt book uid None (last_store uid book) = subst (λ (o : Option StoredMeeting). RepresentsAt book uid o (last_store uid book)) (sym (c.in_default.ensures.value ∙ ap (get same_text c.args.self.now.meetings) c.uid.ensures)) (keeps.each object.uid) in
    unknown_fault (address_octets c.args.self.now.address) object said is events.Refresh (sym is.method ∙ c.in_ok-expect.ensures.kind) refl (sym is.organiser ∙ c.in_ok-expect.ensures.own) book found

pub returns-then-is_strange-clause-fault : goal.returns-then-is_strange-clause-fault
returns-then-is_strange-clause-fault c = λ said is book keeps.
    let object = c.args.object.now in
    let uid = text_octets object.uid in
    let m = c.in-Some.meeting.now in
    let found : RepresentsAt book uid (Some m) (last_store uid book) = subst (λ (o : Option StoredMeeting). RepresentsAt book uid o (last_store uid book)) (sym (c.in-Some.ensures.value ∙ ap (get same_text c.args.self.now.meetings) c.uid.ensures)) (keeps.each object.uid) in
    let strange = sym (c.is_strange.ensures ∙ ap (is_strange m) c.components.ensures) ∙ c.if-is_strange.true in
    strange_fault (address_octets c.args.self.now.address) object said is events.Refresh (sym is.method ∙ c.in_ok-expect.ensures.kind) refl (sym is.organiser ∙ c.in_ok-expect.ensures.own) book m found (λ e. absurd (refresh_reply e)) strange

pub returns-clause-steps : goal.returns-clause-steps
returns-clause-steps c = λ said is book keeps.
    let object = c.args.object.now in
    let uid = text_octets object.uid in
    let m = c.in-Some.meeting.now in
    let found : RepresentsAt book uid (Some m) (last_store uid book) = subst (λ (o : Option StoredMeeting). RepresentsAt book uid o (last_store uid book)) (sym (c.in-Some.ensures.value ∙ ap (get same_text c.args.self.now.meetings) c.uid.ensures)) (keeps.each object.uid) in
    let known = represented_known book uid m (last_store uid book) found in (
      may_take (address_octets c.args.self.now.address) object said is events.Refresh (sym is.method ∙ c.in_ok-expect.ensures.kind) refl (sym is.organiser ∙ c.in_ok-expect.ensures.own) book m found (λ e. absurd (refresh_reply e)) (sym (c.is_strange.ensures ∙ ap (is_strange m) c.components.ensures) ∙ c.if-is_strange.false),
      (known.0, ap (λ u. last_store u book) (sym is.uid) ∙ known.1, copied m.object.items c.in_ok-clone.field-0.items c.in_ok-clone.ensures.cases.0 ∙ known.2.object),
    )
