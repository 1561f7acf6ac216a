use Rattle.std.proofs.Common.{◌≡◌, ◌∙◌, ◌∷◌, ◌^◌, ◌<◌, ◌&&◌, [], ap, sym, subst, true, false, ℕ, map, length, rules}
use Rattle.std.specs.Prelude.{is_some}
use Rattle.ical_values.specs.Octets.{address_octets}
use Rattle.std.proofs.lemmas.List.{append-nil, map-append}
use Rattle.profile.specs.events.Events.{is_master}
use Rattle.profile.specs.events.Confirmed.{is_kept}
use Rattle.cal_events.specs.Component.{component_of}
use Rattle.cal_events.specs.Draft.{AreOwnAt}
use Rattle.cal_events.proofs.shared_lemmas.DraftLemmas.{draft_more, none_own, more_series}
use Rattle.cal_events.proofs.shared_lemmas.NamingLemmas.{few, naming_more}
use Rattle.cal_events.proofs.draft.Draft.add.Goals as goal

pub returns-then-not-is_kept-clause-draft : goal.returns-then-not-is_kept-clause-draft
returns-then-not-is_kept-clause-draft c events draft =
    let room = address_octets c.args.room.now in
    let event = component_of c.args.event in
    let kept : is_kept room event ≡ false = sym c.is_kept.ensures ∙ c.if-not-is_kept.true in
    let short : c.len.result < 2 ^ 64 = search rules in
    let old = c.args.self.now in
    let named = naming_more room events event old.naming c.with-self.result draft.naming c.with-self.ensures.any c.with-self.ensures.named c.with-self.ensures.counted
    (few events event old.entries _ draft.entries c.in_ok-push.ensures (subst (λ (n : ℕ). n < 2 ^ 64) c.len.ensures short)) in
    draft_more room events event c.args.self.now _ draft c.requires [] c.in_ok-push.ensures c.args.event.begun c.in_ok-push-2.ensures.items (sym (append-nil _)) (none_own room _ event kept)
    (more_series room event (map component_of c.args.self.now.series.items) _ false (ap (λ x. x && is_master event && is_some event.rule) kept) (sym (append-nil _)))
    named

pub returns-in_ok-push-3-clause-draft : goal.returns-in_ok-push-3-clause-draft
returns-in_ok-push-3-clause-draft c events draft =
    let room = address_octets c.args.room.now in
    let event = component_of c.args.event in
    let kept : is_kept room event ≡ true = sym c.is_kept.ensures ∙ c.if-not-is_kept.false in
    let own = c.in_ok-add_singles.ensures room kept in
    let short : c.len.result < 2 ^ 64 = search rules in
    let old = c.args.self.now in
    let named = naming_more room events event old.naming c.with-self.result draft.naming c.with-self.ensures.any c.with-self.ensures.named c.with-self.ensures.counted
    (few events event old.entries _ draft.entries c.in_ok-push.ensures (subst (λ (n : ℕ). n < 2 ^ 64) c.len.ensures short)) in
    let here : c.len-place.result ≡ length c.args.self.now.entries = c.len-place.ensures in
    draft_more room events event c.args.self.now _ draft c.requires own.0 c.in_ok-push.ensures c.args.event.begun c.in_ok-push-2.ensures.items own.1 (subst (λ (n : ℕ). AreOwnAt room n event own.0) here own.2)
    (more_series room event (map component_of c.args.self.now.series.items) _ true (ap (λ x. x && is_master event && is_some event.rule) kept ∙ sym c.is_series.ensures ∙ c.if-is_series.true)
    (ap (map component_of) c.in_ok-push-3.ensures.items ∙ map-append component_of c.args.self.now.series.items (c.args.event ∷ [])))
    named

pub returns-else-is_series-clause-draft : goal.returns-else-is_series-clause-draft
returns-else-is_series-clause-draft c events draft =
    let room = address_octets c.args.room.now in
    let event = component_of c.args.event in
    let kept : is_kept room event ≡ true = sym c.is_kept.ensures ∙ c.if-not-is_kept.false in
    let own = c.in_ok-add_singles.ensures room kept in
    let short : c.len.result < 2 ^ 64 = search rules in
    let old = c.args.self.now in
    let named = naming_more room events event old.naming c.with-self.result draft.naming c.with-self.ensures.any c.with-self.ensures.named c.with-self.ensures.counted
    (few events event old.entries _ draft.entries c.in_ok-push.ensures (subst (λ (n : ℕ). n < 2 ^ 64) c.len.ensures short)) in
    let here : c.len-place.result ≡ length c.args.self.now.entries = c.len-place.ensures in
    draft_more room events event c.args.self.now _ draft c.requires own.0 c.in_ok-push.ensures c.args.event.begun c.in_ok-push-2.ensures.items own.1 (subst (λ (n : ℕ). AreOwnAt room n event own.0) here own.2)
    (more_series room event (map component_of c.args.self.now.series.items) _ false (ap (λ x. x && is_master event && is_some event.rule) kept ∙ sym c.is_series.ensures ∙ c.if-is_series.false) (sym (append-nil _)))
    named
