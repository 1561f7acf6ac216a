use Rattle.std.proofs.Common.{◌≡◌, ◌∙◌, List, ℕ, ap, subst, sym, option_map, true}
use Rattle.std.specs.Prelude.{Some, IfSome, Contains}
use Rattle.std.specs.Option.{option_to_list}
use Rattle.ical_lines.specs.Text.{line_text, numbered}
use Rattle.ical_lines.specs.declared.fault.Refusal.{Refusal}
use Rattle.ical_lines.specs.declared.line.Line.{Line}
use Rattle.ical_tree.specs.Own.{own_lines, own_numbered, numbered_own}
use Rattle.ical_values.proofs.Exits.{err_exit, refusal_exit}
use Rattle.profile.specs.events.EventBlame.{EventBlame}
use Rattle.profile.specs.events.EventComponents.{PresenceFault, is_once, missing, presence, twice}
use Rattle.profile.specs.events.Properties.{is_of, IsMissing, OccursMoreThanOnce, OccursAtMostOnce}
use Rattle.profile.specs.faults.Blame.{IsSecond}
use Rattle.cal_events.specs.Component.{method_read}
use Rattle.cal_events.specs.Property.{property_said}
use Rattle.cal_events.proofs.shared_lemmas.LineBlame.{line_of_property, missing_blamed, twice_blamed}
use Rattle.cal_events.proofs.properties.line_of.Goals as goal

pub returns-in_err-line-clause-fault : goal.returns-in_err-line-clause-fault
returns-in_err-line-clause-fault c =
    let lines = own_lines c.args.properties.now in
    let P = PresenceFault (method_read c.args.method) lines in
    refusal_exit _ P _ c.from_residual.ensures.1
    (subst P (sym c.in_err-line.ensures.refuses)
    (twice (property_said c.args.property) c.requires.once (subst (λ (name : List ℕ). OccursMoreThanOnce name lines) c.name.ensures c.in_err-line.ensures.twice)))

pub returns-in_err-line-clause-at : goal.returns-in_err-line-clause-at
returns-in_err-line-clause-at c zones =
    let m = method_read c.args.method in
    let event = numbered_own c.args.properties.now in
    let refusal = c.in_err-line.field-0.0 in
    err_exit _ (λ (e : Refusal). EventBlame m zones event e.number e.line) _ c.from_residual.ensures.1
    (subst (λ n. EventBlame m zones event n refusal.line) (sym c.in_err-line.ensures.refuses)
    (twice_blamed m zones (property_said c.args.property) event c.requires.once
    (subst (λ (name : List ℕ). IsSecond (is_of name) event.lines refusal.line) c.name.ensures c.in_err-line.ensures.second)))

pub returns-in-Some-clause-among : goal.returns-in-Some-clause-among
returns-in-Some-clause-among c =
    let own = c.args.properties.now in
    let once = c.in_ok-line.ensures.found ∙ ap (λ l. option_to_list (option_map line_text l)) c.in-Some.is in
    let among = subst (λ found. IfSome found (λ (line : Line). Contains (own_numbered own) (numbered line))) c.in-Some.is c.in_ok-line.ensures.among in
    line_of_property c.args.property (numbered_own own) (own_lines own) c.in-Some.line among
    (subst (λ (name : List ℕ). OccursAtMostOnce name (own_lines own) (Some (line_text c.in-Some.line))) c.name.ensures once)

pub returns-in-None-clause-fault : goal.returns-in-None-clause-fault
returns-in-None-clause-fault c =
    let lines = own_lines c.args.properties.now in
    let m = method_read c.args.method in
    let property = property_said c.args.property in
    let asked : is_once (presence property m) ≡ true = sym (ap is_once c.presence.ensures) ∙ sym c.is_once.ensures ∙ c.if-is_once.true in
    let none = c.in_ok-line.ensures.found ∙ ap (λ l. option_to_list (option_map line_text l)) c.in-None.is in
    subst (PresenceFault m lines) (sym (ap (λ (e : Refusal). e.number) c.at.ensures ∙ c.missing.ensures.number))
    (missing property asked (subst (λ (name : List ℕ). IsMissing name lines) c.name.ensures none))

pub returns-in-None-clause-at : goal.returns-in-None-clause-at
returns-in-None-clause-at c zones =
    let own = c.args.properties.now in
    let m = method_read c.args.method in
    let property = property_said c.args.property in
    let asked : is_once (presence property m) ≡ true = sym (ap is_once c.presence.ensures) ∙ sym c.is_once.ensures ∙ c.if-is_once.true in
    let none = c.in_ok-line.ensures.found ∙ ap (λ l. option_to_list (option_map line_text l)) c.in-None.is in
    missing_blamed m zones property own c.at.result asked (subst (λ (name : List ℕ). IsMissing name (own_lines own)) c.name.ensures none)
    (ap (λ (e : Refusal). e.number) c.at.ensures ∙ c.missing.ensures.number) (ap (λ (e : Refusal). e.line) c.at.ensures ∙ c.begun.ensures)
