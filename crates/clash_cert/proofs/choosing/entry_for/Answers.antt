use Rattle.std.proofs.Common.{◌≡◌, ◌∙◌, ◌==◌, sym, subst}
use Rattle.std.proofs.lemmas.Option.{same_Some}
use Rattle.profile.specs.events.Events.{Event}
use Rattle.profile.specs.checker.Certificates.{AreSettling, IsEntryMade}
use Rattle.cal_events.specs.Series.{series_said}
use Rattle.cal_period.proofs.EveryPair.{said_at, where_none, where_some}
use Rattle.clash_cert.specs.Texts.{entry_said}
use Rattle.clash_cert.proofs.choosing.entry_for.Goals as goal

pub returns-in-Some-clause-made : goal.returns-in-Some-clause-made
returns-in-Some-clause-made c known a b at_a at_b =
    let xs = c.args.series.now in
    let s = c.index-series-i.result in
    let u = c.index-series-j.result in
    let own = c.args.i == c.args.j in
    let m = c.in-Some.modulus in
    let first : series_said s ≡ a = same_Some (series_said s) a (sym (said_at xs c.args.i s c.requires.0 c.index-series-i.is) ∙ at_a) in
    let second : series_said u ≡ b = same_Some (series_said u) b (sym (said_at xs c.args.j u c.requires.1 c.index-series-j.is) ∙ at_b) in
    let settle = where_some c.in_ok-modulus.field-0 _ (AreSettling own (series_said s) (series_said u)) m c.in-Some.is c.in_ok-modulus.ensures in
    subst (λ (y : Event). AreSettling own a y m) second (subst (λ (x : Event). AreSettling own x (series_said u) m) first settle)

pub returns-in-None-clause-made : goal.returns-in-None-clause-made
returns-in-None-clause-made c known a b at_a at_b =
    let xs = c.args.series.now in
    let s = c.index-series-i.result in
    let u = c.index-series-j.result in
    let own = c.args.i == c.args.j in
    let entry = entry_said c.entry_by_span.result in
    let first : series_said s ≡ a = same_Some (series_said s) a (sym (said_at xs c.args.i s c.requires.0 c.index-series-i.is) ∙ at_a) in
    let second : series_said u ≡ b = same_Some (series_said u) b (sym (said_at xs c.args.j u c.requires.1 c.index-series-j.is) ∙ at_b) in
    let none = where_none c.in_ok-modulus.field-0 _ (AreSettling own (series_said s) (series_said u)) c.in-None.is c.in_ok-modulus.ensures in
    let made = c.entry_by_span.ensures.made own none in
    subst (λ (y : Event). IsEntryMade own a y entry) second (subst (λ (x : Event). IsEntryMade own x (series_said u) entry) first made)
