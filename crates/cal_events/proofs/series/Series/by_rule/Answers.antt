use Rattle.std.proofs.Common.{◌≡◌, ◌∙◌, true, [], length, sym, subst, ap, to_z, of_z, w64, FitsSigned, rules, to_z-of_z}
use Rattle.std.specs.Prelude.{Option, Some, is_some}
use Rattle.std.proofs.lemmas.Option.{same_Some}
use Rattle.profile.specs.series.Rules.{Rule}
use Rattle.cal_events.specs.Component.{times_of}
use Rattle.cal_events.specs.Event.{said_meeting}
use Rattle.cal_events.specs.Past.{IsLeastPastMaster}
use Rattle.cal_events.specs.Recurrence.{master_of}
use Rattle.cal_events.specs.Said.{AreSaidWith}
use Rattle.cal_events.specs.declared.event.Event.{Event}
use Rattle.cal_events.specs.declared.event_times.EventTimes.{EventTimes}
use Rattle.cal_events.specs.declared.recurrence.Recurrence.{Recurrence}
use Rattle.cal_events.proofs.shared_lemmas.OwnSingles.{of_master}
use Rattle.cal_events.proofs.shared_lemmas.SeriesLemmas.{none_added, said_alone, ruled_made}
use Rattle.cal_events.proofs.series_lemmas.Said.{series_is_said}
use Rattle.cal_events.proofs.regular_lemmas.Past.{kept_past, past_of}
use Rattle.cal_events.proofs.series.Series.by_rule.Goals as goal

pub invariant_of-result : goal.invariant_of-result
invariant_of-result c =
    let name = c.args.name in
    let r = c.in_ok-recurrence.recurrence in
    let event = c.in_ok-event.event.value in
    let shared : event ≡ c.recurring.result = c.in_ok-event.ensures.ok in
    let name_is : event.name ≡ name = ap (λ (x : Event). x.name) shared ∙ c.recurring.ensures.name in
    let recurrence_is : event.recurrence ≡ Some r = ap (λ (x : Event). x.recurrence) shared ∙ c.recurring.ensures.recurrence in
    let overrides_is : event.overrides.items ≡ [] = ap (λ (x : Event). x.overrides.items) shared ∙ c.recurring.ensures.overrides in
    let made = c.in_ok-recurrence.ensures in
    let none = none_added r.exceptions r.additions made.additions in
    let same : said_meeting event ≡ of_master (master_of name r) = said_alone event name r name_is recurrence_is overrides_is in
    let recurs : is_some r.rule ≡ true = ap (λ o. is_some o) made.rule ∙ c.requires.rule in
    let from = c.regular_from-from.result in
    let fits : FitsSigned w64 from = search rules in
    let cast : to_z w64 (of_z w64 from) ≡ from = to_z-of_z fits in
    let least : IsLeastPastMaster (master_of name r) from = past_of name r from c.regular_from-from.ensures in
    record {
      ruled = (
        ap (λ (o : Option Recurrence). is_some o) recurrence_is,
        (
          (λ other is.
              let x : r ≡ other = same_Some r other (sym recurrence_is ∙ is) in
              (subst (λ (y : Recurrence). is_some y.rule ≡ true) x recurs, subst (λ (y : Recurrence). length y.additions ≡ 0) x (ap length none))),
          ap length overrides_is,
        ),
      );
      said = series_is_said (said_meeting event) (master_of name r) same recurs none
          (subst (λ (t : EventTimes). ∥ AreSaidWith (times_of t) r.rule ∥₁) (sym made.times) (subst (λ (o : Option Rule). ∥ AreSaidWith (times_of c.args.times) o ∥₁) (sym made.rule) c.requires.said));
      past = rw cast (kept_past (said_meeting event) (master_of name r) from same least);
    }

pub returns : goal.returns
returns c = λ master is.
    let name = c.args.name in
    let r = c.in_ok-recurrence.recurrence in
    let event = c.in_ok-event.event.value in
    let shared : event ≡ c.recurring.result = c.in_ok-event.ensures.ok in
    let name_is : event.name ≡ name = ap (λ (x : Event). x.name) shared ∙ c.recurring.ensures.name in
    let recurrence_is : event.recurrence ≡ Some r = ap (λ (x : Event). x.recurrence) shared ∙ c.recurring.ensures.recurrence in
    let overrides_is : event.overrides.items ≡ [] = ap (λ (x : Event). x.overrides.items) shared ∙ c.recurring.ensures.overrides in
    let made = c.in_ok-recurrence.ensures in
    ruled_made name r (none_added r.exceptions r.additions made.additions) master
    (record { organiser_is = is.organiser_is; uid_is = is.uid_is; times_are = is.times_are ∙ ap times_of (sym made.times); rule_is = is.rule_is ∙ sym made.rule })
    (said_meeting event) (said_alone event name r name_is recurrence_is overrides_is) c.args.exceptions.items made.exceptions
