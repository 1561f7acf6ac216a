-- Of a series some VEVENT says the times and the rule, since one said those of its master.
-- Cited by Series::by_rule of series.
use Rattle.std.proofs.Common.{◌≡◌, ◌∙◌, sym, ap, true}
use Rattle.std.proofs.Math.Logic.{∥∥₁_map}
use Rattle.std.specs.Prelude.{is_some, []}
use Rattle.profile.specs.events.EventComponents.{EventComponent}
use Rattle.profile.specs.events.Events.{Event}
use Rattle.profile.specs.events.Spans.{IsSaidSeries}
use Rattle.cal_events.specs.Said.{AreSaidWith}
use Rattle.cal_events.proofs.shared_lemmas.OwnSingles.{of_master}

pub series_is_said : (series : Event) (own : EventComponent) → series ≡ of_master own → is_some own.rule ≡ true → own.additions ≡ [] → ∥ AreSaidWith own.times own.rule ∥₁ → ∥ IsSaidSeries series ∥₁
series_is_said series own is recurs none said = ∥∥₁_map said (λ s. record {
  words = s.words;
  room = s.room;
  named = s.named;
  object = s.object;
  method = s.method;
  lines = s.lines;
  event = s.event;
  says = s.says;
  master = own;
  is = is;
  times = s.times_are;
  rule = s.rule_is;
  recurs = ap is_some (sym s.rule_is) ∙ recurs;
  none_added = none;
})
