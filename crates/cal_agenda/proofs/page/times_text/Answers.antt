use Rattle.std.proofs.Common.{◌≡◌, ◌∙◌, ◌∷◌, [], ℤ, codes, subst, to_z, of_z, w64, to_z-of_z, rules, FitsSigned}
use Rattle.std.proofs.lemmas.Result.{IfOk-weaker}
use Rattle.cal_zones.specs.Kinds.{zone_of}
use Rattle.cal_agenda.specs.Html.{joined, IsClockText, IsEndText, IsTimeElement}
use Rattle.cal_agenda.specs.PageDays.{day_said}
use Rattle.cal_agenda.specs.Pages.{AreTimesOfDay, in_day}
use Rattle.cal_agenda.proofs.HtmlLemmas.{wide}
use Rattle.cal_agenda.proofs.page.times_text.Goals as goal

pub returns : goal.returns
returns c =
    let zone = zone_of c.args.zone.now in
    let day = day_said c.args.day.now in
    let start_cast : to_z w64 (of_z w64 c.args.start) ≡ c.args.start = to_z-of_z c.ranges.start in
    let end_cast : to_z w64 (of_z w64 c.args.end) ≡ c.args.end = to_z-of_z c.ranges.end in
    let first = c.in_day-start.result in
    let last = c.in_day-end.result in
    let first_cast : to_z w64 (of_z w64 first) ≡ first = wide first c.in_day-start.ensures.range in
    let last_cast : to_z w64 (of_z w64 last) ≡ last = wide last c.in_day-end.ensures.range in
    let of_day_fits : FitsSigned w64 day.end = search rules in
    let of_day_cast : to_z w64 (of_z w64 day.end) ≡ day.end = to_z-of_z of_day_fits in
    let begins : first ≡ in_day day c.args.start = rw start_cast at c.in_day-start.ensures.value in
    let ends : last ≡ in_day day c.args.end = rw end_cast at c.in_day-end.ensures.value in
    let shows_begin : IsClockText zone first c.shown_at.result = rw first_cast at c.shown_at.ensures in
    let shows_end : IsEndText zone day.end last c.end_shown_at.result = rw (of_day_cast, last_cast) at c.end_shown_at.ensures in
    let first_is : IsTimeElement first c.shown_at.result c.in_ok-first.first.items = rw first_cast at c.in_ok-first.ensures in
    let last_is : IsTimeElement last c.end_shown_at.result c.in_ok-last.last.items = rw last_cast at c.in_ok-last.ensures in
    IfOk-weaker c.joined.result (λ text. text.items ≡ joined (c.deref.result.now ∷ codes "&ndash;" ∷ c.deref-2.result.now ∷ [])) (λ text. AreTimesOfDay zone day c.args.start c.args.end text.items)
    (λ text is. record {
      begins = c.shown_at.result;
      ends = c.end_shown_at.result;
      first = c.in_ok-first.first.items;
      last = c.in_ok-last.last.items;
      shows_begin = subst (λ (t : ℤ). IsClockText zone t c.shown_at.result) begins shows_begin;
      shows_end = subst (λ (t : ℤ). IsEndText zone day.end t c.end_shown_at.result) ends shows_end;
      first_is = subst (λ (t : ℤ). IsTimeElement t c.shown_at.result c.in_ok-first.first.items) begins first_is;
      last_is = subst (λ (t : ℤ). IsTimeElement t c.end_shown_at.result c.in_ok-last.last.items) ends last_is;
      is = is ∙ (λ i. joined (c.deref.ensures.value i ∷ codes "&ndash;" ∷ c.deref-2.ensures.value i ∷ []));
    })
    c.joined.ensures
