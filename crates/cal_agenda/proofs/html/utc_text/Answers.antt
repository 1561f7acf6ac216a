use Rattle.std.proofs.Common.{◌≡◌, ◌∙◌, ◌∷◌, [], sym, rules, codes, to_z, of_z, w64, to_z-of_z}
use Rattle.std.proofs.lemmas.Result.{IfOk-weaker}
use Rattle.profile.specs.series.Days.{IsDayNumber, day_index}
use Rattle.cal_zones.proofs.Lasts.{local_of_day}
use Rattle.cal_agenda.specs.Html.{IsUtcText, joined}
use Rattle.cal_agenda.proofs.HtmlLemmas.{six_joined}
use Rattle.cal_agenda.proofs.html.utc_text.Goals as goal

pub returns : goal.returns
returns c =
    let t = c.args.instant in
    let day = c.day_and_second-day.result.0 in
    let second = c.day_and_second-day.result.1 in
    let number : IsDayNumber day = search rules in
    let instant : to_z w64 (of_z w64 t) ≡ t = to_z-of_z c.ranges.instant in
    let local : c.unwrap-time.result ≡ t = (rw c.unwrap-time.ensures at c.of_seconds.ensures.value) ∙ instant in
    IfOk-weaker c.joined.result (λ text. text.items ≡ joined (c.date_octets-date.result ∷ codes "T" ∷ c.clock_octets-clock.result ∷ codes ":" ∷ c.two-seconds.result ∷ codes "Z" ∷ [])) (λ text. IsUtcText t text.items)
    (λ text is. record {
      day = day_index day;
      second = second;
      of_day = c.day_and_second-day.ensures.second;
      at = sym local ∙ c.day_and_second-day.ensures.sum ∙ local_of_day day second number;
      is = is ∙ six_joined (codes "T") (codes ":") (codes "Z") c.date_octets-date.ensures c.clock_octets-clock.ensures c.two-seconds.ensures;
    })
    c.joined.ensures
