use Rattle.std.proofs.Common.{◌≡◌, ◌∙◌, sym, rules, ◌+ℤ◌}
use Rattle.profile.specs.series.Days.{IsDayNumber, day_index}
use Rattle.profile.specs.series.Zones.{IsOffsetAt}
use Rattle.cal_zones.specs.Kinds.{zone_of}
use Rattle.cal_zones.proofs.Lasts.{local_of_day}
use Rattle.cal_agenda.proofs.HtmlLemmas.{shown_sum, wide}
use Rattle.cal_agenda.proofs.html.shown_at.Goals as goal

pub returns : goal.returns
returns c =
    let t = c.args.instant in
    let offset = c.offset.result in
    let day = c.day_and_second-second.result.0 in
    let second = c.day_and_second-second.result.1 in
    let number : IsDayNumber day = search rules in
    let at : IsOffsetAt (zone_of c.args.zone.now) t offset = rw (wide t c.requires) at c.offset.ensures.offset in
    let local : c.unwrap-local.result ≡ t +ℤ offset = (rw c.unwrap-local.ensures at c.of_seconds.ensures.value) ∙ shown_sum t offset c.requires c.offset.ensures.range in
    record {
      day = day_index day;
      second = second;
      of_day = c.day_and_second-second.ensures.second;
      shows = (offset, at, sym local ∙ c.day_and_second-second.ensures.sum ∙ local_of_day day second number);
      is = c.clock_octets.ensures;
    }
