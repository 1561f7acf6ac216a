use Rattle.std.proofs.Common.{◌≡◌, arith, to_z, of_z, w64, ◌-ℤ◌, ◌+ℤ◌, ◌∙◌, sym, subst, ℤ, Bool, true}
use Rattle.std.specs.Prelude.{◌↔◌, IsTrue}
use Rattle.ical_lines.specs.Text.{line_text}
use Rattle.profile.specs.events.Properties.{Form}
use Rattle.profile.specs.events.ZonedTimes.{SaysZonedTime, IsInDates, is_in_zone, clock_of}
use Rattle.std.proofs.lemmas.Int.{ints}
use Rattle.profile.specs.series.Zones.{Means}
use Rattle.cal_events.specs.Component.{form_of, zone_said, local_said}
use Rattle.cal_events.specs.Zones.{object_of}
use Rattle.cal_events.proofs.event_times.read_end.Goals as goal

pub returns-clause-says : goal.returns-clause-says
returns-clause-says c =
    let when = c.in_ok-when.when in
    let zone = zone_said when in
    let local = local_said when in
    let cast : c.args.start +ℤ to_z w64 (of_z w64 (to_z w64 (of_z w64 c.instant-instant.result) -ℤ to_z w64 (of_z w64 c.args.start))) ≡ c.instant-instant.result =
    omega (arith, ints, c.instant-instant.ensures.range, c.requires) in
    let kept : to_z w64 (of_z w64 c.instant-instant.result) ≡ c.instant-instant.result = omega (arith, ints, c.instant-instant.ensures.range) in
    let P : Form → Bool → ℤ → Type 0 = λ f b x. IsTrue c.is_in_dates.result ↔ IsInDates true f b local x in
    let dates = subst (λ (f : Form). P f c.is_in_zone.result (to_z w64 (of_z w64 c.instant-instant.result))) (sym c.form.ensures) c.is_in_dates.ensures in
    let dates' = subst (λ b. P (form_of c.form.result) b (to_z w64 (of_z w64 c.instant-instant.result))) c.is_in_zone.ensures dates in (
      zone,
      local,
      subst (λ (f : Form). SaysZonedTime (object_of c.args.zones.now) (line_text c.args.line) f zone local) (sym c.form.ensures) c.in_ok-when.ensures.says,
      subst (λ (x : ℤ). Means (clock_of zone) local x) (sym cast) c.instant-instant.ensures.meaning,
      subst (λ (x : ℤ). P (form_of c.form.result) (is_in_zone (line_text c.args.line)) x) (kept ∙ sym cast) dates',
    )
