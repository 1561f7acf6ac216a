use Rattle.std.proofs.Common.{◌≡◌, ◌∙◌, ap, sym, subst, rules, to_z, of_z, w64, FitsSigned, to_z-of_z}
use Rattle.std.specs.Prelude.{option_map}
use Rattle.ical_lines.specs.Text.{line_text}
use Rattle.profile.specs.text.Values.{SpellsLocal}
use Rattle.cal_doors.proofs.ToldZones.{zone_held, read_well, says_zoned}
use Rattle.cal_doors.proofs.words.instant_of.Goals as goal

pub returns-in_ok-local-in-Some : goal.returns-in_ok-local-in-Some
returns-in_ok-local-in-Some c = λ object are.
    let line = line_text c.args.line in
    let name = c.in-Some.name.now in
    let zone = c.in_ok-zone-in-Some.zone.now in
    let local = c.in_ok-local-in-Some.local in
    let instant = c.resolve.result in
    let fits : FitsSigned w64 instant = search rules in
    let cast : to_z w64 (of_z w64 instant) ≡ instant = to_z-of_z fits in
    let named = sym (ap (option_map (λ x. x.now)) c.in-Some.is) ∙ c.param.ensures in
    let here = zone_held object name c.args.zones.now.entries zone are (sym c.in_ok-zone-in-Some.ensures.value) in
    let reads = read_well c.read-in-Some.result (SpellsLocal c.value-in-Some.result.now) local c.in_ok-local-in-Some.ensures.value c.read-in-Some.ensures.reads in
    rw cast (says_zoned object line name zone local instant (c.may_be_fixed.ensures c.if-not-may_be_fixed.false) named (subst (λ t. SpellsLocal t local) c.value-in-Some.ensures reads) here c.resolve.ensures.meaning)
