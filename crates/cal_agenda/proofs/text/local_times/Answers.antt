use Rattle.std.proofs.Common.{◌≡◌, ◌∙◌, ◌∷◌, [], Option, option_map, sym, subst, string_bytes, to_z, of_z, w64, to_z-of_z}
use Rattle.cal_zones.specs.Kinds.{zone_of}
use Rattle.cal_zones.specs.declared.zone.Zone.{Zone}
use Rattle.cal_agenda.specs.Printing.{AreLocalTimes}
use Rattle.cal_agenda.proofs.LineLemmas.{four_pieces}
use Rattle.cal_agenda.proofs.text.local_times.Goals as goal

pub returns : goal.returns
returns c =
    let whole = string_bytes c.in_ok-format.field-0 in
    let start : to_z w64 (of_z w64 c.args.start) ≡ c.args.start = to_z-of_z c.ranges.start in
    let end : to_z w64 (of_z w64 c.args.end) ≡ c.args.end = to_z-of_z c.ranges.end in
    subst (λ (o : Option Zone). AreLocalTimes (option_map zone_of o) c.args.start c.args.end whole) (sym c.in-Some.is)
    (string_bytes c.in_ok-first.first, string_bytes c.in_ok-last.last, rw start at c.in_ok-first.ensures, rw end at c.in_ok-last.ensures, c.in_ok-format.ensures.ok ∙ four_pieces (32 ∷ []) (string_bytes c.in_ok-first.first) (32 ∷ []) (string_bytes c.in_ok-last.last))
