use Rattle.std.proofs.Common.{◌≡◌, ◌∙◌, ◌∷◌, [], string_bytes, to_z, of_z, w64, to_z-of_z}
use Rattle.cal_agenda.proofs.LineLemmas.{four_pieces}
use Rattle.cal_agenda.proofs.text.times_text.Goals as goal

pub returns : goal.returns
returns c =
    let start : to_z w64 (of_z w64 c.args.start) ≡ c.args.start = to_z-of_z c.ranges.start in
    let end : to_z w64 (of_z w64 c.args.end) ≡ c.args.end = to_z-of_z c.ranges.end in (
      string_bytes c.in_ok-first.first,
      string_bytes c.in_ok-last.last,
      string_bytes c.in_ok-local.local,
      rw start at c.in_ok-first.ensures,
      rw end at c.in_ok-last.ensures,
      rw (start, end) at c.in_ok-local.ensures,
      c.in_ok-format.ensures.ok ∙ four_pieces (string_bytes c.in_ok-first.first) (32 ∷ []) (string_bytes c.in_ok-last.last) (string_bytes c.in_ok-local.local),
    )
