use Rattle.std.proofs.Common.{◌≡◌, ◌∙◌, ◌++◌, ◌∷◌, [], List, ℕ, ap, string_bytes, to_z, of_z, w64, to_z-of_z, rules, FitsSigned}
use Rattle.profile.specs.text.Values.{escaped}
use Rattle.cal_agenda.proofs.LineLemmas.{six_pieces}
use Rattle.cal_agenda.proofs.text.instance_line.Goals as goal

pub returns : goal.returns
returns c =
    let i = c.args.instance.now in
    let start_fits : FitsSigned w64 i.start = search rules in
    let start : to_z w64 (of_z w64 i.start) ≡ i.start = to_z-of_z start_fits in
    let end_fits : FitsSigned w64 i.end = search rules in
    let end : to_z w64 (of_z w64 i.end) ≡ i.end = to_z-of_z end_fits in
    let times = string_bytes c.in_ok-times.times in
    let organiser = i.key.organiser.now in (
      times,
      rw (start, end) at c.in_ok-times.ensures,
      c.in_ok-format.ensures.ok ∙ ap (λ (u : List ℕ). times ++ 32 ∷ (u ++ 32 ∷ (organiser ++ 10 ∷ []))) (c.in_ok-uid-2.ensures ∙ ap escaped c.in_ok-uid.ensures)
          ∙ six_pieces times (32 ∷ []) (escaped i.key.uid.now) (32 ∷ []) organiser (10 ∷ []),
    )
