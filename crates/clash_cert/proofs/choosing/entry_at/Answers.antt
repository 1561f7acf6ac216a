use Rattle.std.proofs.Common.{◌≡◌, ◌∙◌, map, sym, subst}
use Rattle.std.specs.Prelude.{Some}
use Rattle.std.specs.List.{slice_get}
use Rattle.cal_events.specs.Series.{series_said}
use Rattle.clash_cert.specs.Texts.{entry_said}
use Rattle.clash_cert.specs.Chosen.{IsSaidOf}
use Rattle.clash_cert.proofs.KeptLemmas.{if_ok_then, kept_entry, number_there}
use Rattle.clash_cert.proofs.choosing.entry_at.Goals as goal

pub returns-in-Some-Some-clause-made : goal.returns-in-Some-Some-clause-made
returns-in-Some-Some-clause-made c =
    let all = map series_said c.args.series.now in
    let kept = c.args.kept.now in
    let n = c.in-Some-Some.first in
    let m = c.in-Some-Some.second in
    let of_i : slice_get kept c.args.i ≡ Some (Some n) = number_there kept c.args.i n (sym c.number_at.ensures ∙ c.in-Some-Some.is-0) in
    let of_j : slice_get kept c.args.j ≡ Some (Some m) = number_there kept c.args.j m (sym c.number_at-2.ensures ∙ c.in-Some-Some.is-1) in
    let old = c.args.old.now in
    let entry = entry_said c.between.result in
    let said : IsSaidOf old n m entry = subst (λ k. IsSaidOf old n k entry) c.from-in-Some-Some.ensures (subst (λ k. IsSaidOf old k c.from-in-Some-Some.result entry) c.from.ensures c.between.ensures.said) in
    kept_entry old kept all c.args.i c.args.j n m entry of_i of_j said

pub returns-clause-made : goal.returns-clause-made
returns-clause-made c = if_ok_then c.entry_for.result _ _ (λ entry made known. made tt) c.entry_for.ensures.made
