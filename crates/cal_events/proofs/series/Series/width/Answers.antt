use Rattle.std.proofs.Common.{◌≡◌, ◌∙◌, sym, subst, to_z, of_z, w64, FitsSigned, rules, to_z-of_z}
use Rattle.std.proofs.lemmas.Option.{same_Some}
use Rattle.profile.specs.events.EventComponents.{EventComponent as Said}
use Rattle.profile.specs.events.Starts.{IsWidth}
use Rattle.cal_events.specs.Recurrence.{master_of}
use Rattle.cal_events.proofs.series.Series.width.Goals as goal

pub returns-clause-width : goal.returns-clause-width
returns-clause-width c = λ master is.
    let n = c.width.result in
    let fits : FitsSigned w64 n = search rules in
    let cast : to_z w64 (of_z w64 n) ≡ n = to_z-of_z fits in
    let same : master_of c.args.self.now.event.value.name c.recurrence.result.now ≡ master = same_Some (master_of c.args.self.now.event.value.name c.recurrence.result.now) master (sym c.recurrence.ensures.master ∙ is) in
    rw cast (subst (λ (m : Said). IsWidth m.times n) same c.width.ensures.width)

pub returns-clause-of : goal.returns-clause-of
returns-clause-of c =
    let n = c.width.result in
    let fits : FitsSigned w64 n = search rules in
    let cast : to_z w64 (of_z w64 n) ≡ n = to_z-of_z fits in
    rw cast (master_of c.args.self.now.event.value.name c.recurrence.result.now, c.recurrence.ensures.master, c.width.ensures.width)
