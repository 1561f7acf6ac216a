use Rattle.std.proofs.Common.{◌≡◌, ◌≢◌, ◌∙◌, ◌++◌, ◌∷◌, [], length, sym, refl, inl, inr, arith, rules}
use Rattle.std.proofs.lemmas.Bool.Decides.{nat_tests}
use Rattle.ical_lines.specs.Fault.{RefusesBy}
use Rattle.ical_lines.specs.Text.{line_text}
use Rattle.profile.specs.events.Occurrences.{EntriesFault}
use Rattle.ical_values.proofs.Exits.{err_exit}
use Rattle.cal_events.specs.Zones.{object_of}
use Rattle.cal_events.specs.Occurrences.{name_of}
use Rattle.cal_events.proofs.occurrences_lemmas.OccurrenceLemmas.{one_listed, full, period, malformed}
use Rattle.cal_events.proofs.occurrences.SaidInstants.add.Goals as goal
use Rattle.cal_events.proofs.occurrences.SaidInstants.add.Goals.{else-not-said-via-then-not-said+else-is_none, else-not-said-via-else-not-said, then-len-eq-MOST-via-then-len-eq-MOST, then-len-eq-MOST-via-else-len-eq-MOST+then-is_period}

pub returns-then-len-eq-MOST-clause-fault : goal.returns-then-len-eq-MOST-clause-fault
returns-then-len-eq-MOST-clause-fault c done a =
    let object = object_of c.args.zones.now in
    let name = name_of c.args.listing in
    let line = line_text c.args.line in
    let text = c.args.text.now in
    rw c.at.ensures (elim c.then-len-eq-MOST.branch [
      | then-len-eq-MOST-via-then-len-eq-MOST w ↦
          full object name line text done c.args.self.now a (let l : length c.args.self.now.times.items ≡ 366 = grind (arith, nat_tests, c.len.ensures, w.if-len-eq-MOST) in l)
      | then-len-eq-MOST-via-else-len-eq-MOST+then-is_period w ↦
          period object name line text done c.args.self.now a (sym w.is_period.ensures ∙ w.if-is_period.true)
    ])

pub returns-in_err-said-clause-fault : goal.returns-in_err-said-clause-fault
returns-in_err-said-clause-fault c done a =
    let object = object_of c.args.zones.now in
    let name = name_of c.args.listing in
    let line = line_text c.args.line in
    let text = c.args.text.now in
    err_exit _ (RefusesBy (EntriesFault object name _)) _ c.from_residual.ensures.1
    (malformed object name line text done c.args.self.now a _ (sym c.is_period.ensures ∙ c.if-is_period.false) c.in_err-said.ensures.fault)

pub returns-then-is_none-clause-adds : goal.returns-then-is_none-clause-adds
returns-then-is_none-clause-adds c done a =
    let few : length c.args.self.now.times.items ≢ 366 = λ e. grind (arith, nat_tests, c.len.ensures, c.if-len-eq-MOST.false, e) in
    let more : c.push.new.self.items ≡ c.args.self.now.times.items ++ c.in_ok-said.said.time ∷ [] = c.in_ok-push.ensures.items in
    one_listed (object_of c.args.zones.now) (name_of c.args.listing) (line_text c.args.line) c.args.text.now done c.args.self.now a c.in_ok-said.said _ few
    (sym c.is_period.ensures ∙ c.if-is_period.false) c.in_ok-said.ensures.says more (inr (search rules, refl))

pub returns-else-not-said-clause-adds : goal.returns-else-not-said-clause-adds
returns-else-not-said-clause-adds c done a =
    let few : length c.args.self.now.times.items ≢ 366 = λ e. grind (arith, nat_tests, c.len.ensures, c.if-len-eq-MOST.false, e) in
    let more : c.push.new.self.items ≡ c.args.self.now.times.items ++ c.in_ok-said.said.time ∷ [] = c.in_ok-push.ensures.items in
    one_listed (object_of c.args.zones.now) (name_of c.args.listing) (line_text c.args.line) c.args.text.now done c.args.self.now a c.in_ok-said.said _ few
    (sym c.is_period.ensures ∙ c.if-is_period.false) c.in_ok-said.ensures.says more
    (elim c.else-not-said.branch [
      | else-not-said-via-then-not-said+else-is_none w ↦ inr (search rules, search rules)
      | else-not-said-via-else-not-said w ↦ inl (search rules, refl)
    ])
