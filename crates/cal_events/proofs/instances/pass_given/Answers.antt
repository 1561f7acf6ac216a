use Rattle.std.proofs.Common.{◌≡◌, ◌∙◌, sym, to_z, of_z, w64, rules}
use Rattle.std.proofs.lemmas.Bool.{true≢false}
use Rattle.cal_events.proofs.shared_lemmas.Walks.{walked_past}
use Rattle.cal_events.proofs.instances.pass_given.Goals as goal

pub returns-then-not-admits : goal.returns-then-not-admits
returns-then-not-admits c =
    let days = c.args.days.now in
    let same : to_z w64 (of_z w64 days.start) ≡ days.start = search rules in
    walked_past c.args.after days c.pass.new.self c.in-Some.day c.in-Some.is (λ a. true≢false (sym (c.admits.ensures.1 (rw same a)) ∙ c.if-not-admits.true)) c.pass.ensures.days c.pass.ensures.from c.pass.ensures.first
