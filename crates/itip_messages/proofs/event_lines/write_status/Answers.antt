use Rattle.std.proofs.Common.{◌≡◌, ◌++◌, codes, sym, subst, Bool}
use Rattle.std.specs.Result.{OnOk}
use Rattle.std.proofs.lemmas.Result.{on_ok_weaker}
use Rattle.profile.specs.text.Lines.{written}
use Rattle.profile.specs.organisers.Sent.{status_lines}
use Rattle.itip_messages.proofs.shared_lemmas.LineLemmas.{one_line}
use Rattle.itip_messages.proofs.event_lines.write_status.Goals as goal

pub returns-then-cancelled : goal.returns-then-cancelled
returns-then-cancelled c =
    subst (λ (b : Bool). OnOk c.line.result (c.line.new.self ≡ c.args.object.now ++ written (status_lines b))) (sym c.if-cancelled.true)
    (on_ok_weaker c.line.result (one_line c.args.object.now c.line.new.self (codes "STATUS:CANCELLED")) c.line.ensures.ok)
