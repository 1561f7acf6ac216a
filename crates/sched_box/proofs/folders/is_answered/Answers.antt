use Rattle.std.proofs.Common.{◌↔◌, ◌∙◌, List, ℕ, Contains, IsTrue, map, string_bytes, subst}
use Rattle.sched_box.proofs.folders.is_answered.Goals as goal

pub returns : goal.returns
returns c =
    let theirs = map string_bytes c.args.theirs.now in
    let P : List ℕ → Type 0 = λ name. IsTrue c.is_among-stands.result ↔ Contains theirs name in
    subst P (c.as_str.ensures.value ∙ c.in_ok-name.ensures) c.is_among-stands.ensures
