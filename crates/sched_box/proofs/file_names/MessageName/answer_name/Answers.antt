use Rattle.std.proofs.Common.{◌∙◌, ◌≡◌, ◌++◌, codes, ap, string_bytes}
use Rattle.sched_box.specs.FileNames.{name_stem}
use Rattle.sched_box.proofs.NameLemmas.{cut_or}
use Rattle.sched_box.proofs.file_names.MessageName.answer_name.Goals as goal

pub returns : goal.returns
returns c =
    let name = string_bytes c.args.self.now.name in
    let front : c.unwrap_or-stem.result.now ≡ name_stem name = ap (λ x. x.now) c.unwrap_or-stem.ensures ∙ cut_or _ (name_stem name) _ _ c.cut_end.ensures (c.as_str.ensures.value ∙ c.args.self.now.ends) in
    c.in_ok-format.ensures.ok ∙ ap (λ x. x ++ codes ".out") front
