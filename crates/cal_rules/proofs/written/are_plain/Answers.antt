use Rattle.std.proofs.Common.{◌∙◌, sym}
use Rattle.std.proofs.lemmas.List.Folds.{list_all-map}
use Rattle.profile.specs.series.Rules.{is_plain}
use Rattle.cal_rules.specs.Views.{weekday_number_of}
use Rattle.cal_rules.proofs.written.are_plain.Goals as goal

pub returns : goal.returns
returns c = c.all_plain.ensures ∙ sym (list_all-map (λ entry. is_plain entry.number) weekday_number_of c.args.entries.now)
