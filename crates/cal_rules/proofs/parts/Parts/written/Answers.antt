use Rattle.std.proofs.Common.{ap, refl, [], map, option_map}
use Rattle.cal_days.specs.Views.{frequency_of}
use Rattle.cal_rules.specs.Views.{weekday_number_of}
use Rattle.cal_rules.proofs.Taking.{see_or, says_all}
use Rattle.cal_rules.proofs.parts.Parts.written.Goals as goal

pub returns : goal.returns
returns c = λ text says f.
    says_all text c.args.self _ says (ap (option_map frequency_of) f) c.unwrap_or.ensures refl refl c.unwrap_or-2.ensures
    (see_or (λ xs. xs.items) c.args.self.months c.new.result c.unwrap_or-3.result [] c.unwrap_or-3.ensures c.new.ensures.items)
    (see_or (λ xs. xs.items) c.args.self.month_days c.new-2.result c.unwrap_or-4.result [] c.unwrap_or-4.ensures c.new-2.ensures.items)
    (see_or (λ xs. map weekday_number_of xs.items) c.args.self.weekdays c.new-3.result c.unwrap_or-5.result [] c.unwrap_or-5.ensures (ap (map weekday_number_of) c.new-3.ensures.items))
    (see_or (λ xs. xs.items) c.args.self.positions c.new-4.result c.unwrap_or-6.result [] c.unwrap_or-6.ensures c.new-4.ensures.items)
