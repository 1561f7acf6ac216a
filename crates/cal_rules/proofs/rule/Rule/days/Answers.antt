use Rattle.cal_rules.proofs.rule.Rule.days.Goals as goal

pub of-requires-2 : goal.of-requires-2
of-requires-2 c = c.at.ensures.is_cursor c.args.self.now.pattern
