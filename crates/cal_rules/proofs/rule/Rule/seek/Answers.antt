use Rattle.cal_rules.proofs.rule.Rule.seek.Goals as goal

pub next_day-requires : goal.next_day-requires
next_day-requires c = c.at.ensures.is_cursor c.args.self.now.pattern
