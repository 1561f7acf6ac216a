use Rattle.cal_rules.proofs.cursor.Cursor.not_before.Goals as goal

pub returns-then-self-day-clause-is_cursor : goal.returns-then-self-day-clause-is_cursor
returns-then-self-day-clause-is_cursor c = λ p s. c.at.ensures.is_cursor p
