use Rattle.cal_zones.proofs.RuleWords.{day_words, start_words, end_words, week_words, week_first}
use Rattle.std.proofs.Common.{◌∙◌}
use Rattle.cal_zones.proofs.write.rule_text.Goals as goal

pub returns-in_ok-format-in-Day : goal.returns-in_ok-format-in-Day
returns-in_ok-format-in-Day c = day_words _ c.args.rule.month c.in-Day.day _ c.in-Day.is c.in_ok-format-in-Day.ensures.ok

pub returns-in_ok-format-in-FromStart : goal.returns-in_ok-format-in-FromStart
returns-in_ok-format-in-FromStart c =
    start_words _ c.args.rule.month c.in-FromStart.number c.in-FromStart.weekday _ _ c.in-FromStart.is c.args.rule.yearly c.weekday_word-word.ensures c.in_ok-format-in-FromStart.ensures.ok

pub returns-in_ok-format-in-FromEnd : goal.returns-in_ok-format-in-FromEnd
returns-in_ok-format-in-FromEnd c =
    end_words _ c.args.rule.month c.in-FromEnd.number c.in-FromEnd.weekday _ _ c.in-FromEnd.is c.args.rule.yearly c.weekday_word-word-in-FromEnd.ensures c.in_ok-format-in-FromEnd.ensures.ok

pub week_text-requires : goal.week_text-requires
week_text-requires c = week_first c.args.rule.month c.in-Week.first c.in-Week.weekday _ c.in-Week.is c.args.rule.yearly

pub returns-in_ok-format-in-Week : goal.returns-in_ok-format-in-Week
returns-in_ok-format-in-Week c =
    week_words _ c.args.rule.month c.in-Week.first c.in-Week.weekday _ _ _ c.in-Week.is (c.as_str-days.ensures.value ∙ c.in_ok-week-in-Week.ensures) c.weekday_word-word-in-Week.ensures c.in_ok-format-in-Week.ensures.ok
