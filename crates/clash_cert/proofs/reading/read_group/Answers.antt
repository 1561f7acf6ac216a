use Rattle.clash_cert.specs.Texts.{group_said}
use Rattle.clash_cert.proofs.TextLemmas.{match_some, match_none}
use Rattle.clash_cert.proofs.GroupWords.{no_group_end, no_group_words, group_at}
use Rattle.clash_cert.proofs.reading.read_group.Goals as goal

pub returns-in_default-cut_line : goal.returns-in_default-cut_line
returns-in_default-cut_line c = no_group_end c.args.series c.args.bytes.now c.in-Some.rest.now c.ranges.series.fits c.in-Some.ensures c.in_default-cut_line.ensures

pub returns-in-Some-2 : goal.returns-in-Some-2
returns-in-Some-2 c =
    group_at c.args.series c.args.bytes.now c.in-Some.rest.now c.ranges.series.fits c.in-Some.ensures c.in-Some-cut_line.words.now c.in-Some-cut_line.rest.now (group_said c.in-Some-2.group) c.in-Some-cut_line.ensures
    (match_some _ _ _ c.in-Some-2.group c.in-Some-2.is c.in_ok-group.ensures)

pub returns-in-None : goal.returns-in-None
returns-in-None c =
    no_group_words c.args.series c.args.bytes.now c.in-Some.rest.now c.ranges.series.fits c.in-Some.ensures c.in-Some-cut_line.words.now c.in-Some-cut_line.rest.now c.in-Some-cut_line.ensures
    (match_none _ _ _ c.in-None.is c.in_ok-group.ensures)
