use Rattle.cal_zones.proofs.ZoneReads.{zone_back}
use Rattle.cal_zones.proofs.write.zone_reads_back.Goals as goal

pub returns : goal.returns
returns c =
    zone_back c.one_local_time.ensures.reading c.one_offset.ensures.reading c.one_rule.ensures.reading c.one_rule.ensures.none c.one_local_time.ensures.written c.one_offset.ensures.written
    c.lines_read_back.ensures.lines c.lines_read_back.ensures.reads c.text_reads_back.ensures
