use Rattle.cal_doors.proofs.words.Words.of.Goals as goal

pub returns : goal.returns
returns c = record {
  read_zones = c.in_ok-zones.ensures;
  told_zones = c.in_ok-answered.ensures;
  instances = c.in_ok-instances.ensures c.in_ok-zones.ensures;
}
