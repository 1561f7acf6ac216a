use Rattle.std.proofs.Common.{◌∙◌, sym, ap}
use Rattle.cal_zones.specs.Onsets.{observance_of, yearly_rule}
use Rattle.cal_doors.proofs.RunLemmas.{once_run}
use Rattle.cal_doors.proofs.run.Run.once.Goals as goal

pub returns : goal.returns
returns c = record {
  run = λ o e f.
      let made = c.new.result in
      once_run o (observance_of made) c.args.start made.starts.2 c.new.ensures.start (ap (yearly_rule made.day) c.new.ensures.rule) (c.new.ensures.from ∙ sym e) (c.new.ensures.to ∙ sym f);
}
