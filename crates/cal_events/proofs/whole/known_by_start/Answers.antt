use Rattle.std.proofs.Common.{◌∙◌, sym}
use Rattle.cal_events.proofs.shared_lemmas.SeriesLemmas.{at_its_start, one_start}
use Rattle.cal_events.proofs.whole.known_by_start.Goals as goal

pub returns : goal.returns
returns c = λ series.
    let at = at_its_start series.event.value series.ruled in
    record {
      slots = λ b is. (at b is).0;
      dates = λ b is. (at b is).1;
      one = λ a b h k start. one_start series.event.value series.ruled a b h k start ((at a h).0 ∙ start ∙ sym (at b k).0);
    }
