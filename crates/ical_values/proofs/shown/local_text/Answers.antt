use Rattle.ical_lines.proofs.CleanLines.{clean_shown}
use Rattle.ical_values.proofs.ShownValues.{shown_local}
use Rattle.ical_values.proofs.shown.local_text.Goals as goal

pub text_of-requires : goal.text_of-requires
text_of-requires c =
    let w = c.in_ok-write.ensures.ok in
    rw (w.2, c.in_ok-octets.ensures.items) (clean_shown w.0 (shown_local w.0 _ w.1)).utf8
