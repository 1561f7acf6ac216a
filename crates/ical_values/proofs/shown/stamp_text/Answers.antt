use Rattle.ical_values.proofs.ShownValues.{utf8_stamp}
use Rattle.ical_values.proofs.shown.stamp_text.Goals as goal

pub text_of-requires : goal.text_of-requires
text_of-requires c =
    let w = c.in_ok-write.ensures.ok in
    rw (w.2, c.in_ok-octets.ensures.items) (utf8_stamp w.0 _ w.1)
