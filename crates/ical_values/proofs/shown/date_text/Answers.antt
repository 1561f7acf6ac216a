use Rattle.ical_values.proofs.ShownValues.{utf8_date}
use Rattle.ical_values.proofs.shown.date_text.Goals as goal

pub text_of-requires : goal.text_of-requires
text_of-requires c = rw c.in_ok-octets.ensures.items (utf8_date _ c.args.day c.date_text.ensures)
