use Rattle.std.proofs.lemmas.Str.{IsUtf8-string_bytes}
use Rattle.ical_values.proofs.EscapedText.{utf8_escaped}
use Rattle.ical_values.proofs.shown.escaped_text.Goals as goal

pub text_of-requires : goal.text_of-requires
text_of-requires c = rw (c.in_ok-write.ensures.ok, c.in_ok-octets.ensures.items) (utf8_escaped _ (IsUtf8-string_bytes c.args.text.now.octets))
