use Rattle.std.proofs.Common.{◌≡◌, ◌∙◌, ◌++◌, ◌∷◌, [], refl, ap, codes, string_bytes, to_z, of_z, w64, to_z-of_z, rules, FitsSigned}
use Rattle.profile.specs.text.Lines.{folded}
use Rattle.profile.specs.text.Values.{escaped}
use Rattle.profile.specs.checker.Publishing.{plain_address}
use Rattle.cal_agenda.proofs.PublishLemmas.{eight_lines}
use Rattle.cal_agenda.proofs.published.write_event.Goals as goal

pub returns : goal.returns
returns c =
    let i = c.args.instance.now in
    let start_fits : FitsSigned w64 i.start = search rules in
    let start_cast : to_z w64 (of_z w64 i.start) ≡ i.start = to_z-of_z start_fits in
    let end_fits : FitsSigned w64 i.end = search rules in
    let end_cast : to_z w64 (of_z w64 i.end) ≡ i.end = to_z-of_z end_fits in
    let uid = string_bytes c.in_ok-uid.uid in
    let stamp = string_bytes c.in_ok-stamp.stamp in
    let start = string_bytes c.in_ok-start.start in
    let end = string_bytes c.in_ok-end.end in
    let who = plain_address i.key.organiser.now in
    let own : c.as_str-2.result.now ≡ escaped uid = c.as_str-2.ensures.value ∙ c.in_ok-uid-2.ensures ∙ ap escaped c.as_str.ensures.value in
    let by : c.as_str-6.result.now ≡ escaped who = c.as_str-6.ensures.value ∙ c.in_ok-who.ensures ∙ ap escaped c.plain_address.ensures in (
      codes "BEGIN:VEVENT" ∷ (codes "UID:" ++ escaped uid) ∷ (codes "DTSTAMP:" ++ stamp) ∷ (codes "DTSTART:" ++ start) ∷ (codes "DTEND:" ++ end) ∷ (codes "SUMMARY:" ++ escaped who)
          ∷ codes "TRANSP:OPAQUE" ∷ codes "END:VEVENT" ∷ [],
      record {
        uid = uid;
        stamp = stamp;
        start = start;
        end = end;
        own = c.in_ok-uid.ensures;
        writes_stamp = c.in_ok-stamp.ensures;
        writes_start = rw start_cast at c.in_ok-start.ensures;
        writes_end = rw end_cast at c.in_ok-end.ensures;
        is = refl;
      },
      eight_lines c.args.out.now.items _ _ _ _ _ _ _ _ (folded (codes "BEGIN:VEVENT")) (folded (codes "UID:" ++ escaped uid)) (folded (codes "DTSTAMP:" ++ stamp)) (folded (codes "DTSTART:" ++ start))
          (folded (codes "DTEND:" ++ end)) (folded (codes "SUMMARY:" ++ escaped who)) (folded (codes "TRANSP:OPAQUE")) (folded (codes "END:VEVENT"))
          c.in_ok-write_line.ensures.written
          (c.in_ok-write_pieces.ensures.written ∙ ap (λ t. c.write_line.new.out.items ++ folded (codes "UID:" ++ t)) own)
          (c.in_ok-write_pieces-2.ensures.written ∙ ap (λ t. c.write_pieces.new.out.items ++ folded (codes "DTSTAMP:" ++ t)) c.as_str-3.ensures.value)
          (c.in_ok-write_pieces-3.ensures.written ∙ ap (λ t. c.write_pieces-2.new.out.items ++ folded (codes "DTSTART:" ++ t)) c.as_str-4.ensures.value)
          (c.in_ok-write_pieces-4.ensures.written ∙ ap (λ t. c.write_pieces-3.new.out.items ++ folded (codes "DTEND:" ++ t)) c.as_str-5.ensures.value)
          (c.in_ok-write_pieces-5.ensures.written ∙ ap (λ t. c.write_pieces-4.new.out.items ++ folded (codes "SUMMARY:" ++ t)) by)
          c.in_ok-write_line-2.ensures.written
          c.in_ok-write_line-3.ensures.written,
    )
