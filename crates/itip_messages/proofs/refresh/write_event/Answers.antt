use Rattle.std.proofs.Common.{◌≡◌, ◌∙◌, ◌++◌, ◌∷◌, [], ap, refl, codes}
use Rattle.profile.specs.text.Lines.{folded}
use Rattle.profile.specs.text.Values.{escaped}
use Rattle.ical_values.specs.Octets.{text_octets, address_octets}
use Rattle.itip_messages.proofs.shared_lemmas.LineLemmas.{asking_written}
use Rattle.itip_messages.proofs.refresh.write_event.Goals as goal

pub returns : goal.returns
returns c =
    let refresh = c.args.refresh.now in
    let stamp = c.in_ok-stamp.ensures.ok in
    let stamped : c.stamp.new.self ≡ c.uid.new.self ++ folded (codes "DTSTAMP:" ++ stamp.1.0) = stamp.2 ∙ ap (λ x. c.uid.new.self ++ x) stamp.1.2 in
    let organised = rw c.as_str.ensures at c.in_ok-named.ensures.ok in
    let attended = rw c.as_str-2.ensures at c.in_ok-named-2.ensures.ok in (
      codes "BEGIN:VEVENT" ∷ (codes "UID:" ++ escaped (text_octets refresh.uid.now)) ∷ (codes "DTSTAMP:" ++ stamp.1.0) ∷ (codes "ORGANIZER:" ++ address_octets refresh.organiser.now)
          ∷ (codes "ATTENDEE:" ++ address_octets refresh.room.now) ∷ codes "END:VEVENT" ∷ [],
      record { stamp = stamp.1.0; tells_moment = stamp.1.1; is = refl },
      asking_written _ _ _ _ _ _ _ _ _ _ _ _ _ c.in_ok-line.ensures.ok c.in_ok-uid.ensures.ok stamped organised attended c.in_ok-line-2.ensures.ok,
    )
