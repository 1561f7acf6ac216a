use Rattle.std.proofs.Common.{◌∙◌, ◌++◌, List, ℕ, codes, refl, sym, ap, subst}
use Rattle.profile.specs.events.ZonedTimes.{SpellsMidnight}
use Rattle.profile.specs.text.Values.{WritesLocal}
use Rattle.profile.specs.rooms.Messages.{StartsIn}
use Rattle.cal_events.specs.Component.{form_said, zone_said, local_said, times_of}
use Rattle.cal_events.specs.declared.when.When.{When}
use Rattle.itip_messages.proofs.body_lemmas.BodyLemmas.{line_written}
use Rattle.itip_messages.proofs.body.write_start.Goals as goal
use Rattle.itip_messages.proofs.body.write_start.Goals.{in-Utc+in_ok-extend_from_slice-in-Utc+in_ok-write-in-Utc, in-Zoned+in_ok-extend_from_slice-in-Zoned+in_ok-write-in-Zoned, in-Floating+in_ok-extend_from_slice-in-Floating+in_ok-write-in-Floating, in-WholeDay+in_ok-extend_from_slice-in-WholeDay+in_ok-write_date-in-WholeDay}

pub returns : goal.returns
returns c =
    let said = times_of c.args.times.now in
    let Starts : List ℕ → When → Type 0 = λ line when. StartsIn (form_said when) (zone_said when) said line in
    elim c.match-times.branch [
      | in-Utc+in_ok-extend_from_slice-in-Utc+in_ok-write-in-Utc w ↦
          let text = w.in_ok-write-in-Utc.ensures.ok in (
            codes "DTSTART:" ++ text.0,
            subst (Starts (codes "DTSTART:" ++ text.0)) (sym w.in-Utc.is) (text.0, text.1, refl),
            line_written c.args.body.now.items (codes "DTSTART:") text.0 _ _ _ w.in_ok-extend_from_slice-in-Utc.ensures.items text.2 (c.in_ok-extend_from_slice.ensures.items ∙ ap (λ b. b.items ++ codes "\r\n") w.body-is),
          )
      | in-Zoned+in_ok-extend_from_slice-in-Zoned+in_ok-write-in-Zoned w ↦
          let text = w.in_ok-write-in-Zoned.ensures.ok in
          let shown = subst (λ local. WritesLocal text.0 local) (sym (ap local_said w.in-Zoned.is)) text.1 in (
            codes "DTSTART;TZID=Z:" ++ text.0,
            subst (Starts (codes "DTSTART;TZID=Z:" ++ text.0)) (sym w.in-Zoned.is) (text.0, shown, refl),
            line_written c.args.body.now.items (codes "DTSTART;TZID=Z:") text.0 _ _ _ w.in_ok-extend_from_slice-in-Zoned.ensures.items text.2 (c.in_ok-extend_from_slice.ensures.items ∙ ap (λ b. b.items ++ codes "\r\n") w.body-is),
          )
      | in-Floating+in_ok-extend_from_slice-in-Floating+in_ok-write-in-Floating w ↦
          let text = w.in_ok-write-in-Floating.ensures.ok in
          let shown = subst (λ local. WritesLocal text.0 local) (sym (ap local_said w.in-Floating.is)) text.1 in (
            codes "DTSTART:" ++ text.0,
            subst (Starts (codes "DTSTART:" ++ text.0)) (sym w.in-Floating.is) (text.0, shown, refl),
            line_written c.args.body.now.items (codes "DTSTART:") text.0 _ _ _ w.in_ok-extend_from_slice-in-Floating.ensures.items text.2 (c.in_ok-extend_from_slice.ensures.items ∙ ap (λ b. b.items ++ codes "\r\n") w.body-is),
          )
      | in-WholeDay+in_ok-extend_from_slice-in-WholeDay+in_ok-write_date-in-WholeDay w ↦
          let text = w.in_ok-write_date-in-WholeDay.ensures in
          let shown = subst (λ local. SpellsMidnight text.0 local) (sym (ap local_said w.in-WholeDay.is)) text.1 in (
            codes "DTSTART;VALUE=DATE:" ++ text.0,
            subst (Starts (codes "DTSTART;VALUE=DATE:" ++ text.0)) (sym w.in-WholeDay.is) (text.0, shown, refl),
            line_written c.args.body.now.items (codes "DTSTART;VALUE=DATE:") text.0 _ _ _ w.in_ok-extend_from_slice-in-WholeDay.ensures.items text.2
                (c.in_ok-extend_from_slice.ensures.items ∙ ap (λ b. b.items ++ codes "\r\n") w.body-is),
          )
    ]
