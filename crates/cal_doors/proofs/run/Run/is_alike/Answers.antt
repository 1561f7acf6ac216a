use Rattle.std.proofs.Common.{◌≡◌, ◌∙◌, sym, subst}
use Rattle.profile.specs.text.Values.{IsOffset}
use Rattle.cal_zones.specs.Onsets.{observance_of}
use Rattle.cal_zones.proofs.Casts.{same_bits}
use Rattle.cal_doors.proofs.SameDays.{alike}
use Rattle.cal_doors.proofs.run.Run.is_alike.Goals as goal

pub returns : goal.returns
returns c = λ h.
    let a = c.args.self.now in
    let b = c.args.other.now in
    let from : a.offset_from ≡ b.offset_from = same_bits _ _ (subst IsOffset a.before a.observance.from) (subst IsOffset b.before b.observance.from) c.if-self-other.false in
    let to : a.offset_to ≡ b.offset_to = same_bits _ _ (subst IsOffset a.after a.observance.to) (subst IsOffset b.after b.observance.to) c.if-self-other-2.false in
    alike (observance_of a.observance) (observance_of b.observance) a.each b.each a.start b.start a.rule b.rule (c.are_same_days.ensures h) a.starts b.starts
    a.observance.starts.2 b.observance.starts.2 (c.are_whole_days.ensures c.if-not-are_whole_days.false) (a.before ∙ from ∙ sym b.before) (a.after ∙ to ∙ sym b.after)
