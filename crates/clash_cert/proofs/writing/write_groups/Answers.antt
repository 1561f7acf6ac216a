use Rattle.std.proofs.Common.{List, take, map, subst, sym}
use Rattle.profile.specs.checker.Certificates.{Group, IsGroupLine}
use Rattle.ical_values.specs.Written.{Appends}
use Rattle.clash_cert.specs.Texts.{group_said}
use Rattle.clash_cert.specs.Reading.{SpellsGroups}
use Rattle.clash_cert.proofs.PutLemmas.{put_line, keeps_more, one_more_said}
use Rattle.clash_cert.proofs.writing.write_groups.Goals as goal

pub loop-group-preserved : goal.loop-group-preserved
loop-group-preserved c =
    let groups = c.args.groups.now in
    let place = c.loop-group.group-index in
    let group = c.group-item.result in
    let old = c.args.out.now.items in
    let now = c.loop-group.out.items in
    let new = c.write_group.new.out.items in
    let inv = c.loop-group.invariant in
    let written = c.in_ok-write_group.ensures.ok in (
      subst (λ (said : List Group). Appends old new (SpellsGroups said)) (sym (one_more_said group_said groups place group c.loop-group-test.true c.group-item.is))
          (put_line IsGroupLine (map group_said (take place groups)) (group_said group) old now new inv.0 written),
      keeps_more old now new written.0 inv.1 written.2,
    )
