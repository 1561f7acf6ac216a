use Rattle.std.proofs.Common.{List, take, map, subst, sym}
use Rattle.profile.specs.checker.Certificates.{Pair, IsPairLine, IsEntry}
use Rattle.ical_values.specs.Written.{Appends}
use Rattle.clash_cert.specs.Texts.{pair_said}
use Rattle.clash_cert.specs.Reading.{SpellsPairs}
use Rattle.clash_cert.proofs.PutLemmas.{put_line, keeps_more, one_more_said, said_at}
use Rattle.clash_cert.proofs.writing.write_pairs.Goals as goal

pub write_pair-requires : goal.write_pair-requires
write_pair-requires c = said_at (λ p. IsEntry p.entry) pair_said c.args.pairs.now c.loop-pair.pair-index c.pair-item.result c.requires c.loop-pair-test.true c.pair-item.is

pub loop-pair-preserved : goal.loop-pair-preserved
loop-pair-preserved c =
    let pairs = c.args.pairs.now in
    let place = c.loop-pair.pair-index in
    let pair = c.pair-item.result in
    let old = c.args.out.now.items in
    let now = c.loop-pair.out.items in
    let new = c.write_pair.new.out.items in
    let inv = c.loop-pair.invariant in
    let written = c.in_ok-write_pair.ensures.ok in (
      subst (λ (said : List Pair). Appends old new (SpellsPairs said)) (sym (one_more_said pair_said pairs place pair c.loop-pair-test.true c.pair-item.is))
          (put_line IsPairLine (map pair_said (take place pairs)) (pair_said pair) old now new inv.0 written),
      keeps_more old now new written.0 inv.1 written.2,
    )
