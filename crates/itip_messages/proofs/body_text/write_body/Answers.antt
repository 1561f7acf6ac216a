-- The body is cut where its zone begins, and has a zone where something is there.
use Rattle.std.proofs.Common.{arith, ◌∙◌, Some, take, drop, sym, ap}
use Rattle.itip_messages.specs.Zones.{with_zone}
use Rattle.itip_messages.proofs.body_text_lemmas.NamedLines.{body_alone, body_in_zone, behind, is_nothing, is_some_zone}
use Rattle.itip_messages.proofs.body_text.write_body.Goals as goal

pub split_at-requires : goal.split_at-requires
split_at-requires c = c.zone_lines.ensures.inside

pub returns-then-is_empty-clause-ok : goal.returns-then-is_empty-clause-ok
returns-then-is_empty-clause-ok c =
    let front = c.split_at.result.0.now in
    let zone = c.split_at.result.1.now in
    body_alone c.args.body.now front zone
    (c.split_at.ensures.front ∙ ap (λ n. take n c.args.body.now) c.zone_lines.ensures.place)
    (c.split_at.ensures.back ∙ ap (λ n. drop n c.args.body.now) c.zone_lines.ensures.place)
    c.args.zones.now c.args.object.now c.write_text.new.object
    (is_nothing zone (sym c.is_empty.ensures ∙ c.if-is_empty.true))
    c.in_ok-write_text.ensures.ok

pub returns-clause-ok : goal.returns-clause-ok
returns-clause-ok c =
    let front = c.split_at.result.0.now in
    let zone = c.split_at.result.1.now in
    let n = c.in_ok-number.ensures.number in
    let rest = behind zone c.min.result (λ more. omega (arith, c.min.ensures, more)) (λ less. omega (arith, c.min.ensures, less)) in
    body_in_zone c.args.body.now front zone
    (c.split_at.ensures.front ∙ ap (λ n. take n c.args.body.now) c.zone_lines.ensures.place)
    (c.split_at.ensures.back ∙ ap (λ n. drop n c.args.body.now) c.zone_lines.ensures.place)
    c.args.zones.now c.number_of.new.self c.in_ok-number.number n.0 c.args.object.now c.write_text-2.new.object
    (is_some_zone zone (sym c.is_empty.ensures ∙ c.if-is_empty.false))
    (c.in_ok-number.ensures.zones ∙ ap (with_zone c.args.zones.now) rest) n.1 (n.2 ∙ ap Some rest)
    c.in_default.ensures.ok
