use Rattle.std.proofs.Common.{◌∙◌, ◌++◌, sym, arith, rules, Some, None, ap, string_bytes}
use Rattle.std.proofs.lemmas.Str.Pattern.{split_parts}
use Rattle.ical_values.proofs.Escapes.{unescaped_turn, unescaped_all}
use Rattle.ical_values.proofs.text.unescape.Goals as goal

pub loop-front-preserved : goal.loop-front-preserved
loop-front-preserved c =
    let p = split_parts 92 c.loop-front.rest.now (Some (c.in-Some.front, c.in-Some.after)) c.in-Some.ensures.cases (omega arith) in (
      search rules,
      rw (c.in_ok-push_str-2.ensures.bytes, c.in_ok-push_str.ensures.bytes)
          (unescaped_turn (string_bytes c.loop-front.out) c.in-Some.front.now c.in-Some.after.now c.escape_at.result.0.now c.escape_at.result.1.now c.loop-front.rest.now c.args.text.now p.0 p.1 c.escape_at.ensures.meaning c.loop-front.invariant.1),
    )

pub returns : goal.returns
returns c =
    let no = split_parts 92 c.loop-front.rest.now None c.in_default.ensures.cases (omega arith) in
    c.in_ok-push_str-3.ensures.bytes
    ∙ ap (λ x. string_bytes c.loop-front.out ++ x) (sym (unescaped_all c.loop-front.rest.now no))
    ∙ c.loop-front.invariant.1
