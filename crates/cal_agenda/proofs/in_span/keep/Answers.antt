use Rattle.std.proofs.Common.{◌≡◌, ◌∙◌, [], ◌∷◌, map, sym, ap, subst}
use Rattle.std.proofs.lemmas.Bool.{true≢false}
use Rattle.std.proofs.lemmas.List.{append-nil, map-append}
use Rattle.profile.specs.checker.Agendas.{IsInSpan}
use Rattle.cal_events.specs.Calendar.{instance_of}
use Rattle.cal_agenda.proofs.Gathering.{nothing, kept_one}
use Rattle.cal_agenda.proofs.in_span.keep.Goals as goal

pub returns-then-not-is_in_span : goal.returns-then-not-is_in_span
returns-then-not-is_in_span c =
    let from = c.args.span.start in
    let until = c.args.span.end in
    let one = instance_of c.args.instance in (
      [],
      sym (append-nil (map instance_of c.args.found.now.items)),
      nothing from until (λ a. a ≡ one) (λ a same within. true≢false (sym (c.is_in_span.ensures.1 (subst (IsInSpan from until) same within)) ∙ c.if-not-is_in_span.true)),
    )

pub returns : goal.returns
returns c =
    let one = instance_of c.args.instance in (
      one ∷ [],
      ap (map instance_of) c.in_ok-push.ensures.items ∙ map-append instance_of c.args.found.now.items (c.args.instance ∷ []),
      kept_one c.args.span.start c.args.span.end one (c.is_in_span.ensures.0 c.if-not-is_in_span.false),
    )
