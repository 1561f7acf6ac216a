use Rattle.std.proofs.Common.{◌∙◌, refl, sym, List, ℤ, subst}
use Rattle.std.specs.Prelude.{Contains, map}
use Rattle.std.proofs.lemmas.Result.{on_ok_weaker}
use Rattle.profile.specs.rooms.Messages.{AreAscending, list_lines}
use Rattle.cal_events.specs.Component.{form_of, time_of}
use Rattle.itip_messages.specs.Body.{name_as}
use Rattle.itip_messages.proofs.body_lemmas.BodyLemmas.{form_shown}
use Rattle.itip_messages.proofs.body.write_times.Goals as goal

pub write_list-requires : goal.write_list-requires
write_list-requires c instant at =
    form_shown (form_of c.args.form) (map time_of c.args.times.now) c.requires instant
    (subst (λ (l : List ℤ). Contains l instant) (c.deref.ensures.value ∙ c.in_ok-instants.ensures) ((c.in_ok-ascending.ensures.exact instant).0 (subst (λ (l : List ℤ). Contains l instant) c.deref-2.ensures.value at)))

pub returns : goal.returns
returns c =
    let form = form_of c.args.form in
    let are = subst (λ (l : List ℤ). AreAscending c.deref.result.now l) (sym c.deref-2.ensures.value) c.in_ok-ascending.ensures in
    on_ok_weaker c.write_list.result
    (λ h. (
      list_lines (name_as form c.args.name.now) h.0,
      record {
        ascending = c.deref-2.result.now;
        are = subst (λ (l : List ℤ). AreAscending l c.deref-2.result.now) (c.deref.ensures.value ∙ c.in_ok-instants.ensures) are;
        texts = h.0;
        each = h.1;
        is = refl;
      },
      h.2,
    ))
    c.write_list.ensures
