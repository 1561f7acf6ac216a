use Rattle.std.proofs.Common.{◌∙◌, ap}
use Rattle.itip_messages.specs.Body.{zone_place}
use Rattle.itip_messages.proofs.body_lemmas.ZonePlaces.{cut_at_zone, place_found}
use Rattle.itip_messages.proofs.body.zone_lines.Goals as goal

pub returns-clause-place : goal.returns-clause-place
returns-clause-place c = c.unwrap_or.ensures ∙ place_found c.args.body.now c.find.result c.find.ensures

pub returns-clause-cut : goal.returns-clause-cut
returns-clause-cut c content event when is =
    cut_at_zone content event when _ (c.unwrap_or.ensures ∙ place_found c.args.body.now c.find.result c.find.ensures ∙ ap zone_place is)
