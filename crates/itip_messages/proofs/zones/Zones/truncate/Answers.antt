use Rattle.std.proofs.Common.{◌∙◌, ℕ, Vec, Global, map, take, ap, sym}
use Rattle.std.proofs.lemmas.List.{take-map}
use Rattle.itip_messages.proofs.zones.Zones.truncate.Goals as goal

pub returns : goal.returns
returns c =
    ap (map (λ (rest : Vec ℕ Global). rest.items)) c.truncate.ensures.keys ∙ sym (take-map (λ (rest : Vec ℕ Global). rest.items) c.args.kept c.self.inside.rests.keys) ∙ ap (take c.args.kept) c.self.view_is
