use Rattle.std.proofs.Common.{◌∙◌, ap, refl, sym, option_map}
use Rattle.std.specs.Prelude.{Option, is_some}
use Rattle.profile.specs.events.EventComponents.{Method}
use Rattle.cal_events.specs.Component.{method_said}
use Rattle.itip_messages.proofs.message_events_lemmas.EventsRead.{word_of_found}
use Rattle.itip_messages.proofs.message_events.method_named.Goals as goal

-- the edit `a_reply_is_a_store` is refused at once by it
pub returns-in-Some-clause-named : goal.returns-in-Some-clause-named
returns-in-Some-clause-named c =
    word_of_found c.args.word.now (method_said c.in-Some.method) (sym c.named.ensures ∙ ap (option_map method_said) c.in-Some.is)

pub returns-in-None-clause-fault : goal.returns-in-None-clause-fault
returns-in-None-clause-fault c = (refl, ap (λ (o : Option Method). is_some o) (sym c.named.ensures ∙ ap (option_map method_said) c.in-None.is))
