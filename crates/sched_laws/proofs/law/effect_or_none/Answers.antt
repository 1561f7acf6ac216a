-- In a world that a schedule leads to no two organisers have one address.
use Rattle.sched_laws.proofs.law_lemmas.EffectOrNone.{delivered_or_not, stored_or_not}
use Rattle.sched_laws.proofs.law_lemmas.Growing.{one_organiser}
use Rattle.sched_laws.proofs.law_lemmas.Playing.{plays_sound}
use Rattle.sched_laws.proofs.law.effect_or_none.Goals as goal

pub returns-clause-delivered : goal.returns-clause-delivered
returns-clause-delivered c rooms organisers steps world after octets to moment message zoned plays =
    let laws = c.laws_below.ensures in
    let sound = plays_sound laws rooms organisers steps world zoned plays in
    delivered_or_not laws.one_message laws.or_a_fault world after (λ a b there also same. one_organiser world.organisers organisers a b sound.organisers_are there also same) octets to moment message

pub returns-clause-stored : goal.returns-clause-stored
returns-clause-stored c rooms organisers steps world after organiser object moment message zoned plays =
    let laws = c.laws_below.ensures in
    let sound = plays_sound laws rooms organisers steps world zoned plays in
    stored_or_not laws.one_message laws.or_a_fault world after (λ a b there also same. one_organiser world.organisers organisers a b sound.organisers_are there also same) organiser object moment message
