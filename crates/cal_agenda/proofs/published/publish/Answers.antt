use Rattle.std.proofs.Common.{◌∙◌, ◌++◌, ◌∷◌, [], List, ℕ, map, ap, codes}
use Rattle.profile.specs.text.Lines.{written}
use Rattle.profile.specs.checker.Publishing.{published_opening}
use Rattle.cal_events.specs.Calendar.{instance_of}
use Rattle.cal_agenda.proofs.PublishLemmas.{published_whole}
use Rattle.cal_agenda.proofs.published.publish.Goals as goal

pub returns : goal.returns
returns c =
    let name = c.args.name.now in
    let (lines, are, grown) = c.in_ok-write_events.ensures in
    published_whole c.args.moment name (map instance_of c.args.instances.now) c.new-out.result.items _ _ _ (codes "END:VCALENDAR") lines c.new-out.ensures.items c.in_ok-write_opening.ensures are grown
    c.in_ok-write_line.ensures.written
    (λ octets is. record {
      events = are.events;
      each = are.each;
      is = is ∙ ap (λ (l : List (List ℕ)). written (published_opening name ++ (l ++ codes "END:VCALENDAR" ∷ []))) are.are;
    })
