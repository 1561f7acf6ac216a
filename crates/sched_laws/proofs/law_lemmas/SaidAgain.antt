-- What is said twice of one event says the same times: so it takes place alike in each room. Behind schedules_hold.
use Rattle.std.proofs.Common.{◌≡◌, ◌∙◌, [], filter, Option, Some, None, sym, List}
use Rattle.std.specs.Prelude.{unwrap_or}
use Rattle.profile.specs.events.EventComponents.{Attendee, EventComponent, meeting_said}
use Rattle.profile.specs.events.Occurrences.{Time}
use Rattle.profile.specs.rooms.Messages.{may_take}
use Rattle.profile.specs.rooms.Revisions.{Revision, Slot}
use Rattle.profile.specs.series.Rules.{Rule}
use Rattle.itip_messages.proofs.sent_law_lemmas.SentContents.{again_same, dates_same}
use Rattle.itip_messages.specs.SentLaw.{IsSaidAgain, IsSameRule}
use Rattle.room_books.proofs.laws_lemmas.PlacedTwice.{SameTimes, SaysTwice}

module _ (IsSuch : Slot → Attendee → Attendee → Type 0) (revision : Revision) (event said : EventComponent) (s : IsSaidAgain IsSuch revision event said) where
  pub meeting_again : meeting_said said ≡ meeting_said event
  meeting_again = λ i. (unwrap_or (s.organiser i) [], s.uid i)

-- rules of the days of one
same_rules : (rule a b : Option Rule) → IsSameRule rule a → IsSameRule rule b → IsSameRule a b
same_rules None None None same too = tt
same_rules None None (Some b) same too = absurd too
same_rules None (Some a) b same too = absurd same
same_rules (Some rule) None b same too = absurd same
same_rules (Some rule) (Some a) None same too = absurd too
same_rules (Some rule) (Some a) (Some b) same too = λ day. too day ∙ sym (same day)

-- times that are those of others of each form
same_times : (xs ys zs : List Time) → SameTimes xs ys → SameTimes xs zs → SameTimes ys zs
same_times xs ys zs same too form t = (λ c. (too form t).0 ((same form t).1 c), λ c. (same form t).0 ((too form t).1 c))

pub said_twice : (IsSuch IsToo : Slot → Attendee → Attendee → Type 0) (revision : Revision) (event a b : EventComponent) → IsSaidAgain IsSuch revision event a
    → IsSaidAgain IsToo revision event b → SaysTwice a b
said_twice IsSuch IsToo revision event a b s t =
    let added = event.written.additions in
    let taken = filter may_take event.written.exceptions in
    record {
      meeting = meeting_again IsToo revision event b t ∙ sym (meeting_again IsSuch revision event a s);
      times = t.times ∙ sym s.times;
      rule = same_rules event.rule a.rule b.rule s.rule t.rule;
      adds = same_times added a.written.additions b.written.additions (again_same added a.written.additions s.additions) (again_same added b.written.additions t.additions);
      takes = same_times taken (filter may_take a.written.exceptions) b.written.exceptions (dates_same event.written.exceptions a.written.exceptions s.exceptions)
          (again_same taken b.written.exceptions t.exceptions);
    }
