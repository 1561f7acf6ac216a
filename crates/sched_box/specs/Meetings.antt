-- What an organiser shows of its meetings once a stream was served.
use Rattle.std.specs.Prelude.{◌≡◌, ℕ, ℤ, List, Contains, Option, IfSome, OnSome}
use Rattle.std.specs.Io.KnownBytes.{IsAtEnd}
use Rattle.profile.specs.organisers.Organisers.{ShowsMeetings}
use Rattle.profile.specs.streams.Streams.{AreObjects, AllAnswers, Box, Config, HostedOrganiser, new_box}
use Rattle.sched_box.specs.Serving.{IsWithinBound}

-- after all objects of a stream these are the texts of all that the organiser has stored
pub record KeepsMeetings (moment : ℤ) (hosts : Config) (input left : Option (List ℕ)) (organiser texts : List ℕ) : Type 0 where
  pub objects : List (List ℕ)
  pub after : Box
  pub octets : List ℕ
  pub refused : ℕ
  pub kept : HostedOrganiser
  pub are : IfSome input (λ stream. AreObjects stream objects)
  pub end : OnSome input (IsAtEnd left)
  pub bound : IsWithinBound input left
  pub answers : AllAnswers moment 1 objects (new_box hosts) after octets refused
  pub has : Contains after.organisers kept
  pub at : kept.address ≡ organiser
  pub shows : ShowsMeetings organiser kept.book texts
