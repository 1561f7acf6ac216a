-- What is given to answers, in some order.
-- Behind Meeting::take of kept, put of kept, take_out of kept, take_out_of of kept, answers_stay of laws, reply_of of reply and 22 more.
use Rattle.std.proofs.Common.{List, ◌++◌}
use Rattle.std.specs.List.{AllZip, Contains}
use Rattle.profile.specs.rooms.Revisions.{Part}
use Rattle.profile.specs.rooms.Rooms.{PartAnswer as SaidAnswer}
use Rattle.room_books.specs.declared.meeting.MeetingKey.{MeetingKey}
use Rattle.room_books.specs.declared.meeting.PartAnswer.{PartAnswer}
use Rattle.room_books.specs.Slots.{Reordered}
use Rattle.room_books.specs.Slots.Reordered.{re_then}
use Rattle.room_books.specs.Room.{AreGiven, HasAnswer}
use Rattle.room_books.proofs.shared_lemmas.Loops.{zip_both, zip_from, zip_to}
use Rattle.room_books.proofs.shared_lemmas.Reordering.{re_back, re_both, re_in, re_same, re_zip}

module _ (key : MeetingKey) (t : List Part) where
  pub given_zip : (xs : List SaidAnswer) (given : List PartAnswer) → AllZip (HasAnswer key t) xs given → AreGiven key t xs given
  given_zip xs given z = record { order = xs; same = re_same xs; each = z }

  pub given_to : (xs : List SaidAnswer) (given : List PartAnswer) (a : SaidAnswer) → AreGiven key t xs given → Contains xs a → (g : PartAnswer) × Contains given g × HasAnswer key t a g
  given_to xs given a are c = zip_to (HasAnswer key t) are.order given a are.each (re_in xs are.order are.same a c)

  pub given_from : (xs : List SaidAnswer) (given : List PartAnswer) (g : PartAnswer) → AreGiven key t xs given → Contains given g → (a : SaidAnswer) × Contains xs a × HasAnswer key t a g
  given_from xs given g are c =
      let r = zip_from (HasAnswer key t) are.order given g are.each c in
      (r.0, re_in are.order xs (re_back xs are.order are.same) r.0 r.1, r.2)

  pub given_reordered : (xs : List SaidAnswer) (given other : List PartAnswer) → Reordered given other → AreGiven key t xs given → AreGiven key t xs other
  given_reordered xs given other same are =
      let r = re_zip (HasAnswer key t) are.order given other same are.each in
      record { order = r.0; same = re_then xs are.order r.0 are.same r.1; each = r.2 }

  pub given_append : (xs us : List SaidAnswer) (given more : List PartAnswer) → AreGiven key t xs given → AreGiven key t us more → AreGiven key t (xs ++ us) (given ++ more)
  given_append xs us given more p q = record {
    order = p.order ++ q.order;
    same = re_both xs p.order us q.order p.same q.same;
    each = zip_both (HasAnswer key t) p.order given q.order more p.each q.each;
  }
