-- What may be confirmed beside the others may be so in another order.
-- Cited by Room::answers_after, Room::put.
use Rattle.std.proofs.Common.{◌∙◌, List, ◌++◌, sym, subst, arith, length-append}
use Rattle.std.specs.List.{Contains}
use Rattle.std.proofs.lemmas.List.{length-map}
use Rattle.profile.specs.checker.Instances.{Instance}
use Rattle.cal_events.specs.declared.instance.Single.{Single}
use Rattle.room_books.specs.declared.meeting.MeetingKey.{MeetingKey}
use Rattle.room_books.specs.declared.meeting.PartAnswer.{PartAnswer}
use Rattle.room_books.specs.Slots.{Reordered}
use Rattle.room_books.specs.Meeting.{all_singles, instance_list, keyed_instance, MayJoin}
use Rattle.cal_events.proofs.shared_lemmas.Distinct.{pairs_permuted}
use Rattle.room_books.proofs.shared_lemmas.Leaving.{Apart, apart_back}
use Rattle.room_books.proofs.shared_lemmas.Places.{booked_from, in_booked}
use Rattle.room_books.proofs.shared_lemmas.Reordering.{re_back, re_flat, re_in, re_length, re_permutation}
use Rattle.room_books.proofs.shared_lemmas.Same.{AreSame, clear_same, same_append, same_itself}

pub joins_reordered : (others : List Instance) (k : MeetingKey) (a b : List PartAnswer) → Reordered a b → MayJoin others k (all_singles a) → MayJoin others k (all_singles b)
joins_reordered others k a b same j =
    let singles = re_flat (λ (g : PartAnswer). g.singles.items) a b same in
    let n = re_length (all_singles a) (all_singles b) singles in
    record {
      few = (let few = j.few in let x = length-map (all_singles a) (keyed_instance k) in let y = length-map (all_singles b) (keyed_instance k) in
          omega (arith, n, few, x, y, length-append others (instance_list k (all_singles a)), length-append others (instance_list k (all_singles b))));
      clear = clear_same (others ++ instance_list k (all_singles b)) (others ++ instance_list k (all_singles a))
          (same_append others others (instance_list k (all_singles b)) (instance_list k (all_singles a)) (same_itself others) (booked_reordered (all_singles b) (all_singles a) (re_back (all_singles a) (all_singles b) singles))) j.clear;
      separate = pairs_permuted Apart apart_back (all_singles a) (all_singles b) (re_permutation (all_singles a) (all_singles b) singles) j.separate;
    }
  where
    booked_reordered : (xs ys : List Single) → Reordered xs ys → AreSame (instance_list k xs) (instance_list k ys)
    booked_reordered xs ys r = record {
      to = λ x c. moved xs ys r x c;
      from = λ x c. moved ys xs (re_back xs ys r) x c;
      long = length-map xs (keyed_instance k) ∙ re_length xs ys r ∙ sym (length-map ys (keyed_instance k));
    }
      where
        moved : (us vs : List Single) → Reordered us vs → (x : Instance) → Contains (instance_list k us) x → Contains (instance_list k vs) x
        moved us vs p x c = let s = in_booked k us x c in subst (Contains (instance_list k vs)) s.2 (booked_from k vs s.0 (re_in us vs p s.0 s.1))
