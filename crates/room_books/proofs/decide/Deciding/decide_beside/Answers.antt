-- What is decided of the instances that stay and those that are asked for together.
use Rattle.std.proofs.Common.{refl, subst}
use Rattle.std.specs.Map.{lookup}
use Rattle.room_books.specs.declared.meeting.Outcome.TheVariants.{Accepted, Declined}
use Rattle.room_books.specs.Meeting.{keyed_instance, same_key, singles_by, HaveOverlap}
use Rattle.room_books.proofs.decide_lemmas.Deciding.{decides_own, decides_beside, decides_accept}
use Rattle.room_books.proofs.shared_lemmas.Leaving.{parted_sorted}
use Rattle.room_books.proofs.decide.Deciding.decide_beside.Goals as goal

pub returns-in-Some : goal.returns-in-Some
returns-in-Some c = λ kept parted beside_is.
    let k = c.args.self.now.key.now in let es = c.args.self.now.room.now.meetings.entries in let wanted = c.args.wanted.now in let clash = c.in_ok-clash.clash in
    let overlap = subst (HaveOverlap wanted) c.in-Some.is c.in_ok-first.ensures in
    decides_own k es c.keys_differ.ensures c.args.self.now.room.now.clear c.args.self.now.room.now.apart c.args.beside c.requires.few c.args.self.now.gone.now kept wanted parted beside_is
    (Declined clash) clash c.in-Some.first c.in-Some.second refl c.if-wanted-beside.false overlap c.in_ok-clash.ensures.0 c.in_ok-clash.ensures.1

pub returns-in-Some-busy_beside : goal.returns-in-Some-busy_beside
returns-in-Some-busy_beside c = λ kept parted beside_is.
    let k = c.args.self.now.key.now in let es = c.args.self.now.room.now.meetings.entries in let wanted = c.args.wanted.now in let clash = c.in_ok-clash-2.clash in
    let shared = c.in-Some-busy_beside.shared in
    let found = c.in-Some-busy_beside.ensures kept (parted_sorted (singles_by (lookup (same_key k) es)) c.args.self.now.gone.now c.in_ok-gone.gone kept c.in_ok-gone.ensures parted) in
    decides_beside k es c.keys_differ.ensures c.args.self.now.room.now.clear c.args.self.now.room.now.apart c.args.beside c.requires.few c.args.self.now.gone.now kept wanted parted beside_is
    (Declined clash) clash shared.asked (keyed_instance shared.other.now shared.booked) refl c.if-wanted-beside.false found.0 found.1 found.2 c.in_ok-clash-2.ensures.0 c.in_ok-clash-2.ensures.1

pub returns : goal.returns
returns c = λ kept parted beside_is.
    let k = c.args.self.now.key.now in let es = c.args.self.now.room.now.meetings.entries in let wanted = c.args.wanted.now in
    let separate = subst (HaveOverlap wanted) c.in_default.is c.in_ok-first.ensures in
    decides_accept k es c.keys_differ.ensures c.args.self.now.room.now.clear c.args.self.now.room.now.apart c.args.beside c.requires.few c.args.self.now.gone.now kept wanted parted beside_is
    Accepted refl c.if-wanted-beside.false separate (c.in_default-busy_beside.ensures kept (parted_sorted (singles_by (lookup (same_key k) es)) c.args.self.now.gone.now c.in_ok-gone.gone kept c.in_ok-gone.ensures parted))
