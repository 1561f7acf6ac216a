-- One more content joins those that a folder in memory has had.
use Rattle.std.proofs.Common.{◌≡◌, ◌⊎◌, inl, inr, ⊎_elim, ℕ, zero, suc, ◌≤◌, List, [], ◌∷◌, ◌++◌, length, drop, Vec, refl, sym, subst, arith, length-append}
use Rattle.std.specs.declared.alloc.Global.{Global}
use Rattle.profile.specs.streams.Folders.{Elapses, Image}
use Rattle.sched_devices.specs.Memory.{HadLeft, HeldFile, LeftSince, MayLeave}

abbrev Contents : Type 0
Contents = List (Vec HeldFile Global)

keeps : (past : Contents) (v : Vec HeldFile Global) (left : Image) → HadLeft past left → HadLeft (past ++ v ∷ []) left
keeps [] v left had = absurd had
keeps (p ∷ past) v left (inl here) = inl here
keeps (p ∷ past) v left (inr there) = inr (keeps past v left there)

adds : (past : Contents) (v : Vec HeldFile Global) (left : Image) → HadLeft (past ++ v ∷ []) left → HadLeft past left ⊎ MayLeave v.items left
adds [] v left (inl here) = inr here
adds [] v left (inr none) = absurd none
adds (p ∷ past) v left (inl here) = inl (inl here)
adds (p ∷ past) v left (inr there) = ⊎_elim (λ had. inl (inr had)) (λ new. inr new) (adds past v left there)

newest : (past : Contents) (v : Vec HeldFile Global) (left : Image) → MayLeave v.items left → HadLeft (past ++ v ∷ []) left
newest [] v left may = inl may
newest (p ∷ past) v left may = inr (newest past v left may)

drop_push : (moment : ℕ) (past : Contents) (v : Vec HeldFile Global) → moment ≤ length past → drop moment (past ++ v ∷ []) ≡ drop moment past ++ v ∷ []
drop_push zero past v le = refl
drop_push (suc moment) [] v le = absurd (omega arith)
drop_push (suc moment) (p ∷ past) v le = drop_push moment past v (omega arith)

elapses_push : (past : Contents) (v : Vec HeldFile Global) (old new : List HeldFile) → v.items ≡ old
    → Elapses (length past) (length (past ++ v ∷ [])) (LeftSince past old) (LeftSince (past ++ v ∷ []) new) (MayLeave new)
elapses_push past v old new is = record {
  later = omega (arith, length-append past (v ∷ []));
  nothing_else = λ moment left le since. ⊎_elim (λ now. inr now) (λ had. inl (was moment left (adds (drop moment past) v left (subst (λ (l : Contents). HadLeft l left) (drop_push moment past v le) had)))) since;
  keeps = λ moment left le since. inr (subst (λ (l : Contents). HadLeft l left) (sym (drop_push moment past v le))
      (⊎_elim (λ now. newest (drop moment past) v left (subst (λ (l : List HeldFile). MayLeave l left) (sym is) now)) (keeps (drop moment past) v left) since));
}
  where
    was : (moment : ℕ) (left : Image) → HadLeft (drop moment past) left ⊎ MayLeave v.items left → LeftSince past old moment left
    was moment left (inl had) = inr had
    was moment left (inr may) = inl (subst (λ (l : List HeldFile). MayLeave l left) is may)

-- what it held was kept, and then it changed
pub elapses_to : (past later : Contents) (v : Vec HeldFile Global) (old new : List HeldFile) → v.items ≡ old → later ≡ past ++ v ∷ []
    → Elapses (length past) (length later) (LeftSince past old) (LeftSince later new) (MayLeave new)
elapses_to past later v old new is same =
    subst (λ (l : Contents). Elapses (length past) (length l) (LeftSince past old) (LeftSince l new) (MayLeave new)) (sym same) (elapses_push past v old new is)

-- what it held, by another name
pub elapses_from : (past later : Contents) (held old next : List HeldFile) → held ≡ old → Elapses (length past) (length later) (LeftSince past held) (LeftSince later next) (MayLeave next)
    → Elapses (length past) (length later) (LeftSince past old) (LeftSince later next) (MayLeave next)
elapses_from past later held old next is time = subst (λ (l : List HeldFile). Elapses (length past) (length later) (LeftSince past l) (LeftSince later next) (MayLeave next)) is time
