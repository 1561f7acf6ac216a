-- A property that occurs exactly once says one value.
-- Behind one_event.
use Rattle.std.proofs.Common.{◌≡◌, ℕ, Bool, List, subst, refl, ap}
use Rattle.std.specs.Prelude.{Option, Some, None}
use Rattle.profile.specs.events.Properties.{SomeLine, BothOrNeither, Says}
use Rattle.ical_tree.proofs.OneLine.{IsFunctional, only_line}
use Rattle.cal_events.proofs.shared_lemmas.OneTimes.{Lines, same_line}

same_both : {V : Type 0} (R : List ℕ → V → Type 0) → IsFunctional R → (line : Option (List ℕ)) (v w : Option V) → BothOrNeither R line v → BothOrNeither R line w → v ≡ w
same_both R f None None None h k = refl
same_both R f None None (Some w) h k = absurd k
same_both R f None (Some v) w h k = absurd h
same_both R f (Some l) None w h k = absurd h
same_both R f (Some l) (Some v) None h k = absurd k
same_both R f (Some l) (Some v) (Some w) h k = ap Some (f l v w h k)

pub same_said : {V : Type 0} (R : List ℕ → V → Type 0) (name : List ℕ) (m : Bool) (lines : Lines) (v w : Option V) → IsFunctional R → Says name m R lines v → Says name m R lines w → v ≡ w
same_said R name m lines v w f s t =
    same_both R f t.line v w (subst (λ (l : Option (List ℕ)). BothOrNeither R l v) (same_line name lines s.line t.line s.once t.once) s.is) t.is

-- what the one line of a property says
has_said : {V : Type 0} (R : List ℕ → V → Type 0) (line : List ℕ) (v : Option V) → BothOrNeither R (Some line) v → (x : V) × R line x × (v ≡ Some x)
has_said R line None h = absurd h
has_said R line (Some x) h = (x, h, refl)

pub said_by : {V : Type 0} (R : List ℕ → V → Type 0) (P : List ℕ → Type 0) (name : List ℕ) (m : Bool) (lines : Lines) (v : Option V) → Says name m R lines v → (l : SomeLine name P lines)
    → (x : V) × R l.0 x × (v ≡ Some x)
said_by R P name m lines v s l =
    has_said R l.0 v (subst (λ (o : Option (List ℕ)). BothOrNeither R o v) (only_line name lines s.line l.0 s.once l.1) s.is)
