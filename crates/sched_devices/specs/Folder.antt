-- What a call of a folder does, and what it leaves as it was.
use Rattle.std.specs.Prelude.{◌≡◌, ◌<◌, ◌≤◌, ◌⊎◌, ℕ, Bool, List, [], ◌∷◌, None}
use Rattle.profile.specs.streams.Folders.{AreSame, Image, Temporary, with_files}

-- nothing of the folder has changed, and a stop leaves nothing else
pub record IsKept {F : Type 0} (is_known : F → Bool) (image : F → Image) (temporary : F → Temporary) (may_leave : F → Image → Type 0) (old new : F) : Type 0 where
  pub known : is_known new ≡ is_known old
  pub same : image new ≡ image old
  pub temporary_is : temporary new ≡ temporary old
  pub stop : (left : Image) → may_leave new left → may_leave old left

-- nothing was synced: a stop may leave all that it might have left before
abbrev pub StaysAsOpen : {F : Type 0} → (F → Image → Type 0) → F → F → Type 0
StaysAsOpen may_leave old new = (left : Image) → may_leave old left → may_leave new left

-- nothing was published, and a stop leaves nothing else than before
pub record IsUnpublished (old new : Image) (before after : Image → Type 0) : Type 0 where
  pub same : AreSame new old
  pub stop : (left : Image) → after left → before left

-- the temporary has this name now, under which nothing stood
pub record IsPublished (old new : Image) (name : List ℕ) (temporary : Temporary) : Type 0 where
  pub free : old name ≡ None
  pub added : AreSame new (with_files old (record { name = name; octets = temporary.octets } ∷ []))

-- The count of failures doesn't fall. A call that says that the folder failed has raised it, or it stays the greatest u64; a call that
-- doesn't say so leaves it as it was.
pub record HasCause (before now : ℕ) (failed : Type 0) : Type 0 where
  pub later : before ≤ now
  pub cause : failed → (before < now) ⊎ ((before ≡ 18_446_744_073_709_551_615) × (now ≡ before))
  pub told : (failed → ⊥) → now ≡ before
