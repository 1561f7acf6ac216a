-- The files that a folder in memory holds: what is under a name after a change, and what a stop may leave then.
use Rattle.std.proofs.Common.{◌≡◌, ◌≢◌, ◌⊎◌, inl, inr, ⊎_elim, ℕ, zero, suc, ◌<◌, Bool, true, false, not, ◌||◌, cond, List, [], ◌∷◌, ◌++◌, length, get_or, map, filter, Option, None, Some, option_map, refl, sym, ap, subst, ◌∙◌, arith}
use Rattle.std.specs.Option.{is_some, option_or}
use Rattle.std.specs.List.{AllPairs, Contains}
use Rattle.std.specs.Str.{bytes_eq}
use Rattle.std.proofs.lemmas.Slice.Eq.{bytes_eq-Decides}
use Rattle.std.proofs.lemmas.Bool.{false≢true, cases_Bool}
use Rattle.std.proofs.lemmas.List.{map-append}
use Rattle.std.proofs.lemmas.List.Elements.{Contains-append_right}
use Rattle.std.proofs.lemmas.List.Folds.{find-append}
use Rattle.std.proofs.lemmas.List.Quantifiers.{all_pairs_push}
use Rattle.profile.specs.streams.Folders.{AreNames, AreNamesSynced, AreSame, Image, MayBePublished, Temporary, with_files}
use Rattle.sched_devices.specs.Folder.{IsPublished}
use Rattle.sched_devices.specs.Memory.{AreApart, HeldFile, MayLeave, MayLeaveFile, file_named, files_left, has_name, image_of, is_left, left_file, left_under, names_held, with_name_synced}

-- ---- names

same_name : (one other : List ℕ) → bytes_eq one other ≡ true → one ≡ other
same_name one other = (bytes_eq-Decides one other).0

is_itself : (name : List ℕ) → bytes_eq name name ≡ true
is_itself name = (bytes_eq-Decides name name).1 refl

named_first : (name : List ℕ) (file : HeldFile) (files : List HeldFile) → has_name name file ≡ true → file_named name (file ∷ files) ≡ Some file
named_first name file files is = ap (λ b. cond b (Some file) (file_named name files)) is

named_other : (name : List ℕ) (file : HeldFile) (files : List HeldFile) → has_name name file ≡ false → file_named name (file ∷ files) ≡ file_named name files
named_other name file files is = ap (λ b. cond b (Some file) (file_named name files)) is

-- a name that is free is the name of no file
abbrev IsNoneOf : List ℕ → List (List ℕ) → Type 0
IsNoneOf name names = (k : ℕ) (d : List ℕ) → k < length names → get_or names k d ≢ name

none_more : (name other : List ℕ) (names : List (List ℕ)) → other ≢ name → IsNoneOf name names → IsNoneOf name (other ∷ names)
none_more name other names differs none zero d lt = differs
none_more name other names differs none (suc k) d lt = none k d (omega arith)

some_is_not_none : (name : List ℕ) (file : HeldFile) (files : List HeldFile) → has_name name file ≡ true → file_named name (file ∷ files) ≡ None → ⊥
some_is_not_none name file files is free = let e : Some file ≡ None = sym (named_first name file files is) ∙ free in cc

none_among : (name : List ℕ) (files : List HeldFile) → file_named name files ≡ None → IsNoneOf name (names_held files)
none_among name [] free = λ k d lt. absurd (omega arith)
none_among name (file ∷ files) free =
    ⊎_elim (λ is. absurd (some_is_not_none name file files is free))
    (λ is. none_more name file.name (names_held files) (λ same. false≢true (sym is ∙ (bytes_eq-Decides file.name name).1 same))
    (none_among name files (sym (named_other name file files is) ∙ free)))
    (cases_Bool (has_name name file))

free_name : (name : List ℕ) (files : List HeldFile) → IsNoneOf name (names_held files) → file_named name files ≡ None
free_name name [] none = refl
free_name name (file ∷ files) none =
    ⊎_elim (λ is. absurd (none 0 name (omega arith) (same_name file.name name is)))
    (λ is. named_other name file files is ∙ free_name name files (λ k d lt. none (suc k) d (omega arith)))
    (cases_Bool (has_name name file))

pub is_free : (name : List ℕ) (files : List HeldFile) (found : Bool) → found ≡ is_some (file_named name files) → found ≡ false → file_named name files ≡ None
is_free name files found is not_found = none_from (file_named name files) (sym is ∙ not_found)
  where
    none_from : (o : Option HeldFile) → is_some o ≡ false → o ≡ None
    none_from None e = refl
    none_from (Some file) e = absurd (false≢true (sym e))

-- ---- files apart

first_free : (file : HeldFile) (files : List HeldFile) → AreApart (file ∷ files) → file_named file.name files ≡ None
first_free file files apart = free_name file.name files (λ k d lt e. apart 0 (suc k) d (omega arith) (omega arith) (sym e))

apart_rest : (file : HeldFile) (files : List HeldFile) → AreApart (file ∷ files) → AreApart files
apart_rest file files apart = λ i j d lt le. apart (suc i) (suc j) d (omega arith) (omega arith)

apart_more : (name : List ℕ) (names : List (List ℕ)) → IsNoneOf name names → AllPairs ◌≢◌ names → AllPairs ◌≢◌ (name ∷ names)
apart_more name names none apart zero zero d lt le = absurd (omega arith)
apart_more name names none apart zero (suc j) d lt le = λ e. none j d (omega arith) (sym e)
apart_more name names none apart (suc i) zero d lt le = absurd (omega arith)
apart_more name names none apart (suc i) (suc j) d lt le = apart i j d (omega arith) (omega arith)

-- ---- a file more, of a name that is free

apart_push : (files : List HeldFile) (file : HeldFile) → AreApart files → file_named file.name files ≡ None → AreApart (files ++ file ∷ [])
apart_push files file apart free =
    subst (AllPairs ◌≢◌) (sym (map-append (λ f. f.name) files (file ∷ []))) (all_pairs_push ◌≢◌ (names_held files) file.name apart (none_among file.name files free))

named_push : (files : List HeldFile) (file : HeldFile) (name : List ℕ) → file_named name (files ++ file ∷ []) ≡ option_or (file_named name files) (file_named name (file ∷ []))
named_push files file name = find-append (has_name name) files (file ∷ [])

or_none : {A : Type 0} (o : Option A) → option_or o None ≡ o
or_none None = refl
or_none (Some x) = refl

other_push : (files : List HeldFile) (file : HeldFile) (name : List ℕ) → bytes_eq file.name name ≡ false → file_named name (files ++ file ∷ []) ≡ file_named name files
other_push files file name is = named_push files file name ∙ ap (option_or (file_named name files)) (named_other name file [] is) ∙ or_none (file_named name files)

new_push : (files : List HeldFile) (file : HeldFile) → file_named file.name files ≡ None → file_named file.name (files ++ file ∷ []) ≡ Some file
new_push files file free =
    named_push files file file.name ∙ ap (λ o. option_or o (file_named file.name (file ∷ []))) free ∙ named_first file.name file [] (is_itself file.name)

octets_or : (o : Option HeldFile) (b : Bool) (file : HeldFile) → option_map (λ f. f.octets) (option_or o (cond b (Some file) None)) ≡ option_or (option_map (λ f. f.octets) o) (cond b (Some file.octets) None)
octets_or None true file = refl
octets_or None false file = refl
octets_or (Some f) b file = refl

image_push : (files : List HeldFile) (file : HeldFile) → AreSame (image_of (files ++ file ∷ [])) (with_files (image_of files) (record { name = file.name; octets = file.octets } ∷ []))
image_push files file name = ap (option_map (λ f. f.octets)) (named_push files file name) ∙ octets_or (file_named name files) (bytes_eq file.name name) file

-- nothing is there under a free name
none_there : (files : List HeldFile) (one name : List ℕ) (left : Image) → file_named one files ≡ None → bytes_eq one name ≡ true → left name ≡ None → MayLeaveFile (file_named name files) (left name)
none_there files one name left free is none = subst (λ o. MayLeaveFile o (left name)) (sym (ap (λ n. file_named n files) (sym (same_name one name is)) ∙ free)) none

other_there : (files : List HeldFile) (file : HeldFile) (name : List ℕ) (left : Option (List ℕ)) → bytes_eq file.name name ≡ false → MayLeaveFile (file_named name (files ++ file ∷ [])) left → MayLeaveFile (file_named name files) left
other_there files file name left is may = subst (λ o. MayLeaveFile o left) (other_push files file name is) may

may_publish : (files : List HeldFile) (file : HeldFile) (temporary : Temporary) → file_named file.name files ≡ None → file.octets ≡ temporary.octets → file.is_synced ≡ temporary.is_synced
    → MayBePublished temporary file.name (MayLeave files) (MayLeave (files ++ file ∷ []))
may_publish files file temporary free octets synced left may = by_left (left file.name) refl
  where
    without : Image
    without name = cond (bytes_eq file.name name) None (left name)

    none_named : left file.name ≡ None → (name : List ℕ) → bytes_eq file.name name ≡ true → left name ≡ None
    none_named none name is = ap left (sym (same_name file.name name is)) ∙ none

    by_left : (l : Option (List ℕ)) → left file.name ≡ l → (earlier : Image) × MayLeave files earlier
        × (AreSame left earlier ⊎ ((octets : List ℕ) × (temporary.is_synced ≡ true → octets ≡ temporary.octets) × AreSame left (with_files earlier (record { name = file.name; octets = octets } ∷ []))))
    by_left None none =
        (left, (λ name. ⊎_elim (λ is. none_there files file.name name left free is (none_named none name is)) (λ is. other_there files file name (left name) is (may name)) (cases_Bool (bytes_eq file.name name))), inl (λ name. refl))
    by_left (Some x) some = (
      without,
      (λ name. ⊎_elim (λ is. none_there files file.name name without free is (ap (λ b. cond b None (left name)) is))
          (λ is. subst (MayLeaveFile (file_named name files)) (sym (ap (λ b. cond b None (left name)) is)) (other_there files file name (left name) is (may name)))
          (cases_Bool (bytes_eq file.name name))),
      inr (
        x,
        (λ s. (let h : MayLeaveFile (Some file) (Some x) = subst (MayLeaveFile (Some file)) some (subst (λ o. MayLeaveFile o (left file.name)) (new_push files file free) (may file.name)) in h (synced ∙ s)) ∙ octets),
        (λ name. ⊎_elim (λ is. ap left (sym (same_name file.name name is)) ∙ some ∙ sym (ap (λ b. option_or (cond b None (left name)) (cond b (Some x) None)) is))
            (λ is. sym (or_none (left name)) ∙ sym (ap (λ b. option_or (cond b None (left name)) (cond b (Some x) None)) is))
            (cases_Bool (bytes_eq file.name name))),
      ),
    )

-- the same of a list that is the files and one more
pub apart_pushed : (old new : List HeldFile) (file : HeldFile) (name : List ℕ) → new ≡ old ++ file ∷ [] → file.name ≡ name → file_named name old ≡ None → AreApart old → AreApart new
apart_pushed old new file name is named free apart = subst AreApart (sym is) (apart_push old file apart (ap (λ n. file_named n old) named ∙ free))

-- one that may have been added
pub apart_either : (old new : List HeldFile) (file : HeldFile) (name : List ℕ) (added : Bool) → new ≡ cond added (old ++ file ∷ []) old → file.name ≡ name → file_named name old ≡ None → AreApart old → AreApart new
apart_either old new file name true is named free apart = apart_pushed old new file name is named free apart
apart_either old new file name false is named free apart = subst AreApart (sym is) apart

pub image_pushed : (old new : List HeldFile) (file : HeldFile) (name octets : List ℕ) → new ≡ old ++ file ∷ [] → file.name ≡ name → file.octets ≡ octets → AreSame (image_of new) (with_files (image_of old) (record { name = name; octets = octets } ∷ []))
image_pushed old new file name octets is named has =
    subst (λ l. AreSame (image_of l) (with_files (image_of old) (record { name = name; octets = octets } ∷ []))) (sym is)
    (subst (λ n. AreSame (image_of (old ++ file ∷ [])) (with_files (image_of old) (record { name = n; octets = octets } ∷ []))) named
    (subst (λ o. AreSame (image_of (old ++ file ∷ [])) (with_files (image_of old) (record { name = file.name; octets = o } ∷ []))) has (image_push old file)))

pub named_pushed : (old new : List HeldFile) (file given : HeldFile) → new ≡ old ++ file ∷ [] → file ≡ given → (name : List ℕ) → file_named name new ≡ option_or (file_named name old) (file_named name (given ∷ []))
named_pushed old new file given is has name = ap (file_named name) is ∙ named_push old file name ∙ ap (λ f. option_or (file_named name old) (file_named name (f ∷ []))) has

pub published : (old new : List HeldFile) (file : HeldFile) (name : List ℕ) (temporary : Temporary) → new ≡ old ++ file ∷ [] → file ≡ record { name = name; octets = temporary.octets; is_synced = temporary.is_synced; is_name_synced = false }
    → file_named name old ≡ None → IsPublished (image_of old) (image_of new) name temporary
published old new file name temporary is given free =
    record { free = ap (option_map (λ f. f.octets)) free; added = image_pushed old new file name temporary.octets is (ap (λ f. f.name) given) (ap (λ f. f.octets) given) }

pub may_published : (old new : List HeldFile) (file : HeldFile) (name : List ℕ) (temporary : Temporary) → new ≡ old ++ file ∷ [] → file ≡ record { name = name; octets = temporary.octets; is_synced = temporary.is_synced; is_name_synced = false }
    → file_named name old ≡ None → MayBePublished temporary name (MayLeave old) (MayLeave new)
may_published old new file name temporary is given free =
    subst (λ l. MayBePublished temporary name (MayLeave old) (MayLeave l)) (sym (is ∙ ap (λ f. old ++ f ∷ []) given))
    (may_publish old (record { name = name; octets = temporary.octets; is_synced = temporary.is_synced; is_name_synced = false }) temporary free refl refl)

-- nothing was published
pub may_stay : (temporary : Temporary) (name : List ℕ) (files : List HeldFile) → MayBePublished temporary name (MayLeave files) (MayLeave files)
may_stay temporary name files left may = (left, may, inl (λ n. refl))

-- ---- each file changed, and no name

cond_map : {A B : Type 0} (g : A → B) (b : Bool) (x : A) (o : Option A) → cond b (Some (g x)) (option_map g o) ≡ option_map g (cond b (Some x) o)
cond_map g true x o = refl
cond_map g false x o = refl

named_map : (g : HeldFile → HeldFile) (name : List ℕ) → ((file : HeldFile) → has_name name (g file) ≡ has_name name file) → (files : List HeldFile) → file_named name (map g files) ≡ option_map g (file_named name files)
named_map g name same [] = refl
named_map g name same (file ∷ files) =
    ap (λ b. cond b (Some (g file)) (file_named name (map g files))) (same file) ∙ ap (cond (has_name name file) (Some (g file))) (named_map g name same files) ∙ cond_map g (has_name name file) file (file_named name files)

-- ---- the folder is synced

names_same : (files : List HeldFile) → names_held (map with_name_synced files) ≡ names_held files
names_same [] = refl
names_same (file ∷ files) = ap (λ names. file.name ∷ names) (names_same files)

apart_synced : (files : List HeldFile) → AreApart files → AreApart (map with_name_synced files)
apart_synced files apart = subst (AllPairs ◌≢◌) (sym (names_same files)) apart

octets_same : (o : Option HeldFile) → option_map (λ f. f.octets) (option_map with_name_synced o) ≡ option_map (λ f. f.octets) o
octets_same None = refl
octets_same (Some file) = refl

same_under : (files : List HeldFile) (name : List ℕ) → image_of (map with_name_synced files) name ≡ image_of files name
same_under files name = ap (option_map (λ f. f.octets)) (named_map with_name_synced name (λ f. refl) files) ∙ octets_same (file_named name files)

image_synced : (files : List HeldFile) → image_of (map with_name_synced files) ≡ image_of files
image_synced files = λ i name. same_under files name i

left_synced : (o : Option HeldFile) (l : Option (List ℕ)) → MayLeaveFile (option_map with_name_synced o) l → MayLeaveFile o l × (l ≡ None → option_map (λ f. f.octets) o ≡ None)
left_synced None l may = (may, λ e. refl)
left_synced (Some file) None may = absurd (cc)
left_synced (Some file) (Some octets) may = (may, λ e. absurd (cc))

may_synced : (files : List HeldFile) → AreNamesSynced (image_of files) (MayLeave files) (MayLeave (map with_name_synced files))
may_synced files left may = (λ name. (at name).0, λ name. (at name).1)
  where
    at : (name : List ℕ) → MayLeaveFile (file_named name files) (left name) × (left name ≡ None → image_of files name ≡ None)
    at name = left_synced (file_named name files) (left name) (subst (λ o. MayLeaveFile o (left name)) (named_map with_name_synced name (λ f. refl) files) (may name))

-- the same of a list that is the files with their names synced
pub apart_is_synced : (old new : List HeldFile) → new ≡ map with_name_synced old → AreApart old → AreApart new
apart_is_synced old new is apart = subst AreApart (sym is) (apart_synced old apart)

pub image_is_synced : (old new : List HeldFile) → new ≡ map with_name_synced old → image_of new ≡ image_of old
image_is_synced old new is = ap image_of is ∙ image_synced old

pub may_is_synced : (old new : List HeldFile) → new ≡ map with_name_synced old → AreNamesSynced (image_of old) (MayLeave old) (MayLeave new)
may_is_synced old new is = subst (λ l. AreNamesSynced (image_of old) (MayLeave old) (MayLeave l)) (sym is) (may_synced old)

pub may_still : (old new : List HeldFile) → new ≡ map with_name_synced old → (left : Image) → MayLeave new left → MayLeave old left
may_still old new is left may = (may_is_synced old new is left may).0

-- ---- a stop

-- the file if it passes
abbrev if_left : (HeldFile → Bool) → Option HeldFile → Option HeldFile
if_left test None = None
if_left test (Some file) = cond (test file) (Some file) None

filter_yes : (test : HeldFile → Bool) (file : HeldFile) (files : List HeldFile) → test file ≡ true → filter test (file ∷ files) ≡ file ∷ filter test files
filter_yes test file files is = ap (λ b. cond b (file ∷ filter test files) (filter test files)) is

filter_no : (test : HeldFile → Bool) (file : HeldFile) (files : List HeldFile) → test file ≡ false → filter test (file ∷ files) ≡ filter test files
filter_no test file files is = ap (λ b. cond b (file ∷ filter test files) (filter test files)) is

none_filtered : (test : HeldFile → Bool) (name : List ℕ) (files : List HeldFile) → file_named name files ≡ None → file_named name (filter test files) ≡ None
none_filtered test name [] free = refl
none_filtered test name (file ∷ files) free =
    ⊎_elim (λ is. absurd (some_is_not_none name file files is free))
    (λ is. let rest = none_filtered test name files (sym (named_other name file files is) ∙ free) in
    ⊎_elim (λ stays. ap (file_named name) (filter_yes test file files stays) ∙ named_other name file (filter test files) is ∙ rest)
    (λ goes. ap (file_named name) (filter_no test file files goes) ∙ rest) (cases_Bool (test file)))
    (cases_Bool (has_name name file))

named_filtered : (test : HeldFile → Bool) (name : List ℕ) (files : List HeldFile) → AreApart files → file_named name (filter test files) ≡ if_left test (file_named name files)
named_filtered test name [] apart = refl
named_filtered test name (file ∷ files) apart =
    let rest = named_filtered test name files (apart_rest file files apart) in
    ⊎_elim
    (λ stays. ap (file_named name) (filter_yes test file files stays)
    ∙ ⊎_elim (λ is. named_first name file (filter test files) is ∙ sym (ap (λ b. cond b (Some file) None) stays) ∙ sym (ap (if_left test) (named_first name file files is)))
    (λ is. named_other name file (filter test files) is ∙ rest ∙ sym (ap (if_left test) (named_other name file files is))) (cases_Bool (has_name name file)))
    (λ goes. ap (file_named name) (filter_no test file files goes)
    ∙ ⊎_elim (λ is. none_filtered test name files (ap (λ n. file_named n files) (sym (same_name file.name name is)) ∙ first_free file files apart)
    ∙ sym (ap (λ b. cond b (Some file) None) goes) ∙ sym (ap (if_left test) (named_first name file files is)))
    (λ is. rest ∙ sym (ap (if_left test) (named_other name file files is))) (cases_Bool (has_name name file)))
    (cases_Bool (test file))

named_left : (lost : Bool) (torn : List ℕ) (files : List HeldFile) (name : List ℕ) → AreApart files → file_named name (files_left lost torn files) ≡ option_map (left_file torn) (if_left (is_left lost) (file_named name files))
named_left lost torn files name apart =
    named_map (left_file torn) name (λ f. refl) (filter (is_left lost) files) ∙ ap (option_map (left_file torn)) (named_filtered (is_left lost) name files apart)

octets_left : (lost : Bool) (torn : List ℕ) (o : Option HeldFile) → option_map (λ f. f.octets) (option_map (left_file torn) (if_left (is_left lost) o)) ≡ left_under lost torn o
octets_left lost torn None = refl
octets_left lost torn (Some file) = by_test (is_left lost file)
  where
    by_test : (b : Bool) → option_map (λ f. f.octets) (option_map (left_file torn) (cond b (Some file) None)) ≡ cond b (Some (left_file torn file).octets) None
    by_test true = refl
    by_test false = refl

pub image_left : (lost : Bool) (torn : List ℕ) (files : List HeldFile) → AreApart files → (name : List ℕ) → image_of (files_left lost torn files) name ≡ left_under lost torn (file_named name files)
image_left lost torn files apart name = ap (option_map (λ f. f.octets)) (named_left lost torn files name apart) ∙ octets_left lost torn (file_named name files)

may_be_under : (lost : Bool) (torn : List ℕ) (o : Option HeldFile) → MayLeaveFile o (left_under lost torn o)
may_be_under lost torn None = refl
may_be_under lost torn (Some file) = by_marks lost file.is_name_synced file.is_synced refl refl
  where
    by_marks : (l named synced : Bool) → file.is_name_synced ≡ named → file.is_synced ≡ synced → MayLeaveFile (Some file) (cond (not l || named) (Some (cond synced file.octets torn)) None)
    by_marks true true true n s = λ e. refl
    by_marks true true false n s = λ e. absurd (false≢true (sym s ∙ e))
    by_marks true false synced n s = n
    by_marks false named true n s = λ e. refl
    by_marks false named false n s = λ e. absurd (false≢true (sym s ∙ e))

pub may_be_left : (lost : Bool) (torn : List ℕ) (files : List HeldFile) → AreApart files → MayLeave files (image_of (files_left lost torn files))
may_be_left lost torn files apart name =
    subst (MayLeaveFile (file_named name files)) (sym (image_left lost torn files apart name)) (may_be_under lost torn (file_named name files))

only_under : (torn : List ℕ) (o : Option HeldFile) (l : Option (List ℕ)) → MayLeaveFile (option_map (left_file torn) o) l → l ≡ option_map (λ f. f.octets) (option_map (left_file torn) o)
only_under torn None l may = may
only_under torn (Some file) None may = absurd (cc)
only_under torn (Some file) (Some octets) may = ap Some (may refl)

-- what is left is on the disk
pub only_this : (lost : Bool) (torn : List ℕ) (files : List HeldFile) (image : Image) → MayLeave (files_left lost torn files) image → AreSame image (image_of (files_left lost torn files))
only_this lost torn files image may name =
    let e = named_map (left_file torn) name (λ f. refl) (filter (is_left lost) files) in
    only_under torn (file_named name (filter (is_left lost) files)) (image name) (subst (λ o. MayLeaveFile o (image name)) e (may name)) ∙ sym (ap (option_map (λ f. f.octets)) e)

none_left : (lost : Bool) (torn : List ℕ) (name : List ℕ) (files : List HeldFile) → file_named name files ≡ None → file_named name (files_left lost torn files) ≡ None
none_left lost torn name files free =
    named_map (left_file torn) name (λ f. refl) (filter (is_left lost) files) ∙ ap (option_map (left_file torn)) (none_filtered (is_left lost) name files free)

pub apart_left : (lost : Bool) (torn : List ℕ) (files : List HeldFile) → AreApart files → AreApart (files_left lost torn files)
apart_left lost torn [] apart = apart
apart_left lost torn (file ∷ files) apart =
    let rest = apart_left lost torn files (apart_rest file files apart) in
    ⊎_elim (λ stays. subst (λ l. AreApart (map (left_file torn) l)) (sym (filter_yes (is_left lost) file files stays))
    (apart_more file.name (names_held (files_left lost torn files)) (none_among file.name (files_left lost torn files) (none_left lost torn file.name files (first_free file files apart))) rest))
    (λ goes. subst (λ l. AreApart (map (left_file torn) l)) (sym (filter_no (is_left lost) file files goes)) rest)
    (cases_Bool (is_left lost file))

-- ---- all names

name_stands : (files : List HeldFile) (name octets : List ℕ) → image_of files name ≡ Some octets → Contains (names_held files) name
name_stands [] name octets some = absurd (cc)
name_stands (file ∷ files) name octets some =
    ⊎_elim (λ is. (0, omega arith, same_name file.name name is))
    (λ is. Contains-append_right (file.name ∷ []) (names_held files) name (name_stands files name octets (sym (ap (option_map (λ f. f.octets)) (named_other name file files is)) ∙ some)))
    (cases_Bool (has_name name file))

stands_under : (files : List HeldFile) (name : List ℕ) → Contains (names_held files) name → (o : Option HeldFile) → file_named name files ≡ o → (octets : List ℕ) × (image_of files name ≡ Some octets)
stands_under files name (k, lt, is) None free = absurd (none_among name files free k name lt is)
stands_under files name stands (Some file) found = (file.octets, ap (option_map (λ f. f.octets)) found)

pub all_names : (files : List HeldFile) → AreApart files → AreNames (image_of files) (names_held files)
all_names files apart = record {
  each = λ name stands. stands_under files name stands (file_named name files) refl;
  all = name_stands files;
  once = apart;
}
