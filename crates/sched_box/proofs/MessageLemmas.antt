-- The messages of an inbox, of which the names are known.
use Rattle.std.proofs.Common.{◌≡◌, ◌∙◌, ◌⊎◌, inl, inr, ℕ, ℤ, ◌<◌, Global, List, [], ◌∷◌, ◌++◌, length, get_or, take, map, codes, Contains, Some, String, string_bytes, sym, ap, subst, arith}
use Rattle.std.proofs.Math.Seq.{take-append_seam, get_or-append_seam}
use Rattle.std.proofs.lemmas.List.{get_or_append_left, length-append, map-append}
use Rattle.std.proofs.lemmas.List.Elements.{Contains-append_left, Contains-get_or, Contains-push, Contains-push_cases}
use Rattle.std.proofs.lemmas.List.Quantifiers.{all_pairs_push}
use Rattle.std.specs.Option.{unwrap_or}
use Rattle.std.specs.declared.cmp.Ordering.TheVariants.{Less, Equal}
use Rattle.profile.specs.rooms.Revisions.{octets_cmp}
use Rattle.profile.specs.streams.Folders.{AreMessageFiles, AreNames, Image, IsInboxName, IsMessageFile, MessageFile, inbox_name}
use Rattle.sched_box.specs.FileNames.{IsNamed, IsNoName, name_stem}
use Rattle.sched_box.specs.Running.{AreApart, AreRising, file_of}
use Rattle.sched_box.specs.declared.file_names.MessageName.{MessageName}
use Rattle.cal_events.proofs.shared_lemmas.InOneOrder.{in_mapped, of_mapped}
use Rattle.sched_box.proofs.NameOrder.{pairs_mapped, pairs_of_mapped, same_cmp}

abbrev pub name_of : MessageName → List ℕ
name_of file = string_bytes file.name

abbrev pub names_of : List (String Global) → List (List ℕ)
names_of names = map string_bytes names

-- ---- the names so far

-- the messages among them, in their order
pub record ReadSofar (names : List (String Global)) (files : List MessageName) : Type 0 where
  pub each : (file : MessageName) → Contains files file → IsNamed (name_of file) file.moment × Contains (names_of names) (name_of file)
  pub all : (name : List ℕ) → Contains (names_of names) name → (stem : List ℕ) (moment : ℤ) → IsInboxName name stem moment
      → (file : MessageName) × Contains files file × (name_of file ≡ name)
  pub rising : AreRising (names_of names) → AreRising (map name_of files)

pub none_read : (names : List (String Global)) (files : List MessageName) → names ≡ [] → files ≡ [] → ReadSofar names files
none_read names files no_names no_files = subst (λ n. ReadSofar n files) (sym no_names) (subst (ReadSofar []) (sym no_files) none)
  where
    none : ReadSofar [] []
    none = record {
      each = λ file (k, l, is). absurd (omega arith);
      all = λ name (k, l, is). absurd (omega arith);
      rising = λ up i j d less within. absurd (omega arith);
    }

-- the names so far and one more
pushed : (names : List (String Global)) (name : String Global) → names_of (names ++ name ∷ []) ≡ names_of names ++ string_bytes name ∷ []
pushed names name = map-append string_bytes names (name ∷ [])

fewer : (names : List (String Global)) (name : String Global) → AreRising (names_of (names ++ name ∷ [])) → AreRising (names_of names)
fewer names name up i j d less within =
    let all : AreRising (names_of names ++ string_bytes name ∷ []) = subst AreRising (pushed names name) up in
    let front = get_or_append_left (names_of names) (string_bytes name ∷ []) d in
    let P : List ℕ → Type 0 = λ a. octets_cmp a (get_or (names_of names) j d) ≡ Less in
    let Q : List ℕ → Type 0 = λ b. octets_cmp (get_or (names_of names ++ string_bytes name ∷ []) i d) b ≡ Less in
    subst P (front i (omega arith)) (subst Q (front j within) (all i j d less (omega (arith, length-append (names_of names) (string_bytes name ∷ [])))))

-- an earlier name is before the last
last_is_greatest : (names : List (String Global)) (name : String Global) → AreRising (names_of (names ++ name ∷ [])) → (a : List ℕ) → Contains (names_of names) a → octets_cmp a (string_bytes name) ≡ Less
last_is_greatest names name up a (k, within, is) =
    let all : AreRising (names_of names ++ string_bytes name ∷ []) = subst AreRising (pushed names name) up in
    let front : get_or (names_of names ++ string_bytes name ∷ []) k a ≡ a = get_or_append_left (names_of names) (string_bytes name ∷ []) a k within ∙ is in
    let back : get_or (names_of names ++ string_bytes name ∷ []) (length (names_of names)) a ≡ string_bytes name = get_or-append_seam (names_of names) (string_bytes name) [] a in
    let P : List ℕ → Type 0 = λ x. octets_cmp x (string_bytes name) ≡ Less in
    let Q : List ℕ → Type 0 = λ y. octets_cmp (get_or (names_of names ++ string_bytes name ∷ []) k a) y ≡ Less in
    subst P front (subst Q back (all k (length (names_of names)) a within (omega (arith, length-append (names_of names) (string_bytes name ∷ [])))))

earlier : (names : List (String Global)) (name : String Global) (a : List ℕ) → Contains (names_of names) a → Contains (names_of (names ++ name ∷ [])) a
earlier names name a among = let P : List (List ℕ) → Type 0 = λ l. Contains l a in subst P (sym (pushed names name)) (Contains-append_left (names_of names) (string_bytes name ∷ []) a among)

-- a name that isn't a message's
pub read_none : (names : List (String Global)) (name : String Global) (files : List MessageName) → ReadSofar names files → IsNoName (string_bytes name) → ReadSofar (names ++ name ∷ []) files
read_none names name files so none = record {
  each = λ file among. let (named, there) = so.each file among in (named, earlier names name (name_of file) there);
  all = λ other among stem moment is. at other stem moment is (Contains-push_cases (names_of names) (string_bytes name) other (let P : List (List ℕ) → Type 0 = λ l. Contains l other in subst P (pushed names name) among));
  rising = λ up. so.rising (fewer names name up);
}
  where
    at : (other stem : List ℕ) (moment : ℤ) → IsInboxName other stem moment → Contains (names_of names) other ⊎ (string_bytes name ≡ other) → (file : MessageName) × Contains files file × (name_of file ≡ other)
    at other stem moment is (inl among) = so.all other among stem moment is
    at other stem moment is (inr same) = let P : List ℕ → Type 0 = λ z. IsInboxName z stem moment in absurd (none stem moment (subst P (sym same) is))

-- a name of a message
pub read_more : (names : List (String Global)) (name : String Global) (files : List MessageName) (file : MessageName) → ReadSofar names files → name_of file ≡ string_bytes name → IsNamed (string_bytes name) file.moment
    → ReadSofar (names ++ name ∷ []) (files ++ file ∷ [])
read_more names name files file so same named = record {
  each = λ other among. each other (Contains-push_cases files file other among);
  all = λ other among stem moment is. at other stem moment is (Contains-push_cases (names_of names) (string_bytes name) other (let P : List (List ℕ) → Type 0 = λ l. Contains l other in subst P (pushed names name) among));
  rising = λ up.
      let before = so.rising (fewer names name up) in
      let below : (k : ℕ) (d : List ℕ) → k < length (map name_of files) → octets_cmp (get_or (map name_of files) k d) (name_of file) ≡ Less = λ k d within.
      let (f, among, is) = of_mapped name_of files (get_or (map name_of files) k d) (Contains-get_or (map name_of files) k d within) in
      let P : List ℕ → Type 0 = λ x. octets_cmp x (name_of file) ≡ Less in
      let Q : List ℕ → Type 0 = λ y. octets_cmp (name_of f) y ≡ Less in
      subst P is (subst Q (sym same) (last_is_greatest names name up (name_of f) (so.each f among).1)) in
      subst AreRising (sym (map-append name_of files (file ∷ []))) (all_pairs_push (λ a b. octets_cmp a b ≡ Less) (map name_of files) (name_of file) before below);
}
  where
    here : Contains (names_of (names ++ name ∷ [])) (string_bytes name)
    here = let P : List (List ℕ) → Type 0 = λ l. Contains l (string_bytes name) in subst P (sym (pushed names name)) (Contains-push (names_of names) (string_bytes name))

    each : (other : MessageName) → Contains files other ⊎ (file ≡ other) → IsNamed (name_of other) other.moment × Contains (names_of (names ++ name ∷ [])) (name_of other)
    each other (inl among) = let (is, there) = so.each other among in (is, earlier names name (name_of other) there)
    each other (inr e) =
        let P : List ℕ → Type 0 = λ z. IsNamed z file.moment × Contains (names_of (names ++ name ∷ [])) z in
        let Q : MessageName → Type 0 = λ f. IsNamed (name_of f) f.moment × Contains (names_of (names ++ name ∷ [])) (name_of f) in
        subst Q e (subst P (sym same) (named, here))

    at : (other stem : List ℕ) (moment : ℤ) → IsInboxName other stem moment → Contains (names_of names) other ⊎ (string_bytes name ≡ other) → (f : MessageName) × Contains (files ++ file ∷ []) f × (name_of f ≡ other)
    at other stem moment is (inl among) = let (f, there, e) = so.all other among stem moment is in (f, Contains-append_left files (file ∷ []) f there, e)
    at other stem moment is (inr e) = (file, Contains-push files file, same ∙ e)

-- ---- all names

-- by its name, what stands before `.ics`
ends : (name : List ℕ) (moment : ℤ) → IsNamed name moment → name ≡ name_stem name ++ codes ".ics"
ends name moment named = named.is.name_is

front_of : (a b : List ℕ) → a ++ codes ".out" ≡ b ++ codes ".out" → a ≡ b
front_of a b e =
    let count : length a ≡ length b = omega (arith, ap length e, length-append a (codes ".out"), length-append b (codes ".out")) in
    sym (take-append_seam a (codes ".out")) ∙ ap (take (length a)) e ∙ ap (λ n. take n (b ++ codes ".out")) count ∙ take-append_seam b (codes ".out")

pub apart_from : (names : List (String Global)) (files : List MessageName) → ReadSofar names files → AreRising (names_of names) → AreApart files
apart_from names files so up i j d less within same =
    let f = get_or files i d in
    let g = get_or files j d in
    let (named_f, x) = so.each f (Contains-get_or files i d (omega arith)) in
    let (named_g, y) = so.each g (Contains-get_or files j d within) in
    let stems : name_stem (name_of f) ≡ name_stem (name_of g) = front_of (name_stem (name_of f)) (name_stem (name_of g)) same in
    let names_same : name_of f ≡ name_of g = ends (name_of f) f.moment named_f ∙ ap (λ z. z ++ codes ".ics") stems ∙ sym (ends (name_of g) g.moment named_g) in
    let before : octets_cmp (name_of f) (name_of g) ≡ Less = pairs_of_mapped name_of (λ a b. octets_cmp a b ≡ Less) files (so.rising up) i j d less within in
    let never : Equal ≡ Less = sym (same_cmp (name_of g)) ∙ sym (ap (λ z. octets_cmp z (name_of g)) names_same) ∙ before in
    cc

module _ (image : Image) (names : List (String Global)) (files : List MessageName) (so : ReadSofar names files) (up : AreRising (names_of names)) (are : AreNames image (names_of names)) where
  held : (file : MessageName) → Contains files file → IsMessageFile image (file_of image file)
  held file among =
      let (named, there) = so.each file among in
      let (octets, is) = are.each (name_of file) there in
      let same = ends (name_of file) file.moment named in
      let P : List ℕ → Type 0 = λ z. IsInboxName z (name_stem (name_of file)) file.moment in (
        subst P same named.is,
        ap image (sym same) ∙ is ∙ sym (ap (λ o. Some (unwrap_or o [])) is),
      )

  same_file : (file : MessageFile) (message : MessageName) → IsMessageFile image file → IsNamed (name_of message) message.moment → name_of message ≡ inbox_name file → file_of image message ≡ file
  same_file file message (is, at) named e =
      let P : List ℕ → Type 0 = λ z. IsInboxName z file.stem file.moment in
      let (stem, moment) = named.alone file.stem file.moment (subst P (sym e) is) in
      let octets : unwrap_or (image (name_of message)) [] ≡ file.octets = ap (λ o. unwrap_or o []) (ap image e ∙ at) in
      λ i. record { stem = sym stem i; moment = sym moment i; octets = octets i }

  pub messages_are : AreMessageFiles image (map (file_of image) files)
  messages_are = record {
    each = λ file among.
        let (message, there, is) = of_mapped (file_of image) files file among in
        subst (IsMessageFile image) is (held message there);
    all = λ file (is, at).
        let (message, there, e) = so.all (inbox_name file) (are.all (inbox_name file) file.octets at) file.stem file.moment is in
        let P : MessageFile → Type 0 = λ f. Contains (map (file_of image) files) f in
        subst P (same_file file message (is, at) (so.each message there).0 e) (in_mapped (file_of image) files message there);
    rising = pairs_mapped (file_of image) (λ a b. octets_cmp (inbox_name a) (inbox_name b) ≡ Less) files (λ i j d less within.
        let f = get_or files i d in
        let g = get_or files j d in
        let before : octets_cmp (name_of f) (name_of g) ≡ Less = pairs_of_mapped name_of (λ a b. octets_cmp a b ≡ Less) files (so.rising up) i j d less within in
        let P : List ℕ → Type 0 = λ x. octets_cmp x (inbox_name (file_of image g)) ≡ Less in
        let Q : List ℕ → Type 0 = λ y. octets_cmp (name_of f) y ≡ Less in
        subst P (ends (name_of f) f.moment (so.each f (Contains-get_or files i d (omega arith))).0) (subst Q (ends (name_of g) g.moment (so.each g (Contains-get_or files j d within)).0) before));
  }
