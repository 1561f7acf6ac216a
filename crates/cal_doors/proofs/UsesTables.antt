-- The table of the zones that times name grows line by line, and VEVENT by VEVENT.
use Rattle.std.proofs.Common.{◌≡◌, ◌∙◌, ℕ, ◌⊎◌, inl, inr, Bool, true, false, cond, List, [], ◌∷◌, ◌++◌, codes, sym, refl, ap, subst, arith, ℤ, ◌≤ℤ◌}
use Rattle.std.specs.Prelude.{Contains, Some, None, String, string_bytes}
use Rattle.std.specs.Str.{bytes_eq}
use Rattle.std.proofs.lemmas.Int.{ints}
use Rattle.std.proofs.lemmas.Bool.{true≢false}
use Rattle.std.proofs.lemmas.Option.{none-some, same_Some}
use Rattle.std.proofs.lemmas.Slice.Eq.{bytes_eq-Decides}
use Rattle.std.proofs.lemmas.List.Elements.{Contains-push_cases, Contains-append_left, Contains-push}
use Rattle.indexmap.specs.IndexMap.{insert_entry}
use Rattle.profile.specs.text.Lines.{line_param}
use Rattle.profile.specs.events.Properties.{is_of}
use Rattle.profile.specs.doors.Uses.{is_time_line, SaysLocal, IsLineIn, LastsDays, EventEndsBy}
use Rattle.cal_doors.specs.declared.uses.Use.{Use}
use Rattle.cal_doors.specs.Used.{held, CoversEvent, AreUsesOf, AreUsesWith, IsAsWide, IsWidened, AddsUsesOf, AllBeginBy}
use Rattle.cal_doors.specs.Used.AddsUsesOf.{names_none, names_one}
use Rattle.cal_doors.proofs.UsesScans.{none_in, of_filtered}
use Rattle.cal_doors.proofs.UsesLines.{through, event_later}

-- ---- which is as wide

pub as_wide_itself : (u : Use) → IsAsWide u u
as_wide_itself u = record { first = omega (arith, ints); last = λ end is. (end, is, omega (arith, ints)) }

pub as_wide_through : (u v w : Use) → IsAsWide u v → IsAsWide v w → IsAsWide u w
as_wide_through u v w a b = record {
  first = through w.first v.first u.first b.first a.first;
  last = λ end is. let m = b.last end is in let n = a.last m.0 m.1 in (n.0, n.1, through n.0 m.0 end n.2 m.2);
}

-- ---- a VEVENT

wide_enough : (u w : Use) (name : List ℕ) (lines : List (List ℕ)) → IsAsWide u w → CoversEvent name lines u → CoversEvent name lines w
wide_enough u w name lines wide c = record {
  from_first = record {
    times = λ line local is s. through w.first u.first local wide.first (c.from_first.times line local is s);
    until = λ line rule local is s e. through w.first u.first local wide.first (c.from_first.until line rule local is s e);
    local_days = λ d line local is t s. let m = c.from_first.local_days d line local is t s in let le = wide.first in omega (arith, ints, m, le);
    utc_days = λ d line instant is t s. through w.first u.first instant wide.first (c.from_first.utc_days d line instant is t s);
  };
  to_last = λ end is. let e = wide.last end is in event_later lines e.0 end e.2 (c.to_last e.0 e.1);
}

-- a use that is as wide as the whole VEVENT, and as each line of it in the zone
covered : (whole w : Use) (name : List ℕ) (lines : List (List ℕ)) → AllBeginBy lines whole.first → ((end : ℤ) → whole.last ≡ Some end → EventEndsBy lines end) → IsAsWide whole w
    → ((line : List ℕ) (local : ℤ) → IsLineIn name lines line → SaysLocal line local → w.first ≤ℤ local) → CoversEvent name lines w
covered whole w name lines begins ends wide locals = record {
  from_first = record {
    times = locals;
    until = λ line rule local is s e.
        let f = of_filtered (is_of (codes "RRULE")) lines line is in
        through w.first whole.first local wide.first ((begins.each line f.0).until rule local f.1 s e);
    local_days = λ d line local is t s.
        let m = (begins.each line is).local_days (counts d) local t s in
        let le = wide.first in
        omega (arith, ints, m, le);
    utc_days = λ d line instant is t s. through w.first whole.first instant wide.first ((begins.each line is).utc_days (counts d) instant t s);
  };
  to_last = λ end is. let e = wide.last end is in event_later lines e.0 end e.2 (ends e.0 e.1);
}
  where
    go : (b : Bool) → begins.days ≡ b → LastsDays lines → begins.days ≡ true
    go true e d = e
    go false e d = absurd (begins.no_days e d)

    counts : LastsDays lines → begins.days ≡ true
    counts d = go begins.days refl d

-- ---- a use under a name

same_bytes : (a b : List ℕ) → bytes_eq a b ≡ true → a ≡ b
same_bytes a b h = (bytes_eq-Decides a b).0 h

eq_bytes : (a b : List ℕ) → a ≡ b → bytes_eq a b ≡ true
eq_bytes a b e = (bytes_eq-Decides a b).1 e

module _ {Y A : Type 0} where
  abbrev pub put : List (String Y × A) → String Y → A → List (String Y × A)
  put es k v = insert_entry (λ a b. bytes_eq (string_bytes a) (string_bytes b)) es k v

  -- under its own name
  pub held_put : (k : String Y) (v : A) (es : List (String Y × A)) → held (string_bytes k) (put es k v) ≡ Some v
  held_put k v [] = ap (λ b. cond b (Some v) None) (eq_bytes (string_bytes k) (string_bytes k) refl)
  held_put k v (e ∷ es) = go (bytes_eq (string_bytes k) (string_bytes e.0)) refl (held_put k v es)
    where
      go : (b : Bool) → bytes_eq (string_bytes k) (string_bytes e.0) ≡ b → held (string_bytes k) (put es k v) ≡ Some v
          → held (string_bytes k) (cond b ((e.0, v) ∷ es) (e ∷ put es k v)) ≡ Some v
      go true is h = ap (λ b. cond b (Some v) (held (string_bytes k) es)) is
      go false is h = ap (λ b. cond b (Some e.1) (held (string_bytes k) (put es k v))) is ∙ h

  -- under another
  pub held_beside : (other : List ℕ) (k : String Y) (v : A) (es : List (String Y × A)) → bytes_eq other (string_bytes k) ≡ false → held other (put es k v) ≡ held other es
  held_beside other k v [] apart = ap (λ b. cond b (Some v) None) apart
  held_beside other k v (e ∷ es) apart = go (bytes_eq (string_bytes k) (string_bytes e.0)) refl (held_beside other k v es apart)
    where
      go : (b : Bool) → bytes_eq (string_bytes k) (string_bytes e.0) ≡ b → held other (put es k v) ≡ held other es
          → held other (cond b ((e.0, v) ∷ es) (e ∷ put es k v)) ≡ held other (e ∷ es)
      go true is h =
          let no : bytes_eq other (string_bytes e.0) ≡ false = subst (λ n. bytes_eq other n ≡ false) (same_bytes (string_bytes k) (string_bytes e.0) is) apart in
          ap (λ b. cond b (Some v) (held other es)) no ∙ sym (ap (λ b. cond b (Some e.1) (held other es)) no)
      go false is h = ap (λ t. cond (bytes_eq other (string_bytes e.0)) (Some e.1) t) h

module _ {Y : Type 0} where
  -- the use that is put there is as wide as the new one, and as the one that was there
  pub widened : (name : List ℕ) (more both : Use) (k : String Y) (old new : List (String Y × Use)) → string_bytes k ≡ name → new ≡ put old k both
      → IsAsWide more both → ((u : Use) → held name old ≡ Some u → IsAsWide u both) → IsWidened name more old new
  widened name more both k old new is put_in wide kept = record {
    there = (both, at_name, wide);
    kept = λ other u h. go other u (bytes_eq other name) refl h;
    no_more = λ other u h. elim (either other (bytes_eq other name) refl) [ inl same ↦ inl same | inr apart ↦ inr (u, sym (beside other apart) ∙ h) ];
  }
    where
      at_name : held name new ≡ Some both
      at_name = ap (held name) put_in ∙ ap (λ n. held n (put old k both)) (sym is) ∙ held_put k both old

      beside : (other : List ℕ) → bytes_eq other name ≡ false → held other new ≡ held other old
      beside other apart = ap (held other) put_in ∙ held_beside other k both old (ap (bytes_eq other) is ∙ apart)

      either : (other : List ℕ) (b : Bool) → bytes_eq other name ≡ b → (other ≡ name) ⊎ (bytes_eq other name ≡ false)
      either other true e = inl (same_bytes other name e)
      either other false e = inr e

      go : (other : List ℕ) (u : Use) (b : Bool) → bytes_eq other name ≡ b → held other old ≡ Some u → (w : Use) × (held other new ≡ Some w) × IsAsWide u w
      go other u true e h =
          let same = same_bytes other name e in
          (both, subst (λ n. held n new ≡ Some both) (sym same) at_name, kept u (subst (λ n. held n old ≡ Some u) same h))
      go other u false e h = (u, beside other e ∙ h, as_wide_itself u)

  -- ---- the lines of a VEVENT so far

  pub record AreAdded (whole : Use) (old : List (String Y × Use)) (done : List (List ℕ)) (now : List (String Y × Use)) : Type 0 where
    pub kept : (name : List ℕ) (u : Use) → held name old ≡ Some u → (w : Use) × (held name now ≡ Some w) × IsAsWide u w
    pub there : (name line : List ℕ) → Contains done line → is_time_line line ≡ true → line_param (codes "TZID") line ≡ Some name
        → (w : Use) × (held name now ≡ Some w) × IsAsWide whole w × ((local : ℤ) → SaysLocal line local → w.first ≤ℤ local)
    pub no_more : (name : List ℕ) (u : Use) → held name now ≡ Some u
        → ((v : Use) × (held name old ≡ Some v)) ⊎ ((line : List ℕ) × Contains done line × (is_time_line line ≡ true) × (line_param (codes "TZID") line ≡ Some name))

  pub none_added : (whole : Use) (old : List (String Y × Use)) → AreAdded whole old [] old
  none_added whole old = record {
    kept = λ name u h. (u, h, as_wide_itself u);
    there = λ name line h. absurd (none_in line h);
    no_more = λ name u h. inl (u, h);
  }

  -- a line that says no times, or names no zone
  passed : (whole : Use) (old now : List (String Y × Use)) (done : List (List ℕ)) (line : List ℕ)
      → ((name : List ℕ) → is_time_line line ≡ true → line_param (codes "TZID") line ≡ Some name → ⊥) → AreAdded whole old done now → AreAdded whole old (done ++ line ∷ []) now
  passed whole old now done line none a = record {
    kept = a.kept;
    there = λ name l h times zone. elim (Contains-push_cases done line l h) [
      | inl earlier ↦ a.there name l earlier times zone
      | inr same ↦ absurd (none name (subst (λ x. is_time_line x ≡ true) (sym same) times) (subst (λ x. line_param (codes "TZID") x ≡ Some name) (sym same) zone))
    ];
    no_more = λ name u h. elim (a.no_more name u h) [ inl v ↦ inl v | inr l ↦ inr (l.0, Contains-append_left done (line ∷ []) l.0 l.1, l.2, l.3) ];
  }

  pub line_passed : (whole : Use) (old now : List (String Y × Use)) (done : List (List ℕ)) (line : List ℕ) → is_time_line line ≡ false
      → AreAdded whole old done now → AreAdded whole old (done ++ line ∷ []) now
  line_passed whole old now done line plain a = passed whole old now done line (λ name is. absurd (true≢false (sym is ∙ plain))) a

  pub line_added : (whole : Use) (old now next : List (String Y × Use)) (done : List (List ℕ)) (line : List ℕ) → is_time_line line ≡ true
      → AddsUsesOf line whole now next → AreAdded whole old done now → AreAdded whole old (done ++ line ∷ []) next
  line_added whole old now next done line times (names_none none same) a =
      subst (AreAdded whole old (done ++ line ∷ [])) (sym same) (passed whole old now done line (λ name is zone. absurd (none-some name (sym none ∙ zone))) a)
  line_added whole old now next done line times (names_one name more zone wide locals w) a = record {
    kept = λ other u h.
        let k = a.kept other u h in
        let n = w.kept other k.0 k.1 in
        (n.0, n.1, as_wide_through u k.0 n.0 k.2 n.2);
    there = λ other l h is in_zone. elim (Contains-push_cases done line l h) [
      | inl earlier ↦
          let k = a.there other l earlier is in_zone in
          let n = w.kept other k.0 k.1 in
          (n.0, n.1, as_wide_through whole k.0 n.0 k.2 n.2, λ local s. through n.0.first k.0.first local n.2.first (k.3 local s))
      | inr same ↦
          let t = w.there in
          let named : name ≡ other = same_Some name other (sym zone ∙ subst (λ x. line_param (codes "TZID") x ≡ Some other) (sym same) in_zone) in (
            t.0,
            subst (λ n. held n next ≡ Some t.0) named t.1,
            as_wide_through whole more t.0 wide t.2,
            λ local s. through t.0.first more.first local t.2.first (locals local (subst (λ x. SaysLocal x local) (sym same) s)),
          )
    ];
    no_more = λ other u h. elim (w.no_more other u h) [
      | inl same ↦ inr (line, Contains-push done line, times, subst (λ n. line_param (codes "TZID") line ≡ Some n) (sym same) zone)
      | inr narrow ↦ elim (a.no_more other narrow.0 narrow.1) [ inl v ↦ inl v | inr l ↦ inr (l.0, Contains-append_left done (line ∷ []) l.0 l.1, l.2, l.3) ]
    ];
  }

  pub event_added : (whole : Use) (old now : List (String Y × Use)) (lines : List (List ℕ)) → AllBeginBy lines whole.first
      → ((end : ℤ) → whole.last ≡ Some end → EventEndsBy lines end) → AreAdded whole old lines now → AreUsesWith lines old now
  event_added whole old now lines begins ends a = λ events u. record {
    covered = λ name ls line h is. elim (Contains-push_cases events lines ls h) [
      | inl earlier ↦
          let c = u.covered name ls line earlier is in
          let k = a.kept name c.0 c.1 in
          (k.0, k.1, wide_enough c.0 k.0 name ls k.2 c.2)
      | inr same ↦
          let here : IsLineIn name lines line = subst (λ x. IsLineIn name x line) (sym same) is in
          let t = a.there name line here.among here.says_times here.in_zone in
          (t.0, t.1, subst (λ x. CoversEvent name x t.0) same (covered whole t.0 name lines begins ends t.2 (each name t.0 t.1)))
    ];
    named = λ name w h. elim (a.no_more name w h) [
      | inl v ↦ let n = u.named name v.0 v.1 in (n.0, n.1, Contains-append_left events (lines ∷ []) n.0 n.2, n.3)
      | inr l ↦ (lines, l.0, Contains-push events lines, record { among = l.1; says_times = l.2; in_zone = l.3 })
    ];
  }
    where
      each : (name : List ℕ) (w : Use) → held name now ≡ Some w → (line : List ℕ) (local : ℤ) → IsLineIn name lines line → SaysLocal line local → w.first ≤ℤ local
      each name w h line local is s =
          let t = a.there name line is.among is.says_times is.in_zone in
          let same : t.0 ≡ w = same_Some t.0 w (sym t.1 ∙ h) in
          subst (λ x. x.first ≤ℤ local) same (t.3 local s)

  pub no_events : AreUsesOf {Y = Y} [] []
  no_events = record { covered = λ name lines line h. absurd (none_in lines h); named = λ name u h. absurd (none-some u h) }
