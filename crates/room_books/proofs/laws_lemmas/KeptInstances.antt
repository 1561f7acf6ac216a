-- Of the instances of a kept VEVENT those that nothing hides are what the kept calendar confirms of it.
-- Behind answers_stay, kept_texts_pass, kept_texts_spell, served_texts_pass.
use Rattle.std.proofs.Common.{◌≡◌, ◌∙◌, sym, ℕ, Bool, true, false, not, List, [], Some, arith}
use Rattle.std.specs.Prelude.{◌↔◌, Contains, filter}
use Rattle.std.proofs.lemmas.Bool.{and_parts, not_from_false, not-true, false_from_ne_true, true≢false}
use Rattle.std.proofs.lemmas.List.Elements.{All-nil, All-contains, Contains-get_or}
use Rattle.std.proofs.lemmas.List.Kept.{AllPairs-filter}
use Rattle.profile.specs.checker.Instances.{Instance}
use Rattle.profile.specs.events.EventComponents.{EventComponent}
use Rattle.profile.specs.events.Events.{Event, is_master}
use Rattle.profile.specs.events.Starts.{IsInstance, ComesBefore}
use Rattle.profile.specs.events.Confirmed.{alone, is_kept, AreApart, AreOfRule, AreSingles, IsInstanceAmong, IsOfSeries, IsReplacedAmong, IsSeries, IsSingle}
use Rattle.cal_events.proofs.shared_lemmas.InOneOrder.{in_filtered, of_filtered}
use Rattle.cal_events.proofs.shared_lemmas.SeriesLemmas.{in_its_series, of_its_series}

-- ---- those that nothing hides are confirmed among others

-- where what hides an instance of the event is what replaces it
pub record IsHiding (saids : List EventComponent) (said : EventComponent) (hidden : Instance → Bool) : Type 0 where
  pub replaced : (b : Instance) → IsInstance (alone said) b → hidden b ≡ true → IsReplacedAmong saids said b.start
  pub hides : (b : Instance) → IsInstance (alone said) b → is_master said ≡ true → IsReplacedAmong saids said b.start → hidden b ≡ true
  pub master : (b : Instance) → hidden b ≡ true → is_master said ≡ true

module _ (saids : List EventComponent) (said : EventComponent) (hidden : Instance → Bool) (h : IsHiding saids said hidden) where
  among_others : (b : Instance) → IsInstance (alone said) b → not (hidden b) ≡ true → IsInstanceAmong saids said b
  among_others b is shown = record { is = is; shown = λ master r. true≢false (sym (h.hides b is master r) ∙ not-true _ shown) }

  not_hidden_there : (b : Instance) → IsInstanceAmong saids said b → not (hidden b) ≡ true
  not_hidden_there b s = not_from_false _ (false_from_ne_true _ (λ t. s.shown (h.master b t) (h.replaced b s.is t)))

  -- as singles
  pub singles_left : (room : List ℕ) (singles : List Instance) → is_kept room said ≡ true → AreApart said singles → AreSingles room saids said (filter (λ b. not (hidden b)) singles)
  singles_left room singles kept a = record {
    each = λ i d l. single (of_filtered (λ b. not (hidden b)) singles _ (Contains-get_or (filter (λ b. not (hidden b)) singles) i d l));
    ordered = AllPairs-filter ComesBefore (λ b. not (hidden b)) singles a.ordered;
    all = λ b s. in_filtered (λ b. not (hidden b)) singles b (a.all b s.is.is s.apart) (not_hidden_there b s.is);
  }
    where
      single : {b : Instance} → Contains singles b × (not (hidden b) ≡ true) → IsSingle room saids said b
      single {b = b} (c, shown) =
          let own = All-contains (λ x. IsInstance (alone said) x × (IsOfSeries said x → ⊥)) singles b a.each c in
          record { kept = kept; is = among_others b own.0 shown; apart = own.1 }

  -- and as those of a series: the instances of the meeting that no other part hides
  pub series_left : (meeting series : Event) → AreOfRule said (Some meeting) → IsSeries saids said series
      → (b : Instance) → IsInstance series b ↔ (IsInstance meeting b × (hidden b ≡ false))
  series_left meeting series of s b =
      let both = and_parts _ _ of.0 in (
        λ is.
            let own = of_its_series saids said both.0 series s both.1 b is in
            ((of.1 b).1 (own.0.is, own.1), not-true _ (not_hidden_there b own.0)),
        λ left.
            let own = (of.1 b).0 left.0 in
            in_its_series saids said both.0 series s b (among_others b own.0 (not_from_false _ left.1)) own.1,
      )

-- of what isn't kept nothing is left
pub none_left : (room : List ℕ) (saids : List EventComponent) (said : EventComponent) → is_kept room said ≡ false → AreSingles room saids said []
none_left room saids said h = record {
  each = All-nil (IsSingle room saids said);
  ordered = λ i j d l w. absurd (omega (arith, w));
  all = λ b s. absurd (true≢false (sym s.kept ∙ h));
}
