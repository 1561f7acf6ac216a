-- What a folder in memory notes of a call, by how the call ends.
-- Cited by read and publish of MemoryFolder.
use Rattle.std.proofs.Common.{◌≡◌, ◌∙◌, ℕ, ◌+◌, true, false, List, [], ◌∷◌, ◌++◌, length, Option, None, Some, Result, Ok, Err, IsErrAnd, sym, ap, subst, inl, inr}
use Rattle.std.specs.Prelude.{IsErrOf}
use Rattle.std.proofs.lemmas.Bool.{true≢false}
use Rattle.std.proofs.lemmas.List.{length-append}
use Rattle.std.proofs.lemmas.Option.{same_Some}
use Rattle.sched_devices.specs.Calls.{IsNotDone, fails, fails_when_done}
use Rattle.sched_devices.specs.Noted.{IsNoted, IsToFail}
use Rattle.sched_devices.specs.declared.call_log.Call.{Call}
use Rattle.sched_devices.specs.declared.call_log.CallLog.{CallLog}
use Rattle.sched_devices.specs.declared.call_log.Plan.{Plan}
use Rattle.sched_devices.specs.declared.folder.FolderFault.{FolderFault}
use Rattle.sched_devices.specs.declared.folder.FolderFault.TheVariants.{Device, Missing, Exists, Memory}

-- ---- one fault is no other

pub device_memory : Device ≡ Memory → ⊥
device_memory e = cc

memory_device : Memory ≡ Device → ⊥
memory_device e = cc

pub missing_memory : Missing ≡ Memory → ⊥
missing_memory e = cc

pub missing_device : Missing ≡ Device → ⊥
missing_device e = cc

pub exists_memory : Exists ≡ Memory → ⊥
exists_memory e = cc

pub exists_device : Exists ≡ Device → ⊥
exists_device e = cc

abbrev fault_of : {V : Type 0} → Result V FolderFault → Option FolderFault
fault_of (Ok v) = None
fault_of (Err f) = Some f

no_fault : (f : FolderFault) → None ≡ Some f → ⊥
no_fault f e = cc

ok_apart : {V : Type 0} (v : V) (f : FolderFault) → IsErrOf {T = V} {E = FolderFault} (Ok v) f → ⊥
ok_apart v f e = no_fault f (ap fault_of e)

err_same : {V : Type 0} (e f : FolderFault) → IsErrOf {T = V} {E = FolderFault} (Err e) f → e ≡ f
err_same e f is = same_Some e f (ap fault_of is)

-- ---- how a call ends

module _ (is : Call → Type 0) (log new : CallLog) (call : Call) (yes : is call) (cause : Type 0) where
  -- it isn't done
  pub not_begun : {V : Type 0} (fault : FolderFault) (r : Result V FolderFault) → IsNotDone log.plan log.calls.items call log.failures new.calls.items new.failures fault → new.plan ≡ log.plan
      → IsErrAnd r (λ f. f ≡ fault) → IsNoted is log new (IsErrOf r Memory) (IsErrOf r Device) cause
  not_begun fault (Ok v) done plan h = absurd h
  not_begun Device (Err f) done plan h = record {
    noted = λ _. (call, yes, done.1);
    untraced = λ m. absurd (device_memory (sym h ∙ err_same f Memory m));
    same_plan = plan;
    told = λ _. inl (inl done.0);
    kept_to = λ _ _. ap Err h;
  }
  not_begun Memory (Err f) done plan h = record {
    noted = λ not_refused. absurd (not_refused (ap Err h));
    untraced = λ _. done.0;
    same_plan = plan;
    told = λ d. absurd (memory_device (sym h ∙ err_same f Device d));
    kept_to = λ not_refused _. absurd (not_refused (ap Err h));
  }
  not_begun Missing (Err f) done plan h = absurd done
  not_begun Exists (Err f) done plan h = absurd done

  module _ (noted : new.calls.items ≡ log.calls.items ++ call ∷ []) (plan : new.plan ≡ log.plan) (when : Plan) (calls : List Call) (same : when ≡ log.plan)
      (are : calls ≡ log.calls.items ++ call ∷ []) where
    number : length calls ≡ length log.calls.items + 1
    number = ap (λ (cs : List Call). length cs) are ∙ length-append log.calls.items (call ∷ [])

    -- it is done, and fails then
    pub ended_failing : {V : Type 0} (r : Result V FolderFault) → fails_when_done when (length calls) ≡ true → IsErrAnd r (λ f. f ≡ Device) → IsNoted is log new (IsErrOf r Memory) (IsErrOf r Device) cause
    ended_failing (Ok v) fail h = absurd h
    ended_failing (Err f) fail h = record {
      noted = λ _. (call, yes, noted);
      untraced = λ m. absurd (device_memory (sym h ∙ err_same f Memory m));
      same_plan = plan;
      told = λ _. inl (inr (subst (λ n. fails_when_done log.plan n ≡ true) number (subst (λ (p : Plan). fails_when_done p (length calls) ≡ true) same fail)));
      kept_to = λ _ _. ap Err h;
    }

    module _ (works : fails log.plan (length log.calls.items + 1) ≡ false) (ends : fails_when_done when (length calls) ≡ false) where
      not_to_fail : IsToFail log.plan (length log.calls.items + 1) → ⊥
      not_to_fail to =
          let ends_here : fails_when_done log.plan (length log.calls.items + 1) ≡ false =
          subst (λ n. fails_when_done log.plan n ≡ false) number (subst (λ (p : Plan). fails_when_done p (length calls) ≡ false) same ends) in
          elim to [ inl first ↦ true≢false (sym first ∙ works) | inr second ↦ true≢false (sym second ∙ ends_here) ]

      -- it works
      pub ended_well : {V : Type 0} (v : V) → IsNoted is log new (IsErrOf {T = V} {E = FolderFault} (Ok v) Memory) (IsErrOf {T = V} {E = FolderFault} (Ok v) Device) cause
      ended_well v = record {
        noted = λ _. (call, yes, noted);
        untraced = λ m. absurd (ok_apart v Memory m);
        same_plan = plan;
        told = λ d. absurd (ok_apart v Device d);
        kept_to = λ _ to. absurd (not_to_fail to);
      }

      -- it fails without a fault of the folder
      pub ended_otherwise : {V : Type 0} (f : FolderFault) → (f ≡ Memory → ⊥) → (f ≡ Device → ⊥)
          → IsNoted is log new (IsErrOf {T = V} {E = FolderFault} (Err f) Memory) (IsErrOf {T = V} {E = FolderFault} (Err f) Device) cause
      ended_otherwise f no_refusal no_failure = record {
        noted = λ _. (call, yes, noted);
        untraced = λ m. absurd (no_refusal (err_same f Memory m));
        same_plan = plan;
        told = λ d. absurd (no_failure (err_same f Device d));
        kept_to = λ _ to. absurd (not_to_fail to);
      }

      -- it fails for a cause of its own
      pub ended_for : {V : Type 0} (f : FolderFault) → f ≡ Device → cause
          → IsNoted is log new (IsErrOf {T = V} {E = FolderFault} (Err f) Memory) (IsErrOf {T = V} {E = FolderFault} (Err f) Device) cause
      ended_for f fault own = record {
        noted = λ _. (call, yes, noted);
        untraced = λ m. absurd (device_memory (sym fault ∙ err_same f Memory m));
        same_plan = plan;
        told = λ d. inr own;
        kept_to = λ _ to. absurd (not_to_fail to);
      }
