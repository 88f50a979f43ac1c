-- What moves a sink's count of faults.
use Rattle.std.proofs.Common.{◌≡◌, ◌≤◌, ℕ, Result, Ok, Err, sym, subst, arith}
use Rattle.jn_io.specs.Causes.{Rose}
use Rattle.jn_meaning.specs.declared.fault.MeanFault.{MeanFault}
use Rattle.jn_meaning.specs.declared.fault.MeanFault.TheVariants as fault
use Rattle.jn_meaning.specs.Ran.{HasMeanCause}

pub no_cause : {T : Type 0} (before now : ℕ) (v : T) → now ≡ before → HasMeanCause {T = T} before now (Ok v)
no_cause before now v e = record {
  later = omega (arith, e);
  failed = λ h. absurd (cc);
  kept = e;
  no_memory = λ h. e;
}

-- the result of a call that failed for want of memory, and of one that failed for a sink
pub of_memory : {T : Type 0} (before now : ℕ) (r : Result T MeanFault) (e : MeanFault) → r ≡ Err e → e ≡ fault.Memory → now ≡ before → HasMeanCause {T = T} before now r
of_memory {T} before now r e i m k =
    subst (λ (q : Result T MeanFault). HasMeanCause {T = T} before now q) (sym i)
    (record { later = omega (arith, k); failed = λ h. absurd (cc); kept = tt; no_memory = λ h. k })

pub of_sink : {T : Type 0} (before mid now : ℕ) (r : Result T MeanFault) (e : MeanFault) → r ≡ Err e → e ≡ fault.WriteFault → mid ≡ before → mid ≤ now → Rose mid now
    → HasMeanCause {T = T} before now r
of_sink {T} before mid now r e i w k l rose =
    subst (λ (q : Result T MeanFault). HasMeanCause {T = T} before now q) (sym i)
    (record { later = omega (arith, k, l); failed = λ h. subst (λ (n : ℕ). Rose n now) k rose; kept = tt; no_memory = λ h. absurd (cc) })
