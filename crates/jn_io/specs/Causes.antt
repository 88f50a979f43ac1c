-- What a count of faults tells of a call. A count is that of a 64-bit counter: it starts at 0, never falls, and stays at
-- the counter's last value once it is there.
use Rattle.std.specs.Prelude.{◌≡◌, ℕ, ◌-◌, ◌^◌, ◌<◌, ◌≤◌, ◌⊎◌, Result, IsErrOf, OnOk, OnErr}
use Rattle.jn_io.specs.declared.faults.SaveFault.{SaveFault}
use Rattle.jn_io.specs.declared.faults.SaveFault.TheVariants as fault

-- A count rose in a call: it is greater at the exit than at the entry, or it stands at the counter's last value.
abbrev pub Rose : ℕ → ℕ → Type 0
Rose before now = (before < now) ⊎ (2 ^ 64 - 1 ≤ now)

-- A call whose only failure is a fault: it fails only where the count rose, and else leaves the count as it was.
pub record HasCause {T E : Type 0} (before now : ℕ) (result : Result T E) : Type 0 where
  pub later : before ≤ now
  pub failed : OnErr result (Rose before now)
  pub kept : OnOk result (now ≡ before)

-- The same, where the call may also fail for `excuse`.
pub record HasCauseUnless {T E : Type 0} (excuse : Type 0) (before now : ℕ) (result : Result T E) : Type 0 where
  pub later : before ≤ now
  pub failed : OnErr result (Rose before now ⊎ excuse)
  pub kept : OnOk result (now ≡ before)

-- The same of a call that may want memory: only `Failed` needs a cause, and only it may move the count.
pub record HasSaveCause {T : Type 0} (before now : ℕ) (result : Result T SaveFault) : Type 0 where
  pub later : before ≤ now
  pub failed : IsErrOf result fault.Failed → Rose before now
  pub kept : OnOk result (now ≡ before)
  pub no_memory : IsErrOf result fault.Memory → now ≡ before
