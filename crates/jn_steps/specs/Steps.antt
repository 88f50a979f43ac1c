-- What a frame does in one step, in the words of the meaning of a program and of the machine alike, and how the machine
-- takes its operands.
use Rattle.std.specs.Prelude.{ℕ, zero, suc, List, [], ◌∷◌, Option, Some, None}

-- What the frame at work does, where it finds a heap: frames F, heaps H, bodies B that can be called, values V, outcomes O.
pub data Step (F H B V O : Type 0) : Type 0 where
  -- it goes on, and puts these bytes
  Goes : F → H → (bytes : List ℕ) → Step F H B V O
  -- it calls a body with these arguments, and waits
  Enters : B → (arguments : List V) → F → H → Step F H B V O
  -- it returns, with or without a result
  Leaves : Option V → H → Step F H B V O
  -- it is at its end, with no step made
  Falls : Step F H B V O
  -- it ends the run
  Faults : O → Step F H B V O

-- the value that is there, else the outcome
abbrev pub on_some : {F H B V O A : Type 0} → O → Option A → (A → Step F H B V O) → Step F H B V O
on_some fault None go = Faults fault
on_some fault (Some a) go = go a

-- the latest operand, with those before it; the outcome is for a missing one
abbrev pub on_one : {F H B V O : Type 0} → O → List V → (V → List V → Step F H B V O) → Step F H B V O
on_one fault [] go = Faults fault
on_one fault (v ∷ rest) go = go v rest

-- the two latest operands, the earlier one first, with those before them
abbrev pub on_two : {F H B V O : Type 0} → O → List V → (V → V → List V → Step F H B V O) → Step F H B V O
on_two fault [] go = Faults fault
on_two fault (b ∷ []) go = Faults fault
on_two fault (b ∷ (a ∷ rest)) go = go a b rest

-- the n latest operands, the earliest first and before those that were already taken, with those before them
abbrev pub on_args : {F H B V O : Type 0} → O → ℕ → (taken : List V) (operands : List V) → (List V → List V → Step F H B V O) → Step F H B V O
on_args fault zero taken vs go = go taken vs
on_args fault (suc n) taken [] go = Faults fault
on_args fault (suc n) taken (v ∷ vs) go = on_args fault n (v ∷ taken) vs go
