-- Two machines in lockstep. The first is a relation and is charged; the second is a function, and makes up to c steps
-- for each charge, on the whole.
use Rattle.std.specs.Prelude.{◌≡◌, ℕ, zero, suc, ◌+◌, ◌*◌, ◌≤◌, List, Option, Some, None}
use Rattle.std.specs.Option.{option_map}
use Rattle.jn_steps.specs.Runs.{Report, Next, On, End, after, run}
use Rattle.jn_steps.specs.Laws.{GoesOn}
use Rattle.jn_steps.specs.Reports.{Reports}

module _ {S M O Q : Type 0} (c : ℕ) (Step : S → Next S O → Type 0) (shown : S → List ℕ) (move : M → Next M Q) (mshown : M → List ℕ) (halts : O → Option Q) where
  -- The second comes from m to where the first is, in lo to w steps, some of which may be left over. Where the first
  -- ends, the second ends likewise; of an end that is none of its own (the first is stuck) nothing is asked.
  abbrev pub Leads : (S → M → ℕ → Type 0) → ℕ → Next S O → M → ℕ → Type 0
  Leads R lo (On s) m w = (j : ℕ) × (v : ℕ) × (n : M) × (after move j m ≡ On n) × (lo ≤ j) × (j + v ≤ w) × R s n v
  Leads R lo (End o bytes) m w = (q : Q) → halts o ≡ Some q → ((j : ℕ) × (after move j m ≡ End q bytes) × (j ≤ w))

  -- for b charges they go on together, where w steps were paid for and not made
  abbrev pub Together : ℕ → S → M → ℕ → Type 0
  Together zero s m w = shown s ≡ mshown m
  Together (suc b) s m w = (shown s ≡ mshown m) × ((x : Next S O) → Step s x → Leads (Together b) 1 x m (c + w))

  -- the report of the first, as one of the second, where it isn't stuck
  abbrev pub end_as : Option O → Option (Option Q)
  end_as None = Some None
  end_as (Some o) = option_map Some (halts o)

  -- r is the report of a run of at most b charges that isn't stuck, said in the words of the second
  pub record RunIs (b : ℕ) (x : Next S O) (r : Report Q) : Type 0 where
    pub end : Option O
    pub is : end_as end ≡ Some r.outcome
    pub reports : Reports Step shown b x (record { outcome = end; output = r.output })

  -- The four clauses: two forward, two back.
  pub record Agree (s : S) (m : M) : Type 0 where
    pub within : (n : ℕ) (r : Report Q) → RunIs (suc n) (On s) r → GoesOn (run move mshown n m) r
    pub reaches : (b : ℕ) (r : Report Q) → RunIs b (On s) r → GoesOn r (run move mshown (c * b + c) m)
