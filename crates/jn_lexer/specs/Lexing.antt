-- What the lexer answers.
use Rattle.std.specs.Prelude.{◌≡◌, ◌≤◌, ◌<◌, ℕ, List, [], ◌∷◌, Option, Some, None, Result, Ok, Err}
use Rattle.jn_base.specs.declared.token.Token.{Token}
use Rattle.jn_base.specs.declared.token.LexFault.{LexFault}
use Rattle.jn_base.specs.Tokens.{TokensOf}
use Rattle.jn_base.specs.declared.token.LexFault.TheVariants.{Memory}

-- the fault is this one
abbrev pub IsFaultOrNone : Option LexFault → LexFault → Type 0
IsFaultOrNone None g = ⊥
IsFaultOrNone (Some f) g = g ≡ f

-- unless memory ran out, these tokens are given where there is no fault, and else the fault
abbrev pub IsAnswer : {V : Type 0} → (V → List Token) → Result V LexFault → List Token → Option LexFault → Type 0
IsAnswer view (Ok v) ts None = view v ≡ ts
IsAnswer view (Ok v) ts (Some f) = ⊥
IsAnswer view (Err Memory) ts f = Unit {0}
IsAnswer view (Err g) ts f = IsFaultOrNone f g

-- unless memory ran out, the fault is the first in the bytes
abbrev pub IsFaultOf : List ℕ → LexFault → Type 0
IsFaultOf bytes Memory = Unit {0}
IsFaultOf bytes f = (ts : List Token) × TokensOf bytes ts (Some f)

-- Each token has at least one byte, none begins before the one before it ends, and all stand between the two bytes.
abbrev pub AreInOrder : ℕ → List Token → ℕ → Type 0
AreInOrder from [] to = from ≤ to
AreInOrder from (t ∷ ts) to = (from ≤ t.start) × (t.start < t.end) × AreInOrder t.end ts to
