-- What the parser answers where there is no tree, or no memory.
use Rattle.std.specs.Prelude.{◌≡◌, List, Result, Ok, Err}
use Rattle.jn_base.specs.declared.refusal.Refusal.{Refusal}
use Rattle.jn_base.specs.declared.word.Lexeme.{Lexeme}
use Rattle.jn_base.specs.Spelling.{refusal}
use Rattle.jn_grammar.specs.declared.fault.Fault.{Fault}
use Rattle.jn_grammar.specs.TokenLimits.{left_of, rule_of, limit_shown, place_left}
use Rattle.jn_parser.specs.declared.fault.ParseFault.{ParseFault}
use Rattle.jn_parser.specs.declared.fault.ParseFault.TheVariants.{Refused, Memory}

-- P holds of the refusal, where there is one.
abbrev pub IfRefused : {T : Type 0} → Result T ParseFault → (Refusal → Type 0) → Type 0
IfRefused (Ok x) P = Unit {0}
IfRefused (Err (Refused r)) P = P r
IfRefused (Err Memory) P = Unit {0}

-- The answer is x, unless memory ran out.
abbrev pub IsGiven : {T : Type 0} → Result T ParseFault → T → Type 0
IsGiven (Ok y) x = y ≡ x
IsGiven (Err (Refused r)) x = ⊥
IsGiven (Err Memory) x = Unit {0}

-- The answer is this refusal, unless memory ran out.
abbrev pub IsRefused : {T : Type 0} → Result T ParseFault → Refusal → Type 0
IsRefused (Ok x) r = ⊥
IsRefused (Err (Refused s)) r = s ≡ r
IsRefused (Err Memory) r = Unit {0}

-- the refusal of a fault in these words
abbrev pub refusal_of : List Lexeme → Fault → Refusal
refusal_of ws f = refusal (rule_of f) (place_left ws (left_of f)) (limit_shown f)
