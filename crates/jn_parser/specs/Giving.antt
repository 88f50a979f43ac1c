-- What the parser's functions answer, beside what the reader of the grammar answers.
use Rattle.std.specs.Prelude.{◌≡◌, List, ◌++◌, Result, Ok, Err}
use Rattle.jn_grammar.specs.declared.fault.Fault.{Fault}
use Rattle.jn_grammar.specs.Answers.{Answer, ◌>>=◌}
use Rattle.jn_parser.specs.declared.fault.Stop.{Stop}
use Rattle.jn_parser.specs.declared.fault.Stop.TheVariants as stop

-- Reading stops so, unless memory ran out.
abbrev pub FailsAs : {Y : Type 0} → Stop → Result Y Fault → Type 0
FailsAs (stop.Refused f) answer = answer ≡ Err f
FailsAs stop.Memory answer = Unit {0}

-- What a function returned, seen by view, is what reading gives, unless memory ran out.
abbrev pub Gives : {X Y : Type 0} → (X → Y) → Result X Stop → Result Y Fault → Type 0
Gives view (Ok x) answer = answer ≡ Ok (view x)
Gives view (Err e) answer = FailsAs e answer

-- with these in front
abbrev pub with_front : {A : Type 0} → List A → Answer (List A) → Answer (List A)
with_front found r = r >>= λ x. Ok (found ++ x.0, x.1)
