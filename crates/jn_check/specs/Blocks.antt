-- The parts of an `if`.
use Rattle.std.specs.Prelude.{List}
use Rattle.jn_base.specs.Scopes.{Scope}
use Rattle.jn_rules.specs.Plans.{Plan, done, then_do}
use Rattle.jn_rules.specs.Stmts.{Before, StmtTyping, block_typed, joined}

-- the second block, and then the masks of both ends: what is asked behind the first one, whose end had the scope s
abbrev pub behind_one : List StmtTyping → Scope → Before → Plan Before
behind_one other s x =
    then_do (block_typed other x) (λ z.
    then_do (joined s z.scope) (λ both. done (record { vars = x.vars; scope = both; next = z.next })))
