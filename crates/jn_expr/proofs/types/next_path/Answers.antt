use Rattle.std.proofs.Common.{◌∙◌, arith, List}
use Rattle.std.proofs.lemmas.Result.{IfOk-weaker}
use Rattle.jn_intern.specs.declared.scope.Bind.{Bind}
use Rattle.jn_expr.proofs.Scopes.{old_turn, fresh_turn}
use Rattle.jn_expr.proofs.types.next_path.Goals as goal

-- what is read where there is no bind
abbrev nothing : Bind
nothing = record { path = 0; ty = record { 0 = 0 } }

pub returns-then-path-ge256 : goal.returns-then-path-ge256
returns-then-path-ge256 c =
    let bs : List Bind = c.args.binds.now in
    IfOk-weaker c.behind.result _ _
    (λ q h pool o. h ∙ fresh_turn pool bs c.loop-i.i nothing c.loop-i-test.true c.if-path-ge256.true (c.loop-i.invariant pool) o)
    c.behind.ensures

pub loop-i-preserved : goal.loop-i-preserved
loop-i-preserved c = λ pool.
    let l = c.if-path-ge256.false in
    old_turn pool c.args.binds.now c.loop-i.i nothing c.loop-i-test.true (omega (arith, l)) (c.loop-i.invariant pool)
