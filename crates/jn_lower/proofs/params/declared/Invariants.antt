use Rattle.std.proofs.Common.{◌≡◌, ◌++◌, ◌∷◌, drop, map}
use Rattle.jn_lower.specs.Whole.{kind_of_var}
use Rattle.jn_lower.proofs.params.declared.Given as goal

abbrev pub invariant-loop-x : goal.invariant-loop-x
invariant-loop-x l =
    (l.out.instrs ≡ l.fn.out.instrs)
    × (l.out.locals.kinds ++ map kind_of_var (drop l.x-index l.vars) ≡ l.fn.out.locals.kinds ++ 3 ∷ map kind_of_var l.vars)
    × (l.out.locals.spare ≡ l.fn.out.locals.spare) × (l.out.locals.scratch ≡ l.fn.out.locals.scratch)
