-- The parts of `super`.
use Rattle.std.specs.Prelude.{List, ℕ}
use Rattle.jn_base.specs.declared.tree.Expr.{Expr}
use Rattle.jn_base.specs.declared.tree.Constraint.{Constraint}
use Rattle.jn_base.specs.declared.tree.Named.{Named}
use Rattle.jn_base.specs.declared.tree.Term.{Term}
use Rattle.jn_base.specs.declared.types.Atom.{Atom as ShownAtom}
use Rattle.jn_base.specs.declared.refusal.Rule.TheVariants as rule
use Rattle.jn_base.specs.Atoms.{atom_of}
use Rattle.jn_base.specs.Scopes.{Scope, bound}
use Rattle.jn_sem.specs.Does.{Body}
use Rattle.jn_sem.specs.NormalFunction.{normal_type}
use Rattle.jn_rules.specs.Plans.{target_type, IsBelow, OfBody, OfConstraint, Plan, ask, taken, then_do, wants, found_or}
use Rattle.jn_rules.specs.Headers.{Header}
use Rattle.jn_rules.specs.Exprs.{Here, Typed, Typing, mismatch, of_class, path_type, of_atom, super_gives, args_typed, replaced_paths, constraints_granted, result_gives, header_grants, of_name}

-- what is asked behind the mark of the term
abbrev pub super_asked : Here → Term → Named → List (Expr × Typing) → Scope → ShownAtom → Plan Typed
super_asked h t m es s a =
    ask (IsBelow s (path_type s 0) (normal_type s (of_atom a))) (λ ok. wants ok (mismatch h t.at)
    (ask (OfBody (bound s (atom_of a)) m.name)
    (found_or (of_class rule.E16 (bound s (atom_of a)) m m.name) (super_gives h m es s))))

-- the arguments, and then E25 and the result
abbrev pub super_left : Here → Named → List (Expr × Typing) → Scope → Body → Header → List ℕ → Plan Typed
super_left h m es s b c to =
    then_do (args_typed h (replaced_paths c.vars) c.vars es to s) (λ x.
    constraints_granted h b m x.scope b.method.sharing (result_gives c x))

-- one constraint of the called body: E25 where the caller's header doesn't grant it; and then `go`
abbrev pub constraint_asked : Here → Body → Named → Scope → Constraint → Plan Typed → Plan Typed
constraint_asked h b m s k go =
    ask (OfConstraint b.class b.method.name.name k) (taken (λ x.
    then_do (header_grants h s (normal_type s (target_type x.from)) x.to) (λ ok. wants ok (of_name rule.E25 h m.at m.name) go)))
