-- Each expression fits: with `new`, `super` and `view`.
use Rattle.std.proofs.Common.{refl, List}
use Rattle.jn_base.specs.declared.tree.Program.{Program}
use Rattle.jn_base.specs.declared.tree.Expr.{Expr}
use Rattle.jn_base.specs.declared.names.Var.{Var}
use Rattle.jn_base.specs.Scopes.{Scope}
use Rattle.jn_laws.proofs.Terms.{this}
use Rattle.jn_body_laws.specs.BodyForms.{ExprFormed, IsCallForm}
use Rattle.jn_rules.specs.Exprs.{path_type}
use Rattle.jn_rules.specs.Stmts.{In}
use Rattle.jn_rule_laws.specs.LawsOfForms.{TypeKnown}
use Rattle.jn_rule_laws.proofs.KnownTypes.{path_known}
use Rattle.jn_sound.specs.KnownScopes.{here_in, ScopeKnown}
use Rattle.jn_sound.specs.Tree.{CallFits, OtherForms, ProgramKnown, ExpressionsFit}
use Rattle.jn_sound.proofs.Scopes.{mentioned_there}
use Rattle.jn_sound.proofs.Exprs.{by_tree}
use Rattle.jn_sound.proofs.CallForms.{call_fits}
use Rattle.jn_sound.proofs.News.{new_goes}
use Rattle.jn_sound.proofs.SupersFit.{super_goes}
use Rattle.jn_sound.proofs.ViewsFit.{view_goes}

-- the type of `this`
own_type : (p : Program) (b : In) (vs : List Var) (s : Scope) → ScopeKnown p (here_in b vs) s
    → TypeKnown s (path_type s 0)
own_type p b vs s k =
    let a = mentioned_there p (here_in b vs) s 0 k (this refl) in
    path_known s 0 k.scope.binds a.0 a.1

other_forms : (p : Program) (b : In) (vs : List Var) → ProgramKnown p → OtherForms p b (here_in b vs)
other_forms p b vs its = record {
  new = new_goes p b vs its;
  super = super_goes p b vs its (own_type p b vs);
  view = view_goes p b vs its;
}

pub expressions_fit : ExpressionsFit
expressions_fit p b vs its method = by_tree p b (here_in b vs) its.shallow its.well (other_forms p b vs its)

pub calls_fit : (p : Program) (b : In) (vs : List Var) → ProgramKnown p → (e : Expr) → ExprFormed e → IsCallForm e
    → CallFits p b (here_in b vs) e
calls_fit p b vs its = call_fits p b (here_in b vs) its.shallow its.well (other_forms p b vs its)
