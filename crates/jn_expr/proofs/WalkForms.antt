-- What has to be asked of an expression, by its node.
use Rattle.std.proofs.Common.{◌≡◌, ℤ, List, Bool, refl, ap, ◌∙◌}
use Rattle.jn_base.specs.declared.tree.Name.{Name}
use Rattle.jn_base.specs.declared.tree.Named.{Named}
use Rattle.jn_base.specs.declared.tree.Term.{Term}
use Rattle.jn_base.specs.declared.tree.ViewTerm.{ViewTerm}
use Rattle.jn_base.specs.declared.tree.Level.{Level}
use Rattle.jn_base.specs.declared.tree.Expr.{Expr}
use Rattle.jn_base.specs.declared.tree.Link.{Link}
use Rattle.jn_base.specs.declared.tree.Suffix.{Suffix}
use Rattle.jn_base.specs.declared.tree.Node.{Node}
use Rattle.jn_base.specs.declared.tree.Node.TheVariants as node
use Rattle.jn_base.specs.declared.types.Ty.TheVariants as ty
use Rattle.jn_base.specs.declared.names.Role.TheVariants as role
use Rattle.jn_base.specs.Parts.{expr}
use Rattle.jn_base.specs.Scopes.{Scope}
use Rattle.jn_base.specs.Resolve.{var_named}
use Rattle.jn_rules.specs.Plans.{OfTerm, OfView, ask, then_do, taken}
use Rattle.jn_rules.specs.Exprs.{Here, site_here, plain, of_path, gives, var_gives, new_typed, super_typed, view_typed, links_typed, suffixes_typed, expr_types}
use Rattle.jn_rules.specs.Forms.{typed_expr, typed_args, typed_links, typed_parts}
use Rattle.jn_rules.proofs.FormLaws.{expr_forms}
use Rattle.jn_expr.specs.Steps.{inverted, negated}

module _ (h : Here) (e : Expr) (s : Scope) where
  at_node : (n : Node) → e.node ≡ n → expr_types h e s ≡ expr_types h (expr e.at n) s
  at_node n i = ap (λ (x : Node). expr_types h (expr e.at x) s) i

  pub number_form : (z : ℤ) → e.node ≡ node.Int z → expr_types h e s ≡ gives (plain ty.Int s)
  number_form z i = at_node (node.Int z) i ∙ (expr_forms h e.at s).number z

  pub truth_form : (b : Bool) → e.node ≡ node.Bool b → expr_types h e s ≡ gives (plain ty.Bool s)
  truth_form b i = at_node (node.Bool b) i ∙ (expr_forms h e.at s).truth b

  pub null_form : e.node ≡ node.Null → expr_types h e s ≡ gives (plain ty.Null s)
  null_form i = at_node node.Null i ∙ (expr_forms h e.at s).null

  pub this_form : e.node ≡ node.This → expr_types h e s ≡ gives (of_path 0 s)
  this_form i = at_node node.This i ∙ (expr_forms h e.at s).this

  pub var_form : (x : Name) → e.node ≡ node.Var x → expr_types h e s ≡ var_gives h e.at x s (var_named (record { list = h.vars }) x)
  var_form x i = at_node (node.Var x) i ∙ (expr_forms h e.at s).var x

  pub new_form : (t : Term) (es : List Expr) → e.node ≡ node.New t es
      → expr_types h e s ≡ ask (OfTerm role.New (site_here h) t) (taken (new_typed h e.at (typed_args h es) s))
  new_form t es i = at_node (node.New t es) i ∙ (expr_forms h e.at s).new t es

  pub super_form : (t : Term) (m : Named) (es : List Expr) → e.node ≡ node.Super t m es
      → expr_types h e s ≡ ask (OfTerm role.Super (site_here h) t) (taken (super_typed h t m (typed_args h es) s))
  super_form t m es i = at_node (node.Super t m es) i ∙ (expr_forms h e.at s).super t m es

  pub post_form : (x : Expr) (xs : List Suffix) → e.node ≡ node.Post x xs
      → expr_types h e s ≡ then_do (expr_types h x s) (suffixes_typed e.at x.at (typed_parts h xs))
  post_form x xs i = at_node (node.Post x xs) i ∙ (expr_forms h e.at s).post x xs

  pub not_form : (x : Expr) → e.node ≡ node.Not x → expr_types h e s ≡ then_do (expr_types h x s) (inverted h x.at)
  not_form x i = at_node (node.Not x) i ∙ (expr_forms h e.at s).invert x

  pub negative_form : (x : Expr) → e.node ≡ node.Neg x → expr_types h e s ≡ then_do (expr_types h x s) (negated h x.at)
  negative_form x i = at_node (node.Neg x) i ∙ (expr_forms h e.at s).negate x

  pub view_form : (v : ViewTerm) (x : Expr) → e.node ≡ node.View v x
      → expr_types h e s ≡ ask (OfView (site_here h) v) (taken (view_typed h e.at (typed_expr h x) s))
  view_form v x i = at_node (node.View v x) i ∙ (expr_forms h e.at s).view v x

  pub chain_form : (level : Level) (x : Expr) (ls : List Link) → e.node ≡ node.Chain level x ls
      → expr_types h e s ≡ then_do (expr_types h x s) (λ y. links_typed h x.at y (typed_links h ls))
  chain_form level x ls i = at_node (node.Chain level x ls) i ∙ (expr_forms h e.at s).chain level x ls
