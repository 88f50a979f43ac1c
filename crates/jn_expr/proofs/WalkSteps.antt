-- The forms of expression, step by step over their parts.
use Rattle.std.proofs.Common.{◌≡◌, ◌<◌, ◌≤◌, ◌+◌, ◌-◌, ℕ, suc, List, [], ◌∷◌, ◌++◌, length, map, drop, get_or, slice_get, Bool, true, false, Option, Some, None, IfOk, OnOk, Result, Ok, Err, refl, sym, ap, ◌∙◌, subst, arith}
use Rattle.std.proofs.Math.ListN.{drop_of_length-le}
use Rattle.jn_base.specs.declared.tree.Name.{Name}
use Rattle.jn_base.specs.declared.tree.Named.{Named}
use Rattle.jn_base.specs.declared.tree.Place.{Place}
use Rattle.jn_base.specs.declared.tree.Method.{Method}
use Rattle.jn_base.specs.declared.tree.Expr.{Expr}
use Rattle.jn_base.specs.declared.tree.Link.{Link}
use Rattle.jn_base.specs.declared.tree.Suffix.{Suffix}
use Rattle.jn_base.specs.declared.tree.ViewTerm.{ViewTerm}
use Rattle.jn_base.specs.declared.tree.Program.{Program}
use Rattle.jn_base.specs.declared.names.Resolved.{Resolved}
use Rattle.jn_base.specs.declared.names.Var.{Var}
use Rattle.jn_base.specs.declared.types.Ty.{Ty}
use Rattle.jn_base.specs.declared.types.Ty.TheVariants as ty
use Rattle.jn_base.specs.Paths.{Path}
use Rattle.jn_base.specs.Scopes.{Scope as TypeScope}
use Rattle.std.proofs.lemmas.Option.{slice_get-get_or}
use Rattle.jn_homes.proofs.Places.{at_index, at_get}
use Rattle.jn_heads.specs.declared.fault.CheckFault.{CheckFault}
use Rattle.jn_heads.specs.declared.fault.CheckFault.TheVariants.{Refused, Memory}
use Rattle.jn_heads.specs.declared.params.Header.{Header as CodeHeader}
use Rattle.jn_heads.specs.Params.{header_in}
use Rattle.jn_intern.specs.declared.scope.Scope.{Scope}
use Rattle.jn_intern.specs.Pools.{InPool, shown, scope_in, Keeps}
use Rattle.jn_rules.specs.Plans.{Target, target_type, OfView, Plan, ask, then_do, wants, taken}
use Rattle.jn_rules.specs.Questions.{Gives, Notes}
use Rattle.jn_rules.proofs.PlanLaws.{then_refuses}
use Rattle.jn_rules.specs.Headers.{Header}
use Rattle.jn_rules.specs.Exprs.{Here, Typed, Typing, Passed, site_here, expr_types, view_typed, links_typed, suffixes_typed, args_typed, takes, takes_both, operator_type, mismatch, plain, gives, replaced_paths, result_gives}
use Rattle.jn_rules.specs.Forms.{typed_expr, typed_args, typed_link, typed_links, part_types, typed_parts}
use Rattle.jn_expr.specs.declared.env.Call.{Call}
use Rattle.jn_expr.specs.declared.env.Value.{Value}
use Rattle.jn_expr.specs.Envs.{IsScope, here_at}
use Rattle.jn_expr.specs.Passing.{Grows}
use Rattle.jn_expr.specs.Told.{Adds, Went, PlanTold, FaultIs}
use Rattle.jn_expr.specs.Values.{typed_in}
use Rattle.jn_expr.specs.Steps.{Leads, LeadsTold, link_typed, operated, IsCall, passed_in}
use Rattle.jn_expr.specs.Calling.{called, arg_left, IsPassed}
use Rattle.jn_expr.specs.Viewing.{TargetLeads, changed}
use Rattle.jn_expr.proofs.Leading.{leads_here, leads_then, leads_told, leads_leads, leads_fault, leads_want, leads_unwanted, leads_done, leads_is}
use Rattle.jn_expr.proofs.Scopes.{grows_more}
use Rattle.jn_expr.proofs.Walking.{Splits, splits_then, splits_want, splits_deep, split_leads, split_fault, then_told}

-- ---- a view change

module _ (p : Program) (Q : Path) (m : Method) (v : ViewTerm) (at : Place) (e : Expr) (vars : List Var) (s : TypeScope) (m0 m1 m2 m3 : Resolved) where
  abbrev view_plan : Plan Typed
  view_plan = ask (OfView (site_here (here_at Q m vars)) v) (taken (view_typed (here_at Q m vars) at (typed_expr (here_at Q m vars) e) s))

  abbrev view_go : Target → Plan Typed
  view_go u = then_do (expr_types (here_at Q m vars) e s) (changed (here_at Q m vars) at e.at u)

  pub view_fault : {B : Type 0} (show : B → Typed) (f : CheckFault) → TargetLeads p view_plan view_go m0 m1 (Err f)
      → PlanTold p view_plan show m0 m2 (Err f)
  view_fault show (Refused r) g = g
  view_fault show Memory g = tt

  module _ (vars1 vars2 : List Var) (s1 : TypeScope) (e1 : vars1 ≡ vars) (e2 : vars2 ≡ vars) (es : s1 ≡ s) (t : Ty) (l : TargetLeads p view_plan view_go m0 m1 (Ok t)) where
    pub view_value_fault : {B D : Type 0} (given : D → Typed) (show : B → Typed) (f : CheckFault) → PlanTold p (expr_types (here_at Q m vars1) e s1) given m1 m2 (Err f)
        → PlanTold p view_plan show m0 m3 (Err f)
    view_value_fault given show f g =
        leads_fault given show (expr_types (here_at Q m vars) e s) (changed (here_at Q m vars) at e.at l.0) m2 m3 l.2 f
        (subst (λ (vs : List Var). PlanTold p (expr_types (here_at Q m vs) e s) given m1 m2 (Err f)) e1
        (subst (λ (c : TypeScope). PlanTold p (expr_types (here_at Q m vars1) e c) given m1 m2 (Err f)) es g))

    pub view_told : {B : Type 0} (show : B → Typed) (o : Result B CheckFault) (y : Typed) → Went p (expr_types (here_at Q m vars1) e s1) y m1 m2
        → ((u : Target) → t ≡ target_type u → PlanTold p (changed (here_at Q m vars2) at e.at u y) show m2 m3 o) → PlanTold p view_plan show m0 m3 o
    view_told show o y w g =
        leads_told show m3
        (leads_then (expr_types (here_at Q m vars) e s) (changed (here_at Q m vars) at e.at l.0) l.2
        (subst (λ (vs : List Var). Went p (expr_types (here_at Q m vs) e s) y m1 m2) e1
        (subst (λ (c : TypeScope). Went p (expr_types (here_at Q m vars1) e c) y m1 m2) es w)))
        o
        (subst (λ (vs : List Var). PlanTold p (changed (here_at Q m vs) at e.at l.0 y) show m2 m3 o) e2 (g l.0 l.1))

-- ---- operators

module _ (p : Program) (Q : Path) (m : Method) (at : Place) (x : Typed) (l : Link) (vars : List Var) (m0 m1 m2 : Resolved) where
  abbrev link_plan : Plan Typed
  link_plan = link_typed (here_at Q m vars) at x l (expr_types (here_at Q m vars) l.right)

  link_taken : takes l.op x.ty ≡ true → Leads p link_plan
      (then_do (expr_types (here_at Q m vars) l.right x.scope) (operated (here_at Q m vars) l x.ty)) m0 m0
  link_taken e = leads_want (takes l.op x.ty) (mismatch (here_at Q m vars) at) e (leads_here link_plan m0)

  pub link_refused : {B : Type 0} (show : B → Typed) (f : CheckFault) → takes l.op x.ty ≡ false → FaultIs f (mismatch (here_at Q m vars) at)
      → PlanTold p link_plan show m0 m2 (Err f)
  link_refused show f e i =
      leads_unwanted show m2 (takes l.op x.ty) (mismatch (here_at Q m vars) at)
      (then_do (expr_types (here_at Q m vars) l.right x.scope) (operated (here_at Q m vars) l x.ty)) e (leads_here link_plan m0) f i

  pub link_fault : {B D : Type 0} (given : D → Typed) (show : B → Typed) (f : CheckFault) → takes l.op x.ty ≡ true
      → PlanTold p (expr_types (here_at Q m vars) l.right x.scope) given m0 m1 (Err f) → PlanTold p link_plan show m0 m2 (Err f)
  link_fault given show f e g =
      leads_fault given show (expr_types (here_at Q m vars) l.right x.scope) (operated (here_at Q m vars) l x.ty) m1 m2 (link_taken e) f g

  pub link_told : {B : Type 0} (show : B → Typed) (o : Result B CheckFault) (y : Typed) (vars1 : List Var) (t : Ty) → takes l.op x.ty ≡ true → vars1 ≡ vars → t ≡ x.ty
      → Went p (expr_types (here_at Q m vars) l.right x.scope) y m0 m1 → PlanTold p (operated (here_at Q m vars1) l t y) show m1 m2 o → PlanTold p link_plan show m0 m2 o
  link_told show o y vars1 t e ev et w g =
      leads_told show m2
      (leads_then (expr_types (here_at Q m vars) l.right x.scope) (operated (here_at Q m vars) l x.ty) (link_taken e) w) o
      (subst (λ (vs : List Var). PlanTold p (operated (here_at Q m vs) l x.ty y) show m1 m2 o) ev
      (subst (λ (u : Ty). PlanTold p (operated (here_at Q m vars1) l u y) show m1 m2 o) et g))

-- ---- a chain

links_split : (p : Program) (h : Here) (at : Place) (x : Typed) (l : Link) (ls : List Link)
    → Splits p (links_typed h at x (typed_links h (l ∷ ls))) (link_typed h at x l (expr_types h l.right)) (λ z. links_typed h at z (typed_links h ls))
links_split p h at x l ls =
    splits_want p (takes l.op x.ty) (mismatch h at) _ _ go
    (splits_deep p (expr_types h l.right x.scope) (operated h l x.ty) (behind) go (λ y.
    splits_want p (takes l.op y.ty) (mismatch h l.right.at) _ _ go
    (splits_want p (takes_both l.op x.ty y.ty) (mismatch h l.at) _ _ go
    (splits_then p (gives (plain (operator_type l.op) y.scope)) go)))) where
      go : Typed → Plan Typed
      go z = links_typed h at z (typed_links h ls)

      behind : Typed → Plan Typed
      behind y =
          wants (takes l.op y.ty) (mismatch h l.right.at)
          (wants (takes_both l.op x.ty y.ty) (mismatch h l.at)
          (then_do (gives (plain (operator_type l.op) y.scope)) go))

module _ (p : Program) (h : Here) (at : Place) (links : List Link) (i : ℕ) (l : Link) (lt : i < length links) (is : l ≡ get_or links i l) (whole : Plan Typed) (x : Typed)
    (m0 m1 m2 : Resolved) (so : Leads p whole (links_typed h at x (typed_links h (drop i links))) m0 m1) where
  next_links : Leads p whole (links_typed h at x (typed_links h (l ∷ drop (i + 1) links))) m0 m1
  next_links = subst (λ (ls : List Link). Leads p whole (links_typed h at x (typed_links h ls)) m0 m1) (at_index links i l lt is) so

  pub links_more : (z : Typed) → Went p (link_typed h at x l (expr_types h l.right)) z m1 m2
      → Leads p whole (links_typed h at z (typed_links h (drop (i + 1) links))) m0 m2
  links_more z w =
      split_leads p whole (links_typed h at x (typed_links h (l ∷ drop (i + 1) links))) (link_typed h at x l (expr_types h l.right))
      (λ y. links_typed h at y (typed_links h (drop (i + 1) links))) m0 m1 m2 next_links (links_split p h at x l (drop (i + 1) links)) z w

  pub links_fault : {B D : Type 0} (given : D → Typed) (show : B → Typed) (later : Resolved) (f : CheckFault)
      → PlanTold p (link_typed h at x l (expr_types h l.right)) given m1 m2 (Err f) → PlanTold p whole show m0 later (Err f)
  links_fault given show later f g =
      split_fault p whole (links_typed h at x (typed_links h (l ∷ drop (i + 1) links))) (link_typed h at x l (expr_types h l.right))
      (λ y. links_typed h at y (typed_links h (drop (i + 1) links))) m0 m1 m2 next_links (links_split p h at x l (drop (i + 1) links)) given show later f g

pub links_end : (p : Program) (h : Here) (at : Place) (links : List Link) (i : ℕ) (whole : Plan Typed) (x : Typed) (m0 m1 : Resolved) → length links ≤ i
    → Leads p whole (links_typed h at x (typed_links h (drop i links))) m0 m1 → Went p whole x m0 m1
links_end p h at links i whole x m0 m1 le so =
    leads_done (subst (λ (ls : List Link). Leads p whole (links_typed h at x (typed_links h ls)) m0 m1) (drop_of_length-le links {i = i} le) so)

-- ---- what stands behind dots

module _ (p : Program) (h : Here) (w at : Place) (xs : List Suffix) (i : ℕ) (part : Suffix) (lt : i < length xs) (is : part ≡ get_or xs i part) (whole : Plan Typed) (x : Typed)
    (m0 m1 m2 : Resolved) (so : Leads p whole (suffixes_typed w at (typed_parts h (drop i xs)) x) m0 m1) where
  next_parts : Leads p whole (then_do (part_types h part at x) (suffixes_typed w w (typed_parts h (drop (i + 1) xs)))) m0 m1
  next_parts = subst (λ (ys : List Suffix). Leads p whole (suffixes_typed w at (typed_parts h ys) x) m0 m1) (at_index xs i part lt is) so

  pub parts_more : (z : Typed) → Went p (part_types h part at x) z m1 m2 → Leads p whole (suffixes_typed w w (typed_parts h (drop (i + 1) xs)) z) m0 m2
  parts_more z g = leads_then (part_types h part at x) (suffixes_typed w w (typed_parts h (drop (i + 1) xs))) next_parts g

  pub parts_fault : {B D : Type 0} (given : D → Typed) (show : B → Typed) (later : Resolved) (f : CheckFault)
      → PlanTold p (part_types h part at x) given m1 m2 (Err f) → PlanTold p whole show m0 later (Err f)
  parts_fault given show later f g =
      leads_fault given show (part_types h part at x) (suffixes_typed w w (typed_parts h (drop (i + 1) xs))) m2 later next_parts f g

pub parts_end : (p : Program) (h : Here) (w at : Place) (xs : List Suffix) (i : ℕ) (whole : Plan Typed) (x : Typed) (m0 m1 : Resolved) → length xs ≤ i
    → Leads p whole (suffixes_typed w at (typed_parts h (drop i xs)) x) m0 m1 → Went p whole x m0 m1
parts_end p h w at xs i whole x m0 m1 le so =
    leads_done (subst (λ (ys : List Suffix). Leads p whole (suffixes_typed w at (typed_parts h ys) x) m0 m1) (drop_of_length-le xs {i = i} le) so)

-- ---- arguments

module _ (p : Program) (Q : Path) (m : Method) (e : Expr) (from : List ℕ) (x : Var) (to : List ℕ) (go : List ℕ → TypeScope → Plan Passed) (vars : List Var) (s : TypeScope)
    (m0 m1 m2 : Resolved) where
  abbrev arg_plan : Plan Passed
  arg_plan = then_do (expr_types (here_at Q m vars) e s) (λ t. arg_left (here_at Q m vars) from x e.at t to go)

  pub arg_fault : {B D : Type 0} (given : D → Typed) (left : B → Plan Passed) (f : CheckFault) → PlanTold p (expr_types (here_at Q m vars) e s) given m0 m1 (Err f)
      → LeadsTold p arg_plan left m0 m2 (Err f)
  arg_fault given left (Refused r) g =
      then_refuses p (expr_types (here_at Q m vars) e s) (λ t. arg_left (here_at Q m vars) from x e.at t to go) r g
  arg_fault given left Memory g = tt

  pub arg_leads : {B : Type 0} (left : B → Plan Passed) (o : Result B CheckFault) (vars1 : List Var) (y : Typed) → vars1 ≡ vars → Went p (expr_types (here_at Q m vars) e s) y m0 m1
      → LeadsTold p (arg_left (here_at Q m vars1) from x e.at y to go) left m1 m2 o → LeadsTold p arg_plan left m0 m2 o
  arg_leads left o vars1 y ev w g =
      leads_leads left m2
      (leads_then (expr_types (here_at Q m vars) e s) (λ t. arg_left (here_at Q m vars) from x e.at t to go) (leads_here arg_plan m0) w) o
      (subst (λ (vs : List Var). LeadsTold p (arg_left (here_at Q m vs) from x e.at y to go) left m1 m2 o) ev g)

-- the variable at a place of the list
pub record IsAt {A : Type 0} (xs : List A) (i : ℕ) : Type 0 where
  pub x : A
  pub get : slice_get xs i ≡ Some x
  pub opened : drop i xs ≡ x ∷ drop (i + 1) xs

pub is_at : {A : Type 0} (xs : List A) (i : ℕ) → i < length xs → IsAt xs i
is_at [] i l = absurd (omega (arith, l))
is_at (x ∷ xs) i l = record { x = get_or (x ∷ xs) i x; get = slice_get-get_or (x ∷ xs) i x l; opened = at_get (x ∷ xs) i x l }

module _ (p : Program) (h : Here) (from : List ℕ) (vars : List Var) (args : List Expr) (i : ℕ) (whole : Plan Passed) (to : List ℕ) (s : TypeScope) (m0 m1 : Resolved)
    (so : Leads p whole (args_typed h from (drop i vars) (typed_args h (drop i args)) to s) m0 m1) where
  module _ (e : Expr) (lt : i < length args) (is : e ≡ get_or args i e) (at : IsAt vars i) where
    abbrev args_left : List ℕ → TypeScope → Plan Passed
    args_left to2 s2 = args_typed h from (drop (i + 1) vars) (typed_args h (drop (i + 1) args)) to2 s2

    abbrev one_arg : Plan Passed
    one_arg = then_do (expr_types h e s) (λ t. arg_left h from at.x e.at t to args_left)

    next_args : Leads p whole one_arg m0 m1
    next_args =
        subst (λ (xs : List Var). Leads p whole (args_typed h from xs (typed_args h (e ∷ drop (i + 1) args)) to s) m0 m1) at.opened
        (subst (λ (es : List Expr). Leads p whole (args_typed h from (drop i vars) (typed_args h es) to s) m0 m1) (at_index args i e lt is) so)

    pub args_more : (to2 : List ℕ) (s2 : TypeScope) (m2 : Resolved) → Leads p one_arg (args_left to2 s2) m1 m2 → Leads p whole (args_left to2 s2) m0 m2
    args_more to2 s2 m2 g = leads_leads (λ (u : Unit {0}). args_left to2 s2) m2 next_args (Ok tt) g

    pub args_fault : {B : Type 0} (left : Unit {0} → Plan Passed) (show : B → Passed) (m2 m3 : Resolved) (f : CheckFault) → LeadsTold p one_arg left m1 m2 (Err f)
        → PlanTold p whole show m0 m3 (Err f)
    args_fault left show m2 m3 (Refused r) g = next_args.gives r g
    args_fault left show m2 m3 Memory g = tt

  ended : (xs : List Var) → Leads p whole (args_typed h from xs [] to s) m0 m1 → Went p whole (record { paths = to; scope = s }) m0 m1
  ended [] l = leads_done l
  ended (x ∷ xs) l = leads_done l

  pub args_end : length args ≤ i → Went p whole (record { paths = to; scope = s }) m0 m1
  args_end le =
      ended (drop i vars)
      (subst (λ (es : List Expr). Leads p whole (args_typed h from (drop i vars) (typed_args h es) to s) m0 m1) (drop_of_length-le args {i = i} le) so)
