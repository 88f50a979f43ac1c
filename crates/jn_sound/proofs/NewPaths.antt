-- The path of an expression is `this`, a `final` variable of class type, or one that was not bound before it.
use Rattle.std.proofs.Common.{◌≡◌, ◌<◌, ℕ, List, [], ◌∷◌, map, Option, Some, None, Bool, true, false, ◌⊎◌, inl, inr, refl, sym, ap, ◌∙◌, subst, arith}
use Rattle.std.specs.Prelude.{◌&&◌, cond, nat_eq, length, Result, Ok, Err}
use Rattle.jn_base.specs.declared.tree.Name.{Name}
use Rattle.jn_base.specs.declared.tree.Named.{Named}
use Rattle.jn_base.specs.declared.tree.Place.{Place}
use Rattle.jn_base.specs.declared.tree.Term.{Term}
use Rattle.jn_base.specs.declared.tree.ViewTerm.{ViewTerm}
use Rattle.jn_base.specs.declared.tree.Level.{Level}
use Rattle.jn_base.specs.declared.tree.Constraint.{Constraint}
use Rattle.jn_base.specs.declared.tree.Program.{Program}
use Rattle.jn_base.specs.declared.tree.Expr.{Expr, roll-Expr}
use Rattle.jn_base.specs.declared.tree.Link.{Link}
use Rattle.jn_base.specs.declared.tree.Suffix.{Suffix, out-Suffix}
use Rattle.jn_base.specs.declared.tree.Node.{Node, roll-Node}
use Rattle.jn_base.specs.declared.tree.Node.TheOpen.{Node-F}
use Rattle.jn_base.specs.declared.tree.Node.TheFolds.{map-Node, ind-Expr}
use Rattle.jn_base.specs.declared.tree.Node.TheVariants as node
use Rattle.jn_base.specs.declared.types.Ty.{Ty}
use Rattle.jn_base.specs.declared.types.Ty.TheVariants as ty
use Rattle.jn_base.specs.declared.refusal.Refusal.{Refusal}
use Rattle.jn_base.specs.declared.refusal.Rule.TheVariants as rule
use Rattle.jn_base.specs.declared.types.Atom.{Atom as ShownAtom}
use Rattle.jn_base.specs.declared.names.Var.{Var}
use Rattle.jn_base.specs.Parts.{expr}
use Rattle.jn_base.specs.Scopes.{Scope, Binds}
use Rattle.jn_base.specs.Resolve.{is_class, var_named}
use Rattle.jn_base.specs.Atoms.{atom_of}
use Rattle.jn_laws.specs.LawsOfWritten.{HeaderPath, of_this, of_param}
use Rattle.jn_sem.specs.Does.{Body}
use Rattle.jn_sem.specs.NormalFunction.{normal_type}
use Rattle.jn_rules.specs.Plans.{FoundField, Target, Pledge, target_type, Sharing, Holding, Refuted, MemberMark, Plan, refuse, note, then_do, wants, taken}
use Rattle.jn_rules.specs.Questions.{Gives}
use Rattle.jn_rules.specs.Headers.{Header, header_typed}
use Rattle.jn_rules.specs.Exprs.{Here, Typed, Typing, of_class, of_name, first_bound, Passed, plain, of_path, of_new, fresh_with, next_path, path_of, put_in, replaced_paths, gives, is_int, is_bool, is_null_type, is_object, takes, takes_both, operator_type, var_typed, var_gives, new_typed, made_exact, made_with, made_by, as_many, call_typed, result_gives, super_typed, super_gives, super_with, constraints_granted, header_grants, view_typed, viewed, viewed_as, by_sharing, shared_or, field_gives, field_type, method_gives, method_with, unmasked, suffix_typed, suffixes_typed, links_typed, expr_types}
use Rattle.jn_rules.specs.Forms.{typed_args, given_args, typed_expr, typed_parts, typed_links, part_types}
use Rattle.jn_rules.proofs.FormLaws.{forms_are}
use Rattle.jn_rules.proofs.PlanLaws.{then_came, wanted, took, found_was}
use Rattle.jn_base.specs.declared.types.Anchor.{Anchor}
use Rattle.jn_base.specs.declared.types.Anchor.TheVariants.{Root, Up}
use Rattle.jn_sound.proofs.RuledForms.{gave, ok_same, not_ok}
use Rattle.jn_sound.proofs.Variables.{found_among}

-- the paths of the scope are numbered below the next fresh one
abbrev Below : Scope → Type 0
Below s = (q : ℕ) → Binds s q → q < next_path s

abbrev pub PathNew : Here → Scope → Typed → Type 0
PathNew h s t = (q : ℕ) → t.path ≡ Some q → HeaderPath h.vars q ⊎ (Binds s q → ⊥)

no_path : (q : ℕ) → (let o : Option ℕ = None in o ≡ Some q) → ⊥
no_path q e = cc

same_path : (q r : ℕ) → Some q ≡ Some r → q ≡ r
same_path q r e = cc

bare : (h : Here) (s : Scope) (t : Typed) → t.path ≡ None → PathNew h s t
bare h s t e q i = absurd (no_path q (sym e ∙ i))

-- what is given has no path, where it is plain
plainly : (p : Program) (u : Ty) (s : Scope) (t : Typed) → Gives p (gives (plain u s)) (Ok t) → t.path ≡ None
plainly p u s t g = ap (λ (z : Typed). z.path) (gave p (plain u s) t g)

module _ (p : Program) (h : Here) where
  abbrev ExprNew : Expr → Type 0
  ExprNew e = (s : Scope) (t : Typed) → Below s → Gives p (expr_types h e s) (Ok t) → PathNew h s t

  asked : (e : Expr) (s : Scope) (t : Typed) (x : Plan Typed) → expr_types h e s ≡ x → Gives p (expr_types h e s)
      (Ok t) → Gives p x (Ok t)
  asked e s t x is g = subst (λ (y : Plan Typed). Gives p y (Ok t)) is g

  -- ---- what stands behind a dot

  field_bare : (f : Named) (x t : Typed) (c : FoundField) → Gives p (field_gives f x c) (Ok t) → t.path ≡ None
  field_bare f x t c g = at g.0 g.2 where
    at : (m : Bool) → Gives p (cond m (refuse (of_class rule.E19 (first_bound x) f f.name))
        (note (MemberMark c.class) (gives (plain (field_type c (path_of x.ty x)) (path_of x.ty x).scope)))) (Ok t)
        → t.path ≡ None
    at true e = absurd (not_ok t _ e)
    at false e = plainly p (field_type c (path_of x.ty x)) (path_of x.ty x).scope t e

  result_bare : (c : Header) (x : Passed) (t : Typed) → Gives p (result_gives c x) (Ok t) → t.path ≡ None
  result_bare c x t g = plainly p (put_in x.scope (replaced_paths c.vars) x.paths c.result) x.scope t g

  method_bare : (m : Named) (es : List (Expr × Typing)) (x t : Typed) (c : Body)
      → Gives p (method_gives h m es x c) (Ok t)
      → t.path ≡ None
  method_bare m es x t c g = at g.0 g.2 where
    at : (o : Option Name) → Gives p (unmasked x m (then_do (header_typed c) (method_with h m es x c)) o) (Ok t)
        → t.path ≡ None
    at (Some f) e = absurd (not_ok t _ e)
    at None e =
        let k = then_came (header_typed c) (method_with h m es x c) t e in
        let w = wanted (as_many k.first es) _ _ t k.then in
        let d = then_came (call_typed h k.first es (path_of x.ty x)) (result_gives k.first) t w.then in
        result_bare k.first d.first t d.then

  suffix_bare : (f : Named) (args : Option (List (Expr × Typing))) (at : Place) (x t : Typed)
      → Gives p (suffix_typed h f args at x) (Ok t) → t.path ≡ None
  suffix_bare f None at x t g =
      let w = wanted (is_class x.ty) _ _ t g in
      let c = found_was w.then.0 _ (field_gives f x) t w.then.2 in
      field_bare f x t c.given c.then
  suffix_bare f (Some es) at x t g =
      let w = wanted (is_class x.ty) _ _ t g in
      let c = found_was w.then.0 _ (method_gives h f es x) t w.then.2 in
      method_bare f es x t c.given c.then

  suffixes_bare : (whole at : Place) (z : Suffix) (ss : List Suffix) (x t : Typed)
      → Gives p (suffixes_typed whole at (typed_parts h (z ∷ ss)) x) (Ok t) → t.path ≡ None
  suffixes_bare whole at z [] x t g =
      let c = then_came (part_types h z at x) (suffixes_typed whole whole []) t g in
      ap (λ (y : Typed). y.path) (ok_same t c.first c.then)
      ∙ suffix_bare (out-Suffix z).name (given_args h (out-Suffix z).args) at x c.first c.gave
  suffixes_bare whole at z (y ∷ ss) x t g =
      let c = then_came (part_types h z at x) (suffixes_typed whole whole (typed_parts h (y ∷ ss))) t g in
      suffixes_bare whole whole y ss c.first t c.then

  -- ---- operators

  links_bare : (at : Place) (ls : List Link) (x t : Typed) → x.path ≡ None
      → Gives p (links_typed h at x (typed_links h ls))
      (Ok t) → t.path ≡ None
  links_bare at [] x t n g = ap (λ (y : Typed). y.path) (ok_same t x g) ∙ n
  links_bare at (l ∷ ls) x t n g =
      let w = wanted (takes l.op x.ty) _ _ t g in
      let c = then_came (expr_types h l.right x.scope) _ t w.then in
      let v = wanted (takes l.op c.first.ty) _ _ t c.then in
      let u = wanted (takes_both l.op x.ty c.first.ty) _ _ t v.then in
      let z = then_came (gives (plain (operator_type l.op) c.first.scope))
      (λ z. links_typed h at z (typed_links h ls)) t u.then in
      links_bare at ls z.first t (plainly p (operator_type l.op) c.first.scope z.first z.gave) z.then

  link_bare : (at : Place) (l : Link) (ls : List Link) (x t : Typed)
      → Gives p (links_typed h at x (typed_links h (l ∷ ls))) (Ok t) → t.path ≡ None
  link_bare at l ls x t g =
      let w = wanted (takes l.op x.ty) _ _ t g in
      let c = then_came (expr_types h l.right x.scope) _ t w.then in
      let v = wanted (takes l.op c.first.ty) _ _ t c.then in
      let u = wanted (takes_both l.op x.ty c.first.ty) _ _ t v.then in
      let z = then_came (gives (plain (operator_type l.op) c.first.scope))
      (λ z. links_typed h at z (typed_links h ls)) t u.then in
      links_bare at ls z.first t (plainly p (operator_type l.op) c.first.scope z.first z.gave) z.then

  -- ---- variables

  var_new : (x : Name) (v : Var) (s : Scope) (t : Typed) → var_named (record { list = h.vars }) x ≡ Some v
      → t ≡ var_typed v s → PathNew h s t
  var_new x v s t named is = subst (PathNew h s) (sym is) (at (v.fixed && is_class v.ty) refl) where
    both : (a c : Bool) → (a && c) ≡ true → (a ≡ true) × (c ≡ true)
    both true c e = (refl, e)
    both false c e = cc

    at : (c : Bool) → (v.fixed && is_class v.ty) ≡ c → PathNew h s (cond c (of_path v.path s) (plain v.ty s))
    at true e q i =
        inl (of_param v (found_among h.vars x v named) (same_path v.path q i)
        (both v.fixed (is_class v.ty) e).0 (both v.fixed (is_class v.ty) e).1)
    at false e q i = absurd (no_path q i)

  var_given : (at : Place) (x : Name) (s : Scope) (t : Typed) (o : Option Var)
      → var_named (record { list = h.vars }) x ≡ o → Gives p (var_gives h at x s o) (Ok t) → PathNew h s t
  var_given at x s t None e w = absurd (not_ok t _ w)
  var_given at x s t (Some v) e w = var_new x v s t e (gave p (var_typed v s) t w)

  -- ---- `new`, `super` and `view`

  fresh_new : (s : Scope) (t : Typed) → Below s → t.path ≡ Some (next_path s) → PathNew h s t
  fresh_new s t below e q i = inr (λ n. let l = below q n in let k = same_path (next_path s) q (sym e ∙ i) in omega
      (arith, l, k))

  made_new : (at : Place) (es : List (Expr × Typing)) (s : Scope) (u : Ty) (t : Typed) (o : Option Body)
      → Gives p (made_with h at es s u o) (Ok t) → t.path ≡ Some (next_path s)
  made_new at es s u t None g =
      let w = wanted (nat_eq (length es) 0) _ _ t g in
      ap (λ (z : Typed). z.path) (gave p (of_new u (fresh_with u s) (fresh_with u s).scope) t w.then)
  made_new at es s u t (Some b) g =
      let k = then_came (header_typed b) (made_by h at es s u b) t g in
      let w = wanted (as_many k.first es) _ _ t k.then in
      let c = then_came (call_typed h k.first es (fresh_with u s)) (λ x. gives (of_new u (fresh_with u s) x.scope)) t
      w.then in
      ap (λ (z : Typed). z.path) (gave p (of_new u (fresh_with u s) c.first.scope) t c.then)

  granted_bare : (b : Body) (m : Named) (s : Scope) (go : Plan Typed) (t : Typed) (ks : List Constraint)
      → (Gives p go (Ok t) → t.path ≡ None) → Gives p (constraints_granted h b m s ks go) (Ok t) → t.path ≡ None
  granted_bare b m s go t [] end g = end g
  granted_bare b m s go t (k ∷ ks) end g =
      at g.0 g.2 (granted_bare b m s go t ks end) where
        at : (o : Result Pledge Refusal) → Gives p (taken (λ x.
            then_do (header_grants h s (normal_type s (target_type x.from)) x.to) (λ ok.
            wants ok (of_name rule.E25 h m.at m.name) (constraints_granted h b m s ks go))) o) (Ok t)
            → (Gives p (constraints_granted h b m s ks go) (Ok t) → t.path ≡ None) → t.path ≡ None
        at (Err r) e again = absurd (not_ok t r e)
        at (Ok x) e again =
            let d = then_came (header_grants h s (normal_type s (target_type x.from)) x.to)
            (λ ok. wants ok (of_name rule.E25 h m.at m.name) (constraints_granted h b m s ks go)) t e in
            let w = wanted d.first (of_name rule.E25 h m.at m.name) (constraints_granted h b m s ks go) t d.then in
            again w.then

  super_bare : (t : Term) (m : Named) (es : List (Expr × Typing)) (s : Scope) (a : ShownAtom) (x : Typed)
      → Gives p (super_typed h t m es s a) (Ok x) → x.path ≡ None
  super_bare t m es s a x g =
      let w = wanted g.0 _ _ x g.2 in
      let c = found_was w.then.0 _ (super_gives h m es s) x w.then.2 in
      let k = then_came (header_typed c.given) (super_with h m es s c.given) x c.then in
      let u = wanted (as_many k.first es) _ _ x k.then in
      let d = then_came (call_typed h k.first es (record { path = 0; scope = s }))
      (λ z. constraints_granted h c.given m z.scope c.given.method.sharing (result_gives k.first z)) x u.then in
      granted_bare c.given m d.first.scope (result_gives k.first d.first) x c.given.method.sharing
      (result_bare k.first d.first x) d.then

  viewed_bare : (at : Place) (u : Target) (x t : Typed) → Gives p (viewed h at u x) (Ok t) → t.path ≡ None
  viewed_bare at u x t g = null (is_null_type x.ty) g where
    shared : (o : Sharing) → Gives p (shared_or at (viewed_as u x.scope) o) (Ok t) → t.path ≡ None
    shared Holding e = plainly p (normal_type x.scope (target_type u)) x.scope t e
    shared (Refuted U f) e = absurd (not_ok t _ e)

    sharing : (a : Anchor) → Gives p (by_sharing at x.scope x.ty u (viewed_as u x.scope) a) (Ok t) → t.path ≡ None
    sharing Root e = shared e.0 e.2
    sharing (Up q k) e = absurd (not_ok t _ e)

    granted : (c : Bool) → Gives p (cond c (gives (viewed_as u x.scope))
        (by_sharing at x.scope x.ty u (viewed_as u x.scope) u.atom.anchor)) (Ok t) → t.path ≡ None
    granted true e = plainly p (normal_type x.scope (target_type u)) x.scope t e
    granted false e = sharing u.atom.anchor e

    null : (c : Bool) → Gives p (cond c (gives (viewed_as u x.scope)) (then_do (header_grants h x.scope x.ty u)
        (λ ok. cond ok (gives (viewed_as u x.scope))
        (by_sharing at x.scope x.ty u (viewed_as u x.scope) u.atom.anchor)))) (Ok t) → t.path ≡ None
    null true e = plainly p (normal_type x.scope (target_type u)) x.scope t e
    null false e = let c = then_came (header_grants h x.scope x.ty u) _ t e in granted c.first c.then

  -- ---- by the tree

  abbrev NodeNew : Node → Type 0
  NodeNew m = (at : Place) → ExprNew (expr at m)

  abbrev LinkNew : Link → Type 0
  LinkNew l = Unit {0}

  abbrev SuffixNew : Suffix → Type 0
  SuffixNew x = Unit {0}

  abbrev Told : Type 0
  Told = Node-F ((m : Node) × NodeNew m) ((e : Expr) × ExprNew e) ((l : Link) × LinkNew l) ((x : Suffix) × SuffixNew x)

  abbrev layer : Told → Node-F Node Expr Link Suffix
  layer = map-Node _ _ _ _ _ _ _ _ (λ e. e.0) (λ e. e.0) (λ e. e.0) (λ e. e.0)

  post_new : (at : Place) (e : Expr) (ss : List Suffix) → ExprNew e → ExprNew (expr at (node.Post e ss))
  post_new at e ss told s t below g =
      let c = then_came (expr_types h e s) (suffixes_typed at e.at (typed_parts h ss)) t
      (asked (expr at (node.Post e ss)) s t _ ((forms_are.exprs h at s).post e ss) g) in
      by ss c.first (told s c.first below c.gave) c.then where
        by : (ss : List Suffix) (r : Typed) → PathNew h s r
            → Gives p (suffixes_typed at e.at (typed_parts h ss) r) (Ok t) → PathNew h s t
        by [] r one g = subst (PathNew h s) (sym (ok_same t r g)) one
        by (z ∷ zs) r one g = bare h s t (suffixes_bare at e.at z zs r t g)

  chain_new : (at : Place) (level : Level) (e : Expr) (ls : List Link) → ExprNew e
      → ExprNew (expr at (node.Chain level e ls))
  chain_new at level e ls told s t below g =
      let c = then_came (expr_types h e s) (λ x. links_typed h e.at x (typed_links h ls)) t
      (asked (expr at (node.Chain level e ls)) s t _ ((forms_are.exprs h at s).chain level e ls) g) in
      by ls c.first (told s c.first below c.gave) c.then where
        by : (ls : List Link) (r : Typed) → PathNew h s r
            → Gives p (links_typed h e.at r (typed_links h ls)) (Ok t) → PathNew h s t
        by [] r one g = subst (PathNew h s) (sym (ok_same t r g)) one
        by (l ∷ ls) r one g = bare h s t (link_bare e.at l ls r t g)

  new_new : (at : Place) (u : Term) (es : List Expr) → ExprNew (expr at (node.New u es))
  new_new at u es s t below g =
      let a = asked (expr at (node.New u es)) s t _ ((forms_are.exprs h at s).new u es) g in
      let r = took a.0 (new_typed h at (typed_args h es) s) t a.2 in
      fresh_new s t below (made_new at (typed_args h es) s (normal_type s (made_exact (atom_of r.given))) t r.then.0
      r.then.2)

  super_new : (at : Place) (u : Term) (m : Named) (es : List Expr) → ExprNew (expr at (node.Super u m es))
  super_new at u m es s t below g =
      let a = asked (expr at (node.Super u m es)) s t _ ((forms_are.exprs h at s).super u m es) g in
      let r = took a.0 (super_typed h u m (typed_args h es) s) t a.2 in
      bare h s t (super_bare u m (typed_args h es) s r.given t r.then)

  view_new : (at : Place) (v : ViewTerm) (e : Expr) → ExprNew (expr at (node.View v e))
  view_new at v e s t below g =
      let a = asked (expr at (node.View v e)) s t _ ((forms_are.exprs h at s).view v e) g in
      let r = took a.0 (view_typed h at (typed_expr h e) s) t a.2 in
      let c = then_came (expr_types h e s) _ t r.then in
      let w = wanted (is_object c.first.ty) _ _ t c.then in
      bare h s t (viewed_bare at r.given c.first t w.then)

  invert_new : (at : Place) (e : Expr) → ExprNew (expr at (node.Not e))
  invert_new at e s t below g =
      let c = then_came (expr_types h e s) _ t
      (asked (expr at (node.Not e)) s t _ ((forms_are.exprs h at s).invert e) g) in
      let w = wanted (is_bool c.first.ty) _ _ t c.then in
      bare h s t (plainly p ty.Bool c.first.scope t w.then)

  negate_new : (at : Place) (e : Expr) → ExprNew (expr at (node.Neg e))
  negate_new at e s t below g =
      let c = then_came (expr_types h e s) _ t
      (asked (expr at (node.Neg e)) s t _ ((forms_are.exprs h at s).negate e) g) in
      let w = wanted (is_int c.first.ty) _ _ t c.then in
      bare h s t (plainly p ty.Int c.first.scope t w.then)

  this_new : (at : Place) → ExprNew (expr at node.This)
  this_new at s t below g q i =
      inl (of_this (sym (same_path 0 q (sym (ap (λ (z : Typed). z.path) (gave p (of_path 0 s) t
      (asked (expr at node.This) s t _ (forms_are.exprs h at s).this g))) ∙ i))))

  node_new : (y : Told) → NodeNew (roll-Node (layer y))
  node_new (Node-F.Int z) = subst NodeNew (sym (node.rolls-Int z)) (λ at s t below g.
      bare h s t (plainly p ty.Int s t (asked (expr at (node.Int z)) s t _ ((forms_are.exprs h at s).number z) g)))
  node_new (Node-F.Bool z) = subst NodeNew (sym (node.rolls-Bool z)) (λ at s t below g.
      bare h s t (plainly p ty.Bool s t (asked (expr at (node.Bool z)) s t _ ((forms_are.exprs h at s).truth z) g)))
  node_new Node-F.Null = subst NodeNew (sym node.rolls-Null) (λ at s t below g.
      bare h s t (plainly p ty.Null s t (asked (expr at node.Null) s t _ (forms_are.exprs h at s).null g)))
  node_new Node-F.This = subst NodeNew (sym node.rolls-This) this_new
  node_new (Node-F.Var x) = subst NodeNew (sym (node.rolls-Var x)) (λ at s t below g.
      var_given at x s t (var_named (record { list = h.vars }) x) refl
      (asked (expr at (node.Var x)) s t _ ((forms_are.exprs h at s).var x) g))
  node_new (Node-F.New t es) = subst NodeNew (sym (node.rolls-New t (map (λ e. e.0) es)))
      (λ at. new_new at t (map (λ e. e.0) es))
  node_new (Node-F.Super t m es) = subst NodeNew (sym (node.rolls-Super t m (map (λ e. e.0) es)))
      (λ at. super_new at t m (map (λ e. e.0) es))
  node_new (Node-F.Post e ss) = subst NodeNew (sym (node.rolls-Post e.0 (map (λ x. x.0) ss)))
      (λ at. post_new at e.0 (map (λ x. x.0) ss) e.1)
  node_new (Node-F.Not e) = subst NodeNew (sym (node.rolls-Not e.0)) (λ at. invert_new at e.0)
  node_new (Node-F.Neg e) = subst NodeNew (sym (node.rolls-Neg e.0)) (λ at. negate_new at e.0)
  node_new (Node-F.View v e) = subst NodeNew (sym (node.rolls-View v e.0)) (λ at. view_new at v e.0)
  node_new (Node-F.Chain level e ls) = subst NodeNew (sym (node.rolls-Chain level e.0 (map (λ l. l.0) ls)))
      (λ at. chain_new at level e.0 (map (λ l. l.0) ls) e.1)

  pub path_new : (e : Expr) → ExprNew e
  path_new = ind-Expr NodeNew ExprNew LinkNew SuffixNew
      (λ x y is. subst (λ z. NodeNew (roll-Node z)) is (node_new y))
      (λ x y is. subst (λ z. ExprNew (roll-Expr z)) is (y.node.1 y.at))
      (λ x y is. tt)
      (λ x y is. tt)
