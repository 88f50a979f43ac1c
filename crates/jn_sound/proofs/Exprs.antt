-- Each expression fits, by the tree.
use Rattle.std.proofs.Common.{◌≡◌, ℕ, ℤ, List, [], ◌∷◌, ◌++◌, length, map, Option, Some, None, Bool, true, false, inl, refl, sym, ap, subst}
use Rattle.std.specs.Prelude.{cond, ◌&&◌, Ok}
use Rattle.jn_base.specs.declared.tree.Name.{Name}
use Rattle.jn_base.specs.declared.tree.Level.{Level}
use Rattle.jn_base.specs.declared.tree.Place.{Place}
use Rattle.jn_base.specs.declared.tree.Program.{Program}
use Rattle.jn_base.specs.declared.tree.Expr.{Expr, roll-Expr}
use Rattle.jn_base.specs.declared.tree.Link.{Link, roll-Link}
use Rattle.jn_base.specs.declared.tree.Suffix.{Suffix, out-Suffix, roll-Suffix, out-roll-Suffix}
use Rattle.jn_base.specs.declared.tree.Node.{Node, roll-Node}
use Rattle.jn_base.specs.declared.tree.Node.TheOpen.{Node-F, Suffix-F}
use Rattle.jn_base.specs.declared.tree.Node.TheFolds.{map-Node, map-Suffix, ind-Expr}
use Rattle.jn_base.specs.declared.tree.Node.TheVariants as node
use Rattle.jn_base.specs.declared.types.Ty.{Ty}
use Rattle.jn_base.specs.declared.types.Ty.TheVariants as ty
use Rattle.jn_base.specs.declared.names.Role.TheVariants as role
use Rattle.jn_base.specs.declared.names.Var.{Var}
use Rattle.jn_base.specs.Parts.{expr, link}
use Rattle.jn_base.specs.Atoms.{Among, first, later}
use Rattle.jn_base.specs.Scopes.{Scope}
use Rattle.jn_base.specs.Fits.{TypeFits}
use Rattle.jn_base.specs.Resolve.{is_class, var_named}
use Rattle.jn_sem.specs.Acts.{Todo, todo, Push, This, Read, Invert, Negate, acts}
use Rattle.jn_sem.specs.LawsOfActs.{parts_acts, suffix_acts, links_acts}
use Rattle.jn_sem.specs.Values.{Value, Number, Truth, Null}
use Rattle.jn_sem.proofs.ActLaws.{acts_are}
use Rattle.jn_laws.specs.LawsOfWritten.{Shallow, HeaderPath}
use Rattle.jn_laws.specs.LawsOfSources.{WellFormed}
use Rattle.jn_laws.proofs.Terms.{Mentioned, this, variable, header_path}
use Rattle.jn_rules.specs.Plans.{Plan}
use Rattle.jn_rules.specs.Questions.{Gives}
use Rattle.jn_rules.specs.Exprs.{Here, Typed, plain, of_path, path_type, var_typed, var_gives, is_int, is_bool, expr_types, suffixes_typed, links_typed}
use Rattle.jn_rules.specs.Forms.{typed_parts, typed_links, part_types}
use Rattle.jn_rules.specs.Stmts.{In, is_void}
use Rattle.jn_rules.proofs.FormLaws.{forms_are}
use Rattle.jn_rules.proofs.PlanLaws.{then_came, wanted}
use Rattle.jn_rule_laws.specs.LawsOfForms.{PathKnown}
use Rattle.jn_rule_laws.proofs.KnownTypes.{path_known, of_path_known}
use Rattle.jn_sound.specs.Takes.{Opd, opd, opd_of, IsLiteral, number, truth, null, push, read, invert, negate}
use Rattle.jn_sound.specs.Takes.{this as takes_this}
use Rattle.jn_sound.specs.Fit.{Fits, acts as act}
use Rattle.jn_sound.specs.KnownScopes.{ScopeKnown}
use Rattle.jn_body_laws.specs.BodyForms.{TermsNamed, ExprFormed}
use Rattle.jn_body_laws.proofs.ListedForms.{in_all}
use Rattle.jn_base.specs.Forms.{Viewed, Termed, all_of, of_view, of_node, of_expr, of_link, of_suffix}
use Rattle.jn_base.proofs.FormEquations.{at_new, at_super, at_post, at_inverse, at_negative, at_view, at_chain, at_expr, at_link, of_args, at_suffix}
use Rattle.jn_base.proofs.NameTests.{first as in_first, later as in_later}
use Rattle.std.proofs.lemmas.List.Elements.{Contains-append_left, Contains-append_right}
use Rattle.jn_sound.specs.Tree.{ExprKnown, none as none_more, GoesTo, as_they_are, ExprFits, AllFit, CallFits, OtherForms}
use Rattle.jn_sound.proofs.Variables.{found_among}
use Rattle.jn_sound.proofs.Scopes.{mentioned_there, declared_known}
use Rattle.jn_sound.proofs.RuledForms.{gave, ok_same}
use Rattle.jn_sound.proofs.Parts.{plain_type, plain_known, goes_as, goes_behind, stays_known, bool_is, kept_goes, part_goes, receiver_not_void, links_go, first_kept, ArgsFitToo}

module _ (p : Program) (b : In) (h : Here) (deep : Shallow p) (formed : WellFormed p) where
  abbrev n : ℕ
  n = length h.vars

  -- what is asked of an expression in this form
  pub asked : (e : Expr) (s : Scope) (t : Typed) (x : Plan Typed) → expr_types h e s ≡ x → Gives p (expr_types h e s)
      (Ok t) → Gives p x (Ok t)
  asked e s t x is g = subst (λ (y : Plan Typed). Gives p y (Ok t)) is g

  -- a call whose value is kept
  called_fits : (e : Expr) → CallFits p b h e → ExprFits p b h e
  called_fits e go s t good g = kept_goes p b h deep formed (go s t good g)

  -- ---- literals, `this`, variables

  literal_goes : (v : Value) (u : Ty) (s : Scope) (t : Typed) → ScopeKnown p h s → IsLiteral v u → is_class u ≡ false
      → t ≡ plain u s → GoesTo p b h (λ k. todo n (Push v) ∷ k) s as_they_are t
  literal_goes v u s t good l c e = subst (GoesTo p b h (λ k. todo n (Push v) ∷ k) s as_they_are) (sym e) (record {
    known = plain_known p h u s good (plain_type s u c);
    grown = none_more;
    fits = λ k ops o w f. act refl (push v u l) f;
  })

  path_goes : (q : ℕ) (s : Scope) → ScopeKnown p h s → Mentioned role.Value h.vars q → ExprKnown p h (of_path q s)
  path_goes q s good m =
      let a = mentioned_there p h s q good m in
      record {
        scope = good;
        type = path_known s q good.scope.binds a.0 a.1;
        path = λ r e. subst (λ (z : ℕ). PathKnown s z (path_type s q)) (same r e) (of_path_known s q a.0);
        class = λ r e. refl;
        mentioned = λ r e. inl (subst (HeaderPath h.vars) (same r e) (header_path role.Value h.vars q m));
      } where
        same : (r : ℕ) → Some q ≡ Some r → q ≡ r
        same r e = cc

  number_fits : (at : Place) (z : ℤ) → ExprFits p b h (expr at (node.Int z))
  number_fits at z s t good g =
      goes_as (λ k. (acts_are.exprs at true n k).number z)
      (literal_goes (Number z) ty.Int s t good number refl
      (gave p (plain ty.Int s) t (asked (expr at (node.Int z)) s t _ ((forms_are.exprs h at s).number z) g)))

  truth_fits : (at : Place) (z : Bool) → ExprFits p b h (expr at (node.Bool z))
  truth_fits at z s t good g =
      goes_as (λ k. (acts_are.exprs at true n k).truth z)
      (literal_goes (Truth z) ty.Bool s t good truth refl
      (gave p (plain ty.Bool s) t (asked (expr at (node.Bool z)) s t _ ((forms_are.exprs h at s).truth z) g)))

  null_fits : (at : Place) → ExprFits p b h (expr at node.Null)
  null_fits at s t good g =
      goes_as (λ k. (acts_are.exprs at true n k).null)
      (literal_goes Null ty.Null s t good null refl
      (gave p (plain ty.Null s) t (asked (expr at node.Null) s t _ (forms_are.exprs h at s).null g)))

  this_fits : (at : Place) → ExprFits p b h (expr at node.This)
  this_fits at s t good g =
      let known = path_goes 0 s good (this refl) in
      goes_as (λ k. (acts_are.exprs at true n k).this)
      (subst (GoesTo p b h (λ k. todo n This ∷ k) s as_they_are)
      (sym (gave p (of_path 0 s) t (asked (expr at node.This) s t _ (forms_are.exprs h at s).this g)))
      (record { known = known; grown = none_more; fits = λ k ops o w f. act refl (takes_this known.type.fits) f }))

  -- a variable, as a path or with its declared type
  var_known : (v : Var) (s : Scope) → ScopeKnown p h s → Among h.vars v → (c : Bool) → (v.fixed && is_class v.ty) ≡ c
      → ExprKnown p h (cond c (of_path v.path s) (plain v.ty s))
  var_known v s good m true e = path_goes v.path s good
      (variable refl v m refl (both v.fixed (is_class v.ty) e).0 (both v.fixed (is_class v.ty) e).1) where
        both : (x y : Bool) → (x && y) ≡ true → (x ≡ true) × (y ≡ true)
        both true y e = (refl, e)
        both false y e = cc
  var_known v s good m false e = plain_known p h v.ty s good (declared_known p h s v good m)

  var_goes : (x : Name) (v : Var) (s : Scope) → ScopeKnown p h s → var_named (record { list = h.vars }) x ≡ Some v
      → GoesTo p b h (λ k. todo n (Read x) ∷ k) s as_they_are (var_typed v s)
  var_goes x v s good named = by (v.fixed && is_class v.ty) refl where
    m : Among h.vars v
    m = found_among h.vars x v named

    reads : (o : Opd) → opd_of s v ≡ o → TypeFits s o.ty → (k : List Todo) (ops : List Opd) → Fits p b k h.vars s
        (o ∷ ops) → Fits p b (todo n (Read x) ∷ k) h.vars s ops
    reads o is fits k ops f =
        act refl (read x v named (subst (λ (z : Opd). TypeFits s z.ty) (sym is) fits) (good.plain v m))
        (subst (λ (z : Opd). Fits p b k h.vars s (z ∷ ops)) (sym is) f)

    by : (c : Bool) → (v.fixed && is_class v.ty) ≡ c → GoesTo p b h (λ k. todo n (Read x) ∷ k) s as_they_are
        (cond c (of_path v.path s) (plain v.ty s))
    by true e =
        let known = var_known v s good m true e in
        record {
          known = known;
          grown = none_more;
          fits = λ k ops o w f. reads (opd (path_type s v.path) (Some v.path))
              (ap (λ (c : Bool). cond c (opd (path_type s v.path) (Some v.path)) (opd v.ty None)) e) known.type.fits k
              ops f;
        }
    by false e =
        let known = var_known v s good m false e in
        record {
          known = known;
          grown = none_more;
          fits = λ k ops o w f. reads (opd v.ty None)
              (ap (λ (c : Bool). cond c (opd (path_type s v.path) (Some v.path)) (opd v.ty None)) e) known.type.fits k
              ops f;
        }

  var_fits : (at : Place) (x : Name) → ExprFits p b h (expr at (node.Var x))
  var_fits at x s t good g = goes_as (λ k. (acts_are.exprs at true n k).var x)
      (found (var_named (record { list = h.vars }) x) refl
      (asked (expr at (node.Var x)) s t _ ((forms_are.exprs h at s).var x) g)) where
        found : (o : Option Var) → var_named (record { list = h.vars }) x ≡ o → Gives p (var_gives h at x s o) (Ok t) →
            GoesTo p b h (λ k. todo n (Read x) ∷ k) s as_they_are t
        found None e w = absurd (no w) where
          no : Gives p (var_gives h at x s None) (Ok t) → ⊥
          no w = cc
        found (Some v) e w = subst (GoesTo p b h (λ k. todo n (Read x) ∷ k) s as_they_are)
            (sym (gave p (var_typed v s) t w)) (var_goes x v s good e)

  -- ---- unary operators

  invert_fits : (at : Place) (e : Expr) → ExprFits p b h e → ExprFits p b h (expr at (node.Not e))
  invert_fits at e fit s t good g =
      let c = then_came (expr_types h e s) _ t
      (asked (expr at (node.Not e)) s t _ ((forms_are.exprs h at s).invert e) g) in
      let w = wanted (is_bool c.first.ty) _ _ t c.then in
      let one = fit s c.first good c.gave in
      goes_as (λ k. (acts_are.exprs at true n k).invert e)
      (subst (GoesTo p b h (λ k. acts n e (todo n Invert ∷ k)) s as_they_are)
      (sym (gave p (plain ty.Bool c.first.scope) t w.then))
      (goes_behind (subst (λ (u : Ty). is_void u ≡ false)
      (sym (bool_is p b h deep formed c.first.ty w.test)) refl) one (inverted c.first w.test one.known))) where
        inverted : (x : Typed) → is_bool x.ty ≡ true → ExprKnown p h x → GoesTo p b h (λ k. todo n Invert ∷ k) x.scope
            (λ ops. opd x.ty x.path ∷ ops) (plain ty.Bool x.scope)
        inverted x e known = record {
          known = plain_known p h ty.Bool x.scope known.scope (plain_type x.scope ty.Bool refl);
          grown = none_more;
          fits = λ k ops o v f. subst (λ (u : Ty). Fits p b (todo n Invert ∷ k) h.vars x.scope (opd u x.path ∷ ops))
              (sym (bool_is p b h deep formed x.ty e)) (act refl (invert x.path) f);
        }

  int_is : (t : Ty) → is_int t ≡ true → t ≡ ty.Int
  int_is ty.Int e = refl
  int_is ty.Bool e = cc
  int_is ty.Null e = cc
  int_is ty.Void e = cc
  int_is (ty.Class xs m) e = cc

  negate_fits : (at : Place) (e : Expr) → ExprFits p b h e → ExprFits p b h (expr at (node.Neg e))
  negate_fits at e fit s t good g =
      let c = then_came (expr_types h e s) _ t
      (asked (expr at (node.Neg e)) s t _ ((forms_are.exprs h at s).negate e) g) in
      let w = wanted (is_int c.first.ty) _ _ t c.then in
      let one = fit s c.first good c.gave in
      goes_as (λ k. (acts_are.exprs at true n k).negate e)
      (subst (GoesTo p b h (λ k. acts n e (todo n Negate ∷ k)) s as_they_are)
      (sym (gave p (plain ty.Int c.first.scope) t w.then))
      (goes_behind (subst (λ (u : Ty). is_void u ≡ false) (sym (int_is c.first.ty w.test)) refl) one
      (negated c.first w.test one.known))) where
        negated : (x : Typed) → is_int x.ty ≡ true → ExprKnown p h x → GoesTo p b h (λ k. todo n Negate ∷ k) x.scope
            (λ ops. opd x.ty x.path ∷ ops) (plain ty.Int x.scope)
        negated x e known = record {
          known = plain_known p h ty.Int x.scope known.scope (plain_type x.scope ty.Int refl);
          grown = none_more;
          fits = λ k ops o v f. subst (λ (u : Ty). Fits p b (todo n Negate ∷ k) h.vars x.scope (opd u x.path ∷ ops))
              (sym (int_is x.ty e)) (act refl (negate x.path) f);
        }

  -- ---- parts and chains

  abbrev SuffixTold : Suffix → Type 0
  SuffixTold x = ArgsFitToo p b h deep formed (out-Suffix x).args

  parts_go : (whole at : Place) (ss : List Suffix) → ((x : Suffix) → Among ss x → SuffixTold x) → (r t : Typed) →
      ExprKnown p h r
      → Gives p (suffixes_typed whole at (typed_parts h ss) r) (Ok t) → GoesTo p b h (parts_acts ss true n) r.scope
      (λ ops. opd r.ty r.path ∷ ops) t
  parts_go whole at [] fit r t k g = stays_known p b h deep formed r t (ok_same t r g) k
  parts_go whole at (x ∷ []) fit r t k g =
      let c = then_came (part_types h x at r) (suffixes_typed whole whole []) t g in
      subst (GoesTo p b h (suffix_acts x true n) r.scope (λ ops. opd r.ty r.path ∷ ops))
      (sym (ok_same t c.first c.then))
      (part_goes p b h deep formed (out-Suffix x).name (out-Suffix x).args (fit x first) at r c.first k c.gave)
  parts_go whole at (x ∷ (z ∷ zs)) fit r t k g =
      let c = then_came (part_types h x at r) (suffixes_typed whole whole (typed_parts h (z ∷ zs))) t g in
      let one = part_goes p b h deep formed (out-Suffix x).name (out-Suffix x).args
      (fit x first) at r c.first k c.gave in
      let d = then_came (part_types h z whole c.first) (suffixes_typed whole whole (typed_parts h zs)) t c.then in
      goes_behind (receiver_not_void p b h deep formed _ _ whole c.first d.first d.gave) one
      (parts_go whole whole (z ∷ zs) (λ y m. fit y (later m)) c.first t one.known c.then)

  post_fits : (at : Place) (e : Expr) (ss : List Suffix) → ExprFits p b h e →
      ((x : Suffix) → Among ss x → SuffixTold x) → ExprFits p b h (expr at (node.Post e ss))
  post_fits at e ss fit told s t good g =
      let c = then_came (expr_types h e s) (suffixes_typed at e.at (typed_parts h ss)) t
      (asked (expr at (node.Post e ss)) s t _ ((forms_are.exprs h at s).post e ss) g) in
      let one = fit s c.first good c.gave in
      let rest = parts_go at e.at ss told c.first t one.known c.then in
      goes_as (λ k. (acts_are.exprs at true n k).post e ss) (joined ss c.first c.then one rest) where
        joined : (ss : List Suffix) (r : Typed) → Gives p (suffixes_typed at e.at (typed_parts h ss) r) (Ok t) →
            GoesTo p b h (acts n e) s as_they_are r
            → GoesTo p b h (parts_acts ss true n) r.scope (λ ops. opd r.ty r.path ∷ ops) t → GoesTo p b h
            (λ k. acts n e (parts_acts ss true n k)) s as_they_are t
        joined [] r g one rest = subst (GoesTo p b h (acts n e) s as_they_are) (sym (ok_same t r g)) one
        joined (z ∷ zs) r g one rest =
            let d = then_came (part_types h z e.at r) (suffixes_typed at at (typed_parts h zs)) t g in
            goes_behind (receiver_not_void p b h deep formed _ _ e.at r d.first d.gave) one rest

  chain_fits : (at : Place) (level : Level) (e : Expr) (ls : List Link) → ExprFits p b h e →
      ((l : Link) → Among ls l → ExprFits p b h l.right) → ExprFits p b h (expr at (node.Chain level e ls))
  chain_fits at level e ls fit told s t good g =
      let c = then_came (expr_types h e s) (λ x. links_typed h e.at x (typed_links h ls)) t
      (asked (expr at (node.Chain level e ls)) s t _ ((forms_are.exprs h at s).chain level e ls) g) in
      let one = fit s c.first good c.gave in
      goes_as (λ k. (acts_are.exprs at true n k).chain level e ls)
      (joined ls c.first c.then one (links_go p b h deep formed e.at ls told c.first t one.known c.then)) where
        joined : (ls : List Link) (r : Typed) → Gives p (links_typed h e.at r (typed_links h ls)) (Ok t) →
            GoesTo p b h (acts n e) s as_they_are r
            → GoesTo p b h (links_acts n ls) r.scope (λ ops. opd r.ty r.path ∷ ops) t → GoesTo p b h
            (λ k. acts n e (links_acts n ls k)) s as_they_are t
        joined [] r g one rest = subst (GoesTo p b h (acts n e) s as_they_are) (sym (ok_same t r g)) one
        joined (z ∷ zs) r g one rest = goes_behind (first_kept p b h deep formed e.at z zs r t g) one rest

  -- ---- by the tree

  abbrev FormedExpr : Expr → Type 0
  FormedExpr e = ExprFormed e → ExprFits p b h e

  abbrev NodeTold : Node → Type 0
  NodeTold m = TermsNamed (of_node m) → (at : Place) → ExprFits p b h (expr at m)

  abbrev LinkTold : Link → Type 0
  LinkTold l = TermsNamed (of_link l) → ExprFits p b h l.right

  abbrev FormedSuffix : Suffix → Type 0
  FormedSuffix x = TermsNamed (of_suffix x) → SuffixTold x

  told_each : {A : Type 0} {P : A → Type 0} (xs : List ((x : A) × P x)) (x : A) → Among (map (λ y. y.0) xs) x → P x
  told_each [] x m = elim m [ ]
  told_each (y ∷ ys) _ first = y.1
  told_each (y ∷ ys) x (later m) = told_each ys x m

  abbrev Told : Type 0
  Told = Node-F ((m : Node) × NodeTold m) ((e : Expr) × FormedExpr e) ((l : Link) × LinkTold l)
      ((x : Suffix) × FormedSuffix x)

  abbrev layer : Told → Node-F Node Expr Link Suffix
  layer = map-Node _ _ _ _ _ _ _ _ (λ e. e.0) (λ e. e.0) (λ e. e.0) (λ e. e.0)

  abbrev exprs_of : List ((e : Expr) × FormedExpr e) → List Expr
  exprs_of es = map (λ e. e.0) es

  -- arguments whose terms are named fit
  args_told : (es : List ((e : Expr) × FormedExpr e)) → TermsNamed (all_of (map of_expr (exprs_of es)))
      → AllFit p b h (exprs_of es)
  args_told es named e m = told_each es e m (λ t c. named t (in_all of_expr (exprs_of es) e (Termed t) m c))

  node_told : OtherForms p b h → (y : Told) → NodeTold (roll-Node (layer y))
  node_told others (Node-F.Int z) = subst NodeTold (sym (node.rolls-Int z)) (λ named at. number_fits at z)
  node_told others (Node-F.Bool z) = subst NodeTold (sym (node.rolls-Bool z)) (λ named at. truth_fits at z)
  node_told others Node-F.Null = subst NodeTold (sym node.rolls-Null) (λ named at. null_fits at)
  node_told others Node-F.This = subst NodeTold (sym node.rolls-This) (λ named at. this_fits at)
  node_told others (Node-F.Var x) = subst NodeTold (sym (node.rolls-Var x)) (λ named at. var_fits at x)
  node_told others (Node-F.New t es) = subst NodeTold (sym (node.rolls-New t (exprs_of es)))
      (λ named at. let k = subst TermsNamed (at_new t (exprs_of es)) named in
      called_fits (expr at (node.New t (exprs_of es))) (others.new at t (exprs_of es) (k t (in_first (Termed t) _))
      (args_told es (λ u c. k u (in_later (Termed t) _ (Termed u) c)))))
  node_told others (Node-F.Super t m es) = subst NodeTold (sym (node.rolls-Super t m (exprs_of es)))
      (λ named at. let k = subst TermsNamed (at_super t m (exprs_of es)) named in
      called_fits (expr at (node.Super t m (exprs_of es))) (others.super at t m (exprs_of es)
      (k t (in_first (Termed t) _))
      (args_told es (λ u c. k u (in_later (Termed t) _ (Termed u) c)))))
  node_told others (Node-F.Post e ss) = subst NodeTold (sym (node.rolls-Post e.0 (map (λ x. x.0) ss)))
      (λ named at. let k = subst TermsNamed (at_post e.0 (map (λ x. x.0) ss)) named in
      post_fits at e.0 (map (λ x. x.0) ss)
      (e.1 (λ u c. k u (Contains-append_left (of_expr e.0) _ (Termed u) c)))
      (λ x m. told_each ss x m (λ u c. k u (Contains-append_right (of_expr e.0) _ (Termed u)
      (in_all of_suffix (map (λ x. x.0) ss) x (Termed u) m c)))))
  node_told others (Node-F.Not e) = subst NodeTold (sym (node.rolls-Not e.0))
      (λ named at. invert_fits at e.0 (e.1 (subst TermsNamed (at_inverse e.0) named)))
  node_told others (Node-F.Neg e) = subst NodeTold (sym (node.rolls-Neg e.0))
      (λ named at. negate_fits at e.0 (e.1 (subst TermsNamed (at_negative e.0) named)))
  node_told others (Node-F.View v e) = subst NodeTold (sym (node.rolls-View v e.0))
      (λ named at. let k = subst TermsNamed (at_view v e.0) named in
      others.view at v e.0
      (k v.term (in_later Viewed (of_view v ++ of_expr e.0) (Termed v.term)
      (Contains-append_left (of_view v) (of_expr e.0) (Termed v.term)
      (in_first (Termed v.term) _))))
      (e.1 (λ u c. k u (in_later Viewed (of_view v ++ of_expr e.0) (Termed u)
      (Contains-append_right (of_view v) (of_expr e.0) (Termed u) c)))))
  node_told others (Node-F.Chain level e ls) = subst NodeTold (sym (node.rolls-Chain level e.0 (map (λ l. l.0) ls)))
      (λ named at. let k = subst TermsNamed (at_chain level e.0 (map (λ l. l.0) ls)) named in
      chain_fits at level e.0 (map (λ l. l.0) ls)
      (e.1 (λ u c. k u (Contains-append_left (of_expr e.0) _ (Termed u) c)))
      (λ l m. told_each ls l m (λ u c. k u (Contains-append_right (of_expr e.0) _ (Termed u)
      (in_all of_link (map (λ l. l.0) ls) l (Termed u) m c)))))

  abbrev ToldSuffix : Type 0
  ToldSuffix = Suffix-F ((m : Node) × NodeTold m) ((e : Expr) × FormedExpr e) ((l : Link) × LinkTold l)
      ((x : Suffix) × FormedSuffix x)

  abbrev layer_suffix : ToldSuffix → Suffix-F Node Expr Link Suffix
  layer_suffix = map-Suffix _ _ _ _ _ _ _ _ (λ e. e.0) (λ e. e.0) (λ e. e.0) (λ e. e.0)

  given_told : (y : ToldSuffix) → TermsNamed (of_args (layer_suffix y).args)
      → ArgsFitToo p b h deep formed (layer_suffix y).args
  given_told y = at y.args where
    at : (o : Option (List ((e : Expr) × FormedExpr e)))
        → TermsNamed (of_args (layer_suffix (record { name = y.name; args = o })).args)
        → ArgsFitToo p b h deep formed (layer_suffix (record { name = y.name; args = o })).args
    at None named = tt
    at (Some es) named = args_told es named

  suffix_told : (y : ToldSuffix) → FormedSuffix (roll-Suffix (layer_suffix y))
  suffix_told y named = subst (λ (z : Suffix-F Node Expr Link Suffix). ArgsFitToo p b h deep formed z.args)
      (sym (out-roll-Suffix (layer_suffix y)))
      (given_told y (subst (λ (z : Suffix-F Node Expr Link Suffix). TermsNamed (of_args z.args))
      (out-roll-Suffix (layer_suffix y)) (subst TermsNamed (at_suffix (roll-Suffix (layer_suffix y))) named)))

  pub by_tree : OtherForms p b h → (e : Expr) → FormedExpr e
  by_tree others = ind-Expr NodeTold FormedExpr LinkTold FormedSuffix
      (λ x y is. subst (λ z. NodeTold (roll-Node z)) is (node_told others y))
      (λ x y is. subst (λ z. FormedExpr (roll-Expr z)) is
      (λ named. y.node.1 (subst TermsNamed (at_expr (expr y.at y.node.0)) named) y.at))
      (λ x y is. subst (λ z. LinkTold (roll-Link z)) is
      (λ named. y.right.1 (subst TermsNamed (at_link (link y.op y.at y.right.0)) named)))
      (λ x y is. subst (λ z. FormedSuffix (roll-Suffix z)) is (suffix_told y))
