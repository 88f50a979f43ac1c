-- What the scopes have in which parts of an expression are typed: each path below 256 as its declarations do.
use Rattle.std.proofs.Common.{◌≡◌, ℕ, suc, pred, ◌+◌, ◌<◌, List, [], ◌∷◌, ◌++◌, length, drop, Option, Some, None, Bool, true, false, refl, sym, ap, ◌∙◌, subst, arith}
use Rattle.std.specs.Prelude.{cond, ◌&&◌, Result, Ok, Err}
use Rattle.std.proofs.lemmas.Bool.{ne_eqb}
use Rattle.std.proofs.lemmas.List.{length-append}
use Rattle.std.proofs.lemmas.Option.{slice_get_within}
use Rattle.jn_base.specs.declared.tree.Name.{Name}
use Rattle.jn_base.specs.declared.tree.Named.{Named}
use Rattle.jn_base.specs.declared.tree.Place.{Place}
use Rattle.jn_base.specs.declared.tree.Term.{Term}
use Rattle.jn_base.specs.declared.tree.Node.TheVariants as node
use Rattle.jn_base.specs.declared.tree.Expr.{Expr}
use Rattle.jn_base.specs.declared.tree.Link.{Link}
use Rattle.jn_base.specs.declared.tree.Suffix.{Suffix, out-Suffix}
use Rattle.jn_base.specs.declared.tree.Program.{Program}
use Rattle.jn_base.specs.declared.refusal.Refusal.{Refusal}
use Rattle.jn_base.specs.declared.types.Anchor.{Anchor}
use Rattle.jn_base.specs.declared.types.Anchor.TheVariants.{Root, Up}
use Rattle.jn_base.specs.declared.types.Ty.{Ty}
use Rattle.jn_base.specs.declared.types.Ty.TheVariants as ty
use Rattle.jn_base.specs.declared.names.Role.TheVariants as role
use Rattle.jn_base.specs.declared.names.Var.{Var}
use Rattle.jn_base.specs.Parts.{expr}
use Rattle.jn_base.specs.Paths.{Path}
use Rattle.jn_base.specs.Atoms.{Atom, atom_of, atoms_in, first_at, anchor_at}
use Rattle.jn_base.specs.Scopes.{Scope, bound, bound_of}
use Rattle.jn_base.specs.Resolve.{is_class}
use Rattle.jn_code.specs.declared.image.Code.{Code}
use Rattle.jn_sem.specs.NormalFunction.{normal_type}
use Rattle.jn_sem.specs.Below.{Below}
use Rattle.jn_sem.specs.Terms.{SuperBound}
use Rattle.jn_sem.specs.Does.{Body, IsBody, IsConstructorBody}
use Rattle.jn_sem.proofs.FindingLaws.{finds_one}
use Rattle.jn_laws.specs.LawsOfWritten.{Shallow, scope_of, HeaderPath, of_this, of_param}
use Rattle.jn_laws.proofs.WrittenTypes.{written_types}
use Rattle.jn_rules.specs.Headers.{Header, header_typed}
use Rattle.jn_rules.specs.Plans.{Plan, IsBelow, ask, wants}
use Rattle.jn_rules.specs.Questions.{Gives, Answers}
use Rattle.jn_rules.specs.Exprs.{Here, site_here, Typed, Passed, gives, plain, of_path, path_of, path_or_fresh, next_path, put_in, arg_passed, replaced_paths, mismatch, is_bool, is_int, takes, takes_both, operator_type, var_gives, var_typed, suffix_typed, suffixes_typed, links_typed, args_typed, call_typed, made_exact, fresh_with, expr_types}
use Rattle.jn_rules.specs.Forms.{typed_args, given_args, part_types, typed_parts, typed_links}
use Rattle.jn_rules.proofs.FormLaws.{forms_are}
use Rattle.jn_rules.proofs.PlanLaws.{then_came, wanted}
use Rattle.jn_agree.specs.Naming.{Naming}
use Rattle.jn_agree.specs.Rows.{kind_of_type}
use Rattle.jn_places.specs.ExprPlaces.{ExprAt, ArgsAt, PartsAt, PartAt, LinksAt, at_number, at_truth, at_null, at_this, at_var, at_new, at_super, at_bare_super, at_post, at_not, at_neg, at_view, at_chain, no_args, one_arg, no_parts, last_part, one_part, at_field, at_call, no_links, one_link, one_deciding}
use Rattle.jn_place_spans.specs.LawsOfExprs.{LocalsAre, SeesAs}
use Rattle.jn_place_spans.proofs.KindsOfTypes.{named_same, decide_type}
use Rattle.jn_place_spans.proofs.Typed as typed

-- ---- arguments, one by one

pub passed_same : (a b : Passed)
    → (let x : Result Passed Refusal = Ok a in let y : Result Passed Refusal = Ok b in x ≡ y) → a ≡ b
passed_same a b e = cc

pub answered : (p : Program) (h : Here) (e : Expr) (ok : Bool) (T : Type 0) (go : Plan Passed) (passed : Passed)
    → Answers T ok → Gives p (wants ok (mismatch h e.at) go) (Ok passed) → T × Gives p go (Ok passed)
answered p h e true T go passed a g = (a, g)
answered p h e false T go passed a g = absurd (no g) where
  no : (let x : Result Passed Refusal = Ok passed in let y : Result Passed Refusal = Err (mismatch h e.at) in x ≡ y) → ⊥
  no e = cc

-- the first argument, for the parameter x, and what is given of the others
pub record FirstPassed (p : Program) (h : Here) (from : List ℕ) (x : Var) (xs : List Var) (e : Expr) (es : List Expr)
    (to : List ℕ) (sc : Scope) (passed : Passed) : Type 0 where
  pub first : Typed
  pub had : Gives p (expr_types h e sc) (Ok first)
  pub below : Below p first.scope first.ty (put_in first.scope from to x.ty)
  pub rest : Gives p (args_typed h from xs (typed_args h es) (to ++ (arg_passed from to x first).path ∷ [])
      (arg_passed from to x first).scope) (Ok passed)

pub first_passed : (p : Program) (h : Here) (from : List ℕ) (x : Var) (xs : List Var) (e : Expr) (es : List Expr)
    (to : List ℕ) (sc : Scope) (passed : Passed)
    → Gives p (args_typed h from (x ∷ xs) (typed_args h (e ∷ es)) to sc) (Ok passed)
    → FirstPassed p h from x xs e es to sc passed
first_passed p h from x xs e es to sc passed g =
    let came = then_came (expr_types h e sc)
    (λ y. ask (IsBelow y.scope y.ty (put_in y.scope from to x.ty)) (λ ok. wants ok (mismatch h e.at)
    (args_typed h from xs (typed_args h es) (to ++ (arg_passed from to x y).path ∷ [])
    (arg_passed from to x y).scope))) passed g in
    let w = answered p h e came.then.0 (Below p came.first.scope came.first.ty (put_in came.first.scope from to x.ty)) _
    passed came.then.1 came.then.2 in
    record { first = came.first; had = came.gave; below = w.0; rest = w.1 }

-- where there is an argument there is a parameter for it
pub record FirstOfAll (p : Program) (h : Here) (from : List ℕ) (vars : List Var) (e : Expr) (es : List Expr)
    (to : List ℕ)
    (sc : Scope) (passed : Passed) : Type 0 where
  pub x : Var
  pub xs : List Var
  pub same : vars ≡ x ∷ xs
  pub long : length xs ≡ length es
  pub one : FirstPassed p h from x xs e es to sc passed

pub first_of_all : (p : Program) (h : Here) (from : List ℕ) (vars : List Var) (e : Expr) (es : List Expr) (to : List ℕ)
    (sc : Scope) (passed : Passed) → length vars ≡ length (e ∷ es)
    → Gives p (args_typed h from vars (typed_args h (e ∷ es)) to sc) (Ok passed)
    → FirstOfAll p h from vars e es to sc passed
first_of_all p h from [] e es to sc passed long g = absurd (none_more long) where
  none_more : 0 ≡ suc (length es) → ⊥
  none_more e = cc
first_of_all p h from (x ∷ xs) e es to sc passed long g = record {
  x = x;
  xs = xs;
  same = refl;
  long = ap pred long;
  one = first_passed p h from x xs e es to sc passed g;
}

-- with no arguments the scope stays
pub none_passed : (p : Program) (h : Here) (from : List ℕ) (xs : List Var) (to : List ℕ) (sc : Scope) (passed : Passed)
    → Gives p (args_typed h from xs [] to sc) (Ok passed) → passed.scope ≡ sc
none_passed p h from [] to sc passed g = ap (λ (z : Passed). z.scope) (passed_same passed _ g)
none_passed p h from (x ∷ xs) to sc passed g = ap (λ (z : Passed). z.scope) (passed_same passed _ g)

-- ---- variables

pub var_of : (p : Program) (h : Here) (x : Name) (v : Var) (sc : Scope) (pl : Place) (y : Typed) (o : Option Var)
    → o ≡ Some v → Gives p (var_gives h pl x sc o) (Ok y) → y ≡ var_typed v sc
var_of p h x v sc pl y None e g = absurd (no e) where
  no : ◌≡◌ {A = Option Var} None (Some v) → ⊥
  no e = cc
var_of p h x v sc pl y (Some w) e g = typed.gave p (var_typed w sc) y g
    ∙ ap (λ (z : Var). var_typed z sc) (same e) where
      same : Some w ≡ Some v → w ≡ v
      same e = cc

var_scope : (v : Var) (sc : Scope) → (var_typed v sc).scope ≡ sc
var_scope v sc = at (v.fixed && is_class v.ty) where
  at : (c : Bool) → (cond c (of_path v.path sc) (plain v.ty sc)).scope ≡ sc
  at true = refl
  at false = refl

-- ---- a fresh path, and what a scope sees

module _ (h : Here) where
  as_was : (s t : Scope) → t ≡ s → SeesAs h s → SeesAs h t
  as_was s t e g = subst (SeesAs h) (sym e) g

  pub named_sees : (t : Ty) (o : Option ℕ) (s : Scope) → SeesAs h s → SeesAs h (path_or_fresh t o s).scope
  named_sees t (Some q) s g r low = g r low
  named_sees t None s g q low =
      ap (λ (c : Bool). cond c (first_at (bound_of s) (atoms_in t)) (bound_of s q))
      (ne_eqb q (next_path s) (λ e. omega (arith, e, low))) ∙ g q low

  -- so it does with the class of an atom of such a path
  pub bound_same : (s : Scope) (x : Atom) → SeesAs h s → ((q k : ℕ) → x.anchor ≡ Up q k → q < 256)
      → bound s x ≡ bound (scope_of (site_here h)) x
  bound_same s x g low = ap (λ (R : Path). x.names ++ (x.exact ++ R)) (at x.anchor low) where
    at : (a : Anchor) → ((q k : ℕ) → a ≡ Up q k → q < 256)
        → anchor_at (bound_of s) a ≡ anchor_at (bound_of (scope_of (site_here h))) a
    at Root low = refl
    at (Up q k) low = ap (λ (R : Path). drop k R) (g q (low q k refl))

  -- `this` and the variables have locals, so their numbers are small
  pub path_small : (it : Code) → LocalsAre it h → (q : ℕ) → HeaderPath h.vars q → q < 256
  path_small it locals q (of_this e) = omega (arith, e)
  path_small it locals q (of_param v a e f c) =
      let l = slice_get_within (it.params ++ it.locals) v.path (kind_of_type v.ty) (locals.vars v a) in
      let n = length-append it.params it.locals in
      let few = locals.few in
      omega (arith, l, n, few, e)

-- the class in which the body of `super` is looked up
pub super_class : (p : Program) → Shallow p → (it : Code) (h : Here) → LocalsAre it h → (s : Scope) → SeesAs h s
    → (t : Term) (m : Named) (es : List Expr) (y : Typed) (B : Path) → SuperBound p (site_here h) t B
    → (w : typed.SuperFound p h s t m es y) → B ≡ bound s (atom_of w.a)
super_class p deep it h locals s g t m es y B is w =
    (finds_one p).super_bound (site_here h) t B (bound s (atom_of w.a)) is (record {
      given = w.a;
      resolved = w.resolved;
      is = bound_same h s (atom_of w.a) g (λ q k up. path_small h it locals q
          ((written_types p deep).term_path role.Super (site_here h) t (atom_of w.a) q k (w.a, w.resolved, refl) up));
    })

-- ---- by the places

module _ (p : Program) (deep : Shallow p) (n : Naming) (scratch : ℕ) (it : Code) (h : Here) (locals : LocalsAre it h)
  where
    -- the body of `super` is the one that typing finds
    pub super_body : (s : Scope) → SeesAs h s → (t : Term) (m : Named) (es : List Expr) (y : Typed) (B : Path)
        → SuperBound p (site_here h) t B → (w : typed.SuperFound p h s t m es y) → IsBody p B m.name w.body
    super_body s g t m es y B is w =
        subst (λ (Z : Path). IsBody p Z m.name w.body) (sym (super_class p deep it h locals s g t m es y B is w))
        w.is_body

    made_sees : (sc : Scope) (x : Atom) (es : List Expr) (y : Typed) → typed.NewFound p h sc x es y → SeesAs h sc
        → ((b : Body) (c : Header) (passed : Passed) → IsConstructorBody p (bound sc x) b
        → Gives p (header_typed b) (Ok c)
        → Gives p (call_typed h c (typed_args h es) (fresh_with (normal_type sc (made_exact x)) sc)) (Ok passed)
        → SeesAs h passed.scope) → SeesAs h y.scope
    made_sees sc x es y (typed.bare lacks cls scope) ok args =
        as_was h _ y.scope scope (named_sees h (normal_type sc (made_exact x)) None sc ok)
    made_sees sc x es y (typed.by b c passed cons head long given cls scope) ok args =
        as_was h passed.scope y.scope scope (args b c passed cons head given)

    -- the right operand of a link, and what stands behind it
    pub record Operand (x : Typed) (l : Link) (ls : List Link) (at : Place) (y : Typed) : Type 0 where
      pub takes_left : takes l.op x.ty ≡ true
      pub right : Typed
      pub had : Gives p (expr_types h l.right x.scope) (Ok right)
      pub takes_right : takes l.op right.ty ≡ true
      pub both : takes_both l.op x.ty right.ty ≡ true
      pub then : Gives p (links_typed h at (plain (operator_type l.op) right.scope) (typed_links h ls)) (Ok y)

    pub operand_typed : (x : Typed) (l : Link) (ls : List Link) (at : Place) (y : Typed)
        → Gives p (links_typed h at x (typed_links h (l ∷ ls))) (Ok y) → Operand x l ls at y
    operand_typed x l ls at y g =
        let w = wanted (takes l.op x.ty) _ _ y g in
        let c = then_came (expr_types h l.right x.scope) _ y w.then in
        let v = wanted (takes l.op c.first.ty) _ _ y c.then in
        let u = wanted (takes_both l.op x.ty c.first.ty) _ _ y v.then in
        let z = then_came (gives (plain (operator_type l.op) c.first.scope))
        (λ z. links_typed h at z (typed_links h ls)) y u.then in
        record {
          takes_left = w.test;
          right = c.first;
          had = c.gave;
          takes_right = v.test;
          both = u.test;
          then = subst (λ (q : Typed). Gives p (links_typed h at q (typed_links h ls)) (Ok y))
              (typed.gave p (plain (operator_type l.op) c.first.scope) z.first z.gave) z.then;
        }

    mutual
      pub expr_sees : (sc : Scope) (keeps : Bool) (e : Expr) (s t : ℕ) → ExprAt p n scratch it h sc keeps e s t
          → SeesAs h sc → (y : Typed) → Gives p (expr_types h e sc) (Ok y) → SeesAs h y.scope
      expr_sees sc _ _ s t (at_number _ pl z _ _ runs) ok y g =
          as_was h sc y.scope (ap (λ (z : Typed). z.scope) (typed.gave p (plain ty.Int sc) y
          (typed.asked p h (expr pl (node.Int z)) sc y _ ((forms_are.exprs h pl sc).number z) g))) ok
      expr_sees sc _ _ s t (at_truth _ pl z _ _ runs) ok y g =
          as_was h sc y.scope (ap (λ (z : Typed). z.scope) (typed.gave p (plain ty.Bool sc) y
          (typed.asked p h (expr pl (node.Bool z)) sc y _ ((forms_are.exprs h pl sc).truth z) g))) ok
      expr_sees sc _ _ s t (at_null _ pl _ _ runs) ok y g =
          as_was h sc y.scope (ap (λ (z : Typed). z.scope) (typed.gave p (plain ty.Null sc) y
          (typed.asked p h (expr pl node.Null) sc y _ (forms_are.exprs h pl sc).null g))) ok
      expr_sees sc _ _ s t (at_this _ pl _ _ runs) ok y g =
          as_was h sc y.scope (ap (λ (z : Typed). z.scope) (typed.gave p (of_path 0 sc) y
          (typed.asked p h (expr pl node.This) sc y _ (forms_are.exprs h pl sc).this g))) ok
      expr_sees sc _ _ s t (at_var _ pl x v _ _ new runs) ok y g =
          as_was h sc y.scope (ap (λ (z : Typed). z.scope) (var_of p h x v sc pl y _ (named_same h.vars x v new)
          (typed.asked p h (expr pl (node.Var x)) sc y _ ((forms_are.exprs h pl sc).var x) g)) ∙ var_scope v sc) ok
      expr_sees sc keeps _ s e (at_new _ _ pl t es x cls con _ m _ is args none shapes class ctors runs) ok y g =
          made_sees sc x es y (typed.new_found p h pl sc t x es y is g) ok
          (λ b c passed cons head given.
          args_sees c.vars es (fresh_with (normal_type sc (made_exact x)) sc).scope passed s m (replaced_paths c.vars)
          ((fresh_with (normal_type sc (made_exact x)) sc).path ∷ []) (args b c cons head)
          (named_sees h (normal_type sc (made_exact x)) None sc ok) given)
      expr_sees sc keeps _ s u (at_super _ _ pl t f0 e es B q kind k j kinds shape _ l o a _ ea under has tucks bnd args
          shapes class sel params count runs) ok y g =
          let w = typed.super_found p h pl sc t f0 (e ∷ es) y g in
          let f = first_of_all p h (replaced_paths w.header.vars) w.header.vars e es
          (0 ∷ []) sc w.passed w.long w.args in
          as_was h w.passed.scope y.scope (ap (λ (z : Typed). z.scope) w.is)
          (args_sees f.xs es (arg_passed (replaced_paths w.header.vars) (0 ∷ []) f.x f.one.first).scope w.passed o a
          (replaced_paths w.header.vars)
          (0 ∷ (arg_passed (replaced_paths w.header.vars) (0 ∷ []) f.x f.one.first).path ∷ [])
          (args w.body w.header f.x f.xs f.one.first (super_body sc ok t f0 (e ∷ es) y B bnd w) w.head f.same f.one.had)
          (named_sees h _ f.one.first.path f.one.first.scope (expr_sees sc true e s l ea ok f.one.first f.one.had))
          f.one.rest)
      expr_sees sc keeps _ s u (at_bare_super _ _ pl t f B k j shape _ _ bnd shapes class sel none runs) ok y g =
          let w = typed.super_found p h pl sc t f [] y g in
          as_was h sc y.scope (ap (λ (z : Typed). z.scope) w.is
          ∙ none_passed p h (replaced_paths w.header.vars) w.header.vars (0 ∷ []) sc w.passed w.args) ok
      expr_sees sc keeps _ s t (at_post _ _ pl e xs _ l _ ea parts) ok y g =
          let c = then_came (expr_types h e sc) (suffixes_typed pl e.at (typed_parts h xs)) y
          (typed.asked p h (expr pl (node.Post e xs)) sc y _ ((forms_are.exprs h pl sc).post e xs) g) in
          parts_sees c.first keeps xs l t (parts c.first c.gave)
          (expr_sees sc true e s l ea ok c.first c.gave) pl e.at y
          c.then
      expr_sees sc _ _ s t (at_not _ pl e _ l _ ea runs) ok y g =
          let c = then_came (expr_types h e sc) _ y
          (typed.asked p h (expr pl (node.Not e)) sc y _ ((forms_are.exprs h pl sc).invert e) g) in
          let w = wanted (is_bool c.first.ty) _ _ y c.then in
          as_was h c.first.scope y.scope (ap (λ (z : Typed). z.scope) (typed.gave p
          (plain ty.Bool c.first.scope) y w.then))
          (expr_sees sc true e s l ea ok c.first c.gave)
      expr_sees sc _ _ s t (at_neg _ pl e _ l _ ea runs) ok y g =
          let c = then_came (expr_types h e sc) _ y
          (typed.asked p h (expr pl (node.Neg e)) sc y _ ((forms_are.exprs h pl sc).negate e) g) in
          let w = wanted (is_int c.first.ty) _ _ y c.then in
          as_was h c.first.scope y.scope (ap (λ (z : Typed). z.scope) (typed.gave p
          (plain ty.Int c.first.scope) y w.then))
          (expr_sees sc true e s l ea ok c.first c.gave)
      expr_sees sc _ _ s t (at_view _ pl v e x cls _ l _ ea is class runs) ok y g =
          let w = typed.view_found p h pl v e sc y g in
          as_was h w.first.scope y.scope w.scope (expr_sees sc true e s l ea ok w.first w.had)
      expr_sees sc _ _ s t (at_chain _ pl level e ls _ l _ ea links) ok y g =
          let c = then_came (expr_types h e sc) (λ x. links_typed h e.at x (typed_links h ls)) y
          (typed.asked p h (expr pl (node.Chain level e ls)) sc y _ ((forms_are.exprs h pl sc).chain level e ls) g) in
          links_sees c.first ls l t (links c.first c.gave) (expr_sees sc true e s l ea ok c.first c.gave) e.at y c.then

      args_sees : (xs : List Var) (es : List Expr) (sc : Scope) (passed : Passed) (s t : ℕ) (from to : List ℕ)
          → ArgsAt p n scratch it h from xs es to sc s t → SeesAs h sc
          → Gives p (args_typed h from xs (typed_args h es) to sc) (Ok passed) → SeesAs h passed.scope
      args_sees _ _ sc passed s t from to (no_args _ _ _ _ _ end) ok g =
          as_was h sc passed.scope (none_passed p h from [] to sc passed g) ok
      args_sees _ _ sc passed s t from to (one_arg _ x xs e es _ _ _ l _ ea rest) ok g =
          let f = first_passed p h from x xs e es to sc passed g in
          args_sees xs es (arg_passed from to x f.first).scope passed l t from
          (to ++ (arg_passed from to x f.first).path ∷ []) (rest f.first f.had)
          (named_sees h _ f.first.path f.first.scope (expr_sees sc true e s l ea ok f.first f.had)) f.rest

      parts_sees : (x : Typed) (keeps : Bool) (xs : List Suffix) (s t : ℕ) → PartsAt p n scratch it h x keeps xs s t
          → SeesAs h x.scope → (whole at : Place) (y : Typed)
          → Gives p (suffixes_typed whole at (typed_parts h xs) x) (Ok y) → SeesAs h y.scope
      parts_sees x _ _ s t (no_parts _ _ _ end) ok whole at y g =
          as_was h x.scope y.scope (ap (λ (z : Typed). z.scope) (typed.same_typed y x g)) ok
      parts_sees x keeps _ s t (last_part _ _ z _ _ part) ok whole at y g =
          let c = then_came (part_types h z at x) (suffixes_typed whole whole []) y g in
          as_was h c.first.scope y.scope (ap (λ (z : Typed). z.scope) (typed.same_typed y c.first c.then))
          (part_sees x keeps (out-Suffix z).name (out-Suffix z).args s t part ok at c.first c.gave)
      parts_sees x keeps _ s t (one_part _ _ z v vs _ l _ part rest) ok whole at y g =
          let c = then_came (part_types h z at x) (suffixes_typed whole whole (typed_parts h (v ∷ vs))) y g in
          parts_sees c.first keeps (v ∷ vs) l t (rest at c.first c.gave)
          (part_sees x true (out-Suffix z).name (out-Suffix z).args s l part ok at c.first c.gave) whole whole y c.then

      pub part_sees : (x : Typed) (keeps : Bool) (f : Named) (args : Option (List Expr)) (s t : ℕ)
          → PartAt p n scratch it h x keeps f.name args s t → SeesAs h x.scope → (at : Place) (y : Typed)
          → Gives p (suffix_typed h f (given_args h args) at x) (Ok y) → SeesAs h y.scope
      part_sees x _ f _ s t (at_field _ _ j kind_f _ _ sel kinds runs) ok at y g =
          let w = typed.field_found p h f at x y g in
          as_was h (path_of x.ty x).scope y.scope (ap (λ (z : Typed). z.scope) w.is)
          (named_sees h x.ty x.path x.scope ok)
      part_sees x keeps f _ s t (at_call _ _ _ es j shape _ l _ args shapes sel count runs) ok at y g =
          let w = typed.call_found p h f (typed_args h es) at x y g in
          as_was h w.passed.scope y.scope (ap (λ (z : Typed). z.scope) w.is)
          (args_sees w.header.vars es (path_of x.ty x).scope w.passed s l (replaced_paths w.header.vars)
          ((path_of x.ty x).path ∷ []) (args w.body w.header w.here w.head)
          (named_sees h x.ty x.path x.scope ok) w.args)

      links_sees : (x : Typed) (ls : List Link) (s t : ℕ) → LinksAt p n scratch it h x ls s t → SeesAs h x.scope
          → (at : Place) (y : Typed) → Gives p (links_typed h at x (typed_links h ls)) (Ok y) → SeesAs h y.scope
      links_sees x _ s t (no_links _ _ _ end) ok at y g =
          as_was h x.scope y.scope (ap (λ (z : Typed). z.scope) (typed.same_typed y x g)) ok
      links_sees x _ s t (one_link _ l ls kind_r _ a o _ strict ea is_kind runs rest) ok at y g =
          let c = operand_typed x l ls at y g in
          links_sees (plain (operator_type l.op) c.right.scope) ls o t (rest c.right c.had)
          (expr_sees x.scope true l.right s a ea ok c.right c.had) at y c.then
      links_sees x _ s t (one_deciding _ l ls and _ a o _ is at_one ea at_jump runs rest) ok at y g =
          let c = operand_typed x l ls at y g in
          links_sees (plain ty.Bool c.right.scope) ls o t (rest c.right c.had)
          (expr_sees x.scope true l.right (s + 1) a ea ok c.right c.had) at y
          (subst (λ (u : Ty). Gives p (links_typed h at (plain u c.right.scope) (typed_links h ls)) (Ok y))
          (decide_type l.op and is) c.then)
