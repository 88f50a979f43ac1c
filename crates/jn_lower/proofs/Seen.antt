-- What the scopes have in which the parts of an expression are typed: each path below 256 has the bound that it had.
use Rattle.std.proofs.Common.{◌≡◌, ℕ, List, [], ◌∷◌, ◌++◌, length, map, drop, reverse, Option, Some, None, Bool, true, false, ◌⊎◌, inl, inr, refl, sym, ap, ◌∙◌, subst, arith, append-nil}
use Rattle.std.specs.Prelude.{cond, nat_eq, ◌&&◌, Result, Ok, Err}
use Rattle.std.proofs.lemmas.Bool.{ne_eqb}
use Rattle.std.proofs.lemmas.List.{reverse-append, reverse-reverse, map-append}
use Rattle.jn_base.specs.declared.tree.Name.{Name}
use Rattle.jn_base.specs.declared.tree.Named.{Named}
use Rattle.jn_base.specs.declared.tree.Place.{Place}
use Rattle.jn_base.specs.declared.tree.Term.{Term}
use Rattle.jn_base.specs.declared.tree.ViewTerm.{ViewTerm}
use Rattle.jn_base.specs.declared.tree.Level.{Level}
use Rattle.jn_base.specs.declared.tree.Constraint.{Constraint}
use Rattle.jn_base.specs.declared.tree.Program.{Program}
use Rattle.jn_base.specs.declared.tree.Expr.{Expr, roll-Expr}
use Rattle.jn_base.specs.declared.tree.Link.{Link, roll-Link}
use Rattle.jn_base.specs.declared.tree.Suffix.{Suffix, out-Suffix, roll-Suffix, out-roll-Suffix}
use Rattle.jn_base.specs.declared.tree.Node.{Node, roll-Node}
use Rattle.jn_base.specs.declared.tree.Node.TheOpen.{Node-F, Suffix-F}
use Rattle.jn_base.specs.declared.tree.Node.TheFolds.{map-Node, map-Suffix, ind-Expr}
use Rattle.jn_base.specs.declared.tree.Node.TheVariants as node
use Rattle.jn_base.specs.declared.refusal.Refusal.{Refusal}
use Rattle.jn_base.specs.declared.refusal.Rule.TheVariants as rule
use Rattle.jn_base.specs.declared.types.Anchor.{Anchor}
use Rattle.jn_base.specs.declared.types.Anchor.TheVariants.{Root, Up}
use Rattle.jn_base.specs.declared.types.Atom.{Atom as ShownAtom}
use Rattle.jn_base.specs.declared.types.Ty.{Ty}
use Rattle.jn_base.specs.declared.types.Ty.TheVariants as ty
use Rattle.jn_base.specs.declared.types.ValKind.{ValKind}
use Rattle.jn_base.specs.declared.names.Var.{Var}
use Rattle.jn_base.specs.Parts.{expr}
use Rattle.jn_base.specs.Paths.{Path}
use Rattle.jn_base.specs.Atoms.{Atom, Among, first, later, atom_of, atoms_in, anchor_at, first_at}
use Rattle.jn_base.specs.Scopes.{Bind, Scope, bound_of, this_bind}
use Rattle.jn_base.specs.Resolve.{is_class, class_of, var_bind, var_named}
use Rattle.jn_base.specs.declared.names.Role.TheVariants as role
use Rattle.jn_sem.specs.Terms.{Site, spot_at}
use Rattle.jn_laws.specs.LawsOfWritten.{HeaderPath, of_this, of_param, HeaderPaths}
use Rattle.jn_laws.proofs.Lists.{among_left}
use Rattle.jn_laws.proofs.Terms.{reverse_among}
use Rattle.jn_sem.specs.Does.{Body}
use Rattle.jn_sem.specs.NormalFunction.{normal_type}
use Rattle.jn_rules.specs.Plans.{FoundField, IsBelow, Target, Pledge, target_type, Sharing, Holding, Refuted, MemberMark, Plan, done, refuse, note, ask, then_do, wants, taken}
use Rattle.jn_rules.specs.Questions.{Gives}
use Rattle.jn_rules.specs.Headers.{scope_of, header_typed}
use Rattle.jn_rules.specs.Exprs.{Here, Typed, Passed, of_class, of_name, first_bound, plain, of_path, of_new, fresh_with, next_path, path_of, path_or_fresh, put_in, type_passed, arg_passed, args_typed, mismatch, replaced_paths, note_kind, kind_of, gives, is_int, is_bool, is_null_type, is_object, takes, takes_both, operator_type, var_typed, var_gives, new_typed, made_exact, made_with, made_by, as_many, call_typed, result_gives, super_typed, super_gives, super_with, constraints_granted, header_grants, view_typed, viewed, viewed_as, by_sharing, shared_or, field_gives, field_type, method_gives, method_with, unmasked, suffix_typed, suffixes_typed, links_typed, expr_types}
use Rattle.jn_rules.specs.Forms.{typed_args, given_args, typed_expr, typed_parts, typed_links, part_types}
use Rattle.jn_rules.proofs.FormLaws.{forms_are}
use Rattle.jn_rules.proofs.PlanLaws.{then_came, wanted, took, found_was}
use Rattle.jn_rule_laws.specs.Behind.{MasksApart, none, one}
use Rattle.jn_lower.specs.Walks.{Low}

pub unlike : false ≡ true → ⊥
unlike e = cc

-- ---- scopes

pub low_itself : (s : Scope) → Low s s
low_itself s q l = refl

pub low_joined : (s t u : Scope) → Low s t → Low t u → Low s u
low_joined s t u a b q l = b q l ∙ a q l

pub low_same : (s t : Scope) → t ≡ s → Low s t
low_same s t e q l = ap (λ (u : Scope). bound_of u q) e

-- a bind of another path
pub bound_passed : (b : Bind) (s : Scope) (q : ℕ) → (b.path ≡ q → ⊥) → bound_of (b ∷ s) q ≡ bound_of s q
bound_passed b s q other =
    ap (λ (c : Bool). cond c (first_at (bound_of s) (atoms_in b.ty)) (bound_of s q)) (ne_eqb q b.path (λ e. other (sym e)))

-- a fresh path, which is numbered from 256
pub named_low : (t : Ty) (o : Option ℕ) (s : Scope) → Low s (path_or_fresh t o s).scope
named_low t (Some q) s r low = refl
named_low t None s q low =
    ap (λ (c : Bool). cond c (first_at (bound_of s) (atoms_in t)) (bound_of s q)) (ne_eqb q (next_path s) (λ e. omega (arith, e, low)))

-- ---- masks

anchor_same : (f g : ℕ → Path) → ((q : ℕ) → f q ≡ g q) → (a : Anchor) → anchor_at f a ≡ anchor_at g a
anchor_same f g same Root = refl
anchor_same f g same (Up q k) = ap (λ (R : Path). drop k R) (same q)

first_same : (f g : ℕ → Path) → ((q : ℕ) → f q ≡ g q) → (xs : List Atom) → first_at f xs ≡ first_at g xs
first_same f g same [] = refl
first_same f g same (x ∷ xs) = ap (λ (R : Path). x.names ++ (x.exact ++ R)) (anchor_same f g same x.anchor)

-- where the paths that are mentioned have the same classes
pub anchor_low : (f g : ℕ → Path) (a : Anchor) → ((q k : ℕ) → a ≡ Up q k → f q ≡ g q) → anchor_at f a ≡ anchor_at g a
anchor_low f g Root same = refl
anchor_low f g (Up q k) same = ap (λ (R : Path). drop k R) (same q k refl)

pub first_low : (f g : ℕ → Path) (xs : List Atom)
    → ((x : Atom) (q k : ℕ) → Among xs x → x.anchor ≡ Up q k → f q ≡ g q) → first_at f xs ≡ first_at g xs
first_low f g [] same = refl
first_low f g (x ∷ xs) same =
    ap (λ (R : Path). x.names ++ (x.exact ++ R)) (anchor_low f g x.anchor (λ q k e. same x q k first e))

-- the same scope but for masks has the same bounds
pub apart_bound : (s t : Scope) → MasksApart s t → (q : ℕ) → bound_of t q ≡ bound_of s q
apart_bound _ _ none q = refl
apart_bound _ _ (one {b} {c} {s} {t} one_apart more) q =
    at (nat_eq q c.path) (nat_eq q b.path) (ap (nat_eq q) one_apart.path) (apart_bound s t more) where
      at : (i j : Bool) → i ≡ j → ((r : ℕ) → bound_of t r ≡ bound_of s r)
          → cond i (first_at (bound_of t) (atoms_in c.ty)) (bound_of t q)
          ≡ cond j (first_at (bound_of s) (atoms_in b.ty)) (bound_of s q)
      at true true e below =
          ap (first_at (bound_of t)) one_apart.atoms ∙ first_same (bound_of t) (bound_of s) below (atoms_in b.ty)
      at false false e below = below q
      at true false e below = absurd (unlike (sym e))
      at false true e below = absurd (unlike e)

-- ---- the class of `this`

passed_over : (bs : List Bind) (s : Scope) → ((b : Bind) → Among bs b → b.path ≡ 0 → ⊥)
    → bound_of (bs ++ s) 0 ≡ bound_of s 0
passed_over [] s others = refl
passed_over (b ∷ bs) s others =
    bound_passed b (bs ++ s) 0 (others b first) ∙ passed_over bs s (λ c m. others c (later m))

pub var_of_bind : (vs : List Var) (b : Bind) → Among (map var_bind vs) b → (v : Var) × Among vs v × (b ≡ var_bind v)
var_of_bind [] b m = elim m [ ]
var_of_bind (v ∷ vs) _ first = (v, first, refl)
var_of_bind (v ∷ vs) b (later m) = let r = var_of_bind vs b m in (r.0, later r.1, r.2)

-- where no variable has the number of `this`
pub this_first : (at : Site) → ((v : Var) → Among at.vars v → v.path ≡ 0 → ⊥) → bound_of (scope_of at) 0 ≡ at.class
this_first at others =
    ap (λ (s : Scope). bound_of s 0) (reverse-append (this_bind C ∷ []) (map var_bind at.vars))
    ∙ passed_over (reverse (map var_bind at.vars)) (this_bind C ∷ []) other
    ∙ append-nil _ ∙ reverse-reverse C ∙ reverse-reverse at.class
  where
    C : Path
    C = class_of (spot_at at role.Value)

    other : (b : Bind) → Among (reverse (map var_bind at.vars)) b → b.path ≡ 0 → ⊥
    other b m e =
        let r = var_of_bind at.vars b (reverse_among (map var_bind at.vars) b m) in
        others r.0 r.1 (sym (ap (λ (c : Bind). c.path) r.2) ∙ e)

-- ---- one more variable

pub among_more : {A : Type 0} (xs : List A) (v u : A) → Among (xs ++ v ∷ []) u → Among xs u ⊎ (u ≡ v)
among_more [] v _ first = inr refl
among_more [] v u (later m) = elim m [ ]
among_more (x ∷ xs) v _ first = inl first
among_more (x ∷ xs) v u (later m) = further (among_more xs v u m) where
  further : Among xs u ⊎ (u ≡ v) → Among (x ∷ xs) u ⊎ (u ≡ v)
  further (inl m) = inl (later m)
  further (inr e) = inr e

pub scope_more : (at : Site) (v : Var)
    → scope_of (record { class = at.class; method = at.method; vars = at.vars ++ v ∷ [] }) ≡ var_bind v ∷ scope_of at
scope_more at v =
    ap (λ (bs : List Bind). reverse (this_bind (class_of (spot_at at role.Value)) ∷ bs)) (map-append var_bind at.vars (v ∷ []))
    ∙ reverse-append (this_bind (class_of (spot_at at role.Value)) ∷ map var_bind at.vars) (var_bind v ∷ [])

pub paths_more : (vs : List Var) (v : Var) (t : Ty) → HeaderPaths vs t → HeaderPaths (vs ++ v ∷ []) t
paths_more vs v t own x q k m e = at (own x q k m e) where
  at : HeaderPath vs q → HeaderPath (vs ++ v ∷ []) q
  at (of_this i) = of_this i
  at (of_param y n i f c) = of_param y (among_left vs (v ∷ []) n) i f c

-- ---- what is answered

typed_same : (y x : Typed) → (let a : Result Typed Refusal = Ok y in let b : Result Typed Refusal = Ok x in a ≡ b)
    → y ≡ x
typed_same y x e = cc

not_typed : (y : Typed) (r : Refusal)
    → (let a : Result Typed Refusal = Ok y in let b : Result Typed Refusal = Err r in a ≡ b) → ⊥
not_typed y r e = cc

passed_same : (y x : Passed) → (let a : Result Passed Refusal = Ok y in let b : Result Passed Refusal = Ok x in a ≡ b)
    → y ≡ x
passed_same y x e = cc

gave : (p : Program) (x y : Typed) → Gives p (gives x) (Ok y) → y ≡ x
gave p x y g = at (kind_of x.ty) g where
  at : (o : Option ValKind) → Gives p (note_kind o (done x)) (Ok y) → y ≡ x
  at None e = typed_same y x e
  at (Some k) e = typed_same y x e

-- what is given has the scope of what it is
given_low : (p : Program) (s : Scope) (x y : Typed) → Low s x.scope → Gives p (gives x) (Ok y) → Low s y.scope
given_low p s x y low g = subst (λ (z : Typed). Low s z.scope) (sym (gave p x y g)) low

module _ (p : Program) (h : Here) where
  abbrev pub ExprLow : Expr → Type 0
  ExprLow e = (s : Scope) (t : Typed) → Gives p (expr_types h e s) (Ok t) → Low s t.scope

  abbrev pub SuffixLow : Suffix → Type 0
  SuffixLow z = (at : Place) (x t : Typed) → Gives p (part_types h z at x) (Ok t) → Low x.scope t.scope

  abbrev exprs_of : List ((e : Expr) × ExprLow e) → List Expr
  exprs_of es = map (λ e. e.0) es

  asked : (e : Expr) (s : Scope) (t : Typed) (x : Plan Typed) → expr_types h e s ≡ x
      → Gives p (expr_types h e s) (Ok t) → Gives p x (Ok t)
  asked e s t x is g = subst (λ (y : Plan Typed). Gives p y (Ok t)) is g

  -- ---- arguments

  args_told : (from : List ℕ) (xs : List Var) (es : List ((e : Expr) × ExprLow e)) (to : List ℕ) (s : Scope)
      (y : Passed) → Gives p (args_typed h from xs (typed_args h (exprs_of es)) to s) (Ok y) → Low s y.scope
  args_told from [] es to s y g = low_same s y.scope (ap (λ (z : Passed). z.scope) (passed_same y _ g))
  args_told from (x ∷ xs) [] to s y g = low_same s y.scope (ap (λ (z : Passed). z.scope) (passed_same y _ g))
  args_told from (x ∷ xs) (e ∷ es) to s y g =
      let c = then_came (expr_types h e.0 s) (λ t. ask (IsBelow t.scope t.ty (put_in t.scope from to x.ty)) (λ ok. wants ok (mismatch h e.0.at) (more t))) y g in
      let w = wanted c.then.0 _ _ y c.then.2 in
      low_joined s c.first.scope y.scope (e.1 s c.first c.gave)
      (low_joined c.first.scope (arg_passed from to x c.first).scope y.scope
      (named_low (type_passed c.first.ty (put_in c.first.scope from to x.ty)) c.first.path c.first.scope)
      (args_told from xs es (to ++ (arg_passed from to x c.first).path ∷ []) (arg_passed from to x c.first).scope y w.then))
    where
      more : Typed → Plan Passed
      more t = args_typed h from xs (typed_args h (exprs_of es)) (to ++ (arg_passed from to x t).path ∷ []) (arg_passed from to x t).scope

  -- ---- what stands behind a dot

  field_low : (f : Named) (x t : Typed) (c : FoundField) → Gives p (field_gives f x c) (Ok t) → Low x.scope t.scope
  field_low f x t c g = at g.0 g.2 where
    at : (m : Bool) → Gives p (cond m (refuse (of_class rule.E19 (first_bound x) f f.name))
        (note (MemberMark c.class) (gives (plain (field_type c (path_of x.ty x)) (path_of x.ty x).scope)))) (Ok t)
        → Low x.scope t.scope
    at true e = absurd (not_typed t _ e)
    at false e = given_low p x.scope (plain (field_type c (path_of x.ty x)) (path_of x.ty x).scope) t
        (named_low x.ty x.path x.scope) e

  method_low : (m : Named) (es : List ((e : Expr) × ExprLow e)) (x t : Typed) (b : Body)
      → Gives p (method_gives h m (typed_args h (exprs_of es)) x b) (Ok t) → Low x.scope t.scope
  method_low m es x t b g = at g.0 g.2 where
    at : (o : Option Name)
        → Gives p (unmasked x m (then_do (header_typed b) (method_with h m (typed_args h (exprs_of es)) x b)) o) (Ok t)
        → Low x.scope t.scope
    at (Some f) e = absurd (not_typed t _ e)
    at None e =
        let k = then_came (header_typed b) (method_with h m (typed_args h (exprs_of es)) x b) t e in
        let w = wanted (as_many k.first (typed_args h (exprs_of es))) _ _ t k.then in
        let d = then_came (call_typed h k.first (typed_args h (exprs_of es)) (path_of x.ty x)) (result_gives k.first) t w.then in
        given_low p x.scope (plain (put_in d.first.scope (replaced_paths k.first.vars) d.first.paths k.first.result) d.first.scope) t
        (low_joined x.scope (path_of x.ty x).scope d.first.scope (named_low x.ty x.path x.scope)
        (args_told (replaced_paths k.first.vars) k.first.vars es ((path_of x.ty x).path ∷ []) (path_of x.ty x).scope d.first d.gave))
        d.then

  part_none : (f : Named) (at : Place) (x t : Typed) → Gives p (suffix_typed h f None at x) (Ok t)
      → Low x.scope t.scope
  part_none f at x t g =
      let w = wanted (is_class x.ty) _ _ t g in
      let c = found_was w.then.0 _ (field_gives f x) t w.then.2 in
      field_low f x t c.given c.then

  part_some : (f : Named) (es : List ((e : Expr) × ExprLow e)) (at : Place) (x t : Typed)
      → Gives p (suffix_typed h f (Some (typed_args h (exprs_of es))) at x) (Ok t) → Low x.scope t.scope
  part_some f es at x t g =
      let w = wanted (is_class x.ty) _ _ t g in
      let c = found_was w.then.0 _ (method_gives h f (typed_args h (exprs_of es)) x) t w.then.2 in
      method_low f es x t c.given c.then

  parts_told : (whole at : Place) (zs : List ((z : Suffix) × SuffixLow z)) (x t : Typed)
      → Gives p (suffixes_typed whole at (typed_parts h (map (λ z. z.0) zs)) x) (Ok t) → Low x.scope t.scope
  parts_told whole at [] x t g = low_same x.scope t.scope (ap (λ (z : Typed). z.scope) (typed_same t x g))
  parts_told whole at (z ∷ zs) x t g =
      let c = then_came (part_types h z.0 at x) (suffixes_typed whole whole (typed_parts h (map (λ z. z.0) zs))) t g in
      low_joined x.scope c.first.scope t.scope (z.1 at x c.first c.gave) (parts_told whole whole zs c.first t c.then)

  -- ---- operators

  links_told : (at : Place) (ls : List ((l : Link) × ExprLow l.right)) (x t : Typed)
      → Gives p (links_typed h at x (typed_links h (map (λ l. l.0) ls))) (Ok t) → Low x.scope t.scope
  links_told at [] x t g = low_same x.scope t.scope (ap (λ (z : Typed). z.scope) (typed_same t x g))
  links_told at (l ∷ ls) x t g =
      let w = wanted (takes l.0.op x.ty) _ _ t g in
      let c = then_came (expr_types h l.0.right x.scope) _ t w.then in
      let v = wanted (takes l.0.op c.first.ty) _ _ t c.then in
      let u = wanted (takes_both l.0.op x.ty c.first.ty) _ _ t v.then in
      let z = then_came (gives (plain (operator_type l.0.op) c.first.scope))
      (λ z. links_typed h at z (typed_links h (map (λ l. l.0) ls))) t u.then in
      low_joined x.scope c.first.scope t.scope (l.1 x.scope c.first c.gave)
      (low_joined c.first.scope z.first.scope t.scope
      (given_low p c.first.scope (plain (operator_type l.0.op) c.first.scope) z.first (low_itself c.first.scope) z.gave)
      (links_told at ls z.first t z.then))

  -- ---- variables

  var_low : (at : Place) (x : Name) (s : Scope) (t : Typed) (o : Option Var) → Gives p (var_gives h at x s o) (Ok t)
      → Low s t.scope
  var_low at x s t None g = absurd (not_typed t _ g)
  var_low at x s t (Some v) g = given_low p s (var_typed v s) t (by (v.fixed && is_class v.ty)) g where
    by : (c : Bool) → Low s (cond c (of_path v.path s) (plain v.ty s)).scope
    by true = low_itself s
    by false = low_itself s

  -- ---- `new`, `super` and views

  made_low : (at : Place) (es : List ((e : Expr) × ExprLow e)) (s : Scope) (u : Ty) (t : Typed) (o : Option Body)
      → Gives p (made_with h at (typed_args h (exprs_of es)) s u o) (Ok t) → Low s t.scope
  made_low at es s u t None g =
      let w = wanted (nat_eq (length (typed_args h (exprs_of es))) 0) _ _ t g in
      given_low p s (of_new u (fresh_with u s) (fresh_with u s).scope) t (named_low u None s) w.then
  made_low at es s u t (Some b) g =
      let k = then_came (header_typed b) (made_by h at (typed_args h (exprs_of es)) s u b) t g in
      let w = wanted (as_many k.first (typed_args h (exprs_of es))) _ _ t k.then in
      let c = then_came (call_typed h k.first (typed_args h (exprs_of es)) (fresh_with u s))
      (λ x. gives (of_new u (fresh_with u s) x.scope)) t w.then in
      given_low p s (of_new u (fresh_with u s) c.first.scope) t
      (low_joined s (fresh_with u s).scope c.first.scope (named_low u None s)
      (args_told (replaced_paths k.first.vars) k.first.vars es ((fresh_with u s).path ∷ []) (fresh_with u s).scope c.first c.gave))
      c.then

  granted_low : (b : Body) (m : Named) (s : Scope) (go : Plan Typed) (t : Typed) (ks : List Constraint) (r : Scope)
      → (Gives p go (Ok t) → Low r t.scope) → Gives p (constraints_granted h b m s ks go) (Ok t) → Low r t.scope
  granted_low b m s go t [] r end g = end g
  granted_low b m s go t (k ∷ ks) r end g =
      at g.0 g.2 (granted_low b m s go t ks r end) where
        at : (o : Result Pledge Refusal) → Gives p (taken (λ x.
            then_do (header_grants h s (normal_type s (target_type x.from)) x.to) (λ ok.
            wants ok (of_name rule.E25 h m.at m.name) (constraints_granted h b m s ks go))) o) (Ok t)
            → (Gives p (constraints_granted h b m s ks go) (Ok t) → Low r t.scope) → Low r t.scope
        at (Err r) e again = absurd (not_typed t r e)
        at (Ok x) e again =
            let d = then_came (header_grants h s (normal_type s (target_type x.from)) x.to)
            (λ ok. wants ok (of_name rule.E25 h m.at m.name) (constraints_granted h b m s ks go)) t e in
            let w = wanted d.first (of_name rule.E25 h m.at m.name) (constraints_granted h b m s ks go) t d.then in
            again w.then

  upward_low : (t : Term) (m : Named) (es : List ((e : Expr) × ExprLow e)) (s : Scope) (a : ShownAtom) (x : Typed)
      → Gives p (super_typed h t m (typed_args h (exprs_of es)) s a) (Ok x) → Low s x.scope
  upward_low t m es s a x g =
      let w = wanted g.0 _ _ x g.2 in
      let c = found_was w.then.0 _ (super_gives h m (typed_args h (exprs_of es)) s) x w.then.2 in
      let k = then_came (header_typed c.given) (super_with h m (typed_args h (exprs_of es)) s c.given) x c.then in
      let u = wanted (as_many k.first (typed_args h (exprs_of es))) _ _ x k.then in
      let d = then_came (call_typed h k.first (typed_args h (exprs_of es)) (record { path = 0; scope = s }))
      (λ z. constraints_granted h c.given m z.scope c.given.method.sharing (result_gives k.first z)) x u.then in
      granted_low c.given m d.first.scope (result_gives k.first d.first) x c.given.method.sharing s
      (given_low p s (plain (put_in d.first.scope (replaced_paths k.first.vars) d.first.paths k.first.result) d.first.scope) x
      (args_told (replaced_paths k.first.vars) k.first.vars es (0 ∷ []) s d.first d.gave)) d.then

  viewed_low : (at : Place) (u : Target) (x t : Typed) → Gives p (viewed h at u x) (Ok t) → Low x.scope t.scope
  viewed_low at u x t g = null (is_null_type x.ty) g where
    so : Gives p (gives (viewed_as u x.scope)) (Ok t) → Low x.scope t.scope
    so e = given_low p x.scope (viewed_as u x.scope) t (low_itself x.scope) e

    shared : (o : Sharing) → Gives p (shared_or at (viewed_as u x.scope) o) (Ok t) → Low x.scope t.scope
    shared Holding e = so e
    shared (Refuted U f) e = absurd (not_typed t _ e)

    sharing : (a : Anchor) → Gives p (by_sharing at x.scope x.ty u (viewed_as u x.scope) a) (Ok t)
        → Low x.scope t.scope
    sharing Root e = shared e.0 e.2
    sharing (Up q k) e = absurd (not_typed t _ e)

    granted : (c : Bool) → Gives p (cond c (gives (viewed_as u x.scope))
        (by_sharing at x.scope x.ty u (viewed_as u x.scope) u.atom.anchor)) (Ok t) → Low x.scope t.scope
    granted true e = so e
    granted false e = sharing u.atom.anchor e

    null : (c : Bool) → Gives p (cond c (gives (viewed_as u x.scope)) (then_do (header_grants h x.scope x.ty u)
        (λ ok. cond ok (gives (viewed_as u x.scope))
        (by_sharing at x.scope x.ty u (viewed_as u x.scope) u.atom.anchor)))) (Ok t) → Low x.scope t.scope
    null true e = so e
    null false e = let c = then_came (header_grants h x.scope x.ty u) _ t e in granted c.first c.then

  -- ---- by the tree

  abbrev NodeLow : Node → Type 0
  NodeLow m = (at : Place) → ExprLow (expr at m)

  abbrev LinkLow : Link → Type 0
  LinkLow l = ExprLow l.right

  abbrev ToldNode : Type 0
  ToldNode = Node-F ((m : Node) × NodeLow m) ((e : Expr) × ExprLow e) ((l : Link) × LinkLow l) ((x : Suffix) × SuffixLow x)

  abbrev layer : ToldNode → Node-F Node Expr Link Suffix
  layer = map-Node _ _ _ _ _ _ _ _ (λ e. e.0) (λ e. e.0) (λ e. e.0) (λ e. e.0)

  post_low : (at : Place) (e : Expr) (zs : List ((z : Suffix) × SuffixLow z)) → ExprLow e
      → ExprLow (expr at (node.Post e (map (λ z. z.0) zs)))
  post_low at e zs told s t g =
      let c = then_came (expr_types h e s) (suffixes_typed at e.at (typed_parts h (map (λ z. z.0) zs))) t
      (asked (expr at (node.Post e (map (λ z. z.0) zs))) s t _ ((forms_are.exprs h at s).post e (map (λ z. z.0) zs)) g) in
      low_joined s c.first.scope t.scope (told s c.first c.gave) (parts_told at e.at zs c.first t c.then)

  chain_low : (at : Place) (level : Level) (e : Expr) (ls : List ((l : Link) × LinkLow l)) → ExprLow e
      → ExprLow (expr at (node.Chain level e (map (λ l. l.0) ls)))
  chain_low at level e ls told s t g =
      let c = then_came (expr_types h e s) (λ x. links_typed h e.at x (typed_links h (map (λ l. l.0) ls))) t
      (asked (expr at (node.Chain level e (map (λ l. l.0) ls))) s t _ ((forms_are.exprs h at s).chain level e (map (λ l. l.0) ls)) g) in
      low_joined s c.first.scope t.scope (told s c.first c.gave) (links_told e.at ls c.first t c.then)

  new_low : (at : Place) (u : Term) (es : List ((e : Expr) × ExprLow e)) → ExprLow (expr at (node.New u (exprs_of es)))
  new_low at u es s t g =
      let a = asked (expr at (node.New u (exprs_of es))) s t _ ((forms_are.exprs h at s).new u (exprs_of es)) g in
      let r = took a.0 (new_typed h at (typed_args h (exprs_of es)) s) t a.2 in
      made_low at es s (normal_type s (made_exact (atom_of r.given))) t r.then.0 r.then.2

  super_low : (at : Place) (u : Term) (m : Named) (es : List ((e : Expr) × ExprLow e))
      → ExprLow (expr at (node.Super u m (exprs_of es)))
  super_low at u m es s t g =
      let a = asked (expr at (node.Super u m (exprs_of es))) s t _ ((forms_are.exprs h at s).super u m (exprs_of es)) g in
      let r = took a.0 (super_typed h u m (typed_args h (exprs_of es)) s) t a.2 in
      upward_low u m es s r.given t r.then

  view_low : (at : Place) (v : ViewTerm) (e : Expr) → ExprLow e → ExprLow (expr at (node.View v e))
  view_low at v e told s t g =
      let a = asked (expr at (node.View v e)) s t _ ((forms_are.exprs h at s).view v e) g in
      let r = took a.0 (view_typed h at (typed_expr h e) s) t a.2 in
      let c = then_came (expr_types h e s) _ t r.then in
      let w = wanted (is_object c.first.ty) _ _ t c.then in
      low_joined s c.first.scope t.scope (told s c.first c.gave) (viewed_low at r.given c.first t w.then)

  invert_low : (at : Place) (e : Expr) → ExprLow e → ExprLow (expr at (node.Not e))
  invert_low at e told s t g =
      let c = then_came (expr_types h e s) _ t
      (asked (expr at (node.Not e)) s t _ ((forms_are.exprs h at s).invert e) g) in
      let w = wanted (is_bool c.first.ty) _ _ t c.then in
      low_joined s c.first.scope t.scope (told s c.first c.gave)
      (given_low p c.first.scope (plain ty.Bool c.first.scope) t (low_itself c.first.scope) w.then)

  negate_low : (at : Place) (e : Expr) → ExprLow e → ExprLow (expr at (node.Neg e))
  negate_low at e told s t g =
      let c = then_came (expr_types h e s) _ t
      (asked (expr at (node.Neg e)) s t _ ((forms_are.exprs h at s).negate e) g) in
      let w = wanted (is_int c.first.ty) _ _ t c.then in
      low_joined s c.first.scope t.scope (told s c.first c.gave)
      (given_low p c.first.scope (plain ty.Int c.first.scope) t (low_itself c.first.scope) w.then)

  node_low : (y : ToldNode) → NodeLow (roll-Node (layer y))
  node_low (Node-F.Int z) = subst NodeLow (sym (node.rolls-Int z)) (λ at s t g.
      given_low p s (plain ty.Int s) t (low_itself s) (asked (expr at (node.Int z)) s t _ ((forms_are.exprs h at s).number z) g))
  node_low (Node-F.Bool z) = subst NodeLow (sym (node.rolls-Bool z)) (λ at s t g.
      given_low p s (plain ty.Bool s) t (low_itself s) (asked (expr at (node.Bool z)) s t _ ((forms_are.exprs h at s).truth z) g))
  node_low Node-F.Null = subst NodeLow (sym node.rolls-Null) (λ at s t g.
      given_low p s (plain ty.Null s) t (low_itself s) (asked (expr at node.Null) s t _ (forms_are.exprs h at s).null g))
  node_low Node-F.This = subst NodeLow (sym node.rolls-This) (λ at s t g.
      given_low p s (of_path 0 s) t (low_itself s) (asked (expr at node.This) s t _ (forms_are.exprs h at s).this g))
  node_low (Node-F.Var x) = subst NodeLow (sym (node.rolls-Var x)) (λ at s t g.
      var_low at x s t (var_named (record { list = h.vars }) x)
      (asked (expr at (node.Var x)) s t _ ((forms_are.exprs h at s).var x) g))
  node_low (Node-F.New t es) = subst NodeLow (sym (node.rolls-New t (exprs_of es))) (λ at. new_low at t es)
  node_low (Node-F.Super t m es) = subst NodeLow (sym (node.rolls-Super t m (exprs_of es))) (λ at. super_low at t m es)
  node_low (Node-F.Post e ss) = subst NodeLow (sym (node.rolls-Post e.0 (map (λ x. x.0) ss)))
      (λ at. post_low at e.0 ss e.1)
  node_low (Node-F.Not e) = subst NodeLow (sym (node.rolls-Not e.0)) (λ at. invert_low at e.0 e.1)
  node_low (Node-F.Neg e) = subst NodeLow (sym (node.rolls-Neg e.0)) (λ at. negate_low at e.0 e.1)
  node_low (Node-F.View v e) = subst NodeLow (sym (node.rolls-View v e.0)) (λ at. view_low at v e.0 e.1)
  node_low (Node-F.Chain level e ls) = subst NodeLow (sym (node.rolls-Chain level e.0 (map (λ l. l.0) ls)))
      (λ at. chain_low at level e.0 ls e.1)

  abbrev ToldSuffix : Type 0
  ToldSuffix = Suffix-F ((m : Node) × NodeLow m) ((e : Expr) × ExprLow e) ((l : Link) × LinkLow l) ((x : Suffix) × SuffixLow x)

  abbrev layer_suffix : ToldSuffix → Suffix-F Node Expr Link Suffix
  layer_suffix = map-Suffix _ _ _ _ _ _ _ _ (λ e. e.0) (λ e. e.0) (λ e. e.0) (λ e. e.0)

  suffix_told : (y : ToldSuffix) → SuffixLow (roll-Suffix (layer_suffix y))
  suffix_told y at x t g =
      by y.args (subst (λ (z : Suffix-F Node Expr Link Suffix). Gives p (suffix_typed h z.name (given_args h z.args) at x) (Ok t))
      (out-roll-Suffix (layer_suffix y)) g)
    where
      by : (o : Option (List ((e : Expr) × ExprLow e)))
          → (let z = layer_suffix (record { name = y.name; args = o }) in
          Gives p (suffix_typed h z.name (given_args h z.args) at x) (Ok t)) → Low x.scope t.scope
      by None e = part_none y.name at x t e
      by (Some es) e = part_some y.name es at x t e

  pub expr_low : (e : Expr) → ExprLow e
  expr_low = ind-Expr NodeLow ExprLow LinkLow SuffixLow
      (λ x y is. subst (λ z. NodeLow (roll-Node z)) is (node_low y))
      (λ x y is. subst (λ z. ExprLow (roll-Expr z)) is (y.node.1 y.at))
      (λ x y is. subst (λ z. LinkLow (roll-Link z)) is y.right.1)
      (λ x y is. subst (λ z. SuffixLow (roll-Suffix z)) is (suffix_told y))

  -- ---- the same of lists as they stand

  told : List Expr → List ((e : Expr) × ExprLow e)
  told [] = []
  told (e ∷ es) = (e, expr_low e) ∷ told es

  told_are : (es : List Expr) → exprs_of (told es) ≡ es
  unfolding told
  told_are [] = refl
  told_are (e ∷ es) = ap (λ (l : List Expr). e ∷ l) (told_are es)

  pub args_low : (from : List ℕ) (xs : List Var) (es : List Expr) (to : List ℕ) (s : Scope) (y : Passed)
      → Gives p (args_typed h from xs (typed_args h es) to s) (Ok y) → Low s y.scope
  args_low from xs es to s y =
      subst (λ (l : List Expr). Gives p (args_typed h from xs (typed_args h l) to s) (Ok y) → Low s y.scope)
      (told_are es) (args_told from xs (told es) to s y)

  pub part_low : (z : Suffix) → SuffixLow z
  part_low z at x t g = by (out-Suffix z).args g where
    by : (o : Option (List Expr)) → Gives p (suffix_typed h (out-Suffix z).name (given_args h o) at x) (Ok t)
        → Low x.scope t.scope
    by None e = part_none (out-Suffix z).name at x t e
    by (Some es) e = part_some (out-Suffix z).name (told es) at x t
        (subst (λ (l : List Expr). Gives p (suffix_typed h (out-Suffix z).name (Some (typed_args h l)) at x) (Ok t))
        (sym (told_are es)) e)
