-- Types and paths that fit: in later pools and scopes, and by the place where they stand.
use Rattle.std.proofs.Common.{◌≡◌, ◌++◌, ◌<◌, ℕ, List, [], ◌∷◌, length, Bool, true, false, Option, Some, None, refl, sym, ap, ◌∙◌, subst, append-nil, append_assoc}
use Rattle.std.specs.Prelude.{cond, nat_eq, reverse, ◌&&◌}
use Rattle.jn_base.specs.declared.tree.Name.{Name}
use Rattle.jn_base.specs.declared.tree.Op.{Op}
use Rattle.jn_base.specs.declared.tree.Op.TheVariants as op
use Rattle.jn_base.specs.declared.tree.Program.{Program}
use Rattle.jn_base.specs.declared.tree.Method.{Method}
use Rattle.jn_base.specs.declared.names.Role.TheVariants as role
use Rattle.jn_base.specs.declared.names.Var.{Var}
use Rattle.jn_base.specs.declared.types.Ty.{Ty}
use Rattle.jn_base.specs.declared.types.Ty.TheVariants as ty
use Rattle.jn_base.specs.Paths.{Path}
use Rattle.jn_base.specs.Atoms.{Atom, atoms_in, Among, first, later}
use Rattle.jn_base.specs.Scopes.{Bind as TypeBind, Scope as TypeScope, bound_of, bound, Binds}
use Rattle.jn_base.specs.Fits.{Anchored, TypeFits, BindsFit}
use Rattle.jn_base.specs.Resolve.{is_class, newest, var_named}
use Rattle.jn_sem.specs.Normal.{swapped, MovedFits}
use Rattle.jn_sem.specs.Terms.{Site}
use Rattle.jn_sem.proofs.Under.{bound_later, type_later, type_anchored, fits_whole}
use Rattle.jn_intern.specs.declared.pool.TyId.{TyId}
use Rattle.jn_intern.specs.declared.scope.Bind.{Bind}
use Rattle.jn_intern.specs.declared.scope.Scope.{Scope}
use Rattle.jn_intern.specs.Pools.{InPool, shown, Keeps, scope_in}
use Rattle.jn_intern.proofs.Pools.{scope_kept}
use Rattle.jn_subtype.specs.Binds.{binds_in}
use Rattle.jn_laws.specs.LawsOfScopes.{ScopesAlike, none as none_alike, one as one_alike}
use Rattle.jn_laws.specs.LawsOfWritten.{Shallow, scope_of, SiteFits}
use Rattle.jn_laws.specs.LawsOfSources.{WellFormed}
use Rattle.jn_laws.proofs.AlikeScopes.{binds_like, bounds_like}
use Rattle.jn_laws.proofs.Terms.{Mentioned, this, variable, path_there, var_among, reverse_among}
use Rattle.jn_rules.specs.Plans.{FoundField}
use Rattle.jn_rules.specs.Questions.{FirstWith, first as first_with, later as later_with, IsFoundField}
use Rattle.jn_rules.specs.Exprs.{Typed, Passing, bind, next_path, path_or_fresh, plain, of_path, path_type, operator_type, type_passed, is_null_type, site_here}
use Rattle.jn_rule_laws.specs.LawsOfForms.{Grown, none as none_grown, more as more_grown, ScopeFor, PathKnown}
use Rattle.jn_rule_laws.proofs.KnownTypes.{path_types_fit, bound_older, for_known, path_known, of_path_known, fresh_known}
use Rattle.jn_expr.specs.declared.env.Env.{Env}
use Rattle.jn_expr.specs.declared.env.Value.{Value}
use Rattle.jn_expr.specs.declared.values.Known.{Known}
use Rattle.jn_expr.specs.Envs.{IsScope, IsThere, Stays, here_at}
use Rattle.jn_expr.specs.Passing.{Grows, IsPassing, passing_in}
use Rattle.jn_expr.specs.Values.{typed_in, TypedFits}
use Rattle.jn_expr.specs.Variables.{PathThere, VarFits, IsKnown, KnownIs}
use Rattle.jn_expr.proofs.Fitting.{not_class}
use Rattle.jn_expr.proofs.Scopes.{one_more, vars_stay}

-- ---- types without atoms

pub truth_fits : (s : TypeScope) → TypeFits s ty.Bool
truth_fits s = not_class s ty.Bool (λ c. c)

pub number_fits : (s : TypeScope) → TypeFits s ty.Int
number_fits s = not_class s ty.Int (λ c. c)

pub no_object_fits : (s : TypeScope) → TypeFits s ty.Null
no_object_fits s = not_class s ty.Null (λ c. c)

pub operator_fits : (s : TypeScope) (o : Op) → TypeFits s (operator_type o)
operator_fits s op.Add = number_fits s
operator_fits s op.Sub = number_fits s
operator_fits s op.Mul = number_fits s
operator_fits s op.Div = number_fits s
operator_fits s op.Rem = number_fits s
operator_fits s op.Or = truth_fits s
operator_fits s op.And = truth_fits s
operator_fits s op.Eq = truth_fits s
operator_fits s op.Ne = truth_fits s
operator_fits s op.Lt = truth_fits s
operator_fits s op.Le = truth_fits s
operator_fits s op.Gt = truth_fits s
operator_fits s op.Ge = truth_fits s

pub passed_fits : (s : TypeScope) (t want u : Ty) → u ≡ type_passed t want → TypeFits s t → TypeFits s want → TypeFits s u
passed_fits s t want u e f g = subst (TypeFits s) (sym e) (by (is_null_type t)) where
  by : (b : Bool) → TypeFits s (cond b want t)
  by true = g
  by false = f

-- ---- values

no_path : (q : ℕ) → (let o : Option ℕ = None in o ≡ Some q) → ⊥
no_path q e = cc

some_path : (q r : ℕ) → (let o : Option ℕ = Some q in o ≡ Some r) → q ≡ r
some_path q r e = cc

pub plain_fits : (s : TypeScope) (t : Ty) → TypeFits s t → TypedFits (plain t s)
plain_fits s t f = record { type = f; path = λ q e. absurd (no_path q e); class = λ q e. absurd (no_path q e) }

pub path_fits : (s : TypeScope) (q : ℕ) → BindsFit s → PathThere s q → TypedFits (of_path q s)
path_fits s q f h = record {
  type = (path_known s q f h.bound_in h.long).fits;
  path = λ r e. subst (λ (n : ℕ). PathKnown s n (path_type s q)) (some_path q r e) (of_path_known s q h.bound_in);
  class = λ r e. refl;
}

-- a fresh path of a class type
pub fresh_fits : (s : TypeScope) (q : ℕ) (t : Ty) → is_class t ≡ true → TypeFits s t → BindsFit (bind q t ∷ s) → TypedFits (record { ty = t; path = Some q; scope = bind q t ∷ s })
fresh_fits s q t c f g = record {
  type = type_later g f;
  path = λ r e. subst (λ (n : ℕ). PathKnown (bind q t ∷ s) n t) (some_path q r e) (fresh_known s q t g);
  class = λ r e. c;
}

-- ---- later scopes

pub fits_grown : {s t : TypeScope} {u : Ty} → Grown s t → BindsFit t → TypeFits s u → TypeFits t u
fits_grown none_grown f k = k
fits_grown (more_grown g) f k = type_later f (fits_grown g f.0 k)

pub binds_grown : {s t : TypeScope} → Grown s t → (q : ℕ) → Binds s q → Binds t q
binds_grown none_grown q b = b
binds_grown (more_grown g) q b = let n = binds_grown g q b in record { bind = n.bind; among = later n.among; is = n.is }

pub bounds_grown : {s t : TypeScope} → Grown s t → BindsFit t → (q : ℕ) → Binds s q → bound_of t q ≡ bound_of s q
bounds_grown none_grown f q b = refl
bounds_grown (more_grown g) f q b = bound_older f q (binds_grown g q b) ∙ bounds_grown g f.0 q b

pub path_grown : {s t : TypeScope} {u : Ty} (q : ℕ) → Grown s t → BindsFit t → TypeFits s u → PathKnown s q u → PathKnown t q u
path_grown q none_grown f k n = n
path_grown {u = u} q (more_grown {t = t} {b = b} g) f k n =
    let o = path_grown q g f.0 k n in record {
      bound_in = record { bind = o.bound_in.bind; among = later o.bound_in.among; is = o.bound_in.is };
      depth = λ x m. ap length (bound_older f q o.bound_in) ∙ o.depth x m ∙ sym (ap length (bound_later f x (type_anchored (fits_grown g f.0 k) x m)));
    }

pub joined : {s t u : TypeScope} → Grown s t → Grown t u → Grown s u
joined g none_grown = g
joined g (more_grown k) = more_grown (joined g k)

binds_more : (pool : List Ty) (xs more : List Bind) → Grown (binds_in pool xs) (binds_in pool (xs ++ more))
binds_more pool xs [] = subst (λ (l : List Bind). Grown (binds_in pool xs) (binds_in pool l)) (sym (append-nil xs)) none_grown
binds_more pool xs (b ∷ more) =
    joined (subst (Grown (binds_in pool xs)) (sym (one_more pool xs b)) (more_grown none_grown))
    (subst (λ (l : List Bind). Grown (binds_in pool (xs ++ b ∷ [])) (binds_in pool l)) (append_assoc xs (b ∷ []) more) (binds_more pool (xs ++ b ∷ []) more))

pub scope_grown : (pool : List Ty) (old new : Scope) → Grows old new → Grown (scope_in pool old) (scope_in pool new)
scope_grown pool old new g =
    subst (λ (l : List Bind). Grown (binds_in pool old.binds.items) (binds_in pool l)) (sym g.is) (binds_more pool old.binds.items g.more)

-- ---- later pools

pub fits_kept : {old new : List Ty} {scope : Scope} {id : TyId} → IsScope old scope → Keeps old new → InPool old id → TypeFits (scope_in old scope) (shown old id)
    → TypeFits (scope_in new scope) (shown new id)
fits_kept {old} {new} {scope} {id} s k has f =
    subst (λ (c : TypeScope). TypeFits c (shown new id)) (sym (scope_kept scope s.known k)) (subst (TypeFits (scope_in old scope)) (sym (k.shows id has)) f)

pub written_kept : {old new : List Ty} {scope : Scope} {t : Ty} → IsScope old scope → Keeps old new → TypeFits (scope_in old scope) t → TypeFits (scope_in new scope) t
written_kept {scope = scope} {t = t} s k f = subst (λ (c : TypeScope). TypeFits c t) (sym (scope_kept scope s.known k)) f

pub there_kept : {old new : List Ty} {scope : Scope} {q : ℕ} → IsScope old scope → Keeps old new → PathThere (scope_in old scope) q → PathThere (scope_in new scope) q
there_kept {scope = scope} {q = q} s k h = subst (λ (c : TypeScope). PathThere c q) (sym (scope_kept scope s.known k)) h

pub typed_kept : {old new : List Ty} {scope : Scope} {v : Value} → IsScope old scope → Keeps old new → InPool old v.ty → TypedFits (typed_in old scope v)
    → TypedFits (typed_in new scope v)
typed_kept {old} {new} {scope} {v} s k has f =
    subst (λ (c : TypeScope). let x : Typed = record { ty = shown new v.ty; path = v.path; scope = c } in TypedFits x) (sym (scope_kept scope s.known k))
    (subst (λ (t : Ty). let x : Typed = record { ty = t; path = v.path; scope = scope_in old scope } in TypedFits x) (sym (k.shows v.ty has)) f)

-- the same in a scope that has grown
pub fits_later : {old new : List Ty} {before after : Scope} {id : TyId} → IsScope old before → Keeps old new → Grows before after → IsScope new after → InPool old id
    → TypeFits (scope_in old before) (shown old id) → TypeFits (scope_in new after) (shown new id)
fits_later {old} {new} {before} {after} s k g a has f = fits_grown (scope_grown new before after g) a.fits.binds (fits_kept s k has f)

-- of a value, when other ones were typed
pub typed_later : {old new : List Ty} {before after : Scope} {v : Value} → IsScope old before → Keeps old new → Grows before after → IsScope new after → InPool old v.ty
    → TypedFits (typed_in old before v) → TypedFits (typed_in new after v)
typed_later {old} {new} {before} {after} {v} s k g a has f =
    let h : TypedFits (typed_in new before v) = typed_kept s k has f in
    let w : Grown (scope_in new before) (scope_in new after) = scope_grown new before after g in record {
      type = fits_grown w a.fits.binds h.type;
      path = λ q e. path_grown q w a.fits.binds h.type (h.path q e);
      class = h.class;
    }

-- a type that has a number, which shows what is no path
pub plain_typed : (old new : List Ty) (scope : Scope) (t : Ty) (id : TyId) → IsScope old scope → Keeps old new → shown new id ≡ t → TypeFits (scope_in old scope) t
    → TypedFits (typed_in new scope (record { ty = id; path = None }))
plain_typed old new scope t id s k e f =
    plain_fits (scope_in new scope) (shown new id) (subst (TypeFits (scope_in new scope)) (sym e) (written_kept s k f))

-- ---- the place where an expression stands

module _ (p : Program) (at : Site) (s : TypeScope) (h : IsThere p at s) where
  mentioned : (q : ℕ) → Mentioned role.Value at.vars q → PathThere s q
  mentioned q m =
      let t = path_there p at role.Value h.site q m in
      let b = binds_like h.scope.alike q t.bound_in in record {
        bound_in = binds_grown h.scope.grown q b;
        long = subst (λ (R : Path). 0 < length R) (sym (bounds_grown h.scope.grown h.scope.binds q b ∙ bounds_like h.scope.alike q)) t.long;
      }

  pub this_there : PathThere s 0
  this_there = mentioned 0 (this refl)

  both : (a b : Bool) → (a && b) ≡ true → (a ≡ true) × (b ≡ true)
  both true b e = (refl, e)
  both false b e = cc

  pub vars_there : (v : Var) → Among at.vars v → VarFits s v
  vars_there v m = record {
    type = (for_known h.scope (record { fits = fits_whole (var_among p at role.Value h.site v m) h.site.binds; named = h.site.named v m })).fits;
    path = λ e. let k = both v.fixed (is_class v.ty) e in mentioned v.path (variable refl v m refl k.0 k.1);
  }

  pub later_there : (t : TypeScope) → Grown s t → BindsFit t → IsThere p at t
  later_there t g f = record {
    site = h.site;
    scope = record { base = h.scope.base; alike = h.scope.alike; grown = joined h.scope.grown g; binds = f };
  }

-- it is the same place when other expressions were typed
pub stays_there : (p : Program) (Q : Path) (m : Method) {a b : Env} {before after : Scope} → IsThere p (site_here (here_at Q m a.vars.list)) (scope_in a.pool before) → Stays a b
    → IsScope a.pool before → Grows before after → IsScope b.pool after → IsThere p (site_here (here_at Q m b.vars.list)) (scope_in b.pool after)
stays_there p Q m {a} {b} {before} {after} h k s g i =
    subst (λ (vs : List Var). IsThere p (site_here (here_at Q m vs)) (scope_in b.pool after)) (sym (vars_stay k))
    (later_there p (site_here (here_at Q m a.vars.list)) (scope_in b.pool before)
    (subst (IsThere p (site_here (here_at Q m a.vars.list))) (sym (scope_kept before s.known k.pool)) h)
    (scope_in b.pool after) (scope_grown b.pool before after g) i.fits.binds)

-- the scope of the variables alone
alike_itself : (s : TypeScope) → ScopesAlike s s
alike_itself [] = none_alike
alike_itself (b ∷ s) = one_alike (record { path = refl; atoms = refl; class = refl }) (alike_itself s)

pub first_there : (p : Program) (at : Site) → SiteFits p at → IsThere p at (scope_of at)
first_there p at h = record { site = h; scope = record { base = scope_of at; alike = alike_itself (scope_of at); grown = none_grown; binds = h.binds } }

-- ---- a variable that was found

newest_among : (vs : List Var) (x : Name) (v : Var) → newest vs x ≡ Some v → Among vs v
newest_among [] x v e = absurd (no e) where
  no : ◌≡◌ {A = Option Var} None (Some v) → ⊥
  no e = cc
newest_among (w ∷ vs) x v e = at (nat_eq w.name.0 x.0) e (newest_among vs x v) where
  same : Some w ≡ Some v → w ≡ v
  same e = cc

  at : (b : Bool) → cond b (Some w) (newest vs x) ≡ Some v → (newest vs x ≡ Some v → Among vs v) → Among (w ∷ vs) v
  at true e again = subst (Among (w ∷ vs)) (same e) first
  at false e again = later (again e)

pub found_among : (vs : List Var) (x : Name) (v : Var) → var_named (record { list = vs }) x ≡ Some v → Among vs v
found_among vs x v e = reverse_among vs v (newest_among (reverse vs) x v e)

pub found_fits : (s : TypeScope) (vs : List Var) (x : Name) (k : Known) (o : Option Var) → var_named (record { list = vs }) x ≡ o → KnownIs o (Some k)
    → ((v : Var) → Among vs v → VarFits s v) → TypeFits s k.ty × (k.is_path ≡ true → PathThere s k.path)
found_fits s vs x k None e i h = absurd i
found_fits s vs x k (Some v) e i h =
    let f = h v (found_among vs x v e) in (
      subst (TypeFits s) (sym i.ty) f.type,
      λ t. subst (PathThere s) (sym i.path) (f.path (sym i.is_path ∙ t)),
    )

-- ---- what is found at a type

found_more : {s : TypeScope} {T : Path → Type 0} {B : Path} (b : TypeBind) (xs : List Atom) → BindsFit (b ∷ s) → ((x : Atom) → Among xs x → Anchored s x.anchor)
    → FirstWith s T xs B → FirstWith (b ∷ s) T xs B
found_more b _ f g (first_with {x = x} e t) = first_with (e ∙ sym (bound_later f x (g x first))) t
found_more {T = T} b _ f g (later_with {x = x} {xs = xs} n w) =
    later_with (λ t. n (subst T (bound_later f x (g x first)) t)) (found_more b xs f (λ y a. g y (later a)) w)

found_grown : {s t : TypeScope} {T : Path → Type 0} {B : Path} (u : Ty) → Grown s t → BindsFit t → TypeFits s u → FirstWith s T (atoms_in u) B → FirstWith t T (atoms_in u) B
found_grown u none_grown f k w = w
found_grown u (more_grown {b = b} g) f k w =
    found_more b (atoms_in u) f (λ x m. type_anchored (fits_grown g f.0 k) x m) (found_grown u g f.0 k w)

pub field_grown : (p : Program) {s t : TypeScope} (u : Ty) (f : Name) (c : FoundField) → Grown s t → BindsFit t → TypeFits s u → IsFoundField p s u f c → IsFoundField p t u f c
field_grown p u f c g b k i = record { bound = i.bound; at = found_grown u g b k i.at; type = i.type; class = i.class }

-- ---- the path of a value

-- the type and the path that a value is passed with
pub passed_known : (pool : List Ty) (old new : Scope) (t : Ty) (path : Option ℕ) (q : ℕ) → IsPassing pool old new t path q
    → (let x : Typed = record { ty = t; path = path; scope = scope_in pool old } in TypedFits x) → PathKnown (scope_in pool new) q t
passed_known pool old new t (Some r) q i f =
    subst (λ (y : Passing). PathKnown y.scope y.path t) (sym i.is) (f.path r refl)
passed_known pool old new t None q i f =
    subst (λ (y : Passing). PathKnown y.scope y.path t) (sym i.is)
    (fresh_known (scope_in pool old) (next_path (scope_in pool old)) t (subst BindsFit (ap (λ (y : Passing). y.scope) i.is) i.scope.fits.binds))

-- the declared type of a field, with that path put for `this`, in a later pool
pub field_put : (p : Program) (p0 p1 : List Ty) (old new : Scope) (t : Ty) (path : Option ℕ) (q : ℕ) (f : Name) (c : FoundField) (u : Ty) → Shallow p → WellFormed p
    → IsPassing p0 old new t path q → (let x : Typed = record { ty = t; path = path; scope = scope_in p0 old } in TypedFits x)
    → IsFoundField p (scope_in p0 old) t f c → Keeps p0 p1 → u ≡ c.ty → MovedFits (scope_in p1 new) (swapped (0 ∷ []) (q ∷ [])) u
field_put p p0 p1 old new t path q f c u deep w i h found k e =
    subst (MovedFits (scope_in p1 new) (swapped (0 ∷ []) (q ∷ []))) (sym e)
    (subst (λ (s : TypeScope). MovedFits s (swapped (0 ∷ []) (q ∷ [])) c.ty) (sym (scope_kept new i.scope.known k))
    ((path_types_fit p).field_moved (scope_in p0 new) t f c q deep w
    (field_grown p t f c (scope_grown p0 old new i.grows) i.scope.fits.binds h.type found) (passed_known p0 old new t path q i h)))

-- ---- the path of a new object

pub made_fits : (pool : List Ty) (old new : Scope) (id : TyId) (q : ℕ) → IsScope pool new → is_class (shown pool id) ≡ true → TypeFits (scope_in pool old) (shown pool id)
    → passing_in pool new q ≡ path_or_fresh (shown pool id) None (scope_in pool old) → TypedFits (typed_in pool new (record { ty = id; path = Some q }))
made_fits pool old new id q i c f e = subst TypedFits same (fresh_fits (scope_in pool old) (next_path (scope_in pool old)) (shown pool id) c f
    (subst BindsFit (ap (λ (x : Passing). x.scope) e) i.fits.binds)) where
      same : (let x : Typed = record { ty = shown pool id; path = Some (next_path (scope_in pool old)); scope = bind (next_path (scope_in pool old)) (shown pool id) ∷ scope_in pool old } in
          x ≡ typed_in pool new (record { ty = id; path = Some q }))
      same = ap (λ (r : Passing). let x : Typed = record { ty = shown pool id; path = Some r.path; scope = r.scope } in x) (sym e)
