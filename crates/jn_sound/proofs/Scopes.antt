-- Scopes that grow: what is known of paths, types and arguments stays known.
use Rattle.std.proofs.Common.{◌≡◌, ◌<◌, ℕ, suc, List, [], ◌∷◌, ◌++◌, length, Some, Bool, true, false, refl, sym, ap, ◌∙◌, subst, arith}
use Rattle.std.proofs.lemmas.Bool.{ltb-true}
use Rattle.std.specs.Prelude.{◌+◌, cond, nat_lt}
use Rattle.jn_base.specs.declared.tree.Program.{Program}
use Rattle.jn_base.specs.declared.types.Ty.{Ty}
use Rattle.jn_base.specs.declared.types.Ty.TheVariants as ty
use Rattle.jn_base.specs.declared.names.Role.TheVariants as role
use Rattle.jn_base.specs.declared.names.Var.{Var}
use Rattle.jn_base.specs.Paths.{Path}
use Rattle.jn_base.specs.Atoms.{Atom, atoms_in, Among, first, later}
use Rattle.jn_base.specs.Resolve.{is_class}
use Rattle.jn_base.specs.Scopes.{Bind, Scope, bound_of, bound, Binds}
use Rattle.jn_base.specs.Fits.{BindsFit, TypeFits, IsClassType, Anchored}
use Rattle.jn_sem.proofs.Under.{type_anchored, anchored_later, bound_later, type_later, fits_whole}
use Rattle.jn_laws.specs.LawsOfFits.{AsDeep}
use Rattle.jn_laws.proofs.AlikeScopes.{binds_like, bounds_like}
use Rattle.jn_laws.proofs.Terms.{Mentioned, path_there, var_among}
use Rattle.jn_rules.specs.Questions.{FirstWith, first as first_with, later as later_with}
use Rattle.jn_rules.specs.Exprs.{Here, site_here, bind, fresh_paths, next_path}
use Rattle.jn_rule_laws.specs.LawsOfForms.{Grown, none as none_more, more, TypeKnown, PutFor, none, one}
use Rattle.jn_rule_laws.proofs.KnownTypes.{bound_older, for_known}
use Rattle.jn_sem.specs.Acts.{Todo}
use Rattle.jn_rules.specs.Stmts.{In}
use Rattle.jn_sound.specs.KnownScopes.{ScopeKnown}
use Rattle.jn_sound.specs.Takes.{Opd, same, unseen}
use Rattle.jn_sound.specs.Fit.{Fits, moves}
use Rattle.jn_sound.specs.Tree.{Fresher, none as fresh_none, more as fresh_more, OpsBound}

-- ---- what is bound

pub grown_binds : {s t : Scope} → Grown s t → (q : ℕ) → Binds s q → Binds t q
grown_binds none_more q b = b
grown_binds (more g) q b = let n = grown_binds g q b in record { bind = n.bind; among = later n.among; is = n.is }

pub grown_among : {s t : Scope} → Grown s t → (b : Bind) → Among s b → Among t b
grown_among none_more b m = m
grown_among (more g) b m = later (grown_among g b m)

pub grown_joined : {s t u : Scope} → Grown s t → Grown t u → Grown s u
grown_joined g none_more = g
grown_joined g (more k) = more (grown_joined g k)

pub bound_grown : {s t : Scope} → Grown s t → BindsFit t → (q : ℕ) → Binds s q → bound_of t q ≡ bound_of s q
bound_grown none_more f q b = refl
bound_grown (more g) f q b = bound_older f q (grown_binds g q b) ∙ bound_grown g f.0 q b

pub atom_grown : {s t : Scope} → Grown s t → BindsFit t → (x : Atom) → Anchored s x.anchor → Anchored t x.anchor ×
    (bound t x ≡ bound s x)
atom_grown none_more f x a = (a, refl)
atom_grown (more {t = t} g) f x a =
    let r = atom_grown g f.0 x a in
    (anchored_later f x.anchor r.0, bound_later f x r.0 ∙ r.1)

-- ---- fresh paths

pub grown_of : {s t : Scope} → Fresher s t → Grown s t
grown_of fresh_none = none_more
grown_of (fresh_more l g) = more (grown_of g)

pub fresher_joined : {s t u : Scope} → Fresher s t → Fresher t u → Fresher s u
fresher_joined g fresh_none = g
fresher_joined g (fresh_more l k) = fresh_more l (fresher_joined g k)

-- what fits with fresh paths that no value has fits without them
pub unseen_fits : {p : Program} {b : In} {k : List Todo} {vs : List Var} {s t : Scope} {ops : List Opd} → Fresher s t
    → BindsFit t → Fits p b k vs t ops → Fits p b k vs s ops
unseen_fits fresh_none f r = r
unseen_fits (fresh_more {b = c} l g) f r = unseen_fits g f.0 (moves (unseen c.ty c.path l f.1 f.2 same) r)

-- ---- operands below

pub ops_grown : {s t : Scope} {ops : List Opd} → Grown s t → OpsBound s ops → OpsBound t ops
ops_grown g n o m q e = grown_binds g q (n o m q e)

pub ops_with : {s : Scope} {ops : List Opd} (a : Opd) → ((q : ℕ) → a.path ≡ Some q → Binds s q) → OpsBound s ops
    → OpsBound s (a ∷ ops)
ops_with a b n _ first q e = b q e
ops_with a b n o (later m) q e = n o m q e

pub no_ops : (s : Scope) → OpsBound s []
no_ops s o m q e = elim m [ ]

pub some_bound : (s : Scope) (q : ℕ) → Binds s q → (i : ℕ) → Some q ≡ Some i → Binds s i
some_bound s q b i e = subst (Binds s) (same e) b where
  same : Some q ≡ Some i → q ≡ i
  same e = cc

-- ---- what is as deep stays so

pub deep_grown : {h s t : Scope} {q r : ℕ} → Grown s t → BindsFit t → AsDeep h s q r → AsDeep h t q r
deep_grown {r = r} g f d = record {
  bound_in = grown_binds g r d.bound_in;
  depth = ap length
      (bound_grown g f r d.bound_in) ∙ d.depth;
}

pub put_grown : {h s t : Scope} {xs : List Var} {qs : List ℕ} → Grown s t → BindsFit t → PutFor h s xs qs →
    PutFor h t xs qs
put_grown g f none = none
put_grown g f (one {q = q} b d others) = one (grown_binds g q b) (λ e. deep_grown g f (d e)) (put_grown g f others)

pub put_behind : {h s : Scope} {xs : List Var} {qs : List ℕ} (x : Var) (q : ℕ) → PutFor h s xs qs → Binds s q →
    (is_class x.ty ≡ true → AsDeep h s x.path q)
    → PutFor h s (xs ++ x ∷ []) (qs ++ q ∷ [])
put_behind x q none b d = one b d none
put_behind x q (one c e others) b d = one c e (put_behind x q others b d)

-- ---- one fresh path more

next_of : (s : Scope) (u : Ty) → next_path (bind (next_path s) u ∷ s) ≡ suc (next_path s)
next_of s u = at (nat_lt (next_path s) 256) refl where
  at : (b : Bool) → nat_lt (next_path s) 256 ≡ b → 256 + cond b (fresh_paths s) (suc (fresh_paths s)) ≡ suc
      (256 + fresh_paths s)
  at true e = absurd (let l : next_path s < 256 = ltb-true (next_path s) 256 e in omega (arith, l))
  at false e = omega arith

pub scope_bind : (p : Program) (h : Here) (s : Scope) (u : Ty) → ScopeKnown p h s → TypeFits s u → ScopeKnown p h
    (bind (next_path s) u ∷ s)
scope_bind p h s u k f = record {
  site = k.site;
  written = k.written;
  scope = record {
    base = k.scope.base;
    alike = k.scope.alike;
    grown = more k.scope.grown;
    binds = (k.scope.binds, (λ b. omega (arith, k.numbered (next_path s) b)), f);
  };
  plain = λ v m e. later (k.plain v m e);
  numbered = λ q b. subst (λ (i : ℕ). q < i) (sym (next_of s u)) (below q b.bind b.among b.is);
} where
  below : (q : ℕ) (c : Bind) → Among (bind (next_path s) u ∷ s) c → c.path ≡ q → q < suc (next_path s)
  below q _ first e = omega (arith, e)
  below q c (later m) e = let l = k.numbered q (record { bind = c; among = m; is = e }) in omega (arith, l)

-- ---- what is found at a type

pub found_more : {s : Scope} {b : Bind} {T : Path → Type 0} {B : Path} (xs : List Atom) → BindsFit (b ∷ s) →
    ((x : Atom) → Among xs x → Anchored s x.anchor)
    → FirstWith s T xs B → FirstWith (b ∷ s) T xs B
found_more _ f g (first_with {x = x} e t) = first_with (e ∙ sym (bound_later f x (g x first))) t
found_more {T = T} _ f g (later_with {x = x} {xs = xs} n w) =
    later_with (λ t. n (subst T (bound_later f x (g x first)) t)) (found_more xs f (λ y a. g y (later a)) w)

pub fits_grown : {s t : Scope} {u : Ty} → Grown s t → BindsFit t → TypeFits s u → TypeFits t u
fits_grown none_more f k = k
fits_grown (more g) f k = type_later f (fits_grown g f.0 k)

pub found_grown : {s t : Scope} {T : Path → Type 0} {B : Path} (u : Ty) → Grown s t → BindsFit t → TypeFits s u →
    FirstWith s T (atoms_in u) B → FirstWith t T (atoms_in u) B
found_grown u none_more f k w = w
found_grown u (more g) f k w = found_more (atoms_in u) f (λ x m. type_anchored (fits_grown g f.0 k) x m)
    (found_grown u g f.0 k w)

pub class_is : (t : Ty) → is_class t ≡ true → IsClassType t
class_is (ty.Class xs m) e = tt
class_is ty.Int e = cc
class_is ty.Bool e = cc
class_is ty.Null e = cc
class_is ty.Void e = cc

-- ---- `this` and the variables

-- a path that may be mentioned is in the scope, with a bound that has a name
pub mentioned_there : (p : Program) (h : Here) (s : Scope) (q : ℕ) → ScopeKnown p h s → Mentioned role.Value h.vars q
    → Binds s q × (0 < length (bound_of s q))
mentioned_there p h s q k m =
    let t = path_there p (site_here h) role.Value k.site q m in
    let b = binds_like k.scope.alike q t.bound_in in (
      grown_binds k.scope.grown q b,
      subst (λ (R : Path). 0 < length R)
          (sym (bound_grown k.scope.grown k.scope.binds q b ∙ bounds_like k.scope.alike q)) t.long,
    )

-- the declared type of a variable is known
pub declared_known : (p : Program) (h : Here) (s : Scope) (v : Var) → ScopeKnown p h s → Among h.vars v →
    TypeKnown s v.ty
declared_known p h s v k m =
    for_known k.scope (record {
      fits = fits_whole (var_among p (site_here h) role.Value k.site v m) k.site.binds;
      named = k.site.named v m;
    })
