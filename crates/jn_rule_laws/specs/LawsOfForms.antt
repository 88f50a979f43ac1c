-- The types that expressions get fit the scopes in which they get them.
use Rattle.std.specs.Prelude.{◌≡◌, ◌<◌, ℕ, List, [], ◌∷◌, ◌++◌, length, true, Some}
use Rattle.jn_base.specs.declared.tree.Name.{Name}
use Rattle.jn_base.specs.declared.tree.Term.{Term}
use Rattle.jn_base.specs.declared.tree.TypeTerm.{TypeTerm}
use Rattle.jn_base.specs.declared.tree.Program.{Program}
use Rattle.jn_base.specs.declared.types.Masks.{Masks}
use Rattle.jn_base.specs.declared.types.Ty.{Ty}
use Rattle.jn_base.specs.declared.names.Role.TheVariants as role
use Rattle.jn_base.specs.declared.names.Var.{Var}
use Rattle.jn_base.specs.Atoms.{Atom, atoms_in, Among}
use Rattle.jn_base.specs.Scopes.{Bind, Scope, bound_of, bound, Binds}
use Rattle.jn_base.specs.Fits.{TypeFits, BindsFit}
use Rattle.jn_base.specs.ResolveTypes.{mask_names}
use Rattle.jn_base.specs.Resolve.{is_class}
use Rattle.jn_sem.specs.Values.{Masked}
use Rattle.jn_sem.specs.Below.{Below}
use Rattle.jn_sem.specs.Normal.{swapped, MovedFits}
use Rattle.jn_sem.specs.NormalFunction.{normal_type}
use Rattle.jn_sem.specs.LawsOfSlots.{HeadNamed}
use Rattle.jn_sem.specs.Terms.{Site, TermIs}
use Rattle.jn_sem.specs.Does.{Body, IsBody}
use Rattle.jn_laws.specs.LawsOfWritten.{Shallow, scope_of, SiteFits, TypeThere}
use Rattle.jn_laws.specs.LawsOfSources.{WellFormed}
use Rattle.jn_laws.specs.LawsOfScopes.{ScopesAlike}
use Rattle.jn_laws.specs.LawsOfFits.{AsDeep}
use Rattle.jn_rules.specs.Plans.{FoundField}
use Rattle.jn_rules.specs.Questions.{IsFoundField, IsMethodOf, IsFirstMask}
use Rattle.jn_rules.specs.Headers.{Header, site_in}
use Rattle.jn_rules.specs.Exprs.{bind, path_type, replaced_paths, put_in, made_exact}
use Rattle.jn_rule_laws.specs.LawsOfOneHeader.{HeaderFits}

-- ---- scopes

-- the later scope has more binds, the newest first
pub data Grown : Scope → Scope → Type 0 where
  none : {s : Scope} → Grown s s
  more : {s t : Scope} {b : Bind} → Grown s t → Grown s (b ∷ t)

-- A scope in which expressions at the place are typed: it has `this` and the variables, with any masks, and fresh paths behind.
pub record ScopeFor (at : Site) (s : Scope) : Type 0 where
  pub base : Scope
  pub alike : ScopesAlike (scope_of at) base
  pub grown : Grown base s
  pub binds : BindsFit s

-- a type that an expression may have: it fits, and its bounds have a name
pub record TypeKnown (s : Scope) (t : Ty) : Type 0 where
  pub fits : TypeFits s t
  pub named : (x : Atom) → Among (atoms_in t) x → 0 < length (bound s x)

-- the path of a value of the type: it is in the scope, with a bound as deep as the type's
pub record PathKnown (s : Scope) (q : ℕ) (t : Ty) : Type 0 where
  pub bound_in : Binds s q
  pub depth : (x : Atom) → Among (atoms_in t) x → length (bound_of s q) ≡ length (bound s x)

-- ---- paths, fields, written types

pub record PathsOf (p : Program) : Type 0 where
  -- the type of a path whose bound has a name, and the path itself
  pub path : (s : Scope) (q : ℕ) → BindsFit s → Binds s q → 0 < length (bound_of s q) → TypeKnown s (path_type s q)
  pub of_path : (s : Scope) (q : ℕ) → Binds s q → PathKnown s q (path_type s q)
  -- a fresh path with the type
  pub fresh : (s : Scope) (q : ℕ) (t : Ty) → BindsFit (bind q t ∷ s) → PathKnown (bind q t ∷ s) q t
  -- what is known stays known where the scope grows
  pub later : (s t : Scope) (u : Ty) → Grown s t → BindsFit t → TypeKnown s u → TypeKnown t u
  pub path_later : (s t : Scope) (q : ℕ) (u : Ty) → Grown s t → BindsFit t → TypeKnown s u → PathKnown s q u → PathKnown t q u
  -- a type above another one
  pub above : (s : Scope) (t u : Ty) → BindsFit s → TypeKnown s t → TypeFits s u → Below p s t u → (x : Atom) → Among (atoms_in t) x → TypeKnown s u
  -- what is written at the place: a declared type, and a type in normal form
  pub written : (at : Site) (s : Scope) (t : Ty) → ScopeFor at s → TypeThere at t → TypeKnown s t
  pub normal : (s : Scope) (t : Ty) → BindsFit s → TypeKnown s t → TypeKnown s (normal_type s t)
  -- the exact type of `new`, and its depth
  pub made : (at : Site) (s : Scope) (t : Term) (x : Atom) → Shallow p → SiteFits p at → HeadNamed t.head → ScopeFor at s → TermIs p role.New at t x
      → TypeKnown s (normal_type s (made_exact x))
  pub made_depth : (at : Site) (s : Scope) (t : Term) (x y : Atom) → Shallow p → SiteFits p at → HeadNamed t.head → ScopeFor at s → TermIs p role.New at t x
      → Among (atoms_in (normal_type s (made_exact x))) y → length (bound s y) ≡ length (bound s x)
  -- the type of a field, with the receiver's path for `this`
  pub field : (s : Scope) (t : Ty) (f : Name) (c : FoundField) (q : ℕ) → Shallow p → WellFormed p → BindsFit s → IsFoundField p s t f c → PathKnown s q t
      → TypeKnown s (put_in s (0 ∷ []) (q ∷ []) c.ty)
  -- which fits before it is brought to normal form, too
  pub field_moved : (s : Scope) (t : Ty) (f : Name) (c : FoundField) (q : ℕ) → Shallow p → WellFormed p → IsFoundField p s t f c → PathKnown s q t
      → MovedFits s (swapped (0 ∷ []) (q ∷ [])) c.ty

abbrev pub PathTypesFit : Type 0
PathTypesFit = (p : Program) → PathsOf p

-- ---- calls

-- The paths of arguments for these parameters, of the scope h: each is in the scope s, and as deep as a parameter of class type.
pub data PutFor (h s : Scope) : List Var → List ℕ → Type 0 where
  none : PutFor h s [] []
  one : {x : Var} {xs : List Var} {q : ℕ} {qs : List ℕ} → Binds s q → (is_class x.ty ≡ true → AsDeep h s x.path q) → PutFor h s xs qs → PutFor h s (x ∷ xs) (q ∷ qs)

abbrev pub header_scope : Body → Header → Scope
header_scope b c = scope_of (site_in b c.vars)

-- the type of the parameter x, with these paths put for `this` and the parameters before it
pub record ParamKnown (b : Body) (c : Header) (x : Var) (s : Scope) (to : List ℕ) : Type 0 where
  pub known : TypeKnown s (put_in s (replaced_paths c.vars) to x.ty)
  -- before it is brought to normal form it fits, too
  pub moved : MovedFits s (swapped (replaced_paths c.vars) to) x.ty
  pub depth : (y : Atom) → Among (atoms_in (put_in s (replaced_paths c.vars) to x.ty)) y → length (bound s y) ≡ length (bound_of (header_scope b c) x.path)
  -- in a later scope, and with the paths for the other parameters, it is the same
  pub settled : (t : Scope) (others : List ℕ) → Grown s t → BindsFit t
      → put_in t (replaced_paths c.vars) (to ++ others) x.ty ≡ put_in s (replaced_paths c.vars) to x.ty

pub record CallsOf (p : Program) (b : Body) (c : Header) : Type 0 where
  -- a receiver of the type is as deep as `this`
  pub receiver : (s : Scope) (t : Ty) (m : Name) (q : ℕ) → IsMethodOf p s t m b → PathKnown s q t → AsDeep (header_scope b c) s 0 q
  -- and so is the path of a type with an atom at whose bound the body was found
  pub at_bound : (s : Scope) (m : Name) (x : Atom) (q : ℕ) → IsBody p (bound s x) m b → Binds s q → length (bound_of s q) ≡ length (bound s x)
      → AsDeep (header_scope b c) s 0 q
  pub param : (done rest : List Var) (x : Var) (s : Scope) (r : ℕ) (qs : List ℕ) → c.vars ≡ done ++ x ∷ rest → BindsFit s
      → AsDeep (header_scope b c) s 0 r → PutFor (header_scope b c) s done qs → ParamKnown b c x s (r ∷ qs)
  pub result : (t : TypeTerm) (s : Scope) (r : ℕ) (qs : List ℕ) → b.method.result ≡ Some t → BindsFit s
      → AsDeep (header_scope b c) s 0 r → PutFor (header_scope b c) s c.vars qs → TypeKnown s (put_in s (replaced_paths c.vars) (r ∷ qs) c.result)
  pub result_moved : (t : TypeTerm) (s : Scope) (r : ℕ) (qs : List ℕ) → b.method.result ≡ Some t → BindsFit s
      → AsDeep (header_scope b c) s 0 r → PutFor (header_scope b c) s c.vars qs → MovedFits s (swapped (replaced_paths c.vars) (r ∷ qs)) c.result
  -- a path of a value in the parameter's type is as deep as the parameter
  pub argument : (done rest : List Var) (x : Var) (s : Scope) (r : ℕ) (qs : List ℕ) (t : Ty) (q : ℕ) → c.vars ≡ done ++ x ∷ rest → BindsFit s
      → AsDeep (header_scope b c) s 0 r → PutFor (header_scope b c) s done qs → TypeFits s t → Below p s t (put_in s (replaced_paths c.vars) (r ∷ qs) x.ty)
      → (y : Atom) → Among (atoms_in t) y → PathKnown s q t → AsDeep (header_scope b c) s x.path q

abbrev pub CallTypesFit : Type 0
CallTypesFit = (p : Program) (b : Body) (c : Header) → HeaderFits p b c → CallsOf p b c

-- ---- masks

-- where no mask is the first by name, there is none
abbrev pub NoFirstMask : Type 0
NoFirstMask = (p : Program) (m : Masks) → ((f : Name) → IsFirstMask p m f → ⊥) → (f : Name) → Masked (mask_names p) m f → ⊥
