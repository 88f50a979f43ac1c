-- The kinds of types as they are written.
use Rattle.std.proofs.Common.{◌≡◌, ℕ, List, [], ◌∷◌, ◌++◌, map, refl, sym, ap, ◌∙◌, Bool, true, false, Option, Some, None, Result, Ok, Err, append_assoc}
use Rattle.std.proofs.lemmas.List.{append-nil}
use Rattle.jn_base.specs.declared.tree.Name.{Name}
use Rattle.jn_base.specs.declared.tree.Named.{Named}
use Rattle.jn_base.specs.declared.tree.Param.{Param}
use Rattle.jn_base.specs.declared.tree.Term.{Term}
use Rattle.jn_base.specs.declared.tree.TypeTerm.{TypeTerm}
use Rattle.jn_base.specs.declared.tree.TypeTerm.TheVariants as term
use Rattle.jn_base.specs.declared.tree.Program.{Program}
use Rattle.jn_base.specs.declared.refusal.Refusal.{Refusal}
use Rattle.jn_base.specs.declared.types.Atom.{Atom as ShownAtom}
use Rattle.jn_base.specs.declared.types.Ty.{Ty}
use Rattle.jn_base.specs.declared.types.Ty.TheVariants as ty
use Rattle.jn_base.specs.declared.names.Spot.{Spot}
use Rattle.jn_base.specs.declared.names.Var.{Var}
use Rattle.jn_base.specs.declared.names.Vars.{Vars}
use Rattle.jn_base.specs.Paths.{Path}
use Rattle.jn_base.specs.ResolveTypes.{ResolveType, AtomsGive, DepthsGive, many, one, MasksGive, UnfitGives, UnmaskedGives, may_mask}
use Rattle.jn_base.specs.Scopes.{Scope}
use Rattle.jn_sem.specs.Normal.{NormalType}
use Rattle.jn_sem.specs.Terms.{FieldTypeIs}
use Rattle.jn_sem.specs.Does.{Body, AreParamsAfter}
use Rattle.jn_code.specs.declared.image.Shape.{Shape}
use Rattle.jn_agree.specs.Rows.{kind_of_type, HasShape, ResultKind}
use Rattle.jn_layout.specs.Shapes.{term_kind, param_kind, given_kind, shape_of}

same_ok : (t u : Ty) → ◌≡◌ {A = Result Ty Refusal} (Ok t) (Ok u) → t ≡ u
same_ok t u e = cc e

not_err : {X : Type 0} (t : Ty) (r : Refusal) → ◌≡◌ {A = Result Ty Refusal} (Ok t) (Err r) → X
not_err t r e = absurd (cc e)

module _ (p : Program) (names : List Name) (spot : Spot) (vars : Vars) (t : Ty) where
  unmasked : (xs : List ShownAtom) (ms : List Named) → UnmaskedGives names spot xs ms (Ok t) → kind_of_type t ≡ 3
  unmasked xs [] g = ap kind_of_type (same_ok t _ g.gives)
  unmasked xs (m ∷ ms) g = not_err t _ g

  unfit : (xs : List ShownAtom) (ms : List Named) (o : Option Named) → UnfitGives names spot xs ms o (Ok t) → kind_of_type t ≡ 3
  unfit xs ms (Some m) g = not_err t _ g
  unfit xs ms None g = ap kind_of_type (same_ok t _ g.gives)

  masks : (bounds : List Path) (xs : List ShownAtom) (ms : List Named) (b : Bool) → MasksGive p names spot bounds xs ms b (Ok t) → kind_of_type t ≡ 3
  masks bounds xs ms true g = unfit xs ms g.first g.gives
  masks bounds xs ms false g = unmasked xs ms g

  depths : (ts : List Term) (ms : List Named) (bounds : List Path) (xs : List ShownAtom) → DepthsGive p names spot ts ms bounds xs (Ok t) → kind_of_type t ≡ 3
  depths ts ms bounds xs (many u w us n e g) = not_err t _ g
  depths ts ms bounds xs (one n g) = masks bounds xs ms (may_mask spot.role) g

  atoms : (ts : List Term) (ms : List Named) (r : Result (List ShownAtom) Refusal) → AtomsGive p names spot vars ts ms r (Ok t) → kind_of_type t ≡ 3
  atoms ts ms (Err r) g = not_err t _ g
  atoms ts ms (Ok xs) g = depths ts ms _ xs g

  pub kind_resolved : (x : TypeTerm) → ResolveType p names spot vars x (Ok t) → kind_of_type t ≡ term_kind x
  kind_resolved term.Int g = ap kind_of_type (same_ok t ty.Int g)
  kind_resolved term.Bool g = ap kind_of_type (same_ok t ty.Bool g)
  kind_resolved (term.Class ts ms) g = atoms ts ms g.atoms g.gives

kind_normal : (s : Scope) (t u : Ty) → NormalType s t u → kind_of_type u ≡ kind_of_type t
kind_normal s (ty.Class xs m) (ty.Class ys n) g = refl
kind_normal s (ty.Class xs m) ty.Int g = absurd g
kind_normal s (ty.Class xs m) ty.Bool g = absurd g
kind_normal s (ty.Class xs m) ty.Null g = absurd g
kind_normal s (ty.Class xs m) ty.Void g = absurd g
kind_normal s ty.Int u g = ap kind_of_type g
kind_normal s ty.Bool u g = ap kind_of_type g
kind_normal s ty.Null u g = ap kind_of_type g
kind_normal s ty.Void u g = ap kind_of_type g

pub field_kind : (p : Program) (Q : Path) (f : Name) (x : TypeTerm) (t : Ty) → FieldTypeIs p Q f x t → kind_of_type t ≡ term_kind x
field_kind p Q f x t g = kind_resolved p _ _ _ t x g

abbrev var_kind : Var → ℕ
var_kind v = kind_of_type v.ty

map_joined : (xs ys : List Var) → map var_kind (xs ++ ys) ≡ map var_kind xs ++ map var_kind ys
map_joined [] ys = refl
map_joined (x ∷ xs) ys = ap (λ zs. var_kind x ∷ zs) (map_joined xs ys)

params_kinds : (p : Program) (b : Body) (before : List Var) (xs : List Param) (all : List Var) → AreParamsAfter p b before xs all
    → map var_kind all ≡ map var_kind before ++ map param_kind xs
params_kinds p b before [] all e = ap (map var_kind) e ∙ sym (append-nil (map var_kind before))
params_kinds p b before (x ∷ xs) all (t, is, rest) =
    let kind : kind_of_type t ≡ param_kind x = kind_normal _ is.given t is.normal ∙ kind_resolved p _ _ _ is.given x.ty is.resolved in
    params_kinds p b _ xs all rest
    ∙ (ap (λ (ks : List ℕ). ks ++ map param_kind xs) (map_joined before _)
    ∙ (append_assoc (map var_kind before) (kind_of_type t ∷ []) (map param_kind xs) ∙ ap (λ (k : ℕ). map var_kind before ++ k ∷ map param_kind xs) kind))

result_is : (p : Program) (b : Body) (vars : List Var) (o : Option TypeTerm) (k : ℕ) → ResultKind p b vars o k → k ≡ given_kind o
result_is p b vars None k e = e
result_is p b vars (Some t) k (type, is, e) = e ∙ (kind_normal _ is.given type is.normal ∙ kind_resolved p _ _ _ is.given t is.resolved)

-- a body has one shape, that of its method as it is written
pub shape_is : (p : Program) (b : Body) (s : Shape) → HasShape p b s → s ≡ shape_of b.method
shape_is p b s h =
    let params : s.params ≡ map param_kind b.method.params = h.kinds ∙ params_kinds p b [] b.method.params h.vars h.params in
    let result : s.result ≡ given_kind b.method.result = result_is p b h.vars b.method.result s.result h.result in
    ap (λ (ks : List ℕ). record { params = ks; result = s.result }) params ∙ ap (λ (k : ℕ). record { params = map param_kind b.method.params; result = k }) result
