-- The parameters of a body, one after the other, and its header.
use Rattle.std.proofs.Common.{◌≡◌, ◌<◌, ◌≤◌, ◌+◌, ℕ, suc, List, [], ◌∷◌, ◌++◌, length, length-append, reverse, map, refl, sym, ap, ◌∙◌, subst, All, drop, get_or, arith, Option, Some, Result, Ok, Err, IfOk, ◌⊎◌, inl, inr}
use Rattle.std.proofs.Math.ListN.{drop_of_length-le}
use Rattle.std.proofs.lemmas.List.{reverse-append, reverse-reverse, map-append}
use Rattle.std.proofs.lemmas.List.Elements.{All-append, All-cons, All-nil}
use Rattle.std.specs.declared.vec.Vec.{Vec}
use Rattle.std.specs.declared.alloc.Global.{Global}
use Rattle.jn_base.specs.declared.tree.Name.{Name}
use Rattle.jn_base.specs.declared.tree.Param.{Param}
use Rattle.jn_base.specs.declared.tree.TypeTerm.{TypeTerm}
use Rattle.jn_base.specs.declared.tree.Program.{Program}
use Rattle.jn_base.specs.declared.types.Ty.{Ty}
use Rattle.jn_base.specs.declared.names.Var.{Var}
use Rattle.jn_base.specs.declared.refusal.Refusal.{Refusal}
use Rattle.jn_base.specs.Paths.{Path}
use Rattle.jn_base.specs.Universe.{InUniverse}
use Rattle.jn_base.specs.Atoms.{Among, first, later}
use Rattle.jn_base.specs.declared.types.Ty.TheVariants as ty
use Rattle.jn_base.specs.Fits.{TypeFits}
use Rattle.jn_base.specs.Scopes.{Bind, Scope, Binds, this_bind, this_type}
use Rattle.jn_base.specs.Resolve.{class_of, var_bind}
use Rattle.jn_base.specs.declared.names.Role.TheVariants as role
use Rattle.jn_table.specs.declared.table.Table.{Table}
use Rattle.jn_sem.specs.Terms.{Site, spot_at}
use Rattle.jn_sem.specs.Does.{Body, var}
use Rattle.jn_intern.specs.declared.pool.TyId.{TyId}
use Rattle.jn_intern.specs.declared.scope.Bind.{Bind as NumberBind}
use Rattle.jn_intern.specs.Pools.{Keeps, InPool, shown, bind_in}
use Rattle.jn_intern.proofs.Pools.{keeps_same, keeps_more, scope_in_kept}
use Rattle.jn_laws.specs.LawsOfWritten.{Shallow, site_with, SiteFits}
use Rattle.jn_laws.proofs.WrittenTypes.{no_variable, one_more, scope_more, among_more}
use Rattle.jn_laws.proofs.Terms.{reverse_among}
use Rattle.jn_sem.proofs.NormalTypes.{map_among}
use Rattle.jn_rules.specs.Plans.{OfType}
use Rattle.jn_rules.specs.Questions.{Means, Gives}
use Rattle.jn_rules.specs.Headers.{scope_of, site_in, declared_type, params_typed, result_typed, header_typed}
use Rattle.jn_rules.proofs.PlanLaws.{then_gives, then_refuses}
use Rattle.jn_heads.specs.declared.fault.CheckFault.{CheckFault}
use Rattle.jn_heads.specs.declared.fault.CheckFault.TheVariants.{Refused, Memory}
use Rattle.jn_heads.specs.declared.place.Place.{Place}
use Rattle.jn_heads.specs.Told.{Told}
use Rattle.jn_heads.specs.Places.{Stands, IsTyped, IsIn, HasParam, StartsAt, site_of}
use Rattle.jn_heads.specs.Written.{TypeTold}
use Rattle.jn_heads.specs.Params.{ParamTold, HaveParams, ParamsTold, header_in}
use Rattle.jn_heads.proofs.Lists.{at_get}
use Rattle.jn_heads.proofs.Writing.{scope_there}

-- the parameters before i are in scope, and the others give what all give
pub record ParamsSoFar (p : Program) (t0 t : Table) (pool0 pool : List Ty) (at0 at : Place) (xs : List Param) (i : ℕ) : Type 0 where
  pub table : t ≡ t0
  pub keeps : Keeps pool0 pool
  pub stands : Stands p pool at
  pub within : (b : Body) → IsIn b at0 → IsIn b at
  pub rest : (b : Body) → IsIn b at0 → (o : Result (List Var) Refusal) → Gives p (params_typed b at.vars.list (drop i xs)) o → Gives p (params_typed b at0.vars.list xs) o

-- ---- a parameter more

-- the next number is no path in scope
free : (at : Site) → ((v : Var) → Among at.vars v → v.path ≤ length at.vars) → Binds (scope_of at) (suc (length at.vars)) → ⊥
free at n c = in_all c.bind (reverse_among (this_bind (class_of (spot_at at role.Value)) ∷ map var_bind at.vars) c.bind c.among) c.is where
  in_all : (d : Bind) → Among (this_bind (class_of (spot_at at role.Value)) ∷ map var_bind at.vars) d → d.path ≡ suc (length at.vars) → ⊥
  in_all _ first e = omega (arith, e)
  in_all d (later m) e =
      let v = map_among var_bind at.vars d m in
      let i : v.0.path ≡ d.path = ap (λ (c : Bind). c.path) v.2 in
      omega (arith, n v.0 v.1, i, e)

module _ (p : Program) (deep : Shallow p) (old new : List Ty) (at : Place) (x : Param) (id : TyId) (s : Stands p old at) (k : Keeps old new) (has : InPool new id)
    (typed : IsTyped p (site_of at) x.ty (shown new id)) where
  fits_more : SiteFits p (site_with at.class at.method (at.vars.list ++ var x.name.name (suc (length at.vars.list)) x.fixed (shown new id) ∷ []))
  fits_more =
      one_more p deep (site_of at) (var x.name.name (suc (length at.vars.list)) x.fixed (shown new id)) s.fits typed.there
      (free (site_of at) s.numbered)

  numbered_more : (v w : Var) → w.path ≡ suc (length at.vars.list) → Among (at.vars.list ++ w ∷ []) v → v.path ≤ length (at.vars.list ++ w ∷ [])
  numbered_more v w e m = split (among_more p deep at.vars.list w v m) where
    split : Among at.vars.list v ⊎ (v ≡ w) → v.path ≤ length (at.vars.list ++ w ∷ [])
    split (inl o) = omega (arith, s.numbered v o, length-append at.vars.list (w ∷ []))
    split (inr i) = omega (arith, e, ap (λ (u : Var). u.path) i, length-append at.vars.list (w ∷ []))

  scope_more_is : (binds : List NumberBind) → binds ≡ at.scope.binds.items ++ record { path = suc (length at.vars.list); ty = id } ∷ []
      → reverse (map (bind_in new) binds)
      ≡ scope_of (site_with at.class at.method (at.vars.list ++ var x.name.name (suc (length at.vars.list)) x.fixed (shown new id) ∷ []))
  scope_more_is binds e =
      let b : NumberBind = record { path = suc (length at.vars.list); ty = id } in
      ap (λ (bs : List NumberBind). reverse (map (bind_in new) bs)) e
      ∙ (ap reverse (map-append (bind_in new) at.scope.binds.items (b ∷ []))
      ∙ (reverse-append (map (bind_in new) at.scope.binds.items) (bind_in new b ∷ [])
      ∙ (ap (λ (c : Scope). bind_in new b ∷ c) (scope_there p old new at s k)
      ∙ sym (scope_more p deep (site_of at) (var x.name.name (suc (length at.vars.list)) x.fixed (shown new id))))))

  pub param_added : (path : ℕ) (ty : Ty) (vars : List Var) (binds : Vec NumberBind Global) → path ≡ suc (length at.vars.list) → ty ≡ shown new id
      → vars ≡ at.vars.list ++ var x.name.name path x.fixed ty ∷ [] → binds.items ≡ at.scope.binds.items ++ record { path = path; ty = id } ∷ []
      → (let after : Place = record { class = at.class; method = at.method; vars = record { list = vars }; scope = record { binds = binds } } in
      Stands p new after × HasParam p at x after)
  param_added path ty vars binds e h i j =
      let v : Var = var x.name.name (suc (length at.vars.list)) x.fixed (shown new id) in
      let is : vars ≡ at.vars.list ++ v ∷ [] =
      i ∙ (ap (λ (q : ℕ). at.vars.list ++ var x.name.name q x.fixed ty ∷ []) e ∙ ap (λ (t : Ty). at.vars.list ++ var x.name.name (suc (length at.vars.list)) x.fixed t ∷ []) h) in
      let bs : binds.items ≡ at.scope.binds.items ++ record { path = suc (length at.vars.list); ty = id } ∷ [] =
      j ∙ ap (λ (q : ℕ). at.scope.binds.items ++ record { path = q; ty = id } ∷ []) e in (
        record {
          fits = subst (λ (vs : List Var). SiteFits p (site_with at.class at.method vs)) (sym is) fits_more;
          numbered = subst (λ (vs : List Var). (w : Var) → Among vs w → w.path ≤ length vs) (sym is) (λ w m. numbered_more w v refl m);
          known = subst (λ (xs : List NumberBind). All (λ (b : NumberBind). InPool new b.ty) xs) (sym bs)
              (All-append (λ (b : NumberBind). InPool new b.ty) at.scope.binds.items (record { path = suc (length at.vars.list); ty = id } ∷ []) (scope_in_kept at.scope s.known k)
              (All-cons (λ (b : NumberBind). InPool new b.ty) (record { path = suc (length at.vars.list); ty = id }) [] has (All-nil (λ (b : NumberBind). InPool new b.ty))));
          scope = scope_more_is binds.items bs ∙ ap (λ (vs : List Var). scope_of (site_with at.class at.method vs)) (sym is);
        },
        record { class = refl; method = refl; ty = shown new id; typed = typed; vars = is },
      )

-- ---- no parameter

pub start_stands : (p : Program) (new : List Ty) (Q : Path) (m : Name) (class : Path) (vars : List Var) (binds : Vec NumberBind Global) (id : TyId) (ty : Ty) → Shallow p → InUniverse p Q
    → class ≡ Q → vars ≡ [] → binds.items ≡ record { path = 0; ty = id } ∷ [] → InPool new id → shown new id ≡ ty → ty ≡ this_type Q
    → Stands p new (record { class = class; method = m; vars = record { list = vars }; scope = record { binds = binds } })
start_stands p new Q m class vars binds id ty deep u c v b has s t = record {
  fits = subst (λ (R : Path). SiteFits p (site_with R m vars)) (sym c) (subst (λ (vs : List Var). SiteFits p (site_with Q m vs)) (sym v) (no_variable p deep Q m u));
  numbered = subst (λ (vs : List Var). (w : Var) → Among vs w → w.path ≤ length vs) (sym v) (λ w n. elim n [ ]);
  known = subst (λ (xs : List NumberBind). All (λ (d : NumberBind). InPool new d.ty) xs) (sym b)
      (All-cons (λ (d : NumberBind). InPool new d.ty) (record { path = 0; ty = id }) [] has (All-nil (λ (d : NumberBind). InPool new d.ty)));
  scope = ap (λ (xs : List NumberBind). reverse (map (bind_in new) xs)) b
      ∙ (ap (λ (u : Ty). record { path = 0; ty = u } ∷ []) (s ∙ t)
      ∙ (ap (λ (R : Path). this_bind R ∷ []) (sym (reverse-reverse Q))
      ∙ (ap (λ (R : Path). scope_of (site_with R m [])) (sym c) ∙ ap (λ (vs : List Var). scope_of (site_with class m vs)) (sym v))));
}

-- ---- one after the other

pub site_is : (b : Body) (at : Place) → IsIn b at → site_of at ≡ site_in b at.vars.list
site_is b at w =
    ap (λ (Q : Path). site_with Q at.method at.vars.list) w.class ∙ ap (λ (m : Name). site_with b.class m at.vars.list) w.method

pub none_so_far : (p : Program) (t : Table) (pool : List Ty) (at : Place) (xs : List Param) → Stands p pool at → ParamsSoFar p t t pool pool at at xs 0
none_so_far p t pool at xs s = record { table = refl; keeps = keeps_same pool; stands = s; within = λ b w. w; rest = λ b w o g. g }

param_first : (p : Program) (b : Body) (at after : Place) (x : Param) (xs : List Param) (o : Result (List Var) Refusal) → IsIn b at → HasParam p at x after
    → Gives p (params_typed b after.vars.list xs) o → Gives p (params_typed b at.vars.list (x ∷ xs)) o
param_first p b at after x xs o w h g = (
  Ok h.typed.given,
  subst (λ (s : Site). Means p (OfType s x.ty) (Ok h.typed.given)) (site_is b at w) h.typed.resolved,
  subst (λ (vs : List Var). Gives p (params_typed b vs xs) o)
      (h.vars ∙ ap (λ (t : Ty). at.vars.list ++ var x.name.name (suc (length at.vars.list)) x.fixed t ∷ [])
      (h.typed.is ∙ ap (λ (s : Site). declared_type s h.typed.given) (site_is b at w))) g,
)

param_fails : (p : Program) (b : Body) (at : Place) (x : Param) (xs : List Param) (r : Refusal) → IsIn b at → Means p (OfType (site_of at) x.ty) (Err r)
    → Gives p (params_typed b at.vars.list (x ∷ xs)) (Err r)
param_fails p b at x xs r w m = (Err r, subst (λ (s : Site). Means p (OfType s x.ty) (Err r)) (site_is b at w) m, refl)

next_of : {A : Type 0} (xs : List A) (i : ℕ) (x : A) → i < length xs → x ≡ get_or xs i x → drop i xs ≡ x ∷ drop (i + 1) xs
next_of xs i x l e = at_get xs i x l ∙ ap (λ (y : _). y ∷ drop (i + 1) xs) (sym e)

pub params_more : (p : Program) (t0 t u : Table) (pool0 pool new : List Ty) (at0 at after : Place) (xs : List Param) (i : ℕ) (x : Param) → i < length xs → x ≡ get_or xs i x
    → ParamsSoFar p t0 t pool0 pool at0 at xs i → u ≡ t → Keeps pool new → Stands p new after → HasParam p at x after
    → ParamsSoFar p t0 u pool0 new at0 after xs (i + 1)
params_more p t0 t u pool0 pool new at0 at after xs i x l e so q k s h = record {
  table = q ∙ so.table;
  keeps = keeps_more so.keeps k;
  stands = s;
  within = λ b w. let v = so.within b w in record { class = h.class ∙ v.class; method = h.method ∙ v.method };
  rest = λ b w o g. so.rest b w o
      (subst (λ (ys : List Param). Gives p (params_typed b at.vars.list ys) o) (sym (next_of xs i x l e)) (param_first p b at after x (drop (i + 1) xs) o (so.within b w) h g));
}

pub params_fail : (p : Program) (t0 t : Table) (pool0 pool new : List Ty) (at0 at after : Place) (xs : List Param) (i : ℕ) (x : Param) (f : CheckFault) → i < length xs → x ≡ get_or xs i x
    → ParamsSoFar p t0 t pool0 pool at0 at xs i → ParamTold p new at x after (Err f) → (b : Body) → IsIn b at0 → ParamsTold p new b at0 xs after (Err f)
params_fail p t0 t pool0 pool new at0 at after xs i x (Refused r) l e so m b w =
    so.rest b w (Err r)
    (subst (λ (ys : List Param). Gives p (params_typed b at.vars.list ys) (Err r)) (sym (next_of xs i x l e)) (param_fails p b at x (drop (i + 1) xs) r (so.within b w) m))
params_fail p t0 t pool0 pool new at0 at after xs i x Memory l e so m b w = tt

pub params_done : (p : Program) (t0 t : Table) (pool0 pool : List Ty) (at0 at : Place) (xs : List Param) (i : ℕ) → length xs ≤ i
    → ParamsSoFar p t0 t pool0 pool at0 at xs i → (b : Body) → IsIn b at0 → HaveParams p pool b at0 xs at
params_done p t0 t pool0 pool at0 at xs i l so b w = record {
  stands = so.stands;
  within = so.within b w;
  gives = so.rest b w (Ok at.vars.list)
      (subst (λ (ys : List Param). Gives p (params_typed b at.vars.list ys) (Ok at.vars.list)) (sym (drop_of_length-le xs l)) refl);
}

-- ---- the result

pub result_told : (p : Program) (b : Body) (at : Place) (o : Option TypeTerm) (written : TypeTerm) (pool : List Ty) (r : Result TyId CheckFault) → o ≡ Some written → IsIn b at
    → TypeTold p (site_of at) written pool r → Told (Gives p (result_typed b at.vars.list o)) (shown pool) r
result_told p b at o written pool (Ok id) e w h =
    subst (λ (x : Option TypeTerm). Gives p (result_typed b at.vars.list x) (Ok (shown pool id))) (sym e) (
      Ok h.given,
      subst (λ (s : Site). Means p (OfType s written) (Ok h.given)) (site_is b at w) h.resolved,
      ap Ok (h.is ∙ ap (λ (s : Site). declared_type s h.given) (site_is b at w)),
    )
result_told p b at o written pool (Err (Refused r)) e w m =
    subst (λ (x : Option TypeTerm). Gives p (result_typed b at.vars.list x) (Err r)) (sym e) (Err r, subst (λ (s : Site). Means p (OfType s written) (Err r)) (site_is b at w) m, refl)
result_told p b at o written pool (Err Memory) e w m = tt

pub told_fits : (p : Program) (at : Site) (written : TypeTerm) (pool : List Ty) (r : Result TyId CheckFault) → TypeTold p at written pool r
    → IfOk r (λ (id : TyId). TypeFits (scope_of at) (shown pool id))
told_fits p at written pool (Ok id) h = h.there.fits
told_fits p at written pool (Err f) h = tt

pub void_fits : (s : Scope) (t : Ty) → t ≡ ty.Void → TypeFits s t
void_fits s t e = subst (TypeFits s) (sym e) (record { atoms = λ c. absurd c })

-- ---- the header

module _ (p : Program) (b : Body) (at0 at : Place) (pool new : List Ty) (params : List Param) (is : params ≡ b.method.params) (begins : StartsAt b.class b.method.name.name at0) where
  from_none : (o : Result (List Var) Refusal) → Gives p (params_typed b at0.vars.list params) o → Gives p (params_typed b [] b.method.params) o
  from_none o g =
      subst (λ (xs : List Param). Gives p (params_typed b [] xs) o) is (subst (λ (vs : List Var). Gives p (params_typed b vs params) o) begins.vars g)

  pub is_in : IsIn b at0
  is_in = record { class = begins.class; method = begins.method }

  pub params_refused : (f : CheckFault) → ParamsTold p pool b at0 params at (Err f) → Told (Gives p (header_typed b)) (header_in new) (Err f)
  params_refused (Refused r) g = then_refuses p (params_typed b [] b.method.params) _ r (from_none (Err r) g)
  params_refused Memory g = tt

  pub result_refused : (f : CheckFault) → HaveParams p pool b at0 params at → Told {B = TyId} (Gives p (result_typed b at.vars.list b.method.result)) (shown new) (Err f)
      → Told (Gives p (header_typed b)) (header_in new) (Err f)
  result_refused (Refused r) h g =
      then_gives p (params_typed b [] b.method.params) _ at.vars.list (Err r) (from_none (Ok at.vars.list) h.gives) (then_refuses p (result_typed b at.vars.list b.method.result) _ r g)
  result_refused Memory h g = tt

  pub header_told : (id : TyId) → HaveParams p pool b at0 params at → Gives p (result_typed b at.vars.list b.method.result) (Ok (shown new id))
      → Gives p (header_typed b) (Ok (header_in new (record { at = at; result = id })))
  header_told id h g =
      then_gives p (params_typed b [] b.method.params) _ at.vars.list _ (from_none (Ok at.vars.list) h.gives)
      (then_gives p (result_typed b at.vars.list b.method.result) _ (shown new id) _ g refl)
