-- What is known where a body begins.
use Rattle.std.proofs.Common.{◌≡◌, ◌<◌, ◌≤◌, ℕ, suc, List, [], ◌∷◌, ◌++◌, length, map, Option, Some, None, refl, sym, ap, ◌∙◌, subst, arith, ◌⊎◌, inl, inr}
use Rattle.jn_base.specs.declared.tree.Name.{Name}
use Rattle.jn_base.specs.declared.tree.Param.{Param}
use Rattle.jn_base.specs.declared.tree.Program.{Program}
use Rattle.jn_base.specs.declared.tree.TypeTerm.{TypeTerm}
use Rattle.jn_base.specs.declared.names.Role.TheVariants as role
use Rattle.jn_base.specs.declared.names.Var.{Var}
use Rattle.jn_base.specs.Paths.{Path}
use Rattle.jn_base.specs.Members.{MethodAt}
use Rattle.jn_base.specs.Atoms.{Among, first, later}
use Rattle.jn_base.specs.Scopes.{Bind, Scope, Binds, this_bind}
use Rattle.jn_base.specs.Resolve.{class_of, var_bind}
use Rattle.jn_base.proofs.Reaching.{declared_in_universe}
use Rattle.jn_sem.specs.Acts.{path_behind}
use Rattle.jn_sem.specs.Does.{Body, AreParamsAfter, var}
use Rattle.jn_sem.specs.Terms.{spot_at}
use Rattle.jn_laws.specs.LawsOfPlaces.{WithinOf}
use Rattle.jn_laws.specs.LawsOfWritten.{IsWritten, scope_of}
use Rattle.jn_laws.proofs.Terms.{among_reverse, var_among}
use Rattle.jn_rules.specs.Exprs.{next_path}
use Rattle.jn_rules.specs.Headers.{Header, site_in}
use Rattle.jn_rules.specs.Stmts.{body_in, at_start}
use Rattle.jn_rule_laws.specs.LawsOfHeaders.{IsHeader}
use Rattle.jn_rule_laws.specs.LawsOfForms.{TypeKnown, none as none_more}
use Rattle.jn_rule_laws.specs.LawsOfOneHeader.{HeaderFits}
use Rattle.jn_rule_laws.proofs.OneHeaders.{headers_fit}
use Rattle.jn_sound.specs.KnownScopes.{here_in, ScopeKnown, MasksFormed, StmtKnown}
use Rattle.jn_sound.proofs.Laws.{ParamsSo, among_right, header_params}
use Rattle.jn_sound.proofs.Entered.{bind_of}
use Rattle.jn_sound.proofs.MaskSets.{none_formed, declared_formed}
use Rattle.jn_sound.proofs.Unmasks.{alike_itself}

-- ---- parameters

-- a variable of a list, with those before it and behind it
split_at : (vs : List Var) (v : Var) → Among vs v → (done : List Var) × (rest : List Var) × (vs ≡ done ++ v ∷ rest)
split_at _ v (first {xs = xs}) = ([], xs, refl)
split_at _ v (later {y = y} {xs = xs} m) =
    let k = split_at xs v m in (y ∷ k.0, k.1, ap (λ (l : List Var). y ∷ l) k.2)

-- the masks of parameters are sets of mask numbers
params_formed : (p : Program) (b : Body) (before : List Var) (xs : List Param) (all : List Var)
    → ((v : Var) → Among before v → MasksFormed v.ty) → AreParamsAfter p b before xs all
    → (v : Var) → Among all v → MasksFormed v.ty
params_formed p b before [] all each h v m = each v (subst (λ (l : List Var). Among l v) h m)
params_formed p b before (x ∷ xs) all each h v m =
    params_formed p b (before ++ var x.name.name (suc (length before)) x.fixed h.0 ∷ []) xs all
    (λ u n. at u (among_right before (var x.name.name (suc (length before)) x.fixed h.0) u n)) h.2 v m where
      at : (v : Var) → Among before v ⊎ (v ≡ var x.name.name (suc (length before)) x.fixed h.0) → MasksFormed v.ty
      at v (inl a) = each v a
      at v (inr e) =
          subst (λ (u : Var). MasksFormed u.ty) (sym e)
          (declared_formed p (record { class = b.class; method = b.method.name.name; vars = before }) x.ty h.0 h.1)

-- ---- the scope

module _ (p : Program) (w : WithinOf p) (b : Body) (m : Name) (x : Header) (at : MethodAt p b.class m b.method)
    (ih : IsHeader p b x) where
  abbrev S : Scope
  S = scope_of (site_in b x.vars)

  abbrev C : Path
  C = class_of (spot_at (site_in b []) role.Value)

  fits : HeaderFits p b x
  fits = headers_fit p b.class m b.method x w.shallow w.formed
      (declared_in_universe p b.class at.decl at.stands) at ih

  params : ParamsSo x.vars
  params = (header_params p b x ih).0

  few : length x.vars ≤ 15
  few =
      let l = w.limits.params b.class m b.method at in let c = (header_params p b x ih).1 in omega (arith, l, c)

  this_there : Among (scope_of (site_in b x.vars)) (this_bind (class_of (spot_at (site_in b []) role.Value)))
  this_there =
      among_reverse (this_bind (class_of (spot_at (site_in b []) role.Value)) ∷ map var_bind x.vars)
      (this_bind (class_of (spot_at (site_in b []) role.Value))) first

  var_there : (v : Var) → Among x.vars v → Among (scope_of (site_in b x.vars)) (var_bind v)
  var_there v n = var_among p (site_in b x.vars) role.Value fits.params.fit v n

  -- a path there is `this` or a parameter
  path_of : (q : ℕ) → Binds (scope_of (site_in b x.vars)) q → (q ≡ 0) ⊎ ((v : Var) × Among x.vars v × (v.path ≡ q))
  path_of q k = by (bind_of b x.vars k.bind k.among) where
    by : (k.bind ≡ this_bind (class_of (spot_at (site_in b []) role.Value)))
        ⊎ ((v : Var) × Among x.vars v × (k.bind ≡ var_bind v))
        → (q ≡ 0) ⊎ ((v : Var) × Among x.vars v × (v.path ≡ q))
    by (inl e) = inl (sym k.is ∙ ap (λ (c : Bind). c.path) e)
    by (inr v) = inr (v.0, v.1, sym (ap (λ (c : Bind). c.path) v.2) ∙ k.is)

  written : (v : Var) → Among x.vars v → IsWritten v.ty
  written v n = let k = split_at x.vars v n in (fits.params.each k.0 k.1 v k.2).type.written

  scope_known : ScopeKnown p (here_in (body_in b x) x.vars) (scope_of (site_in b x.vars))
  scope_known = record {
    site = fits.params.fit;
    written = written;
    scope = record {
      base = scope_of (site_in b x.vars);
      alike = alike_itself (scope_of (site_in b x.vars));
      grown = none_more;
      binds = fits.params.fit.binds;
    };
    plain = λ v n e. var_there v n;
    numbered = λ q k. by q (path_of q k);
  } where
    by : (q : ℕ) → (q ≡ 0) ⊎ ((v : Var) × Among x.vars v × (v.path ≡ q)) → q < next_path (scope_of (site_in b x.vars))
    by q (inl e) = omega (arith, e)
    by q (inr v) = let l = params.older v.0 v.1 in omega (arith, l, v.2, few)

  masks : (c : Bind) → Among (scope_of (site_in b x.vars)) c → MasksFormed c.ty
  masks c n = by (bind_of b x.vars c n) where
    by : (c ≡ this_bind (class_of (spot_at (site_in b []) role.Value)))
        ⊎ ((v : Var) × Among x.vars v × (c ≡ var_bind v)) → MasksFormed c.ty
    by (inl e) = subst (λ (d : Bind). MasksFormed d.ty) (sym e) none_formed
    by (inr v) =
        subst (λ (d : Bind). MasksFormed d.ty) (sym v.2)
        (params_formed p b [] b.method.params x.vars (λ u i. elim i [ ]) ih.params v.0 v.1)

  result_known : (r : Option TypeTerm) → b.method.result ≡ r → TypeKnown (scope_of (site_in b x.vars)) x.result
  result_known None e =
      subst (TypeKnown (scope_of (site_in b x.vars))) (sym (fits.void e))
      (record { fits = record { atoms = λ i. absurd i }; named = λ y n. elim n [ ] })
  result_known (Some t) e = let r = fits.result t e in record { fits = r.fits; named = r.named }

  -- WHERE A BODY BEGINS, all that a statement needs is known
  pub start_known : StmtKnown p (body_in b x) (at_start b x)
  start_known = record {
    scope = scope_known;
    alike = alike_itself (scope_of (site_in b x.vars));
    covers = record {
      this = record { bind = this_bind (class_of (spot_at (site_in b []) role.Value)); among = this_there; is = refl };
      only = path_of;
      all = λ v n. record { bind = var_bind v; among = var_there v n; is = refl };
    };
    some = omega arith;
    older = params.older;
    params = omega (arith, (header_params p b x ih).1);
    result = result_known b.method.result refl;
    masks = masks;
  }

  pub start_method : MethodAt p b.class b.method.name.name b.method
  start_method = record { decl = at.decl; stands = at.stands; has = at.has; name = refl }

  -- the paths of parameters and locals are below 256
  pub start_few : path_behind b.method.body (suc (length x.vars)) ≤ 256
  start_few =
      let l = w.locals b.class m b.method at in
      let e : length x.vars ≡ length b.method.params = (header_params p b x ih).1 in
      let g : path_behind b.method.body (suc (length x.vars)) ≡ path_behind b.method.body (suc (length b.method.params)) =
      ap (λ (n : ℕ). path_behind b.method.body (suc n)) e in
      omega (arith, l, g)
