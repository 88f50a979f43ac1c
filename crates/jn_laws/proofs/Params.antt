-- The parameters of a body: each with the types that those before it allow.
use Rattle.std.proofs.Common.{◌≡◌, ◌≤◌, suc, List, [], ◌∷◌, ◌++◌, length, map, refl, sym, ap, ◌∙◌, subst, ◌⊎◌, inl, inr, arith, append_assoc}
use Rattle.std.proofs.lemmas.List.{append-nil, length-append}
use Rattle.jn_base.specs.declared.tree.Param.{Param}
use Rattle.jn_base.specs.declared.tree.Program.{Program}
use Rattle.jn_base.specs.declared.types.Ty.{Ty}
use Rattle.jn_base.specs.declared.names.Role.TheVariants as role
use Rattle.jn_base.specs.declared.names.Var.{Var}
use Rattle.jn_base.specs.Atoms.{Among, first, later}
use Rattle.jn_base.specs.Scopes.{Bind, Binds, this_bind}
use Rattle.jn_base.specs.Resolve.{var_bind, class_of}
use Rattle.jn_sem.specs.Terms.{Site, spot_at}
use Rattle.jn_sem.specs.Does.{Body, AreParamsAfter, var}
use Rattle.jn_sem.proofs.NormalTypes.{map_among}
use Rattle.jn_laws.specs.LawsOfWritten.{TypeWellFormed, Shallow, site_with, scope_of, SiteFits, TypeThere, ParamThere, ParamsFit}
use Rattle.jn_laws.proofs.Terms.{reverse_among}
use Rattle.jn_laws.proofs.WrittenTypes.{among_more, no_variable, one_more, of_value}

module _ (p : Program) (deep : Shallow p) (b : Body) where
  abbrev behind : List Var → Site
  behind done = site_with b.class b.method.name.name done

  -- those behind the variables `done`
  pub record ParamsAfter (done : List Var) (xs : List Param) (all : List Var) : Type 0 where
    pub more : List Var
    pub is : all ≡ done ++ more
    pub count : length more ≡ length xs
    pub each : (mid rest : List Var) (x : Var) → more ≡ mid ++ x ∷ rest → ParamThere b (done ++ mid) x
    pub fit : SiteFits p (behind all)

  -- the paths so far are numbered from 1
  pub Numbered : List Var → Type 0
  Numbered done = (v : Var) → Among done v → v.path ≤ length done

  free : (done : List Var) → Numbered done → Binds (scope_of (behind done)) (suc (length done)) → ⊥
  unfolding Numbered
  free done n c = at c.bind (reverse_among (this_bind (class_of (spot_at (behind done) role.Value)) ∷ map var_bind done) c.bind c.among) c.is where
    at : (d : Bind) → Among (this_bind (class_of (spot_at (behind done) role.Value)) ∷ map var_bind done) d → d.path ≡ suc (length done) → ⊥
    at _ first e = omega (arith, e)
    at d (later m) e =
        let v = map_among var_bind done d m in
        let i : v.0.path ≡ d.path = ap (λ (c : Bind). c.path) v.2 in
        omega (arith, n v.0 v.1, i, e)

  numbered_more : (done : List Var) (x : Var) → Numbered done → x.path ≡ suc (length done) → Numbered (done ++ x ∷ [])
  unfolding Numbered
  numbered_more done x n e v m = at (among_more p deep done x v m) where
    at : Among done v ⊎ (v ≡ x) → v.path ≤ length (done ++ x ∷ [])
    at (inl o) = omega (arith, n v o, length-append done (x ∷ []))
    at (inr i) = omega (arith, e, ap (λ (w : Var). w.path) i, length-append done (x ∷ []))

  split_mid : (x : Var) (more mid rest : List Var) (y : Var) (T : List Var → Var → Type 0) → x ∷ more ≡ mid ++ y ∷ rest → T [] x
      → ((ms : List Var) → more ≡ ms ++ y ∷ rest → T (x ∷ ms) y) → T mid y
  split_mid x more [] rest y T e h k = subst (T []) (head x y more rest e) h where
    head : (x y : Var) (xs ys : List Var) → x ∷ xs ≡ y ∷ ys → x ≡ y
    head x y xs ys e = cc
  split_mid x more (m ∷ mid) rest y T e h k = subst (λ (z : Var). T (z ∷ mid) y) (head x m more (mid ++ y ∷ rest) e) (k mid (tail x m more (mid ++ y ∷ rest) e)) where
    head : (x y : Var) (xs ys : List Var) → x ∷ xs ≡ y ∷ ys → x ≡ y
    head x y xs ys e = cc

    tail : (x y : Var) (xs ys : List Var) → x ∷ xs ≡ y ∷ ys → xs ≡ ys
    tail x y xs ys e = cc

  -- one parameter, and those behind it
  params_more : (done : List Var) (x : Param) (xs : List Param) (all : List Var) (t : Ty) → TypeThere (behind done) t
      → ParamsAfter (done ++ var x.name.name (suc (length done)) x.fixed t ∷ []) xs all → ParamsAfter done (x ∷ xs) all
  params_more done x xs all t there rest = record {
    more = v ∷ rest.more;
    is = rest.is ∙ append_assoc done (v ∷ []) rest.more;
    count = ap suc rest.count;
    each = λ mid ws y e. split_mid v rest.more mid ws y (λ ms z. ParamThere b (done ++ ms) z) e
        (subst (λ (vs : List Var). ParamThere b vs v) (sym (append-nil done)) (record { path = refl; type = there }))
        (λ ms i. subst (λ (vs : List Var). ParamThere b vs y) (append_assoc done (v ∷ []) ms) (rest.each ms ws y i));
    fit = rest.fit;
  } where
    v : Var
    v = var x.name.name (suc (length done)) x.fixed t

  pub params_after : (done : List Var) (xs : List Param) (all : List Var) → SiteFits p (behind done) → Numbered done → ((x : Param) → Among xs x → TypeWellFormed x.ty)
      → AreParamsAfter p b done xs all → ParamsAfter done xs all
  params_after done [] all ok n named g = record {
    more = [];
    is = g ∙ sym (append-nil done);
    count = refl;
    each = λ mid rest x e. absurd (nothing mid rest x e);
    fit = subst (λ (vs : List Var). SiteFits p (behind vs)) (sym g) ok;
  } where
    nothing : (mid rest : List Var) (x : Var) → [] ≡ mid ++ x ∷ rest → ⊥
    nothing mid rest x e = omega (arith, ap length e, length-append mid (x ∷ rest))
  params_after done (x ∷ xs) all ok n named g =
      let v = var x.name.name (suc (length done)) x.fixed g.0 in
      let there = of_value p deep (behind done) x.ty g.0 ok (named x first) g.1 in
      let rest = params_after (done ++ v ∷ []) xs all (one_more p deep (behind done) v ok there (free done n)) (numbered_more done v n refl)
      (λ y m. named y (later m)) g.2 in
      params_more done x xs all g.0 there rest

  pub none_numbered : Numbered []
  unfolding Numbered
  none_numbered v m = elim m [ ]

pub params_fit : ParamsFit
params_fit p b vars deep u named are =
    let r = params_after p deep b [] b.method.params vars (no_variable p deep b.class b.method.name.name u) (none_numbered p deep b) named are in record {
      count = ap length r.is ∙ r.count;
      each = λ done rest x e. r.each done rest x (sym r.is ∙ e);
      fit = r.fit;
    }
