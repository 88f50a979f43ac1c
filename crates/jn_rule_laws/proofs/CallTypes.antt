-- The types of parameters and results, with paths put for `this` and the parameters.
use Rattle.std.proofs.Common.{◌≡◌, ◌<◌, ℕ, suc, List, [], ◌∷◌, ◌++◌, length, map, refl, sym, ap, ◌∙◌, subst, arith, append_assoc, Bool, true, false, cond, nat_eq, eq-eqb, ne_eqb, Some}
use Rattle.std.proofs.lemmas.List.{reverse-reverse, append-nil, length-append}
use Rattle.jn_base.specs.declared.tree.Name.{Name}
use Rattle.jn_base.specs.declared.tree.TypeTerm.{TypeTerm}
use Rattle.jn_base.specs.declared.tree.Program.{Program}
use Rattle.jn_base.specs.declared.types.Anchor.{Anchor}
use Rattle.jn_base.specs.declared.types.Anchor.TheVariants.{Root, Up}
use Rattle.jn_base.specs.declared.types.Ty.{Ty}
use Rattle.jn_base.specs.declared.types.Ty.TheVariants as ty
use Rattle.jn_base.specs.declared.names.Role.TheVariants as role
use Rattle.jn_base.specs.declared.names.Var.{Var}
use Rattle.jn_base.specs.Paths.{Path}
use Rattle.jn_base.specs.Atoms.{Atom, atom, atoms_in, shown_atom, Among, first, later}
use Rattle.jn_base.specs.Scopes.{Scope, bound_of, bound, Binds}
use Rattle.jn_base.specs.Fits.{Anchored, TypeFits, BindsFit}
use Rattle.jn_base.specs.Resolve.{is_class}
use Rattle.jn_base.proofs.SuperLaws.{sup_level}
use Rattle.jn_sem.specs.Below.{Below, ints, booleans, nulls, classes}
use Rattle.jn_sem.specs.Normal.{normal, moved, moved_anchor, swapped, MovedFits}
use Rattle.jn_sem.specs.NormalFunction.{subst_type, in_order, moved_normal}
use Rattle.jn_sem.specs.Does.{Body, IsBody}
use Rattle.jn_sem.proofs.Under.{bound_depth, fits_whole, type_anchored, anchored_later}
use Rattle.jn_sem.proofs.Growth.{normal_later}
use Rattle.jn_laws.specs.LawsOfWritten.{HeaderPath, of_this, of_param, HeaderPaths, SiteFits}
use Rattle.jn_laws.specs.LawsOfFits.{AsDeep, MovedOf}
use Rattle.jn_laws.proofs.MovedTypes.{moved_types_fit, moved_anchored, subst_from, below_keeps_depth}
use Rattle.jn_laws.proofs.Lists.{among_right}
use Rattle.jn_laws.proofs.Terms.{this_bound, var_among}
use Rattle.jn_rules.specs.Questions.{IsMethodOf, HasMethod}
use Rattle.jn_rules.specs.Headers.{Header, site_in}
use Rattle.jn_rules.specs.Exprs.{replaced_paths, put_in, var_path}
use Rattle.jn_rule_laws.specs.LawsOfOneHeader.{HeaderFits}
use Rattle.jn_rule_laws.specs.LawsOfForms.{Grown, none as none_more, more, TypeKnown, PathKnown, PutFor, none, one, header_scope, ParamKnown, CallTypesFit}
use Rattle.jn_rule_laws.proofs.FoundMembers.{FoundAt, found_at}
use Rattle.jn_rule_laws.proofs.SameSignatures.{Numbered, numbered_all, numbered_above}

-- ---- what stands for a parameter

-- the path r stands for the variable's, whatever is put for those behind
pub record PutAt (h s : Scope) (from qs : List ℕ) (y : Var) : Type 0 where
  pub path : ℕ
  pub deep : is_class y.ty ≡ true → AsDeep h s y.path path
  pub is : (others : List ℕ) → swapped from (qs ++ others) y.path ≡ path

other_path : (b : Bool) (q r : ℕ) → b ≡ false → cond b q r ≡ r
other_path true q r e = cc
other_path false q r e = refl

same_path : (b : Bool) (q r : ℕ) → b ≡ true → cond b q r ≡ q
same_path true q r e = refl
same_path false q r e = cc

put_at : (h s : Scope) (n : ℕ) (done rest : List Var) (qs : List ℕ) → PutFor h s done qs → Numbered n done → (y : Var) → Among done y → PutAt h s (map var_path (done ++ rest)) qs y
unfolding Numbered
put_at h s n _ rest _ none i y m = elim m [ ]
put_at h s n _ rest _ (one {x = x} {xs = xs} {q = q} {qs = qs} b d others) i _ first = record {
  path = q;
  deep = d;
  is = λ zs. same_path (nat_eq x.path x.path) q (swapped (map var_path (xs ++ rest)) (qs ++ zs) x.path) (eq-eqb x.path x.path refl);
}
put_at h s n _ rest _ (one {x = x} {xs = xs} {q = q} {qs = qs} b d others) i y (later m) = behind (numbered_above n x xs i y m) (put_at h s (suc n) xs rest qs others i.1 y m) where
  behind : x.path < y.path → PutAt h s (map var_path (xs ++ rest)) qs y → PutAt h s (map var_path ((x ∷ xs) ++ rest)) (q ∷ qs) y
  behind l r = record {
    path = r.path;
    deep = r.deep;
    is = λ others. other_path (nat_eq y.path x.path) q (swapped (map var_path (xs ++ rest)) (qs ++ others) y.path) (ne_eqb y.path x.path (λ e. apart l e)) ∙ r.is others;
  } where
    apart : x.path < y.path → y.path ≡ x.path → ⊥
    apart l e = omega (arith, l, e)

-- with the receiver's path in front
put_behind : (q r : ℕ) (ps rs : List ℕ) → 0 < q → swapped (0 ∷ ps) (r ∷ rs) q ≡ swapped ps rs q
put_behind q r ps rs l = other_path (nat_eq q 0) r (swapped ps rs q) (ne_eqb q 0 (λ e. zero_not q l e)) where
  zero_not : (q : ℕ) → 0 < q → q ≡ 0 → ⊥
  zero_not q l e = omega (arith, l, e)

-- ---- substituted types that are the same

same_map : (f g : Atom → Atom) (xs : List Atom) → ((x : Atom) → Among xs x → f x ≡ g x) → map f xs ≡ map g xs
same_map f g [] h = refl
same_map f g (x ∷ xs) h = ap (λ (y : Atom). y ∷ map f xs) (h x first) ∙ ap (λ (ys : List Atom). g x ∷ ys) (same_map f g xs (λ y m. h y (later m)))

same_subst : (s t : Scope) (f g : ℕ → ℕ) (u : Ty) → ((x : Atom) → Among (atoms_in u) x → normal t (moved g x) ≡ normal s (moved f x)) → subst_type t g u ≡ subst_type s f u
same_subst s t f g (ty.Class xs m) h =
    ap (λ (zs : List Atom). ty.Class (map shown_atom (in_order zs)) m) (same_map (moved_normal t g) (moved_normal s f) (atoms_in (ty.Class xs m)) h)
same_subst s t f g ty.Int h = refl
same_subst s t f g ty.Bool h = refl
same_subst s t f g ty.Null h = refl
same_subst s t f g ty.Void h = refl

grown_anchored : {s t : Scope} → Grown s t → BindsFit t → (x : Atom) → Anchored s x.anchor → Anchored t x.anchor × (normal t x ≡ normal s x)
grown_anchored none_more f x a = (a, refl)
grown_anchored (more {t = t} {b = b} g) f x a =
    let r = grown_anchored g f.0 x a in
    (anchored_later f x.anchor r.0, normal_later f x r.0 ∙ r.1)

module _ (p : Program) (b : Body) (c : Header) (fit : HeaderFits p b c) where
  abbrev h : Scope
  h = header_scope b c

  ok : SiteFits p (site_in b c.vars)
  ok = fit.params.fit

  own_depth : length (bound_of h 0) ≡ length b.class
  own_depth = ap length (this_bound p (site_in b c.vars) role.Value ok) ∙ ap length (reverse-reverse b.class)

  at_bound : (s : Scope) (m : Name) (x : Atom) (q : ℕ) → IsBody p (bound s x) m b → Binds s q → length (bound_of s q) ≡ length (bound s x) → AsDeep h s 0 q
  at_bound s m x q i n e = record { bound_in = n; depth = e ∙ sym (sup_level i.least.among.super) ∙ sym own_depth }

  receiver : (s : Scope) (t : Ty) (m : Name) (q : ℕ) → IsMethodOf p s t m b → PathKnown s q t → AsDeep h s 0 q
  receiver s t m q i k = at (found_at (atoms_in t) i.at) where
    at : FoundAt s (HasMethod p m) (atoms_in t) i.bound → AsDeep h s 0 q
    at a = at_bound s m a.atom q (subst (λ (B : Path). IsBody p B m b) a.is i.body) k.bound_in (k.depth a.atom a.among)

  numbered_from : (done rest : List Var) → c.vars ≡ done ++ rest → Numbered (length done) rest
  unfolding Numbered
  numbered_from done [] e = tt
  numbered_from done (x ∷ rest) e = (
    (fit.params.each done rest x e).path,
    subst (λ (n : ℕ). Numbered n rest) (omega (arith, length-append done (x ∷ []))) (numbered_from (done ++ x ∷ []) rest (e ∙ sym (append_assoc done (x ∷ []) rest))),
  )

  front_numbered : (n : ℕ) (done rest : List Var) → Numbered n (done ++ rest) → Numbered n done
  unfolding Numbered
  front_numbered n [] rest i = tt
  front_numbered n (x ∷ done) rest i = (i.0, front_numbered (suc n) done rest i.1)

  done_numbered : (done rest : List Var) → c.vars ≡ done ++ rest → Numbered 0 done
  done_numbered done rest e = front_numbered 0 done rest (subst (Numbered 0) e (numbered_from [] c.vars refl))

  -- a type of the header, with the paths that it may mention replaced by deep ones
  module _ (done rest : List Var) (is : c.vars ≡ done ++ rest) (s : Scope) (r : ℕ) (qs : List ℕ) (g : BindsFit s) (this : AsDeep h s 0 r) (put : PutFor h s done qs) where
    abbrev f : ℕ → ℕ
    f = swapped (replaced_paths c.vars) (r ∷ qs)

    at_var : (y : Var) → Among done y → PutAt h s (map var_path c.vars) qs y
    at_var y m = subst (λ (vs : List Var). PutAt h s (map var_path vs) qs y) (sym is) (put_at h s 0 done rest qs put (done_numbered done rest is) y m)

    positive : (y : Var) → Among done y → 0 < y.path
    positive y m = numbered_all 0 done (done_numbered done rest is) y m

    deep_path : (q : ℕ) → HeaderPath done q → AsDeep h s q (f q)
    deep_path q (of_this e) = subst (λ (z : ℕ). AsDeep h s z (f z)) (sym e) this
    deep_path q (of_param y m e a k) =
        let o = at_var y m in
        subst (λ (z : ℕ). AsDeep h s z (f z)) e
        (subst (AsDeep h s y.path) (sym (put_behind y.path r (map var_path c.vars) qs (positive y m) ∙ ap (λ (zs : List ℕ). swapped (map var_path c.vars) zs y.path) (sym (append-nil qs)) ∙ o.is [])) (o.deep k))

    -- with more paths behind, the same one is put
    same_put : (others : List ℕ) (q : ℕ) → HeaderPath done q → swapped (replaced_paths c.vars) (r ∷ (qs ++ others)) q ≡ f q
    same_put others q (of_this e) = subst (λ (z : ℕ). swapped (replaced_paths c.vars) (r ∷ (qs ++ others)) z ≡ f z) (sym e) refl
    same_put others q (of_param y m e a k) =
        let o = at_var y m in
        subst (λ (z : ℕ). swapped (replaced_paths c.vars) (r ∷ (qs ++ others)) z ≡ f z) e
        (put_behind y.path r (map var_path c.vars) (qs ++ others) (positive y m) ∙ o.is others
        ∙ sym (put_behind y.path r (map var_path c.vars) qs (positive y m) ∙ ap (λ (zs : List ℕ). swapped (map var_path c.vars) zs y.path) (sym (append-nil qs)) ∙ o.is []))

    module _ (u : Ty) (fits : TypeFits h u) (paths : HeaderPaths done u) where
      moves : MovedOf h s f u
      moves = moved_types_fit h s f u fits (λ x q k m e. deep_path q (paths x q k m e))

      pub put_fits : MovedFits s (swapped (replaced_paths c.vars) (r ∷ qs)) u
      put_fits = moves.moved

      pub put_known : ((x : Atom) → Among (atoms_in u) x → 0 < length (bound h x)) → TypeKnown s (put_in s (replaced_paths c.vars) (r ∷ qs) u)
      put_known named = record {
        fits = moves.substituted g;
        named = λ y n. let o = subst_from s f u y n in subst (λ (l : ℕ). 0 < l) (sym (moves.depth g o.0 y o.1 n)) (named o.0 o.1);
      }

      pub put_depth : (x y : Atom) → Among (atoms_in u) x → Among (atoms_in (put_in s (replaced_paths c.vars) (r ∷ qs) u)) y → length (bound s y) ≡ length (bound h x)
      put_depth x y m n = moves.depth g x y m n

      pub put_settled : (t : Scope) (others : List ℕ) → Grown s t → BindsFit t
          → put_in t (replaced_paths c.vars) (r ∷ (qs ++ others)) u ≡ put_in s (replaced_paths c.vars) (r ∷ qs) u
      put_settled t others n k = same_subst s t f (swapped (replaced_paths c.vars) (r ∷ (qs ++ others))) u (λ x m. at x m) where
        anchors : (x : Atom) → Among (atoms_in u) x → (a : Anchor) → x.anchor ≡ a → moved_anchor (swapped (replaced_paths c.vars) (r ∷ (qs ++ others))) a ≡ moved_anchor f a
        anchors x m Root e = refl
        anchors x m (Up q k) e = ap (λ (z : ℕ). Up z k) (same_put others q (paths x q k m e))

        at : (x : Atom) → Among (atoms_in u) x → normal t (moved (swapped (replaced_paths c.vars) (r ∷ (qs ++ others))) x) ≡ normal s (moved f x)
        at x m =
            let anchored = moved_anchored h s f x.anchor x.exact x.names (type_anchored fits x m) (λ q j i. deep_path q (paths x q j m i)) in
            ap (λ (z : Anchor). normal t (atom z x.exact x.names)) (anchors x m x.anchor refl) ∙ (grown_anchored n k (moved f x) anchored).1

  -- ---- parameters

  var_in : (done rest : List Var) (x : Var) → c.vars ≡ done ++ x ∷ rest → Among c.vars x
  var_in done rest x e = subst (λ (vs : List Var). Among vs x) (sym e) (among_right done (x ∷ rest) first)

  var_fits : (x : Var) → Among c.vars x → TypeFits h x.ty
  var_fits x m = fits_whole (var_among p (site_in b c.vars) role.Value ok x m) ok.binds

  param : (done rest : List Var) (x : Var) (s : Scope) (r : ℕ) (qs : List ℕ) → c.vars ≡ done ++ x ∷ rest → BindsFit s → AsDeep h s 0 r → PutFor h s done qs
      → ParamKnown b c x s (r ∷ qs)
  param done rest x s r qs e g this put = record {
    known = put_known done (x ∷ rest) e s r qs g this put x.ty fits paths (ok.named x m);
    moved = put_fits done (x ∷ rest) e s r qs g this put x.ty fits paths;
    depth = λ y n. let o = subst_from s (swapped (replaced_paths c.vars) (r ∷ qs)) x.ty y n in
        put_depth done (x ∷ rest) e s r qs g this put x.ty fits paths o.0 y o.1 n ∙ sym (bound_depth (var_among p (site_in b c.vars) role.Value ok x m) ok.binds o.0 o.1);
    settled = put_settled done (x ∷ rest) e s r qs g this put x.ty fits paths;
  } where
    m : Among c.vars x
    m = var_in done rest x e

    fits : TypeFits h x.ty
    fits = var_fits x m

    paths : HeaderPaths done x.ty
    paths = (fit.params.each done rest x e).type.paths

  result : (t : TypeTerm) (s : Scope) (r : ℕ) (qs : List ℕ) → b.method.result ≡ Some t → BindsFit s → AsDeep h s 0 r → PutFor h s c.vars qs
      → TypeKnown s (put_in s (replaced_paths c.vars) (r ∷ qs) c.result)
  result t s r qs e g this put =
      let k = fit.result t e in
      put_known c.vars [] (sym (append-nil c.vars)) s r qs g this put c.result k.fits k.paths k.named

  result_moved : (t : TypeTerm) (s : Scope) (r : ℕ) (qs : List ℕ) → b.method.result ≡ Some t → BindsFit s → AsDeep h s 0 r → PutFor h s c.vars qs
      → MovedFits s (swapped (replaced_paths c.vars) (r ∷ qs)) c.result
  result_moved t s r qs e g this put =
      let k = fit.result t e in
      put_fits c.vars [] (sym (append-nil c.vars)) s r qs g this put c.result k.fits k.paths

  below_atom : (s : Scope) (t u : Ty) → Below p s t u → TypeFits s u → (y : Atom) → Among (atoms_in t) y → (z : Atom) × Among (atoms_in u) z
  below_atom s _ _ ints k y m = elim m [ ]
  below_atom s _ _ booleans k y m = elim m [ ]
  below_atom s _ _ nulls k y m = elim m [ ]
  below_atom s _ _ (classes w i) k y m = let a = k.atoms tt in (a.one, a.among)

  argument : (done rest : List Var) (x : Var) (s : Scope) (r : ℕ) (qs : List ℕ) (t : Ty) (q : ℕ) → c.vars ≡ done ++ x ∷ rest → BindsFit s → AsDeep h s 0 r → PutFor h s done qs
      → TypeFits s t → Below p s t (put_in s (replaced_paths c.vars) (r ∷ qs) x.ty) → (y : Atom) → Among (atoms_in t) y → PathKnown s q t → AsDeep h s x.path q
  argument done rest x s r qs t q e g this put fits below y m k =
      let o = param done rest x s r qs e g this put in
      let z = below_atom s t (put_in s (replaced_paths c.vars) (r ∷ qs) x.ty) below o.known.fits y m in record {
        bound_in = k.bound_in;
        depth = k.depth y m ∙ sym (below_keeps_depth p s t (put_in s (replaced_paths c.vars) (r ∷ qs) x.ty) y z.0 g fits below m z.1) ∙ o.depth z.0 z.1;
      }

pub call_types_fit : CallTypesFit
call_types_fit p b c fit = record {
  receiver = receiver p b c fit;
  at_bound = at_bound p b c fit;
  param = param p b c fit;
  result = result p b c fit;
  result_moved = result_moved p b c fit;
  argument = argument p b c fit;
}
