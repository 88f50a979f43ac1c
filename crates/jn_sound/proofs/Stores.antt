-- A store to a field, by which a `final` variable may lose the field's mask.
use Rattle.std.proofs.Common.{◌≡◌, ◌≤◌, ◌<◌, ℕ, List, [], ◌∷◌, length, Option, Some, None, Bool, true, false, ◌⊎◌, inl, inr, refl, sym, ap, ◌∙◌, subst, arith, eqb-true, eq-eqb}
use Rattle.std.specs.Prelude.{◌&&◌, not, cond, nat_eq, nat_lt, Result, Ok, Err}
use Rattle.std.proofs.lemmas.Bool.{ltb-true}
use Rattle.std.proofs.lemmas.List.Elements.{Contains-append_left, Contains-append_right}
use Rattle.jn_base.specs.declared.tree.Named.{Named}
use Rattle.jn_base.specs.declared.tree.Name.{Name}
use Rattle.jn_base.specs.declared.tree.Program.{Program}
use Rattle.jn_base.specs.declared.tree.Expr.{Expr}
use Rattle.jn_base.specs.declared.tree.Stmt.{Stmt}
use Rattle.jn_base.specs.declared.tree.Stmt.TheOpen.{Stmt-F}
use Rattle.jn_base.specs.declared.tree.Stmt.TheVariants as stmt
use Rattle.jn_base.specs.declared.types.Masks.{Masks}
use Rattle.jn_base.specs.declared.types.Ty.{Ty}
use Rattle.jn_base.specs.declared.types.Ty.TheVariants as ty
use Rattle.jn_base.specs.declared.names.Var.{Var}
use Rattle.jn_base.specs.Atoms.{Among, first, later, HasMask, MasksOf}
use Rattle.jn_base.specs.Scopes.{Bind, Scope}
use Rattle.jn_base.specs.Fits.{TypeFits}
use Rattle.jn_base.specs.Forms.{Termed, of_expr}
use Rattle.jn_base.specs.Resolve.{is_class}
use Rattle.jn_base.specs.ResolveTypes.{mask_names}
use Rattle.jn_base.proofs.FormEquations.{at_set}
use Rattle.jn_sem.specs.Acts.{Todo, todo, Put, acts, stmts_acts}
use Rattle.jn_sem.specs.Below.{Below}
use Rattle.jn_sem.specs.Normal.{swapped}
use Rattle.jn_sem.specs.NormalFunction.{subst_type}
use Rattle.jn_sem.proofs.ActLaws.{acts_are}
use Rattle.jn_laws.specs.LawsOfWritten.{HeaderPath, of_this, of_param}
use Rattle.jn_body_laws.specs.BodyForms.{TermsNamed, ExprFormed}
use Rattle.jn_rule_laws.specs.LawsOfForms.{TypeKnown}
use Rattle.jn_rule_laws.proofs.KnownTypes.{path_types_fit}
use Rattle.jn_base.specs.declared.refusal.Refusal.{Refusal}
use Rattle.jn_rules.specs.Plans.{FoundField, OfField, Plan, done, wants}
use Rattle.jn_rules.specs.Questions.{Answers, Gives, Means, IsFoundField, KeptMask, masks_of}
use Rattle.jn_rules.specs.Exprs.{Typed, bind, masks_at, path_of, path_or_fresh, field_type, put_in, site_here}
use Rattle.jn_rules.specs.Stmts.{In, Before, typed, set_with, dropped, without_mask, is_variable, remasked, with_masks}
use Rattle.jn_rules.proofs.FormLaws.{forms_are}
use Rattle.jn_rules.proofs.PlanLaws.{then_came, wanted, found_was}
use Rattle.jn_sound.specs.KnownScopes.{here_in, MasksFormed, StmtKnown, StandsIn}
use Rattle.jn_sound.specs.Takes.{opd, same, wider, put, unmask}
use Rattle.jn_sound.specs.Fit.{Fits, acts as act, moves, narrows}
use Rattle.jn_sound.specs.Tree.{Fresher, none as fresh_none, more as fresh_more, ExprKnown, GoesTo, as_they_are}
use Rattle.jn_sound.specs.Stmts.{BodyKnown, StmtGoes, StmtFits}
use Rattle.jn_rule_laws.specs.Behind.{MasksApart}
use Rattle.jn_sound.proofs.Scopes.{grown_of, fresher_joined, fits_grown, found_grown, no_ops, ops_with, some_bound}
use Rattle.jn_sound.proofs.Settled.{field_settled}
use Rattle.jn_sound.proofs.RuledForms.{Reached, path_reached, not_void_below}
use Rattle.jn_sound.proofs.CallsFit.{not_void}
use Rattle.jn_sound.proofs.Parts.{class_not_void}
use Rattle.jn_rule_laws.proofs.Behind.{same_before}
use Rattle.jn_sound.proofs.Stmts.{narrowed_fresh, take_all, ended, passed, asked}
use Rattle.jn_rule_laws.proofs.MaskNumbers.{formed_of, mask_small}
use Rattle.jn_sound.proofs.MaskSets.{none_formed}
use Rattle.jn_rule_laws.proofs.Behind.{masks_apart}
use Rattle.jn_sound.proofs.Blocks.{with_scope, known_at}
use Rattle.jn_sound.proofs.Variables.{own_paths, one_var}

-- ---- masks of a path

-- a fresh path doesn't stand in the way of an older one
pub masks_fresh : {s t : Scope} (q : ℕ) → Fresher s t → q < 256 → masks_at t q ≡ masks_at s q
masks_fresh q fresh_none l = refl
masks_fresh q (fresh_more {t = t} {b = c} old g) l = at (nat_eq q c.path) refl (masks_fresh q g l) where
  at : {m : Masks} (d : Bool) → nat_eq q c.path ≡ d → masks_at t q ≡ m → cond d (masks_of c.ty) (masks_at t q) ≡ m
  at true e again = absurd (let k = eqb-true q c.path e in omega (arith, old, l, k))
  at false e again = again

with_fresh : {s t : Scope} (q : ℕ) (m : Masks) → Fresher s t → q < 256 → Fresher (with_masks s q m) (with_masks t q m)
with_fresh q m fresh_none l = fresh_none
with_fresh {s} q m (fresh_more {t = t} {b = c} old g) l = at (nat_eq q c.path) refl (with_fresh q m g l) where
  at : (d : Bool) → nat_eq q c.path ≡ d → Fresher (with_masks s q m) (with_masks t q m)
      → Fresher (with_masks s q m) (cond d (record c { ty = remasked m c.ty } ∷ t) (c ∷ with_masks t q m))
  at true e again = absurd (let k = eqb-true q c.path e in omega (arith, old, l, k))
  at false e again = fresh_more old again

-- the masks of a path are a set where those of each type are
masks_at_formed : (s : Scope) (q : ℕ) → ((c : Bind) → Among s c → MasksFormed c.ty)
    → MasksOf (HasMask (masks_at s q)) (masks_at s q)
masks_at_formed [] q each = none_formed
masks_at_formed (c ∷ s) q each = at (nat_eq q c.path) (masks_at_formed s q (λ d m. each d (later m))) where
  at : (d : Bool) → MasksOf (HasMask (masks_at s q)) (masks_at s q)
      → MasksOf (HasMask (cond d (masks_of c.ty) (masks_at s q))) (cond d (masks_of c.ty) (masks_at s q))
  at true again = each c first
  at false again = again

remasked_formed : (t : Ty) (m : Masks) → MasksFormed t → MasksOf (HasMask m) m → MasksFormed (remasked m t)
remasked_formed (ty.Class xs n) m f g = g
remasked_formed ty.Int m f g = f
remasked_formed ty.Bool m f g = f
remasked_formed ty.Null m f g = f
remasked_formed ty.Void m f g = f

with_formed : (s : Scope) (q : ℕ) (m : Masks) → MasksOf (HasMask m) m → ((c : Bind) → Among s c → MasksFormed c.ty)
    → (c : Bind) → Among (with_masks s q m) c → MasksFormed c.ty
with_formed [] q m g each c a = elim a [ ]
with_formed (d ∷ s) q m g each c a =
    at (nat_eq q d.path) a (with_formed s q m g (λ e n. each e (later n))) where
      old : (e : Bind) → Among (record d { ty = remasked m d.ty } ∷ s) e → MasksFormed e.ty
      old _ first = remasked_formed d.ty m (each d first) g
      old e (later n) = each e (later n)

      new : ((e : Bind) → Among (with_masks s q m) e → MasksFormed e.ty) → (e : Bind)
          → Among (d ∷ with_masks s q m) e → MasksFormed e.ty
      new again _ first = each d first
      new again e (later n) = again e n

      at : (z : Bool) → Among (cond z (record d { ty = remasked m d.ty } ∷ s) (d ∷ with_masks s q m)) c
          → ((e : Bind) → Among (with_masks s q m) e → MasksFormed e.ty) → MasksFormed c.ty
      at true a again = old c a
      at false a again = new again c a

-- a bind of another path stays
with_other : (s : Scope) (q : ℕ) (m : Masks) (c : Bind) → Among s c → (c.path ≡ q → ⊥) → Among (with_masks s q m) c
with_other _ q m c (first {xs = s}) n = at (nat_eq q c.path) refl where
  at : (z : Bool) → nat_eq q c.path ≡ z
      → Among (cond z (record c { ty = remasked m c.ty } ∷ s) (c ∷ with_masks s q m)) c
  at true e = absurd (n (sym (eqb-true q c.path e)))
  at false e = first
with_other _ q m c (later {y = d} {xs = s} a) n = at (nat_eq q d.path) (with_other s q m c a n) where
  at : (z : Bool) → Among (with_masks s q m) c
      → Among (cond z (record d { ty = remasked m d.ty } ∷ s) (d ∷ with_masks s q m)) c
  at true again = later a
  at false again = later again

both_hold : (x y : Bool) → (x && y) ≡ true → (x ≡ true) × (y ≡ true)
both_hold true y e = (refl, e)
both_hold false y e = cc

-- a variable: neither `this` nor a fresh path
record OfVariable (q : ℕ) : Type 0 where
  not_zero : q ≡ 0 → ⊥
  small : q < 256

of_variable : (q : ℕ) → is_variable q ≡ true → OfVariable q
of_variable q e =
    let k = both_hold (not (nat_eq q 0)) (nat_lt q 256) e in
    record { not_zero = λ z. no (sym (ap not (eq-eqb q 0 z)) ∙ k.0); small = ltb-true q 256 k.1 } where
      no : false ≡ true → ⊥
      no e = cc

module _ (p : Program) (b : In) (its : BodyKnown p b) where
  set_terms : (r : Expr) (f : Named) (e : Expr) → StandsIn b.method.body (stmt.Set r f e) → ExprFormed r × ExprFormed e
  set_terms r f e inside =
      let k = subst TermsNamed (at_set r f e) (its.formed (stmt.Set r f e) inside).terms in (
        (λ t c. k t (Contains-append_left (of_expr r) (of_expr e) (Termed t) c)),
        (λ t c. k t (Contains-append_right (of_expr r) (of_expr e) (Termed t) c)),
      )

  -- the store up to its act
  record Stored (x : Before) (r : Expr) (e : Expr) (f : Name) (o : Typed) : Type 0 where
    q : ℕ
    is_path : q ≡ (path_of o.ty o).path
    value : Typed
    c : FoundField
    fresh : Fresher x.scope value.scope
    found : IsFoundField p value.scope o.ty f c
    fits : (k : List Todo) → Fits p b k x.vars value.scope
        (opd (subst_type value.scope (swapped (0 ∷ []) (q ∷ [])) c.ty) value.path ∷ (opd o.ty (Some q) ∷ []))
        → Fits p b (acts (length x.vars) r (acts (length x.vars) e k)) x.vars x.scope []

  stored : (x : Before) (r : Expr) (f : Named) (e : Expr) (o v : Typed) (c : FoundField) → is_class o.ty ≡ true
      → GoesTo p b (here_in b x.vars) (acts (length x.vars) r) x.scope as_they_are o
      → IsFoundField p o.scope o.ty f.name c
      → Reached p (here_in b x.vars) o (path_of o.ty o).path (path_of o.ty o).scope
      → GoesTo p b (here_in b x.vars) (acts (length x.vars) e) (path_of o.ty o).scope as_they_are v
      → Below p v.scope v.ty (field_type c (path_of o.ty o)) → Stored x r e f.name o
  stored x r f e o v c class one i reached two below = record {
    q = q;
    is_path = refl;
    value = v;
    c = c;
    fresh = fresher_joined one.grown (fresher_joined reached.grown two.grown);
    found = record {
      bound = i.bound;
      at = found_grown o.ty (grown_of (fresher_joined reached.grown two.grown)) two.known.scope.scope.binds
          one.known.type.fits i.at;
      type = i.type;
      class = i.class;
    };
    fits = λ k g. one.fits _ [] (no_ops x.scope) (class_not_void o.ty class)
        (moves (reached.moves [])
        (two.fits k (opd o.ty (Some q) ∷ [])
        (ops_with (opd o.ty (Some q)) (some_bound s q reached.path.bound_in) (no_ops s))
        (not_void v.ty (not_void_below p v.scope v.ty _ below))
        (moves (wider v.ty want v.path below fits same)
        (subst (λ (u : Ty). Fits p b k x.vars v.scope (opd u v.path ∷ (opd o.ty (Some q) ∷ []))) settled g))));
  } where
    q : ℕ
    q = (path_of o.ty o).path

    s : Scope
    s = (path_of o.ty o).scope

    want : Ty
    want = put_in (path_of o.ty o).scope (0 ∷ []) ((path_of o.ty o).path ∷ []) c.ty

    there : IsFoundField p (path_of o.ty o).scope o.ty f.name c
    there = record {
      bound = i.bound;
      at = found_grown o.ty (grown_of reached.grown) reached.known.scope.binds one.known.type.fits i.at;
      type = i.type;
      class = i.class;
    }

    known : TypeKnown (path_of o.ty o).scope (put_in (path_of o.ty o).scope (0 ∷ []) ((path_of o.ty o).path ∷ []) c.ty)
    known = (path_types_fit p).field s o.ty f.name c q its.shallow its.well reached.known.scope.binds there reached.path

    fits : TypeFits v.scope (put_in (path_of o.ty o).scope (0 ∷ []) ((path_of o.ty o).path ∷ []) c.ty)
    fits = fits_grown (grown_of two.grown) two.known.scope.scope.binds known.fits

    settled : subst_type v.scope (swapped (0 ∷ []) ((path_of o.ty o).path ∷ [])) c.ty ≡ put_in
        (path_of o.ty o).scope (0 ∷ []) ((path_of o.ty o).path ∷ []) c.ty
    settled = field_settled p s v.scope o.ty f.name c q its.shallow its.well there reached.path (grown_of two.grown)
        two.known.scope.scope.binds

  -- where the masks stay
  set_kept : (x : Before) → StmtKnown p b x → (r : Expr) (f : Named) (e : Expr) (o : Typed) → Stored x r e f.name o
      → (ss : List Stmt) (k : List Todo) → Fits p b (stmts_acts (length x.vars) x.next ss k) x.vars x.scope []
      → Fits p b (stmts_acts (length x.vars) x.next (stmt.Set r f e ∷ ss) k) x.vars x.scope []
  set_kept x known r f e o d ss k g =
      subst (λ (z : List Todo). Fits p b z x.vars x.scope [])
      (sym ((acts_are.stmts (length x.vars) x.next ss k).set r f e))
      (d.fits _ (act refl (put f.name o.ty d.q d.value.path d.c d.found) (ended x [] known d.fresh g)))

  -- where the variable q loses the mask
  module _ (x : Before) (known : StmtKnown p b x) (q : ℕ) (var : OfVariable q)
      (path : HeaderPath x.vars q) (f : Name) (m : Masks) (kept : MasksOf
      (KeptMask (mask_names p) (masks_at x.scope q) f) m)
    where
      apart : MasksApart x.scope (with_masks x.scope q m)
      apart = masks_apart x.scope q m (λ i h. ((kept.each i (mask_small m (formed_of _ m kept) i h)).0 h).0)

      other : (v : Var) → Among x.vars v → (v.fixed && is_class v.ty) ≡ false → HeaderPath x.vars q → v.path ≡ q → ⊥
      other v a plain (of_this e) i = var.not_zero e
      other v a plain (of_param w n e fixed class) i =
          let same = one_var x.vars (own_paths (site_here (here_in b x.vars)) known.scope.site.binds) w v n a
          (e ∙ sym i) in
          no (sym plain ∙ ap (λ (z : Var). z.fixed && is_class z.ty) (sym same) ∙ ap
          (λ (z : Bool). z && is_class w.ty) fixed
          ∙ class) where
            no : false ≡ true → ⊥
            no e = cc

      known_less : x.next ≤ 256 → StmtKnown p b (with_scope x (with_masks x.scope q m) x.next)
      known_less few = known_at p b x known (with_masks x.scope q m) x.next apart
          (with_formed x.scope q m (formed_of _ m kept) known.masks)
          (λ v a plain. with_other x.scope q m (bind v.path v.ty) (known.scope.plain v a plain) (other v a plain path))
          (omega arith) few

      set_less : x.next ≤ 256 → (r : Expr) (n : Named) (e : Expr) (o : Typed) (d : Stored x r e n.name o) → d.q ≡ q
          → n.name ≡ f
          → (ss : List Stmt) (k : List Todo)
          → Fits p b (stmts_acts (length x.vars) x.next ss k) x.vars (with_masks x.scope q m) []
          → Fits p b (stmts_acts (length x.vars) x.next (stmt.Set r n e ∷ ss) k) x.vars x.scope []
      set_less few r n e o d i named ss k g =
          subst (λ (z : List Todo). Fits p b z x.vars x.scope [])
          (sym ((acts_are.stmts (length x.vars) x.next ss k).set r n e))
          (d.fits _ (subst (λ (z : ℕ). Fits p b (todo (length x.vars) (Put n.name) ∷ stmts_acts (length x.vars)
          x.next ss k)
          x.vars d.value.scope (opd (subst_type d.value.scope (swapped (0 ∷ []) (z ∷ [])) d.c.ty) d.value.path
          ∷ (opd o.ty (Some z) ∷ []))) (sym i)
          (act refl (unmask n.name o.ty q d.value.path d.c m d.found
          (subst (λ (z : Masks). MasksOf (HasMask z) z) (sym same) (masks_at_formed x.scope q known.masks))
          (subst (λ (z : Masks). MasksOf (KeptMask (mask_names p) z n.name) m) (sym same)
          (subst (λ (z : Name). MasksOf (KeptMask (mask_names p) (masks_at x.scope q) z) m) (sym named) kept)))
          (narrows (take_all x.vars) known.params (narrowed_fresh (with_fresh q m d.fresh var.small))
          (known_less few).scope.scope.binds (known_less few).covers g)))) where
            same : masks_at d.value.scope q ≡ masks_at x.scope q
            same = masks_fresh q d.fresh var.small

  answered_go : (T : Type 0) (ok : Bool) (r : Refusal) (go : Plan Before) (y : Before) → Answers T ok
      → Gives p (wants ok r go) (Ok y) → T × Gives p go (Ok y)
  answered_go T true r go y a g = (a, g)
  answered_go T false r go y a g = absurd (no g) where
    no : (let a : Result Before Refusal = Ok y in let c : Result Before Refusal = Err r in a ≡ c) → ⊥
    no e = cc

  pub set_fits : (r : Expr) (f : Named) (e : Expr) → StmtFits p b (stmt.Set r f e)
  set_fits r f e x y known few inside g =
      let a = asked p b its (stmt.Set r f e) x y _ ((forms_are.stmts b x).set r f e) g in
      let c = then_came (typed b x r x.scope) _ y a in
      let w = wanted (is_class c.first.ty) _ _ y c.then in
      let u = found_was w.then.0 _ (set_with b x f e c.first) y w.then.2 in
      let d = then_came (typed b x e (path_of c.first.ty c.first).scope) _ y u.then in
      let z = answered_go (Below p d.first.scope d.first.ty (field_type u.given (path_of c.first.ty c.first)))
      d.then.0 _
      (dropped x f.name c.first.path) y d.then.1 d.then.2 in
      let terms = set_terms r f e inside in
      let one = its.exprs x.vars r terms.0 x.scope c.first known.scope c.gave in
      let reached = path_reached p (here_in b x.vars) c.first one.known w.test in
      let two = its.exprs x.vars e terms.1 (path_of c.first.ty c.first).scope d.first reached.known d.gave in
      by_path c.first one.known (stored x r f e c.first d.first u.given w.test one
      (subst (λ (o : Option FoundField). Means p (OfField c.first.scope c.first.ty f.name) o) u.is w.then.1)
      reached two z.0) c.first.path refl z.1 where
        plainly : (o : Typed) → Stored x r e f.name o → y ≡ x → StmtGoes p b (stmt.Set r f e) x y
        plainly o d i = subst (StmtGoes p b (stmt.Set r f e) x) (sym i) (record {
          known = known;
          fits = λ ss k g. set_kept x known r f e o d ss k
              (passed (Stmt-F.Set r f e) (stmt.Set r f e) (stmt.rolls-Set r f e) refl g);
        })

        less : (o : Typed) → Stored x r e f.name o → (q : ℕ) → (path_of o.ty o).path ≡ q → HeaderPath x.vars q
            → OfVariable q → Gives p (without_mask x f.name q) (Ok y) → StmtGoes p b (stmt.Set r f e) x y
        less o d q i path var g =
            let is = same_before (with_scope x (with_masks x.scope q g.0) x.next) y g.2 in
            let small : x.next ≤ 256 = subst (λ (z : Before). z.next ≤ 256) is few in
            subst (StmtGoes p b (stmt.Set r f e) x) (sym is) (record {
              known = known_less x known q var path f.name g.0 g.1 small;
              fits = λ ss k h. set_less x known q var path f.name g.0 g.1 small r f e o d (d.is_path ∙ i) refl ss k
                  (passed (Stmt-F.Set r f e) (stmt.Set r f e) (stmt.rolls-Set r f e) refl h);
            })

        at_path : (o : Typed) → ExprKnown p (here_in b x.vars) o → Stored x r e f.name o → (q : ℕ) → o.path ≡ Some q
            → (z : Bool) → is_variable q ≡ z → Gives p (cond z (without_mask x f.name q) (done x)) (Ok y)
            → StmtGoes p b (stmt.Set r f e) x y
        at_path o there d q i false n g = plainly o d (same_before x y g)
        at_path o there d q i true n g =
            less o d q (ap (λ (z : Option ℕ). (path_or_fresh o.ty z o.scope).path) i)
            (mentioned (there.mentioned q i)) (of_variable q n) g where
              mentioned : HeaderPath x.vars q ⊎ (256 ≤ q) → HeaderPath x.vars q
              mentioned (inl h) = h
              mentioned (inr l) = absurd (let k = (of_variable q n).small in omega (arith, l, k))

        by_path : (o : Typed) → ExprKnown p (here_in b x.vars) o → Stored x r e f.name o → (z : Option ℕ) → o.path ≡ z
            → Gives p (dropped x f.name z) (Ok y) → StmtGoes p b (stmt.Set r f e) x y
        by_path o there d None i g = plainly o d (same_before x y g)
        by_path o there d (Some q) i g = at_path o there d q i (is_variable q) refl g
