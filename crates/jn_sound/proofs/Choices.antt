-- `if`: behind it each path has the masks of either end, and so what fits there fits behind each end.
use Rattle.std.proofs.Common.{◌≡◌, ◌≤◌, ℕ, List, [], ◌∷◌, length, map, Bool, true, false, ◌⊎◌, inl, inr, refl, sym, ap, ◌∙◌, subst, arith}
use Rattle.std.specs.Prelude.{◌&&◌, Ok}
use Rattle.jn_base.specs.declared.tree.Place.{Place}
use Rattle.jn_base.specs.declared.tree.Program.{Program}
use Rattle.jn_base.specs.declared.tree.Expr.{Expr}
use Rattle.jn_base.specs.declared.tree.Stmt.{Stmt}
use Rattle.jn_base.specs.declared.tree.Stmt.TheOpen.{Stmt-F}
use Rattle.jn_base.specs.declared.tree.Stmt.TheVariants as stmt
use Rattle.jn_base.specs.declared.types.Masks.{Masks}
use Rattle.jn_base.specs.declared.types.Ty.{Ty}
use Rattle.jn_base.specs.declared.types.Ty.TheVariants as ty
use Rattle.jn_base.specs.declared.names.Var.{Var}
use Rattle.jn_base.specs.Atoms.{Among, first, later, atoms_in, HasMask, MasksOf, MasksWithin, no_masks}
use Rattle.jn_base.specs.Scopes.{Bind, Scope}
use Rattle.jn_base.specs.Fits.{BindsFit}
use Rattle.jn_base.specs.Resolve.{is_class}
use Rattle.jn_rule_laws.proofs.Masks.{masks_of_once}
use Rattle.jn_rules.specs.Questions.{Gives, InEither, masks_of}
use Rattle.jn_rules.specs.Exprs.{Typed, bind, is_bool}
use Rattle.jn_rules.specs.Stmts.{In, Before, typed, block_typed, choice_typed, stmt_types, stops, all_stop, is_void, joined, joined_type}
use Rattle.jn_rules.proofs.FormLaws.{forms_are}
use Rattle.jn_rules.proofs.PlanLaws.{then_came, wanted}
use Rattle.jn_sem.specs.Acts.{Todo, todo, Choose, acts, stmts_acts, path_behind}
use Rattle.jn_sem.proofs.ActLaws.{acts_are}
use Rattle.jn_sound.specs.Takes.{opd}
use Rattle.jn_sound.specs.Fit.{Fits, Narrowed, none as narrow_none, kept, narrows, choose}
use Rattle.std.proofs.lemmas.List.Elements.{Contains-append_left}
use Rattle.jn_base.specs.Forms.{Termed, of_expr}
use Rattle.jn_base.proofs.FormEquations.{at_if}
use Rattle.jn_body_laws.specs.BodyForms.{TermsNamed}
use Rattle.jn_sound.specs.KnownScopes.{here_in, MasksFormed, StmtKnown, in_first, in_second}
use Rattle.jn_sound.specs.Tree.{GoesTo, as_they_are}
use Rattle.jn_sound.specs.Stmts.{BodyKnown, StmtGoes, StmtFits, EachFits}
use Rattle.jn_sound.proofs.Scopes.{no_ops}
use Rattle.jn_rule_laws.proofs.Behind.{same_before}
use Rattle.jn_sound.proofs.Stmts.{take_all, ended, stops_by, asked}
use Rattle.jn_rule_laws.specs.Behind.{BindApart, MasksApart, one as apart_one}
use Rattle.jn_sound.proofs.Blocks.{with_scope, known_at, BlockGoes, block_goes, bool_is}
use Rattle.jn_rule_laws.proofs.Behind.{same_of, apart_itself, joined_apart, blocks_move}
use Rattle.jn_rule_laws.proofs.MaskNumbers.{formed_of, mask_small}

-- ---- the masks of either

record TypesJoined (t u w : Ty) : Type 0 where
  left : MasksWithin (masks_of t) (masks_of w)
  right : MasksWithin (masks_of u) (masks_of w)
  formed : MasksFormed w
  same : t ≡ u → w ≡ t
  atoms : atoms_in w ≡ atoms_in t
  class : is_class w ≡ is_class t
  plain : is_class t ≡ false → w ≡ t

no_class_masks : (u : Ty) → is_class u ≡ false → masks_of u ≡ no_masks
no_class_masks (ty.Class xs m) e = cc
no_class_masks ty.Int e = refl
no_class_masks ty.Bool e = refl
no_class_masks ty.Null e = refl
no_class_masks ty.Void e = refl

as_before : (t u w : Ty) → is_class t ≡ false → is_class u ≡ false → w ≡ t → MasksFormed t → TypesJoined t u w
as_before t u w c d e f = subst (TypesJoined t u) (sym e) (record {
  left = λ i h. h;
  right = λ i h. subst (λ (m : Masks). HasMask m i) (no_class_masks u d ∙ sym (no_class_masks t c)) h;
  formed = f;
  same = λ k. refl;
  atoms = refl;
  class = refl;
  plain = λ k. refl;
})

one_set : (m n k : Masks) → MasksOf (HasMask m) m → MasksOf (InEither m n) k → n ≡ m → k ≡ m
one_set m n k f g e = masks_of_once (InEither m m) k m (subst (λ (z : Masks). MasksOf (InEither m z) k) e g) (record {
  words = f.words;
  wide = f.wide;
  each = λ i l. ((λ h. inl h), (λ h. either i h));
}) where
  either : (i : ℕ) → InEither m m i → HasMask m i
  either i (inl h) = h
  either i (inr h) = h

types_joined : (p : Program) (t u w : Ty) → is_class u ≡ is_class t → MasksFormed t → MasksFormed u
    → Gives p (joined_type t u) (Ok w) → TypesJoined t u w
types_joined p (ty.Class xs m) (ty.Class ys n) w e f h g =
    subst (TypesJoined (ty.Class xs m) (ty.Class ys n)) (sym (same_of (ty.Class xs g.0) w g.2)) (record {
      left = λ i k. (g.1.each i (mask_small m f i k)).1 (inl k);
      right = λ i k. (g.1.each i (mask_small n h i k)).1 (inr k);
      formed = formed_of _ g.0 g.1;
      same = λ k. ap (λ (z : Masks). ty.Class xs z) (one_set m n g.0 f g.1 (sym (ap masks_of k)));
      atoms = refl;
      class = refl;
      plain = λ k. absurd (no k);
    }) where
      no : true ≡ false → ⊥
      no e = cc
types_joined p (ty.Class xs m) ty.Int w e f h g = cc
types_joined p (ty.Class xs m) ty.Bool w e f h g = cc
types_joined p (ty.Class xs m) ty.Null w e f h g = cc
types_joined p (ty.Class xs m) ty.Void w e f h g = cc
types_joined p ty.Int u w e f h g = as_before ty.Int u w refl e (same_of ty.Int w g) f
types_joined p ty.Bool u w e f h g = as_before ty.Bool u w refl e (same_of ty.Bool w g) f
types_joined p ty.Null u w e f h g = as_before ty.Null u w refl e (same_of ty.Null w g) f
types_joined p ty.Void u w e f h g = as_before ty.Void u w refl e (same_of ty.Void w g) f

split : (x : Bind) (xs : Scope) (z : Bind) → Among (x ∷ xs) z → (z ≡ x) ⊎ Among xs z
split x xs _ first = inl refl
split x xs z (later m) = inr m

-- two ends that are apart from one bind
record Ends (b d : Bind) : Type 0 where
  path : d.path ≡ b.path
  atoms : atoms_in d.ty ≡ atoms_in b.ty
  class : is_class d.ty ≡ is_class b.ty
  plain : is_class b.ty ≡ false → d.ty ≡ b.ty

ends_of : (o b d : Bind) → BindApart o b → BindApart o d → Ends b d
ends_of o b d x y = record {
  path = y.path ∙ sym x.path;
  atoms = y.atoms ∙ sym x.atoms;
  class = y.class ∙ sym x.class;
  plain = λ e. y.plain (sym x.class ∙ e) ∙ sym (x.plain (sym x.class ∙ e));
}

pub record ScopesJoined (s t u : Scope) : Type 0 where
  pub left : Narrowed s u
  pub right : Narrowed t u
  pub masks : (c : Bind) → Among u c → MasksFormed c.ty
  -- what both ends have is there still
  pub both : (c : Bind) → Among s c → Among t c → Among u c

pub scopes_joined : (p : Program) (o s t u : Scope) → MasksApart o s → MasksApart o t → BindsFit s → BindsFit t
    → ((c : Bind) → Among s c → MasksFormed c.ty) → ((c : Bind) → Among t c → MasksFormed c.ty)
    → Gives p (joined s t) (Ok u) → ScopesJoined s t u
scopes_joined p [] [] [] u i a f h m n g = subst (ScopesJoined [] []) (sym (same_of [] u g)) (record {
  left = narrow_none;
  right = narrow_none;
  masks = λ c k. elim k [ ];
  both = λ c k l. k;
})
scopes_joined p [] (b ∷ s) t u i a f h m n g = elim i [ ]
scopes_joined p [] [] (d ∷ t) u i a f h m n g = elim a [ ]
scopes_joined p (o ∷ x) [] t u i a f h m n g = elim i [ ]
scopes_joined p (o ∷ x) (b ∷ s) [] u i a f h m n g = elim a [ ]
scopes_joined p (o ∷ v) (b ∷ s) (d ∷ t) u (apart_one i j) (apart_one c r) f h m n g =
    let a : Ends b d = ends_of o b d i c in
    let x = then_came (joined_type b.ty d.ty) _ u g in
    let y = then_came (joined s t) _ u x.then in
    let k = types_joined p b.ty d.ty x.first a.class (m b first) (n d first) x.gave in
    let rest = scopes_joined p v s t y.first j r f.0 h.0 (λ c l. m c (later l)) (λ c l. n c (later l)) y.gave in
    subst (ScopesJoined (b ∷ s) (d ∷ t)) (sym (same_of _ u y.then)) (record {
      left = kept (record {
        path = refl;
        atoms = k.atoms;
        masks = k.left;
        kind = k.class;
        plain = k.plain;
      }) rest.left;
      right = kept (record {
        path = sym a.path;
        atoms = k.atoms ∙ sym a.atoms;
        masks = k.right;
        kind = k.class ∙ sym a.class;
        plain = λ e. k.plain (sym a.class ∙ e) ∙ sym (a.plain (sym a.class ∙ e));
      }) rest.right;
      masks = λ c l. masks x.first y.first k.formed rest.masks c l;
      both = λ c l o. both x.first y.first k.same rest.both a c l o;
    }) where
      masks : (w : Ty) (v : Scope) → MasksFormed w → ((c : Bind) → Among v c → MasksFormed c.ty) → (c : Bind)
          → Among (record b { ty = w } ∷ v) c → MasksFormed c.ty
      masks w v one others _ first = one
      masks w v one others c (later l) = others c l

      both : (w : Ty) (v : Scope) → (b.ty ≡ d.ty → w ≡ b.ty) → ((c : Bind) → Among s c → Among t c → Among v c)
          → Ends b d → (c : Bind) → Among (b ∷ s) c → Among (d ∷ t) c → Among (record b { ty = w } ∷ v) c
      both w v same others a c l o = at (split b s c l) (split d t c o) where
        at : (c ≡ b) ⊎ Among s c → (c ≡ d) ⊎ Among t c → Among (record b { ty = w } ∷ v) c
        at (inl e) (inl k) = subst (Among (record b { ty = w } ∷ v))
            (ap (λ (z : Ty). record b { ty = z }) (same (ap (λ (z : Bind). z.ty) (sym e ∙ k))) ∙ sym e) first
        at (inl e) (inr o) = absurd (h.1
            (record { bind = c; among = o; is = ap (λ (z : Bind). z.path) e ∙ sym a.path }))
        at (inr l) (inl k) = absurd (f.1 (record { bind = c; among = l; is = ap (λ (z : Bind). z.path) k ∙ a.path }))
        at (inr l) (inr o) = later (others c l o)

-- ---- the statement

both_true : (x y : Bool) → (x && y) ≡ true → (x ≡ true) × (y ≡ true)
both_true true y e = (refl, e)
both_true false y e = cc

module _ (p : Program) (b : In) (its : BodyKnown p b) where
  module _ (x : Before) (known : StmtKnown p b x) (one other : List Stmt) (y : Before)
      (go : BlockGoes p b its one x y) (z : Before) (next : StmtKnown p b (with_scope x x.scope y.next))
      (to : BlockGoes p b its other (with_scope x x.scope y.next) z) (s : Scope)
      (ends : ScopesJoined y.scope z.scope s) (apart : MasksApart x.scope s) (more : x.next ≤ z.next)
      (few : z.next ≤ 256) where
    plain : (v : Var) → Among x.vars v → (v.fixed && is_class v.ty) ≡ false → Among s (bind v.path v.ty)
    plain v m e = ends.both (bind v.path v.ty)
        (go.known.scope.plain v (subst (λ (us : List Var). Among us v) (sym go.vars) m) e)
        (to.known.scope.plain v (subst (λ (us : List Var). Among us v) (sym to.vars) m) e)

    pub behind : StmtKnown p b (with_scope x s z.next)
    behind = known_at p b x known s z.next apart ends.masks plain more few

    -- what fits behind the `if` fits behind each end
    from : (t : Scope) (k : List Todo) → Narrowed t s → Fits p b k x.vars s [] → Fits p b k x.vars t []
    from t k n f = narrows (take_all x.vars) known.params n behind.scope.scope.binds behind.covers f

    pub first_way : (k : List Todo) → (all_stop one ≡ true) ⊎ Fits p b k x.vars s [] → Fits p b
        (stmts_acts (length x.vars) x.next one k) x.vars x.scope []
    first_way k (inl e) = go.fits k (inl e)
    first_way k (inr f) = go.fits k (inr (from y.scope k ends.left f))

    pub second_way : (k : List Todo) → (all_stop other ≡ true) ⊎ Fits p b k x.vars s [] → Fits p b
        (stmts_acts (length x.vars) (path_behind one x.next) other k) x.vars x.scope []
    second_way k f = subst (λ (n : ℕ). Fits p b (stmts_acts (length x.vars) n other k) x.vars x.scope [])
        go.next (at f) where
          at : (all_stop other ≡ true) ⊎ Fits p b k x.vars s [] → Fits p b (stmts_acts (length x.vars) y.next other k)
              x.vars x.scope []
          at (inl e) = to.fits k (inl e)
          at (inr f) = to.fits k (inr (from z.scope k ends.right f))

  pub choice_fits : (e : Expr) (one other : List Stmt) (at : Place) → EachFits p b one → EachFits p b other
      → StmtFits p b (stmt.If e one other at)
  choice_fits e one other at each too x y known few inside g =
      let a = asked p b its (stmt.If e one other at) x y _ ((forms_are.stmts b x).choice e one other at) g in
      let c = then_came (typed b x e x.scope) _ y a in
      let w = wanted (is_bool c.first.ty) _
      (choice_typed (map (stmt_types b) one) (map (stmt_types b) other) x) y c.then in
      let d = then_came (block_typed (map (stmt_types b) one) x) _ y w.then in
      let u : Before = with_scope x x.scope d.first.next in
      let k = then_came (block_typed (map (stmt_types b) other) u) _ y d.then in
      let j = then_came (joined d.first.scope k.first.scope) _ y k.then in
      let is = same_before (with_scope x j.first k.first.next) y j.then in
      let l = blocks_move p b one x d.first d.gave in
      let m = blocks_move p b other u k.first k.gave in
      let small : k.first.next ≤ 256 = subst (λ (z : Before). z.next ≤ 256) is few in
      let half : d.first.next ≤ 256 = (let i = m.grows in omega (arith, i, small)) in
      let again = known_at p b x known x.scope d.first.next (apart_itself x.scope) known.masks known.scope.plain
      l.grows half in
      let go = block_goes p b its one each (λ s m. in_first e one other at inside m) x d.first known half d.gave in
      let to = block_goes p b its other too (λ s m. in_second e one other at inside m) u k.first again small k.gave in
      let ends = scopes_joined p x.scope d.first.scope k.first.scope j.first go.apart to.apart
      go.known.scope.scope.binds to.known.scope.scope.binds
      go.known.masks to.known.masks j.gave in
      let apart = joined_apart p x.scope d.first.scope k.first.scope j.first go.apart to.apart j.gave in
      let t = its.exprs x.vars e (λ t c. subst TermsNamed (at_if e one other at)
      (its.formed (stmt.If e one other at) inside).terms t (Contains-append_left (of_expr e) _ (Termed t) c))
      x.scope c.first known.scope c.gave in
      let more : x.next ≤ k.first.next = (let i = l.grows in let n = m.grows in omega (arith, i, n)) in
      subst (StmtGoes p b (stmt.If e one other at) x) (sym is) (record {
        known = behind x known one other d.first go k.first again to j.first ends apart more small;
        fits = λ ss q f. fits c.first w.test t j.first k.first.next
            (to.next ∙ ap (path_behind other) go.next)
            (first_way x known one other d.first go k.first again to j.first ends apart more small)
            (second_way x known one other d.first go k.first again to j.first ends apart more small) ss q f;
      }) where
        fits : (t : Typed) → is_bool t.ty ≡ true → GoesTo p b (here_in b x.vars) (acts (length x.vars) e) x.scope
            as_they_are t → (s : Scope) (n : ℕ) → n ≡ path_behind other (path_behind one x.next)
            → ((k : List Todo) → (all_stop one ≡ true) ⊎ Fits p b k x.vars s [] → Fits p b
            (stmts_acts (length x.vars) x.next one k) x.vars x.scope [])
            → ((k : List Todo) → (all_stop other ≡ true) ⊎ Fits p b k x.vars s [] → Fits p b
            (stmts_acts (length x.vars) (path_behind one x.next) other k) x.vars x.scope [])
            → (ss : List Stmt) (k : List Todo) → (stops (stmt.If e one other at) ≡ true) ⊎ Fits p b
            (stmts_acts (length x.vars) n ss k) x.vars s [] → Fits p b
            (stmts_acts (length x.vars) x.next (stmt.If e one other at ∷ ss) k) x.vars x.scope []
        fits t w go s n next one_way other_way ss k f =
            subst (λ (z : List Todo). Fits p b z x.vars x.scope [])
            (sym ((acts_are.stmts (length x.vars) x.next ss k).choice e one other at))
            (go.fits _ [] (no_ops x.scope) (subst (λ (u : Ty). is_void u ≡ false) (sym (bool_is p b its t.ty w)) refl)
            (subst (λ (u : Ty). Fits p b (todo (length x.vars) (Choose x.next one other) ∷ rest) x.vars t.scope
            (opd u t.path ∷ [])) (sym (bool_is p b its t.ty w))
            (choose x.next one other t.path refl
            (ended x [] known go.grown (one_way rest (each_way (all_stop one)
            (λ e. (both_true (all_stop one) (all_stop other) (stop ∙ e)).0) f)))
            (ended x [] known go.grown
            (other_way rest (each_way (all_stop other)
            (λ e. (both_true (all_stop one) (all_stop other) (stop ∙ e)).1) f)))))) where
              rest : List Todo
              rest = stmts_acts (length x.vars) (path_behind other (path_behind one x.next)) ss k

              stop : (all_stop one && all_stop other) ≡ stops (stmt.If e one other at)
              stop = sym (stops_by (Stmt-F.If e one other at) (stmt.If e one other at) (stmt.rolls-If e one other at))

              each_way : (c : Bool) → (stops (stmt.If e one other at) ≡ true → c ≡ true)
                  → (stops (stmt.If e one other at) ≡ true) ⊎ Fits p b (stmts_acts (length x.vars) n ss k) x.vars s []
                  → (c ≡ true) ⊎ Fits p b rest x.vars s []
              each_way c h (inl e) = inl (h e)
              each_way c h (inr f) = inr (subst
                  (λ (i : ℕ). Fits p b (stmts_acts (length x.vars) i ss k) x.vars s []) next f)
