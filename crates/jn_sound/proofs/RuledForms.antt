-- The rules turned round: a receiver with its path, a field, an argument in its parameter's type, a call up to its
-- arguments.
use Rattle.std.proofs.Common.{◌≡◌, ℕ, List, [], ◌∷◌, length, Option, Some, None, Bool, true, false, refl, sym, ◌∙◌, subst, arith}
use Rattle.std.proofs.lemmas.Bool.{eqb-true}
use Rattle.std.specs.Prelude.{cond, Result, Ok, Err}
use Rattle.jn_base.specs.declared.tree.Name.{Name}
use Rattle.jn_base.specs.declared.tree.Named.{Named}
use Rattle.jn_base.specs.declared.tree.Place.{Place}
use Rattle.jn_base.specs.declared.tree.Program.{Program}
use Rattle.jn_base.specs.declared.tree.Expr.{Expr}
use Rattle.jn_base.specs.declared.types.Ty.{Ty}
use Rattle.jn_base.specs.declared.types.Ty.TheVariants as ty
use Rattle.jn_base.specs.declared.types.ValKind.{ValKind}
use Rattle.jn_base.specs.declared.refusal.Refusal.{Refusal}
use Rattle.jn_base.specs.declared.refusal.Rule.TheVariants as rule
use Rattle.jn_base.specs.Scopes.{Scope, Binds}
use Rattle.jn_base.specs.Fits.{BindsFit, TypeFits}
use Rattle.jn_base.specs.Resolve.{is_class}
use Rattle.jn_base.specs.ResolveTypes.{mask_names}
use Rattle.jn_base.proofs.Reaching.{declared_in_universe}
use Rattle.jn_sem.specs.Values.{Masked}
use Rattle.jn_sem.specs.Below.{Below, ints, booleans, nulls, classes}
use Rattle.jn_sem.specs.Does.{Body}
use Rattle.jn_sem.proofs.Growth.{below_later}
use Rattle.jn_sem.proofs.Under.{type_later}
use Rattle.jn_sem.proofs.BelowOrder.{below_itself}
use Rattle.jn_laws.specs.LawsOfWritten.{Shallow}
use Rattle.jn_laws.specs.LawsOfSources.{WellFormed}
use Rattle.jn_laws.proofs.MovedTypes.{below_keeps_depth}
use Rattle.jn_rules.specs.Plans.{FoundField, OfField, OfMethod, Plan, MemberMark, done, refuse, note, then_do}
use Rattle.jn_rules.specs.Questions.{IsFoundField, IsMethodOf, IsFirstMask, Means, Finds, Gives, Answers, masks_of}
use Rattle.jn_rules.specs.Headers.{Header, header_typed}
use Rattle.jn_rules.specs.Exprs.{Here, Typed, Typing, Passed, plain, bind, next_path, path_of, path_or_fresh, type_passed, note_kind, kind_of, gives, suffix_typed, field_gives, field_type, method_gives, method_with, unmasked, as_many, call_typed, result_gives, put_in, replaced_paths, of_class, first_bound}
use Rattle.jn_rules.proofs.PlanLaws.{then_came, wanted, found_was}
use Rattle.jn_rule_laws.specs.LawsOfHeaders.{IsHeader}
use Rattle.jn_rule_laws.proofs.HeaderLaws.{headers_are_the_meanings}
use Rattle.jn_rule_laws.specs.LawsOfForms.{TypeKnown, PathKnown}
use Rattle.jn_rule_laws.specs.LawsOfOneHeader.{HeaderFits}
use Rattle.jn_rule_laws.proofs.OneHeaders.{headers_fit}
use Rattle.jn_rule_laws.proofs.FirstMasks.{no_first_mask}
use Rattle.jn_rule_laws.proofs.KnownTypes.{fresh_known, path_types_fit}
use Rattle.jn_sound.specs.Takes.{Opd, opd, typing, Moves, same, named, wider}
use Rattle.jn_sound.specs.KnownScopes.{ScopeKnown}
use Rattle.jn_sound.specs.Tree.{ExprKnown, Fresher, none as none_more, more}
use Rattle.jn_sound.proofs.Scopes.{grown_of, scope_bind, found_grown, class_is}

-- ---- a receiver gets its path

pub record Reached (p : Program) (h : Here) (x : Typed) (q : ℕ) (s : Scope) : Type 0 where
  pub known : ScopeKnown p h s
  pub grown : Fresher x.scope s
  pub path : PathKnown s q x.ty
  pub moves : (ops : List Opd) → Moves p (typing x.scope (opd x.ty x.path ∷ ops)) (typing s (opd x.ty (Some q) ∷ ops))

pub path_reached : (p : Program) (h : Here) (x : Typed) → ExprKnown p h x → is_class x.ty ≡ true → Reached p h x
    (path_of x.ty x).path (path_of x.ty x).scope
path_reached p h x known cl = at x.path refl where
  at : (o : Option ℕ) → x.path ≡ o → Reached p h x (path_or_fresh x.ty o x.scope).path
      (path_or_fresh x.ty o x.scope).scope
  at (Some q) e = record {
    known = known.scope;
    grown = none_more;
    path = known.path q e;
    moves = λ ops. subst (λ (o : Option ℕ). Moves p (typing x.scope (opd x.ty o ∷ ops))
        (typing x.scope (opd x.ty (Some q) ∷ ops))) (sym e) same;
  }
  at None e =
      let q : ℕ = next_path x.scope in
      let good : ScopeKnown p h (bind q x.ty ∷ x.scope) = scope_bind p h x.scope x.ty known.scope known.type.fits in
      record {
        known = good;
        grown = more (omega arith) none_more;
        path = fresh_known x.scope q x.ty good.scope.binds;
        moves = λ ops. subst (λ (o : Option ℕ). Moves p (typing x.scope (opd x.ty o ∷ ops))
            (typing (bind q x.ty ∷ x.scope) (opd x.ty (Some q) ∷ ops))) (sym e)
            (named x.ty x.ty q (omega arith) good.scope.binds.1 known.type.fits
            (below_itself x.ty (class_is x.ty cl)) same);
      }

-- ---- answers

pub ok_same : (y x : Typed) → (let a : Result Typed Refusal = Ok y in let b : Result Typed Refusal = Ok x in a ≡ b) →
    y ≡ x
ok_same y x e = cc

pub not_ok : (y : Typed) (r : Refusal) →
    (let a : Result Typed Refusal = Ok y in let b : Result Typed Refusal = Err r in a ≡ b) → ⊥
not_ok y r e = cc

-- what a form gives is what is answered
pub gave : (p : Program) (x y : Typed) → Gives p (gives x) (Ok y) → y ≡ x
gave p x y g = at (kind_of x.ty) g where
  at : (o : Option ValKind) → Gives p (note_kind o (done x)) (Ok y) → y ≡ x
  at None e = ok_same y x e
  at (Some k) e = ok_same y x e

pub result_gave : (p : Program) (c : Header) (x : Passed) (y : Typed) → Gives p (result_gives c x) (Ok y)
    → y ≡ plain (put_in x.scope (replaced_paths c.vars) x.paths c.result) x.scope
result_gave p c x y = gave p (plain (put_in x.scope (replaced_paths c.vars) x.paths c.result) x.scope) y

-- ---- a field

pub record FieldTyped (p : Program) (h : Here) (f : Name) (x y : Typed) : Type 0 where
  pub c : FoundField
  pub q : ℕ
  pub scope : Scope
  pub reached : Reached p h x q scope
  pub found : IsFoundField p scope x.ty f c
  pub free : Masked (mask_names p) (masks_of x.ty) f → ⊥
  pub type : TypeKnown scope (put_in scope (0 ∷ []) (q ∷ []) c.ty)
  pub is : y ≡ plain (put_in scope (0 ∷ []) (q ∷ []) c.ty) scope

pub field_typed : (p : Program) (h : Here) → Shallow p → WellFormed p → (f : Named) (at : Place) (x y : Typed) →
    ExprKnown p h x → Gives p (suffix_typed h f None at x) (Ok y)
    → FieldTyped p h f.name x y
field_typed p h deep formed f at x y known g =
    let w = wanted (is_class x.ty) _ _ y g in
    let c = found_was w.then.0 _ (field_gives f x) y w.then.2 in
    read c.given w.test (subst (λ (o : Option FoundField). Means p (OfField x.scope x.ty f.name) o) c.is w.then.1)
    c.then where
      answered : (c : FoundField) → is_class x.ty ≡ true → IsFoundField p x.scope x.ty f.name c → (m : Bool) → Answers
          (Masked (mask_names p) (masks_of x.ty) f.name) m
          → Gives p (cond m (refuse (of_class rule.E19 (first_bound x) f f.name))
          (note (MemberMark c.class) (gives (plain (field_type c (path_of x.ty x)) (path_of x.ty x).scope)))) (Ok y)
          → FieldTyped p h f.name x y
      answered c cl i true m e = absurd (not_ok y _ e)
      answered c cl i false m e =
          let r = path_reached p h x known cl in
          let found : IsFoundField p (path_of x.ty x).scope x.ty f.name c =
          record {
            bound = i.bound;
            at = found_grown x.ty (grown_of r.grown) r.known.scope.binds known.type.fits i.at;
            type = i.type;
            class = i.class;
          } in
          record {
            c = c;
            q = (path_of x.ty x).path;
            scope = (path_of x.ty x).scope;
            reached = r;
            found = found;
            free = m;
            type = (path_types_fit p).field (path_of x.ty x).scope x.ty f.name c
                (path_of x.ty x).path deep formed r.known.scope.binds found r.path;
            is = gave p _ y e;
          }

      read : (c : FoundField) → is_class x.ty ≡ true → IsFoundField p x.scope x.ty f.name c → Gives p
          (field_gives f x c) (Ok y) → FieldTyped p h f.name x y
      read c cl i e = answered c cl i e.0 e.1 e.2

-- ---- an argument

pub not_void_below : (p : Program) (s : Scope) (t u : Ty) → Below p s t u → (t ≡ ty.Void → ⊥)
not_void_below p s _ _ ints e = cc
not_void_below p s _ _ booleans e = cc
not_void_below p s _ _ nulls e = cc
not_void_below p s _ _ (classes a m) e = cc

-- the type under which it gets its fresh path
passed_below : (p : Program) (s : Scope) (t u : Ty) → Below p s t u → TypeFits s t → TypeFits s u
    → Below p s t (type_passed t u) × TypeFits s (type_passed t u) × Below p s (type_passed t u) u ×
    ((type_passed t u ≡ ty.Null) → ⊥)
passed_below p s _ _ ints f g = (ints, f, ints, (λ e. cc))
passed_below p s _ _ booleans f g = (booleans, f, booleans, (λ e. cc))
passed_below p s _ _ (nulls {ys = ys} {n = n}) f g = (nulls, g, below_itself (ty.Class ys n) tt, (λ e. cc))
passed_below p s _ _ (classes {xs = xs} {m = m} a b) f g = (below_itself (ty.Class xs m) tt, f, classes a b, (λ e. cc))

-- the path of a value in a type is as deep as the types above it
path_above : (p : Program) (s : Scope) (q : ℕ) (t u : Ty) → BindsFit s → TypeFits s t → Below p s t u →
    (t ≡ ty.Null → ⊥) → PathKnown s q t → PathKnown s q u
path_above p s q _ _ f k ints n a = a
path_above p s q _ _ f k booleans n a = a
path_above p s q _ _ f k nulls n a = absurd (n refl)
path_above p s q _ _ f k (classes {xs = xs} {ys = ys} {m = m} {n = o} b w) n a =
    let one = k.atoms tt in
    record {
      bound_in = a.bound_in;
      depth = λ y i. a.depth one.one one.among ∙ sym
          (below_keeps_depth p s (ty.Class xs m) (ty.Class ys o) one.one y f k (classes b w) one.among i);
    }

-- an argument is named, and then in its parameter's type
pub record ArgMoved (p : Program) (h : Here) (t : Typed) (want : Ty) (q : ℕ) (s : Scope) : Type 0 where
  pub known : ScopeKnown p h s
  pub grown : Fresher t.scope s
  pub path : PathKnown s q want
  -- it is an older path only where the argument had it
  pub newer : (r : ℕ) → Binds t.scope r → (t.path ≡ Some r → ⊥) → q ≡ r → ⊥
  pub moves : (ops : List Opd) → Moves p (typing t.scope (opd t.ty t.path ∷ ops)) (typing s (opd want (Some q) ∷ ops))

no_class_null : (t : Ty) → is_class t ≡ true → t ≡ ty.Null → ⊥
no_class_null t c e = absurd (no (subst (λ (u : Ty). is_class u ≡ true) e c)) where
  no : false ≡ true → ⊥
  no e = cc

pub arg_moved : (p : Program) (h : Here) (t : Typed) (want : Ty) → ExprKnown p h t → Below p t.scope t.ty want →
    TypeFits t.scope want
    → ArgMoved p h t want (path_of (type_passed t.ty want) t).path (path_of (type_passed t.ty want) t).scope
arg_moved p h t want known below fits = at t.path refl where
  u : Ty
  u = type_passed t.ty want

  at : (o : Option ℕ) → t.path ≡ o → ArgMoved p h t want (path_or_fresh (type_passed t.ty want) o t.scope).path
      (path_or_fresh (type_passed t.ty want) o t.scope).scope
  at (Some q) e = record {
    known = known.scope;
    grown = none_more;
    path = path_above p t.scope q t.ty want known.scope.scope.binds known.type.fits below
        (no_class_null t.ty (known.class q e)) (known.path q e);
    newer = λ r n free i. free (subst (λ (z : ℕ). t.path ≡ Some z) i e);
    moves = λ ops. subst (λ (o : Option ℕ). Moves p (typing t.scope (opd t.ty o ∷ ops))
        (typing t.scope (opd want (Some q) ∷ ops))) (sym e) (wider t.ty want (Some q) below fits same);
  }
  at None e =
      let q : ℕ = next_path t.scope in
      let k = passed_below p t.scope t.ty want below known.type.fits fits in
      let good : ScopeKnown p h (bind q (type_passed t.ty want) ∷ t.scope) = scope_bind p h t.scope
      (type_passed t.ty want) known.scope k.1 in
      let binds : BindsFit (bind q (type_passed t.ty want) ∷ t.scope) = good.scope.binds in
      record {
        known = good;
        grown = more (omega arith) none_more;
        path = path_above p (bind q (type_passed t.ty want) ∷ t.scope) q (type_passed t.ty want) want binds
            (type_later binds k.1) ((below_later binds k.1).0 k.2) k.3
            (fresh_known t.scope q (type_passed t.ty want) binds);
        newer = λ r n free i. binds.1 (subst (Binds t.scope) (sym i) n);
        moves = λ ops. subst (λ (o : Option ℕ). Moves p (typing t.scope (opd t.ty o ∷ ops))
            (typing (bind q (type_passed t.ty want) ∷ t.scope) (opd want (Some q) ∷ ops))) (sym e)
            (named t.ty (type_passed t.ty want) q (omega arith) binds.1 k.1 k.0
            (wider t.ty want (Some q) ((below_later binds known.type.fits).0 below) (type_later binds fits) same));
      }

-- ---- a call, up to its arguments

pub record CallTyped (p : Program) (h : Here) (f : Name) (es : List (Expr × Typing)) (x y : Typed) : Type 0 where
  pub body : Body
  pub header : Header
  pub here : IsMethodOf p x.scope x.ty f body
  pub is_header : IsHeader p body header
  pub fits : HeaderFits p body header
  pub reached : Reached p h x (path_of x.ty x).path (path_of x.ty x).scope
  pub free : (g : Name) → Masked (mask_names p) (masks_of x.ty) g → ⊥
  pub as_many : length header.vars ≡ length es
  pub passed : Passed
  pub args : Gives p (call_typed h header es (path_of x.ty x)) (Ok passed)
  pub is : y ≡ plain (put_in passed.scope (replaced_paths header.vars) passed.paths header.result) passed.scope

none_masked : (p : Program) (t : Ty) (o : Option Name) → o ≡ None → Finds (IsFirstMask p (masks_of t)) o → (g : Name)
    → Masked (mask_names p) (masks_of t) g → ⊥
none_masked p t _ e m = no_first_mask p (masks_of t) (subst (Finds (IsFirstMask p (masks_of t))) e m)

pub call_is_typed : (p : Program) (h : Here) → Shallow p → WellFormed p → (f : Named) (es : List (Expr × Typing))
    (at : Place) (x y : Typed) → ExprKnown p h x
    → Gives p (suffix_typed h f (Some es) at x) (Ok y) → CallTyped p h f.name es x y
call_is_typed p h deep formed f es at x y known g =
    let w = wanted (is_class x.ty) _ _ y g in
    let c = found_was w.then.0 _ (method_gives h f es x) y w.then.2 in
    called c.given w.test (subst (λ (o : Option Body). Means p (OfMethod x.scope x.ty f.name) o) c.is w.then.1) c.then
  where
    none_was : (go : Plan Typed) (o : Option Name) → Gives p (unmasked x f go o) (Ok y) → (o ≡ None) × Gives p go
        (Ok y)
    none_was go None e = (refl, e)
    none_was go (Some z) e = absurd (not_ok y _ e)

    called : (b : Body) → is_class x.ty ≡ true → IsMethodOf p x.scope x.ty f.name b → Gives p
        (method_gives h f es x b) (Ok y) → CallTyped p h f.name es x y
    called b cl i e =
        let r = path_reached p h x known cl in
        let u = none_was (then_do (header_typed b) (method_with h f es x b)) e.0 e.2 in
        let hd = then_came (header_typed b) (method_with h f es x b) y u.1 in
        let m = wanted (as_many hd.first es) _ _ y hd.then in
        let came = then_came (call_typed h hd.first es (path_of x.ty x)) (result_gives hd.first) y m.then in
        let is : IsHeader p b hd.first = (headers_are_the_meanings p b hd.first).0 hd.gave in
        record {
          body = b;
          header = hd.first;
          here = i;
          is_header = is;
          fits = headers_fit p b.class f.name b.method hd.first deep formed
              (declared_in_universe p b.class i.body.at.decl i.body.at.stands) i.body.at is;
          reached = r;
          free = none_masked p x.ty e.0 u.0 e.1;
          as_many = eqb-true (length hd.first.vars) (length es) m.test;
          passed = came.first;
          args = came.gave;
          is = result_gave p hd.first came.first y came.then;
        }
