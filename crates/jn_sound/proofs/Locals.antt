-- A local fits.
use Rattle.std.proofs.Common.{◌≡◌, ◌<◌, ℕ, suc, List, [], ◌∷◌, ◌++◌, length, Option, Some, None, Bool, true, false, refl, sym, ap, ◌∙◌, subst, arith, ◌⊎◌, inl, inr, eqb-true, eq-eqb}
use Rattle.std.specs.Prelude.{take, cond, nat_eq, nat_lt, not, ◌||◌, IsSome}
use Rattle.std.proofs.lemmas.List.{take-take, take-append-le, length-append, map-append}
use Rattle.jn_base.specs.declared.tree.Name.{Name}
use Rattle.jn_base.specs.declared.tree.TypeTerm.{TypeTerm}
use Rattle.jn_base.specs.declared.tree.Program.{Program}
use Rattle.jn_base.specs.declared.types.Anchor.{Anchor}
use Rattle.jn_base.specs.declared.types.Anchor.TheVariants.{Root, Up}
use Rattle.jn_base.specs.declared.types.Ty.{Ty}
use Rattle.jn_base.specs.declared.names.Var.{Var}
use Rattle.jn_base.specs.Paths.{Path}
use Rattle.jn_base.specs.Atoms.{atoms_in, Among, first, later}
use Rattle.jn_base.specs.Scopes.{Bind, Scope, Binds}
use Rattle.jn_base.specs.Fits.{BindsFit, TypeFits}
use Rattle.jn_sem.specs.Sets.{Views}
use Rattle.jn_sem.specs.Values.{Value}
use Rattle.jn_base.specs.Resolve.{is_class}
use Rattle.jn_sem.specs.Terms.{TypeIs}
use Rattle.jn_sem.specs.Acts.{Bind as BindAct, Todo}
use Rattle.jn_sem.specs.State.{Heap, Variable, Frame, frame_views, view_of_var, declared_vars, view_in, IsIn, has_null_path, is_null_path, site_of}
use Rattle.jn_sem.specs.Does.{var, bound_to, binds, missing}
use Rattle.jn_sem.specs.Asks.{OnFirst, OnOnly}
use Rattle.jn_sem.proofs.HeapLaws.{heap_laws}
use Rattle.jn_sem.proofs.FindingLaws.{finds_one}
use Rattle.jn_sem.proofs.Under.{type_later, fits_whole}
use Rattle.jn_rules.specs.Exprs.{bind}
use Rattle.jn_sound.specs.Takes.{Opd, opd, OwnPaths}
use Rattle.jn_sound.specs.Sound.{HeapFits, InScope, OperandFits, OperandsFit, none as no_opds, one, cut, all_views}
use Rattle.jn_sound.proofs.Laws.{Laws, among_right}
use Rattle.jn_sound.proofs.Ways.{surely}
use Rattle.jn_sound.proofs.Safe.{Sure, sure_it, sure_only, sure_test, sure_if}
use Rattle.jn_sound.specs.Steps.{GoesAt, DidAt}
use Rattle.jn_sound.specs.Takes.{typing}
use Rattle.jn_sem.specs.Does.{Did, Does}
use Rattle.jn_laws.specs.LawsOfViews.{AgreeOn, AgreeIn, Agree}
use Rattle.jn_sound.proofs.Views.{agree_in}
use Rattle.jn_laws.proofs.ByViews.{fits_agree, value_same}
use Rattle.jn_sound.specs.Sound.{Stands}
use Rattle.jn_sound.proofs.Stands.{now, operand_same, same_scope}
use Rattle.jn_sound.proofs.Known.{view_typed, view_real, either_path, all_small, var_of, respects_new}
use Rattle.jn_sound.proofs.Acts.{not_stuck_at_null}
use Rattle.jn_sound.proofs.Calls.{take_whole}
use Rattle.jn_rules.specs.Headers.{Header}
use Rattle.jn_laws.specs.Reading.{IsReal}
use Rattle.jn_laws.specs.LawsOfWritten.{HeaderPath, HeaderPaths, of_this as is_this, of_param as is_param}

-- ---- one more variable

abbrev more : Frame → Variable → Frame
more g y = record g { vars = g.vars ++ y ∷ [] }

view_old : (xs : List Variable) (y : Variable) (q : ℕ) → (q ≡ y.var.path → ⊥)
    → view_of_var (xs ++ y ∷ []) q ≡ view_of_var xs q
view_old [] y q o = at (nat_eq q y.var.path) refl where
  at : (b : Bool) → nat_eq q y.var.path ≡ b → cond b (view_in y.value) None ≡ None
  at true e = absurd (o (eqb-true q y.var.path e))
  at false e = refl
view_old (x ∷ xs) y q o = ap (λ (v : Option Path). cond (nat_eq q x.var.path) (view_in x.value) v) (view_old xs y q o)

view_new : (xs : List Variable) (y : Variable) → ((x : Variable) → Among xs x → x.var.path ≡ y.var.path → ⊥)
    → view_of_var (xs ++ y ∷ []) y.var.path ≡ view_in y.value
view_new [] y o = ap (λ (b : Bool). cond b (view_in y.value) None) (eq-eqb y.var.path y.var.path refl)
view_new (x ∷ xs) y o = at (nat_eq y.var.path x.var.path) refl (view_new xs y (λ z m. o z (later m))) where
  at : (b : Bool) → nat_eq y.var.path x.var.path ≡ b → view_of_var (xs ++ y ∷ []) y.var.path ≡ view_in y.value
      → cond b (view_in x.value) (view_of_var (xs ++ y ∷ []) y.var.path) ≡ view_in y.value
  at true e k = absurd (o x first (sym (eqb-true y.var.path x.var.path e)))
  at false e k = k

among_more : (xs : List Variable) (y z : Variable) → Among (xs ++ y ∷ []) z → Among xs z ⊎ (z ≡ y)
among_more [] y _ first = inr refl
among_more [] y z (later m) = elim m [ ]
among_more (x ∷ xs) y _ first = inl first
among_more (x ∷ xs) y z (later m) = at (among_more xs y z m) where
  at : Among xs z ⊎ (z ≡ y) → Among (x ∷ xs) z ⊎ (z ≡ y)
  at (inl a) = inl (later a)
  at (inr e) = inr e

not_null_more : (xs : List Variable) (y : Variable) → has_null_path xs ≡ false → is_null_path y ≡ false
    → has_null_path (xs ++ y ∷ []) ≡ false
not_null_more [] y e f = ap (λ (b : Bool). b || false) f
not_null_more (x ∷ xs) y e f = at (is_null_path x) e (not_null_more xs y) where
  at : (b : Bool) → (b || has_null_path xs) ≡ false
      → (has_null_path xs ≡ false → is_null_path y ≡ false → has_null_path (xs ++ y ∷ []) ≡ false)
      → (b || has_null_path (xs ++ y ∷ [])) ≡ false
  at true e again = cc
  at false e again = again e f

-- one more path of its own
own_more : (vs : List Var) (v : Var) → OwnPaths vs → ((u : Var) → Among vs u → u.path ≡ v.path → ⊥)
    → (v.path ≡ 0 → ⊥) → OwnPaths (vs ++ v ∷ [])
own_more [] v o new nz = (tt, λ u m e. elim m [ ], nz)
own_more (x ∷ xs) v o new nz = (own_more xs v o.0 (λ u m. new u (later m)) nz, other, o.2) where
  other : (u : Var) → Among (xs ++ v ∷ []) u → u.path ≡ x.path → ⊥
  other u m e = at (among_right xs v u m) where
    at : Among xs u ⊎ (u ≡ v) → ⊥
    at (inl a) = o.1 u a e
    at (inr i) = new x first (sym e ∙ ap (λ (w : Var). w.path) i)

module _ {p : Program} {h : Heap} {g : Frame} {vs : List Var} {s : Scope} {w : Views} (y : Variable)
    (k : InScope p h g w vs s) (small : y.var.path < 256)
    (free : Binds s y.var.path → ⊥) (not_this : y.var.path ≡ 0 → ⊥) (fits : TypeFits s y.var.ty)
    (is_in : IsIn p (all_views g w) h y.var.ty y.value)
    (real : IsReal p h y.value) (nn : is_null_path y ≡ false) where
  abbrev pub v : Views
  v = all_views g w

  abbrev pub v' : Views
  v' = all_views (more g y) w

  others_free : (x : Variable) → Among g.vars x → x.var.path ≡ y.var.path → ⊥
  others_free x m e = let b = k.bound x m in free (record { bind = b.0; among = b.1; is = b.2 ∙ e })

  others_new : (u : Var) → Among vs u → u.path ≡ y.var.path → ⊥
  others_new u m e =
      let z = var_of g.vars u (subst (λ (l : List Var). Among l u) (sym k.declared) m) in
      others_free z.variable z.among (ap (λ (v : Var). v.path) z.is ∙ e)

  frame_old : (q : ℕ) → (q ≡ y.var.path → ⊥) → frame_views g q ≡ frame_views (more g y) q
  frame_old q o = ap (λ (u : Option Path). cond (nat_eq q 0) (view_in g.this) u) (sym (view_old g.vars y q o))

  at_old : (q : ℕ) → (q ≡ y.var.path → ⊥) → v q ≡ v' q
  at_old q o = ap (λ (u : Option Path). cond (nat_lt q 256) u (w q)) (frame_old q o)

  frame_new : frame_views (more g y) y.var.path ≡ view_in y.value
  frame_new = at (nat_eq y.var.path 0) refl where
    at : (b : Bool) → nat_eq y.var.path 0 ≡ b
        → cond b (view_in g.this) (view_of_var (g.vars ++ y ∷ []) y.var.path) ≡ view_in y.value
    at true e = absurd (not_this (eqb-true y.var.path 0 e))
    at false e = view_new g.vars y others_free

  pub agree : AgreeOn s (all_views g w) (all_views (more g y) w)
  agree = record { each = λ q b. at_old q (λ e. free (subst (Binds s) e b)) }

  binds_more : BindsFit (bind y.var.path y.var.ty ∷ s)
  binds_more = (k.binds, free, fits)

  values : (x : Variable) (b : Bind) → Among (g.vars ++ y ∷ []) x → Among (bind y.var.path y.var.ty ∷ s) b
      → b.path ≡ x.var.path → IsIn p v' h b.ty x.value
  values x b m n e = at b n (among_more g.vars y x m) e where
    at : (b : Bind) → Among (bind y.var.path y.var.ty ∷ s) b → Among g.vars x ⊎ (x ≡ y) → b.path ≡ x.var.path
        → IsIn p v' h b.ty x.value
    at _ first (inl a) e = absurd (others_free x a (sym e))
    at _ first (inr i) e =
        subst (λ (z : Variable). IsIn p v' h y.var.ty z.value) (sym i)
        (value_same p v v' h y.var.ty y.value (fits_agree s v v' y.var.ty agree fits) is_in)
    at b (later n) (inl a) e =
        value_same p v v' h b.ty x.value (fits_agree s v v' b.ty agree (fits_whole n k.binds)) (k.values x b a n e)
    at b (later n) (inr i) e =
        absurd (free (record { bind = b; among = n; is = e ∙ ap (λ (z : Variable). z.var.path) i }))

  bound : (x : Variable) → Among (g.vars ++ y ∷ []) x
      → (b : Bind) × Among (bind y.var.path y.var.ty ∷ s) b × (b.path ≡ x.var.path) ×
      (atoms_in b.ty ≡ atoms_in x.var.ty) × (is_class b.ty ≡ is_class x.var.ty)
  bound x m = at (among_more g.vars y x m) where
    at : Among g.vars x ⊎ (x ≡ y)
        → (b : Bind) × Among (bind y.var.path y.var.ty ∷ s) b × (b.path ≡ x.var.path) ×
        (atoms_in b.ty ≡ atoms_in x.var.ty) × (is_class b.ty ≡ is_class x.var.ty)
    at (inl a) = let b = k.bound x a in (b.0, later b.1, b.2, b.3, b.4)
    at (inr i) = (
      bind y.var.path y.var.ty,
      first,
      ap (λ (z : Variable). z.var.path) (sym i),
      ap
          (λ (z : Variable). atoms_in z.var.ty) (sym i),
      ap (λ (z : Variable). is_class z.var.ty) (sym i),
    )

  each : (T : Variable → Type 0) → ((x : Variable) → Among g.vars x → T x) → T y → (x : Variable)
      → Among (g.vars ++ y ∷ []) x → T x
  each T old new x m = at (among_more g.vars y x m) where
    at : Among g.vars x ⊎ (x ≡ y) → T x
    at (inl a) = old x a
    at (inr i) = subst T (sym i) new

  pub local_scope : InScope p h (more g y) w (vs ++ y.var ∷ []) (bind y.var.path y.var.ty ∷ s)
  local_scope = record {
    declared =
        map-append (λ (x : Variable). x.var) g.vars (y ∷ []) ∙ ap (λ (l : List Var). l ++ y.var ∷ []) k.declared;
    binds = binds_more;
    respects =
        respects_new v v' y.var.path y.var.ty k.binds agree k.respects fits
        (λ q o u. subst (λ (z : Option Path). IsSome z) (sym (at_old q o)) u) (either_path y.var.path) free
        (λ V e. let is : view_in y.value ≡ Some V = sym (all_small (more g y) w y.var.path small ∙ frame_new) ∙ e in
        (view_typed p h v y.var.ty y.value is_in V is, view_real p h y.value real V is));
    values = values;
    bound = bound;
    real = each (λ x. IsReal p h x.value) k.real real;
    seen = λ x m. at x (among_more g.vars y x m);
    small = each (λ x. x.var.path < 256) k.small small;
    no_null = not_null_more g.vars y k.no_null nn;
    own = own_more vs y.var k.own others_new not_this;
    this =
        record {
          object = k.this.object;
          view = k.this.view;
          is = k.this.is;
          real = k.this.real;
          super = k.this.super;
          filled = k.this.filled;
          constraints = k.this.constraints;
        };
  } where
    at : (x : Variable) → Among g.vars x ⊎ (x ≡ y) → frame_views (more g y) x.var.path ≡ view_in x.value
    at x (inl a) = sym (frame_old x.var.path (others_free x a)) ∙ k.seen x a
    at x (inr i) = subst (λ (z : Variable). frame_views (more g y) z.var.path ≡ view_in z.value) (sym i) frame_new

  pub local_opds : (ops : List Opd) (vals : List Value) → OperandsFit p g.vars h s (all_views g w) ops vals
      → OperandsFit p (g.vars ++ y ∷ []) h (bind y.var.path y.var.ty ∷ s) (all_views (more g y) w) ops vals
  local_opds _ vals no_opds = no_opds
  local_opds _ _ (one {o = o} {x = x} i m) =
      one (operand_same v v' o x agree (λ t n. type_later binds_more n)
      (λ r n. record { bind = n.bind; among = later n.among; is = n.is }) old i) (local_opds _ _ m) where
        old : (z : Variable) → Among (g.vars ++ y ∷ []) z → Binds s z.var.path → Among g.vars z
        old z n b = at (among_more g.vars y z n) where
          at : Among g.vars z ⊎ (z ≡ y) → Among g.vars z
          at (inl c) = c
          at (inr e) = absurd (free (subst (λ (u : Variable). Binds s u.var.path) e b))

-- ---- the act

pub count_declared : (xs : List Variable) → length (declared_vars xs) ≡ length xs
count_declared [] = refl
count_declared (x ∷ xs) = ap suc (count_declared xs)

-- the view of a path that a written type mentions is the frame's own
pub frame_path : {p : Program} {h : Heap} {g : Frame} {vs : List Var} {s : Scope} {w : Views}
    → InScope p h g w vs s → (q : ℕ) → HeaderPath vs q → all_views g w q ≡ frame_views g q
frame_path {g = g} {w = w} k q (is_this e) =
    subst (λ (z : ℕ). all_views g w z ≡ frame_views g z) (sym e) refl
frame_path {g = g} {w = w} k q (is_param z m e f c) =
    let y = var_of g.vars z (subst (λ (l : List Var). Among l z) (sym k.declared) m) in
    subst (λ (r : ℕ). all_views g w r ≡ frame_views g r) (ap (λ (u : Var). u.path) y.is ∙ e)
    (all_small g w y.variable.var.path (k.small y.variable y.among))

-- the views of the frame alone are enough for a type that is written
pub frame_agree : {p : Program} {h : Heap} {g : Frame} {vs : List Var} {s : Scope} {w : Views} (t : Ty)
    → InScope p h g w vs s → HeaderPaths vs t
    → AgreeIn (all_views g w) (frame_views g) t
frame_agree {g = g} {vs = vs} {w = w} t k hp =
    agree_in (all_views g w) (frame_views g) t (λ x m. at x.anchor (λ b j e. hp x b j m e)) where
      at : (a : Anchor) → ((b j : ℕ) → a ≡ Up b j → HeaderPath vs b) → Agree (all_views g w) (frame_views g) a
      at Root g = tt
      at (Up b j) g = frame_path k b (g b j refl)

pub local_at : {p : Program} {h : Heap} {f : Frame} {x : Header} {vs : List Var} {s : Scope} {ops : List Opd}
    {w : Views} → Laws p → HeapFits p h → (m : ℕ) (k : List Todo)
    (fixed : Bool) (term : TypeTerm) (name : Name) (path : ℕ) (t : Ty) (q : Option ℕ) → TypeIs p
    (record { class = f.class; method = f.method.name.name; vars = vs }) term t
    → path < 256 → (Binds s path → ⊥) → TypeFits s t → HeaderPaths vs t → Stands p h f x vs s (opd t q ∷ ops) w
    → Sure (DidAt p h f x (vs ++ var name path fixed t ∷ []) k (typing (bind path t ∷ s) ops))
    (Does p m (BindAct fixed term name path) (now (length vs) k f) h)
local_at {p} {h} {f} {x} {vs} {s} {ops} {w} n hf m k fixed term name path t q is small free fits hp a =
    at f.vals a.operands where
      Q : Did → Type 0
      Q = DidAt p h f x (vs ++ var name path fixed t ∷ []) k (typing (bind path t ∷ s) ops)

      views : Views
      views = all_views (cut (length vs) f) w

      given : TypeIs p (site_of (now (length vs) k f)) term t
      given =
          subst (λ (l : List Var). TypeIs p (record { class = f.class; method = f.method.name.name; vars = l }) term t)
          (sym a.in_scope.declared) is

      count : length (take (length vs) f.vars) ≡ length vs
      count = sym (count_declared (take (length vs) f.vars)) ∙ ap length a.in_scope.declared

      not_this : path ≡ 0 → ⊥
      not_this e =
          free (subst (Binds s) (sym e) (a.in_scope.respects.bound 0
          (subst (λ (o : Option Path). IsSome o) (sym (ap view_in a.in_scope.this.is)) refl)))

      bound_well : (y : Value) (us : List Value) → OperandFits p (take (length vs) f.vars) h s (all_views (cut
          (length vs) f) w) (opd t q) y
          → OperandsFit p (take (length vs) f.vars) h s (all_views (cut (length vs) f) w) ops us
          → is_null_path (bound_to (var name path fixed t) y) ≡ false
          → GoesAt p h f x (vs ++ var name path fixed t ∷ []) k (typing (bind path t ∷ s) ops)
          (record (now (length vs) k f) {
            vals = us;
            vars = take (length vs) f.vars ++ bound_to
                (var name path fixed t) y ∷ [];
          }) h
      bound_well y us j others nn = record {
        later = (heap_laws.heaps p).itself h;
        heap = hf;
        stays = record {
          class = refl;
          method = refl;
          result = λ z i u b c. subst (λ (V : List Variable). IsIn p (frame_views (record f { vars = V })) i z.result u)
              (take-append-le (length f.method.params) (take (length vs) f.vars) (Y ∷ [])
              (omega (arith, count, a.all_params)) ∙ take-take (length f.method.params)
              (length vs) f.vars a.all_params) c;
        };
        todo = refl;
        stands = record {
          fresh = w;
          stands = record {
            is_header = a.is_header;
            params = take-append-le (length f.method.params) vs (X ∷ []) a.all_params ∙ a.params;
            all_params = omega (arith, a.all_params, length-append vs (X ∷ []));
            in_scope =
                subst (λ (V : List Variable). InScope p h (record f { vars = V; vals = us; todo = k }) w (vs ++ X ∷ [])
                (bind path t ∷ s)) (sym whole)
                (same_scope (more (cut (length vs) f) Y) us k f.keeps
                (local_scope Y a.in_scope small free not_this fits j.is_in j.real nn));
            operands =
                subst (λ (V : List Variable). OperandsFit p V h (bind path t ∷ s)
                (all_views (record f { vars = V }) w) ops us) (sym whole)
                (local_opds Y a.in_scope small free not_this fits j.is_in j.real nn ops us others);
          };
        };
      } where
        X : Var
        X = var name path fixed t

        Y : Variable
        Y = bound_to (var name path fixed t) y

        whole : take (length (vs ++ X ∷ [])) (take (length vs) f.vars ++ Y ∷ []) ≡ take (length vs) f.vars ++ Y ∷ []
        whole =
            take_whole (take (length vs) f.vars ++ Y ∷ []) (length (vs ++ X ∷ []))
            (omega (arith, count, length-append vs (X ∷ []), length-append (take (length vs) f.vars) (Y ∷ [])))

      typed : (y : Value) (us : List Value) → OperandFits p (take (length vs) f.vars) h s (all_views (cut
          (length vs) f) w) (opd t q) y
          → OperandsFit p (take (length vs) f.vars) h s (all_views (cut (length vs) f) w) ops us
          → Sure Q (binds p (now (length vs) k f) h (var name path fixed t) y us)
      typed y us j others =
          sure_if (not (is_null_path (bound_to (var name path fixed t) y))) (λ e. sure_it _ (surely not_stuck_at_null))
          (λ e. sure_test (surely (value_same p _ _ h t y (frame_agree t a.in_scope hp) j.is_in))
          (λ i. sure_it _ (surely (bound_well y us j others
          (not_true (is_null_path (bound_to (var name path fixed t) y)) e))))) where
            not_true : (b : Bool) → not b ≡ true → b ≡ false
            not_true true e = cc
            not_true false e = refl

      at : (vals : List Value) → OperandsFit p (take (length vs) f.vars) h s (all_views (cut (length vs) f) w)
          (opd t q ∷ ops) vals
          → Sure Q (OnFirst vals missing (λ y us. OnOnly (TypeIs p (site_of (now (length vs) k f)) term) missing
          (λ d. binds p (now (length vs) k f) h (var name path fixed d) y us)))
      at _ (one {x = y} {vs = us} j others) =
          sure_only (surely (t, given)) (λ A B i l. (finds_one p).type _ term B A l i) (λ d di.
          subst (λ (z : Ty). Sure Q (binds p (now (length vs) k f) h (var name path fixed z) y us))
          (sym ((finds_one p).type _ term d t di given)) (typed y us j others))
