-- An assignment, from one typing to another.
use Rattle.std.proofs.Common.{◌≡◌, ◌<◌, ◌≤◌, ℕ, List, [], ◌∷◌, length, Option, Some, Bool, true, false, refl, sym, ap, ◌∙◌, subst, ◌⊎◌, inl, inr, eqb-true}
use Rattle.std.specs.Prelude.{take, cond, nat_eq, nat_lt, IsSome}
use Rattle.std.proofs.lemmas.List.{take-take}
use Rattle.jn_base.specs.declared.tree.Name.{Name}
use Rattle.jn_base.specs.declared.tree.Program.{Program}
use Rattle.jn_base.specs.declared.types.Anchor.{Anchor}
use Rattle.jn_base.specs.declared.types.Anchor.TheVariants.{Root, Up}
use Rattle.jn_base.specs.declared.names.Var.{Var}
use Rattle.jn_base.specs.Paths.{Path}
use Rattle.jn_base.specs.Universe.{InUniverse}
use Rattle.jn_base.specs.Atoms.{atoms_in, Among}
use Rattle.jn_base.specs.Scopes.{Bind, Scope, Binds}
use Rattle.jn_base.specs.Resolve.{is_class, var_named}
use Rattle.jn_sem.specs.Sets.{Views, Seen, view_at, InType, Respects}
use Rattle.jn_sem.specs.Values.{Value}
use Rattle.jn_sem.specs.Acts.{Assign, Todo}
use Rattle.jn_sem.specs.State.{Heap, Variable, Frame, frame_views, view_of_var, declared_vars, view_in, IsIn, variable, assigned}
use Rattle.jn_sem.specs.Does.{Did, Does, on_typed, missing}
use Rattle.jn_sem.specs.Asks.{OnFirst, OnSome, It}
use Rattle.jn_steps.specs.Steps.{Goes}
use Rattle.jn_sem.proofs.HeapLaws.{heap_laws}
use Rattle.jn_laws.specs.LawsOfViews.{Agree, AgreeIn}
use Rattle.jn_laws.specs.LawsOfWritten.{HeaderPath, HeaderPaths, of_this as is_this, of_param as is_param}
use Rattle.jn_laws.specs.Reading.{IsReal}
use Rattle.jn_laws.proofs.ByViews.{type_same, value_same, view_same}
use Rattle.jn_rules.specs.Exprs.{bind}
use Rattle.jn_rules.specs.Headers.{Header}
use Rattle.jn_rule_laws.specs.LawsOfHeaders.{IsHeader}
use Rattle.jn_sound.specs.Takes.{Opd, opd, typing, OwnPaths, Assignable}
use Rattle.jn_sound.specs.Sound.{HeapFits, InScope, OperandsFit, none as no_opds, one, cut, all_views, result_views, body_of, Stands}
use Rattle.jn_sound.specs.Steps.{GoesAt, DidAt}
use Rattle.jn_sound.proofs.Laws.{Laws}
use Rattle.jn_sound.proofs.Ways.{surely}
use Rattle.jn_sound.proofs.Safe.{Sure, sure_it, sure_some, sure_test}
use Rattle.jn_sound.proofs.Stands.{now, same_scope}
use Rattle.jn_sound.proofs.Views.{agree_in}
use Rattle.jn_sound.proofs.Known.{bind_once, view_typed, view_real, some_view, either_path, all_small, declared_among}
use Rattle.jn_sound.proofs.Locals.{frame_agree, count_declared}
use Rattle.jn_sound.proofs.Calls.{take_whole}
use Rattle.jn_sound.proofs.Returns.{VariableOf, variable_of, among_take_var}
use Rattle.jn_sound.proofs.Assigned.{Assigned, assigned_is, among_assigned, declared_assigned, view_other, view_whole, view_own, members, null_assigned, own_one, not_this_path}

abbrev with_vars : Frame → List Variable → Frame
with_vars g ys = record g { vars = ys }

-- ---- the scope, with another value of one variable

module _ {p : Program} {h : Heap} {g : Frame} {vs : List Var} {s : Scope} {w : Views} (z : Value) (y : Variable)
    (ys : List Variable) (a : Assigned z y g.vars ys) (k : InScope p h g w vs s) (may : Assignable vs s y.var)
    (is_in : IsIn p (all_views g w) h y.var.ty z) (real : IsReal p h z) where
  abbrev pub v : Views
  v = all_views g w

  abbrev pub v' : Views
  v' = all_views (with_vars g ys) w

  own : OwnPaths (declared_vars g.vars)
  own = subst OwnPaths (sym k.declared) k.own

  not_this : y.var.path ≡ 0 → ⊥
  not_this = not_this_path (declared_vars g.vars) own y.var (declared_among g.vars y (among_assigned a))

  frame_old : (q : ℕ) → (q ≡ y.var.path → ⊥) → frame_views g q ≡ frame_views (with_vars g ys) q
  frame_old q o = ap (λ (u : Option Path). cond (nat_eq q 0) (view_in g.this) u) (sym (view_whole q a o))

  at_old : (q : ℕ) → (q ≡ y.var.path → ⊥) → v q ≡ v' q
  at_old q o = ap (λ (u : Option Path). cond (nat_lt q 256) u (w q)) (frame_old q o)

  frame_new : frame_views (with_vars g ys) y.var.path ≡ view_in z
  frame_new = at (nat_eq y.var.path 0) refl where
    at : (b : Bool) → nat_eq y.var.path 0 ≡ b → cond b (view_in g.this) (view_of_var ys y.var.path) ≡ view_in z
    at true e = absurd (not_this (eqb-true y.var.path 0 e))
    at false e = view_own a own

  at_new : v' y.var.path ≡ view_in z
  at_new = all_small (with_vars g ys) w y.var.path (k.small y (among_assigned a)) ∙ frame_new

  agree_at : (c : Anchor) → ((q j : ℕ) → c ≡ Up q j → q ≡ y.var.path → ⊥) → Agree v v' c
  agree_at Root o = tt
  agree_at (Up q j) o = at_old q (o q j refl)

  agree_bind : (b : Bind) → Among s b → AgreeIn v v' b.ty
  agree_bind b m = agree_in v v' b.ty (λ x c. agree_at x.anchor (λ q j e. may.unmentioned b x q j m c e))

  own_bind : (b : Bind) → Among s b → b.path ≡ y.var.path → b ≡ bind y.var.path y.var.ty
  own_bind b m e = bind_once s b (bind y.var.path y.var.ty) k.binds m may.among e

  -- the value is in the type of each bind of the variable
  in_bind : (b : Bind) → Among s b → b.path ≡ y.var.path → IsIn p v' h b.ty z
  in_bind b m e =
      subst (λ (c : Bind). IsIn p v' h c.ty z) (sym (own_bind b m e))
      (value_same p v v' h y.var.ty z (agree_bind (bind y.var.path y.var.ty) may.among) is_in)

  seen_old : (q : ℕ) → (q ≡ y.var.path → ⊥) → Seen v' q → Seen v q
  seen_old q o n = subst (λ (u : Option Path). IsSome u) (sym (at_old q o)) n

  view_new : (q : ℕ) → q ≡ y.var.path → Seen v' q → view_in z ≡ Some (view_at v' q)
  view_new q e n = sym (subst (λ (r : ℕ). v' r ≡ view_in z) (sym e) at_new) ∙ some_view (v' q) n

  respects : Respects p v' s
  respects = record {
    bound = λ q n. bound_at q n (either_path y.var.path q);
    universe = λ q n. universe_at q n (either_path y.var.path q);
    holds = λ b m n. holds_at b m n (either_path y.var.path b.path);
  } where
    bound_at : (q : ℕ) → Seen v' q → (q ≡ y.var.path) ⊎ (q ≡ y.var.path → ⊥) → Binds s q
    bound_at q n (inl e) = record { bind = bind y.var.path y.var.ty; among = may.among; is = sym e }
    bound_at q n (inr o) = k.respects.bound q (seen_old q o n)

    universe_at : (q : ℕ) → Seen v' q → (q ≡ y.var.path) ⊎ (q ≡ y.var.path → ⊥) → InUniverse p (view_at v' q)
    universe_at q n (inl e) = view_real p h z real (view_at v' q) (view_new q e n)
    universe_at q n (inr o) =
        subst (InUniverse p) (view_same v v' q (at_old q o)) (k.respects.universe q (seen_old q o n))

    holds_at : (b : Bind) → Among s b → Seen v' b.path → (b.path ≡ y.var.path) ⊎ (b.path ≡ y.var.path → ⊥)
        → InType p v' b.ty (view_at v' b.path)
    holds_at b m n (inl e) = view_typed p h v' b.ty z (in_bind b m e) (view_at v' b.path) (view_new b.path e n)
    holds_at b m n (inr o) =
        type_same p v v' b.ty (view_at v' b.path) (agree_bind b m)
        (subst (InType p v b.ty) (view_same v v' b.path (at_old b.path o))
        (k.respects.holds b m (seen_old b.path o n)))

  abbrev IsOld : Variable → Type 0
  IsOld x = Among g.vars x × (x.var.path ≡ y.var.path → ⊥)

  values_at : (x : Variable) (b : Bind) → (x ≡ record y { value = z }) ⊎ IsOld x → Among s b
      → b.path ≡ x.var.path → IsIn p v' h b.ty x.value
  values_at x b (inl i) m e =
      subst (λ (u : Variable). IsIn p v' h b.ty u.value) (sym i)
      (in_bind b m (e ∙ ap (λ (u : Variable). u.var.path) i))
  values_at x b (inr o) m e = value_same p v v' h b.ty x.value (agree_bind b m) (k.values x b o.0 m e)

  each : (T : Variable → Type 0) → ((x : Variable) → Among g.vars x → T x) → T (record y { value = z })
      → (x : Variable) → Among ys x → T x
  each T old new x m = at (members x a own m) where
    at : (x ≡ record y { value = z }) ⊎ IsOld x → T x
    at (inl i) = subst T (sym i) new
    at (inr o) = old x o.0

  seen_at : (x : Variable) → (x ≡ record y { value = z }) ⊎ IsOld x
      → frame_views (with_vars g ys) x.var.path ≡ view_in x.value
  seen_at x (inl i) =
      subst (λ (u : Variable). frame_views (with_vars g ys) u.var.path ≡ view_in u.value) (sym i) frame_new
  seen_at x (inr o) = sym (frame_old x.var.path o.1) ∙ k.seen x o.0

  pub assigned_scope : InScope p h (with_vars g ys) w vs s
  assigned_scope = record {
    declared = declared_assigned a ∙ k.declared;
    binds = k.binds;
    respects = respects;
    values = λ x b m n e. values_at x b (members x a own m) n e;
    bound =
        each (λ x. (b : Bind) × Among s b × (b.path ≡ x.var.path) × (atoms_in b.ty ≡ atoms_in x.var.ty) ×
        (is_class b.ty ≡ is_class x.var.ty)) k.bound (k.bound y (among_assigned a));
    real = each (λ x. IsReal p h x.value) k.real real;
    seen = λ x m. seen_at x (members x a own m);
    small = each (λ x. x.var.path < 256) k.small (k.small y (among_assigned a));
    no_null = null_assigned a may.not_final k.no_null;
    own = k.own;
    this =
        record {
          object = k.this.object;
          view = k.this.view;
          is = k.this.is;
          real = k.this.real;
          super = k.this.super;
          filled = k.this.filled;
          constraints = k.this.constraints;
        };
  }

-- ---- the act

-- the result's type mentions no variable that may be assigned
result_same : (f : Frame) (x : Header) (vs : List Var) (n : ℕ) (z : Value) (y : Variable)
    (ys : List Variable) → n ≤ length vs → take n vs ≡ x.vars → HeaderPaths x.vars x.result
    → Assigned z y (take (length vs) f.vars) ys
    → OwnPaths vs → Among vs y.var → y.var.fixed ≡ false
    → AgreeIn (frame_views (with_vars f (take n ys))) (frame_views (cut n f)) x.result
result_same f x vs n z y ys le params hp a apart m nf =
    agree_in (frame_views (with_vars f (take n ys))) (frame_views (cut n f)) x.result
    (λ c b. at c.anchor (λ q j e. hp c q j b e)) where
      not_final : true ≡ false → ⊥
      not_final e = cc

      other : (q : ℕ) → (q ≡ y.var.path → ⊥)
          → frame_views (with_vars f (take n ys)) q ≡ frame_views (cut n f) q
      other q o =
          ap (λ (u : Option Path). cond (nat_eq q 0) (view_in f.this) u)
          (view_other n q a o ∙ ap (λ (l : List Variable). view_of_var l q) (take-take n (length vs) f.vars le))

      path : (q : ℕ) → HeaderPath x.vars q
          → frame_views (with_vars f (take n ys)) q ≡ frame_views (cut n f) q
      path q (is_this e) =
          subst (λ (r : ℕ). frame_views (with_vars f (take n ys)) r ≡ frame_views (cut n f) r) (sym e) refl
      path q (is_param u b e fx c) = other q (λ i. not_final (sym fx ∙ ap (λ (d : Var). d.fixed)
          (own_one vs apart u y.var
          (among_take_var n vs u (subst (λ (d : List Var). Among d u) (sym params) b)) m (e ∙ i)) ∙ nf))

      at : (c : Anchor) → ((q j : ℕ) → c ≡ Up q j → HeaderPath x.vars q)
          → Agree (frame_views (with_vars f (take n ys))) (frame_views (cut n f)) c
      at Root o = tt
      at (Up q j) o = path q (o q j refl)

pub assign_at : {p : Program} {h : Heap} {f : Frame} {x : Header} {vs : List Var} {s : Scope} {ops : List Opd}
    {w : Views} → Laws p → HeapFits p h → (m : ℕ) (k : List Todo) (name : Name) (v : Var) (q : Option ℕ)
    → var_named (record { list = vs }) name ≡ Some v → Assignable vs s v
    → Stands p h f x vs s (opd v.ty q ∷ ops) w
    → Sure (DidAt p h f x vs k (typing s [])) (Does p m (Assign name) (now (length vs) k f) h)
assign_at {p} {h} {f} {x} {vs} {s} {ops} {w} n hf m k name v q named may a = at f.vals a.operands where
  Q : Did → Type 0
  Q = DidAt p h f x vs k (typing s [])

  xs : List Variable
  xs = take (length vs) f.vars

  found : VariableOf (take (length vs) f.vars) name v
  found = variable_of (take (length vs) f.vars) vs name v a.in_scope.declared named

  y : Variable
  y = found.variable

  may_it : Assignable vs s found.variable.var
  may_it = subst (Assignable vs s) (sym found.var) may

  among : Among vs found.variable.var
  among = subst (λ (l : List Var). Among l found.variable.var) a.in_scope.declared
      (declared_among (take (length vs) f.vars) found.variable found.among)

  goes_well : (z : Value) (us : List Value) → IsIn p (all_views (cut (length vs) f) w) h found.variable.var.ty z
      → IsReal p h z → GoesAt p h f x vs k (typing s [])
      (record (now (length vs) k f) { vals = us; vars = assigned (take (length vs) f.vars) name z }) h
  goes_well z us i r = record {
    later = (heap_laws.heaps p).itself h;
    heap = hf;
    stays = record {
      class = refl;
      method = refl;
      result = λ c j u b d. value_same p _ _ j c.result u (result_at c b) d;
    };
    todo = refl;
    stands = record {
      fresh = w;
      stands = record {
        is_header = a.is_header;
        params = a.params;
        all_params = a.all_params;
        in_scope =
            subst (λ (V : List Variable). InScope p h (record f { vars = V; vals = us; todo = k }) w vs s)
            (sym whole)
            (same_scope (with_vars (cut (length vs) f) ys) us k f.keeps
            (assigned_scope z found.variable ys one_new a.in_scope may_it i r));
        operands = no_opds;
      };
    };
  } where
    ys : List Variable
    ys = assigned (take (length vs) f.vars) name z

    one_new : Assigned z found.variable (take (length vs) f.vars) (assigned (take (length vs) f.vars) name z)
    one_new = assigned_is (take (length vs) f.vars) name z found.variable found.is

    whole : take (length vs) (assigned (take (length vs) f.vars) name z)
        ≡ assigned (take (length vs) f.vars) name z
    whole =
        take_whole (assigned (take (length vs) f.vars) name z) (length vs)
        (sym (count_declared (assigned (take (length vs) f.vars) name z))
        ∙ ap length (declared_assigned one_new ∙ a.in_scope.declared))

    result_at : (c : Header) → IsHeader p (body_of f) c
        → AgreeIn (frame_views (with_vars f (take (length f.method.params)
        (assigned (take (length vs) f.vars) name z)))) (result_views f) c.result
    result_at c b =
        subst (λ (e : Header). AgreeIn (frame_views (with_vars f (take (length f.method.params)
        (assigned (take (length vs) f.vars) name z)))) (result_views f) e.result)
        (n.header_one (body_of f) x c a.is_header b)
        (result_same f x vs (length f.method.params) z found.variable
        (assigned (take (length vs) f.vars) name z) a.all_params a.params
        (n.result_paths (body_of f) x a.is_header) one_new a.in_scope.own among may_it.not_final)

  at : (vals : List Value) → OperandsFit p (take (length vs) f.vars) h s (all_views (cut (length vs) f) w)
      (opd v.ty q ∷ ops) vals
      → Sure Q (OnFirst vals missing (λ z us. OnSome (variable (take (length vs) f.vars) name) missing
      (λ c. on_typed p (now (length vs) k f) h c.var.ty z
      (It (Goes (record (now (length vs) k f) { vals = us; vars = assigned (take (length vs) f.vars) name z }) h [])))))
  at _ (one {x = z} {vs = us} j others) =
      let typed : IsIn p (all_views (cut (length vs) f) w) h found.variable.var.ty z =
      subst (λ (u : Var). IsIn p (all_views (cut (length vs) f) w) h u.ty z) (sym found.var) j.is_in in
      sure_some (variable (take (length vs) f.vars) name) missing
      (λ (c : Variable). on_typed p (now (length vs) k f) h c.var.ty z
      (It (Goes (record (now (length vs) k f) { vals = us; vars = assigned (take (length vs) f.vars) name z }) h [])))
      found.variable found.is
      (sure_test (surely (value_same p _ _ h found.variable.var.ty z
      (frame_agree found.variable.var.ty a.in_scope may_it.paths) typed))
      (λ i. sure_it _ (surely (goes_well z us typed j.real))))
