-- A result, a variable, and all acts that there is a rule for.
use Rattle.std.proofs.Common.{◌≤◌, ◌≡◌, ℕ, zero, suc, List, [], ◌∷◌, ◌++◌, length, Option, Some, None, Bool, true, false, refl, sym, ap, ◌∙◌, subst, ◌⊎◌, inl, inr, eqb-true, eq-eqb}
use Rattle.std.specs.Prelude.{take, reverse, cond, nat_eq, ◌&&◌}
use Rattle.std.specs.List.{find}
use Rattle.std.proofs.lemmas.List.{take-take, reverse-append, map-append}
use Rattle.jn_base.specs.declared.tree.Name.{Name}
use Rattle.jn_base.specs.declared.tree.TypeTerm.{TypeTerm}
use Rattle.jn_base.specs.declared.tree.Expr.{Expr}
use Rattle.jn_base.specs.declared.tree.Stmt.{Stmt}
use Rattle.jn_base.specs.declared.tree.Program.{Program}
use Rattle.jn_base.specs.declared.types.Anchor.{Anchor}
use Rattle.jn_base.specs.declared.types.Anchor.TheVariants.{Root, Up}
use Rattle.jn_base.specs.declared.types.Ty.{Ty}
use Rattle.jn_base.specs.declared.types.Ty.TheVariants as ty
use Rattle.jn_base.specs.declared.names.Var.{Var}
use Rattle.jn_base.specs.Atoms.{atoms_in, Among, first, later}
use Rattle.jn_base.specs.Scopes.{Bind, Scope}
use Rattle.jn_base.specs.Fits.{BindsFit, TypeFits}
use Rattle.jn_base.specs.Resolve.{is_class, var_named, newest}
use Rattle.jn_base.specs.ResolveTypes.{mask_names}
use Rattle.jn_sem.specs.Sets.{Views}
use Rattle.jn_sem.specs.Values.{Value, Truth, truth, object, FieldsFilled}
use Rattle.jn_base.specs.declared.types.Masks.{Masks}
use Rattle.jn_sem.specs.Terms.{TypeIs}
use Rattle.jn_sem.specs.Acts.{Return, Choose, Repeat, Todo, todo, acts, stmts_acts, path_behind}
use Rattle.jn_sem.specs.State.{Heap, Variable, Frame, frame_views, view_of_var, declared_vars, view_in, IsIn, HasValue, is_null_path, has_null_path, variable, is_named, result_site, is_null}
use Rattle.jn_sem.specs.Does.{Way, on_truth, goes_with, chosen, repeated, returns, missing, on_typed}
use Rattle.jn_sem.specs.Asks.{OnFirst, It}
use Rattle.jn_steps.specs.Steps.{Leaves}
use Rattle.jn_sem.proofs.HeapLaws.{heap_laws}
use Rattle.jn_sem.proofs.FindingLaws.{finds_one}
use Rattle.jn_rules.specs.Questions.{masks_of}
use Rattle.jn_rules.specs.Exprs.{bind, path_type, masks_at}
use Rattle.jn_rules.specs.Stmts.{body_in, is_void}
use Rattle.jn_sound.specs.Takes.{Opd, opd, opd_of, OwnPaths}
use Rattle.jn_sound.specs.Fit.{Narrowed, IsLoop, Fits, repeat, narrows}
use Rattle.jn_sound.specs.Sound.{HeapFits, InScope, OperandFits, OperandsFit, none as no_opds, one, cut, all_views, result_views, body_of, Left}
use Rattle.jn_sound.proofs.Laws.{Laws}
use Rattle.jn_sound.proofs.Ways.{surely, Safe, safe_it, safe_only, safe_test}
use Rattle.jn_laws.specs.LawsOfViews.{AgreeIn, Agree}
use Rattle.jn_sound.proofs.Views.{agree_in}
use Rattle.jn_laws.proofs.ByViews.{value_same}
use Rattle.jn_sound.specs.Sound.{Stands}
use Rattle.jn_sound.proofs.Stands.{now, goes_on}
use Rattle.jn_sound.proofs.Known.{all_small, var_of, take_declared, frame_prefix}
use Rattle.jn_sound.proofs.Acts.{ActFits, own_type, own_variable, no_path, same_path_of, object_value, ObjectIs, null_is, object_is}
use Rattle.jn_sound.proofs.Locals.{frame_agree}
use Rattle.jn_sound.proofs.Calls.{take_whole}
use Rattle.jn_sound.proofs.Calls.{not_null_at}
use Rattle.jn_rules.specs.Headers.{Header}
use Rattle.jn_rule_laws.specs.LawsOfHeaders.{ResultIs}
use Rattle.jn_laws.specs.LawsOfWritten.{HeaderPath, HeaderPaths, of_this as is_this, of_param as is_param}

pub among_take_var : (n : ℕ) (xs : List Var) (y : Var) → Among (take n xs) y → Among xs y
among_take_var zero xs y a = elim a [ ]
among_take_var (suc n) [] y a = elim a [ ]
among_take_var (suc n) (x ∷ xs) _ first = first
among_take_var (suc n) (x ∷ xs) y (later a) = later (among_take_var n xs y a)

-- ---- return

pub return_fits : {p : Program} {h : Heap} {f : Frame} {x : Header} {vs : List Var} {s : Scope} {w : Views}
    {ops : List Opd} → Laws p → HeapFits p h → (m : ℕ) (k : List Todo)
    (q : Option ℕ) → is_void x.result ≡ false → Stands p h f x vs s (opd x.result q ∷ ops) w → ActFits p m h f
    (todo (length vs) (Return true)) k
return_fits {p} {h} {f} {x} {vs} {s} {w} {ops} n hf m k q nv a = at f.vals a.operands where
  g : Frame
  g = cut (length vs) f

  count : ℕ
  count = length f.method.params

  same_params : declared_vars (take (length f.method.params) (take (length vs) f.vars)) ≡ x.vars
  same_params =
      take_declared (length f.method.params) (take (length vs) f.vars) ∙ ap
      (take (length f.method.params)) a.in_scope.declared ∙ a.params

  hp : HeaderPaths x.vars x.result
  hp = n.result_paths (body_of f) x a.is_header

  wider_path : (r : ℕ) → HeaderPath x.vars r → HeaderPath vs r
  wider_path r (is_this e) = is_this e
  wider_path r (is_param z i e b c) =
      is_param z (among_take_var (length f.method.params) vs z
      (subst (λ (l : List Var). Among l z) (sym a.params) i)) e b c

  -- by the views of the parameters alone
  own_views : AgreeIn (frame_views (cut (length vs) f)) (result_views f) x.result
  own_views = agree_in _ _ x.result (λ y i. at_anchor y.anchor (λ r j e. hp y r j i e)) where
    path : (r : ℕ) → HeaderPath x.vars r → frame_views (cut (length vs) f) r ≡ result_views f r
    path r (is_this e) = subst (λ (z : ℕ). frame_views (cut (length vs) f) z ≡ result_views f z) (sym e) refl
    path r (is_param z i e b c) =
        let y =
        var_of (take (length f.method.params) (take (length vs) f.vars)) z
        (subst (λ (l : List Var). Among l z) (sym same_params) i) in
        subst (λ (u : ℕ). frame_views (cut (length vs) f) u ≡ result_views f u) (ap (λ (u : Var). u.path) y.is ∙ e)
        (sym (frame_prefix (length f.method.params) (cut (length vs) f) y.variable y.among)
        ∙ ap (λ (V : List Variable). frame_views (record f { vars = V }) y.variable.var.path)
        (take-take (length f.method.params) (length vs) f.vars a.all_params))

    at_anchor : (b : Anchor) → ((r j : ℕ) → b ≡ Up r j → HeaderPath x.vars r)
        → Agree (frame_views (cut (length vs) f)) (result_views f) b
    at_anchor Root e = tt
    at_anchor (Up r j) e = path r (e r j refl)

  leaves : (y : Value) → OperandFits p (take (length vs) f.vars) h s (all_views (cut (length vs) f) w)
      (opd x.result q) y
      → (t : Option TypeTerm) → ResultIs p (body_of f) x.vars t x.result
      → Safe p h f (returns p (now (length vs) k f) h t y)
  leaves y j None e = absurd (wrong (sym (ap is_void e) ∙ nv)) where
    wrong : true ≡ false → ⊥
    wrong e = cc
  leaves y j (Some t) is =
      let site : TypeIs p (result_site (now (length vs) k f)) t x.result = subst
      (λ (l : List Var). TypeIs p (record { class = f.class; method = f.method.name.name; vars = l }) t x.result)
      (sym same_params) is in
      let is_in : IsIn p (frame_views (cut (length vs) f)) h x.result y = value_same p _ _ h x.result y
      (frame_agree x.result a.in_scope (λ b r i m e. wider_path r (hp b r i m e))) j.is_in in
      safe_only (surely (x.result, site)) (λ A B i l. (finds_one p).type _ t B A l i) (λ d di.
      subst (λ (z : Ty). Safe p h f (returns_at z)) (sym ((finds_one p).type _ t d x.result di site))
      (safe_test (surely is_in) (λ i. safe_it (Leaves (Some y) h) (surely left)))) where
        left : Left p h f (Some y) h
        left = record {
          later = (heap_laws.heaps p).itself h;
          heap = hf;
          header = x;
          is_header = a.is_header;
          gives = (
            nv,
            value_same p _ _ h x.result y own_views
                (value_same p _ _ h x.result y (frame_agree x.result a.in_scope
                (λ b r i m e. wider_path r (hp b r i m e))) j.is_in),
            j.real,
          );
        }

        returns_at : Ty → Way
        returns_at z = on_typed p (now (length vs) k f) h z y (It (Leaves (Some y) h))

  at : (vals : List Value) → OperandsFit p (take (length vs) f.vars) h s (all_views (cut (length vs) f) w)
      (opd x.result q ∷ ops) vals
      → Safe p h f (OnFirst vals missing (λ y us. returns p (now (length vs) k f) h f.method.result y))
  at _ (one {x = y} j others) = leaves y j f.method.result a.is_header.result

-- ---- variables

find_named : (xs : List Variable) (x : Name) (v : Var) → newest (declared_vars xs) x ≡ Some v
    → (y : Variable) × (find (is_named x) xs ≡ Some y) × Among xs y × (y.var ≡ v)
find_named [] x v e = absurd (no e) where
  no : None ≡ Some v → ⊥
  no e = cc
find_named (y ∷ ys) x v e = at (nat_eq y.var.name.0 x.0) e (find_named ys x v) where
  same : Some y.var ≡ Some v → y.var ≡ v
  same e = cc

  at : (b : Bool) → cond b (Some y.var) (newest (declared_vars ys) x) ≡ Some v
      → (newest (declared_vars ys) x ≡ Some v → (z : Variable) × (find (is_named x) ys ≡ Some z) × Among ys z ×
      (z.var ≡ v))
      → (z : Variable) × (cond b (Some y) (find (is_named x) ys) ≡ Some z) × Among (y ∷ ys) z × (z.var ≡ v)
  at true e again = (y, refl, first, same e)
  at false e again = let k = again e in (k.0, k.1, later k.2, k.3)

declared_reverse : (xs : List Variable) → declared_vars (reverse xs) ≡ reverse (declared_vars xs)
declared_reverse [] = refl
declared_reverse (x ∷ xs) =
    ap declared_vars (reverse-append (x ∷ []) xs) ∙ map-append (λ (y : Variable). y.var) (reverse xs) (x ∷ []) ∙ ap
    (λ (l : List Var). l ++ x.var ∷ []) (declared_reverse xs)
    ∙ sym (reverse-append (x.var ∷ []) (declared_vars xs))

among_split : (xs ys : List Variable) (z : Variable) → Among (xs ++ ys) z → Among xs z ⊎ Among ys z
among_split [] ys z a = inr a
among_split (x ∷ xs) ys _ first = inl first
among_split (x ∷ xs) ys z (later a) = at (among_split xs ys z a) where
  at : Among xs z ⊎ Among ys z → Among (x ∷ xs) z ⊎ Among ys z
  at (inl b) = inl (later b)
  at (inr b) = inr b

among_one : (x z : Variable) → Among (x ∷ []) z → z ≡ x
among_one x _ first = refl
among_one x z (later b) = elim b [ ]

among_back : (xs : List Variable) (z : Variable) → Among (reverse xs) z → Among xs z
among_back [] z a = elim a [ ]
among_back (x ∷ xs) z a =
    at (among_split (reverse xs) (x ∷ []) z (subst (λ (l : List Variable). Among l z) (reverse-append (x ∷ []) xs) a))
    (among_back xs z) where
      at : Among (reverse xs) z ⊎ Among (x ∷ []) z → (Among (reverse xs) z → Among xs z) → Among (x ∷ xs) z
      at (inl b) again = later (again b)
      at (inr b) again = subst (Among (x ∷ xs)) (sym (among_one x z b)) first

pub record VariableOf (xs : List Variable) (x : Name) (v : Var) : Type 0 where
  pub variable : Variable
  pub is : Rattle.jn_sem.specs.State.variable xs x ≡ Some variable
  pub among : Among xs variable
  pub var : variable.var ≡ v

pub variable_of : (xs : List Variable) (vs : List Var) (x : Name) (v : Var) → declared_vars xs ≡ vs
    → var_named (record { list = vs }) x ≡ Some v → VariableOf xs x v
variable_of xs vs x v d e =
    let k =
    find_named (reverse xs) x v (subst (λ (l : List Var). newest l x ≡ Some v)
    (ap reverse (sym d) ∙ sym (declared_reverse xs)) e) in
    record { variable = k.0; is = k.1; among = among_back xs k.0 k.2; var = k.3 }

pub masks_bound : (s : Scope) (b : Bind) → BindsFit s → Among s b → masks_at s b.path ≡ masks_of b.ty
masks_bound _ b f (first {xs = s}) =
    ap (λ (z : Bool). cond z (masks_of b.ty) (masks_at s b.path)) (eq-eqb b.path b.path refl)
masks_bound _ b f (later {y = c} {xs = s} a) = at (nat_eq b.path c.path) refl (masks_bound s b f.0 a) where
  at : (z : Bool) → nat_eq b.path c.path ≡ z → masks_at s b.path ≡ masks_of b.ty
      → cond z (masks_of c.ty) (masks_at s b.path) ≡ masks_of b.ty
  at true e k = absurd (f.1 (record { bind = b; among = a; is = eqb-true b.path c.path e }))
  at false e k = k

-- a variable as an operand
pub read_operand : {p : Program} {h : Heap} {g : Frame} {vs : List Var} {s : Scope} {w : Views} (v : Var)
    (y : Variable) → InScope p h g w vs s → Among g.vars y → y.var ≡ v
    → TypeFits s (opd_of s v).ty → ((v.fixed && is_class v.ty) ≡ false → Among s (bind v.path v.ty)) →
    OperandFits p g.vars h s (all_views g w) (opd_of s v) y.value
read_operand {p} {h} {g} {vs} {s} {w} v y k a e = at (v.fixed && is_class v.ty) refl where
  views : Views
  views = all_views g w

  path_is : y.var.path ≡ v.path
  path_is = ap (λ (z : Var). z.path) e

  view_is : all_views g w v.path ≡ view_in y.value
  view_is =
      subst (λ (q : ℕ). all_views g w q ≡ view_in y.value) path_is (all_small g w y.var.path (k.small y a) ∙ k.seen y a)

  at : (b : Bool) → (v.fixed && is_class v.ty) ≡ b
      → TypeFits s (cond b (opd (path_type s v.path) (Some v.path)) (opd v.ty None)).ty
      → ((v.fixed && is_class v.ty) ≡ false → Among s (bind v.path v.ty)) → OperandFits p g.vars h s (all_views g w)
      (cond b (opd (path_type s v.path) (Some v.path)) (opd v.ty None)) y.value
  at false i t m = record {
    fits = t;
    bound = λ q z. absurd (no_path q z);
    is_in = k.values y (bind v.path v.ty) a (m i) (sym path_is);
    real = k.real y a;
    path = λ q z. absurd (no_path q z);
    held = λ x m z. absurd (no_path x.var.path z);
  }
  at true i t m = record {
    fits = t;
    bound =
        λ q z. record {
          bind = (k.bound y a).0;
          among = (k.bound y a).1;
          is = (k.bound y a).2 ∙ path_is ∙
              same_path_of v.path q z;
        };
    is_in =
        path_in (object_value p h views b.0.ty y.value (b.4 ∙ is_class_type) (k.values y b.0 a b.1 b.2))
        (null_not (not_null_at g.vars y k.no_null a));
    real = k.real y a;
    path = λ q z. subst (λ (r : ℕ). all_views g w r ≡ view_in y.value) (same_path_of v.path q z) view_is;
    held = λ x m z. ap (λ (u : Variable). u.value) (own_variable g.vars (subst OwnPaths (sym k.declared) k.own) y x a m
        (path_is ∙ same_path_of v.path x.var.path z));
  } where
    b : (c : Bind) × Among s c × (c.path ≡ y.var.path) × (atoms_in c.ty ≡ atoms_in y.var.ty) ×
        (is_class c.ty ≡ is_class y.var.ty)
    b = k.bound y a

    both : (c d : Bool) → (c && d) ≡ true → (c ≡ true) × (d ≡ true)
    both true true z = (refl, refl)
    both true false z = absurd (wrong z) where
      wrong : false ≡ true → ⊥
      wrong z = cc
    both false d z = absurd (wrong z) where
      wrong : false ≡ true → ⊥
      wrong z = cc

    is_class_type : is_class y.var.ty ≡ true
    is_class_type = ap (λ (u : Var). is_class u.ty) e ∙ (both v.fixed (is_class v.ty) i).1

    null_not : is_null_path y ≡ false → is_null y.value ≡ false
    null_not z =
        subst (λ (c : Bool). (c && is_null y.value) ≡ false) is_class_type
        (subst (λ (c : Bool). (c && (is_class y.var.ty && is_null y.value)) ≡ false)
        (ap (λ (u : Var). u.fixed) e ∙ (both v.fixed (is_class v.ty) i).0) z)

    masks : masks_of b.0.ty ≡ masks_at s v.path
    masks = sym (masks_bound s b.0 k.binds b.1) ∙ ap (masks_at s) (b.2 ∙ path_is)

    path_value : (z : Value) → view_in y.value ≡ view_in z → ObjectIs p h views b.0.ty z → is_null z ≡ false
        → IsIn p views h (path_type s v.path) z
    path_value _ j null_is z = absurd (wrong z) where
      wrong : true ≡ false → ⊥
      wrong z = cc
    path_value _ j (object_is {o = o} {V = V} it filled) z =
        object (own_type p views s v.path V (view_is ∙ j))
        (subst (λ (c : Masks). FieldsFilled p (mask_names p) (HasValue p h o V) c V) masks filled)

    path_in : ObjectIs p h views b.0.ty y.value → is_null y.value ≡ false → IsIn p views h (path_type s v.path) y.value
    path_in o z = path_value y.value refl o z

-- ---- truth values

pub data TruthIs : Value → Type 0 where
  truth_is : {b : Bool} → TruthIs (Truth b)

pub truth_value : (p : Program) (h : Heap) (v : Views) (z : Value) → IsIn p v h ty.Bool z → TruthIs z
truth_value p h v _ truth = truth_is

counted : {p : Program} {h : Heap} {f : Frame} {x : Header} {vs : List Var} {s : Scope} {ops : List Opd} {w : Views} →
    Stands p h f x vs s ops w → length (take (length vs) f.vars) ≡ length vs
counted {f = f} {vs = vs} a = sym (count (take (length vs) f.vars)) ∙ ap length a.in_scope.declared where
  count : (xs : List Variable) → length (declared_vars xs) ≡ length xs
  count [] = refl
  count (x ∷ xs) = ap suc (count xs)

-- where the test holds or not, what is to be done then fits
truth_fits : {p : Program} {h : Heap} {f : Frame} {x : Header} {vs : List Var} {s : Scope} {ops : List Opd}
    {w : Views} → HeapFits p h → (k : List Todo) (q : Option ℕ) (then : Bool → List Todo)
    → ((b : Bool) → Fits p (body_in (body_of f) x) (then b) vs s []) → Stands p h f x vs s (opd ty.Bool q ∷ ops) w
    → Safe p h f (OnFirst f.vals missing (λ z us. on_truth z (λ b. goes_with (now (length vs) k f) us (then b) h)))
truth_fits {p} {h} {f} {x} {vs} {s} {ops} {w} hf k q then fit a = at f.vals a.operands where
  by : (z : Value) (us : List Value) → TruthIs z
      → Safe p h f (on_truth z (λ b. goes_with (now (length vs) k f) us (then b) h))
  by _ us (truth_is {b = b}) = safe_it _ (surely (goes_on hf a (then b) [] us no_opds (fit b)))

  at : (vals : List Value) → OperandsFit p (take (length vs) f.vars) h s (all_views (cut (length vs) f) w)
      (opd ty.Bool q ∷ ops) vals
      → Safe p h f (OnFirst vals missing (λ z us. on_truth z (λ b. goes_with (now (length vs) k f) us (then b) h)))
  at _ (one {x = z} {vs = us} j others) = by z us (truth_value p h _ z j.is_in)

pub choose_fits : {p : Program} {h : Heap} {f : Frame} {x : Header} {vs : List Var} {s : Scope} {ops : List Opd}
    {w : Views} → HeapFits p h → (m : ℕ) (k : List Todo) (path : ℕ) (yes no : List Stmt) (q : Option ℕ)
    → Fits p (body_in (body_of f) x) (stmts_acts (length vs) path yes k) vs s [] → Fits p (body_in (body_of f) x)
    (stmts_acts (length vs) (path_behind yes path) no k) vs s []
    → Stands p h f x vs s (opd ty.Bool q ∷ ops) w → ActFits p m h f (todo (length vs) (Choose path yes no)) k
choose_fits {p} {h} {f} {x} {vs} {s} {ops} {w} hf m k path left right q one_fits other_fits a =
    truth_fits hf k q (chosen (now (length vs) k f) path left right) fit a where
      fit : (b : Bool) → Fits p (body_in (body_of f) x) (chosen (now (length vs) k f) path left right b) vs s []
      fit true =
          subst (λ (i : ℕ). Fits p (body_in (body_of f) x) (stmts_acts i path left k) vs s [])
          (sym (counted a)) one_fits
      fit false =
          subst (λ (i : ℕ). Fits p (body_in (body_of f) x) (stmts_acts i (path_behind left path) right k) vs s [])
          (sym (counted a)) other_fits

pub again_fits : {p : Program} {h : Heap} {f : Frame} {x : Header} {vs : List Var} {s t : Scope} {ops : List Opd}
    {w : Views} → Laws p → HeapFits p h → (m : ℕ) (k : List Todo) (path : ℕ) (e : Expr) (body : List Stmt)
    (q : Option ℕ)
    → IsLoop p (body_in (body_of f) x) vs t path e body → Narrowed s t → length f.method.params ≤ length vs → Fits p
    (body_in (body_of f) x) k vs t []
    → Stands p h f x vs s (opd ty.Bool q ∷ ops) w → ActFits p m h f (todo (length vs) (Repeat path e body)) k
again_fits {p} {h} {f} {x} {vs} {s} {t} {ops} {w} n hf m k path e body q loop nar enough rest a =
    truth_fits hf k q (repeated (now (length vs) k f) path e body) fit a where
      whole : vs ≡ take (length vs) vs
      whole = sym (take_whole vs (length vs) refl)

      fit : (b : Bool) → Fits p (body_in (body_of f) x) (repeated (now (length vs) k f) path e body b) vs s []
      fit true =
          subst (λ (i : ℕ). Fits p (body_in (body_of f) x)
          (stmts_acts i path body (acts i e (todo i (Repeat path e body) ∷ k))) vs s []) (sym (counted a))
          (narrows whole enough nar loop.known.scope.scope.binds loop.known.covers
          (n.loop_fits (body_in (body_of f) x) vs t path e body (todo (length vs) (Repeat path e body) ∷ k) loop
          (λ u o. repeat path e body None refl loop o enough rest)))
      fit false = narrows whole enough nar loop.known.scope.scope.binds loop.known.covers rest
