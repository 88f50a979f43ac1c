-- Each act fits.
use Rattle.std.proofs.Common.{◌≡◌, ℕ, List, [], ◌∷◌, Option, Some, None, true, false, refl, sym, ap, ◌∙◌, subst}
use Rattle.std.specs.Prelude.{IsSome, unwrap_or}
use Rattle.jn_base.specs.declared.tree.Name.{Name}
use Rattle.jn_base.specs.declared.tree.Program.{Program}
use Rattle.jn_base.specs.declared.types.Ty.{Ty}
use Rattle.jn_base.specs.declared.types.Ty.TheVariants as ty
use Rattle.jn_base.specs.declared.names.Var.{Var}
use Rattle.jn_base.specs.Paths.{Path}
use Rattle.jn_base.specs.Supers.{Sup, itself}
use Rattle.jn_base.specs.Atoms.{Atom, atoms_in, Among, first, later}
use Rattle.jn_base.specs.Scopes.{Scope, Binds}
use Rattle.jn_base.specs.Fits.{BindsFit, TypeFits}
use Rattle.jn_base.specs.ResolveTypes.{mask_names}
use Rattle.jn_sem.specs.Sets.{Views, view_at, InType, Respects}
use Rattle.jn_sem.specs.Values.{Value, Number, Truth, Null, Reference, number, truth, null, no_object, object}
use Rattle.jn_sem.specs.Acts.{Act, Todo, todo}
use Rattle.jn_sem.specs.State.{Heap, Frame, Variable, declared_vars, view_in, IsIn, HasValue}
use Rattle.jn_sem.specs.Run.{acting}
use Rattle.jn_sem.specs.Does.{Way, Does, AtNull}
use Rattle.std.specs.Option.{option_map}
use Rattle.jn_base.specs.declared.types.Anchor.{Anchor}
use Rattle.jn_base.specs.declared.types.Anchor.TheVariants.{Root, Up}
use Rattle.jn_base.specs.Resolve.{is_class}
use Rattle.jn_sem.specs.Sets.{AnchorSeen}
use Rattle.jn_sem.specs.Values.{FieldsFilled}
use Rattle.jn_sem.specs.Sharing.{Counterpart, HangsOnThis, family_of}
use Rattle.jn_sem.specs.Slots.{FieldType, this_viewed}
use Rattle.jn_sem.specs.Normal.{swapped, after}
use Rattle.jn_sem.specs.NormalFunction.{subst_type}
use Rattle.jn_sem.specs.Does.{on_read, on_viewed, missing}
use Rattle.jn_sem.specs.Asks.{OnSome}
use Rattle.jn_sem.proofs.TypeSets.{values_subst}
use Rattle.jn_sem.proofs.NormalTypes.{type_subst_is}
use Rattle.jn_sem.proofs.SharedLaws.{sharing_laws}
use Rattle.jn_rules.specs.Questions.{FirstWith, first as first_with, later as later_with}
use Rattle.jn_laws.specs.Reading.{plain as read_plain}
use Rattle.jn_sound.proofs.Views.{agree_in}
use Rattle.jn_laws.specs.LawsOfViews.{Agree}
use Rattle.jn_laws.proofs.ByViews.{value_same}
use Rattle.jn_rules.specs.Questions.{masks_of}
use Rattle.jn_rules.specs.Exprs.{path_type}
use Rattle.jn_sound.specs.Takes.{opd, OwnPaths, IsLiteral, number as number_literal, truth as truth_literal, null as null_literal}
use Rattle.jn_sound.specs.Sound.{InScope, OperandFits, all_views, NotStuck}
use Rattle.jn_sound.proofs.Known.{declared_among}
use Rattle.jn_sound.proofs.Laws.{Laws}
use Rattle.jn_sound.proofs.Ways.{surely, Safe, safe_by, safe_only, safe_either, safe_some}
use Rattle.jn_laws.specs.Reading.{ReadAs, itself as read_itself, turned, IsReal}
use Rattle.jn_laws.specs.Surely.{Surely}

-- what an act has to show, before which the frame stands so
abbrev pub ActFits : Program → (capacity : ℕ) → Heap → Frame → Todo → List Todo → Type 0
ActFits p m h f t k = Safe p h f (Does p m t.act (acting t k f) h)

-- at the number of the variables in scope
pub at_scope : (p : Program) (m : ℕ) (h : Heap) (f : Frame) (a : Act) (k : List Todo) (n l : ℕ) → n ≡ l
    → ActFits p m h f (todo l a) k → ActFits p m h f (todo n a) k
at_scope p m h f a k n l e s = subst (λ (i : ℕ). ActFits p m h f (todo i a) k) (sym e) s

pub no_path : (q : ℕ) → None ≡ Some q → ⊥
no_path q e = cc

pub same_path_of : (q r : ℕ) → Some q ≡ Some r → q ≡ r
same_path_of q r e = cc

-- ---- literals

pub literal_fits : (p : Program) (xs : List Variable) (h : Heap) (s : Scope) (v : Views) (x : Value) (t : Ty)
    → IsLiteral x t → OperandFits p xs h s v (opd t None) x
literal_fits p xs h s v _ _ number_literal =
    record {
      fits = record { atoms = λ c. absurd c };
      bound = λ q e. absurd (no_path q e);
      is_in = number;
      real = tt;
      path = λ q e. absurd (no_path q e);
      held = λ y m e. absurd (no_path y.var.path e);
    }
literal_fits p xs h s v _ _ truth_literal =
    record {
      fits = record { atoms = λ c. absurd c };
      bound = λ q e. absurd (no_path q e);
      is_in = truth;
      real = tt;
      path = λ q e. absurd (no_path q e);
      held = λ y m e. absurd (no_path y.var.path e);
    }
literal_fits p xs h s v _ _ null_literal =
    record {
      fits = record { atoms = λ c. absurd c };
      bound = λ q e. absurd (no_path q e);
      is_in = null;
      real = tt;
      path = λ q e. absurd (no_path q e);
      held = λ y m e. absurd (no_path y.var.path e);
    }

-- ---- variables have paths of their own

-- variables with one path are one
pub own_variable : (xs : List Variable) → OwnPaths (declared_vars xs) → (x y : Variable) → Among xs x → Among xs y
    → x.var.path ≡ y.var.path → x ≡ y
own_variable _ own x _ first first e = refl
own_variable _ own x y first (later m) e = absurd (own.1 y.var (declared_among _ y m) (sym e))
own_variable _ own x y (later m) first e = absurd (own.1 x.var (declared_among _ x m) e)
own_variable _ own x y (later m) (later n) e = own_variable _ own.0 x y m n e

-- and none has that of `this`
not_this_variable : (xs : List Variable) → OwnPaths (declared_vars xs) → (x : Variable) → Among xs x
    → x.var.path ≡ 0 → ⊥
not_this_variable _ own _ first e = own.2 e
not_this_variable _ own x (later m) e = not_this_variable _ own.0 x m e

-- ---- path expressions

-- a view is in the atom of its own path
pub own_type : (p : Program) (v : Views) (s : Scope) (q : ℕ) (V : Path) → v q ≡ Some V → InType p v (path_type s q) V
own_type p v s q V e x first = record {
  seen = subst (λ (o : Option Path). IsSome o) (sym e) refl;
  inside = record { exact = sym at; super = subst (λ (W : Path). Sup p V W) (sym at) itself };
} where
  at : view_at v q ≡ V
  at = ap (λ (o : Option Path). unwrap_or o []) e
own_type p v s q V e x (later a) = elim a [ ]

pub this_operand : {p : Program} {h : Heap} {g : Frame} {w : Views} {vs : List Var} {s : Scope}
    → InScope p h g w vs s → TypeFits s (path_type s 0)
    → OperandFits p g.vars h s (all_views g w) (opd (path_type s 0) (Some 0)) g.this
this_operand {p} {h} {g} {w} {vs} {s} n t = record {
  fits = t;
  bound =
      λ q e. subst (Binds s) (same_path_of 0 q e)
      (n.respects.bound 0 (subst (λ (o : Option Path). IsSome o) (sym view) refl));
  is_in = subst (λ (x : Value). IsIn p (all_views g w) h (path_type s 0) x) (sym n.this.is)
      (object (own_type p (all_views g w) s 0 n.this.view view) (λ f has free. n.this.filled f has));
  real = subst (IsReal p h) (sym n.this.is) n.this.real;
  path = λ q e. subst (λ (r : ℕ). all_views g w r ≡ view_in g.this) (same_path_of 0 q e) refl;
  held = λ y m e. absurd (not_this_variable g.vars (subst OwnPaths (sym n.declared) n.own) y m
      (sym (same_path_of 0 y.var.path e)));
} where
  view : all_views g w 0 ≡ Some n.this.view
  view = ap view_in n.this.is

-- ---- values of a class type

-- null, or a reference with its view
pub data ObjectIs (p : Program) (h : Heap) (v : Views) (t : Ty) : Value → Type 0 where
  null_is : ObjectIs p h v t Null
  object_is : {o : ℕ} {V : Path} → InType p v t V
      → FieldsFilled p (mask_names p) (HasValue p h o V) (masks_of t) V → ObjectIs p h v t (Reference o V)

pub has_atoms : {s : Scope} {T : Path → Type 0} {B : Path} (t : Ty) (xs : List Atom) → FirstWith s T xs B
    → xs ≡ atoms_in t → is_class t ≡ true
has_atoms (ty.Class xs m) ys w e = refl
has_atoms ty.Int _ (first_with a b) e = cc
has_atoms ty.Int _ (later_with a b) e = cc
has_atoms ty.Bool _ (first_with a b) e = cc
has_atoms ty.Bool _ (later_with a b) e = cc
has_atoms ty.Null _ (first_with a b) e = cc
has_atoms ty.Null _ (later_with a b) e = cc
has_atoms ty.Void _ (first_with a b) e = cc
has_atoms ty.Void _ (later_with a b) e = cc

pub object_value : (p : Program) (h : Heap) (v : Views) (t : Ty) (x : Value) → is_class t ≡ true
    → IsIn p v h t x → ObjectIs p h v t x
object_value p h v _ _ c number = absurd (no c) where
  no : false ≡ true → ⊥
  no e = cc
object_value p h v _ _ c truth = absurd (no c) where
  no : false ≡ true → ⊥
  no e = cc
object_value p h v _ _ c null = absurd (no c) where
  no : false ≡ true → ⊥
  no e = cc
object_value p h v _ _ c no_object = null_is
object_value p h v _ _ c (object i f) = object_is i f

-- ---- Get

pub the_value : {A : Type 0} (o : Option A) → IsSome o → (a : A) × (o ≡ Some a)
the_value (Some a) s = (a, refl)
the_value {A} None s = absurd (no s) where
  no : IsSome (option_map (λ (x : A). x) None) → ⊥
  no e = cc

-- a field's type at the view of a path, by the views of the scope
pub field_in : {p : Program} {h : Heap} {s : Scope} {v : Views} → Laws p → BindsFit s → Respects p v s
    → (V : Path) (f : Name) (t : Ty) (q : ℕ) (w : Value) → v q ≡ Some V
    → FieldType p V f t → IsIn p (this_viewed V) h t w → IsIn p v h (subst_type s (swapped (0 ∷ []) (q ∷ [])) t) w
field_in {p} {h} {s} {v} n b r V f t q w e d i =
    (values_subst r (mask_names p) (HasValue p h) to t (subst_type s to t) w (λ x a. seen x.anchor (path x a))
    ((type_subst_is s to t (subst_type s to t)).1 refl)).0
    (value_same p (this_viewed V) (after to v) h t w
    (agree_in (this_viewed V) (after to v) t (λ x a. agree x.anchor (path x a))) i) where
      to : ℕ → ℕ
      to = swapped (0 ∷ []) (q ∷ [])

      path : (x : Atom) → Among (atoms_in t) x → (r k : ℕ) → x.anchor ≡ Up r k → r ≡ 0
      path x a r k g = n.field_paths V f t x r k d a g

      agree : (a : Anchor) → ((r k : ℕ) → a ≡ Up r k → r ≡ 0) → Agree (this_viewed V) (after to v) a
      agree Root g = tt
      agree (Up r k) g = subst (λ (z : ℕ). this_viewed V z ≡ after to v z) (sym (g r k refl)) (sym e)

      seen : (a : Anchor) → ((r k : ℕ) → a ≡ Up r k → r ≡ 0) → AnchorSeen (after to v) a
      seen Root g = tt
      seen (Up r k) g =
          subst (λ (z : ℕ). IsSome (after to v z)) (sym (g r k refl))
          (subst (λ (o : Option Path). IsSome o) (sym e) refl)

pub read_real : (p : Program) (h : Heap) (V : Path) (t : Ty) (x w : Value) → ReadAs p V t x w → IsReal p h x
    → IsReal p h w
read_real p h V t _ _ (read_itself n) r = r
read_real p h V t _ _ (read_plain e) r = r
read_real p h V t _ _ (turned {U = U} {W = W} Y a b c) r =
    record { object = r.object; at = r.at; related = (sharing_laws p).joined r.object.made U W r.related c.related }

-- what is read fits, where each value that it may give does
read_safe : {p : Program} {h : Heap} {f : Frame} (V : Path) (t : Ty) (x : Value) (go : Value → Way)
    → Surely ((w : Value) × ReadAs p V t x w)
    → ((w : Value) → ReadAs p V t x w → Safe p h f (go w)) → Safe p h f (on_read p V t x go)
read_safe V t (Number z) go there each = each (Number z) (read_plain refl)
read_safe V t (Truth b) go there each = each (Truth b) (read_plain refl)
read_safe V t Null go there each = each Null (read_plain refl)
read_safe {p} {h} {f} V t (Reference o U) go there each =
    safe_either (λ n. each (Reference o U) (read_itself n)) (λ a. safe_by there (λ w. at w.0 w.1 a)) where
      no : Some U ≡ None → ⊥
      no e = cc

      one_view : (Y : Name) (W X : Path) → Counterpart p Y U W → Counterpart p Y U X → X ≡ W
      one_view Y W X a b = b.is ∙ sym a.is

      at : (w : Value) → ReadAs p V t (Reference o U) w → HangsOnThis t
          → Safe p h f (OnSome (family_of V) missing (λ Y. on_viewed p Y (Reference o U) go))
      at _ (read_itself n) a = absurd (n a)
      at _ (read_plain e) a = absurd (no e)
      at _ (turned {W = W} Y a b c) k =
          safe_some (family_of V) missing (λ (Z : Name). on_viewed p Z (Reference o U) go) Y b
          (safe_only (surely (W, c)) (λ A B i j. one_view Y A B i j) (λ X i. each (Reference o X) (turned Y k b i)))

pub not_stuck_at_null : NotStuck AtNull
not_stuck_at_null w e = cc
