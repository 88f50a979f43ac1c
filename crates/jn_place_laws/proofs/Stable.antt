-- What can't fail to be so, and can be told by looking, is so.
use Rattle.std.proofs.Common.{◌≡◌, ℕ, List, [], ◌∷◌, Bool, true, false, refl, sym, ap, ◌∙◌, subst, eqb-true, eq-eqb, ◌⊎◌, inl, inr}
use Rattle.std.specs.Prelude.{nat_eq}
use Rattle.jn_base.specs.declared.types.Anchor.{Anchor}
use Rattle.jn_base.specs.declared.types.Anchor.TheVariants.{Root, Up}
use Rattle.jn_base.specs.declared.types.Ty.{Ty}
use Rattle.jn_base.specs.declared.types.Ty.TheVariants as ty
use Rattle.jn_base.specs.Paths.{Path}
use Rattle.jn_base.specs.Atoms.{Atom, atoms_in, Among, first, later}
use Rattle.jn_sem.specs.Sharing.{HangsOnThis}
use Rattle.jn_sem.specs.Values.{Value, Number, Truth, Null, Reference}
use Rattle.jn_laws.specs.Surely.{Surely}
use Rattle.jn_sound.proofs.Ways.{surely, and_so}
use Rattle.jn_agree.specs.Rows.{FieldKind, plain, hanging, kind_of_type}
use Rattle.jn_node_laws.specs.Facts.{OfKind}

pub sure_nat : (a b : ℕ) → Surely (a ≡ b) → a ≡ b
sure_nat a b s = at (nat_eq a b) refl where
  wrong : true ≡ false → ⊥
  wrong e = cc

  at : (t : Bool) → nat_eq a b ≡ t → a ≡ b
  at true e = eqb-true a b e
  at false e = absurd (s (λ i. wrong (sym (eq-eqb a b i) ∙ e)))

longer : (x : ℕ) (xs : List ℕ) → [] ≡ x ∷ xs → ⊥
longer x xs e = cc

shorter : (x : ℕ) (xs : List ℕ) → x ∷ xs ≡ [] → ⊥
shorter x xs e = cc

parts : (x y : ℕ) (xs ys : List ℕ) → x ∷ xs ≡ y ∷ ys → (x ≡ y) × (xs ≡ ys)
parts x y xs ys e = (cc, cc)

pub sure_nats : (xs ys : List ℕ) → Surely (xs ≡ ys) → xs ≡ ys
sure_nats [] [] s = refl
sure_nats [] (y ∷ ys) s = absurd (s (λ e. longer y ys e))
sure_nats (x ∷ xs) [] s = absurd (s (λ e. shorter x xs e))
sure_nats (x ∷ xs) (y ∷ ys) s =
    let a : x ≡ y = sure_nat x y (and_so s (λ e. surely (parts x y xs ys e).0)) in
    let b : xs ≡ ys = sure_nats xs ys (and_so s (λ e. surely (parts x y xs ys e).1)) in
    cc (a, b)

-- ---- a value of a type's kind

pub sure_kind : (t : Ty) (v : Value) → Surely (OfKind t v) → OfKind t v
sure_kind ty.Int (Number z) s = tt
sure_kind ty.Int (Truth z) s = s (λ e. e)
sure_kind ty.Int Null s = s (λ e. e)
sure_kind ty.Int (Reference o V) s = s (λ e. e)
sure_kind ty.Bool (Truth z) s = tt
sure_kind ty.Bool (Number z) s = s (λ e. e)
sure_kind ty.Bool Null s = s (λ e. e)
sure_kind ty.Bool (Reference o V) s = s (λ e. e)
sure_kind ty.Null Null s = tt
sure_kind ty.Null (Number z) s = s (λ e. e)
sure_kind ty.Null (Truth z) s = s (λ e. e)
sure_kind ty.Null (Reference o V) s = s (λ e. e)
sure_kind ty.Void (Number z) s = s (λ e. e)
sure_kind ty.Void (Truth z) s = s (λ e. e)
sure_kind ty.Void Null s = s (λ e. e)
sure_kind ty.Void (Reference o V) s = s (λ e. e)
sure_kind (ty.Class xs m) Null s = tt
sure_kind (ty.Class xs m) (Reference o V) s = tt
sure_kind (ty.Class xs m) (Number z) s = s (λ e. e)
sure_kind (ty.Class xs m) (Truth z) s = s (λ e. e)

-- ---- `this` is a reference

pub sure_reference : (v : Value) → Surely ((o : ℕ) × (V : Path) × (v ≡ Reference o V)) → (o : ℕ) × (V : Path) ×
    (v ≡ Reference o V)
sure_reference (Reference o V) s = (o, V, refl)
sure_reference (Number z) s = absurd (s (λ e. no e.0 e.1 e.2)) where
  no : (o : ℕ) (V : Path) → Number z ≡ Reference o V → ⊥
  no o V e = cc
sure_reference (Truth b) s = absurd (s (λ e. no e.0 e.1 e.2)) where
  no : (o : ℕ) (V : Path) → Truth b ≡ Reference o V → ⊥
  no o V e = cc
sure_reference Null s = absurd (s (λ e. no e.0 e.1 e.2)) where
  no : (o : ℕ) (V : Path) → Null ≡ Reference o V → ⊥
  no o V e = cc

-- ---- the kind of a field

record Hanging (xs : List Atom) : Type 0 where
  atom : Atom
  among : Among xs atom
  levels : ℕ
  anchor : atom.anchor ≡ Up 0 levels

-- an atom that hangs on `this`, or there is none
some_hangs : (xs : List Atom) → Hanging xs ⊎ (Hanging xs → ⊥)
some_hangs [] = inr (λ h. elim h.among [ ])
some_hangs (x ∷ xs) = at x.anchor refl (some_hangs xs) where
  back : (y : Atom) (k : ℕ) → Among (x ∷ xs) y → y.anchor ≡ Up 0 k → (x.anchor ≡ Up 0 k → ⊥) → (Hanging xs → ⊥) → ⊥
  back _ k first e here behind = here e
  back y k (later m) e here behind =
      behind (record { atom = y; among = m; levels = k; anchor = e })

  root : (k : ℕ) → Root ≡ Up 0 k → ⊥
  root k e = cc

  other : (q k l : ℕ) → Up q k ≡ Up 0 l → q ≡ 0
  other q k l e = cc

  behind : Hanging xs → Hanging (x ∷ xs)
  behind h = record { atom = h.atom; among = later h.among; levels = h.levels; anchor = h.anchor }

  at : (a : Anchor) → x.anchor ≡ a → Hanging xs ⊎ (Hanging xs → ⊥) → Hanging (x ∷ xs) ⊎ (Hanging (x ∷ xs) → ⊥)
  at a e (inl h) = inl (behind h)
  at Root e (inr n) = inr (λ h. back h.atom h.levels h.among h.anchor (λ i. root h.levels (sym e ∙ i)) n)
  at (Up q k) e (inr n) = on (nat_eq q 0) refl where
    wrong : true ≡ false → ⊥
    wrong i = cc

    on : (b : Bool) → nat_eq q 0 ≡ b → Hanging (x ∷ xs) ⊎ (Hanging (x ∷ xs) → ⊥)
    on true i = inl (record {
      atom = x;
      among = first;
      levels = k;
      anchor = e ∙ ap (λ (r : ℕ). Up r k) (eqb-true q 0 i);
    })
    on false i = inr (λ h. back h.atom h.levels h.among h.anchor
        (λ j. wrong (sym (eq-eqb q 0 (other q k h.levels (sym e ∙ j))) ∙ i)) n)

sure_hangs : (t : Ty) → Surely (HangsOnThis t) → HangsOnThis t
sure_hangs t s = at (some_hangs (atoms_in t)) where
  at : Hanging (atoms_in t) ⊎ (Hanging (atoms_in t) → ⊥) → HangsOnThis t
  at (inl h) = record { atom = h.atom; among = h.among; levels = h.levels; anchor = h.anchor }
  at (inr n) = absurd (s (λ h. n (record {
    atom = h.atom;
    among = h.among;
    levels = h.levels;
    anchor = h.anchor;
  })))

-- a type that can't fail to be another has its kind as a field
pub kind_same : (t u : Ty) (k : ℕ) → FieldKind u k → Surely (t ≡ u) → FieldKind t k
kind_same t u k (plain n e) s =
    plain (λ h. s (λ i. n (subst HangsOnThis i h)))
    (sure_nat k (kind_of_type t) (and_so s (λ i. surely (e ∙ ap kind_of_type (sym i)))))
kind_same t u k (hanging h e) s = hanging (sure_hangs t (and_so s (λ i. surely (subst HangsOnThis (sym i) h)))) e
