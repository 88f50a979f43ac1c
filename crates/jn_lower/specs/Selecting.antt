-- Which number the selector of a method or a field has.
use Rattle.std.specs.Prelude.{◌≡◌, ◌++◌, ℕ, List, [], ◌∷◌, length, Option, Some, None, slice_get}
use Rattle.jn_base.specs.declared.tree.Name.{Name}
use Rattle.jn_base.specs.Atoms.{Atom}
use Rattle.jn_base.specs.Paths.{Path}
use Rattle.jn_code.specs.declared.instr.Instr.{Instr}
use Rattle.jn_code.specs.declared.instr.Instr.TheVariants as ins
use Rattle.jn_code.specs.declared.image.Shape.{Shape}
use Rattle.jn_agree.specs.declared.selectors.MethodSel.{MethodSel}
use Rattle.jn_agree.specs.declared.selectors.FieldSel.{FieldSel}
use Rattle.jn_agree.specs.Naming.{Naming}
use Rattle.jn_agree.specs.Places.{MethodOf, CtorCode}

abbrev pub shape_of : List ℕ → ℕ → Shape
shape_of params result = record { params = params; result = result }

-- The number is that of the thing in the list, and there is none exactly where the thing isn't there.
pub record IsNumberOf {A : Type 0} (x : A) (xs : List A) (found : Option ℕ) : Type 0 where
  pub some : (j : ℕ) → found ≡ Some j → slice_get xs j ≡ Some x
  pub none : found ≡ None → (j : ℕ) → slice_get xs j ≡ Some x → ⊥

abbrev pub method_sel : Name → List ℕ → ℕ → MethodSel
method_sel name params result = record { name = name; shape = shape_of params result }

abbrev pub field_sel : Name → ℕ → FieldSel
field_sel name kind = record { name = name; kind = kind }

-- CTOR of the number, and nothing where there is none
abbrev pub made_by : Option ℕ → List Instr
made_by None = []
made_by (Some j) = ins.Ctor j ∷ []

-- the first of the list, none where it is empty
abbrev pub HeadIs : {A : Type 0} → List A → Option A → Type 0
HeadIs {A} xs None = xs ≡ []
HeadIs {A} xs (Some x) = (ys : List A) × (xs ≡ x ∷ ys)

-- the number is that of the constructor's selector, and there is none exactly where no class has such a one
pub record IsCtorOf (n : Naming) (x : Atom) (params : List ℕ) (found : Option ℕ) : Type 0 where
  pub some : (j : ℕ) → found ≡ Some j
      → (C : Name) × (P : Path) × (x.names ++ x.exact ≡ C ∷ P) × MethodOf n C j (shape_of params 0)
  pub none : found ≡ None → (C : Name) (P : Path) (j : ℕ) → x.names ++ x.exact ≡ C ∷ P
      → MethodOf n C j (shape_of params 0) → ⊥

-- What is found is the code of the constructor, if only one without parameters may be missing.
abbrev pub CtorsFound : Type 0
CtorsFound =
    (n : Naming) (x : Atom) (params : List ℕ) (found : Option ℕ) → IsCtorOf n x params found
    → (found ≡ None → params ≡ []) → CtorCode n x (length params) (made_by found)

-- Example: where the third method selector is that of the name A with no parameters and no result, the code of the
-- constructor of `new a.A()` is CTOR 2.
