-- What the numbers of an image stand for, and the words of values.
use Rattle.std.specs.Prelude.{◌≡◌, ℕ, ℤ, pos, List, [], ◌∷◌, Some, slice_get}
use Rattle.jn_base.specs.declared.tree.Program.{Program}
use Rattle.jn_base.specs.Paths.{Path}
use Rattle.jn_sem.specs.Sharing.{Related}
use Rattle.jn_code.specs.Machine.{word_of, ref_word}
use Rattle.jn_sem.specs.Values.{Value, Number, Truth, Null, Reference}
use Rattle.jn_sem.specs.Does.{Body}
use Rattle.jn_agree.specs.declared.selectors.MethodSel.{MethodSel}
use Rattle.jn_agree.specs.declared.selectors.FieldSel.{FieldSel}

-- Class k is the k-th path, group g the one whose first class is the g-th here, a selector the one of its number, and
-- code k that of the k-th body.
pub record Naming : Type 0 where
  pub classes : List Path
  pub groups : List Path
  pub methods : List MethodSel
  pub fields : List FieldSel
  pub bodies : List Body

-- The first cell of an object, and the class as which it was made.
pub record First : Type 0 where
  pub cell : ℕ
  pub made : Path

-- The word of a value, where `firsts` is of the objects in the order of their making. A number is its own word, a
-- truth value 0 or 1, null 0, and a reference has the number of its view and the first cell of its object. (So a word
-- stays where objects are added.) The view of a reference is related to the class as which its object was made.
abbrev pub WordIs : Program → Naming → List First → Value → ℤ → Type 0
WordIs p n firsts (Number z) w = w ≡ z
WordIs p n firsts (Truth b) w = w ≡ word_of b
WordIs p n firsts Null w = w ≡ pos 0
WordIs p n firsts (Reference o V) w =
    (k : ℕ) × (x : First) × (slice_get n.classes k ≡ Some V) × (slice_get firsts o ≡ Some x) × Related p x.made V
    × (w ≡ ref_word k x.cell)

-- (a record, so that a search finds its parts)
pub record IsWord (p : Program) (n : Naming) (firsts : List First) (v : Value) (w : ℤ) : Type 0 where
  pub is : WordIs p n firsts v w

-- one for one
abbrev pub WordsAre : Program → Naming → List First → List Value → List ℤ → Type 0
WordsAre p n firsts [] [] = Unit {0}
WordsAre p n firsts [] (w ∷ ws) = ⊥
WordsAre p n firsts (v ∷ vs) [] = ⊥
WordsAre p n firsts (v ∷ vs) (w ∷ ws) = IsWord p n firsts v w × WordsAre p n firsts vs ws

pub record AreWords (p : Program) (n : Naming) (firsts : List First) (vs : List Value) (ws : List ℤ) : Type 0 where
  pub are : WordsAre p n firsts vs ws

-- Example: where class 5 is base.Lit and the third object has its first cell at 9, the word of a reference to that
-- object with the view base.Lit is that of class 5 and cell 9; with the view disp.Lit the class differs and the cell
-- does not.
