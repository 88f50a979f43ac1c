-- The kinds of what stands for the own act of each form, from the rows of the image and what the places say.
use Rattle.std.specs.Prelude.{◌≡◌, ◌≤◌, ◌<◌, ℕ, suc, ◌+◌, ℤ, List, [], ◌∷◌, ◌++◌, length, map, reverse, Bool, true, false, Some}
use Rattle.jn_base.specs.declared.tree.Name.{Name}
use Rattle.jn_base.specs.declared.tree.Op.{Op}
use Rattle.jn_base.specs.declared.tree.Op.TheVariants as op
use Rattle.jn_base.specs.declared.tree.Program.{Program}
use Rattle.jn_base.specs.declared.types.Ty.{Ty}
use Rattle.jn_base.specs.Atoms.{Atom}
use Rattle.jn_code.specs.declared.kind.OperandKind.{OperandKind}
use Rattle.jn_code.specs.declared.kind.OperandKind.TheVariants as kind
use Rattle.jn_code.specs.declared.instr.Instr.{Instr}
use Rattle.jn_code.specs.declared.instr.Instr.TheVariants as ins
use Rattle.jn_code.specs.declared.image.Image.{Image}
use Rattle.jn_code.specs.declared.image.Code.{Code}
use Rattle.jn_code.specs.declared.image.Shape.{Shape}
use Rattle.jn_code.specs.Kinds.{kind_of, result_kind, local_kind, list_of}
use Rattle.jn_agree.specs.Naming.{Naming}
use Rattle.jn_agree.specs.Rows.{RowsAre, kind_of_type}
use Rattle.jn_agree.specs.Spans.{Spans}
use Rattle.jn_agree.specs.Places.{At, Run, bit, dropping, ClassCode, FieldOf, MethodOf, operator, Strict, deciding, decided_by, HasKind, binding}
use Rattle.jn_span_laws.specs.LawsOfForms.{AnchorRefers}

-- ---- kinds

-- what a call leaves: the value of its result, where that is kept and there is one
abbrev pub left_of : (keeps : Bool) → (result : ℕ) → List OperandKind
left_of true k = list_of (result_kind k)
left_of false k = []

-- the arguments of a selector's shape, the latest first
abbrev pub arguments : Shape → List OperandKind
arguments s = reverse (map kind_of s.params)

-- both operands of `==` and `!=` are of the kind by which it is chosen; all other operators take numbers
abbrev pub operand_kind : Op → ℕ → OperandKind
operand_kind op.Add k = kind.Int
operand_kind op.Sub k = kind.Int
operand_kind op.Mul k = kind.Int
operand_kind op.Div k = kind.Int
operand_kind op.Rem k = kind.Int
operand_kind op.Lt k = kind.Int
operand_kind op.Le k = kind.Int
operand_kind op.Gt k = kind.Int
operand_kind op.Ge k = kind.Int
operand_kind op.Eq k = kind_of k
operand_kind op.Ne k = kind_of k
operand_kind op.And k = kind.Bool
operand_kind op.Or k = kind.Bool

abbrev pub answer_kind : Op → OperandKind
answer_kind op.Add = kind.Int
answer_kind op.Sub = kind.Int
answer_kind op.Mul = kind.Int
answer_kind op.Div = kind.Int
answer_kind op.Rem = kind.Int
answer_kind op.Lt = kind.Bool
answer_kind op.Le = kind.Bool
answer_kind op.Gt = kind.Bool
answer_kind op.Ge = kind.Bool
answer_kind op.Eq = kind.Bool
answer_kind op.Ne = kind.Bool
answer_kind op.And = kind.Bool
answer_kind op.Or = kind.Bool

-- parts one behind the other, each of which leaves one value on those before it
pub data InTurn (i : Image) (c : Code) : (values before : List OperandKind) → ℕ → ℕ → Type 0 where
  none : (ks : List OperandKind) (s t : ℕ) → t ≡ s → InTurn i c [] ks s t
  one : (k : OperandKind) (vs ks : List OperandKind) (s m t : ℕ) → Spans i c s m ks (k ∷ ks)
      → InTurn i c vs (k ∷ ks) m t → InTurn i c (k ∷ vs) ks s t

-- ---- the law

module _ (p : Program) (i : Image) (n : Naming) (c : Code) where
  abbrev Part : ℕ → ℕ → List OperandKind → List OperandKind → Type 0
  Part s e ks ls = Spans i c s e ks ls

  -- (`ks` are the operands below)
  pub record NodesOf : Type 0 where
    -- literals, `this` and variables
    pub number : (z : ℤ) (s e : ℕ) (ks : List OperandKind) → Run c.instrs (ins.Int z ∷ []) s e
        → suc (length ks) ≤ c.stack → Part s e ks (kind.Int ∷ ks)
    pub truth : (b : Bool) (s e : ℕ) (ks : List OperandKind) → Run c.instrs (ins.Bool (bit b) ∷ []) s e
        → suc (length ks) ≤ c.stack → Part s e ks (kind.Bool ∷ ks)
    pub null : (s e : ℕ) (ks : List OperandKind) → Run c.instrs (ins.Null ∷ []) s e → suc (length ks) ≤ c.stack
        → Part s e ks (kind.Reference ∷ ks)
    pub read : (q k s e : ℕ) (ks : List OperandKind) → HasKind c q k → Run c.instrs (ins.Load q ∷ []) s e
        → suc (length ks) ≤ c.stack → Part s e ks (kind_of k ∷ ks)
    -- operators
    pub invert : (s e : ℕ) (ks : List OperandKind) → Run c.instrs (ins.Not ∷ []) s e → suc (length ks) ≤ c.stack
        → Part s e (kind.Bool ∷ ks) (kind.Bool ∷ ks)
    pub negate : (s e : ℕ) (ks : List OperandKind) → Run c.instrs (ins.Neg ∷ []) s e → suc (length ks) ≤ c.stack
        → Part s e (kind.Int ∷ ks) (kind.Int ∷ ks)
    pub operate : (o : Op) (k s e : ℕ) (ks : List OperandKind) → Strict o → Run c.instrs (operator o k) s e
        → suc (length ks) ≤ c.stack → Part s e (operand_kind o k ∷ operand_kind o k ∷ ks) (answer_kind o ∷ ks)
    -- `&&` and `||` behind their left operand, from the part of the right one
    pub decide : (and : Bool) (s m u : ℕ) (ks : List OperandKind) → At c.instrs s (deciding and (m + 1))
        → Part (s + 1) m ks (kind.Bool ∷ ks) → At c.instrs m (ins.Jump u) → Run c.instrs (decided_by and ∷ []) (m + 1) u
        → u < length c.instrs → suc (length ks) ≤ c.stack → Part s u (kind.Bool ∷ ks) (kind.Bool ∷ ks)
    -- fields
    pub get : (f : Name) (j k s e : ℕ) (ks : List OperandKind) → FieldOf n f j k → Run c.instrs (ins.Get j ∷ []) s e
        → suc (length ks) ≤ c.stack → Part s e (kind.Reference ∷ ks) (kind_of k ∷ ks)
    pub put : (f : Name) (j k s e : ℕ) (ks : List OperandKind) → FieldOf n f j k → Run c.instrs (ins.Put j ∷ []) s e
        → length ks ≤ c.stack → Part s e (kind_of k ∷ kind.Reference ∷ ks) ks
    -- arguments, the latest first
    pub arguments_had : (vs ks : List OperandKind) (s t : ℕ) → InTurn i c vs ks s t → Part s t ks (reverse vs ++ ks)
    -- calls
    pub call : (m : Name) (j : ℕ) (shape : Shape) (keeps : Bool) (s e : ℕ) (ks : List OperandKind)
        → MethodOf n m j shape
        → Run c.instrs (ins.Call j ∷ dropping keeps shape.result) s e → suc (length ks) ≤ c.stack
        → Part s e (arguments shape ++ kind.Reference ∷ ks) (left_of keeps shape.result ++ ks)
    pub super : (m : Name) (k j : ℕ) (shape : Shape) (keeps : Bool) (s e : ℕ) (ks : List OperandKind)
        → k < length i.classes → MethodOf n m j shape
        → Run c.instrs (ins.Cls k ∷ ins.Callat j ∷ dropping keeps shape.result) s e
        → suc (length (arguments shape ++ kind.Reference ∷ ks)) ≤ c.stack
        → Part s e (arguments shape ++ kind.Reference ∷ ks) (left_of keeps shape.result ++ ks)
    pub bare_super : (m : Name) (k j : ℕ) (shape : Shape) (keeps : Bool) (s e : ℕ) (ks : List OperandKind)
        → k < length i.classes → MethodOf n m j shape → length shape.params ≡ 0
        → local_kind c 0 ≡ Some kind.Reference
        → Run c.instrs (ins.Load 0 ∷ ins.Cls k ∷ ins.Callat j ∷ dropping keeps shape.result) s e
        → suc (suc (length ks)) ≤ c.stack → Part s e ks (left_of keeps shape.result ++ ks)
    -- views and new objects
    pub view : (x : Atom) (cls : List Instr) (s e : ℕ) (ks : List OperandKind) → length n.classes ≤ length i.classes
        → AnchorRefers c x → ClassCode n x cls → Run c.instrs (cls ++ ins.Conv ∷ []) s e
        → suc (suc (length ks)) ≤ c.stack → Part s e (kind.Reference ∷ ks) (kind.Reference ∷ ks)
    pub make : (x : Atom) (C : Name) (j : ℕ) (shape : Shape) (cls : List Instr) (keeps : Bool) (s e : ℕ)
        (ks : List OperandKind) → length n.classes ≤ length i.classes → AnchorRefers c x → ClassCode n x cls
        → MethodOf n C j shape → Run c.instrs (cls ++ ins.New ∷ (ins.Ctor j ∷ dropping keeps 3)) s e
        → suc (length (arguments shape ++ ks)) ≤ c.stack → suc (length ks) ≤ c.stack
        → Part s e (arguments shape ++ ks) (left_of keeps 3 ++ ks)
    pub make_bare : (x : Atom) (cls : List Instr) (keeps : Bool) (s e : ℕ) (ks : List OperandKind)
        → length n.classes ≤ length i.classes → AnchorRefers c x → ClassCode n x cls
        → Run c.instrs (cls ++ ins.New ∷ dropping keeps 3) s e → suc (length ks) ≤ c.stack
        → Part s e ks (left_of keeps 3 ++ ks)
    -- statements
    pub bind : (scratch : ℕ) (final : Bool) (t : Ty) (q s e : ℕ) → HasKind c q (kind_of_type t)
        → Run c.instrs (binding p n scratch c final t q) s e → 1 ≤ c.stack
        → Part s e (kind_of (kind_of_type t) ∷ []) []
    pub assign : (q k s e : ℕ) → HasKind c q k → Run c.instrs (ins.Store q ∷ []) s e → Part s e (kind_of k ∷ []) []
    pub print_number : (s e : ℕ) → Run c.instrs (ins.Printi ∷ []) s e → Part s e (kind.Int ∷ []) []
    pub print_truth : (s e : ℕ) → Run c.instrs (ins.Printb ∷ []) s e → Part s e (kind.Bool ∷ []) []
    pub print_text : (k s e : ℕ) → k < length i.texts → Run c.instrs (ins.Printt k ∷ []) s e → Part s e [] []
    pub return_value : (k : OperandKind) (s e : ℕ) → result_kind c.result ≡ Some k → Run c.instrs (ins.Retv ∷ []) s e
        → Part s e (k ∷ []) []
    pub return_none : (s e : ℕ) → c.result ≡ 0 → Run c.instrs (ins.Ret ∷ []) s e → Part s e [] []

-- THE INSTRUCTIONS OF EACH FORM'S OWN ACT ARE A PART WITH KINDS, in an image with a program's rows: from the operands
-- that it asks for to the value that it leaves.
abbrev pub NodesSpan : Type 0
NodesSpan = (p : Program) (i : Image) (n : Naming) (c : Code) → RowsAre p i n → NodesOf p i n c

-- Example: in `x + 1` the two instructions LOAD and INT are parts that leave a number each, and ADD takes two numbers
-- and leaves one.
