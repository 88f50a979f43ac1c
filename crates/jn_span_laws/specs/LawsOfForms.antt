-- The kinds of the parts of each form: of single instructions, of classes, of `super`, `if`, `while`, returns, and of a
-- whole body.
use Rattle.std.specs.Prelude.{◌≡◌, ◌≤◌, ◌<◌, ℕ, suc, ◌+◌, List, [], ◌∷◌, length, true, false, None, Some}
use Rattle.jn_base.specs.declared.names.Var.{Var}
use Rattle.jn_base.specs.declared.types.Anchor.TheVariants.{Up}
use Rattle.jn_base.specs.Atoms.{Atom, Among}
use Rattle.jn_code.specs.declared.kind.OperandKind.{OperandKind}
use Rattle.jn_code.specs.declared.kind.OperandKind.TheVariants as kind
use Rattle.jn_code.specs.declared.instr.Instr.{Instr}
use Rattle.jn_code.specs.declared.instr.Instr.TheVariants as ins
use Rattle.jn_code.specs.declared.image.Image.{Image}
use Rattle.jn_code.specs.declared.image.Code.{Code}
use Rattle.jn_code.specs.Kinds.{after_it, target_of, goes_on, local_kind}
use Rattle.jn_code.specs.Known.{SuitsKinds}
use Rattle.jn_agree.specs.Follows.{is_tested}
use Rattle.jn_agree.specs.Naming.{Naming}
use Rattle.jn_agree.specs.Spans.{Spans}
use Rattle.jn_agree.specs.Places.{At, Run, ClassCode, tuck, tests, last_return}
use Rattle.jn_span_laws.specs.LawsOfSpans.{Passes}

-- where an atom hangs on a path, its local is a reference
abbrev pub AnchorRefers : Code → Atom → Type 0
AnchorRefers c x = (q k : ℕ) → x.anchor ≡ Up q k → local_kind c q ≡ Some kind.Reference

-- each parameter that is tested is a reference
abbrev pub TestedRefer : Code → List Var → Type 0
TestedRefer c vars = (x : Var) → Among vars x → is_tested x ≡ true → local_kind c x.path ≡ Some kind.Reference

pub record FormsOf (i : Image) (c : Code) : Type 0 where
  -- nothing
  pub none : (s : ℕ) (ks : List OperandKind) → Spans i c s s ks ks
  -- an instruction that neither jumps nor ends the code, with the kinds that it asks for
  pub one : (s : ℕ) (x : Instr) (ks : List OperandKind) → At c.instrs s x → target_of x ≡ None → goes_on x ≡ true
      → SuitsKinds i c x ks → Spans i c s (s + 1) ks (after_it i c x ks)
  -- the class of an atom
  pub class : (n : Naming) (x : Atom) (xs : List Instr) (s e : ℕ) (ks : List OperandKind)
      → length n.classes ≤ length i.classes → AnchorRefers c x → ClassCode n x xs → Run c.instrs xs s e →
      suc (length ks) ≤ c.stack → Spans i c s e ks (kind.Class ∷ ks)
  -- `this` comes below the first argument of `super`
  pub tucked : (q s e : ℕ) (k : OperandKind) (ks : List OperandKind) → local_kind c q ≡ Some k
      → local_kind c 0 ≡ Some kind.Reference → Run c.instrs (tuck q) s e → suc (suc (length ks)) ≤ c.stack
      → Spans i c s e (k ∷ ks) (k ∷ (kind.Reference ∷ ks))
  -- `if`, from its condition and its two blocks
  pub chosen : (s m o u : ℕ) → Spans i c s m [] (kind.Bool ∷ []) → At c.instrs m (ins.Jfalse (o + 1))
      → Spans i c (m + 1) o [] [] → At c.instrs o (ins.Jump u) → Spans i c (o + 1) u [] [] → u < length c.instrs
      → Spans i c s u [] []
  -- `while`, from its condition and its block
  pub repeated : (s m o : ℕ) → Spans i c s m [] (kind.Bool ∷ []) → At c.instrs m (ins.Jfalse (o + 1))
      → Spans i c (m + 1) o [] [] → At c.instrs o (ins.Jump s) → o + 1 < length c.instrs → Spans i c s (o + 1) [] []
  -- a return: nothing is known behind it
  pub returns : (s : ℕ) (x : Instr) (ks : List OperandKind) → At c.instrs s x → target_of x ≡ None
      → goes_on x ≡ false → SuitsKinds i c x ks → Spans i c s (s + 1) ks []
  -- the tests of final parameters
  pub tested : (vars : List Var) (s e : ℕ) → TestedRefer c vars → Run c.instrs (tests vars) s e → 1 ≤ c.stack
      → Spans i c s e [] []
  -- A whole body, from its statements: the pass over its code ends and has found no fault.
  pub body : (vars : List Var) (first last : ℕ) → TestedRefer c vars → Run c.instrs (tests vars) 0 first
      → Spans i c first last [] [] → Run c.instrs (last_return c.result) last (length c.instrs) → 1 ≤ c.stack
      → Passes i c

abbrev pub FormsSpan : Type 0
FormsSpan = (i : Image) (c : Code) → FormsOf i c

-- Example: `if (b) { x = 1; }` is LOAD, JFALSE t, INT 1, STORE, JUMP t: from no operands to none, where its condition
-- is a part from none to a truth value and its block one from none to none.
