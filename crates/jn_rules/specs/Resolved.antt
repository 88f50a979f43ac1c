-- What a checked body is known by: the marks of its typing, sorted.
use Rattle.std.specs.Prelude.{◌≡◌, ℕ, List, [], ◌∷◌}
use Rattle.jn_base.specs.declared.path.Path.{Path as ShownPath}
use Rattle.jn_base.specs.declared.tree.Program.{Program}
use Rattle.jn_base.specs.declared.types.Atom.{Atom as ShownAtom}
use Rattle.jn_base.specs.declared.types.ValKind.{ValKind}
use Rattle.jn_base.specs.declared.names.Resolved.{Resolved}
use Rattle.jn_base.specs.Paths.{shown}
use Rattle.jn_sem.specs.Does.{Body}
use Rattle.jn_rules.specs.Plans.{Mark, AtomMark, VarMark, MemberMark, KindMark}
use Rattle.jn_rules.specs.Questions.{Notes}
use Rattle.jn_rules.specs.Stmts.{body_types}

-- the atoms of terms, in source order
abbrev pub atom_marked : List Mark → List ShownAtom
atom_marked [] = []
atom_marked (AtomMark a ∷ ms) = a ∷ atom_marked ms
atom_marked (VarMark n ∷ ms) = atom_marked ms
atom_marked (MemberMark R ∷ ms) = atom_marked ms
atom_marked (KindMark k ∷ ms) = atom_marked ms

-- the numbers of variables, in source order: where one is declared, assigned or read
abbrev pub var_marked : List Mark → List ℕ
var_marked [] = []
var_marked (AtomMark a ∷ ms) = var_marked ms
var_marked (VarMark n ∷ ms) = n ∷ var_marked ms
var_marked (MemberMark R ∷ ms) = var_marked ms
var_marked (KindMark k ∷ ms) = var_marked ms

-- the classes that declare the fields, methods and constructors that are used, in source order
abbrev pub member_marked : List Mark → List ShownPath
member_marked [] = []
member_marked (AtomMark a ∷ ms) = member_marked ms
member_marked (VarMark n ∷ ms) = member_marked ms
member_marked (MemberMark R ∷ ms) = shown R ∷ member_marked ms
member_marked (KindMark k ∷ ms) = member_marked ms

-- the kinds of values, in order of evaluation
abbrev pub kind_marked : List Mark → List ValKind
kind_marked [] = []
kind_marked (AtomMark a ∷ ms) = kind_marked ms
kind_marked (VarMark n ∷ ms) = kind_marked ms
kind_marked (MemberMark R ∷ ms) = kind_marked ms
kind_marked (KindMark k ∷ ms) = k ∷ kind_marked ms

-- these marks, sorted
pub record AreSorted (marks : List Mark) (r : Resolved) : Type 0 where
  pub terms : r.terms ≡ atom_marked marks
  pub vars : r.vars ≡ var_marked marks
  pub members : r.members ≡ member_marked marks
  pub kinds : r.kinds ≡ kind_marked marks

-- r is what is known of the body
pub record IsResolved (p : Program) (b : Body) (r : Resolved) : Type 0 where
  pub class : r.class ≡ shown b.class
  pub method : r.method ≡ b.method.name.name
  pub marks : List Mark
  pub noted : Notes p (body_types b) marks tt
  pub sorted : AreSorted marks r
