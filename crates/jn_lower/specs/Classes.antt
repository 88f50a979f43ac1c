-- The codes of classes, by the atoms that name them.
use Rattle.std.specs.Prelude.{◌≡◌, ◌++◌, ℕ, List, [], ◌∷◌, map}
use Rattle.jn_base.specs.declared.tree.Name.{Name}
use Rattle.jn_base.specs.declared.types.Atom.{Atom as ShownAtom}
use Rattle.jn_base.specs.Atoms.{Atom}
use Rattle.jn_base.specs.Paths.{shown}
use Rattle.jn_table.specs.declared.table.Table.{Table}
use Rattle.jn_code.specs.declared.instr.Instr.{Instr}
use Rattle.jn_code.specs.declared.instr.Instr.TheVariants as ins
use Rattle.jn_agree.specs.Naming.{Naming}
use Rattle.jn_agree.specs.Places.{up_by, ClassCode}
use Rattle.jn_lower.specs.declared.emitter.Emitter.{Emitter}
use Rattle.jn_lower.specs.Emitted.{Adds}

-- DOWN for each name, the outermost first
abbrev pub down_each : List Name → List Instr
down_each [] = []
down_each (C ∷ Cs) = ins.Down C.0 ∷ down_each Cs

-- the class that is found from the view of the local q: without its last k names, and with those of the atom
abbrev pub seen_by : ℕ → ℕ → ShownAtom → List Instr
seen_by q k x = ins.Load q ∷ ins.Viewof ∷ (up_by k ++ (down_each x.exact ++ down_each x.names))

-- the classes have the numbers of the table
abbrev pub AreClassesOf : Table → Naming → Type 0
AreClassesOf t n = t.known.items ≡ map shown n.classes

-- the code of the atom's class is added
pub record AddsClass (n : Naming) (x : Atom) (old new : Emitter) : Type 0 where
  pub cls : List Instr
  pub code : ClassCode n x cls
  pub adds : Adds cls old new

-- Example: where `this` is local 0, the class of `this.class.C` is LOAD 0, VIEWOF and DOWN of C.
