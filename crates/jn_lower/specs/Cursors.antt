-- What is left of the marks of a body while it is lowered.
use Rattle.std.specs.Prelude.{◌≡◌, ℕ, List, ◌∷◌, ◌++◌, length}
use Rattle.jn_base.specs.declared.path.Path.{Path as ShownPath}
use Rattle.jn_base.specs.declared.types.Atom.{Atom as ShownAtom}
use Rattle.jn_base.specs.declared.types.ValKind.{ValKind}
use Rattle.jn_rules.specs.Plans.{Mark}
use Rattle.jn_rules.specs.Resolved.{atom_marked, var_marked, member_marked, kind_marked}
use Rattle.jn_lower.specs.declared.cursor.Marks.{Marks}

-- these marks are left, sorted
pub record Ahead (ms : List Mark) (x : Marks) : Type 0 where
  pub terms : x.terms.now ≡ atom_marked ms
  pub vars : x.vars.now ≡ var_marked ms
  pub members : x.members.now ≡ member_marked ms
  pub kinds : x.kinds.now ≡ kind_marked ms

-- the first of one sort was taken, and all of the others are left
pub record TermTaken (a : ShownAtom) (old new : Marks) : Type 0 where
  pub terms : old.terms.now ≡ a ∷ new.terms.now
  pub vars : new.vars.now ≡ old.vars.now
  pub members : new.members.now ≡ old.members.now
  pub kinds : new.kinds.now ≡ old.kinds.now

-- that many terms were taken
pub record TermsTaken (k : ℕ) (xs : List ShownAtom) (old new : Marks) : Type 0 where
  pub long : length xs ≡ k
  pub terms : old.terms.now ≡ xs ++ new.terms.now
  pub vars : new.vars.now ≡ old.vars.now
  pub members : new.members.now ≡ old.members.now
  pub kinds : new.kinds.now ≡ old.kinds.now

pub record VarTaken (q : ℕ) (old new : Marks) : Type 0 where
  pub terms : new.terms.now ≡ old.terms.now
  pub vars : old.vars.now ≡ q ∷ new.vars.now
  pub members : new.members.now ≡ old.members.now
  pub kinds : new.kinds.now ≡ old.kinds.now

pub record MemberTaken (R : ShownPath) (old new : Marks) : Type 0 where
  pub terms : new.terms.now ≡ old.terms.now
  pub vars : new.vars.now ≡ old.vars.now
  pub members : old.members.now ≡ R ∷ new.members.now
  pub kinds : new.kinds.now ≡ old.kinds.now

pub record KindTaken (k : ValKind) (old new : Marks) : Type 0 where
  pub terms : new.terms.now ≡ old.terms.now
  pub vars : new.vars.now ≡ old.vars.now
  pub members : new.members.now ≡ old.members.now
  pub kinds : old.kinds.now ≡ k ∷ new.kinds.now

-- Example: of `this.f` these are left one after the other: the kind of `this`, the class that declares f, the kind of f.
