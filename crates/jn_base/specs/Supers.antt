-- Supers and members.
use Rattle.std.specs.Prelude.{◌≡◌, ◌∷◌}
use Rattle.jn_base.specs.declared.tree.Name.{Name}
use Rattle.jn_base.specs.declared.tree.Program.{Program}
use Rattle.jn_base.specs.Paths.{Path, Declared, Extends}

mutual
  -- S is a direct super of R.
  -- At the program itself, which has no direct super, `inherited` says nothing, and `written` says that the direct
  -- supers of a top-level name are its written ones that are declared.
  pub data Direct (p : Program) : Path → Path → Type 0 where
    -- of P.C: Q.C for each direct super Q of P that has the member C, which some declaration at T.C, T in Sup(Q), makes one
    inherited : {P Q T : Path} {C : Name} → Direct p P Q → Sup p Q T → Declared p (C ∷ T) → Direct p (C ∷ P) (C ∷ Q)
    -- of P.C: P.D for each member D of P that some declaration of C at a path in Sup(P) extends
    written : {P S T : Path} {C D : Name} → Sup p P S → Extends p (C ∷ S) D → Sup p P T → Declared p (D ∷ T) → Direct p (C ∷ P) (D ∷ P)

  -- S is in Sup(R): it is R or the end of a chain of direct supers from R
  pub data Sup (p : Program) : Path → Path → Type 0 where
    itself : {R : Path} → Sup p R R
    above : {R S T : Path} → Direct p R S → Sup p S T → Sup p R T

-- C is a member of P: some super of P has a declaration of it
pub record Member (p : Program) (P : Path) (C : Name) : Type 0 where
  pub at : Path
  pub super : Sup p P at
  pub declared : Declared p (C ∷ at)

-- The direct supers of P.C, said by members.
pub data Above (p : Program) (P : Path) (C : Name) (S : Path) : Type 0 where
  -- Q.C for each direct super Q of P that has the member C
  by_heir : (Q : Path) → Direct p P Q → Member p Q C → S ≡ C ∷ Q → Above p P C S
  -- P.D for each member D of P that some declaration of C at a path in Sup(P) extends
  by_text : (D : Name) (T : Path) → Sup p P T → Extends p (C ∷ T) D → Member p P D → S ≡ D ∷ P → Above p P C S

-- some chain of one or more direct supers leads from R back to R
pub record IsOwnSuper (p : Program) (R : Path) : Type 0 where
  pub next : Path
  pub direct : Direct p R next
  pub back : Sup p next R
