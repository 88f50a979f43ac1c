-- Sharing constraints: what it is that they hold, and what refutes them.
use Rattle.std.specs.Prelude.{◌≡◌, ◌++◌, List, map, drop, Option, Some, None}
use Rattle.std.specs.declared.cmp.Ordering.TheVariants.{Less}
use Rattle.jn_base.specs.declared.tree.Name.{Name}
use Rattle.jn_base.specs.declared.tree.Program.{Program}
use Rattle.jn_base.specs.declared.types.Anchor.{Anchor}
use Rattle.jn_base.specs.declared.types.Anchor.TheVariants.{Root, Up}
use Rattle.jn_base.specs.declared.types.Masks.{Masks}
use Rattle.jn_base.specs.Paths.{Path}
use Rattle.jn_base.specs.ClassOrder.{IsFirst, name_cmp}
use Rattle.jn_base.specs.Atoms.{Atom, atom, atom_at}
use Rattle.jn_sem.specs.Sets.{no_views, view_at, InAtom, InAtoms}
use Rattle.jn_sem.specs.Values.{HasField, Masked}
use Rattle.jn_sem.specs.Sharing.{IsClass, Counterpart, family_of}
use Rattle.jn_sem.specs.Slots.{Slot, IsSlot}

-- The two sides of a constraint S -> T, without paths: the atoms of S with its masks M1, the atom of T with its masks M.
-- `names` gives each mask number its name.
pub record Sides : Type 0 where
  pub names : List Name
  pub from : List Atom
  pub from_masks : Masks
  pub to : Atom
  pub to_masks : Masks

-- the family of T, which is the first name of its atom
abbrev pub target_family : Atom → Option Name
target_family x = family_of (atom_at (view_at no_views) x)

-- W is the counterpart of U in T's family, and is in T
pub record Turns (p : Program) (c : Sides) (U W : Path) : Type 0 where
  pub family : Name
  pub of_target : target_family c.to ≡ Some family
  pub counterpart : Counterpart p family U W
  pub is_in : InAtom p no_views c.to W

-- the field f of W is in M, or is a field of U of the same slot and not in M1
pub data Passes (p : Program) (c : Sides) (U W : Path) (f : Name) : Type 0 where
  masked : Masked c.names c.to_masks f → Passes p c U W f
  same_slot : (s : Slot) → HasField p U f → IsSlot p U f s → IsSlot p W f s → (Masked c.names c.from_masks f → ⊥) → Passes p c U W f

-- U has a counterpart W in T's family that is in T, and each field of W passes
pub record IsGranted (p : Program) (c : Sides) (U : Path) : Type 0 where
  pub view : Path
  pub turns : Turns p c U view
  pub fields : (f : Name) → HasField p view f → Passes p c U view f

-- Holds(S, M1, T, M): so it is for each class of the universe in S.
abbrev pub Holds : Program → Sides → Type 0
Holds p c = (U : Path) → IsClass p U → InAtoms p no_views c.from U → IsGranted p c U

-- U is one for which it isn't
pub record Fails (p : Program) (c : Sides) (U : Path) : Type 0 where
  pub class : IsClass p U
  pub is_in : InAtoms p no_views c.from U
  pub refused : IsGranted p c U → ⊥

-- f is the first field, by name, of which T holds
pub record IsFirstName (p : Program) (T : Name → Type 0) (f : Name) : Type 0 where
  pub holds : T f
  pub first : (g : Name) → T g → name_cmp p g f ≡ Less → ⊥

-- a field of W that doesn't pass
pub record Blocks (p : Program) (c : Sides) (U W : Path) (f : Name) : Type 0 where
  pub has : HasField p W f
  pub refused : Passes p c U W f → ⊥

-- What refutes it is found at the first U, in class order, that fails: that U where it has no counterpart W in T's family
-- that is in T, else its W with the first field, by name, that fails.
pub data RefutedBy (p : Program) (c : Sides) (shown : Path) (field : Option Name) : Type 0 where
  no_counterpart : (U : Path) → IsFirst p (Fails p c) U → ((W : Path) → Turns p c U W → ⊥)
      → shown ≡ U → field ≡ None → RefutedBy p c shown field
  unshared : (U W : Path) (f : Name) → IsFirst p (Fails p c) U → Turns p c U W → IsFirstName p (Blocks p c U W) f
      → shown ≡ W → field ≡ Some f → RefutedBy p c shown field

-- Example: in
--   package base { class Exp { } class Add extends Exp { Exp l; Exp r; } }
--   package disp extends base adapts base { class Exp { int tag; } }
-- base!.Exp -> disp!.Exp\tag doesn't hold. base.Add is the first class that fails: its counterpart disp.Add has the fields l,
-- r and tag, of which tag is masked, and l has two slots. So disp.Add and l refute it.

-- ---- a constraint in a header, with `this` at a class

-- An anchor Up(this, k) is replaced by Root, with the names of R less its last k as further exact names in front.
abbrev pub rooted : Path → Atom → Anchor → Atom
rooted R x Root = x
rooted R x (Up q k) = atom Root (x.exact ++ drop k R) x.names

abbrev pub rooted_at : Path → Atom → Atom
rooted_at R x = rooted R x x.anchor

abbrev pub with_this : Path → Sides → Sides
with_this R c = record c { from = map (rooted_at R) c.from; to = rooted_at R c.to }

-- A constraint S -> T holds with `this` at R where Holds is true of S and T with their masks, after this replacement.
abbrev pub HoldsAt : Program → Path → Sides → Type 0
HoldsAt p R c = Holds p (with_this R c)

-- Example: base!.Exp -> Exp, written in base.Make, is at base.Make base!.Exp -> base!.Exp, and at heir.Make base!.Exp ->
-- heir!.Exp. The first holds always; the second where heir shares its classes with base.
