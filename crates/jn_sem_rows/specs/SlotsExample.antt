-- Three programs of two families, and what slots their fields have.
use Rattle.std.specs.Prelude.{ℕ, List, [], ◌∷◌, Some, codes}
use Rattle.jn_base.specs.declared.tree.Name.{Name}
use Rattle.jn_base.specs.declared.tree.Text.{Text}
use Rattle.jn_base.specs.declared.tree.Decl.{Decl}
use Rattle.jn_base.specs.declared.tree.Head.TheVariants as head
use Rattle.jn_base.specs.declared.tree.TypeTerm.{TypeTerm}
use Rattle.jn_base.specs.declared.tree.TypeTerm.TheVariants as type
use Rattle.jn_base.specs.declared.tree.Member.{Member}
use Rattle.jn_base.specs.declared.tree.Member.TheVariants as member
use Rattle.jn_base.specs.declared.tree.Program.{Program}
use Rattle.jn_base.specs.declared.types.Anchor.TheVariants.{Root}
use Rattle.jn_base.specs.declared.types.Masks.{Masks}
use Rattle.jn_base.specs.Paths.{Path}
use Rattle.jn_base.specs.Atoms.{atom, no_masks}
use Rattle.jn_base.specs.ExampleTrees.{name, line, word, package_at, class_in, field}
use Rattle.jn_sem.specs.Sharing.{Related, Counterpart}
use Rattle.jn_sem.specs.Holds.{Sides, Fails, RefutedBy}
use Rattle.jn_sem.specs.Slots.{Diff, OneSlot, Slot, IsSlot, IsSize}

-- the names by their numbers
abbrev pub base : Name
base = name 0

abbrev pub disp : Name
disp = name 1

abbrev pub Exp : Name
Exp = name 2

abbrev pub Add : Name
Add = name 3

abbrev pub Lit : Name
Lit = name 4

abbrev pub l : Name
l = name 5

abbrev pub r : Name
r = name 6

abbrev pub v : Name
v = name 7

abbrev pub tag : Name
tag = name 8

abbrev pub next : Name
next = name 9

abbrev pub eval : Name
eval = name 10

abbrev pub text : List ℕ → Text
text bytes = record { bytes = bytes }

abbrev pub base_decl : List Member → Decl
base_decl own = package_at 1 base [] own

abbrev pub disp_decl : List Member → Decl
disp_decl further = record (package_at 2 disp (base ∷ []) further) { adapts = word base ∷ [] }

-- package base { .. }, and package disp extends base adapts base { .. }
abbrev pub adapting : List Member → List Member → Program
adapting own further = record {
  names = text (codes "base") ∷ text (codes "disp") ∷ text (codes "Exp") ∷ text (codes "Add") ∷ text (codes "Lit")
      ∷ text (codes "l") ∷ text (codes "r") ∷ text (codes "v") ∷ text (codes "tag")
      ∷ text (codes "next") ∷ text (codes "eval") ∷ [];
  texts = [];
  decls = base_decl own ∷ disp_decl further ∷ [];
}

-- the type of this name alone
abbrev pub named_type : Name → TypeTerm
named_type C = type.Class (record { head = head.Plain; exact = []; names = C ∷ []; at = line 1 } ∷ []) []

abbrev pub field_of : Name → Name → Member
field_of C f = member.Slot (record { ty = named_type C; name = word f })

-- the class C of a family
abbrev pub in_base : Name → Path
in_base C = C ∷ base ∷ []

abbrev pub in_disp : Name → Path
in_disp C = C ∷ disp ∷ []

abbrev pub slot : Path → Name → Slot
slot C f = record { class = C; field = f }

-- package base { class Lit { int v; } }
-- package disp extends base adapts base { class Lit { int tag; } }
abbrev pub tagged : Program
tagged = adapting (class_in Lit [] (field v ∷ []) ∷ []) (class_in Lit [] (field tag ∷ []) ∷ [])

pub record Tagged : Type 0 where
  -- the two classes are related, and each is the other's counterpart
  pub related : Related tagged (in_base Lit) (in_disp Lit)
  pub counterpart : Counterpart tagged disp (in_base Lit) (in_disp Lit)
  pub back : Counterpart tagged base (in_disp Lit) (in_base Lit)
  -- v is one slot, seen by both; tag is one that the view in `disp` alone has
  pub v_of_base : IsSlot tagged (in_base Lit) v (slot (in_base Lit) v)
  pub v_of_disp : IsSlot tagged (in_disp Lit) v (slot (in_base Lit) v)
  pub tag_of_disp : IsSlot tagged (in_disp Lit) tag (slot (in_disp Lit) tag)
  -- so an object of either class takes 3 cells
  pub size : IsSize tagged (in_base Lit) 3

-- package base { class Exp { } class Add extends Exp { Exp l; Exp r; } }
-- package disp extends base adapts base { class Exp { int tag; } }
abbrev pub two_slots : Program
two_slots = adapting
    (class_in Exp [] [] ∷ class_in Add (Exp ∷ []) (field_of Exp l ∷ field_of Exp r ∷ []) ∷ [])
    (class_in Exp [] (field tag ∷ []) ∷ [])

pub record TwoSlots : Type 0 where
  -- an Exp of `disp` has a field that an Exp of `base` hasn't: l has two slots, whichever view comes first
  pub l_of_base : Diff two_slots (in_base Add) (in_disp Add) l
  pub l_of_disp : Diff two_slots (in_disp Add) (in_base Add) l

-- package base { class Lit { Lit next; } }
-- package disp extends base adapts base { }
abbrev pub linked : Program
linked = adapting (class_in Lit [] (field_of Lit next ∷ []) ∷ []) []

pub record Linked : Type 0 where
  -- next is one slot: what it refers to has the same fields in both families, and these are one slot each
  pub one_slot : OneSlot linked (in_base Lit) (in_disp Lit) next
  pub next_of_base : IsSlot linked (in_base Lit) next (slot (in_base Lit) next)
  pub next_of_disp : IsSlot linked (in_disp Lit) next (slot (in_base Lit) next)
  pub size : IsSize linked (in_disp Lit) 2

-- ---- Holds, and what refutes it

-- the program has one mask, tag, with the number 0
abbrev pub tag_masked : Masks
tag_masked = record { 0 = 1 ∷ 0 ∷ 0 ∷ 0 ∷ [] }

-- base!.Exp -> disp!.Exp\tag
abbrev pub to_disp : Sides
to_disp = record {
  names = tag ∷ [];
  from = atom Root (base ∷ []) (Exp ∷ []) ∷ [];
  from_masks = no_masks;
  to = atom Root (disp ∷ []) (Exp ∷ []);
  to_masks = tag_masked;
}

pub record Refuted : Type 0 where
  -- with two slots for l it doesn't hold: base.Add is the first class that fails, and l the first field of its counterpart
  pub fails : Fails two_slots to_disp (in_base Add)
  pub refuted : RefutedBy two_slots to_disp (in_disp Add) (Some l)
