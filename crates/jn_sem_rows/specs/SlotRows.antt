-- Slots and sharing constraints: two slots by those of another field, a mask on the side that is shared, and a
-- constraint at an heir.
use Rattle.std.specs.Prelude.{List, [], ◌∷◌, Some, None}
use Rattle.jn_base.specs.declared.tree.Member.{Member}
use Rattle.jn_base.specs.declared.tree.Program.{Program}
use Rattle.jn_base.specs.declared.types.Anchor.TheVariants.{Root, Up}
use Rattle.jn_base.specs.declared.types.Masks.{Masks}
use Rattle.jn_base.specs.Atoms.{atom, no_masks}
use Rattle.jn_base.specs.ExampleTrees.{package_at, class_in, field}
use Rattle.jn_sem.specs.Holds.{Sides, Holds, HoldsAt, with_this, RefutedBy}
use Rattle.jn_sem.specs.Slots.{Diff, MakesTwo, compared}
use Rattle.jn_sem_rows.specs.SlotsExample.{base, disp, Exp, Add, Lit, l, r, v, tag, adapting, base_decl, field_of, in_base, in_disp, tagged}

-- ---- two slots by those of another field

-- package base { class Exp { } class Lit { Exp l; } class Add { Lit r; } }
-- package disp extends base adapts base { class Exp { int tag; } }
abbrev pub deep_slots : Program
deep_slots = adapting
    (class_in Exp [] [] ∷ class_in Lit [] (field_of Exp l ∷ []) ∷ class_in Add [] (field_of Lit r ∷ []) ∷ [])
    (class_in Exp [] (field tag ∷ []) ∷ [])

pub record DeepSlots : Type 0 where
  -- an Exp of `disp` has a field that an Exp of `base` hasn't: l of Lit has two slots
  pub l_of_lit : Diff deep_slots (in_base Lit) (in_disp Lit) l
  -- so r of Add has two slots, whichever view comes first,
  pub r_of_add : Diff deep_slots (in_base Add) (in_disp Add) r
  pub r_back : Diff deep_slots (in_disp Add) (in_base Add) r
  -- and by l alone: the Lits of both families have the same fields
  pub alone : MakesTwo deep_slots (compared (in_base Add) (in_disp Add) r) → ⊥

-- ---- a mask on the side that is shared

-- the masks v and tag have the numbers 0 and 1
abbrev pub v_masked : Masks
v_masked = record { 0 = 1 ∷ 0 ∷ 0 ∷ 0 ∷ [] }

abbrev pub tag_masked : Masks
tag_masked = record { 0 = 2 ∷ 0 ∷ 0 ∷ 0 ∷ [] }

-- base!.Lit -> disp!.Lit\tag, where the first may have masks
abbrev pub to_disp_lit : Masks → Sides
to_disp_lit m = record {
  names = v ∷ tag ∷ [];
  from = atom Root (base ∷ []) (Lit ∷ []) ∷ [];
  from_masks = m;
  to = atom Root (disp ∷ []) (Lit ∷ []);
  to_masks = tag_masked;
}

pub record MaskedSide : Type 0 where
  -- v is one slot, so the constraint holds;
  pub holds : Holds tagged (to_disp_lit no_masks)
  -- but of base!.Lit\v it isn't known that v has a value, and disp.Lit and v refute it
  pub refuted : RefutedBy tagged (to_disp_lit v_masked) (in_disp Lit) (Some v)

-- ---- a constraint at an heir

abbrev pub pair_of_classes : List Member
pair_of_classes = class_in Exp [] [] ∷ class_in Add [] [] ∷ []

-- package base { class Exp { } class Add { } }
-- package disp extends base adapts base { }
abbrev pub sharing_heir : Program
sharing_heir = adapting pair_of_classes []

-- the same, but with `package disp extends base { }`
abbrev pub plain_heir : Program
plain_heir = record sharing_heir { decls = base_decl pair_of_classes ∷ package_at 2 disp (base ∷ []) [] ∷ [] }

-- base!.Exp -> Exp, as it is written in base.Add
abbrev pub to_own_exp : Sides
to_own_exp = record {
  names = [];
  from = atom Root (base ∷ []) (Exp ∷ []) ∷ [];
  from_masks = no_masks;
  to = atom (Up 0 1) [] (Exp ∷ []);
  to_masks = no_masks;
}

pub record AtAnHeir : Type 0 where
  -- at base.Add it says base!.Exp -> base!.Exp, and holds always
  pub shared_base : HoldsAt sharing_heir (in_base Add) to_own_exp
  pub plain_base : HoldsAt plain_heir (in_base Add) to_own_exp
  -- at disp.Add it says base!.Exp -> disp!.Exp, and holds where `disp` shares its classes with `base`;
  pub shared_heir : HoldsAt sharing_heir (in_disp Add) to_own_exp
  -- where it doesn't, base.Exp has no counterpart in `disp`
  pub plain_refuted : RefutedBy plain_heir (with_this (in_disp Add) to_own_exp) (in_base Exp) None
