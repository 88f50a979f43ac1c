-- A view change that is refused, with what refutes the sharing.
use Rattle.std.specs.Prelude.{[], ◌∷◌, None, Err}
use Rattle.jn_base.specs.declared.tree.Place.{Place}
use Rattle.jn_base.specs.declared.types.Anchor.TheVariants.{Root}
use Rattle.jn_base.specs.declared.types.Ty.{Ty}
use Rattle.jn_base.specs.declared.types.Ty.TheVariants as ty
use Rattle.jn_base.specs.Atoms.{no_masks}
use Rattle.jn_base.specs.Scopes.{Scope}
use Rattle.jn_sem_rows.specs.SlotsExample.{base, disp, Exp, in_base}
use Rattle.jn_sem_rows.specs.SlotRows.{plain_heir}
use Rattle.jn_rules.specs.Plans.{Target}
use Rattle.jn_rules.specs.Questions.{Gives}
use Rattle.jn_rules.specs.Exprs.{Typed, by_sharing, not_shared}

-- base!.Exp
abbrev pub exact_exp : Ty
exact_exp = ty.Class (record { anchor = Root; exact = base ∷ []; names = Exp ∷ [] } ∷ []) no_masks

-- disp!.Exp
abbrev pub to_disp : Target
to_disp = record { atom = record { anchor = Root; exact = disp ∷ []; names = Exp ∷ [] }; masks = no_masks }

pub record SharingRows : Type 0 where
  -- package base { class Exp { } class Add { } }
  -- package disp extends base { }
  -- (view disp!.Exp) e, with e of the type base!.Exp: the classes are not shared, so base.Exp has no counterpart in `disp`
  pub no_counterpart : (s : Scope) (at : Place) (y : Typed)
      → Gives plain_heir (by_sharing at s exact_exp to_disp y Root) (Err (not_shared at (in_base Exp) None))
