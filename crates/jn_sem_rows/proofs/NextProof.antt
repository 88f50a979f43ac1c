-- A field whose type hangs on `this`, read at two views.
use Rattle.std.proofs.Common.{[], refl, inl, inr}
use Rattle.jn_base.specs.declared.tree.Name.{Name}
use Rattle.jn_base.specs.declared.tree.Member.TheVariants.{outs-Inner, outs-Slot}
use Rattle.jn_base.specs.Paths.{Path}
use Rattle.jn_base.proofs.Unique.{decl_opened, member_opened}
use Rattle.jn_sem.specs.Asks.{Only, found, holds}
use Rattle.jn_sem.specs.Sharing.{Related, Counterpart, in_family}
use Rattle.jn_sem.specs.Slots.{FieldType, IsSlot}
use Rattle.jn_sem_rows.specs.SlotsExample.{base, disp, Lit, next, in_base, in_disp, linked}
use Rattle.jn_sem_rows.specs.Views.{NextViews}
use Rattle.jn_sem_rows.proofs.SlotTools.{in_namespace, it_hangs, IsLit}
use Rattle.jn_sem_rows.proofs.LinkedProof.{own, is_flat_here, lits_only, bare_tops, place, field_next, next_at, next_type, lits_back, base_itself, to_base, slot_next, first_next}
use Rattle.jn_sem_rows.proofs.LitFamilies.{IsTested, found_once}

tested : IsTested own []
tested = record {
  flat = is_flat_here;
  lits = lits_only;
  bare_tops = bare_tops;
  plain = simp (outs-Inner, outs-Slot);
  keeps = simp (outs-Inner);
  written = simp (outs-Inner);
  classes = simp (outs-Inner);
  known = simp (outs-Inner);
  once = simp (decl_opened, member_opened, outs-Inner, outs-Slot);
}

type_of : (V : Path) → IsLit V → FieldType linked V next (in_namespace Lit)
type_of V w = record {
  class = in_base Lit;
  is_field = record {
    declares = record { super = to_base V w; field = field_next; at = next_at };
    only = λ S d. place S next d.field d.at;
  };
  field = field_next;
  at = next_at;
  type = next_type next;
}

only_type : (V : Path) → IsLit V → Only (FieldType linked V next) (in_namespace Lit)
only_type V w = record { is = type_of V w; one = λ t x. (found_once own [] tested).field V next t (in_namespace Lit) x (type_of V w) }

only_slot : (V : Path) → Related linked (in_base Lit) V → IsLit V → Only (IsSlot linked V next) slot_next
only_slot V r w = record { is = first_next V r w; one = λ s x. (found_once own [] tested).slot V next s slot_next x (first_next V r w) }

-- the other object, which is seen as a base.Lit, in the family Y
only_view : (Y : Name) → Related linked (in_base Lit) (in_family Y (in_base Lit)) → Only (Counterpart linked Y (in_base Lit)) (in_family Y (in_base Lit))
only_view Y r = record { is = record { is = refl; related = r }; one = λ W x. x.is }

pub next_views : NextViews
next_views = record {
  at_base = record {
    did = _;
    does = found (in_namespace Lit) (only_type (in_base Lit) (inl refl)) (found slot_next (only_slot (in_base Lit) base_itself (inl refl))
        (holds (it_hangs Lit) (found (in_base Lit) (only_view base base_itself) refl)));
    proceeds = refl;
  };
  at_disp = record {
    did = _;
    does = found (in_namespace Lit) (only_type (in_disp Lit) (inr refl)) (found slot_next (only_slot (in_disp Lit) lits_back (inr refl))
        (holds (it_hangs Lit) (found (in_disp Lit) (only_view disp lits_back) refl)));
    proceeds = refl;
  };
}
