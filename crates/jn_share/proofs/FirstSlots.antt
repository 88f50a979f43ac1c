-- The first class that has a field in one slot with a class.
use Rattle.std.proofs.Common.{◌≡◌, ◌<◌, inl, inr, ℕ, zero, suc, List, [], ◌∷◌, length, Contains, Some, None, Option, slice_get, get_or, refl, sym, ap, ◌∙◌, subst, arith}
use Rattle.std.proofs.lemmas.Option.{slice_get-get_or}
use Rattle.jn_reach.proofs.Eachs.{Each-at}
use Rattle.jn_base.specs.declared.tree.Name.{Name}
use Rattle.jn_base.specs.declared.tree.Program.{Program}
use Rattle.jn_base.specs.Paths.{Path}
use Rattle.jn_base.specs.ClassOrder.{class_cmp, Before}
use Rattle.jn_table.specs.declared.class.ClassId.{ClassId}
use Rattle.jn_table.specs.declared.class.Row.{Row}
use Rattle.jn_table.specs.declared.field_types.FieldTypes.{FieldTypes}
use Rattle.jn_table.specs.declared.table.Table.{Table}
use Rattle.jn_table.specs.Rows.{IsNumber, IsRow}
use Rattle.jn_table.specs.Tables.{IsFilled}
use Rattle.jn_table.proofs.Shown.{numbers_before}
use Rattle.jn_table.proofs.Sorted.{in_order}
use Rattle.jn_sem.specs.Values.{HasField}
use Rattle.jn_sem.specs.Sharing.{IsClass}
use Rattle.jn_sem.specs.Slots.{OneSlot}
use Rattle.jn_sem.specs.LawsOfSlots.{FieldsPass}
use Rattle.jn_sem.proofs.SlotLaws.{slot_laws}
use Rattle.jn_share.specs.declared.prepared.Prepared.{Prepared}
use Rattle.jn_share.specs.Firsts.{PlaceIs, DeclOf, HasOther, AreRelated, IsFirstSlot}
use Rattle.jn_share.specs.Pairing.{IsAt}
use Rattle.jn_share.specs.Parting.{SamePart, SameField}
use Rattle.jn_share.specs.Parts.{DeclsGiven}
use Rattle.jn_share.specs.Prepared.{IsDecl, IsPrepared}
use Rattle.jn_share.specs.Refining.{AreSettled}
use Rattle.jn_share.proofs.Diffs.{other_not, one_slot}
use Rattle.jn_share.proofs.FieldLists.{field_in, ready_decls}
use Rattle.jn_share.proofs.Steps.{same_joined, same_turned}

-- ---- declarations by name

module _ (p : Program) (t : Table) (types : FieldTypes) (all : Prepared) (id : ClassId) (V : Path) (f : Name) (at : IsNumber t.known.items id V) (row : Row)
    (is : IsRow p t.known.items V row) (fields : List Name) (fields_are : fields ≡ row.fields.items) where
  pub no_decl : PlaceIs fields f None → DeclOf p t types V f None
  no_decl n h = n (subst (λ (xs : List Name). Contains xs f) (sym fields_are) (field_in p t.known.items V row is f h))

  pub decl_found : IsPrepared p t types.list.items all → (i : ℕ) → PlaceIs fields f (Some i) → (given : List ℕ) → DeclsGiven all.decls.items id.0 given → (o : Option ℕ)
      → o ≡ slice_get given i → DeclOf p t types V f o
  decl_found ready i h given g o e =
      let d = ready_decls p t types.list.items all ready id.0 V row at is given g in
      let x = Each-at (IsDecl p t.known.items types.list.items V) d.each i f (subst (λ (xs : List Name). slice_get xs i ≡ Some f) fields_are h) in
      subst (DeclOf p t types V f) (sym (e ∙ x.1)) x.2

-- ---- which class is first

module _ (p : Program) (t : Table) (filled : IsFilled p t) (ok : FieldsPass p) (parts : List ℕ) (settled : AreSettled p t.known.items parts)
    (among : List ℕ) (V : Path) (related : AreRelated p t.known.items among V) (f : Name) (class : IsClass p V) (has : HasField p V f) where
  other_slot : (X : Path) → HasOther p (SamePart t.known.items parts) V f X → OneSlot p X V f → ⊥
  other_slot X (inl n) o = n o.both.in_one
  other_slot X (inr x) o =
      other_not p ok (SamePart t.known.items parts) (same_joined p t filled ok parts) (same_turned p t filled ok parts) settled.keeps X V f o x

  -- where each related class of a lower number was passed
  first_if : (r : ℕ) (R : Path) → IsAt t.known.items r R → ((j : ℕ) (X : Path) → Contains among j → j < r → IsAt t.known.items j X → IsClass p X
      → HasOther p (SamePart t.known.items parts) V f X) → (Q : Path) → OneSlot p Q V f → Before p Q R → ⊥
  first_if r R at passed Q o b =
      let k = filled.whole.whole Q o.both.related.one.universe in
      let w = filled.table.rows in
      let id : ClassId = record { 0 = r } in
      let lower = (numbers_before p w.paths t.known.items w.shown_are (in_order (class_cmp p) w.paths w.in_order) k.0 id Q R k.1 at).1 b in
      other_slot Q (passed k.0.0 Q ((related k.0.0 Q k.1 o.both.related.one).1 o.both.related) lower k.1 o.both.related.one) o

  pub first_itself : (v : ℕ) → IsAt t.known.items v V → ((j : ℕ) (X : Path) → Contains among j → j < v → IsAt t.known.items j X → IsClass p X
      → HasOther p (SamePart t.known.items parts) V f X) → IsFirstSlot p t.known.items V f v
  first_itself v at passed = record {
    class = V;
    at = at;
    first = record { holds = (slot_laws p ok f).itself V class has; first = first_if v V at passed };
  }

  pub first_found : (r : ℕ) (R : Path) → IsAt t.known.items r R → IsClass p R → Contains among r → SameField p (SamePart t.known.items parts) R V f
      → ((j : ℕ) (X : Path) → Contains among j → j < r → IsAt t.known.items j X → IsClass p X → HasOther p (SamePart t.known.items parts) V f X)
      → IsFirstSlot p t.known.items V f r
  first_found r R at c m s passed = record {
    class = R;
    at = at;
    first = record {
      holds = one_slot p ok (SamePart t.known.items parts) (same_joined p t filled ok parts) (same_turned p t filled ok parts) settled.stable R V f ((related r R at c).0 m) s;
      first = first_if r R at passed;
    };
  }

pub place_here : (names : List Name) (i : ℕ) (x y : Name) → i < length names → x ≡ get_or names i y → slice_get names i ≡ Some x
place_here names i x y l e = slice_get-get_or names i y l ∙ ap Some (sym e)

pub among_here : (xs : List ℕ) (i : ℕ) → i < length xs → Contains xs (get_or xs i 0)
among_here xs i l = (i, l, any xs i l) where
  reread : (ys : List ℕ) (n a b : ℕ) → n < length ys → get_or ys n a ≡ get_or ys n b
  reread [] n a b m = absurd (omega arith)
  reread (y ∷ ys) zero a b m = refl
  reread (y ∷ ys) (suc n) a b m = reread ys n a b (omega (arith, m))

  any : (ys : List ℕ) (n : ℕ) → n < length ys → get_or ys n (get_or ys n 0) ≡ get_or ys n 0
  any ys n m = reread ys n (get_or ys n 0) 0 m
