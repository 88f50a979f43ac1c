-- Two fields of one group have one number in their rows exactly where they have one slot.
use Rattle.std.proofs.Common.{◌≡◌, ◌↔◌, ℕ, List, Some, slice_get, sym, subst, ap, ◌∙◌}
use Rattle.jn_reach.proofs.Searches.{same_some}
use Rattle.jn_base.specs.declared.tree.Name.{Name}
use Rattle.jn_base.specs.declared.tree.Program.{Program}
use Rattle.jn_base.specs.Paths.{Path}
use Rattle.jn_table.specs.declared.table.Table.{Table}
use Rattle.jn_names.specs.declared.members.Members.{Members}
use Rattle.jn_share.specs.declared.groups.Groups.{Groups}
use Rattle.jn_share.specs.declared.slots.Slots.{Slots}
use Rattle.jn_share.specs.Slots.{HasSlot}
use Rattle.jn_sem.specs.Sharing.{Related}
use Rattle.jn_sem.specs.Slots.{Slot, IsSlot}
use Rattle.jn_code.specs.declared.image.Image.{Image}
use Rattle.jn_code.specs.declared.image.ClassRow.{ClassRow}
use Rattle.jn_agree.specs.declared.selectors.Selectors.{Selectors}
use Rattle.jn_agree.specs.declared.selectors.FieldSel.{FieldSel}
use Rattle.jn_agree.specs.Naming.{Naming}
use Rattle.jn_agree.specs.Matches.{SlotNumber}
use Rattle.jn_agree.specs.Rows.{SlotsAre}
use Rattle.jn_layout.specs.Asked.{RowsAsked}
use Rattle.jn_layout.specs.RowLists.{RowsRight}
use Rattle.jn_layout.proofs.PartProof.{at_class}

module _ (p : Program) (t : Table) (m : Members) (g : Groups) (s : Slots) (names : Selectors) (n : Naming) (asked : RowsAsked p t m g s names n)
    (rows : List ClassRow) (right : RowsRight p n s rows) (i : Image) (are : i.classes ≡ rows) where
  its_slot : (V : Path) (f : Name) (k : ℕ) → (w : SlotNumber i n V f k) → HasSlot s (record { 0 = w.k }) f k
  its_slot V f k w =
      let there : slice_get rows w.k ≡ Some w.row = subst (λ (xs : List ClassRow). slice_get xs w.k ≡ Some w.row) are w.is.there in
      let x = right.slots w.k w.s k V w.row w.is.class there w.slot in
      let sel : x.entry.sel ≡ w.sel = same_some (slice_get n.fields w.s) x.entry.sel w.sel x.entry.selector w.selector in
      subst (λ (N : Name). HasSlot s (record { 0 = w.k }) N k) (ap (λ (y : FieldSel). y.name) sel ∙ w.name) x.slot

  pub slots_agree : SlotsAre p i n
  slots_agree = record {
    same = λ V W f h a b j k r one other u v. (
      λ e.
          let both = (equal V W f h j k r u v).0 e in
          asked.typed.once.slot V f a both.0 one both.1 ∙ asked.typed.once.slot W h both.0 b both.2 other,
      λ e. (equal V W f h j k r u v).1 (a, one, subst (IsSlot p W h) (sym e) other),
    );
  } where
    equal : (V W : Path) (f h : Name) (j k : ℕ) → Related p V W → (u : SlotNumber i n V f j) → (v : SlotNumber i n W h k)
        → (j ≡ k) ↔ ((x : Slot) × IsSlot p V f x × IsSlot p W h x)
    equal V W f h j k r u v =
        (asked.parts.slots.classes (record { 0 = u.k }) V (at_class t n asked.naming.classes u.k V u.is.class) r.one).equal W (record { 0 = v.k }) f h j k
        (at_class t n asked.naming.classes v.k W v.is.class) r (its_slot V f j u) (its_slot W h k v)
