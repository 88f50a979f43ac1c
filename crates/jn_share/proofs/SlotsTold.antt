-- What the rows of slots answer.
use Rattle.std.proofs.Common.{◌≡◌, ℕ, List, Contains, Option, Some, None, slice_get, false, refl, sym, ap, ◌∙◌, subst}
use Rattle.jn_reach.proofs.Searches.{same_some}
use Rattle.jn_base.specs.declared.tree.Name.{Name}
use Rattle.jn_table.specs.declared.class.ClassId.{ClassId}
use Rattle.jn_share.specs.declared.slots.FieldSlot.{FieldSlot}
use Rattle.jn_share.specs.declared.slots.SlotRow.{SlotRow}
use Rattle.jn_share.specs.declared.slots.Slots.{Slots}
use Rattle.jn_share.specs.Slots.{HasEntry, FindsEntry, EntryTold, SlotTold, SaysNoSlot, SaysHangs}

-- the entry of the row is that of the number
pub row_told : (rows : List SlotRow) (id : ClassId) (f : Name) (row : SlotRow) → slice_get rows id.0 ≡ Some row → (entries : List FieldSlot) → entries ≡ row.fields.items
    → (o : Option FieldSlot) → FindsEntry entries f o → EntryTold rows id f o
row_told rows id f row at entries same (Some e) h = record { row = row; at = at; among = subst (λ (xs : List FieldSlot). Contains xs e) same h.0; field = h.1 }
row_told rows id f row at entries same None n = λ e h.
    let r : h.row ≡ row = same_some (slice_get rows id.0) h.row row h.at at in
    n e (subst (λ (xs : List FieldSlot). Contains xs e) (ap (λ (x : SlotRow). x.fields.items) r ∙ sym same) h.among) h.field

pub no_row : (rows : List SlotRow) (id : ClassId) (f : Name) → slice_get rows id.0 ≡ None → EntryTold rows id f None
no_row rows id f n e h = absurd (cc (sym n ∙ h.at))

module _ (s : Slots) (id : ClassId) (f : Name) where
  pub slot_some : (e : FieldSlot) → HasEntry s.rows.items id f e → SlotTold s id f (Some e.slot)
  slot_some e h = (e, h, refl)

  pub slot_none : ((e : FieldSlot) → HasEntry s.rows.items id f e → ⊥) → SlotTold s id f None
  slot_none n k h = n h.0 h.1

  -- whether there is no slot is as it is told
  pub says_none : (o : Option ℕ) → SlotTold s id f o → SaysNoSlot s id f o
  says_none (Some n) h = λ p known V are at class. (
    λ e. absurd (cc e),
    λ none. absurd (none (((are.classes id V at class).fields f).1 (n, h))),
  )
  says_none None h = λ p known V are at class. (
    λ _ has. let r = ((are.classes id V at class).fields f).0 has in h r.0 r.1,
    λ _. refl,
  )

  pub says_hangs : (e : FieldSlot) → HasEntry s.rows.items id f e → SaysHangs s id f e.hangs
  says_hangs e h = λ p known V are at class. (
    λ yes. ((are.classes id V at class).hangs f).0 (e, h, yes),
    λ q.
        let r = ((are.classes id V at class).hangs f).1 q in
        let own = are.classes id V at class in
        ap (λ (x : FieldSlot). x.hangs) (own.entry f e r.0 h r.1) ∙ r.2,
  )

  pub says_no_hangs : ((e : FieldSlot) → HasEntry s.rows.items id f e → ⊥) → SaysHangs s id f false
  says_no_hangs n = λ p known V are at class. (
    λ yes. absurd (cc yes),
    λ q. let r = ((are.classes id V at class).hangs f).1 q in absurd (n r.0 r.1),
  )
