-- Families of classes, and what fields give.
use Rattle.std.proofs.Common.{◌≡◌, ℕ, List, [], ◌∷◌, reverse, Option, Some, None, refl, sym, ap, ◌∙◌, subst}
use Rattle.std.specs.Prelude.{slice_get}
use Rattle.jn_base.specs.declared.tree.Name.{Name}
use Rattle.jn_base.specs.declared.tree.Program.{Program}
use Rattle.jn_base.specs.declared.path.Path.{Path as ShownPath}
use Rattle.jn_base.specs.declared.types.Ty.{Ty}
use Rattle.jn_base.specs.Paths.{Path}
use Rattle.jn_table.specs.declared.class.ClassId.{ClassId}
use Rattle.jn_sem.specs.Values as sem
use Rattle.jn_sem.specs.Sharing.{Counterpart, HangsOnThis, family_of}
use Rattle.jn_sem.specs.Slots.{Slot, FieldType, IsSlot}
use Rattle.jn_sem.specs.State.{slot_value}
use Rattle.jn_sem.specs.LawsOfFinding.{IsOne}
use Rattle.jn_sem.specs.State as state
use Rattle.jn_sem.specs.Asks.{OnOnly, OnSome, holds, fails}
use Rattle.jn_sem.specs.Does.{Did, Way, missing, masked, on_viewed, on_read}
use Rattle.jn_sem.proofs.FindingLaws.{finds_one}
use Rattle.jn_share.proofs.Names.{first_family}
use Rattle.jn_meaning.specs.declared.operators.Made.{Made}
use Rattle.jn_meaning.specs.declared.operators.Made.TheVariants as made
use Rattle.jn_meaning.specs.declared.did.Ending.TheVariants as ending
use Rattle.jn_sem.specs.declared.outcome.Why.TheVariants as why
use Rattle.jn_meaning.specs.declared.value.Value.TheVariants as value
use Rattle.jn_meaning.specs.Values.{path_at, value_of}
use Rattle.jn_meaning.specs.Heaps.{heap_of}
use Rattle.jn_meaning.specs.declared.heap.Heap.{Heap}
use Rattle.jn_meaning.specs.declared.value.Value.{Value}
use Rattle.jn_meaning.specs.Asked.{FamilyTold, ViewTold, ReadTold, GotTold, giving, made_did}
use Rattle.jn_meaning.proofs.Finds.{found_only, none_only}

no_first : (names : List Name) → None ≡ slice_get names 0 → family_of (reverse names) ≡ None
no_first [] e = refl
no_first (x ∷ names) e = cc

pub family_none : (known : List ShownPath) (id : ClassId) (names : List Name) → reverse names ≡ path_at known id → None ≡ slice_get names 0 → FamilyTold known id None
family_none known id names turned e = sym (ap family_of turned) ∙ no_first names e

pub family_some : (known : List ShownPath) (id : ClassId) (names : List Name) (X : Name) → reverse names ≡ path_at known id → Some X ≡ slice_get names 0 → FamilyTold known id (Some X)
family_some known id names X turned e = sym (ap family_of turned) ∙ first_family names X (sym e)

module _ (p : Program) (known : List ShownPath) where
  pub seen_as : (Y : Name) (o : ℕ) (id w : ClassId) → Counterpart p Y (path_at known id) (path_at known w) → ViewTold p known Y (value.Reference o id) (made.Gives (value.Reference o w))
  seen_as Y o id w k F vs H =
      found_only (Counterpart p Y (path_at known id)) missing (λ (W : Path). giving F vs H (sem.Reference o W)) _ ((finds_one p).counterpart Y (path_at known id)) (path_at known w) k refl

  pub unseen : (Y : Name) (o : ℕ) (id : ClassId) → ((W : Path) → Counterpart p Y (path_at known id) W → ⊥) → ViewTold p known Y (value.Reference o id) (made.Fails (ending.Stuck why.Missing))
  unseen Y o id n F vs H = none_only (Counterpart p Y (path_at known id)) missing (λ (W : Path). giving F vs H (sem.Reference o W)) _ n refl

  module _ (id : ClassId) (t : Ty) (o : ℕ) (other : ClassId) where
    abbrev turned : state.Frame → List sem.Value → state.Heap → Name → Way
    turned F vs H Y = on_viewed p Y (sem.Reference o (path_at known other)) (giving F vs H)

    pub read_itself : (HangsOnThis t → ⊥) → ReadTold p known id t (value.Reference o other) (made.Gives (value.Reference o other))
    read_itself n F vs H = fails n refl

    pub read_nowhere : HangsOnThis t → FamilyTold known id None → ReadTold p known id t (value.Reference o other) (made.Fails (ending.Stuck why.Missing))
    read_nowhere h e F vs H =
        holds h (subst (λ (y : Option Name). OnSome y missing (turned F vs H) (made_did known F vs H (made.Fails (ending.Stuck why.Missing)))) (sym e) refl)

    pub read_turned : (Y : Name) (m : Made) → HangsOnThis t → FamilyTold known id (Some Y) → ViewTold p known Y (value.Reference o other) m → ReadTold p known id t (value.Reference o other) m
    read_turned Y m h e k F vs H =
        holds h (subst (λ (y : Option Name). OnSome y missing (turned F vs H) (made_did known F vs H m)) (sym e) (k F vs H))

-- ---- what the field of an object gives

module _ (p : Program) (known : List ShownPath) (h : Heap) (o : ℕ) (id : ClassId) (f : Name) where
  abbrev V : Path
  V = path_at known id

  abbrev H : state.Heap
  H = heap_of known h

  abbrev read_at : state.Frame → List sem.Value → Ty → sem.Value → Way
  read_at F vs t v = on_read p V t v (giving F vs H)

  abbrev at_slot : state.Frame → List sem.Value → Ty → Slot → Way
  at_slot F vs t s = OnSome (slot_value H o s) masked (read_at F vs t)

  abbrev at_type : state.Frame → List sem.Value → Ty → Way
  at_type F vs t = OnOnly (IsSlot p V f) missing (at_slot F vs t)

  pub no_type : ((t : Ty) → FieldType p V f t → ⊥) → GotTold p known h o id f (made.Fails (ending.Stuck why.Missing))
  no_type n F vs = none_only (FieldType p V f) missing (at_type F vs) _ n refl

  module _ (once : IsOne (FieldType p V f)) (t : Ty) (type : FieldType p V f t) where
    at_this_type : (F : state.Frame) (vs : List sem.Value) (d : Did) → at_type F vs t d → OnOnly (FieldType p V f) missing (at_type F vs) d
    at_this_type F vs d g = found_only (FieldType p V f) missing (at_type F vs) d once t type g

    pub no_slot_got : ((s : Slot) → IsSlot p V f s → ⊥) → GotTold p known h o id f (made.Fails (ending.Stuck why.Missing))
    no_slot_got n F vs = at_this_type F vs _ (none_only (IsSlot p V f) missing (at_slot F vs t) _ n refl)

    module _ (slots : IsOne (IsSlot p V f)) (s : Slot) (is : IsSlot p V f s) where
      at_this_slot : (F : state.Frame) (vs : List sem.Value) (d : Did) → at_slot F vs t s d → OnOnly (FieldType p V f) missing (at_type F vs) d
      at_this_slot F vs d g = at_this_type F vs d (found_only (IsSlot p V f) missing (at_slot F vs t) d slots s is g)

      pub no_value_got : None ≡ slot_value H o s → GotTold p known h o id f (made.Fails (ending.Stuck why.Masked))
      no_value_got e F vs =
          let d : Did = made_did known F vs H (made.Fails (ending.Stuck why.Masked)) in
          at_this_slot F vs d (subst (λ (x : Option sem.Value). OnSome x masked (read_at F vs t) d) e refl)

      pub value_got : (v : Value) (m : Made) → Some (value_of known v) ≡ slot_value H o s → ReadTold p known id t v m → GotTold p known h o id f m
      value_got v m e r F vs =
          let d : Did = made_did known F vs H m in
          at_this_slot F vs d (subst (λ (x : Option sem.Value). OnSome x masked (read_at F vs t) d) e (r F vs H))
