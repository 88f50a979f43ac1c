-- Whether two classes have one slot for a field, by their slot numbers.
use Rattle.std.proofs.Common.{◌≡◌, ◌↔◌, ◌<◌, ◌≤◌, ◌+◌, ℕ, List, length, Some, Bool, IsTrue, true, false, refl, sym, subst, arith, ◌⊎◌, inl, inr}
use Rattle.std.specs.Prelude.{slice_get, nat_eq}
use Rattle.std.proofs.lemmas.Bool.{eqb-true, eq-eqb, cases_lt}
use Rattle.jn_reach.proofs.Searches.{iff_false, not_when}
use Rattle.jn_base.specs.declared.tree.Name.{Name}
use Rattle.jn_base.specs.declared.tree.Program.{Program}
use Rattle.jn_base.specs.declared.path.Path.{Path as ShownPath}
use Rattle.jn_base.specs.Paths.{Path, shown}
use Rattle.jn_base.specs.ClassOrder.{Before, class_cmp}
use Rattle.jn_table.specs.declared.class.ClassId.{ClassId}
use Rattle.jn_table.specs.declared.table.Table.{Table}
use Rattle.jn_table.specs.Rows.{IsNumber}
use Rattle.jn_table.specs.Tables.{IsFilled}
use Rattle.jn_table.proofs.Shown.{numbers_before}
use Rattle.jn_table.proofs.Sorted.{in_order}
use Rattle.jn_sem.specs.Values.{HasField}
use Rattle.jn_sem.specs.Sharing.{IsClass, Related}
use Rattle.jn_sem.specs.Slots.{OneSlot, IsSlot}
use Rattle.jn_sem.specs.Slots as sem
use Rattle.jn_sem.specs.LawsOfSlots.{FieldsPass, SlotsOf}
use Rattle.jn_sem.proofs.SlotLaws.{slot_laws}
use Rattle.jn_sem.proofs.SharedLaws.{sharing_laws}
use Rattle.jn_share.specs.declared.slots.Slots.{Slots}
use Rattle.jn_share.specs.Slots.{HasSlot, HaveOneSlot, AreSlotsOf, AreSlots}
use Rattle.jn_meaning.specs.Values.{path_at}
use Rattle.jn_meaning.specs.Heaps.{slot_of}
use Rattle.jn_meaning.proofs.ClassNumbers.{at_within, number_of}

-- none of the first i numbers is that of a class that has one slot for f with V
pub record NoneSo (p : Program) (known : List ShownPath) (V : Path) (f : Name) (i : ℕ) : Type 0 where
  pub none : (k : ClassId) (K : Path) → k.0 < i → IsNumber known k K → OneSlot p K V f → ⊥

module _ (p : Program) (known : List ShownPath) (V : Path) (f : Name) where
  pub none_at_first : NoneSo p known V f 0
  none_at_first = record { none = λ k K l. absurd (omega (arith, l)) }

  pub none_more : (i : ℕ) (told : Bool) → NoneSo p known V f i → told ≡ false → ((K : Path) → IsNumber known (record { 0 = i }) K → IsTrue told ↔ OneSlot p K V f) → NoneSo p known V f (i + 1)
  none_more i told so e h = record { none = λ k K l n o. by_place k K n o l (cases_lt k.0 i) }
    where
      by_place : (k : ClassId) (K : Path) → IsNumber known k K → OneSlot p K V f → k.0 < i + 1 → (k.0 < i) ⊎ (i ≤ k.0) → ⊥
      by_place k K n o l (inl b) = so.none k K b n o
      by_place k K n o l (inr b) =
          let q : k.0 ≡ i = omega (arith, l, b) in
          not_when e (h K (subst (λ (j : ℕ). slice_get known j ≡ Some (shown K)) q n)) o

module _ (p : Program) (known : List ShownPath) (s : Slots) (are : AreSlots p known s) (passes : FieldsPass p) (id : ClassId) (V : Path) (at : IsNumber known id V) (class : IsClass p V)
    (f : Name) (n : ℕ) (has : HasSlot s id f n) where
  law : SlotsOf p f
  law = slot_laws p passes f

  own : AreSlotsOf p known s id V
  own = are.classes id V at class

  field : HasField p V f
  field = (own.fields f).1 (n, has)

  pub one_itself : OneSlot p V V f
  one_itself = law.itself V class field

  itself : HaveOneSlot p V f V f
  itself = (own.equal V id f f n n at ((sharing_laws p).itself V class) has has).0 refl

  module _ (k : ClassId) (K : Path) (there : IsNumber known k K) where
    to : (m : ℕ) → Related p K V → HasSlot s k f m → m ≡ n → OneSlot p K V f
    to m r h e =
        let other = are.classes k K there r.one in
        let have : HaveOneSlot p V f K f = (own.equal K k f f n m there ((sharing_laws p).turned K V r) has h).0 (sym e) in
        record {
          both = record { related = r; in_one = (other.fields f).1 (m, h); in_other = field };
          same = λ d. law.apart K V have.0 d have.2 have.1;
        }

    from : (m : ℕ) → HasSlot s k f m → OneSlot p K V f → m ≡ n
    from m h o =
        let turned = law.turned K V o in
        let slot : IsSlot p K f itself.0 = law.same V K itself.0 turned.both turned.same itself.1 in
        sym ((own.equal K k f f n m there turned.both.related has h).1 (itself.0, itself.1, slot))

    pub unrelated : (told : Bool) → told ≡ false → IsTrue told ↔ Related p K V → IsTrue false ↔ OneSlot p K V f
    unrelated told e i = iff_false (λ o. not_when e i o.both.related)

    pub slotless : ((m : ℕ) → HasSlot s k f m → ⊥) → IsTrue false ↔ OneSlot p K V f
    slotless n = iff_false (λ o. let h = ((are.classes k K there o.both.related.one).fields f).0 o.both.in_one in n h.0 h.1)

    pub by_number : (m : ℕ) (told : Bool) → told ≡ true → IsTrue told ↔ Related p K V → HasSlot s k f m → IsTrue (nat_eq m n) ↔ OneSlot p K V f
    by_number m told e i h = (λ b. to m (i.0 e) h (eqb-true m n b), λ o. eq-eqb m n (from m h o))

module _ (p : Program) (t : Table) (filled : IsFilled p t) (s : Slots) (are : AreSlots p t.known.items s) (passes : FieldsPass p) (id : ClassId) (at : IsNumber t.known.items id (path_at t.known.items id)) (class : IsClass p (path_at t.known.items id))
    (f : Name) (n : ℕ) (has : HasSlot s id f n) where
  abbrev known : List ShownPath
  known = t.known.items

  pub first_is : (i : ℕ) (told : Bool) → NoneSo p known (path_at known id) f i → i < length known → told ≡ true
      → ((K : Path) → IsNumber known (record { 0 = i }) K → IsTrue told ↔ OneSlot p K (path_at known id) f)
      → IsSlot p (path_at known id) f (slot_of known (record { class = record { 0 = i }; field = f }))
  first_is i told so l e h =
      let k : ClassId = record { 0 = i } in
      let r = at_within known i l in
      let here : IsNumber known k (path_at known k) = number_of known k r.0 r.1 in
      record {
        field = refl;
        first = record {
          holds = (h (path_at known k) here).0 e;
          first = λ Q o before.
              let m = filled.whole.whole Q o.both.related.one.universe in
              so.none m.0 Q (number_below m.0 k Q (path_at known k) m.1 here before) m.1 o;
        };
      }
    where
      number_below : (a b : ClassId) (A B : Path) → IsNumber known a A → IsNumber known b B → Before p A B → a.0 < b.0
      number_below a b A B x y h =
          let r = filled.table.rows in
          (numbers_before p r.paths known r.shown_are (in_order (class_cmp p) r.paths r.in_order) a b A B x y).1 h

  pub none_left : (i : ℕ) → NoneSo p known (path_at known id) f i → id.0 < i → (r : sem.Slot) → IsSlot p (path_at known id) f r → ⊥
  none_left i so l r q = so.none id (path_at known id) l at (one_itself p known s are passes id (path_at known id) at class f n has)

  -- the class has no such field
  pub no_slot_number : {f : Name} → (HasField p (path_at known id) f → ⊥) → (r : sem.Slot) → IsSlot p (path_at known id) f r → ⊥
  no_slot_number n r q = n q.first.holds.both.in_other
