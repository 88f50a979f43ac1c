-- One more object: the arena still matches.
use Rattle.std.proofs.Common.{◌≡◌, ℕ, zero, suc, ◌+◌, ◌<◌, List, [], ◌∷◌, ◌++◌, length, replicate, Some, Bool, true, false, refl, sym, ap, ◌∙◌, subst, arith, inl, inr, ◌⊎◌}
use Rattle.std.specs.Prelude.{ℤ, pos, cond, slice_get}
use Rattle.std.specs.Option.{option_map}
use Rattle.std.specs.List.{find}
use Rattle.std.proofs.lemmas.List.{length-replicate, length-append}
use Rattle.std.proofs.lemmas.Option.{slice_get_within}
use Rattle.jn_reach.specs.Each.{Each, more}
use Rattle.jn_base.specs.declared.tree.Name.{Name}
use Rattle.jn_base.specs.declared.tree.Program.{Program}
use Rattle.jn_base.specs.declared.types.Ty.{Ty}
use Rattle.jn_base.specs.declared.types.Ty.TheVariants as ty
use Rattle.jn_base.specs.Paths.{Path}
use Rattle.jn_code.specs.declared.image.Image.{Image}
use Rattle.jn_code.specs.declared.image.Group.{Group}
use Rattle.jn_code.specs.declared.image.ClassRow.{ClassRow}
use Rattle.jn_code.specs.Machine.{object_cells}
use Rattle.jn_code.proofs.Words.{get_left, get_right, get_either}
use Rattle.jn_sem.specs.Sharing.{Related}
use Rattle.jn_sem.specs.Slots.{Slot, IsSlot, FieldType}
use Rattle.jn_sem.specs.Values.{Value, Number, Truth, Null, Reference}
use Rattle.jn_sem.specs.State.{Stored, Object, same_slot, stored_value, with_object}
use Rattle.jn_sem.specs.Does.{IsFresh, AreFresh, zero_of}
use Rattle.jn_agree.specs.Naming.{Naming, First, IsWord}
use Rattle.jn_agree.specs.Matches.{World, Matches, Blocks, CellsOf, RowOf, SlotNumber, HasWord, ObjectAt}
use Rattle.jn_agree.specs.Rows.{RowsAre}
use Rattle.jn_sem.proofs.HeapLaws.{heap_laws}
use Rattle.jn_match_laws.proofs.RowLaws.{got_same, none_there, below}

blocks_more : (i : Image) (n : Naming) (xs : List Object) (cs : List First) (from end size : ℕ) (x : Object)
    (c : First) → c.cell ≡ end → c.made ≡ x.made → CellsOf i n x.made size → Blocks i n xs cs from end → Blocks i n
    (xs ++ x ∷ []) (cs ++ c ∷ []) from (end + size)
blocks_more i n [] [] from end size x c e m cells b =
    let s : from ≡ end = b in (e ∙ sym s, m, size, cells, ap (λ (k : ℕ). k + size) s)
blocks_more i n [] (d ∷ ds) from end size x c e m cells b = absurd b
blocks_more i n (y ∷ ys) [] from end size x c e m cells b = absurd b
blocks_more i n (y ∷ ys) (d ∷ ds) from end size x c e m cells b =
    (b.0, b.1, b.2, b.3, blocks_more i n ys ds (from + b.2) end size x c e m cells b.4)

pub blocks_long : (i : Image) (n : Naming) (xs : List Object) (cs : List First) (from end : ℕ)
    → Blocks i n xs cs from end → length xs ≡ length cs
blocks_long i n [] [] from end b = refl
blocks_long i n [] (c ∷ cs) from end b = absurd b
blocks_long i n (x ∷ xs) [] from end b = absurd b
blocks_long i n (x ∷ xs) (c ∷ cs) from end b = ap suc (blocks_long i n xs cs (from + b.2) end b.4)

zeros : (k j : ℕ) → j < k → slice_get (replicate k (pos 0)) j ≡ Some (pos 0)
zeros zero j lt = absurd (omega arith)
zeros (suc k) zero lt = refl
zeros (suc k) (suc j) lt = zeros k j (omega arith)

zeros_long : (k : ℕ) → length (replicate k (pos 0)) ≡ k
zeros_long zero = refl
zeros_long (suc k) = ap suc (zeros_long k)

zero_word : (p : Program) (n : Naming) (firsts : List First) (t : Ty) → IsWord p n firsts (zero_of t) (pos 0)
zero_word p n firsts ty.Int = record { is = refl }
zero_word p n firsts ty.Bool = record { is = refl }
zero_word p n firsts ty.Null = record { is = refl }
zero_word p n firsts ty.Void = record { is = refl }
zero_word p n firsts (ty.Class xs m) = record { is = refl }

-- what is stored in a new object
pub record Zeroed (p : Program) (V : Path) (s : Slot) (v : Value) : Type 0 where
  pub field : Name
  pub type : Ty
  pub is : FieldType p V field type
  pub slot : IsSlot p V field s
  pub value : v ≡ zero_of type

zeroed : (p : Program) (V : Path) (names : List Name) (xs : List Stored) (s : Slot) (v : Value)
    → Each (IsFresh p V) names xs → stored_value xs s ≡ Some v → Zeroed p V s v
zeroed p V [] [] s v e f = cc
zeroed p V [] (x ∷ xs) s v e f = elim e [ ]
zeroed p V (g ∷ gs) [] s v e f = elim e [ ]
zeroed p V (g ∷ gs) (x ∷ xs) s v (more h e) f = at_test (λ f. zeroed p V gs xs s v e f) (same_slot x.slot s) refl
  where
    value_of : Stored → Value
    value_of x = x.value

    at_test : (stored_value xs s ≡ Some v → Zeroed p V s v) → (b : Bool) → same_slot x.slot s ≡ b → Zeroed p V s v
    at_test later true b =
        let got : x.value ≡ v = got_same x.value v
        (sym (ap (λ (b : Bool). option_map (λ (x : Stored). x.value)
        (cond b (Some x) (find (λ (y : Stored). same_slot y.slot s) xs))) b) ∙ f) in
        record {
          field = g;
          type = h.ty;
          is = h.type;
          slot = subst (λ (s : Slot). IsSlot p V g s)
              ((heap_laws.values.same x.slot s).0 b) h.slot;
          value = sym got ∙ h.value;
        }
    at_test later false b =
        later (sym (ap (λ (b : Bool). option_map (λ (x : Stored). x.value)
        (cond b (Some x) (find (λ (y : Stored). same_slot y.slot s) xs))) b) ∙ f)

module _ (p : Program) (i : Image) (n : Naming) (rows : RowsAre p i n) where
  pub made : (x : World) (a : List ℤ) (V : Path) (k : ℕ) (row : ClassRow) (group : Group) (fresh : List Stored)
      → Matches p i n x a → Related p V V → RowOf i n V k row → slice_get i.groups row.group ≡ Some group →
      AreFresh p V fresh
      → length a + suc (length group.slots) < 4294967296
      → Matches p i n (record {
        firsts = x.firsts ++ record { cell = length a; made = V } ∷ [];
        heap =
            with_object x.heap (suc (length group.slots)) (record { made = V; stored = fresh });
      })
      (a ++ object_cells row.group group)
  made x a V k row group fresh ma self is grouped are room = record {
    blocks =
        subst (λ (e : ℕ). Blocks i n (x.heap.objects ++ y ∷ []) (x.firsts ++ c ∷ []) 0 e) (sym whole)
        (blocks_more i n x.heap.objects x.firsts 0 (length a) size y c refl refl cells ma.blocks);
    objects =
        λ o w d e f. at_object o w d (get_either x.heap.objects (y ∷ []) o w e) (get_either x.firsts (c ∷ []) o d f);
    used = whole ∙ ap (λ (u : ℕ). u + size) ma.used;
    small = omega (arith, whole, room);
  }
    where
      size : ℕ
      size = suc (length group.slots)

      y : Object
      y = record { made = V; stored = fresh }

      c : First
      c = record { cell = length a; made = V }

      new : List ℤ
      new = object_cells row.group group

      cells : CellsOf i n V size
      cells = record { k = k; row = row; is = is; group = group; at = grouped; cells = refl }

      new_long : length new ≡ size
      new_long = ap suc (length-replicate (length group.slots) (pos 0))

      whole : length (a ++ new) ≡ length a + size
      whole = length-append a new ∙ ap (λ (k : ℕ). length a + k) new_long

      same_long : length x.heap.objects ≡ length x.firsts
      same_long = blocks_long i n x.heap.objects x.firsts 0 (length a) ma.blocks

      -- an older object has what it had
      older : (w : Object) (d : First) → ObjectAt p i n x.firsts a w d.cell
          → ObjectAt p i n (x.firsts ++ c ∷ []) (a ++ new) w d.cell
      older w d old = record {
        group = λ k2 row2 is2. get_left a new d.cell (pos row2.group) (old.group k2 row2 is2);
        slots = λ V2 f2 s2 m2 v2 rel2 is_slot2 num2 st2.
            let was = old.slots V2 f2 s2 m2 v2 rel2 is_slot2 num2 st2 in
            record {
              word = was.word;
              at = get_left a new (d.cell + 1 + m2) was.word was.at;
              is =
                  grown v2 was.word was.is;
            };
      }
        where
          grown : (v : Value) (z : ℤ) → IsWord p n x.firsts v z → IsWord p n (x.firsts ++ c ∷ []) v z
          grown (Number w) z e = record { is = e.is }
          grown (Truth b) z e = record { is = e.is }
          grown Null z e = record { is = e.is }
          grown (Reference o R) z e =
              let j = e.is in record { is = (j.0, j.1, j.2, get_left x.firsts (c ∷ []) o j.1 j.3, j.4, j.5) }

      own : ObjectAt p i n (x.firsts ++ c ∷ []) (a ++ new) y (length a)
      own = record {
        group =
            λ k2 row2 is2. at_new 0 (pos row2.group) (omega arith)
            (ap (λ (r : ClassRow). Some (pos r.group)) (row_same k2 row2 is2));
        slots =
            λ V2 f2 s2 m2 v2 rel2 is_slot2 num2 st2. at_slot V2 f2 s2 m2 v2 rel2 is_slot2 num2
            (zeroed p V are.names fresh s2 v2 are.each st2);
      }
        where
          row_same : (k2 : ℕ) (row2 : ClassRow) → RowOf i n V k2 row2 → row ≡ row2
          row_same k2 row2 is2 =
              let one : k ≡ k2 = rows.classes.once k k2 V is.class is2.class in
              got_same row row2 (sym is.there ∙ ap (λ (k : ℕ). slice_get i.classes k) one ∙ is2.there)

          at_new : (j : ℕ) (z : ℤ) → {l : ℕ} → l ≡ length a + j → slice_get new j ≡ Some z
              → slice_get (a ++ new) l ≡ Some z
          at_new j z {l} e f = ap (λ (l : ℕ). slice_get (a ++ new) l) e ∙ get_right a new j ∙ f

          at_slot : (V2 : Path) (f2 : Name) (s2 : Slot) (m2 : ℕ) (v2 : Value) → Related p V V2
              → IsSlot p V2 f2 s2 → SlotNumber i n V2 f2 m2 → Zeroed p V s2 v2 → HasWord p n (x.firsts ++ c ∷ [])
              (a ++ new) (length a + 1 + m2) v2
          at_slot V2 f2 s2 m2 v2 rel2 is_slot2 num2 z =
              let low = below p i n rows V V2 f2 m2 size rel2 cells num2 in
              record {
                word = pos 0;
                at = at_new (suc m2) (pos 0) (omega arith) (zeros (length group.slots) m2 (omega (arith, low)));
                is =
                    subst (λ (v : Value). IsWord p n (x.firsts ++ c ∷ []) v (pos 0)) (sym z.value)
                    (zero_word p n (x.firsts ++ c ∷ []) z.type);
              }

      at_object : (o : ℕ) (w : Object) (d : First)
          → (slice_get x.heap.objects o ≡ Some w) ⊎
          ((j : ℕ) × (o ≡ length x.heap.objects + j) × (slice_get (y ∷ []) j ≡ Some w)) →
          (slice_get x.firsts o ≡ Some d) ⊎
          ((j : ℕ) × (o ≡ length x.firsts + j) × (slice_get (c ∷ []) j ≡ Some d)) → ObjectAt p i n
          (x.firsts ++ c ∷ []) (a ++ new) w d.cell
      at_object o w d (inl e) (inl f) = older w d (ma.objects o w d e f)
      at_object o w d (inl e) (inr f) =
          absurd (let lt = slice_get_within x.heap.objects o w e in let at = f.1 in omega (arith, lt, at, same_long))
      at_object o w d (inr e) (inl f) =
          absurd (let lt = slice_get_within x.firsts o d f in let at = e.1 in omega (arith, lt, at, same_long))
      at_object o w d (inr e) (inr f) =
          subst (λ (w : Object). ObjectAt p i n (x.firsts ++ c ∷ []) (a ++ new) w d.cell) (last y e.0 w e.2)
          (subst (λ (d : First). ObjectAt p i n (x.firsts ++ c ∷ []) (a ++ new) y d.cell) (last c f.0 d f.2) own)
        where
          last : {A : Type 0} (z : A) (j : ℕ) (u : A) → slice_get (z ∷ []) j ≡ Some u → z ≡ u
          last z zero u e = got_same z u e
          last z (suc j) u e = absurd (none_there j u e)
