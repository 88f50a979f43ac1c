-- A slot gets a value: the arena still matches.
use Rattle.std.proofs.Common.{◌≡◌, ◌≢◌, ℕ, zero, suc, ◌+◌, ◌<◌, ◌≤◌, List, [], ◌∷◌, length, Some, Bool, true, false, refl, sym, ap, ◌∙◌, subst, arith, nat_eq, inl, inr, ◌⊎◌}
use Rattle.std.specs.Prelude.{ℤ, pos, cond, slice_get, slice_set, get_or}
use Rattle.std.proofs.lemmas.Option.{slice_get-get_or}
use Rattle.std.proofs.lemmas.Bool.{eqb-true, eqb-false}
use Rattle.jn_base.specs.declared.tree.Name.{Name}
use Rattle.jn_base.specs.declared.tree.Program.{Program}
use Rattle.jn_base.specs.Paths.{Path}
use Rattle.jn_code.specs.declared.image.Image.{Image}
use Rattle.jn_code.proofs.Sound.{set_same, set_other, set_long}
use Rattle.jn_sem.specs.Sharing.{Related}
use Rattle.jn_sem.specs.Slots.{Slot, IsSlot}
use Rattle.jn_sem.specs.Values.{Value}
use Rattle.jn_sem.specs.State.{Stored, Object, same_slot, stored_value, with_stored, with_slot}
use Rattle.jn_sem.proofs.HeapLaws.{heap_laws}
use Rattle.jn_sem.proofs.SharedLaws.{sharing_laws}
use Rattle.jn_agree.specs.Naming.{Naming, First, IsWord}
use Rattle.jn_agree.specs.Matches.{World, Matches, Blocks, CellsOf, SlotNumber, HasWord, ObjectAt}
use Rattle.jn_agree.specs.Rows.{RowsAre}
use Rattle.jn_match_laws.proofs.RowLaws.{none_there, got_same, below, block_low}

-- ---- blocks

ends : (i : Image) (n : Naming) (xs : List Object) (cs : List First) (from end : ℕ) → Blocks i n xs cs from end
    → from ≤ end
ends i n [] [] from end b = let e : from ≡ end = b in omega arith
ends i n [] (c ∷ cs) from end b = absurd b
ends i n (x ∷ xs) [] from end b = absurd b
ends i n (x ∷ xs) (c ∷ cs) from end b = let r = ends i n xs cs (from + b.2) end b.4 in omega arith

pub record BlockAt (i : Image) (n : Naming) (x : Object) (c : First) (from end : ℕ) : Type 0 where
  pub size : ℕ
  pub cells : CellsOf i n x.made size
  pub low : from ≤ c.cell
  pub high : c.cell + size ≤ end

pub block_at : (i : Image) (n : Naming) (xs : List Object) (cs : List First) (from end o : ℕ) (x : Object) (c : First)
    → Blocks i n xs cs from end → slice_get xs o ≡ Some x → slice_get cs o ≡ Some c → BlockAt i n x c from end
block_at i n [] cs from end o x c b e f = absurd (none_there o x e)
block_at i n (y ∷ ys) [] from end o x c b e f = absurd b
block_at i n (y ∷ ys) (d ∷ ds) from end zero x c b e f =
    let g = got_same y x e in
    let h = got_same d c f in
    let at : c.cell ≡ from = ap (λ (d : First). d.cell) (sym h) ∙ b.0 in
    let r = ends i n ys ds (from + b.2) end b.4 in
    record {
      size = b.2;
      cells = subst (λ (x : Object). CellsOf i n x.made b.2) g b.3;
      low = omega (arith, at);
      high =
          omega (arith, at, r);
    }
block_at i n (y ∷ ys) (d ∷ ds) from end (suc o) x c b e f =
    let r = block_at i n ys ds (from + b.2) end o x c b.4 e f in
    let low = r.low in
    record { size = r.size; cells = r.cells; low = omega (arith, low); high = r.high }

-- two objects have cells of their own
pub record Apart (i : Image) (n : Naming) (x y : Object) (c d : First) : Type 0 where
  pub one : ℕ
  pub other : ℕ
  pub one_cells : CellsOf i n x.made one
  pub other_cells : CellsOf i n y.made other
  pub apart : (c.cell + one ≤ d.cell) ⊎ (d.cell + other ≤ c.cell)

apart : (i : Image) (n : Naming) (xs : List Object) (cs : List First) (from end o q : ℕ) (x y : Object) (c d : First)
    → o ≢ q → Blocks i n xs cs from end → slice_get xs o ≡ Some x → slice_get cs o ≡ Some c → slice_get xs q ≡ Some y
    → slice_get cs q ≡ Some d → Apart i n x y c d
apart i n [] cs from end o q x y c d ne b e f g h = absurd (none_there o x e)
apart i n (z ∷ zs) [] from end o q x y c d ne b e f g h = absurd b
apart i n (z ∷ zs) (k ∷ ks) from end zero zero x y c d ne b e f g h = absurd (ne refl)
apart i n (z ∷ zs) (k ∷ ks) from end zero (suc q) x y c d ne b e f g h =
    let r = block_at i n zs ks (from + b.2) end q y d b.4 g h in
    let at : c.cell ≡ from = ap (λ (d : First). d.cell) (sym (got_same k c f)) ∙ b.0 in
    let low = r.low in
    record {
      one = b.2;
      other = r.size;
      one_cells = subst (λ (x : Object). CellsOf i n x.made b.2)
          (got_same z x e) b.3;
      other_cells = r.cells;
      apart = inl (omega (arith, at, low));
    }
apart i n (z ∷ zs) (k ∷ ks) from end (suc o) zero x y c d ne b e f g h =
    let r = block_at i n zs ks (from + b.2) end o x c b.4 e f in
    let at : d.cell ≡ from = ap (λ (d : First). d.cell) (sym (got_same k d h)) ∙ b.0 in
    let low = r.low in
    record {
      one = r.size;
      other = b.2;
      one_cells = r.cells;
      other_cells = subst
          (λ (x : Object). CellsOf i n x.made b.2) (got_same z y g) b.3;
      apart = inr (omega (arith, at, low));
    }
apart i n (z ∷ zs) (k ∷ ks) from end (suc o) (suc q) x y c d ne b e f g h =
    apart i n zs ks (from + b.2) end o q x y c d (λ s. ne (ap suc s)) b.4 e f g h

-- a later object has another first cell
behind : (i : Image) (n : Naming) (z : Object) (zs : List Object) (k : First) (ks : List First) (from end q : ℕ)
    (c d : First) → Blocks i n (z ∷ zs) (k ∷ ks) from end → Some k ≡ Some c → slice_get ks q ≡ Some d
    → c.cell ≡ d.cell → ⊥
behind i n z zs k ks from end q c d b e f same =
    let found = block_low i n zs ks (from + b.2) end q d b.4 f in
    let r = block_at i n zs ks (from + b.2) end q found.0 d b.4 found.1 f in
    let at : c.cell ≡ from = ap (λ (d : First). d.cell) (sym (got_same k c e)) ∙ b.0 in
    let low = r.low in
    let size = b.3.cells in
    omega (arith, at, low, size, same)

-- one first cell, one object
pub one_object : (i : Image) (n : Naming) (xs : List Object) (cs : List First) (from end o q : ℕ) (c d : First)
    → Blocks i n xs cs from end → slice_get cs o ≡ Some c → slice_get cs q ≡ Some d → c.cell ≡ d.cell → o ≡ q
one_object i n [] [] from end o q c d b e f same = absurd (none_there o c e)
one_object i n [] (k ∷ ks) from end o q c d b e f same = absurd b
one_object i n (z ∷ zs) [] from end o q c d b e f same = absurd b
one_object i n (z ∷ zs) (k ∷ ks) from end zero zero c d b e f same = refl
one_object i n (z ∷ zs) (k ∷ ks) from end zero (suc q) c d b e f same =
    absurd (behind i n z zs k ks from end q c d b e f same)
one_object i n (z ∷ zs) (k ∷ ks) from end (suc o) zero c d b e f same =
    absurd (behind i n z zs k ks from end o d c b f e (sym same))
one_object i n (z ∷ zs) (k ∷ ks) from end (suc o) (suc q) c d b e f same =
    ap suc (one_object i n zs ks (from + b.2) end o q c d b.4 e f same)

-- the blocks are those of the classes alone
blocks_set : (i : Image) (n : Naming) (xs : List Object) (cs : List First) (from end o : ℕ) (x y : Object)
    → y.made ≡ x.made → Blocks i n xs cs from end → slice_get xs o ≡ Some x → Blocks i n (slice_set xs o y) cs from end
blocks_set i n [] cs from end o x y m b e = absurd (none_there o x e)
blocks_set i n (z ∷ zs) [] from end o x y m b e = no_first i n z zs o y from end b
  where
    no_first : (i : Image) (n : Naming) (z : Object) (zs : List Object) (o : ℕ) (y : Object) (from end : ℕ) → ⊥
        → Blocks i n (slice_set (z ∷ zs) o y) [] from end
    no_first i n z zs o y from end b = absurd b
blocks_set i n (z ∷ zs) (k ∷ ks) from end zero x y m b e =
    let same : z.made ≡ y.made = ap (λ (x : Object). x.made) (got_same z x e) ∙ sym m in
    (b.0, b.1 ∙ same, b.2, subst (λ (R : Path). CellsOf i n R b.2) same b.3, b.4)
blocks_set i n (z ∷ zs) (k ∷ ks) from end (suc o) x y m b e =
    (b.0, b.1, b.2, b.3, blocks_set i n zs ks (from + b.2) end o x y m b.4 e)

-- ---- the store

stored_case : (sl s : Slot) (v : Value) (xs : List Stored) (t : Bool) → same_slot sl s ≡ t
    → stored_value (with_stored xs sl v) s ≡ cond t (Some v) (stored_value xs s)
stored_case sl s v xs t e =
    heap_laws.values.stored xs sl s v ∙ ap (λ (b : Bool). cond b (Some v) (stored_value xs s)) e

slot_differs : (s t : Slot) → same_slot s t ≡ false → s ≡ t → ⊥
slot_differs s t e f = clash (sym ((heap_laws.values.same s t).1 f) ∙ e)
  where
    clash : true ≡ false → ⊥
    clash e = cc

module _ (p : Program) (i : Image) (n : Naming) (rows : RowsAre p i n) where
  abbrev with_value : Object → Slot → Value → Object
  with_value y sl v = record y { stored = with_stored y.stored sl v }

  pub stored : (x : World) (a : List ℤ) (o : ℕ) (y : Object) (c : First) (V : Path) (f : Name) (sl : Slot) (m : ℕ)
      (v : Value) (z : ℤ) → Matches p i n x a → slice_get x.heap.objects o ≡ Some y → slice_get x.firsts o ≡ Some c
      → Related p y.made V → IsSlot p V f sl → SlotNumber i n V f m → IsWord p n x.firsts v z
      → Matches p i n (record { firsts = x.firsts; heap = with_slot x.heap o y sl v }) (slice_set a (c.cell + 1 + m) z)
  stored x a o y c V f sl m v z ma oy oc rel is_slot number word = record {
    blocks =
        subst (λ (k : ℕ). Blocks i n (slice_set x.heap.objects o (with_value y sl v)) x.firsts 0 k)
        (sym (set_long a place z)) (blocks_set i n x.heap.objects x.firsts 0 (length a) o y
        (with_value y sl v) refl ma.blocks oy);
    objects = λ q w d e g. at_object q w d e g (nat_eq q o) refl;
    used = set_long a place z ∙ ma.used;
    small = let e = set_long a place z in let s = ma.small in omega (arith, e, s);
  }
    where
      place : ℕ
      place = c.cell + 1 + m

      block : BlockAt i n y c 0 (length a)
      block = block_at i n x.heap.objects x.firsts 0 (length a) o y c ma.blocks oy oc

      there : place < length a
      there =
          let b = block.high in let s = below p i n rows y.made V f m block.size rel block.cells number in omega
          (arith, b, s)

      at_place : slice_get (slice_set a place z) place ≡ Some z
      at_place = set_same a place z (get_or a place (pos 0)) (slice_get-get_or a place (pos 0) there)

      elsewhere : (k : ℕ) → k ≢ place → slice_get (slice_set a place z) k ≡ slice_get a k
      elsewhere k ne = set_other a place z k ne

      -- another object
      at_other : (q : ℕ) (w : Object) (d : First) → q ≢ o → slice_get x.heap.objects q ≡ Some w
          → slice_get x.firsts q ≡ Some d → ObjectAt p i n x.firsts (slice_set a place z) w d.cell
      at_other q w d ne e g =
          let old = ma.objects q w d e g in
          let r = apart i n x.heap.objects x.firsts 0 (length a) q o w y d c ne ma.blocks e g oy oc in
          let own = r.one_cells.cells in
          let mine = below p i n rows y.made V f m r.other rel r.other_cells number in
          record {
            group =
                λ k row is. elsewhere d.cell (λ same.
                elim r.apart [ inl l ↦ omega (arith, l, own, same) | inr h ↦ omega (arith, h, mine, same) ]) ∙
                old.group k row is;
            slots = λ V2 f2 s2 m2 v2 rel2 is2 num2 st2.
                let was = old.slots V2 f2 s2 m2 v2 rel2 is2 num2 st2 in
                let his = below p i n rows w.made V2 f2 m2 r.one rel2 r.one_cells num2 in
                record {
                  word = was.word;
                  at =
                      elsewhere (d.cell + 1 + m2) (λ same.
                      elim r.apart [ inl l ↦ omega (arith, l, his, same) | inr h ↦ omega (arith, h, mine, same) ])
                      ∙ was.at;
                  is = was.is;
                };
          }

      at_same : ObjectAt p i n x.firsts (slice_set a place z) (with_value y sl v) c.cell
      at_same = record {
        group = λ k row is. elsewhere c.cell (λ same. omega (arith, same)) ∙ (ma.objects o y c oy oc).group k row is;
        slots = λ V2 f2 s2 m2 v2 rel2 is2 num2 st2. at_slot V2 f2 s2 m2 v2 rel2 is2 num2 st2 (same_slot sl s2) refl;
      }
        where
          at_slot : (V2 : Path) (f2 : Name) (s2 : Slot) (m2 : ℕ) (v2 : Value) → Related p y.made V2
              → IsSlot p V2 f2 s2 → SlotNumber i n V2 f2 m2 → stored_value (with_stored y.stored sl v) s2 ≡ Some v2 →
              (b : Bool) → same_slot sl s2 ≡ b → HasWord p n x.firsts (slice_set a place z) (c.cell + 1 + m2) v2
          at_slot V2 f2 s2 m2 v2 rel2 is2 num2 st2 true e =
              let between = (sharing_laws p).joined V y.made V2 ((sharing_laws p).turned y.made V rel) rel2 in
              let one_slot : sl ≡ s2 = (heap_laws.values.same sl s2).0 e in
              let one : m ≡ m2 = (rows.slots.same V V2 f f2 sl s2 m m2 between is_slot is2 number num2).1 one_slot in
              let value : v ≡ v2 = got_same v v2 (sym (stored_case sl s2 v y.stored true e) ∙ st2) in
              record {
                word = z;
                at = ap (λ (k : ℕ). slice_get (slice_set a place z) (c.cell + 1 + k)) (sym one) ∙ at_place;
                is = subst (λ (v : Value). IsWord p n x.firsts v z) value word;
              }
          at_slot V2 f2 s2 m2 v2 rel2 is2 num2 st2 false e =
              let between = (sharing_laws p).joined V y.made V2 ((sharing_laws p).turned y.made V rel) rel2 in
              let was =
              (ma.objects o y c oy oc).slots V2 f2 s2 m2 v2 rel2 is2 num2
              (sym (stored_case sl s2 v y.stored false e) ∙ st2) in
              let ne : m ≢ m2 = λ same. slot_differs sl s2 e
              ((rows.slots.same V V2 f f2 sl s2 m m2 between is_slot is2 number num2).0 same) in
              record {
                word = was.word;
                at = elsewhere (c.cell + 1 + m2) (λ same. ne (omega (arith, same))) ∙ was.at;
                is = was.is;
              }

      at_object : (q : ℕ) (w : Object) (d : First)
          → slice_get (slice_set x.heap.objects o (with_value y sl v)) q ≡ Some w → slice_get x.firsts q ≡ Some d →
          (t : Bool) → nat_eq q o ≡ t → ObjectAt p i n x.firsts (slice_set a place z) w d.cell
      at_object q w d e g true same =
          let here : q ≡ o = eqb-true q o same in
          let w_is : with_value y sl v ≡ w = got_same (with_value y sl v) w
          (sym (set_same x.heap.objects o (with_value y sl v) y oy) ∙ ap
          (λ (k : ℕ). slice_get (slice_set x.heap.objects o (with_value y sl v)) k) (sym here) ∙ e) in
          let d_is : c ≡ d = got_same c d (sym oc ∙ ap (λ (k : ℕ). slice_get x.firsts k) (sym here) ∙ g) in
          subst (λ (w : Object). ObjectAt p i n x.firsts (slice_set a place z) w d.cell) w_is
          (subst (λ (d : First). ObjectAt p i n x.firsts (slice_set a place z)
          (with_value y sl v) d.cell) d_is at_same)
      at_object q w d e g false same =
          at_other q w d (eqb-false q o same)
          (sym (set_other x.heap.objects o (with_value y sl v) q (eqb-false q o same)) ∙ e) g
