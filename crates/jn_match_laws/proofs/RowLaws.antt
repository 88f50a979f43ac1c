-- What is found in the rows of an image.
use Rattle.std.proofs.Common.{◌≡◌, ℕ, zero, suc, ◌+◌, ◌<◌, ◌≤◌, List, [], ◌∷◌, Option, Some, Bool, true, false, refl, sym, ap, ◌∙◌, subst, arith, inl, inr, nat_eq, Contains}
use Rattle.std.specs.Prelude.{slice_get, get_or, length, if◌then◌else◌}
use Rattle.std.specs.Option.{option_map, option_and_then}
use Rattle.std.proofs.lemmas.Bool.{eqb-true, eqb-false, cases_lt}
use Rattle.std.proofs.lemmas.Map.Keys.{Less-from_sorted}
use Rattle.std.proofs.lemmas.Option.{slice_get-map, slice_get_within, slice_get-get_or}
use Rattle.jn_reach.specs.Each.{Each, more}
use Rattle.jn_base.specs.declared.tree.Name.{Name}
use Rattle.jn_base.specs.declared.tree.Program.{Program}
use Rattle.jn_base.specs.Paths.{Path}
use Rattle.jn_base.specs.ClassOrder.{Before, class_cmp}
use Rattle.jn_base.proofs.NameTests.{in_cons, in_none}
use Rattle.jn_code.specs.declared.image.Image.{Image}
use Rattle.jn_code.specs.declared.image.ClassRow.{ClassRow}
use Rattle.jn_code.specs.Machine.{ref_word, other_in, counterpart_of, viewed_as, viewed}
use Rattle.jn_code.proofs.Words.{ref_in_word}
use Rattle.jn_sem.specs.Sharing.{IsClass, Related, Counterpart, family_of}
use Rattle.jn_sem.specs.Slots.{FieldType}
use Rattle.jn_sem.specs.State.{Object}
use Rattle.jn_sem.proofs.SharedLaws.{sharing_laws}
use Rattle.jn_agree.specs.declared.selectors.FieldSel.{FieldSel}
use Rattle.jn_agree.specs.Naming.{Naming, First}
use Rattle.jn_agree.specs.Matches.{Blocks, CellsOf, SlotNumber}
use Rattle.jn_agree.specs.Rows.{RowIs, RowsAre, HasOther, kind_of_type}

pub none_there : {A : Type 0} (k : ℕ) (x : A) → slice_get [] k ≡ Some x → ⊥
none_there zero x e = cc
none_there (suc k) x e = cc

pub got_same : {A : Type 0} (x y : A) → Some x ≡ Some y → x ≡ y
got_same x y e = cc

at_or : {A : Type 0} (xs : List A) (k : ℕ) (x d : A) → slice_get xs k ≡ Some x → get_or xs k d ≡ x
at_or xs k x d e = got_same (get_or xs k d) x (sym (slice_get-get_or xs k d (slice_get_within xs k x e)) ∙ e)

each_at : {A B : Type 0} (R : A → B → Type 0) (xs : List A) (ys : List B) (k : ℕ) (x : A) → Each R xs ys
    → slice_get xs k ≡ Some x → (y : B) × (slice_get ys k ≡ Some y) × R x y
each_at R [] ys zero x e g = cc
each_at R [] ys (suc k) x e g = cc
each_at R (z ∷ xs) [] k x e g = elim e [ ]
each_at {A} {B} R (z ∷ xs) (y ∷ ys) zero x (more h e) g = (y, refl, subst (λ (x : A). R x y) (same z x g) h)
  where
    same : (z x : A) → Some z ≡ Some x → z ≡ x
    same z x e = cc
each_at R (z ∷ xs) (y ∷ ys) (suc k) x (more h e) g = each_at R xs ys k x e g

pub place_of : {A : Type 0} (xs : List A) (x : A) → Contains xs x → (k : ℕ) × (slice_get xs k ≡ Some x)
place_of [] x c = absurd (in_none x c)
place_of {A} (y ∷ ys) x c =
    elim (in_cons y ys x c) [
      | inl e ↦ (0, ap (λ (z : A). Some z) e)
      | inr h ↦
          (let r = place_of ys x h in (suc r.0, r.1))
    ]

-- a first cell is a cell
block_ends : (i : Image) (n : Naming) (xs : List Object) (cs : List First) (from end : ℕ)
    → Blocks i n xs cs from end → from ≤ end
block_ends i n [] [] from end b = let e : from ≡ end = b in omega arith
block_ends i n [] (c ∷ cs) from end b = absurd b
block_ends i n (x ∷ xs) [] from end b = absurd b
block_ends i n (x ∷ xs) (c ∷ cs) from end b = let r = block_ends i n xs cs (from + b.2) end b.4 in omega arith

pub block_low : (i : Image) (n : Naming) (xs : List Object) (cs : List First) (from end o : ℕ) (c : First)
    → Blocks i n xs cs from end → slice_get cs o ≡ Some c → (x : Object) × (slice_get xs o ≡ Some x) ×
    (c.made ≡ x.made) × (c.cell < end)
block_low i n [] [] from end o c b e = absurd (nothing o c e) where
  nothing : (o : ℕ) (c : First) → slice_get [] o ≡ Some c → ⊥
  nothing zero c e = cc
  nothing (suc o) c e = cc
block_low i n [] (d ∷ cs) from end o c b e = absurd b
block_low i n (x ∷ xs) [] from end o c b e = absurd b
block_low i n (x ∷ xs) (d ∷ cs) from end zero c b e =
    let s : d ≡ c = same d c e in
    let r = block_ends i n xs cs (from + b.2) end b.4 in
    let size = b.3.cells in
    let at : c.cell ≡ from = ap (λ (x : First). x.cell) (sym s) ∙ b.0 in
    (x, refl, ap (λ (x : First). x.made) (sym s) ∙ b.1, omega (arith, r, size, at))
  where
    same : (d c : First) → Some d ≡ Some c → d ≡ c
    same d c e = cc
block_low i n (x ∷ xs) (d ∷ cs) from end (suc o) c b e = block_low i n xs cs (from + b.2) end o c b.4 e

module _ (p : Program) (i : Image) (n : Naming) (rows : RowsAre p i n) where
  pub row_at : (V : Path) (k : ℕ) → slice_get n.classes k ≡ Some V
      → (row : ClassRow) × (slice_get i.classes k ≡ Some row) × RowIs p n V row
  row_at V k e = each_at (RowIs p n) n.classes i.classes k V rows.rows e

  pub class_number : (W : Path) → IsClass p W → (k : ℕ) × (slice_get n.classes k ≡ Some W)
  class_number W c = place_of n.classes W ((rows.classes.exact W).1 c.universe)

  ordered : (j k : ℕ) (R S : Path) → slice_get n.classes j ≡ Some R → slice_get n.classes k ≡ Some S → j < k
      → Before p R S
  ordered j k R S e f lt =
      let less =
      Less-from_sorted (class_cmp p) n.classes j k R rows.classes.in_order lt (slice_get_within n.classes k S f) in
      subst (λ (Q : Path). Before p R Q) (at_or n.classes k S R f)
      (subst (λ (Q : Path). Before p Q (get_or n.classes k R)) (at_or n.classes j R R e) less)

  -- two classes are one where neither is before the other
  same_class : (R S : Path) → IsClass p R → IsClass p S → (Before p R S → ⊥) → (Before p S R → ⊥) → R ≡ S
  same_class R S r s a b = at_places (class_number R r) (class_number S s)
    where
      at_places : (j : (k : ℕ) × (slice_get n.classes k ≡ Some R))
          → (k : (k : ℕ) × (slice_get n.classes k ≡ Some S)) → R ≡ S
      at_places j k = elim (cases_lt j.0 k.0) [
        | inl lt ↦ absurd (a (ordered j.0 k.0 R S j.1 k.1 lt))
        | inr ge ↦ elim (cases_lt k.0 j.0) [
          | inl lt ↦ absurd (b (ordered k.0 j.0 S R k.1 j.1 lt))
          | inr le ↦ got_same R S (sym j.1 ∙ ap (λ (q : ℕ). slice_get n.classes q)
              (let same : j.0 ≡ k.0 = omega (arith, ge, le) in same) ∙ k.1)
        ]
      ]

  -- classes of one group have its number
  pub same_group : (V W : Path) (r s : ClassRow) → Related p V W → RowIs p n V r → RowIs p n W s → r.group ≡ s.group
  same_group V W r s rel v w =
      let g = v.group.of_class rel.one in
      let h = w.group.of_class rel.other in
      let laws = sharing_laws p in
      let one : g.0 ≡ h.0 =
      same_class g.0 h.0 g.1.holds.other h.1.holds.other
      (h.1.first g.0 (laws.joined W V g.0 (laws.turned V W rel) g.1.holds))
      (g.1.first h.0 (laws.joined V W h.0 rel h.1.holds)) in
      rows.firsts.once r.group s.group h.0 (g.2 ∙ ap (λ (Q : Path). Some Q) one) h.2

  -- the slot of a class is one of the cells of each object of its group
  pub below : (V W : Path) (f : Name) (m size : ℕ) → Related p V W → CellsOf i n V size → SlotNumber i n W f m
      → suc m < size
  below V W f m size rel cells number =
      let v = row_at V cells.k cells.is.class in
      let w = row_at W number.k number.is.class in
      let v_row : v.0 ≡ cells.row = got_same v.0 cells.row (sym v.1 ∙ cells.is.there) in
      let w_row : w.0 ≡ number.row = got_same w.0 number.row (sym w.1 ∙ number.is.there) in
      let w_is : RowIs p n W number.row = subst (λ (r : ClassRow). RowIs p n W r) w_row w.2 in
      let entry = w_is.fields number.s m number.slot in
      let sel : entry.sel ≡ number.sel = got_same entry.sel number.sel (sym entry.selector ∙ number.selector) in
      let named : entry.sel.name ≡ f = ap (λ (x : FieldSel). x.name) sel ∙ number.name in
      let type : FieldType p W f entry.type = subst (λ (g : Name). FieldType p W g entry.type) named entry.is in
      let group : cells.row.group ≡ number.row.group = same_group V W cells.row number.row rel
      (subst (λ (r : ClassRow). RowIs p n V r) v_row v.2) w_is in
      let at : slice_get i.groups number.row.group ≡ Some cells.group = ap (λ (k : ℕ). slice_get i.groups k)
      (sym group) ∙ cells.at in
      let kind = rows.groups.kinds W number.k m number.row cells.group f entry.type number.is at number type in
      let low : m < length cells.group.slots = slice_get_within cells.group.slots m (kind_of_type entry.type) kind in
      let whole = cells.cells in
      omega (arith, low, whole)

  pub kind_at : (s : ℕ) (sel : FieldSel) → slice_get n.fields s ≡ Some sel → slice_get i.fields s ≡ Some sel.kind
  kind_at s sel e =
      ap (λ (ks : List ℕ). slice_get ks s) (sym rows.kinds) ∙ slice_get-map (λ (x : FieldSel). x.kind) n.fields s ∙ ap
      (option_map (λ (x : FieldSel). x.kind)) e

  -- the counterpart of the class V in the family number f is found by its row
  pub counterpart_found : (V W : Path) (k f : ℕ) (Y : Name) (row : ClassRow) → slice_get n.classes k ≡ Some V
      → RowIs p n V row → slice_get n.classes f ≡ Some (Y ∷ []) → Counterpart p Y V W → (j : ℕ) ×
      (counterpart_of k row f ≡ Some j) × (slice_get n.classes j ≡ Some W)
  counterpart_found V W k f Y row at is fam cp = at_test (nat_eq row.family f) refl
    where
      in_own : (X : Name) → family_of V ≡ Some X → slice_get n.classes row.family ≡ Some (Y ∷ []) → X ≡ Y
      in_own X e g = head X Y (sym (is.family X e) ∙ g)
        where
          head : (X Y : Name) → Some (X ∷ []) ≡ Some (Y ∷ []) → X ≡ Y
          head X Y e = cc

      has_family : (R : Path) → IsClass p R → (X : Name) × (family_of R ≡ Some X)
      has_family [] c = absurd c.universe
      has_family (C ∷ P) c = name C P
        where
          name : (C : Name) (P : Path) → (X : Name) × (family_of (C ∷ P) ≡ Some X)
          name C [] = (C, refl)
          name C (D ∷ P) = name D P

      mine : (X : Name) × (family_of V ≡ Some X)
      mine = has_family V cp.related.one

      at_test : (t : Bool) → nat_eq row.family f ≡ t
          → (j : ℕ) × ((if t then Some k else other_in row f) ≡ Some j) × (slice_get n.classes j ≡ Some W)
      at_test true e =
          let same : row.family ≡ f = eqb-true row.family f e in
          let g : slice_get n.classes row.family ≡ Some (Y ∷ []) = ap (λ (f : ℕ). slice_get n.classes f) same ∙ fam in
          let own : family_of V ≡ Some Y = mine.1 ∙ ap (λ (X : Name). Some X) (in_own mine.0 mine.1 g) in
          let self = (sharing_laws p).own Y V cp.related.one own in
          (k, refl, at ∙ ap (λ (R : Path). Some R) (self.is ∙ sym cp.is))
      at_test false e =
          let num = class_number W cp.related.other in
          let entry : HasOther p n V f num.0 = record {
            family = Y;
            number = fam;
            other = λ own. eqb-false row.family f e (rows.classes.once row.family f (Y ∷ []) (is.family Y own) fam);
            class = W;
            counterpart = cp;
            at = num.1;
          } in
          (num.0, (is.others f num.0).1 entry, num.1)

  -- a reference, viewed in a family
  pub viewed_found : (V W : Path) (k f cell : ℕ) (Y : Name) → cell < 4294967296 → slice_get n.classes k ≡ Some V
      → slice_get n.classes f ≡ Some (Y ∷ []) → Counterpart p Y V W → (j : ℕ) ×
      (viewed i f (ref_word k cell) ≡ Some (ref_word j cell)) × (slice_get n.classes j ≡ Some W)
  viewed_found V W k f cell Y low at fam cp =
      let row = row_at V k at in
      let found = counterpart_found V W k f Y row.0 at row.2 fam cp in (
        found.0,
        ap (viewed_as i f (ref_word k cell)) (ref_in_word (record { view = k; cell = cell }) low)
            ∙ ap (λ (o : Option ClassRow). option_and_then
            (λ (row : ClassRow). option_map (λ j. ref_word j cell) (counterpart_of k row f)) o) row.1
            ∙ ap (option_map (λ j. ref_word j cell)) found.1,
        found.2,
      )
