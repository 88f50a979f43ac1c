-- Reading a field, of kind 3 and of kind 4.
use Rattle.std.proofs.Common.{◌≡◌, ℕ, suc, ◌+◌, ◌<◌, List, [], ◌∷◌, length, Option, Some, None, Bool, true, false, refl, sym, ap, ◌∙◌, subst, arith, nat_eq}
use Rattle.std.specs.Prelude.{ℤ, pos, slice_get, if◌then◌else◌}
use Rattle.std.specs.Option.{option_and_then}
use Rattle.jn_steps.specs.Steps.{Faults, on_some}
use Rattle.jn_base.specs.declared.tree.Name.{Name}
use Rattle.jn_base.specs.declared.tree.Program.{Program}
use Rattle.jn_base.specs.declared.types.Ty.{Ty}
use Rattle.jn_base.specs.declared.types.Ty.TheVariants as ty
use Rattle.jn_base.specs.Paths.{Path}
use Rattle.jn_base.specs.Atoms.{Among, atoms_in}
use Rattle.jn_code.specs.declared.instr.Instr.TheVariants as ins
use Rattle.jn_code.specs.declared.image.Image.{Image}
use Rattle.jn_code.specs.declared.image.Code.{Code}
use Rattle.jn_code.specs.declared.image.ClassRow.{ClassRow}
use Rattle.jn_code.specs.Machine.{Halt, Ref, move, obey, ref_word, ref_in, slot_in, viewed, field_value, next}
use Rattle.jn_code.specs.Machine as machine
use Rattle.jn_code.proofs.Words.{ref_in_word}
use Rattle.jn_sem.specs.declared.outcome.Why.TheVariants as why
use Rattle.jn_sem.specs.Values.{Value, Number, Truth, Null, Reference}
use Rattle.jn_sem.specs.Terms.{Site}
use Rattle.jn_sem.specs.Sharing.{HangsOnThis, Counterpart, family_of, Related}
use Rattle.jn_sem.specs.Slots.{Slot, IsSlot, FieldType}
use Rattle.jn_sem.specs.Asks.{OnOnly, OnTest, OnSome, found, not_found, holds, fails}
use Rattle.jn_sem.specs.Acts.{Get, Todo, todo}
use Rattle.jn_sem.specs.State.{Heap, Frame, Object, stored_value, slot_value}
use Rattle.jn_sem.specs.Does.{Ending, AtNull, Stuck, Did, Does, Way, masked, on_object, on_read, on_viewed, goes}
use Rattle.jn_sem.specs.Does as does
use Rattle.jn_sem.proofs.SharedLaws.{sharing_laws}
use Rattle.jn_sem.specs.declared.outcome.Why.{Why}
use Rattle.jn_node_laws.proofs.Ways.{w_first, w_object, w_only, w_some, top_word}
use Rattle.jn_agree.specs.declared.selectors.FieldSel.{FieldSel}
use Rattle.jn_agree.specs.Naming.{Naming, First, IsWord}
use Rattle.jn_agree.specs.Matches.{World, Matches, SlotNumber}
use Rattle.jn_agree.specs.Rows.{RowIs, RowsAre, FieldKind, plain, hanging, kind_of_type}
use Rattle.jn_agree.specs.Follows.{Knows, blank, Follows, rate}
use Rattle.jn_node_laws.specs.Cont.{of_frame, Layout, LaidOut, Takes, PlacedOn, active, ContOn, LeadsTo}
use Rattle.jn_node_laws.specs.Facts.{OfKind, ReadsWell}
use Rattle.jn_agree.specs.Places.{At, FieldOf}
use Rattle.jn_match_laws.proofs.RowLaws.{row_at, kind_at, viewed_found, block_low}
use Rattle.jn_node_laws.proofs.Nodes.{node, moved, goes_on, stuck, faults, comes, goes_in, Next, with_operands}

pub some_goes : {A : Type 0} (fault : Halt) (o : Option A) (a : A) (go : A → machine.Did) → o ≡ Some a →
    on_some fault o go ≡ go a
some_goes fault o a go e = ap (λ o. on_some fault o go) e

-- a type that hangs on `this` is a class type
no_hang : (t : Ty) → atoms_in t ≡ [] → HangsOnThis t → ⊥
no_hang t e h = none (subst (λ (xs : List _). Among xs h.atom) e h.among)
  where
    none : {A : Type 0} {x : A} → Among [] x → ⊥
    none h = elim h [ ]

module _ (p : Program) (i : Image) (n : Naming) (m : ℕ) (K : Knows) (T : Type 0) (Stands : T → Frame → Heap → Type 0)
    (code : ℕ) (it : Code) (there : slice_get i.codes code ≡ Some it) (r : Frame) (rows : RowsAre p i n) where
  -- what the machine gives for a value that is read, before it is viewed
  pub record Reads (t : Ty) (kind fam : ℕ) (x : World) (u : ℤ) (v : Value) : Type 0 where
    pub word : ℤ
    pub is : field_value i kind fam u ≡ Some word
    pub stands : IsWord p n x.firsts v word

  plain_value : (kind fam : ℕ) (u : ℤ) → nat_eq kind 4 ≡ false → field_value i kind fam u ≡ Some u
  plain_value kind fam u e = ap (λ (b : Bool). if b then viewed i fam u else Some u) e

  -- a number or a truth value
  simple_kind : (t : Ty) (kind : ℕ) → atoms_in t ≡ [] → nat_eq (kind_of_type t) 4 ≡ false → FieldKind t kind →
      nat_eq kind 4 ≡ false
  simple_kind t kind e f (plain not_it k) = ap (λ (k : ℕ). nat_eq k 4) k ∙ f
  simple_kind t kind e f (hanging h k) = absurd (no_hang t e h)

  null_value : (kind fam : ℕ) (t : Bool) → nat_eq kind 4 ≡ t → field_value i kind fam (pos 0) ≡ Some (pos 0)
  null_value kind fam true e = ap (λ (b : Bool). if b then viewed i fam (pos 0) else Some (pos 0)) e
  null_value kind fam false e = ap (λ (b : Bool). if b then viewed i fam (pos 0) else Some (pos 0)) e

  -- what is read, whatever goes on with it
  read : (V : Path) (t : Ty) (kind : ℕ) (row : ClassRow) (x : World) (a : List ℤ) (v : Value) (u : ℤ)
      (go : Value → Way) (Q : Did → Type 0) (d : Did) → RowIs p n V row → Matches p i n x a → FieldKind t kind →
      OfKind t v → IsWord p n x.firsts v u
      → ((d : Did) (why : _) → d ≡ Faults (Stuck why) → Q d) →
      ((v : Value) (d : Did) → Reads t kind row.family x u v → go v d → Q d) → on_read p V t v go d → Q d
  read V ty.Int kind row x a (Number z) u go Q d is ma fk ok w no_way on h = on (Number z) d
      (record { word = u; is = plain_value kind row.family u (simple_kind ty.Int kind refl refl fk); stands = w }) h
  read V ty.Bool kind row x a (Truth z) u go Q d is ma fk ok w no_way on h = on (Truth z) d
      (record { word = u; is = plain_value kind row.family u (simple_kind ty.Bool kind refl refl fk); stands = w }) h
  read V t kind row x a Null u go Q d is ma fk ok w no_way on h =
      on Null d (record {
        word = u;
        is = ap (field_value i kind row.family) w.is ∙ null_value kind row.family
            (nat_eq kind 4) refl ∙ ap (λ (z : ℤ). Some z) (sym w.is);
        stands = w;
      }) h
  read V (ty.Class xs mk) kind row x a (Reference o W) u go Q d is ma fk ok w no_way on h = at_test h
    where
      t : Ty
      t = ty.Class xs mk

      fits : (HangsOnThis (ty.Class xs mk) → ⊥) → FieldKind (ty.Class xs mk) kind → nat_eq kind 4 ≡ false
      fits not_it (plain g k) = ap (λ (k : ℕ). nat_eq k 4) k
      fits not_it (hanging g k) = absurd (not_it g)

      is_four : HangsOnThis (ty.Class xs mk) → FieldKind (ty.Class xs mk) kind → kind ≡ 4
      is_four hangs (plain g k) = absurd (g hangs)
      is_four hangs (hanging g k) = k

      in_family : HangsOnThis (ty.Class xs mk) → (Y : Name) → family_of V ≡ Some Y → OnOnly
          (Counterpart p Y W) does.missing (λ U. go (Reference o U)) d → Q d
      in_family hangs Y fam (not_found none e) = no_way d why.Missing e
      in_family hangs Y fam (found U only g) =
          let ws = w.is in
          let low = block_low i n x.heap.objects x.firsts 0 (length a) o ws.1 ma.blocks ws.3 in
          let small = ma.small in
          let cell : ws.1.cell < 4294967296 = omega (arith, low.3, small) in
          let got = viewed_found p i n rows W U ws.0 row.family ws.1.cell Y cell ws.2 (is.family Y fam) only.is in
          on (Reference o U) d (record {
            word = ref_word got.0 ws.1.cell;
            is = ap (λ (k : ℕ). field_value i k row.family u) (is_four hangs fk) ∙ ap (viewed i row.family) ws.5 ∙
                got.1;
            stands = record {
              is = (
                got.0,
                ws.1,
                got.2,
                ws.3,
                (sharing_laws p).joined ws.1.made W U ws.4 only.is.related,
                refl,
              );
            };
          }) g

      at_family : HangsOnThis (ty.Class xs mk) → (f : Option Name) → family_of V ≡ f → OnSome f does.missing
          (λ Y. on_viewed p Y (Reference o W) go) d → Q d
      at_family hangs None e h = no_way d why.Missing h
      at_family hangs (Some Y) e h = in_family hangs Y e h

      at_test : OnTest (HangsOnThis (ty.Class xs mk)) (go (Reference o W))
          (OnSome (family_of V) does.missing (λ Y. on_viewed p Y (Reference o W) go)) d → Q d
      at_test (fails not_it g) = on (Reference o W) d
          (record { word = u; is = plain_value kind row.family u (fits not_it fk); stands = w }) g
      at_test (holds hangs g) = at_family hangs (family_of V) refl g
  read V t kind row x a v u go Q d is ma fk ok w no_way on h = absurd ok

  -- the instruction, up to what is given
  got : (here : ℕ) (j kv cell slot kind : ℕ) (row : ClassRow) (u : ℤ) (vars zs a : List ℤ) (keeps : Bool) →
      At it.instrs here (ins.Get j) → cell < 4294967296 → slice_get i.classes kv ≡ Some row →
      slot_in row j ≡ Some slot → slice_get a (cell + 1 + slot) ≡ Some u → slice_get i.fields j ≡ Some kind
      → move i m (active code here vars (ref_word kv cell ∷ zs) keeps) a ≡ on_some machine.Null
      (field_value i kind row.family u) (λ w. next (active code here vars (ref_word kv cell ∷ zs) keeps) (w ∷ zs) a)
  got here j kv cell slot kind row u vars zs a keeps at low rowed slotted celled kinded =
      let g = active code here vars (ref_word kv cell ∷ zs) keeps in
      let last : ClassRow → ℤ → ℕ → machine.Did = λ row v kind. on_some machine.Null (field_value i kind row.family v)
      (λ w. next g (w ∷ zs) a) in
      let of_value : ClassRow → ℤ → machine.Did = λ row v. on_some machine.Stuck (slice_get i.fields j) (last row v) in
      let of_slot : ClassRow → ℕ → machine.Did = λ row slot. on_some machine.Stuck (slice_get a (cell + 1 + slot))
      (of_value row) in
      let of_row : ClassRow → machine.Did = λ row. on_some machine.Null (slot_in row j) (of_slot row) in
      let of_ref : Ref → machine.Did = λ r. on_some machine.Stuck (slice_get i.classes r.view)
      (λ (row : ClassRow). on_some machine.Null (slot_in row j)
      (λ slot. on_some machine.Stuck (slice_get a (r.cell + 1 + slot)) (of_value row))) in
      moved p i n m K T Stands code it there r here (ins.Get j) vars (ref_word kv cell ∷ zs) a keeps at
      ∙ some_goes machine.Null (ref_in (ref_word kv cell)) (record { view = kv; cell = cell }) of_ref
      (ref_in_word (record { view = kv; cell = cell }) low)
      ∙ some_goes machine.Stuck (slice_get i.classes kv) row of_row rowed
      ∙ some_goes machine.Null (slot_in row j) slot (of_slot row) slotted
      ∙ some_goes machine.Stuck (slice_get a (cell + 1 + slot)) u (of_value row) celled
      ∙ some_goes machine.Stuck (slice_get i.fields j) kind (last row u) kinded

  -- THE NODE: the selector is one of the name, and of the kind of the field that is read
  pub get : (q l : Layout) → Takes q l → (b : ℕ) (here : Site) (u t : T) (field : Name) (j kind : ℕ)
      (k : List Todo) (s w : ℕ) → At it.instrs s
      (ins.Get j) → FieldOf n field j kind
      → ((f : Frame) (h : Heap) → Stands u f h → ReadsWell p field kind h f.vals) →
      LeadsTo p i n m K T Stands code it r here (Get field) k u t
      → ContOn p i n m K T Stands code it r (of_frame ∷ l) b here t k (s + 1) (20 + w)
      → ContOn p i n m K T Stands code it r q (suc b) here u (todo (length here.vars) (Get field) ∷ k) s w
  get q l tk b here u t field j kind k s w at sel facts leads h =
      node p i n m K T Stands code it there r q b here u t (Get field) k s w leads (ReadsWell p field kind) facts
      (λ f x a vars vals keeps ft placed ma fact d step.
      let g = active code s vars vals keeps in
      let Q : Did → Type 0 = λ d. Follows p i n m blank
      (Next p i n m K T Stands code it there r here t b) r d x g a w in
      let no_way : (d : Did) (w : Why) → d ≡ Faults (Stuck w) → Q d = λ d2 why e.
      stuck p i n m K T Stands code it there r b here t why x g a w d2 e in
      w_first Q no_way f.vals _ d step (λ v us vus step.
      let rw = top_word p n x.firsts f.this q l tk v us f.vals vals vus placed.operands.are in
      w_object Q no_way v _ d step (λ null e.
      let zero_word : IsWord p n x.firsts Null rw.word = subst
      (λ (v : Value). IsWord p n x.firsts v rw.word) null rw.first in
      faults p i n m K T Stands code it there r b here t AtNull machine.Null x g a w d e refl
      (comes p i n m K T Stands code it there r g a _ (rate + w)
      (null_got s vars vals rw.rest a keeps (rw.is ∙ ap (λ (z : ℤ). z ∷ rw.rest) zero_word.is)) (omega arith)))
      (λ o V ref step.
      w_only Q no_way (FieldType p V field) _ d step (λ ft2 only step.
      w_only Q no_way (IsSlot p V field) _ d step (λ sl onlys step.
      w_some Q no_way (slot_value x.heap o sl) why.Masked _ d step (λ sv val step.
      let word : IsWord p n x.firsts (Reference o V) rw.word = subst
      (λ (v : Value). IsWord p n x.firsts v rw.word) ref rw.first in
      let is = word.is in
      let known = fact o V us (vus ∙ ap (λ (z : Value). z ∷ us) ref) ft2 only.is in
      let whole : vals ≡ ref_word is.0 is.1.cell ∷ rw.rest = rw.is ∙ ap (λ (z : ℤ). z ∷ rw.rest) is.5 in
      subst (λ (vals : List ℤ). Follows p i n m blank (Next p i n m K T Stands code it there r here t b) r d x
      (active code s vars vals keeps) a w) (sym whole)
      (at_value f x a vars rw.rest keeps o V us is.0 is.1 ft2 sl sv d ft
      (subst (λ (vals : List ℤ). PlacedOn p n it r here q f x vars vals) whole placed) ma rw.others is.2 is.3 is.4
      only.is onlys.is val known.kind (known.stored sl sv onlys.is val) step)))))))
    where
      null_got : (s0 : ℕ) (vars vals zs a : List ℤ) (keeps : Bool) → vals ≡ pos 0 ∷ zs → move i m
          (active code s vars vals keeps) a ≡ Faults machine.Null
      null_got s0 vars vals zs a keeps e =
          subst (λ (vals : List ℤ). move i m (active code s vars vals keeps) a ≡ Faults machine.Null) (sym e)
          (moved p i n m K T Stands code it there r s (ins.Get j) vars (pos 0 ∷ zs) a keeps at)

      -- the value is there
      at_value : (f : Frame) (x : World) (a vars zs : List ℤ) (keeps : Bool) (o : ℕ) (V : Path) (vs : List Value)
          (kv : ℕ) (y : First) (ty : Ty) (sl : Slot) (v : Value) (d : Did) → f.todo ≡ k →
          PlacedOn p n it r here q f x vars
          (ref_word kv y.cell ∷ zs) → Matches p i n x a → LaidOut p n x.firsts f.this l vs zs
          → slice_get n.classes kv ≡ Some V → slice_get x.firsts o ≡ Some y → Related p y.made V →
          FieldType p V field ty → IsSlot p V field sl → slot_value x.heap o sl ≡ Some v → FieldKind ty kind →
          OfKind ty v → on_read p V ty v (λ w. goes f (w ∷ vs) x.heap) d
          → Follows p i n m blank (Next p i n m K T Stands code it there r here t b) r d x
          (active code s vars (ref_word kv y.cell ∷ zs) keeps) a w
      at_value f x a vars zs keeps o V vs kv y ty sl v d ft placed ma ws cls fst rel fty is_slot val kk of_kind step =
          let g = active code s vars (ref_word kv y.cell ∷ zs) keeps in
          let low = block_low i n x.heap.objects x.firsts 0 (length a) o y ma.blocks fst in
          let small = ma.small in
          let cell : y.cell < 4294967296 = omega (arith, low.3, small) in
          let row = row_at p i n rows V kv cls in
          let sel_at : FieldSel = record { name = field; kind = kind } in
          let slot = row.2.has_field j (record { sel = sel_at; selector = sel.at; type = ty; is = fty; kind = kk }) in
          let number : SlotNumber i n V field slot.0 =
          record {
            k = kv;
            row = row.0;
            is = record { class = cls; there = row.1 };
            s = j;
            sel = sel_at;
            selector = sel.at;
            name = refl;
            slot = slot.1;
          } in
          let stored : stored_value low.0.stored sl ≡ Some v = sym
          (ap (λ (o : Option Object). option_and_then (λ (x : Object). stored_value x.stored sl) o) low.1) ∙ val in
          let there_at = (ma.objects o low.0 y low.1 fst).slots V field sl slot.0 v
          (subst (λ (R : Path). Related p R V) low.2 rel) is_slot number stored in
          let mv = got s j kv y.cell slot.0 kind row.0 there_at.word vars zs a keeps at cell row.1 slot.1 there_at.at
          (kind_at p i n rows j sel_at sel.at) in
          read V ty kind row.0 x a v there_at.word (λ w. goes f (w ∷ vs) x.heap)
          (λ d. Follows p i n m blank (Next p i n m K T Stands code it there r here t b) r d x g a w) d row.2 ma
          kk of_kind there_at.is
          (λ d why e. stuck p i n m K T Stands code it there r b here t why x g a w d e)
          (λ v2 d2 reads e.
          let f2 : Frame = record f { vals = v2 ∷ vs } in
          goes_in p i n m K T Stands code it there r b here t x f2 [] g
          (active code (s + 1) vars (reads.word ∷ zs) keeps) a 1 (20 + w) w d2 e
          (comes p i n m K T Stands code it there r g a _ 1
          (mv ∙ some_goes machine.Null (field_value i kind row.0.family there_at.word) reads.word _ reads.is)
          (omega arith)) (omega arith) placed.result ma
          (goes_on p i n m K T Stands code it there r (of_frame ∷ l) b here t k (s + 1) (20 + w) h f2 x a vars
          (reads.word ∷ zs) keeps ft
          (with_operands p n it r here q (of_frame ∷ l) f (v2 ∷ vs) f.todo x vars (ref_word kv y.cell ∷ zs)
          (reads.word ∷ zs) placed
          (record { are = (reads.stands, ws) })) ma))
          step
