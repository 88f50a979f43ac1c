-- An operator with both operands had: numbers, `==` and `!=` of numbers, truth values, null and references.
use Rattle.std.proofs.Common.{◌≡◌, ℕ, suc, ◌+◌, ◌%◌, ◌<◌, List, [], ◌∷◌, length, Option, Some, None, Bool, true, false, not, refl, sym, ap, ◌∙◌, subst, arith, nat_eq}
use Rattle.std.specs.Prelude.{ℤ, pos, slice_get}
use Rattle.std.specs.Ordering.{int_eq}
use Rattle.std.proofs.lemmas.Nat.{mod-mul-add}
use Rattle.std.proofs.lemmas.Bool.{eqb-true, eqb-false, eq-eqb}
use Rattle.jn_steps.specs.Steps.{Goes, Faults, on_some}
use Rattle.jn_steps.specs.Numbers.{quotient_of, remainder_of}
use Rattle.jn_base.specs.declared.tree.Op.{Op}
use Rattle.jn_base.specs.declared.tree.Op.TheVariants as op
use Rattle.jn_base.specs.declared.tree.Program.{Program}
use Rattle.jn_code.specs.declared.instr.Instr.{Instr}
use Rattle.jn_code.specs.declared.instr.Instr.TheVariants as ins
use Rattle.jn_code.specs.declared.image.Image.{Image}
use Rattle.jn_code.specs.declared.image.Code.{Code}
use Rattle.jn_code.specs.Machine.{Halt, obey, word_of, truth, object_in, ref_word}
use Rattle.jn_code.specs.Machine as machine
use Rattle.jn_sem.specs.declared.outcome.Why.{Why}
use Rattle.jn_sem.specs.declared.outcome.Why.TheVariants as why
use Rattle.jn_sem.specs.Values.{Value, Number, Truth, Null, Reference}
use Rattle.jn_sem.specs.Terms.{Site}
use Rattle.jn_sem.specs.Acts.{Operate, Todo, todo}
use Rattle.jn_sem.specs.State.{Heap, Frame}
use Rattle.jn_sem.specs.Does.{Stuck, Did, Made, Gives, Fails, on_made, on_numbers, on_equal, divided, result_of, same_truth, goes}
use Rattle.jn_agree.specs.Naming.{Naming, First, IsWord}
use Rattle.jn_agree.specs.Matches.{World, Matches}
use Rattle.jn_agree.specs.Follows.{Knows, blank, halt_of, Comes, Follows, rate}
use Rattle.jn_agree.specs.Places.{Run, operator, equal}
use Rattle.jn_match_laws.proofs.RowLaws.{got_same, block_low}
use Rattle.jn_match_laws.proofs.Stores.{one_object}
use Rattle.jn_node_laws.specs.Cont.{of_frame, Layout, LaidOut, Takes, PlacedOn, active, LeadsTo}
use Rattle.jn_node_laws.specs.Facts.{ComparedBy, IfCompares, ComparesWell}
use Rattle.jn_node_laws.proofs.Ways.{w_first, top_word}
use Rattle.jn_node_laws.proofs.Nodes.{GoOn, Next, none_some, node, moved, goes_on, goes_in, stuck, comes, comes_later, with_operands}
use Rattle.jn_node_laws.proofs.Simple.{truth_word}

-- ---- words of objects

object_of : (k c : ℕ) → suc c < 4294967296 → object_in (ref_word k c) ≡ suc c
object_of k c low =
    ap (λ (z : ℕ). z % 4294967296) (omega (arith)) ∙ mod-mul-add k 4294967296 (suc c) low

differs : (a b : ℕ) → (a ≡ b → ⊥) → nat_eq a b ≡ false
differs a b ne = at (nat_eq a b) refl
  where
    at : (t : Bool) → nat_eq a b ≡ t → nat_eq a b ≡ false
    at true e = absurd (ne (eqb-true a b e))
    at false e = e

truths_same : (a b : Bool) → int_eq (word_of a) (word_of b) ≡ same_truth a b
truths_same true true = refl
truths_same true false = refl
truths_same false true = refl
truths_same false false = refl

module _ (p : Program) (i : Image) (n : Naming) (m : ℕ) (x : World) (a : List ℤ) (ma : Matches p i n x a) where
  -- two references are the same where they have one object
  same_object : (o q k l : ℕ) (c d : First) → slice_get x.firsts o ≡ Some c → slice_get x.firsts q ≡ Some d
      → nat_eq (object_in (ref_word k c.cell)) (object_in (ref_word l d.cell)) ≡ nat_eq o q
  same_object o q k l c d oc qd =
      let cl = (block_low i n x.heap.objects x.firsts 0 (length a) o c ma.blocks oc).3 in
      let dl = (block_low i n x.heap.objects x.firsts 0 (length a) q d ma.blocks qd).3 in
      let small = ma.small in
      ap (λ (z : ℕ). nat_eq z (object_in (ref_word l d.cell))) (object_of k c.cell (omega (arith, cl, small)))
      ∙ ap (λ (z : ℕ). nat_eq (suc c.cell) z) (object_of l d.cell (omega (arith, dl, small)))
      ∙ at (nat_eq o q) refl
    where
      at : (t : Bool) → nat_eq o q ≡ t → nat_eq (suc c.cell) (suc d.cell) ≡ nat_eq o q
      at true e =
          let one : o ≡ q = eqb-true o q e in
          let cd : c ≡ d = got_same c d (sym oc ∙ ap (λ (z : ℕ). slice_get x.firsts z) one ∙ qd) in
          eq-eqb (suc c.cell) (suc d.cell) (ap (λ (c : First). suc c.cell) cd) ∙ sym e
      at false e =
          differs (suc c.cell) (suc d.cell) (λ s. eqb-false o q e
          (one_object i n x.heap.objects x.firsts 0 (length a) o q c d ma.blocks oc qd (omega (arith, s)))) ∙ sym e

  no_object : (q l : ℕ) (d : First) → slice_get x.firsts q ≡ Some d → object_in (ref_word l d.cell) ≡ suc d.cell
  no_object q l d qd =
      let dl = (block_low i n x.heap.objects x.firsts 0 (length a) q d ma.blocks qd).3 in
      let small = ma.small in
      object_of l d.cell (omega (arith, dl, small))

module _ (p : Program) (i : Image) (n : Naming) (m : ℕ) (K : Knows) (T : Type 0) (Stands : T → Frame → Heap → Type 0)
    (code : ℕ) (it : Code) (there : slice_get i.codes code ≡ Some it) (r : Frame) where
  -- what the instructions from s to e come to with these words of two operands
  abbrev Answer : (s e w : ℕ) (y : World) (a vars zs : List ℤ) (keeps : Bool) (za zb : ℤ) → Made → Type 0
  Answer s e w y a vars zs keeps za zb (Gives v) =
      (z : ℤ) × IsWord p n y.firsts v z × Comes i m (active code s vars (zb ∷ (za ∷ zs)) keeps) a
      (Goes (active code e vars (z ∷ zs) keeps) a []) 2
  Answer s e w y a vars zs keeps za zb (Fails o) =
      (q : Halt) → halt_of o ≡ Some q → Comes i m (active code s vars (zb ∷ (za ∷ zs)) keeps) a (Faults q) (rate + w)

  module _ (s e w : ℕ) (y : World) (a vars zs : List ℤ) (keeps : Bool) where
    abbrev Ans : (za zb : ℤ) → Made → Type 0
    Ans za zb md = Answer s e w y a vars zs keeps za zb md

    -- a step that is stuck has no halt
    never : (za zb : ℤ) (y2 : Why) → Ans za zb (Fails (Stuck y2))
    never za zb y2 = λ q is. absurd (none_some is)

    -- one instruction
    gives_one : (x : Instr) (za zb z : ℤ) (v : Value) → Run it.instrs (x ∷ []) s e → IsWord p n y.firsts v z
        → obey i m x (active code s vars (zb ∷ (za ∷ zs)) keeps) a ≡ Goes (active code (s + 1) vars (z ∷ zs) keeps) a []
        → Ans za zb (Gives v)
    gives_one x za zb z v at word obeys = (
      z,
      word,
      comes p i n m K T Stands code it there r _ a _ 2
          (moved p i n m K T Stands code it there r s x vars (zb ∷ (za ∷ zs)) a keeps at.0 ∙ obeys
          ∙ ap (λ (e : ℕ). let d : machine.Did = Goes (active code e vars (z ∷ zs) keeps) a [] in d) (sym at.1))
          (omega arith),
    )

    -- the quotient or the remainder, or Zero
    divides : (x : Instr) (za zb : ℤ) (o : Option ℤ) → Run it.instrs (x ∷ []) s e
        → obey i m x (active code s vars (zb ∷ (za ∷ zs)) keeps) a ≡ on_some machine.Zero o
        (λ (z : ℤ). machine.next (active code s vars (zb ∷ (za ∷ zs)) keeps) (z ∷ zs) a)
        → Ans za zb (divided o)
    divides x za zb (Some z) at obeys = gives_one x za zb z (Number z) at (record { is = refl }) obeys
    divides x za zb None at obeys = λ q is.
        comes p i n m K T Stands code it there r _ a _ (rate + w)
        (moved p i n m K T Stands code it there r s x vars (zb ∷ (za ∷ zs)) a keeps at.0 ∙ obeys
        ∙ ap (λ (q : Halt). let d : machine.Did = Faults q in d) (got_same machine.Zero q is))
        (omega arith)

    truth_value : (b : Bool) → IsWord p n y.firsts (Truth b) (word_of b)
    truth_value b = record { is = refl }

    -- the instruction that compares has this result
    compares : (x : Instr) (kind : ℕ) (za zb z : ℤ) → equal kind ≡ x
        → obey i m x (active code s vars (zb ∷ (za ∷ zs)) keeps) a ≡ Goes (active code (s + 1) vars (z ∷ zs) keeps) a []
        → obey i m (equal kind) (active code s vars (zb ∷ (za ∷ zs)) keeps) a
        ≡ Goes (active code (s + 1) vars (z ∷ zs) keeps) a []
    compares x kind za zb z is obeys =
        ap (λ (x : Instr). obey i m x (active code s vars (zb ∷ (za ∷ zs)) keeps) a) is ∙ obeys

    -- `==` and `!=`, by the instruction that compares
    equals : (o : Op) (kind : ℕ) (x : Instr) (za zb : ℤ) (same : Bool) → Run it.instrs (operator o kind) s e
        → IfCompares o (equal kind ≡ x)
        → obey i m x (active code s vars (zb ∷ (za ∷ zs)) keeps) a
        ≡ Goes (active code (s + 1) vars (word_of same ∷ zs) keeps) a []
        → Ans za zb (on_equal o same)
    equals op.Eq kind x za zb same at by obeys =
        gives_one (equal kind) za zb (word_of same) (Truth same) at (truth_value same)
        (compares x kind za zb (word_of same) by obeys)
    equals op.Ne kind x za zb same at by obeys = (
      word_of (not same),
      truth_value (not same),
      comes_later p i n m K T Stands code it there r _ _ a a _ 1
          (moved p i n m K T Stands code it there r s (equal kind) vars (zb ∷ (za ∷ zs)) a keeps at.0
          ∙ compares x kind za zb (word_of same) by obeys)
          (comes p i n m K T Stands code it there r _ a _ 1
          (moved p i n m K T Stands code it there r (s + 1) ins.Not vars (word_of same ∷ zs) a keeps at.1.0
          ∙ ap (λ (b : Bool). let d : machine.Did = Goes
          (active code (s + 1 + 1) vars (word_of (not b) ∷ zs) keeps) a [] in
          d) (truth_word same)
          ∙ ap (λ (e : ℕ). let d : machine.Did = Goes (active code e vars (word_of (not same) ∷ zs) keeps) a [] in d)
          (sym at.1.1)) (omega arith)),
    )
    equals op.Add kind x za zb same at by obeys = never za zb why.Kind
    equals op.Sub kind x za zb same at by obeys = never za zb why.Kind
    equals op.Mul kind x za zb same at by obeys = never za zb why.Kind
    equals op.Div kind x za zb same at by obeys = never za zb why.Kind
    equals op.Rem kind x za zb same at by obeys = never za zb why.Kind
    equals op.Lt kind x za zb same at by obeys = never za zb why.Kind
    equals op.Le kind x za zb same at by obeys = never za zb why.Kind
    equals op.Gt kind x za zb same at by obeys = never za zb why.Kind
    equals op.Ge kind x za zb same at by obeys = never za zb why.Kind
    equals op.And kind x za zb same at by obeys = never za zb why.Kind
    equals op.Or kind x za zb same at by obeys = never za zb why.Kind

    numbers : (o : Op) (kind : ℕ) (u v : ℤ) → Run it.instrs (operator o kind) s e → IfCompares o (equal kind ≡ ins.Eqi)
        → Ans u v (on_numbers o u v)
    numbers op.Add kind u v at by = gives_one ins.Add u v _ _ at (record { is = refl }) refl
    numbers op.Sub kind u v at by = gives_one ins.Sub u v _ _ at (record { is = refl }) refl
    numbers op.Mul kind u v at by = gives_one ins.Mul u v _ _ at (record { is = refl }) refl
    numbers op.Div kind u v at by = divides ins.Div u v (quotient_of u v) at refl
    numbers op.Rem kind u v at by = divides ins.Rem u v (remainder_of u v) at refl
    numbers op.Lt kind u v at by = gives_one ins.Lt u v _ _ at (truth_value _) refl
    numbers op.Le kind u v at by = gives_one ins.Le u v _ _ at (truth_value _) refl
    numbers op.Gt kind u v at by = gives_one ins.Gt u v _ _ at (truth_value _) refl
    numbers op.Ge kind u v at by = gives_one ins.Ge u v _ _ at (truth_value _) refl
    numbers op.Eq kind u v at by = equals op.Eq kind ins.Eqi u v (int_eq u v) at by refl
    numbers op.Ne kind u v at by = equals op.Ne kind ins.Eqi u v (int_eq u v) at by refl
    numbers op.And kind u v at by = never u v why.Kind
    numbers op.Or kind u v at by = never u v why.Kind

    -- of the words of the operands
    at_words : (za zb u v : ℤ) (md : Made) → za ≡ u → zb ≡ v → Ans u v md → Ans za zb md
    at_words za zb u v md eu ev ans =
        subst (λ (za : ℤ). Ans za zb md) (sym eu) (subst (λ (zb : ℤ). Ans u zb md) (sym ev) ans)

    -- what EQR gives
    abbrev objects : Bool → machine.Did
    objects same = Goes (active code (s + 1) vars (word_of same ∷ zs) keeps) a []

    pub answer : Matches p i n y a → (o : Op) (kind : ℕ) (u v : Value) (za zb : ℤ) → Run it.instrs (operator o kind) s e
        → IfCompares o (ComparedBy (equal kind) v) → IsWord p n y.firsts u za → IsWord p n y.firsts v zb
        → Ans za zb (result_of o u v)
    answer ma o kind (Number u) (Number v) za zb at by wu wv =
        at_words za zb u v (on_numbers o u v) wu.is wv.is (numbers o kind u v at by)
    answer ma o kind (Truth u) (Truth v) za zb at by wu wv =
        at_words za zb (word_of u) (word_of v) (on_equal o (same_truth u v)) wu.is wv.is
        (equals o kind ins.Eqb (word_of u) (word_of v) (same_truth u v) at by (ap objects (truths_same u v)))
    answer ma o kind Null Null za zb at by wu wv =
        at_words za zb (pos 0) (pos 0) (on_equal o true) wu.is wv.is
        (equals o kind ins.Eqr (pos 0) (pos 0) true at by refl)
    answer ma o kind Null (Reference q W) za zb at by wu wv =
        let d = wv.is in
        at_words za zb (pos 0) (ref_word d.0 d.1.cell) (on_equal o false) wu.is d.5
        (equals o kind ins.Eqr (pos 0) (ref_word d.0 d.1.cell) false at by
        (ap (λ (z : ℕ). objects (nat_eq 0 z)) (no_object p i n m y a ma q d.0 d.1 d.3)
        ∙ ap objects (differs 0 (suc d.1.cell) (λ e. omega (arith, e)))))
    answer ma o kind (Reference q W) Null za zb at by wu wv =
        let d = wu.is in
        at_words za zb (ref_word d.0 d.1.cell) (pos 0) (on_equal o false) d.5 wv.is
        (equals o kind ins.Eqr (ref_word d.0 d.1.cell) (pos 0) false at by
        (ap (λ (z : ℕ). objects (nat_eq z 0)) (no_object p i n m y a ma q d.0 d.1 d.3)
        ∙ ap objects (differs (suc d.1.cell) 0 (λ e. omega (arith, e)))))
    answer ma o kind (Reference q W) (Reference q2 Wy) za zb at by wu wv =
        let c = wu.is in
        let d = wv.is in
        at_words za zb (ref_word c.0 c.1.cell) (ref_word d.0 d.1.cell) (on_equal o (nat_eq q q2)) c.5 d.5
        (equals o kind ins.Eqr (ref_word c.0 c.1.cell) (ref_word d.0 d.1.cell) (nat_eq q q2) at by
        (ap objects (same_object p i n m y a ma q q2 c.0 d.0 c.1 d.1 c.3 d.3)))
    answer ma o kind (Number u) (Truth v) za zb at by wu wv = never za zb why.Kind
    answer ma o kind (Number u) Null za zb at by wu wv = never za zb why.Kind
    answer ma o kind (Number u) (Reference q W) za zb at by wu wv = never za zb why.Kind
    answer ma o kind (Truth u) (Number v) za zb at by wu wv = never za zb why.Kind
    answer ma o kind (Truth u) Null za zb at by wu wv = never za zb why.Kind
    answer ma o kind (Truth u) (Reference q W) za zb at by wu wv = never za zb why.Kind
    answer ma o kind Null (Number v) za zb at by wu wv = never za zb why.Kind
    answer ma o kind Null (Truth v) za zb at by wu wv = never za zb why.Kind
    answer ma o kind (Reference q W) (Number v) za zb at by wu wv = never za zb why.Kind
    answer ma o kind (Reference q W) (Truth v) za zb at by wu wv = never za zb why.Kind

  -- what comes of the result
  made : (j l : Layout) (b : ℕ) (here : Site) (t : T) (k : List Todo) (s e w : ℕ) →
      GoOn p i n m K T Stands code it there r (of_frame ∷ l) b here t k e
      (20 + w)
      → (f : Frame) (y : World) (a vars vals : List ℤ) (keeps : Bool) → f.todo ≡ k →
      PlacedOn p n it r here j f y vars vals →
      Matches p i n y a
      → (us : List Value) (zs : List ℤ) (za zb : ℤ) → vals ≡ zb ∷ (za ∷ zs) → LaidOut p n y.firsts f.this l us zs
      → (md : Made) → Answer s e w y a vars zs keeps za zb md → (d : Did)
      → on_made md (λ v. goes f (v ∷ us) y.heap) d
      → Follows p i n m blank (Next p i n m K T Stands code it there r here t b) r d y
      (active code s vars vals keeps) a w
  made j l b here t k s e w h f y a vars vals keeps ft placed ma us zs za zb vs ws (Gives v) ans d step =
      subst (λ (vals : List ℤ). Follows p i n m blank (Next p i n m K T Stands code it there r here t b) r d y
      (active code s vars vals keeps) a w) (sym vs)
      (goes_in p i n m K T Stands code it there r b here t y (record f { vals = v ∷ us }) []
      (active code s vars (zb ∷ (za ∷ zs)) keeps)
      (active code e vars (ans.0 ∷ zs) keeps) a 2 (20 + w) w d step ans.2 (omega arith) placed.result ma
      (goes_on p i n m K T Stands code it there r (of_frame ∷ l) b here t k e (20 + w) h
      (record f { vals = v ∷ us }) y a vars (ans.0 ∷ zs) keeps ft
      (with_operands p n it r here j (of_frame ∷ l) f (v ∷ us) f.todo y vars vals (ans.0 ∷ zs) placed
      (record { are = (ans.1, ws) })) ma))
  made j l b here t k s e w h f y a vars vals keeps ft placed ma us zs za zb vs ws (Fails o) ans d step =
      subst (λ (vals : List ℤ). Follows p i n m blank (Next p i n m K T Stands code it there r here t b) r d y
      (active code s vars vals keeps) a w) (sym vs)
      (subst (λ (d : Did). Follows p i n m blank (Next p i n m K T Stands code it there r here t b) r d y
      (active code s vars (zb ∷ (za ∷ zs)) keeps) a w) (sym step) ans)

  compared : (o : Op) (x : Instr) (h : Heap) (v : Value) (us vals : List Value) → vals ≡ v ∷ us →
      ComparesWell o x h vals
      → IfCompares o (ComparedBy x v)
  compared op.Eq x h v us vals e fact = fact v us e
  compared op.Ne x h v us vals e fact = fact v us e
  compared op.Add x h v us vals e fact = tt
  compared op.Sub x h v us vals e fact = tt
  compared op.Mul x h v us vals e fact = tt
  compared op.Div x h v us vals e fact = tt
  compared op.Rem x h v us vals e fact = tt
  compared op.Lt x h v us vals e fact = tt
  compared op.Le x h v us vals e fact = tt
  compared op.Gt x h v us vals e fact = tt
  compared op.Ge x h v us vals e fact = tt
  compared op.And x h v us vals e fact = tt
  compared op.Or x h v us vals e fact = tt

  pub operate : (q j l : Layout) → Takes q j → Takes j l →
      (b : ℕ) (here : Site) (u t : T) (o : Op) (kind : ℕ) (k : List Todo) (s e w : ℕ)
      → Run it.instrs (operator o kind) s e
      → ((f : Frame) (h : Heap) → Stands u f h → ComparesWell o (equal kind) h f.vals)
      → LeadsTo p i n m K T Stands code it r here (Operate o) k u t
      → GoOn p i n m K T Stands code it there r (of_frame ∷ l) b here t k e (20 + w)
      → GoOn p i n m K T Stands code it there r q (suc b) here u (todo (length here.vars) (Operate o) ∷ k) s w
  operate q j l tq tj b here u t o kind k s e w at facts leads h =
      node p i n m K T Stands code it there r q b here u t (Operate o) k s w leads (ComparesWell o (equal kind)) facts
      (λ f y a vars vals keeps ft placed ma fact d step.
      let g = active code s vars vals keeps in
      let Q : Did → Type 0 = λ d. Follows p i n m blank
      (Next p i n m K T Stands code it there r here t b) r d y g a w in
      let no_way : (d : Did) (w : Why) → d ≡ Faults (Stuck w) → Q d = λ d2 why e.
      stuck p i n m K T Stands code it there r b here t why y g a w d2 e in
      w_first Q no_way f.vals _ d step (λ v vs vis step.
      let rw = top_word p n y.firsts f.this q j tq v vs f.vals vals vis placed.operands.are in
      w_first Q no_way vs _ d step (λ c us cis step.
      let rc = top_word p n y.firsts f.this j l tj c us vs rw.rest cis rw.others in
      made q l b here t k s e w h f y a vars vals keeps ft placed ma us rc.rest rc.word rw.word
      (rw.is ∙ ap (λ (l : List ℤ). rw.word ∷ l) rc.is) rc.others (result_of o c v)
      (answer s e w y a vars rc.rest keeps ma o kind c v rc.word rw.word at
      (compared o (equal kind) y.heap v vs f.vals vis fact) rc.first rw.first) d step)))
