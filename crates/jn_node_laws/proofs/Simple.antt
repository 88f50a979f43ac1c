-- Constants, `this`, `!`, `-` and `print`.
use Rattle.std.proofs.Common.{◌≡◌, ℕ, suc, ◌+◌, List, [], ◌∷◌, length, Option, Some, Bool, true, false, not, refl, sym, ap, ◌∙◌, subst, arith}
use Rattle.std.specs.Prelude.{ℤ, pos, slice_get}
use Rattle.jn_steps.specs.Steps.{Goes, Faults, on_some}
use Rattle.jn_steps.specs.Numbers.{negation_of}
use Rattle.jn_base.specs.declared.tree.Program.{Program}
use Rattle.jn_code.specs.declared.instr.Instr.{Instr}
use Rattle.jn_code.specs.declared.instr.Instr.TheVariants as ins
use Rattle.jn_code.specs.declared.image.Image.{Image}
use Rattle.jn_code.specs.declared.image.Code.{Code}
use Rattle.jn_code.specs.Machine.{move, obey, word_of, truth}
use Rattle.jn_code.specs.Machine as machine
use Rattle.jn_sem.specs.declared.outcome.Why.{Why}
use Rattle.jn_sem.specs.declared.outcome.Why.TheVariants as why
use Rattle.jn_sem.specs.Values.{Value, Number, Truth, Null, Reference}
use Rattle.jn_sem.specs.Terms.{Site}
use Rattle.jn_sem.specs.Acts.{Act, Push, This, Invert, Negate, Todo, todo}
use Rattle.jn_sem.specs.State.{Heap, Frame}
use Rattle.jn_sem.specs.Does.{Stuck, Did, Way, on_number}
use Rattle.jn_agree.specs.Naming.{Naming, IsWord}
use Rattle.jn_agree.specs.Matches.{World, Matches}
use Rattle.jn_agree.specs.Follows.{Knows, blank, Follows}
use Rattle.jn_agree.specs.Places.{At, bit}
use Rattle.jn_node_laws.specs.Cont.{of_frame, Layout, AreLaid, Takes, PlacedOn, active, LeadsTo}
use Rattle.jn_node_laws.proofs.Ways.{w_first, w_truth, top_word}
use Rattle.jn_node_laws.proofs.Nodes.{GoOn, Next, node, moved, goes_on, stuck, comes, goes_in, with_operands}

bit_word : (b : Bool) → pos (bit b) ≡ word_of b
bit_word true = refl
bit_word false = refl

pub truth_word : (b : Bool) → truth (word_of b) ≡ b
truth_word true = refl
truth_word false = refl

pub w_number : (Q : Did → Type 0) → ((d : Did) (w : Why) → d ≡ Faults (Stuck w) → Q d) → (v : Value) (To : ℤ → Way)
    (d : Did)
    → on_number v To d → ((z : ℤ) → v ≡ Number z → To z d → Q d) → Q d
w_number Q no_way (Number z) To d g on = on z refl g
w_number Q no_way (Truth b) To d e on = no_way d why.Kind e
w_number Q no_way Null To d e on = no_way d why.Kind e
w_number Q no_way (Reference o V) To d e on = no_way d why.Kind e

module _ (p : Program) (i : Image) (n : Naming) (m : ℕ) (K : Knows) (T : Type 0) (Stands : T → Frame → Heap → Type 0)
    (code : ℕ) (it : Code) (there : slice_get i.codes code ≡ Some it) (r : Frame) where
  abbrev Cont : Layout → ℕ → Site → T → List Todo → ℕ → ℕ → Type 0
  Cont = GoOn p i n m K T Stands code it there r

  abbrev Then : Site → T → ℕ → Frame → World → machine.Frame → List ℤ → ℕ → Type 0
  Then = Next p i n m K T Stands code it there r

  abbrev Leads : Site → Act → List Todo → T → T → Type 0
  Leads = LeadsTo p i n m K T Stands code it r

  -- one instruction changes the operands as the act does, and prints the same
  pub changes : (j l : Layout) (b : ℕ) (here : Site) (t : T) (k : List Todo) (s w : ℕ) (x : Instr) → At it.instrs s x →
      Cont l b here t k (s + 1) (20 + w)
      → (f : Frame) (y : World) (a vars vals : List ℤ) (keeps : Bool) → f.todo ≡ k →
      PlacedOn p n it r here j f y vars vals →
      Matches p i n y a
      → (vs : List Value) (zs : List ℤ) (bytes : List ℕ) → AreLaid p n y.firsts f.this l vs zs
      → obey i m x (active code s vars vals keeps) a ≡ Goes (active code (s + 1) vars zs keeps) a bytes
      → (d : Did) → d ≡ Goes (record f { vals = vs }) y.heap bytes
      → Follows p i n m blank (Then here t b) r d y (active code s vars vals keeps) a w
  changes j l b here t k s w x at h f y a vars vals keeps ft placed ma vs zs bytes ws obeys d e =
      goes_in p i n m K T Stands code it there r b here t y (record f { vals = vs }) bytes
      (active code s vars vals keeps)
      (active code (s + 1) vars zs keeps) a 1 (20 + w) w d e
      (comes p i n m K T Stands code it there r (active code s vars vals keeps) a _ 1
      (moved p i n m K T Stands code it there r s x vars vals a keeps at ∙ obeys) (omega arith))
      (omega arith) placed.result ma
      (goes_on p i n m K T Stands code it there r l b here t k (s + 1) (20 + w) h
      (record f { vals = vs }) y a vars zs keeps ft
      (with_operands p n it r here j l f vs f.todo y vars vals zs placed ws) ma)

  abbrev pub no_fact : Heap → List Value → Type 0
  no_fact h vs = Unit {0}

  -- a constant
  push : (l : Layout) (b : ℕ) (here : Site) (u t : T) (k : List Todo) (s w : ℕ) (x : Instr) (v : Value) (z : ℤ) →
      At it.instrs s x
      → ((y : World) → IsWord p n y.firsts v z)
      → ((g : machine.Frame) (a : List ℤ) → obey i m x g a ≡ machine.next g (z ∷ g.vals) a)
      → Leads here (Push v) k u t → Cont (of_frame ∷ l) b here t k (s + 1) (20 + w) → Cont l (suc b) here u
      (todo (length here.vars) (Push v) ∷ k) s w
  push l b here u t k s w x v z at word obeys leads h =
      node p i n m K T Stands code it there r l b here u t (Push v) k s w leads no_fact (λ f h st. tt)
      (λ f y a vars vals keeps ft placed ma fact d step.
      changes l (of_frame ∷ l) b here t k s w x at h f y a vars vals keeps ft placed ma (v ∷ f.vals) (z ∷ vals) []
      (record { are = (word y, placed.operands.are) })
      (obeys (active code s vars vals keeps) a) d step)

  pub number : (l : Layout) (b : ℕ) (here : Site) (u t : T) (k : List Todo) (s w : ℕ) (z : ℤ) →
      At it.instrs s (ins.Int z)
      → Leads here (Push (Number z)) k u t → Cont (of_frame ∷ l) b here t k (s + 1) (20 + w) → Cont l (suc b) here u
      (todo (length here.vars) (Push (Number z)) ∷ k) s w
  number l b here u t k s w z at leads h = push l b here u t k s w (ins.Int z)
      (Number z) z at (λ y. record { is = refl })
      (λ g a. refl) leads h

  pub truth_value : (l : Layout) (b : ℕ) (here : Site) (u t : T) (k : List Todo) (s w : ℕ) (v : Bool) → At it.instrs s
      (ins.Bool (bit v))
      → Leads here (Push (Truth v)) k u t → Cont (of_frame ∷ l) b here t k (s + 1) (20 + w) → Cont l (suc b) here u
      (todo (length here.vars) (Push (Truth v)) ∷ k) s w
  truth_value l b here u t k s w v at leads h =
      push l b here u t k s w (ins.Bool (bit v)) (Truth v) (pos (bit v)) at (λ y. record { is = bit_word v })
      (λ g a. refl) leads h

  pub null : (l : Layout) (b : ℕ) (here : Site) (u t : T) (k : List Todo) (s w : ℕ) → At it.instrs s ins.Null
      → Leads here (Push Null) k u t → Cont (of_frame ∷ l) b here t k (s + 1) (20 + w) → Cont l (suc b) here u
      (todo (length here.vars) (Push Null) ∷ k) s w
  null l b here u t k s w at leads h = push l b here u t k s w ins.Null Null (pos 0) at (λ y. record { is = refl })
      (λ g a. refl) leads h

  pub this : (l : Layout) (b : ℕ) (here : Site) (u t : T) (k : List Todo) (s w : ℕ) → At it.instrs s (ins.Load 0)
      → Leads here This k u t → Cont (of_frame ∷ l) b here t k (s + 1) (20 + w) → Cont l (suc b) here u
      (todo (length here.vars) This ∷ k) s w
  this l b here u t k s w at leads h =
      node p i n m K T Stands code it there r l b here u t This k s w leads no_fact (λ f h st. tt)
      (λ f y a vars vals keeps ft placed ma fact d step.
      let g = active code s vars vals keeps in
      changes l (of_frame ∷ l) b here t k s w (ins.Load 0) at h f y a vars vals keeps ft placed ma (f.this ∷ f.vals)
      (placed.this.0 ∷ vals) []
      (record { are = (placed.this.2, placed.operands.are) })
      (ap (λ (o : Option ℤ). on_some machine.Stuck o (λ z. machine.next g (z ∷ vals) a)) placed.this.1) d step)

  -- one operand is replaced by another
  turns : (j l : Layout) → Takes j l → (b : ℕ) (here : Site) (t : T) (k : List Todo) (s w : ℕ) (x : Instr) →
      At it.instrs s x → Cont (of_frame ∷ l) b here t k
      (s + 1) (20 + w)
      → (f : Frame) (y : World) (a vars vals : List ℤ) (keeps : Bool) → f.todo ≡ k →
      PlacedOn p n it r here j f y vars vals →
      Matches p i n y a
      → (v v2 : Value) (us : List Value) → f.vals ≡ v ∷ us → (new : ℤ → ℤ) →
      ((z : ℤ) → IsWord p n y.firsts v z → IsWord p n y.firsts v2 (new z))
      → ((z : ℤ) (zs : List ℤ) → IsWord p n y.firsts v z → obey i m x
      (active code s vars (z ∷ zs) keeps) a ≡ machine.next (active code s vars (z ∷ zs) keeps) (new z ∷ zs) a)
      → (d : Did) → d ≡ Goes (record f { vals = v2 ∷ us }) y.heap []
      → Follows p i n m blank (Then here t b) r d y (active code s vars vals keeps) a w
  turns j l tk b here t k s w x at h f y a vars vals keeps ft placed ma v v2 us e new word obeys d step =
      let rw = top_word p n y.firsts f.this j l tk v us f.vals vals e placed.operands.are in
      changes j (of_frame ∷ l) b here t k s w x at h f y a vars vals keeps ft placed ma (v2 ∷ us)
      (new rw.word ∷ rw.rest) []
      (record { are = (word rw.word rw.first, rw.others) })
      (subst (λ (vals : List ℤ). obey i m x (active code s vars vals keeps) a ≡ Goes
      (active code (s + 1) vars (new rw.word ∷ rw.rest) keeps) a [])
      (sym rw.is) (obeys rw.word rw.rest rw.first)) d step

  pub invert : (j l : Layout) → Takes j l → (b : ℕ) (here : Site) (u t : T) (k : List Todo) (s w : ℕ) →
      At it.instrs s ins.Not
      → Leads here Invert k u t → Cont (of_frame ∷ l) b here t k (s + 1) (20 + w) → Cont j (suc b) here u
      (todo (length here.vars) Invert ∷ k) s w
  invert j l tk b here u t k s w at leads h =
      node p i n m K T Stands code it there r j b here u t Invert k s w leads no_fact (λ f h st. tt)
      (λ f y a vars vals keeps ft placed ma fact d step.
      let g = active code s vars vals keeps in
      let Q : Did → Type 0 = λ d. Follows p i n m blank (Then here t b) r d y g a w in
      let no_way : (d : Did) (w : Why) → d ≡ Faults (Stuck w) → Q d = λ d2 why e.
      stuck p i n m K T Stands code it there r b here t why y g a w d2 e in
      w_first Q no_way f.vals _ d step (λ v us vus step.
      w_truth Q no_way v _ d step (λ c is step.
      turns j l tk b here t k s w ins.Not at h f y a vars vals keeps ft placed ma v (Truth (not c)) us vus
      (λ z. word_of (not (truth z)))
      (λ z word. record {
        is = ap (λ (e : Bool). word_of (not e))
            (ap truth (truth_is c v y z is word) ∙ truth_word c);
      })
      (λ z zs word. refl) d step)))
    where
      truth_is : (c : Bool) (v : Value) (y : World) (z : ℤ) → v ≡ Truth c → IsWord p n y.firsts v z → z ≡ word_of c
      truth_is c v y z e word =
          let is : IsWord p n y.firsts (Truth c) z = subst (λ (v : Value). IsWord p n y.firsts v z) e word in
          is.is

  pub negate : (j l : Layout) → Takes j l → (b : ℕ) (here : Site) (u t : T) (k : List Todo) (s w : ℕ) →
      At it.instrs s ins.Neg
      → Leads here Negate k u t → Cont (of_frame ∷ l) b here t k (s + 1) (20 + w) → Cont j (suc b) here u
      (todo (length here.vars) Negate ∷ k) s w
  negate j l tk b here u t k s w at leads h =
      node p i n m K T Stands code it there r j b here u t Negate k s w leads no_fact (λ f h st. tt)
      (λ f y a vars vals keeps ft placed ma fact d step.
      let g = active code s vars vals keeps in
      let Q : Did → Type 0 = λ d. Follows p i n m blank (Then here t b) r d y g a w in
      let no_way : (d : Did) (w : Why) → d ≡ Faults (Stuck w) → Q d = λ d2 why e.
      stuck p i n m K T Stands code it there r b here t why y g a w d2 e in
      w_first Q no_way f.vals _ d step (λ v us vus step.
      w_number Q no_way v _ d step (λ c is step.
      turns j l tk b here t k s w ins.Neg at h f y a vars vals keeps ft placed ma v (Number (negation_of c)) us vus
      negation_of
      (λ z word. record { is = ap negation_of (number_is c v y z is word) })
      (λ z zs word. refl) d step)))
    where
      number_is : (c : ℤ) (v : Value) (y : World) (z : ℤ) → v ≡ Number c → IsWord p n y.firsts v z → z ≡ c
      number_is c v y z e word =
          let is : IsWord p n y.firsts (Number c) z = subst (λ (v : Value). IsWord p n y.firsts v z) e word in
          is.is
