-- The tests of final parameters, where a body begins.
use Rattle.std.proofs.Common.{◌≡◌, ℕ, suc, ◌+◌, ◌*◌, List, [], ◌∷◌, ◌++◌, length, Option, Some, None, Bool, true, false, ◌&&◌, ◌||◌, refl, sym, ap, ◌∙◌, subst, arith, append_assoc}
use Rattle.std.specs.Prelude.{ℤ, slice_get, if◌then◌else◌}
use Rattle.std.specs.List.{filter}
use Rattle.std.proofs.lemmas.List.{length-append}
use Rattle.jn_steps.specs.Steps.{Goes, Faults, on_some}
use Rattle.jn_base.specs.declared.tree.Param.{Param}
use Rattle.jn_base.specs.declared.tree.Program.{Program}
use Rattle.jn_base.specs.declared.types.Ty.{Ty}
use Rattle.jn_base.specs.declared.types.Ty.TheVariants as ty
use Rattle.jn_base.specs.declared.names.Var.{Var}
use Rattle.jn_base.specs.Resolve.{is_class}
use Rattle.jn_base.specs.Atoms.{Among, first, later}
use Rattle.jn_code.specs.declared.instr.Instr.TheVariants as ins
use Rattle.jn_code.specs.declared.image.Image.{Image}
use Rattle.jn_code.specs.declared.image.Code.{Code}
use Rattle.jn_code.specs.Machine.{Ref, move, ref_word, ref_in}
use Rattle.jn_code.specs.Machine as machine
use Rattle.jn_code.proofs.Words.{ref_in_word, get_right}
use Rattle.jn_sem.specs.Sets.{Views}
use Rattle.jn_sem.specs.Values.{Value, Number, Truth, Null, Reference}
use Rattle.jn_sem.specs.State.{Heap, Frame, Variable, declared_vars, with_values, IsIn, is_null, is_null_path, has_null_path}
use Rattle.jn_sem.specs.Does.{Body, AreParamsAfter, var}
use Rattle.jn_agree.specs.Naming.{Naming, First, IsWord, WordsAre}
use Rattle.jn_agree.specs.Matches.{World, Matches}
use Rattle.jn_agree.specs.Follows.{Knows, Comes, LocalAt, is_tested}
use Rattle.jn_agree.specs.Places.{At, Run, testing, tests}
use Rattle.jn_match_laws.proofs.RowLaws.{block_low}
use Rattle.jn_node_laws.specs.Cont.{active}
use Rattle.jn_node_laws.proofs.Gets.{some_goes}
use Rattle.jn_node_laws.proofs.Classes.{split}
use Rattle.jn_node_laws.proofs.Quiet.{later as one_later, spare, comes_later}
use Rattle.jn_node_laws.proofs.Nodes.{moved, comes}

-- ---- the locals of parameters

-- the variables have these numbers, one by one
abbrev Counted : ℕ → List Var → Type 0
Counted c [] = Unit {0}
Counted c (x ∷ xs) = (x.path ≡ c) × Counted (suc c) xs

counted_more : (c : ℕ) (xs : List Var) (y : Var) → Counted c xs → y.path ≡ c + length xs → Counted c (xs ++ y ∷ [])
counted_more c [] y h e = (omega (arith, e), tt)
counted_more c (x ∷ xs) y h e = (h.0, counted_more (suc c) xs y h.1 (omega (arith, e)))

pub params_counted : (p : Program) (b : Body) (before : List Var) (xs : List Param) (all : List Var) →
    AreParamsAfter p b before xs all → Counted 1 before → Counted 1 all
params_counted p b before [] all e h = subst (λ (vs : List Var). Counted 1 vs) (sym e) h
params_counted p b before (x ∷ xs) all e h =
    params_counted p b (before ++ var x.name.name (suc (length before)) x.fixed e.0 ∷ []) xs all e.2
    (counted_more 1 before (var x.name.name (suc (length before)) x.fixed e.0) h (omega arith))

-- each argument has its word in the local of its parameter
pub locals_there : (p : Program) (n : Naming) (firsts : List First) (vars : List Var) (args : List Value)
    (ws pre rest : List ℤ) (c : ℕ) → length pre ≡ c → Counted c vars → WordsAre p n firsts args ws → (y : Variable) →
    Among (with_values vars args) y →
    (z : ℤ) × (slice_get (pre ++ (ws ++ rest)) y.var.path ≡ Some z) × IsWord p n firsts y.value z
locals_there p n firsts [] args ws pre rest c long count words y a = elim a [ ]
locals_there p n firsts (x ∷ xs) [] ws pre rest c long count words y a = elim a [ ]
locals_there p n firsts (x ∷ xs) (v ∷ vs) [] pre rest c long count words y a = absurd words
locals_there p n firsts (x ∷ xs) (v ∷ vs) (w ∷ ws) pre rest c long count words _ first = (
  w,
  ap (λ (k : ℕ). slice_get (pre ++ (w ∷ (ws ++ rest))) k)
      (let e = count.0 in let s : x.path ≡ length pre + 0 = omega (arith, e, long) in s)
      ∙ get_right pre (w ∷ (ws ++ rest)) 0,
  words.0,
)
locals_there p n firsts (x ∷ xs) (v ∷ vs) (w ∷ ws) pre rest c long count words y (later a) =
    let longer : length (pre ++ w ∷ []) ≡ suc c = (let l = length-append pre (w ∷ []) in omega (arith, l, long)) in
    let r = locals_there p n firsts xs vs ws (pre ++ w ∷ []) rest (suc c) longer count.1 words.1 y a in
    (r.0, ap (λ (l : List ℤ). slice_get l y.var.path) (sym (append_assoc pre (w ∷ []) (ws ++ rest))) ∙ r.1, r.2)

pub vars_declared : (vars : List Var) (args : List Value) → length args ≡ length vars →
    declared_vars (with_values vars args) ≡ vars
vars_declared [] args e = refl
vars_declared (x ∷ xs) [] e = absurd (omega (arith, e))
vars_declared (x ∷ xs) (v ∷ vs) e = ap (λ (l : List Var). x ∷ l) (vars_declared xs vs (omega (arith, e)))

pub words_long : (p : Program) (n : Naming) (firsts : List First) (vs : List Value) (ws : List ℤ) →
    WordsAre p n firsts vs ws → length ws ≡ length vs
words_long p n firsts [] [] h = refl
words_long p n firsts [] (w ∷ ws) h = absurd h
words_long p n firsts (v ∷ vs) [] h = absurd h
words_long p n firsts (v ∷ vs) (w ∷ ws) h = ap suc (words_long p n firsts vs ws h.1)

-- ---- values of parameters

-- one that is tested, isn't null and is in its type is a reference
tested_value : (p : Program) (views : Views) (h : Heap) (fixed : Bool) (t : Ty) (v : Value) →
    (fixed && is_class t) ≡ true → (fixed && (is_class t && is_null v)) ≡ false → IsIn p views h t v →
    (o : ℕ) × (V : _) × (v ≡ Reference o V)
tested_value p views h false t v e f is = cc
tested_value p views h true (ty.Class xs c) (Reference o V) e f is = (o, V, refl)
tested_value p views h true (ty.Class xs c) Null e f is = cc
tested_value p views h true (ty.Class xs c) (Number z) e f is = elim is [ ]
tested_value p views h true (ty.Class xs c) (Truth b) e f is = elim is [ ]
tested_value p views h true ty.Int v e f is = cc
tested_value p views h true ty.Bool v e f is = cc
tested_value p views h true ty.Null v e f is = cc
tested_value p views h true ty.Void v e f is = cc

either_false : (a b : Bool) → (a || b) ≡ false → (a ≡ false) × (b ≡ false)
either_false true b e = cc
either_false false b e = (refl, e)

either_true : (a b : Bool) (Q : Type 0) → (a || b) ≡ true → (a ≡ true → Q) → (b ≡ true → Q) → Q
either_true true b Q e one other = one refl
either_true false b Q e one other = other e

-- a null path is tested
null_tested : (fixed : Bool) (t : Ty) (v : Value) → (fixed && (is_class t && is_null v)) ≡ true →
    ((fixed && is_class t) ≡ true) × (v ≡ Null)
null_tested false t v e = cc
null_tested true t v e = at (is_class t) v e
  where
    at : (c : Bool) (v : Value) → (c && is_null v) ≡ true → (c ≡ true) × (v ≡ Null)
    at false v e = cc
    at true Null e = (refl, refl)
    at true (Number z) e = cc
    at true (Truth b) e = cc
    at true (Reference o V) e = cc

module _ (p : Program) (i : Image) (n : Naming) (m : ℕ) (K : Knows) (T : Type 0) (Stands : T → Frame → Heap → Type 0)
    (code : ℕ) (it : Code) (there : slice_get i.codes code ≡ Some it) (r : Frame) where
  loaded : (s q : ℕ) (lv zs a : List ℤ) (kp : Bool) (z : ℤ) → At it.instrs s (ins.Load q) → slice_get lv q ≡ Some z →
      move i m (active code s lv zs kp) a ≡ Goes (active code (s + 1) lv (z ∷ zs) kp) a []
  loaded s q lv zs a kp z at e =
      moved p i n m K T Stands code it there r s (ins.Load q) lv zs a kp at
      ∙ some_goes machine.Stuck (slice_get lv q) z (λ (z : ℤ). machine.next (active code s lv zs kp) (z ∷ zs) a) e

  checked : (s : ℕ) (lv zs a : List ℤ) (kp : Bool) (z : ℤ) (ref : Ref) → At it.instrs s ins.Check →
      ref_in z ≡ Some ref →
      move i m (active code s lv (z ∷ zs) kp) a ≡ Goes (active code (s + 1) lv (z ∷ zs) kp) a []
  checked s lv zs a kp z ref at e =
      moved p i n m K T Stands code it there r s ins.Check lv (z ∷ zs) a kp at
      ∙ some_goes machine.Null (ref_in z) ref
      (λ (r : Ref). machine.next (active code s lv (z ∷ zs) kp) (z ∷ zs) a) e

  halted : (s : ℕ) (lv zs a : List ℤ) (kp : Bool) (z : ℤ) → At it.instrs s ins.Check → ref_in z ≡ None →
      move i m (active code s lv (z ∷ zs) kp) a ≡ Faults machine.Null
  halted s lv zs a kp z at e =
      moved p i n m K T Stands code it there r s ins.Check lv (z ∷ zs) a kp at
      ∙ ap (λ (o : Option Ref). on_some machine.Null o
      (λ (r : Ref). machine.next (active code s lv (z ∷ zs) kp) (z ∷ zs) a)) e

  popped : (s e : ℕ) (lv zs a : List ℤ) (kp : Bool) (z : ℤ) → At it.instrs s ins.Pop → e ≡ s + 1 →
      move i m (active code s lv (z ∷ zs) kp) a ≡ Goes (active code e lv zs kp) a []
  popped s e lv zs a kp z at same =
      moved p i n m K T Stands code it there r s ins.Pop lv (z ∷ zs) a kp at
      ∙ ap (λ (e : ℕ). let d : machine.Did = Goes (active code e lv zs kp) a [] in d) (sym same)

  abbrev HasLocals : World → List ℤ → List Variable → Type 0
  HasLocals x lv vs =
      (y : Variable) → Among vs y → (z : ℤ) × (slice_get lv y.var.path ≡ Some z) × IsWord p n x.firsts y.value z

  -- by the test of one parameter
  abbrev counted_tests : Bool → ℕ → ℕ
  counted_tests true c = suc c
  counted_tests false c = c

  count_is : (y : Var) (ys : List Var) (t : Bool) → is_tested y ≡ t →
      length (filter is_tested (y ∷ ys)) ≡ counted_tests t (length (filter is_tested ys))
  count_is y ys t e =
      ap (λ (b : Bool). length (if b then y ∷ filter is_tested ys else filter is_tested ys)) e ∙ at t
    where
      at : (t : Bool) → length (if t then y ∷ filter is_tested ys else filter is_tested ys) ≡
          counted_tests t (length (filter is_tested ys))
      at true = refl
      at false = refl

  -- the tests of parameters that are in their types pass
  pub tests_pass : (vs : List Variable) (s e b w : ℕ) (f : Frame) (x : World) (a lv zs : List ℤ) (kp : Bool)
      (views : Views) → Matches p i n x a → HasLocals x lv vs → Run it.instrs (tests (declared_vars vs)) s e →
      has_null_path vs ≡ false → ((y : Variable) → Among vs y → IsIn p views x.heap y.var.ty y.value) →
      LocalAt p i n m K r b f.todo f x (active code e lv zs kp) a w →
      LocalAt p i n m K r b f.todo f x (active code s lv zs kp) a
      (3 * length (filter is_tested (declared_vars vs)) + w)
  tests_pass [] s e b w f x a lv zs kp views ma locals runs nulls are l =
      spare p i n m K r b f.todo f x (active code s lv zs kp) a w (3 * 0 + w) (omega arith)
      (subst (λ (e : ℕ). LocalAt p i n m K r b f.todo f x (active code e lv zs kp) a w) runs l)
  tests_pass (y ∷ vs) s e b w f x a lv zs kp views ma locals runs nulls are l =
      let two = split it.instrs (testing (is_tested y.var) y.var.path) (tests (declared_vars vs)) s e runs in
      let parts = either_false (is_null_path y) (has_null_path vs) nulls in
      let rest = tests_pass vs two.mid e b w f x a lv zs kp views ma (λ z a. locals z (later a)) two.back parts.1
      (λ z a. are z (later a)) l in
      at (is_tested y.var) refl two.mid two.front parts.0 (are y first) (locals y first) rest
    where
      at : (t : Bool) → is_tested y.var ≡ t → (mid : ℕ) → Run it.instrs (testing (is_tested y.var) y.var.path) s mid →
          is_null_path y ≡ false → IsIn p views x.heap y.var.ty y.value →
          ((z : ℤ) × (slice_get lv y.var.path ≡ Some z) × IsWord p n x.firsts y.value z) →
          LocalAt p i n m K r b f.todo f x (active code mid lv zs kp) a
          (3 * length (filter is_tested (declared_vars vs)) + w) →
          LocalAt p i n m K r b f.todo f x (active code s lv zs kp) a
          (3 * length (filter is_tested (declared_vars (y ∷ vs))) + w)
      at false is mid runs null in_type word rest =
          let here = subst (λ (t : Bool). Run it.instrs (testing t y.var.path) s mid) is runs in
          let count = count_is y.var (declared_vars vs) false is in
          spare p i n m K r b f.todo f x (active code s lv zs kp) a
          (3 * length (filter is_tested (declared_vars vs)) + w) _ (omega (arith, count))
          (subst (λ (e : ℕ). LocalAt p i n m K r b f.todo f x (active code e lv zs kp) a
          (3 * length (filter is_tested (declared_vars vs)) + w)) here rest)
      at true is mid runs null in_type word rest =
          let here = subst (λ (t : Bool). Run it.instrs (testing t y.var.path) s mid) is runs in
          let count = count_is y.var (declared_vars vs) true is in
          let v = tested_value p views x.heap y.var.fixed y.var.ty y.value is null in_type in
          let ref_is : IsWord p n x.firsts (Reference v.0 v.1) word.0 = subst
          (λ (v : Value). IsWord p n x.firsts v word.0) v.2 word.2 in
          let w0 = ref_is.is in
          let low = (block_low i n x.heap.objects x.firsts 0 (length a) v.0 w0.1 ma.blocks w0.3).3 in
          let small = ma.small in
          let ref : Ref = record { view = w0.0; cell = w0.1.cell } in
          let is_ref = ap ref_in w0.5 ∙ ref_in_word ref (omega (arith, low, small)) in
          let g = active code s lv zs kp in
          let g2 = active code (s + 1) lv (word.0 ∷ zs) kp in
          let g3 = active code (s + 1 + 1) lv (word.0 ∷ zs) kp in
          let g4 = active code mid lv zs kp in
          let c = 3 * length (filter is_tested (declared_vars vs)) + w in
          spare p i n m K r b f.todo f x g a (suc (suc (suc c))) _ (omega (arith, count))
          (one_later p i n m K r b f.todo f x g g2 a (suc (suc c))
          (loaded s y.var.path lv zs a kp word.0 here.0 word.1)
          (one_later p i n m K r b f.todo f x g2 g3 a (suc c) (checked (s + 1) lv zs a kp word.0 ref here.1.0 is_ref)
          (one_later p i n m K r b f.todo f x g3 g4 a c
          (popped (s + 1 + 1) mid lv zs a kp word.0 here.1.1.0 here.1.1.1) rest)))

  -- Null where a final parameter of class type is null
  pub tests_halt : (vs : List Variable) (s e : ℕ) (x : World) (a lv zs : List ℤ) (kp : Bool) →
      HasLocals x lv vs → Run it.instrs (tests (declared_vars vs)) s e → has_null_path vs ≡ true →
      Comes i m (active code s lv zs kp) a (Faults machine.Null)
      (3 * length (filter is_tested (declared_vars vs)))
  tests_halt [] s e x a lv zs kp locals runs nulls = absurd (no nulls)
    where
      no : false ≡ true → ⊥
      no e = cc
  tests_halt (y ∷ vs) s e x a lv zs kp locals runs nulls =
      let two = split it.instrs (testing (is_tested y.var) y.var.path) (tests (declared_vars vs)) s e runs in
      at (is_tested y.var) refl two.mid two.front (locals y first)
      (tests_halt vs two.mid e x a lv zs kp (λ z a. locals z (later a)) two.back)
    where
      at : (t : Bool) → is_tested y.var ≡ t → (mid : ℕ) → Run it.instrs (testing (is_tested y.var) y.var.path) s mid →
          ((z : ℤ) × (slice_get lv y.var.path ≡ Some z) × IsWord p n x.firsts y.value z) →
          (has_null_path vs ≡ true → Comes i m (active code mid lv zs kp) a (Faults machine.Null)
          (3 * length (filter is_tested (declared_vars vs)))) →
          Comes i m (active code s lv zs kp) a (Faults machine.Null)
          (3 * length (filter is_tested (declared_vars (y ∷ vs))))
      at false is mid runs word rest =
          let here = subst (λ (t : Bool). Run it.instrs (testing t y.var.path) s mid) is runs in
          let count = count_is y.var (declared_vars vs) false is in
          either_true (is_null_path y) (has_null_path vs) _ nulls
          (λ null. absurd (differ (sym (null_tested y.var.fixed y.var.ty y.value null).0 ∙ is)))
          (λ others. ap_comes (sym count) mid here (rest others))
        where
          differ : true ≡ false → ⊥
          differ e = cc

          ap_comes : {c d : ℕ} → c ≡ d → (mid : ℕ) → mid ≡ s →
              Comes i m (active code mid lv zs kp) a (Faults machine.Null) (3 * c) →
              Comes i m (active code s lv zs kp) a (Faults machine.Null) (3 * d)
          ap_comes {c} {d} e mid h k = subst (λ (d : ℕ). Comes i m (active code s lv zs kp) a (Faults machine.Null)
              (3 * d))
              e (subst (λ (mid : ℕ). Comes i m (active code mid lv zs kp) a (Faults machine.Null) (3 * c)) h k)
      at true is mid runs word rest =
          let here = subst (λ (t : Bool). Run it.instrs (testing t y.var.path) s mid) is runs in
          on_word (ref_in word.0) refl here
        where
          count : length (filter is_tested (declared_vars (y ∷ vs))) ≡
              suc (length (filter is_tested (declared_vars vs)))
          count = count_is y.var (declared_vars vs) true is

          null_word : y.value ≡ Null → ref_in word.0 ≡ None
          null_word e =
              let zero_word : IsWord p n x.firsts Null word.0 = subst (λ (v : Value). IsWord p n x.firsts v word.0) e
              word.2 in
              ap ref_in zero_word.is

          on_word : (o : Option Ref) → ref_in word.0 ≡ o → Run it.instrs (testing true y.var.path) s mid →
              Comes i m (active code s lv zs kp) a (Faults machine.Null)
              (3 * length (filter is_tested (declared_vars (y ∷ vs))))
          on_word None none here =
              let long = count in
              comes_later p i n m K (active code s lv zs kp) (active code (s + 1) lv (word.0 ∷ zs) kp) a a
              (Faults machine.Null) 1 (3 * length (filter is_tested (declared_vars (y ∷ vs))))
              (loaded s y.var.path lv zs a kp word.0 here.0 word.1) (omega (arith, long))
              (comes p i n m K T Stands code it there r (active code (s + 1) lv (word.0 ∷ zs) kp) a _ 1
              (halted (s + 1) lv zs a kp word.0 here.1.0 none) (omega arith))
          on_word (Some ref) some here =
              let long = count in
              let c = 3 * length (filter is_tested (declared_vars vs)) in
              comes_later p i n m K (active code s lv zs kp) (active code (s + 1) lv (word.0 ∷ zs) kp) a a
              (Faults machine.Null) (suc (suc c)) (3 * length (filter is_tested (declared_vars (y ∷ vs))))
              (loaded s y.var.path lv zs a kp word.0 here.0 word.1) (omega (arith, long))
              (comes_later p i n m K (active code (s + 1) lv (word.0 ∷ zs) kp)
              (active code (s + 1 + 1) lv (word.0 ∷ zs) kp) a a (Faults machine.Null) (suc c) (suc (suc c))
              (checked (s + 1) lv zs a kp word.0 ref here.1.0 some) (omega arith)
              (comes_later p i n m K (active code (s + 1 + 1) lv (word.0 ∷ zs) kp) (active code mid lv zs kp) a a
              (Faults machine.Null) c (suc c)
              (popped (s + 1 + 1) mid lv zs a kp word.0 here.1.1.0 here.1.1.1) (omega arith)
              (rest (either_true (is_null_path y) (has_null_path vs) _ nulls
              (λ null. absurd (no_ref (sym (null_word (null_tested y.var.fixed y.var.ty y.value null).1) ∙ some)))
              (λ others. others)))))
            where
              no_ref : None ≡ Some ref → ⊥
              no_ref e = cc
