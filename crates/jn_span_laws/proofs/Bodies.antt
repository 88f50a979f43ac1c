-- The kinds of a whole body: the tests of its parameters, its statements, and its last return.
use Rattle.std.proofs.Common.{◌≡◌, ℕ, zero, suc, ◌+◌, ◌≤◌, List, [], ◌∷◌, length, Option, Some, None, Bool, true, false, not, ◌&&◌, refl, sym, ap, ◌∙◌, subst, arith}
use Rattle.std.specs.Prelude.{slice_get, pos, is_some}
use Rattle.jn_base.specs.declared.names.Var.{Var}
use Rattle.jn_base.specs.Atoms.{first, later}
use Rattle.jn_code.specs.declared.kind.OperandKind.{OperandKind}
use Rattle.jn_code.specs.declared.kind.OperandKind.TheVariants as kind
use Rattle.jn_code.specs.declared.instr.Instr.{Instr}
use Rattle.jn_code.specs.declared.instr.Instr.TheVariants as ins
use Rattle.jn_code.specs.declared.image.Image.{Image}
use Rattle.jn_code.specs.declared.image.Code.{Code}
use Rattle.jn_code.specs.Kinds.{after_it, target_of, goes_on, local_kind, result_kind}
use Rattle.jn_code.specs.Known.{SuitsKinds}
use Rattle.jn_code.specs.Valid.{all_suit}
use Rattle.jn_agree.specs.Follows.{is_tested}
use Rattle.jn_agree.specs.Spans.{Spans}
use Rattle.jn_agree.specs.Places.{At, Run, testing, tests, last_return}
use Rattle.jn_span_laws.specs.LawsOfSpans.{Passes}
use Rattle.jn_span_laws.specs.LawsOfForms.{TestedRefer, FormsOf}
use Rattle.jn_span_laws.proofs.Spanned.{joined}
use Rattle.jn_span_laws.proofs.Passed.{spanned_passes}
use Rattle.jn_span_laws.proofs.Forms as forms

module _ (i : Image) (c : Code) where
  -- ---- tests

  one_tested : (q s e : ℕ) → local_kind c q ≡ Some kind.Reference → Run c.instrs (testing true q) s e → 1 ≤ c.stack →
      Spans i c s e [] []
  one_tested q s e is runs room =
      forms.moved_end i c s e (s + 1 + 1 + 1) [] [] runs.1.1.1
      (joined i c s (s + 1) (s + 1 + 1 + 1) [] (kind.Reference ∷ []) []
      (forms.loads i c s q kind.Reference [] runs.0 is room)
      (joined i c (s + 1) (s + 1 + 1) (s + 1 + 1 + 1) (kind.Reference ∷ []) (kind.Reference ∷ []) []
      (forms.one i c (s + 1) ins.Check (kind.Reference ∷ []) runs.1.0 refl refl (record {
        number = refl;
        local = refl;
        place = refl;
        many = omega arith;
        low = room;
        suits = refl;
        returns = refl;
      }))
      (forms.one i c (s + 1 + 1) ins.Pop (kind.Reference ∷ []) runs.1.1.0 refl refl (record {
        number = refl;
        local = refl;
        place = refl;
        many = omega arith;
        low = omega arith;
        suits = refl;
        returns = refl;
      }))))

  pub tested : (vars : List Var) (s e : ℕ) → TestedRefer c vars → Run c.instrs (tests vars) s e → 1 ≤ c.stack →
      Spans i c s e [] []
  tested [] s e refer runs room = forms.moved_end i c s e s [] [] runs (forms.none i c s [])
  tested (x ∷ xs) s e refer runs room =
      let two = forms.split_end i c (testing (is_tested x) x.path) (tests xs) s e runs in
      joined i c s two.0 e [] [] []
      (at (is_tested x) refl two.0 two.1)
      (tested xs two.0 e (λ y a. refer y (later a)) two.2 room)
    where
      at : (t : Bool) → is_tested x ≡ t → (mid : ℕ) → Run c.instrs (testing (is_tested x) x.path) s mid →
          Spans i c s mid [] []
      at true is mid h = one_tested x.path s mid (refer x first is)
          (subst (λ (t : Bool). Run c.instrs (testing t x.path) s mid) is h) room
      at false is mid h = forms.moved_end i c s mid s [] []
          (subst (λ (t : Bool). Run c.instrs (testing t x.path) s mid) is h) (forms.none i c s [])

  -- ---- the last return

  -- the part, which ends in an instruction that doesn't go on
  record Closes (s e : ℕ) : Type 0 where
    pub part : Spans i c s e [] []
    pub place : ℕ
    pub instr : Instr
    pub at : At c.instrs place instr
    pub last : suc place ≡ e
    pub closes : goes_on instr ≡ false
    pub begins : (x : Instr) × At c.instrs s x

  -- a value of the result's kind, and RETV
  value_returned : (s e : ℕ) (x : Instr) (k : OperandKind) → result_kind c.result ≡ Some k → At c.instrs s x →
      At c.instrs (s + 1) ins.Retv → e ≡ s + 1 + 1 → Spans i c s (s + 1) [] (k ∷ []) → Closes s e
  value_returned s e x k is at_value at_return same value = record {
    part = forms.moved_end i c s e (s + 1 + 1) [] [] same (joined i c s (s + 1) (s + 1 + 1) [] (k ∷ []) [] value
        (forms.returns i c (s + 1) ins.Retv (k ∷ []) at_return refl refl (record {
          number = refl;
          local = refl;
          place = refl;
          many = omega arith;
          low = omega arith;
          suits = ap (λ (o : Option OperandKind). all_suit (o ∷ []) (k ∷ [])) is
              ∙ ap (λ (b : Bool). b && true) (forms.same_kind k);
          returns = ap (λ (o : Option OperandKind). is_some o) is;
        })));
    place = s + 1;
    instr = ins.Retv;
    at = at_return;
    last = omega (arith, same);
    closes = refl;
    begins = (x, at_value);
  }

  -- an instruction that needs nothing is had
  pushed : (s : ℕ) (x : Instr) (k : OperandKind) → At c.instrs s x → SuitsKinds i c x [] → target_of x ≡ None →
      goes_on x ≡ true → after_it i c x [] ≡ k ∷ [] → Spans i c s (s + 1) [] (k ∷ [])
  pushed s x k at h no_target on is =
      subst (λ (ls : List OperandKind). Spans i c s (s + 1) [] ls) is (forms.one i c s x [] at no_target on h)

  closes_by : (k s e : ℕ) → c.result ≡ k → Run c.instrs (last_return k) s e → 1 ≤ c.stack → Closes s e
  closes_by zero s e is runs room = record {
    part = forms.moved_end i c s e (s + 1) [] [] runs.1 (forms.returns i c s ins.Ret [] runs.0 refl refl (record {
      number = refl;
      local = refl;
      place = refl;
      many = omega arith;
      low = omega arith;
      suits = refl;
      returns = ap (λ (k : ℕ). not (is_some (result_kind k))) is;
    }));
    place = s;
    instr = ins.Ret;
    at = runs.0;
    last = (let l = runs.1 in omega (arith, l));
    closes = refl;
    begins = (ins.Ret, runs.0);
  }
  closes_by (suc zero) s e is runs room =
      value_returned s e (ins.Int (pos 0)) kind.Int (ap result_kind is) runs.0 runs.1.0 runs.1.1
      (pushed s (ins.Int (pos 0)) kind.Int runs.0 (record {
        number = refl;
        local = refl;
        place = refl;
        many = omega arith;
        low = room;
        suits = refl;
        returns = refl;
      }) refl refl refl)
  closes_by (suc (suc zero)) s e is runs room =
      value_returned s e (ins.Bool 0) kind.Bool (ap result_kind is) runs.0 runs.1.0 runs.1.1
      (pushed s (ins.Bool 0) kind.Bool runs.0 (record {
        number = refl;
        local = refl;
        place = refl;
        many = omega arith;
        low = room;
        suits = refl;
        returns = refl;
      }) refl refl refl)
  closes_by (suc (suc (suc k))) s e is runs room =
      value_returned s e ins.Null kind.Reference (ap result_kind is) runs.0 runs.1.0 runs.1.1
      (pushed s ins.Null kind.Reference runs.0 (record {
        number = refl;
        local = refl;
        place = refl;
        many = omega arith;
        low = room;
        suits = refl;
        returns = refl;
      }) refl refl refl)

  -- ---- the whole

  begins_with : (xs : List Instr) (k : ℕ) (x : Instr) → slice_get xs k ≡ Some x → (y : Instr) × (ys : List Instr) ×
      (xs ≡ y ∷ ys)
  begins_with [] zero x e = absurd (nothing e)
    where
      nothing : None ≡ Some x → ⊥
      nothing e = cc
  begins_with [] (suc k) x e = absurd (nothing e)
    where
      nothing : None ≡ Some x → ⊥
      nothing e = cc
  begins_with (y ∷ ys) k x e = (y, ys, refl)

  pub body : (vars : List Var) (start last : ℕ) → TestedRefer c vars → Run c.instrs (tests vars) 0 start →
      Spans i c start last [] [] → Run c.instrs (last_return c.result) last (length c.instrs) → 1 ≤ c.stack →
      Passes i c
  body vars start last refer tests_run stmts over room =
      let end = closes_by c.result last (length c.instrs) refl over room in
      let whole = joined i c 0 start (length c.instrs) [] [] [] (tested vars 0 start refer tests_run room)
      (joined i c start last (length c.instrs) [] [] [] stmts end.part) in
      let front = begins_with c.instrs end.place end.instr end.at in
      spanned_passes i c [] front.0 front.1 whole
      (λ n x at_end at.
      let place = end.last in
      let same : end.place ≡ n = omega (arith, place, at_end) in
      ap (λ (x : Instr). goes_on x)
      (got x end.instr (sym at ∙ ap (λ (k : ℕ). slice_get c.instrs k) (sym same) ∙ end.at)) ∙ end.closes)
      front.2
    where
      got : (x y : Instr) → Some x ≡ Some y → x ≡ y
      got x y e = cc

pub forms_span : (i : Image) (c : Code) → FormsOf i c
forms_span i c = record {
  none = forms.none i c;
  one = forms.one i c;
  class = forms.class i c;
  tucked = forms.tucked i c;
  chosen = forms.chosen i c;
  repeated = forms.repeated i c;
  returns = forms.returns i c;
  tested = tested i c;
  body = body i c;
}
