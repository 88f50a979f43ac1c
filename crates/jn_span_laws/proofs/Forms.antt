-- The parts of single instructions, of classes, and of forms with jumps.
use Rattle.std.proofs.Common.{◌≡◌, ℕ, zero, suc, ◌+◌, ◌<◌, ◌≤◌, List, [], ◌∷◌, ◌++◌, length, drop, Option, Some, None, Bool, true, false, ◌&&◌, refl, sym, ap, ◌∙◌, subst, arith, inl, inr, ◌⊎◌}
use Rattle.std.specs.Prelude.{slice_get, nat_le}
use Rattle.std.proofs.lemmas.Bool.{cases_lt, le-leb, lt-ltb}
use Rattle.std.proofs.lemmas.Option.{slice_get_within}
use Rattle.jn_base.specs.Paths.{Path}
use Rattle.jn_base.specs.Atoms.{Atom}
use Rattle.jn_code.specs.declared.kind.OperandKind.{OperandKind}
use Rattle.jn_code.specs.declared.kind.OperandKind.TheVariants as kind
use Rattle.jn_code.specs.declared.fault.CodeWhy.{CodeWhy}
use Rattle.jn_code.specs.declared.fault.CodeWhy.TheVariants as why
use Rattle.jn_code.specs.declared.instr.Instr.{Instr}
use Rattle.jn_code.specs.declared.instr.Instr.TheVariants as ins
use Rattle.jn_code.specs.declared.image.Image.{Image}
use Rattle.jn_code.specs.declared.image.Code.{Code}
use Rattle.jn_code.specs.Kinds.{takes, gives, list_of, after_it, target_of, goes_on, locals_of, local_kind}
use Rattle.jn_code.specs.Known.{SuitsKinds}
use Rattle.jn_code.specs.Rows.{unless, kind_eq}
use Rattle.jn_code.specs.Valid.{own_fault, number_is_there, local_is_there, is_place, all_suit, returns_well}
use Rattle.jn_agree.specs.Naming.{Naming}
use Rattle.jn_agree.specs.Spans.{Fine, Spans}
use Rattle.jn_agree.specs.Places.{At, Run, ClassCode, fixed, seen, up_by, downs, tuck}
use Rattle.jn_span_laws.specs.LawsOfForms.{AnchorRefers}
use Rattle.jn_span_laws.proofs.Spanned.{either_side, before, behind, joined, single}

got : {A : Type 0} (x y : A) → Some x ≡ Some y → x ≡ y
got x y e = cc

nothing : {A : Type 0} {q : A} → None ≡ Some q → ⊥
nothing e = cc

clash : true ≡ false → ⊥
clash e = cc

pub same_kind : (k : OperandKind) → kind_eq k k ≡ true
same_kind kind.Int = refl
same_kind kind.Bool = refl
same_kind kind.Reference = refl
same_kind kind.Class = refl

module _ (i : Image) (c : Code) where
  -- ---- one instruction

  -- an instruction with the kinds that it asks for has no fault
  pub own_none : (x : Instr) (ks : List OperandKind) → SuitsKinds i c x ks → own_fault i c x ks ≡ None
  own_none x ks h =
      passed (number_is_there i x) why.Number _ h.number
      ∙ passed (local_is_there c x) why.Local _ h.local
      ∙ passed (is_place c (target_of x)) why.Target _ h.place
      ∙ passed (nat_le (length (takes i c x)) (length ks)) why.Stack _ (le-leb _ _ h.many)
      ∙ passed (nat_le (length (after_it i c x ks)) c.stack) why.Stack _ (le-leb _ _ h.low)
      ∙ passed (all_suit (takes i c x) ks) why.Kind _ h.suits
      ∙ passed (returns_well c x) why.Kind None h.returns
    where
      passed : (b : Bool) (w : CodeWhy) (o : Option CodeWhy) → b ≡ true → unless b w o ≡ o
      passed b w o e = ap (λ (b : Bool). unless b w o) e

  pub one : (s : ℕ) (x : Instr) (ks : List OperandKind) → At c.instrs s x → target_of x ≡ None → goes_on x ≡ true →
      SuitsKinds i c x ks → Spans i c s (s + 1) ks (after_it i c x ks)
  one s x ks at no_target on h = single i c s x ks at no_target on (own_none x ks h)

  pub none : (s : ℕ) (ks : List OperandKind) → Spans i c s s ks ks
  none s ks = record {
    K = λ n. ks;
    first = refl;
    last = refl;
    le = omega arith;
    fine = λ n x lo hi e. absurd (omega (arith, lo, hi));
  }

  pub moved_end : (s e d : ℕ) (ks ls : List OperandKind) → e ≡ d → Spans i c s d ks ls → Spans i c s e ks ls
  moved_end s e d ks ls same h = subst (λ (e : ℕ). Spans i c s e ks ls) (sym same) h

  -- ---- parts of one table of kinds

  abbrev FineOn : (ℕ → List OperandKind) → (lo hi from to : ℕ) → Type 0
  FineOn K lo hi from to =
      (n : ℕ) (x : Instr) → from ≤ n → n < to → slice_get c.instrs n ≡ Some x → Fine i c K lo hi n x

  both : (K : ℕ → List OperandKind) (lo hi from mid to : ℕ) → FineOn K lo hi from mid → FineOn K lo hi mid to →
      FineOn K lo hi from to
  both K lo hi from mid to f g n x a b e = at (cases_lt n mid)
    where
      at : (n < mid) ⊎ (mid ≤ n) → Fine i c K lo hi n x
      at (inl lt) = f n x a lt e
      at (inr ge) = g n x ge b e

  widened : (from to lo hi : ℕ) (ks ls : List OperandKind) (f : Spans i c from to ks ls) (K : ℕ → List OperandKind) →
      lo ≤ from → to ≤ hi → ((n : ℕ) → from ≤ n → n ≤ to → K n ≡ f.K n) → FineOn K lo hi from to
  widened from to lo hi ks ls f K low high same n x a b e =
      let h = f.fine n x a b e in
      let here = same n a (omega (arith, b)) in
      let up = same (n + 1) (omega (arith, a)) (omega (arith, b)) in
      record {
        own = ap (λ (ks : List OperandKind). own_fault i c x ks) here ∙ h.own;
        target =
            λ q is. let r = h.target q is in (
              let l = r.0 in omega (arith, l, low),
              let l = r.1 in omega (arith, l, high),
              same q r.0 r.1 ∙ r.2 ∙ ap (λ (ks : List OperandKind). after_it i c x ks) (sym here),
            );
        next = λ on. up ∙ h.next on ∙ ap (λ (ks : List OperandKind). after_it i c x ks) (sym here);
        dead =
            λ off. elim (h.dead off) [
              | inl none ↦ inl (up ∙ none)
              | inr j ↦ inr (record {
                j = j.j;
                instr = j.instr;
                low = let l = j.low in omega (arith, l, low);
                earlier = j.earlier;
                at = j.at;
                target = j.target;
              })
            ];
      }

  at_place : (K : ℕ → List OperandKind) (lo hi k : ℕ) (y : Instr) → At c.instrs k y → Fine i c K lo hi k y →
      FineOn K lo hi k (k + 1)
  at_place K lo hi k y at f n x a b e =
      let same : n ≡ k = omega (arith, a, b) in
      subst (λ (n : ℕ). Fine i c K lo hi n x) (sym same)
      (subst (λ (y : Instr). Fine i c K lo hi k y)
      (got y x (sym at ∙ ap (λ (k : ℕ). slice_get c.instrs k) (sym same) ∙ e)) f)

  -- a jump with no operands, behind which there are none
  jump_fine : (K : ℕ → List OperandKind) (lo hi k t : ℕ) → K k ≡ [] → K t ≡ [] → K (k + 1) ≡ [] → lo ≤ t → t ≤ hi →
      t < length c.instrs → Fine i c K lo hi k (ins.Jump t)
  jump_fine K lo hi k t here there up low high place = record {
    own = ap (λ (ks : List OperandKind). own_fault i c (ins.Jump t) ks) here ∙ own_none (ins.Jump t) [] (record {
      number = refl;
      local = refl;
      place = lt-ltb t (length c.instrs) place;
      many = omega arith;
      low = omega arith;
      suits = refl;
      returns = refl;
    });
    target = λ q is. let same : t ≡ q = got t q is in (
      omega (arith, low, same),
      omega (arith, high, same),
      ap (λ (q : ℕ). K q) (sym same) ∙ there
          ∙ sym (ap (λ (ks : List OperandKind). after_it i c (ins.Jump t) ks) here),
    );
    next = λ on. absurd (clash (sym on));
    dead = λ off. inl up;
  }

  -- a branch on a truth value
  branch_fine : (K : ℕ → List OperandKind) (lo hi k t : ℕ) → K k ≡ kind.Bool ∷ [] → K t ≡ [] → K (k + 1) ≡ [] →
      lo ≤ t → t ≤ hi → t < length c.instrs → Fine i c K lo hi k (ins.Jfalse t)
  branch_fine K lo hi k t here there up low high place = record {
    own = ap (λ (ks : List OperandKind). own_fault i c (ins.Jfalse t) ks) here
        ∙ own_none (ins.Jfalse t) (kind.Bool ∷ []) (record {
          number = refl;
          local = refl;
          place = lt-ltb t (length c.instrs) place;
          many = omega arith;
          low = omega arith;
          suits = refl;
          returns = refl;
        });
    target = λ q is. let same : t ≡ q = got t q is in (
      omega (arith, low, same),
      omega (arith, high, same),
      ap (λ (q : ℕ). K q) (sym same) ∙ there
          ∙ sym (ap (λ (ks : List OperandKind). after_it i c (ins.Jfalse t) ks) here),
    );
    next = λ on. up ∙ sym (ap (λ (ks : List OperandKind). after_it i c (ins.Jfalse t) ks) here);
    dead = λ off. absurd (clash off);
  }

  -- ---- `if`

  pub chosen : (s m o u : ℕ) → Spans i c s m [] (kind.Bool ∷ []) → At c.instrs m (ins.Jfalse (o + 1)) →
      Spans i c (m + 1) o [] [] → At c.instrs o (ins.Jump u) → Spans i c (o + 1) u [] [] → u < length c.instrs →
      Spans i c s u [] []
  chosen s m o u test branch then_part jump else_part room = record {
    K = K;
    first = on_test s test.le ∙ test.first;
    last = on_else u else_part.le ∙ else_part.last;
    le = let a = test.le in let b = then_part.le in let d = else_part.le in omega (arith, a, b, d);
    fine =
        let a = test.le in
        let b = then_part.le in
        let d = else_part.le in
        let at_m : K m ≡ kind.Bool ∷ [] = on_test m (omega arith) ∙ test.last in
        let at_m1 : K (m + 1) ≡ [] = on_then (m + 1) (omega arith) b ∙ then_part.first in
        let at_o : K o ≡ [] = on_then o b (omega arith) ∙ then_part.last in
        let at_o1 : K (o + 1) ≡ [] = on_else (o + 1) (omega arith) ∙ else_part.first in
        let at_u : K u ≡ [] = on_else u d ∙ else_part.last in
        both K s u s (o + 1) u
        (both K s u s o (o + 1)
        (both K s u s (m + 1) o
        (both K s u s m (m + 1)
        (widened s m s u [] (kind.Bool ∷ []) test K (omega arith) (omega (arith, b, d)) (λ n lo hi. on_test n hi))
        (at_place K s u m (ins.Jfalse (o + 1)) branch
        (branch_fine K s u m (o + 1) at_m at_o1 at_m1 (omega (arith, a, b)) d (omega (arith, d, room)))))
        (widened (m + 1) o s u [] [] then_part K (omega (arith, a)) (omega (arith, d)) (λ n lo hi. on_then n lo hi)))
        (at_place K s u o (ins.Jump u) jump
        (jump_fine K s u o u at_o at_u at_o1 (omega (arith, a, b, d)) (omega arith) room)))
        (widened (o + 1) u s u [] [] else_part K (omega (arith, a, b)) (omega arith) (λ n lo hi. on_else n lo));
  }
    where
      rest : ℕ → List OperandKind
      rest n = either_side (o + 1) then_part.K else_part.K n

      K : ℕ → List OperandKind
      K n = either_side (m + 1) test.K rest n

      on_test : (n : ℕ) → n ≤ m → K n ≡ test.K n
      on_test n le = before (m + 1) n test.K rest (omega (arith, le))

      on_then : (n : ℕ) → m + 1 ≤ n → n ≤ o → K n ≡ then_part.K n
      on_then n lo hi = behind (m + 1) n test.K rest lo ∙ before (o + 1) n then_part.K else_part.K (omega (arith, hi))

      on_else : (n : ℕ) → o + 1 ≤ n → K n ≡ else_part.K n
      on_else n lo = behind (m + 1) n test.K rest (let b = then_part.le in omega (arith, b, lo)) ∙ behind (o + 1) n
          then_part.K else_part.K lo

  -- ---- `while`

  pub repeated : (s m o : ℕ) → Spans i c s m [] (kind.Bool ∷ []) → At c.instrs m (ins.Jfalse (o + 1)) →
      Spans i c (m + 1) o [] [] → At c.instrs o (ins.Jump s) → o + 1 < length c.instrs → Spans i c s (o + 1) [] []
  repeated s m o test branch again jump room = record {
    K = K;
    first = on_test s test.le ∙ test.first;
    last = on_end;
    le = let a = test.le in let b = again.le in omega (arith, a, b);
    fine =
        let a = test.le in
        let b = again.le in
        let at_m : K m ≡ kind.Bool ∷ [] = on_test m (omega arith) ∙ test.last in
        let at_m1 : K (m + 1) ≡ [] = on_again (m + 1) (omega arith) b ∙ again.first in
        let at_o : K o ≡ [] = on_again o b (omega arith) ∙ again.last in
        let at_s : K s ≡ [] = on_test s a ∙ test.first in
        both K s (o + 1) s o (o + 1)
        (both K s (o + 1) s (m + 1) o
        (both K s (o + 1) s m (m + 1)
        (widened s m s (o + 1) [] (kind.Bool ∷ []) test K (omega arith) (omega (arith, b)) (λ n lo hi. on_test n hi))
        (at_place K s (o + 1) m (ins.Jfalse (o + 1)) branch
        (branch_fine K s (o + 1) m (o + 1) at_m on_end at_m1 (omega (arith, a, b)) (omega arith) room)))
        (widened (m + 1) o s (o + 1) [] [] again K (omega (arith, a)) (omega arith) (λ n lo hi. on_again n lo hi)))
        (at_place K s (o + 1) o (ins.Jump s) jump
        (jump_fine K s (o + 1) o s at_o at_s on_end (omega arith) (omega (arith, a, b)) (omega (arith, a, b, room))));
  }
    where
      rest : ℕ → List OperandKind
      rest n = either_side (o + 1) again.K (λ k. []) n

      K : ℕ → List OperandKind
      K n = either_side (m + 1) test.K rest n

      on_test : (n : ℕ) → n ≤ m → K n ≡ test.K n
      on_test n le = before (m + 1) n test.K rest (omega (arith, le))

      on_again : (n : ℕ) → m + 1 ≤ n → n ≤ o → K n ≡ again.K n
      on_again n lo hi = behind (m + 1) n test.K rest lo ∙ before (o + 1) n again.K (λ k. []) (omega (arith, hi))

      on_end : K (o + 1) ≡ []
      on_end = behind (m + 1) (o + 1) test.K rest (let b = again.le in omega (arith, b))
          ∙ behind (o + 1) (o + 1) again.K (λ k. []) (omega arith)

  -- ---- a return

  pub returns : (s : ℕ) (x : Instr) (ks : List OperandKind) → At c.instrs s x → target_of x ≡ None →
      goes_on x ≡ false → SuitsKinds i c x ks → Spans i c s (s + 1) ks []
  returns s x ks at no_target off h = record {
    K = K;
    first = here;
    last = behind (s + 1) (s + 1) (λ k. ks) (λ k. []) (omega arith);
    le = omega arith;
    fine = at_place K s (s + 1) s x at (record {
      own = ap (λ (ks : List OperandKind). own_fault i c x ks) here ∙ own_none x ks h;
      target = λ q is. absurd (nothing (sym no_target ∙ is));
      next = λ on. absurd (clash (sym on ∙ off));
      dead = λ o. inl (behind (s + 1) (s + 1) (λ k. ks) (λ k. []) (omega arith));
    });
  }
    where
      K : ℕ → List OperandKind
      K n = either_side (s + 1) (λ k. ks) (λ k. []) n

      here : K s ≡ ks
      here = before (s + 1) s (λ k. ks) (λ k. []) (omega arith)

  -- ---- locals

  -- a local of this kind is loaded
  pub loads : (s q : ℕ) (k : OperandKind) (ks : List OperandKind) → At c.instrs s (ins.Load q) →
      local_kind c q ≡ Some k → suc (length ks) ≤ c.stack → Spans i c s (s + 1) ks (k ∷ ks)
  loads s q k ks at is room =
      subst (λ (ls : List OperandKind). Spans i c s (s + 1) ks ls) after
      (one s (ins.Load q) ks at refl refl (record {
        number = refl;
        local = lt-ltb q (length (locals_of c)) (slice_get_within (locals_of c) q k is);
        place = refl;
        many = omega arith;
        low = subst (λ (ls : List OperandKind). length ls ≤ c.stack) (sym after) room;
        suits = refl;
        returns = refl;
      }))
    where
      after : after_it i c (ins.Load q) ks ≡ k ∷ ks
      after = ap (λ (o : Option OperandKind). list_of o ++ ks) is

  -- and stored
  pub stores : (s q : ℕ) (k : OperandKind) (ks : List OperandKind) → At c.instrs s (ins.Store q) →
      local_kind c q ≡ Some k → length ks ≤ c.stack → Spans i c s (s + 1) (k ∷ ks) ks
  stores s q k ks at is room =
      one s (ins.Store q) (k ∷ ks) at refl refl (record {
        number = refl;
        local = lt-ltb q (length (locals_of c)) (slice_get_within (locals_of c) q k is);
        place = refl;
        many = omega arith;
        low = room;
        suits = ap (λ (o : Option OperandKind). all_suit (o ∷ []) (k ∷ ks)) is
            ∙ ap (λ (b : Bool). b && true) (same_kind k);
        returns = refl;
      })

  pub tucked : (q s e : ℕ) (k : OperandKind) (ks : List OperandKind) → local_kind c q ≡ Some k →
      local_kind c 0 ≡ Some kind.Reference → Run c.instrs (tuck q) s e → suc (suc (length ks)) ≤ c.stack →
      Spans i c s e (k ∷ ks) (k ∷ (kind.Reference ∷ ks))
  tucked q s e k ks is this runs room =
      moved_end s e (s + 1 + 1 + 1) (k ∷ ks) (k ∷ (kind.Reference ∷ ks)) runs.1.1.1
      (joined i c s (s + 1) (s + 1 + 1 + 1) (k ∷ ks) ks (k ∷ (kind.Reference ∷ ks))
      (stores s q k ks runs.0 is (omega (arith, room)))
      (joined i c (s + 1) (s + 1 + 1) (s + 1 + 1 + 1) ks (kind.Reference ∷ ks) (k ∷ (kind.Reference ∷ ks))
      (loads (s + 1) 0 kind.Reference ks runs.1.0 this (omega (arith, room)))
      (loads (s + 1 + 1) q k (kind.Reference ∷ ks) runs.1.1.0 is room)))

  -- ---- classes

  -- a class in place of an operand
  steps : (s : ℕ) (x : Instr) (k : OperandKind) (ks : List OperandKind) → At c.instrs s x → target_of x ≡ None →
      goes_on x ≡ true → number_is_there i x ≡ true → local_is_there c x ≡ true → returns_well c x ≡ true →
      takes i c x ≡ Some k ∷ [] → gives i c x ≡ Some kind.Class →
      suc (length ks) ≤ c.stack → Spans i c s (s + 1) (k ∷ ks) (kind.Class ∷ ks)
  steps s x k ks at no_target on number local returns takes_it gives_it room =
      subst (λ (ls : List OperandKind). Spans i c s (s + 1) (k ∷ ks) ls) after
      (one s x (k ∷ ks) at no_target on (record {
        number = number;
        local = local;
        place = ap (is_place c) no_target;
        many = subst (λ (ts : List (Option OperandKind)). length ts ≤ length (k ∷ ks)) (sym takes_it) (omega arith);
        low = subst (λ (ls : List OperandKind). length ls ≤ c.stack) (sym after) room;
        suits = ap (λ (ts : List (Option OperandKind)). all_suit ts (k ∷ ks)) takes_it
            ∙ ap (λ (b : Bool). b && true) (same_kind k);
        returns = returns;
      }))
    where
      after : after_it i c x (k ∷ ks) ≡ kind.Class ∷ ks
      after =
          ap (λ (o : Option OperandKind). list_of o ++ drop (length (takes i c x)) (k ∷ ks))
          gives_it
          ∙ ap (λ (ts : List (Option OperandKind)). kind.Class ∷ drop (length ts) (k ∷ ks)) takes_it

  pub split_end : (xs ys : List Instr) (s e : ℕ) → Run c.instrs (xs ++ ys) s e →
      (mid : ℕ) × Run c.instrs xs s mid × Run c.instrs ys mid e
  split_end [] ys s e h = (s, refl, h)
  split_end (x ∷ xs) ys s e h =
      let r = split_end xs ys (s + 1) e h.1 in
      (r.0, (h.0, r.1), r.2)

  names_down : (ns : Path) (s e : ℕ) (ks : List OperandKind) → Run c.instrs (downs ns) s e →
      suc (length ks) ≤ c.stack → Spans i c s e (kind.Class ∷ ks) (kind.Class ∷ ks)
  names_down [] s e ks runs room = moved_end s e s (kind.Class ∷ ks) (kind.Class ∷ ks) runs (none s (kind.Class ∷ ks))
  names_down (C ∷ ns) s e ks runs room =
      let two = split_end (downs ns) (ins.Down C.0 ∷ []) s e runs in
      moved_end s e (two.0 + 1) (kind.Class ∷ ks) (kind.Class ∷ ks) two.2.1
      (joined i c s two.0 (two.0 + 1) (kind.Class ∷ ks) (kind.Class ∷ ks) (kind.Class ∷ ks)
      (names_down ns s two.0 ks two.1 room)
      (steps two.0 (ins.Down C.0) kind.Class ks two.2.0 refl refl refl refl refl refl refl room))

  ups : (k s e : ℕ) (ks : List OperandKind) → Run c.instrs (up_by k) s e → suc (length ks) ≤ c.stack →
      Spans i c s e (kind.Class ∷ ks) (kind.Class ∷ ks)
  ups zero s e ks runs room = moved_end s e s (kind.Class ∷ ks) (kind.Class ∷ ks) runs (none s (kind.Class ∷ ks))
  ups (suc k) s e ks runs room =
      moved_end s e (s + 1) (kind.Class ∷ ks) (kind.Class ∷ ks) runs.1
      (steps s (ins.Up (suc k)) kind.Class ks runs.0 refl refl refl refl refl refl refl room)

  pub class : (n : Naming) (x : Atom) (xs : List Instr) (s e : ℕ) (ks : List OperandKind) →
      length n.classes ≤ length i.classes → AnchorRefers c x → ClassCode n x xs → Run c.instrs xs s e →
      suc (length ks) ≤ c.stack → Spans i c s e ks (kind.Class ∷ ks)
  class n x xs s e ks many refers (fixed k root cls is) runs room =
      let at = subst (λ (xs : List Instr). Run c.instrs xs s e) is runs in
      let low = slice_get_within n.classes k (x.names ++ x.exact) cls in
      moved_end s e (s + 1) ks (kind.Class ∷ ks) at.1
      (one s (ins.Cls k) ks at.0 refl refl (record {
        number = lt-ltb k (length i.classes) (omega (arith, low, many));
        local = refl;
        place = refl;
        many = omega arith;
        low = room;
        suits = refl;
        returns = refl;
      }))
  class n x xs s e ks many refers (seen q k up is) runs room =
      let at = subst (λ (xs : List Instr). Run c.instrs xs s e) is runs in
      let two = split_end (up_by k) (downs (x.names ++ x.exact)) (s + 1 + 1) e at.1.1 in
      joined i c s (s + 1) e ks (kind.Reference ∷ ks) (kind.Class ∷ ks)
      (loads s q kind.Reference ks at.0 (refers q k up) room)
      (joined i c (s + 1) (s + 1 + 1) e (kind.Reference ∷ ks) (kind.Class ∷ ks) (kind.Class ∷ ks)
      (steps (s + 1) ins.Viewof kind.Reference ks at.1.0 refl refl refl refl refl refl refl room)
      (joined i c (s + 1 + 1) two.0 e (kind.Class ∷ ks) (kind.Class ∷ ks) (kind.Class ∷ ks)
      (ups k (s + 1 + 1) two.0 ks two.1 room)
      (names_down (x.names ++ x.exact) two.0 e ks two.2 room)))
