-- Parts of a code that have no fault, one behind the other and one inside the other.
use Rattle.std.proofs.Common.{◌≡◌, ℕ, ◌+◌, ◌<◌, ◌≤◌, List, ◌∷◌, Some, None, Bool, true, false, refl, sym, ap, ◌∙◌, subst, arith, inl, inr, ◌⊎◌}
use Rattle.std.specs.Prelude.{slice_get, nat_lt, if◌then◌else◌}
use Rattle.std.proofs.lemmas.Bool.{cases_lt, lt-ltb, le-ltb}
use Rattle.jn_code.specs.declared.kind.OperandKind.{OperandKind}
use Rattle.jn_code.specs.declared.kind.OperandKind.TheVariants as kind
use Rattle.jn_code.specs.declared.instr.Instr.{Instr}
use Rattle.jn_code.specs.declared.instr.Instr.TheVariants as ins
use Rattle.jn_code.specs.declared.image.Image.{Image}
use Rattle.jn_code.specs.declared.image.Code.{Code}
use Rattle.jn_code.specs.Kinds.{after_it, target_of, goes_on}
use Rattle.jn_code.specs.Valid.{own_fault}
use Rattle.jn_agree.specs.Spans.{Fine, Spans}
use Rattle.jn_agree.specs.Places.{At, deciding, decided_by}

-- the kinds of two parts that meet at m
abbrev pub either_side : ℕ → (ℕ → List OperandKind) → (ℕ → List OperandKind) → ℕ → List OperandKind
either_side m K L n = if nat_lt n m then K n else L n

pub before : (m n : ℕ) (K L : ℕ → List OperandKind) → n < m → either_side m K L n ≡ K n
before m n K L lt = ap (λ (b : Bool). if b then K n else L n) (lt-ltb n m lt)

pub behind : (m n : ℕ) (K L : ℕ → List OperandKind) → m ≤ n → either_side m K L n ≡ L n
behind m n K L le = ap (λ (b : Bool). if b then K n else L n) (le-ltb n m le)

module _ (i : Image) (c : Code) where
  pub joined : (s m t : ℕ) (ks js ls : List OperandKind) → Spans i c s m ks js → Spans i c m t js ls
      → Spans i c s t ks ls
  joined s m t ks js ls f g = record {
    K = K;
    first = left s f.le ∙ f.first;
    last = behind m t f.K g.K g.le ∙ g.last;
    le = let a = f.le in let b = g.le in omega (arith, a, b);
    fine = λ n x lo hi e. at_side n x lo hi e (cases_lt n m);
  }
    where
      K : ℕ → List OperandKind
      K n = either_side m f.K g.K n

      left : (n : ℕ) → n ≤ m → K n ≡ f.K n
      left n le = at_case (cases_lt n m)
        where
          at_case : (n < m) ⊎ (m ≤ n) → K n ≡ f.K n
          at_case (inl lt) = before m n f.K g.K lt
          at_case (inr ge) =
              let same : n ≡ m = omega (arith, le, ge) in
              behind m n f.K g.K ge ∙ ap (λ (k : ℕ). g.K k) same ∙ g.first ∙ sym f.last ∙ ap (λ (k : ℕ). f.K k)
              (sym same)

      right : (n : ℕ) → m ≤ n → K n ≡ g.K n
      right n le = behind m n f.K g.K le

      at_side : (n : ℕ) (x : Instr) → s ≤ n → n < t → slice_get c.instrs n ≡ Some x → (n < m) ⊎ (m ≤ n)
          → Fine i c K s t n x
      at_side n x lo hi e (inl lt) =
          let h = f.fine n x lo lt e in
          let here = left n (omega (arith, lt)) in
          let up = left (n + 1) (omega (arith, lt)) in
          record {
            own = ap (λ (ks : List OperandKind). own_fault i c x ks) here ∙ h.own;
            target =
                λ q is. let r =
                h.target q is in let g_le =
                g.le in (
                  r.0,
                  omega (arith, r.1, g_le),
                  left q r.1 ∙ r.2 ∙ ap
                      (λ (ks : List OperandKind). after_it i c x ks) (sym here),
                );
            next = λ on. up ∙ h.next on ∙ ap (λ (ks : List OperandKind). after_it i c x ks) (sym here);
            dead = λ off. elim (h.dead off) [ inl none ↦ inl (up ∙ none) | inr j ↦ inr j ];
          }
      at_side n x lo hi e (inr ge) =
          let h = g.fine n x ge hi e in
          let here = right n ge in
          let up = right (n + 1) (omega (arith, ge)) in
          record {
            own = ap (λ (ks : List OperandKind). own_fault i c x ks) here ∙ h.own;
            target =
                λ q is. let r =
                h.target q is in let f_le =
                f.le in (
                  omega (arith, r.0, f_le),
                  r.1,
                  right q r.0 ∙ r.2 ∙ ap
                      (λ (ks : List OperandKind). after_it i c x ks) (sym here),
                );
            next = λ on. up ∙ h.next on ∙ ap (λ (ks : List OperandKind). after_it i c x ks) (sym here);
            dead = λ off. elim (h.dead off) [
              | inl none ↦ inl (up ∙ none)
              | inr j ↦ inr (let f_le = f.le in let low = j.low in
                  record {
                    j = j.j;
                    instr = j.instr;
                    low = omega (arith, f_le, low);
                    earlier = j.earlier;
                    at = j.at;
                    target = j.target;
                  })
            ];
          }

  -- one instruction that neither jumps nor ends the code
  pub single : (s : ℕ) (x : Instr) (ks : List OperandKind) → At c.instrs s x → target_of x ≡ None
      → goes_on x ≡ true → own_fault i c x ks ≡ None → Spans i c s (s + 1) ks (after_it i c x ks)
  single s x ks at no_target on own = record {
    K = K;
    first = before (s + 1) s (λ k. ks) (λ k. after_it i c x ks) (omega arith);
    last = behind (s + 1) (s + 1) (λ k. ks) (λ k. after_it i c x ks) (omega arith);
    le = omega arith;
    fine = λ n y lo hi e. at_place n y (omega (arith, lo, hi)) e;
  }
    where
      K : ℕ → List OperandKind
      K n = either_side (s + 1) (λ k. ks) (λ k. after_it i c x ks) n

      at_place : (n : ℕ) (y : Instr) → n ≡ s → slice_get c.instrs n ≡ Some y → Fine i c K s (s + 1) n y
      at_place n y same e =
          let is : x ≡ y = got x y (sym at ∙ ap (λ (k : ℕ). slice_get c.instrs k) (sym same) ∙ e) in
          let here : K n ≡ ks = before (s + 1) n (λ k. ks) (λ k. after_it i c x ks) (omega (arith, same)) in
          let up : K (n + 1) ≡ after_it i c x ks = behind (s + 1) (n + 1) (λ k. ks) (λ k. after_it i c x ks)
          (omega (arith, same)) in
          subst (λ (y : Instr). Fine i c K s (s + 1) n y) is (record {
            own = ap (λ (ks : List OperandKind). own_fault i c x ks) here ∙ own;
            target = λ q is. absurd (none_some (sym no_target ∙ is));
            next = λ on. up ∙ ap (λ (ks : List OperandKind). after_it i c x ks) (sym here);
            dead = λ off. absurd (clash (sym on ∙ off));
          })
        where
          got : (x y : Instr) → Some x ≡ Some y → x ≡ y
          got x y e = cc

          none_some : {q : ℕ} → None ≡ Some q → ⊥
          none_some e = cc

          clash : true ≡ false → ⊥
          clash e = cc

  -- a right operand that the left one may pass by: a jump to the value of the whole, which stands behind a jump over it
  decides : (s m : ℕ) (ks : List OperandKind) (branch value : Instr) → At c.instrs s branch
      → At c.instrs m (ins.Jump (m + 1 + 1)) → At c.instrs (m + 1) value
      → target_of branch ≡ Some (m + 1) → goes_on branch ≡ true → after_it i c branch (kind.Bool ∷ ks) ≡ ks
      → target_of value ≡ None → goes_on value ≡ true → after_it i c value ks ≡ kind.Bool ∷ ks
      → own_fault i c branch (kind.Bool ∷ ks) ≡ None → own_fault i c (ins.Jump (m + 1 + 1)) (kind.Bool ∷ ks) ≡ None
      → own_fault i c value ks ≡ None
      → Spans i c (s + 1) m ks (kind.Bool ∷ ks) → Spans i c s (m + 1 + 1) (kind.Bool ∷ ks) (kind.Bool ∷ ks)
  decides s m ks branch value at_left at_jump at_value leads on_left taken nowhere on_value given own_left own_jump
      own_value right = record {
        K = K;
        first = before (s + 1) s (λ k. both) later (omega arith);
        last = K_end;
        le = omega (arith, le);
        fine = λ n x lo hi e. at_left_side n x lo hi e (cases_lt n (s + 1)) (cases_lt n m) (cases_lt n (m + 1));
      }
    where
      both : List OperandKind
      both = kind.Bool ∷ ks

      le : s + 1 ≤ m
      le = right.le

      tail : ℕ → List OperandKind
      tail n = either_side (m + 1 + 1) (λ k. ks) (λ k. both) n

      later : ℕ → List OperandKind
      later n = either_side (m + 1) right.K tail n

      K : ℕ → List OperandKind
      K n = either_side (s + 1) (λ k. both) later n

      K_inside : (n : ℕ) → s + 1 ≤ n → n < m + 1 → K n ≡ right.K n
      K_inside n lo hi = behind (s + 1) n (λ k. both) later lo ∙ before (m + 1) n right.K tail hi

      K_value : K (m + 1) ≡ ks
      K_value =
          behind (s + 1) (m + 1) (λ k. both) later (omega (arith, le)) ∙ behind (m + 1) (m + 1) right.K tail
          (omega arith) ∙ before (m + 1 + 1) (m + 1) (λ k. ks) (λ k. both) (omega arith)

      K_end : K (m + 1 + 1) ≡ both
      K_end =
          behind (s + 1) (m + 1 + 1) (λ k. both) later (omega (arith, le)) ∙ behind (m + 1) (m + 1 + 1) right.K tail
          (omega arith) ∙ behind (m + 1 + 1) (m + 1 + 1) (λ k. ks) (λ k. both) (omega arith)

      got : (x y : Instr) → Some x ≡ Some y → x ≡ y
      got x y e = cc

      got_place : (x y : ℕ) → Some x ≡ Some y → x ≡ y
      got_place x y e = cc

      no_place : {q : ℕ} → None ≡ Some q → ⊥
      no_place e = cc

      not_on : true ≡ false → ⊥
      not_on e = cc

      -- the instruction at a place that is known
      fine_at : (k : ℕ) (y : Instr) (n : ℕ) (x : Instr) → At c.instrs k y → n ≡ k
          → slice_get c.instrs n ≡ Some x → Fine i c K s (m + 1 + 1) k y → Fine i c K s (m + 1 + 1) n x
      fine_at k y n x at same e f =
          subst (λ (n : ℕ). Fine i c K s (m + 1 + 1) n x) (sym same)
          (subst (λ (y : Instr). Fine i c K s (m + 1 + 1) k y)
          (got y x (sym at ∙ ap (λ (k : ℕ). slice_get c.instrs k) (sym same) ∙ e)) f)

      K_first : K s ≡ both
      K_first = before (s + 1) s (λ k. both) later (omega arith)

      K_jump : K m ≡ both
      K_jump = K_inside m le (omega arith) ∙ right.last

      branch_fine : Fine i c K s (m + 1 + 1) s branch
      branch_fine = record {
        own = ap (λ (ks : List OperandKind). own_fault i c branch ks) K_first ∙ own_left;
        target =
            λ q is. let same : m + 1 ≡ q = got_place (m + 1) q (sym leads ∙ is) in (
              omega (arith, le, same),
              omega (arith, same),
              ap (λ (q : ℕ). K q) (sym same) ∙ K_value ∙ sym
                  (ap (λ (ks : List OperandKind). after_it i c branch ks) K_first ∙ taken),
            );
        next =
            λ on. K_inside (s + 1) (omega arith) (omega (arith, le)) ∙ right.first ∙ sym
            (ap (λ (ks : List OperandKind). after_it i c branch ks) K_first ∙ taken);
        dead = λ off. absurd (not_on (sym on_left ∙ off));
      }

      jump_fine : Fine i c K s (m + 1 + 1) m (ins.Jump (m + 1 + 1))
      jump_fine = record {
        own = ap (λ (ks : List OperandKind). own_fault i c (ins.Jump (m + 1 + 1)) ks) K_jump ∙ own_jump;
        target =
            λ q is. let same : m + 1 + 1 ≡ q = got_place (m + 1 + 1) q is in (
              omega (arith, le, same),
              omega (arith, same),
              ap (λ (q : ℕ). K q) (sym same) ∙ K_end ∙ sym
                  (ap (λ (ks : List OperandKind). after_it i c (ins.Jump (m + 1 + 1)) ks) K_jump),
            );
        next = λ on. absurd (not_on (sym on));
        dead =
            λ off. inr (record {
              j = s;
              instr = branch;
              low = omega arith;
              earlier = omega (arith, le);
              at = at_left;
              target = leads;
            });
      }

      value_fine : Fine i c K s (m + 1 + 1) (m + 1) value
      value_fine = record {
        own = ap (λ (ks : List OperandKind). own_fault i c value ks) K_value ∙ own_value;
        target = λ q is. absurd (no_place (sym nowhere ∙ is));
        next = λ on. K_end ∙ sym (ap (λ (ks : List OperandKind). after_it i c value ks) K_value ∙ given);
        dead = λ off. absurd (not_on (sym on_value ∙ off));
      }

      at_left_side : (n : ℕ) (x : Instr) → s ≤ n → n < m + 1 + 1 → slice_get c.instrs n ≡ Some x
          → (n < s + 1) ⊎ (s + 1 ≤ n) → (n < m) ⊎ (m ≤ n) → (n < m + 1) ⊎ (m + 1 ≤ n) → Fine i c K s (m + 1 + 1) n x
      at_left_side n x lo hi e (inl a) b d =
          fine_at s branch n x at_left (omega (arith, lo, a)) e branch_fine
      at_left_side n x lo hi e (inr a) (inl b) d =
          let h = right.fine n x a b e in
          let here = K_inside n a (omega (arith, b)) in
          let up = K_inside (n + 1) (omega (arith, a)) (omega (arith, b)) in
          record {
            own = ap (λ (ks : List OperandKind). own_fault i c x ks) here ∙ h.own;
            target =
                λ q is. let r =
                h.target q is in (
                  let l = r.0 in omega (arith, l),
                  let l = r.1 in omega (arith, l),
                  K_inside q r.0
                      (let l = r.1 in omega (arith, l)) ∙ r.2 ∙ ap (λ (ks : List OperandKind). after_it i c x ks)
                      (sym here),
                );
            next = λ on. up ∙ h.next on ∙ ap (λ (ks : List OperandKind). after_it i c x ks) (sym here);
            dead =
                λ off. elim (h.dead off) [
                  | inl none ↦ inl (up ∙ none)
                  | inr j ↦ inr
                      (record {
                        j = j.j;
                        instr = j.instr;
                        low = let l = j.low in omega (arith, l);
                        earlier = j.earlier;
                        at = j.at;
                        target = j.target;
                      })
                ];
          }
      at_left_side n x lo hi e (inr a) (inr b) (inl d) =
          fine_at m (ins.Jump (m + 1 + 1)) n x at_jump (omega (arith, b, d)) e jump_fine
      at_left_side n x lo hi e (inr a) (inr b) (inr d) =
          fine_at (m + 1) value n x at_value (omega (arith, d, hi)) e value_fine

  -- `&&` and `||`: past the right operand, where the left one decides
  pub deciding_part : (and : Bool) (s m : ℕ) (ks : List OperandKind) → At c.instrs s (deciding and (m + 1))
      → At c.instrs m (ins.Jump (m + 1 + 1)) → At c.instrs (m + 1) (decided_by and)
      → own_fault i c (deciding and (m + 1)) (kind.Bool ∷ ks) ≡ None
      → own_fault i c (ins.Jump (m + 1 + 1)) (kind.Bool ∷ ks) ≡ None → own_fault i c (decided_by and) ks ≡ None
      → Spans i c (s + 1) m ks (kind.Bool ∷ ks) → Spans i c s (m + 1 + 1) (kind.Bool ∷ ks) (kind.Bool ∷ ks)
  deciding_part true s m ks at_left at_jump at_value own_left own_jump own_value right =
      decides s m ks (ins.Jfalse (m + 1)) (ins.Bool 0) at_left at_jump at_value refl refl refl refl refl refl
      own_left own_jump own_value right
  deciding_part false s m ks at_left at_jump at_value own_left own_jump own_value right =
      decides s m ks (ins.Jtrue (m + 1)) (ins.Bool 1) at_left at_jump at_value refl refl refl refl refl refl
      own_left own_jump own_value right
