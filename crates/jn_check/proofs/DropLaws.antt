-- The masks that an assignment to a field takes.
use Rattle.std.proofs.Common.{◌≡◌, ◌<◌, ◌^◌, ◌/◌, ◌%◌, ◌↔◌, ℕ, zero, suc, List, [], ◌∷◌, get_or, map, arith, Bool, true, false, not, ◌&&◌, cond, nat_eq, nat_lt, Option, Some, None, Result, Ok, Err, refl, sym, ap, ◌∙◌, subst}
use Rattle.std.specs.Prelude.{OnOk}
use Rattle.std.specs.Int.{bit_at}
use Rattle.jn_base.specs.declared.tree.Name.{Name}
use Rattle.jn_base.specs.declared.tree.Program.{Program}
use Rattle.jn_base.specs.declared.types.Masks.{Masks}
use Rattle.jn_base.specs.declared.names.Var.{Var}
use Rattle.jn_base.specs.Atoms.{HasMask, MasksOf}
use Rattle.jn_base.specs.Scopes.{Scope}
use Rattle.jn_base.specs.ResolveTypes.{mask_names}
use Rattle.jn_rules.specs.Plans.{done}
use Rattle.jn_rules.specs.Questions.{KeptMask, Notes}
use Rattle.jn_rules.specs.Exprs.{masks_at}
use Rattle.jn_rules.specs.Stmts.{Before, dropped, is_variable, with_masks, without_mask}
use Rattle.jn_check.specs.Masks.{bare}
use Rattle.jn_check.specs.States.{before_in}
use Rattle.jn_check.proofs.Agreeing.{with_masks_bare}

-- masks by their words
module _ (k : Masks) (a b c d : ℕ) (ea : a ≡ get_or k.0 0 0) (eb : b ≡ get_or k.0 1 0) (ec : c ≡ get_or k.0 2 0) (ed : d ≡ get_or k.0 3 0) (la : a < 2 ^ 64) (lb : b < 2 ^ 64) (lc : c < 2 ^ 64)
    (ld : d < 2 ^ 64) where
  same_word : (i : ℕ) → i < 4 → get_or (a ∷ b ∷ c ∷ d ∷ []) i 0 ≡ get_or k.0 i 0
  same_word zero l = ea
  same_word (suc zero) l = eb
  same_word (suc (suc zero)) l = ec
  same_word (suc (suc (suc zero))) l = ed
  same_word (suc (suc (suc (suc i)))) l = absurd (omega (arith, l))

  wide_words : (i e : ℕ) → i < 4 → get_or (a ∷ b ∷ c ∷ d ∷ []) i e < 2 ^ 64
  wide_words zero e l = la
  wide_words (suc zero) e l = lb
  wide_words (suc (suc zero)) e l = lc
  wide_words (suc (suc (suc zero))) e l = ld
  wide_words (suc (suc (suc (suc i)))) e l = absurd (omega (arith, l))

  pub by_words : (T : ℕ → Type 0) → ((j : ℕ) → HasMask k j ↔ T j) → MasksOf T (record { 0 = a ∷ b ∷ c ∷ d ∷ [] })
  by_words T h = record {
    words = refl;
    wide = wide_words;
    each = λ j l. subst (λ (w : ℕ). (bit_at w (j % 64) ≡ 1) ↔ T j) (sym (same_word (j / 64) (omega arith))) (h j);
  }

module _ (p : Program) (vars : List Var) (n : ℕ) (f : Name) (s : Scope) where
  abbrev pub X : Before
  X = before_in vars s n

  -- the path has the masks without the field
  pub without_notes : (names : List Name) (q : ℕ) (m k : Masks) (t : Scope) → names ≡ mask_names p → m ≡ masks_at s q → MasksOf (KeptMask names m f) k → t ≡ with_masks s q k
      → Notes p (without_mask X f q) [] (before_in vars t n)
  without_notes names q m k t e g h i = (
    k,
    subst (λ (ns : List Name). MasksOf (KeptMask ns (masks_at s q) f) k) e (subst (λ (w : Masks). MasksOf (KeptMask names w f) k) g h),
    (refl, ap (λ (u : Scope). before_in vars u n) i),
  )

  pub none_dropped : (o : Option ℕ) (t : Scope) → o ≡ None → t ≡ s → Notes p (dropped X f o) [] (before_in vars t n)
  none_dropped o t e i = subst (λ (k : Option ℕ). Notes p (dropped X f k) [] (before_in vars t n)) (sym e) (refl, ap (λ (u : Scope). before_in vars u n) i)

  pub other_dropped : (o : Option ℕ) (q : ℕ) (t : Scope) → o ≡ Some q → is_variable q ≡ false → t ≡ s → Notes p (dropped X f o) [] (before_in vars t n)
  other_dropped o q t e v i = subst (λ (k : Option ℕ). Notes p (dropped X f k) [] (before_in vars t n)) (sym e) (at (is_variable q) v) where
    at : (b : Bool) → b ≡ false → Notes p (cond b (without_mask X f q) (done X)) [] (before_in vars t n)
    at true g = cc
    at false g = (refl, ap (λ (u : Scope). before_in vars u n) i)

  pub variable_dropped : (o : Option ℕ) (q : ℕ) (y : Before) → o ≡ Some q → is_variable q ≡ true → Notes p (without_mask X f q) [] y → Notes p (dropped X f o) [] y
  variable_dropped o q y e v h = subst (λ (k : Option ℕ). Notes p (dropped X f k) [] y) (sym e) (at (is_variable q) v) where
    at : (b : Bool) → b ≡ true → Notes p (cond b (without_mask X f q) (done X)) [] y
    at true g = h
    at false g = cc

-- a variable isn't `this`
pub other_than_this : (q : ℕ) → is_variable q ≡ true → nat_eq q 0 ≡ false
other_than_this q e = at (nat_eq q 0) e where
  at : (b : Bool) → (not b && nat_lt q 256) ≡ true → b ≡ false
  at true h = cc
  at false h = refl

pub with_masks_agree : (s t : Scope) (q : ℕ) (m : Masks) → is_variable q ≡ true → t ≡ with_masks s q m → map bare t ≡ map bare s
with_masks_agree s t q m v e = ap (map bare) e ∙ with_masks_bare s q m (other_than_this q v)

-- of what is Ok
pub ok_map : {E P Q : Type 0} (r : Result (Unit {0}) E) → (P → Q) → OnOk r P → OnOk r Q
ok_map (Ok u) f h = f h
ok_map (Err e) f h = tt
