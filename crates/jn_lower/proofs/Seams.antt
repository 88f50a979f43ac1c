-- What is emitted one behind another.
use Rattle.std.proofs.Common.{◌≡◌, ◌≢◌, ℕ, zero, suc, ◌+◌, ◌<◌, List, [], ◌∷◌, ◌++◌, length, Some, refl, sym, ap, ◌∙◌, subst, arith, length-append}
use Rattle.std.specs.Prelude.{slice_get, slice_set, Result, Ok, Err, OnOk, IfOk}
use Rattle.jn_code.specs.declared.instr.Instr.{Instr}
use Rattle.jn_agree.specs.Places.{Run}
use Rattle.jn_lower.specs.Placed.{Placed, Are, Behind}
use Rattle.jn_lower.specs.PlacedLaws.{AddedStand, NothingStands, OneBehindAnother, Means}

pub last_at : (old : List Instr) (i : Instr) → slice_get (old ++ i ∷ []) (length old) ≡ Some i
last_at [] i = refl
last_at (x ∷ old) i = last_at old i

pub front_at : (old more : List Instr) (k : ℕ) → k < length old → slice_get old k ≡ slice_get (old ++ more) k
front_at [] more k lt = absurd (omega arith)
front_at (x ∷ old) more zero lt = refl
front_at (x ∷ old) more (suc k) lt = front_at old more k (omega arith)

pub set_other : (xs : List Instr) (m k : ℕ) (i : Instr) → k ≢ m → slice_get xs k ≡ slice_get (slice_set xs m i) k
set_other [] m k i ne = refl
set_other (x ∷ xs) zero zero i ne = absurd (ne refl)
set_other (x ∷ xs) zero (suc k) i ne = refl
set_other (x ∷ xs) (suc m) zero i ne = refl
set_other (x ∷ xs) (suc m) (suc k) i ne = set_other xs m k i (λ e. ne (ap suc e))

pub set_here : (xs : List Instr) (m : ℕ) (i : Instr) → m < length xs → slice_get (slice_set xs m i) m ≡ Some i
set_here [] m i lt = absurd (omega arith)
set_here (x ∷ xs) zero i lt = refl
set_here (x ∷ xs) (suc m) i lt = set_here xs m i (omega arith)

pub grown : (old new : List Instr) (i : Instr) → new ≡ old ++ i ∷ [] → length new ≡ length old + 1
grown old new i e = ap length e ∙ length-append old (i ∷ [])

pub pushed : (old new : List Instr) (i : Instr) → new ≡ old ++ i ∷ [] → Placed (Are (i ∷ [])) old new
pushed old new i e =
    let n = grown old new i e in
    record {
      longer = omega (arith, n);
      kept = record { by = λ k _ lt. front_at old (i ∷ []) k lt ∙ ap (λ c. slice_get c k) (sym e) };
      there = λ c same.
          (sym (same.by (length old) (omega arith) (omega (arith, n))) ∙ ap (λ c. slice_get c (length old)) e ∙ last_at old i, n);
    }

pub none : NothingStands
none old = record { longer = omega arith; kept = record { by = λ k _ lt. refl }; there = λ c same. refl }

-- one stretch, and then another
pub behind : OneBehindAnother
behind A B old mid new a b = record {
  longer = omega (arith, a.longer, b.longer);
  kept = record { by = λ k _ lt. a.kept.by k (omega arith) lt ∙ b.kept.by k (omega arith) (omega (arith, a.longer)) };
  there = λ c same.
      (length mid, a.there c (record { by = λ k ge lt. b.kept.by k (omega arith) lt ∙ same.by k ge (omega (arith, b.longer)) }), b.there c (record { by = λ k ge lt. same.by k (omega (arith, a.longer)) lt }));
}

-- the same under another reading
pub means : Means
means A B old new f a =
    record { longer = a.longer; kept = a.kept; there = λ c same. f c (length old) (length new) (a.there c same) }

-- the first, and the others behind it
regrouped : (old : List Instr) (x : Instr) (xs : List Instr) → old ++ x ∷ xs ≡ (old ++ x ∷ []) ++ xs
regrouped [] x xs = refl
regrouped (y ∷ old) x xs = ap (λ zs. y ∷ zs) (regrouped old x xs)

none_added : (old : List Instr) → old ++ [] ≡ old
none_added [] = refl
none_added (y ∷ old) = ap (λ zs. y ∷ zs) (none_added old)

pub added : AddedStand
added [] old new e = subst (λ n. Placed (Are []) old n) (sym (e ∙ none_added old)) (none old)
added (x ∷ xs) old new e =
    means (Behind (Are (x ∷ [])) (Are xs)) (Are (x ∷ xs)) old new (λ c s t h. (h.1.0, subst (λ m. Run c.instrs xs m t) h.1.1 h.2))
    (behind (Are (x ∷ [])) (Are xs) old (old ++ x ∷ []) new (pushed old (old ++ x ∷ []) x refl)
    (added xs (old ++ x ∷ []) new (e ∙ regrouped old x xs)))

-- what follows on success
pub on_ok : {A E X Y : Type 0} (r : Result A E) → (X → Y) → OnOk r X → OnOk r Y
on_ok (Ok x) f h = f h
on_ok (Err e) f h = h

pub on_both : {A E X Y Z : Type 0} (r : Result A E) → (X → Y → Z) → OnOk r X → OnOk r Y → OnOk r Z
on_both (Ok x) f h k = f h k
on_both (Err e) f h k = h

pub if_ok : {A E : Type 0} (r : Result A E) (P Q : A → Type 0) → ((a : A) → P a → Q a) → IfOk r P → IfOk r Q
if_ok (Ok x) P Q f h = f x h
if_ok (Err e) P Q f h = h
