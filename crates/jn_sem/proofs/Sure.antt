-- Each way allows one step, and one alone.
use Rattle.std.proofs.Common.{◌≡◌, List, [], ◌∷◌, Option, Some, None, Bool, true, false, refl, sym, ◌∙◌, subst}
use Rattle.jn_sem.specs.Asks.{OnOnly, found, not_found, OnTest, holds, fails, OnSome, OnIf, OnFirst, It}

pub record Sure {D : Type 0} (W : D → Type 0) : Type 0 where
  pub one : (d e : D) → W d → W e → d ≡ e
  pub there : ((d : D) → W d → ⊥) → ⊥

pub sure_it : {D : Type 0} (x : D) → Sure (It x)
sure_it x = record { one = λ d e h g. h ∙ sym g; there = λ no. no x refl }

only_one : {A D : Type 0} (Is : A → Type 0) (Else : D → Type 0) (Go : A → D → Type 0) → Sure Else → ((a : A) → Sure (Go a))
    → (d e : D) → OnOnly Is Else Go d → OnOnly Is Else Go e → d ≡ e
only_one Is Else Go s t d e (found a x g) (found b y h) = (t a).one d e g (subst (λ c. Go c e) (x.one b y.is) h)
only_one Is Else Go s t d e (found a x g) (not_found n h) = absurd (n a x)
only_one Is Else Go s t d e (not_found n g) (found b y h) = absurd (n b y)
only_one Is Else Go s t d e (not_found n g) (not_found m h) = s.one d e g h

pub sure_only : {A D : Type 0} {Is : A → Type 0} {Else : D → Type 0} {Go : A → D → Type 0} → Sure Else → ((a : A) → Sure (Go a))
    → Sure (OnOnly Is Else Go)
sure_only {A} {D} {Is} {Else} {Go} s t = record {
  one = only_one Is Else Go s t;
  there = λ no. s.there (λ d e. no d (not_found (λ a x. (t a).there (λ d g. no d (found a x g))) e));
}

test_one : {D : Type 0} (Is : Type 0) (Else Go : D → Type 0) → Sure Else → Sure Go
    → (d e : D) → OnTest Is Else Go d → OnTest Is Else Go e → d ≡ e
test_one Is Else Go s t d e (holds x g) (holds y h) = t.one d e g h
test_one Is Else Go s t d e (holds x g) (fails n h) = absurd (n x)
test_one Is Else Go s t d e (fails n g) (holds y h) = absurd (n y)
test_one Is Else Go s t d e (fails n g) (fails m h) = s.one d e g h

pub sure_test : {D : Type 0} {Is : Type 0} {Else Go : D → Type 0} → Sure Else → Sure Go → Sure (OnTest Is Else Go)
sure_test {D} {Is} {Else} {Go} s t = record {
  one = test_one Is Else Go s t;
  there = λ no. s.there (λ d e. no d (fails (λ x. t.there (λ d g. no d (holds x g))) e));
}

pub sure_some : {A D : Type 0} (o : Option A) (Else : D → Type 0) (Go : A → D → Type 0) → Sure Else → ((a : A) → Sure (Go a))
    → Sure (OnSome o Else Go)
sure_some None Else Go s t = s
sure_some (Some a) Else Go s t = t a

pub sure_if : {D : Type 0} (b : Bool) (Else Go : D → Type 0) → Sure Else → Sure Go → Sure (OnIf b Else Go)
sure_if true Else Go s t = t
sure_if false Else Go s t = s

pub sure_first : {A D : Type 0} (xs : List A) (Else : D → Type 0) (Go : A → List A → D → Type 0) → Sure Else
    → ((a : A) (rest : List A) → Sure (Go a rest)) → Sure (OnFirst xs Else Go)
sure_first [] Else Go s t = s
sure_first (a ∷ rest) Else Go s t = t a rest

pub if_so : {D : Type 0} (b : Bool) (Else Go : D → Type 0) (d : D) → b ≡ true → Go d → OnIf b Else Go d
if_so true Else Go d e g = g
if_so false Else Go d e g = cc
