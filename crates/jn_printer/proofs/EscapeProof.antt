-- Each byte is read back from its escape.
use Rattle.std.proofs.Common.{◌≡◌, ◌≢◌, ℕ, Bool, true, false, not, List, [], ◌∷◌, ◌++◌, refl, sym, subst, ◌||◌, ◌==◌, if◌then◌else◌, All, ◌⊎◌, inl, inr}
use Rattle.std.proofs.lemmas.Bool.{eqb-true}
use Rattle.std.proofs.lemmas.List.Elements.{All-head, All-tail}
use Rattle.std.proofs.lemmas.Bool.Decides.{eqb_tells}
use Rattle.std.specs.Prelude.{codes}
use Rattle.jn_base.specs.Tokens.{quote, backslash, line_feed, carriage_return}
use Rattle.jn_base.specs.Words.{Reads, nothing, plain, escaped_quote, escaped_backslash, escaped_line_feed}
use Rattle.jn_printer.specs.StmtText.{escape, escaped}

by_test : {A : Type 0} (P : A → Type 0) (b : Bool) (x y : A) → (b ≡ true → P x) → (b ≡ false → P y) → P (if b then x else y)
by_test P true x y f g = f refl
by_test P false x y f g = g refl

none_of : (q b l r : Bool) → q ≡ false → b ≡ false → l ≡ false → r ≡ false → not (q || b || (l || r)) ≡ true
none_of true b l r x y z w = absurd (cc)
none_of false true l r x y z w = absurd (cc)
none_of false false true r x y z w = absurd (cc)
none_of false false false true x y z w = absurd (cc)
none_of false false false false x y z w = refl

differs : (c d : ℕ) → c ≢ d → (c == d) ≡ false
differs c d n = from (eqb_tells c d) where
  from : (((c == d) ≡ true) × (c ≡ d)) ⊎ (((c == d) ≡ false) × (c ≢ d)) → (c == d) ≡ false
  from (inl e) = absurd (n e.1)
  from (inr e) = e.0

read_on : (c : ℕ) (w t : List ℕ) → c ≢ carriage_return → Reads w t → Reads (escape c ++ w) (c ∷ t)
read_on c w t n r = by_test (λ (e : List ℕ). Reads (e ++ w) (c ∷ t)) (c == quote) _ _
    (λ q. subst (λ (x : ℕ). Reads (codes "\\\"" ++ w) (x ∷ t)) (sym (eqb-true c quote q)) (escaped_quote r))
    (λ q. by_test (λ (e : List ℕ). Reads (e ++ w) (c ∷ t)) (c == backslash) _ _
    (λ b. subst (λ (x : ℕ). Reads (codes "\\\\" ++ w) (x ∷ t)) (sym (eqb-true c backslash b)) (escaped_backslash r))
    (λ b. by_test (λ (e : List ℕ). Reads (e ++ w) (c ∷ t)) (c == line_feed) _ _
    (λ l. subst (λ (x : ℕ). Reads (codes "\\n" ++ w) (x ∷ t)) (sym (eqb-true c line_feed l)) (escaped_line_feed r))
    (λ l. plain (none_of (c == quote) (c == backslash) (c == line_feed) (c == carriage_return) q b l (differs c carriage_return n)) r)))

pub escaped_reads : (t : List ℕ) → All (λ c. c ≢ carriage_return) t → Reads (escaped t) t
escaped_reads [] n = nothing
escaped_reads (c ∷ t) n =
    let P : ℕ → Type 0 = λ x. x ≢ carriage_return in read_on c (escaped t) t (All-head P c t n) (escaped_reads t (All-tail P c t n))
