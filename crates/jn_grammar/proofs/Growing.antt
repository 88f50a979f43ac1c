-- The parts behind a Prim, and how its shape grows with them.
use Rattle.std.proofs.Common.{◌≡◌, ℕ, zero, suc, ◌≤◌, ◌<◌, Bool, true, false, List, [], ◌∷◌, length, Some, None, Ok, Err, refl, subst, arith, if◌then◌else◌}
use Rattle.jn_base.specs.declared.tree.Named.{Named}
use Rattle.jn_base.specs.declared.tree.Suffix.{Suffix, out-Suffix}
use Rattle.jn_base.specs.declared.word.Mark.TheVariants.{Dot, OpenParen}
use Rattle.jn_base.specs.declared.word.Word.TheVariants.{Mark as Marked}
use Rattle.jn_base.specs.declared.word.Lexeme.{Lexeme}
use Rattle.jn_base.specs.Parts.{suffix}
use Rattle.jn_grammar.specs.Begins.{begins, behind}
use Rattle.jn_grammar.specs.Answers.{Answer, ◌>>=◌, name_in, many, row}
use Rattle.jn_grammar.specs.ReadExprs.{shut_args_in, call_in, suffix_in, level}
use Rattle.jn_grammar.specs.ReadStmts.{Shape, grow_by, grown, counting}
use Rattle.jn_grammar.specs.Expected.{Symbol, Going, run}
use Rattle.jn_grammar.proofs.Machine.{Comes, comes_if, comes_then}
use Rattle.jn_grammar.proofs.Shapes.{IsField, args_of_suffix}

-- what holds of an answer's value
abbrev pub Holds : {A : Type 0} → (A × List Lexeme → Type 0) → Answer A → Type 0
Holds Q (Ok x) = Q x
Holds Q (Err f) = Unit {0}

pub holds_bind : {A B : Type 0} (P : A × List Lexeme → Type 0) (Q : B × List Lexeme → Type 0) (r : Answer A) (g : A × List Lexeme → Answer B)
    → Holds P r → ((x : A × List Lexeme) → P x → Holds Q (g x)) → Holds Q (r >>= g)
holds_bind P Q (Ok x) g p h = h x p
holds_bind P Q (Err f) g p h = tt

pub holds_if : {A : Type 0} (Q : A × List Lexeme → Type 0) (c : Bool) (x y : Answer A) → (c ≡ true → Holds Q x) → (c ≡ false → Holds Q y) → Holds Q (if c then x else y)
holds_if Q true x y a b = a refl
holds_if Q false x y a b = b refl

pub holds_at : {A : Type 0} (Q : A × List Lexeme → Type 0) (r : Answer A) (x : A × List Lexeme) → Holds Q r → r ≡ Ok x → Q x
holds_at {A} Q (Ok y) x h e = subst Q (ok_is e) h
  where
    ok_is : ◌≡◌ {A = Answer A} (Ok y) (Ok x) → y ≡ x
    ok_is e = cc
holds_at Q (Err f) x h e = cc

pub all_hold : {A : Type 0} (r : Answer A) → Holds (λ x. r ≡ Ok x) r
all_hold (Ok x) = refl
all_hold (Err f) = tt

any : {A : Type 0} (r : Answer A) → Holds (λ _. Unit {0}) r
any (Ok x) = tt
any (Err f) = tt

-- a row with a count ends where nothing goes on
pub counting_ends : {A : Type 0} (more : List Lexeme → Bool) (item : ℕ → List Lexeme → Answer (A × ℕ))
    → ((k : ℕ) (ts : List Lexeme) (x : (A × ℕ) × List Lexeme) → more ts ≡ true → item k ts ≡ Ok x → length x.1 < length ts) → more [] ≡ false
    → (clock k : ℕ) (ts : List Lexeme) → length ts ≤ clock → Holds (λ xs. more xs.1 ≡ false) (counting more item clock k ts)
unfolding counting
counting_ends more item less at_end zero k [] fits = at_end
counting_ends more item less at_end zero k (t ∷ ts) fits = absurd (omega arith)
counting_ends more item less at_end (suc clock) k ts fits =
    holds_if (λ xs. more xs.1 ≡ false) (more ts) _ (Ok (([], k), ts))
    (λ e. holds_bind (λ x. item k ts ≡ Ok x) (λ xs. more xs.1 ≡ false) (item k ts) _ (all_hold (item k ts))
    (λ x is. let l = less k ts x e is in let room : length x.1 ≤ clock = omega arith in
    holds_bind (λ xs. more xs.1 ≡ false) (λ xs. more xs.1 ≡ false) (counting more item clock x.0.1 x.1) _ (counting_ends more item less at_end clock x.0.1 x.1 room) (λ xs h. h)))
    (λ e. e)

pub many_ends : {A : Type 0} (more : List Lexeme → Bool) (item : ℕ → List Lexeme → Answer A)
    → ((k : ℕ) (ts : List Lexeme) (x : A × List Lexeme) → more ts ≡ true → item k ts ≡ Ok x → length x.1 < length ts) → more [] ≡ false
    → (clock k : ℕ) (ts : List Lexeme) → length ts ≤ clock → Holds (λ xs. more xs.1 ≡ false) (many more item clock k ts)
unfolding many
many_ends more item less at_end zero k [] fits = at_end
many_ends more item less at_end zero k (t ∷ ts) fits = absurd (omega arith)
many_ends more item less at_end (suc clock) k ts fits =
    holds_if (λ xs. more xs.1 ≡ false) (more ts) _ (Ok ([], ts))
    (λ e. holds_bind (λ x. item k ts ≡ Ok x) (λ xs. more xs.1 ≡ false) (item k ts) _ (all_hold (item k ts))
    (λ x is. let l = less k ts x e is in let room : length x.1 ≤ clock = omega arith in
    holds_bind (λ xs. more xs.1 ≡ false) (λ xs. more xs.1 ≡ false) (many more item clock (suc k) x.1) _ (many_ends more item less at_end clock (suc k) x.1 room) (λ xs h. h)))
    (λ e. e)

-- THE MACHINE GOES OVER THE PARTS. It is at `at z` where the shape is z.
pub parts_run : (s : Bool) (n : ℕ) (more : List Lexeme → Bool) (item : ℕ → List Lexeme → Answer Suffix) (at : Shape → List Symbol)
    → ((z : Shape) (k : ℕ) (ts : List Lexeme) → more ts ≡ true → Comes (run s ts (Going n (at z))) (λ x. run s x.1 (Going n (at (grow_by (out-Suffix x.0).args z)))) (item k ts))
    → ((k : ℕ) (ts : List Lexeme) (x : Suffix × List Lexeme) → more ts ≡ true → item k ts ≡ Ok x → length x.1 < length ts)
    → (clock k : ℕ) (z : Shape) (ts : List Lexeme) → length ts ≤ clock
    → Comes (run s ts (Going n (at z))) (λ xs. run s xs.1 (Going n (at (grown z xs.0)))) (many more item clock k ts)
unfolding many
parts_run s n more item at goes less zero k z ts fits = record { eq = refl }
parts_run s n more item at goes less (suc clock) k z ts fits =
    comes_if (more ts)
    (λ e. comes_then (goes z k ts e)
    (λ x is. let l = less k ts x e is in let room : length x.1 ≤ clock = omega arith in
    comes_then (parts_run s n more item at goes less clock (suc k) (grow_by (out-Suffix x.0).args z) x.1 room) (λ _ _. record { eq = refl })))
    (λ e. record { eq = refl })

-- behind a field no "(" stands
abbrev pub Behind : Shape → List Lexeme → Type 0
Behind z ts = IsField z → begins (Marked OpenParen) ts ≡ false

behind_call : (n : ℕ) (z : Shape) (x : Named) (ts : List Lexeme) → Holds (λ s. Behind (grow_by (out-Suffix s.0).args z) s.1) (call_in (level n) x ts)
unfolding call_in
behind_call n z x ts = holds_if (λ s. Behind (grow_by (out-Suffix s.0).args z) s.1) (begins (Marked OpenParen) ts) _ (Ok (suffix x.name x.at None, ts))
    (λ h. holds_bind (λ _. Unit {0}) (λ s. Behind (grow_by (out-Suffix s.0).args z) s.1) (shut_args_in (level n) ts) _ (any (shut_args_in (level n) ts))
    (λ es _ f. absurd (subst (λ a. IsField (grow_by a z)) (args_of_suffix x.name x.at (Some es.0)) f)))
    (λ h f. h)

behind_suffix : (n : ℕ) (z : Shape) (k : ℕ) (ts : List Lexeme) → Holds (λ s. Behind (grow_by (out-Suffix s.0).args z) s.1) (suffix_in (level n) k ts)
unfolding suffix_in
behind_suffix n z k ts = holds_bind (λ _. Unit {0}) (λ s. Behind (grow_by (out-Suffix s.0).args z) s.1) (name_in (behind ts)) _ (any (name_in (behind ts))) (λ y _. behind_call n z y.0 y.1)

behind_many : (n : ℕ) (clock k : ℕ) (z : Shape) (ts : List Lexeme) → Behind z ts → Holds (λ xs. Behind (grown z xs.0) xs.1) (many (begins (Marked Dot)) (suffix_in (level n)) clock k ts)
unfolding many
behind_many n zero k z ts h = h
behind_many n (suc clock) k z ts h =
    holds_if (λ xs. Behind (grown z xs.0) xs.1) (begins (Marked Dot) ts) _ (Ok ([], ts))
    (λ e. holds_bind (λ s. Behind (grow_by (out-Suffix s.0).args z) s.1) (λ xs. Behind (grown z xs.0) xs.1) (suffix_in (level n) k ts) _ (behind_suffix n z k ts)
    (λ x g. holds_bind (λ xs. Behind (grown (grow_by (out-Suffix x.0).args z) xs.0) xs.1) (λ xs. Behind (grown z xs.0) xs.1) (many (begins (Marked Dot)) (suffix_in (level n)) clock (suc k) x.1) _
    (behind_many n clock (suc k) (grow_by (out-Suffix x.0).args z) x.1 g) (λ xs q. q)))
    (λ e. h)

pub behind_parts : (n : ℕ) (z : Shape) (ts : List Lexeme) → (IsField z → ⊥) → (xs : List Suffix × List Lexeme) → row (begins (Marked Dot)) (suffix_in (level n)) 1 ts ≡ Ok xs → Behind (grown z xs.0) xs.1
behind_parts n z ts f xs e = holds_at (λ xs. Behind (grown z xs.0) xs.1) (row (begins (Marked Dot)) (suffix_in (level n)) 1 ts) xs (behind_many n (length ts) 1 z ts (λ h. absurd (f h))) e
