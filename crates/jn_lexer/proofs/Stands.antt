-- What the definition of the tokens has at the front of characters.
use Rattle.std.proofs.Common.{◌≡◌, ℕ, ◌+◌, ◌≤◌, Bool, true, false, List, ◌∷◌, ◌++◌, length, take, drop, refl, sym, subst, arith, if◌then◌else◌, add-zero}
use Rattle.std.proofs.lemmas.List.{take-append-drop, length-take-le}
use Rattle.jn_base.specs.declared.token.TokenKind.{TokenKind}
use Rattle.jn_base.specs.Tokens.{width, is_blank, IsComment, IsToken, IsFault}
use Rattle.jn_lexer.specs.declared.front.Flaw.{Flaw}
use Rattle.jn_lexer.specs.declared.front.Piece.{Piece}
use Rattle.jn_lexer.specs.declared.front.Piece.TheVariants.{Gap, Token, Fault}
use Rattle.jn_lexer.specs.Front.{fault_at}

pub data Stands : List ℕ → Piece → Type 0 where
  blank : {c : ℕ} {cs : List ℕ} → is_blank c ≡ true → Stands (c ∷ cs) (Gap 1)
  comment : {w rest : List ℕ} {n : ℕ} → IsComment w rest → n ≡ length w → Stands (w ++ rest) (Gap n)
  token : {k : TokenKind} {w rest : List ℕ} {n : ℕ} → IsToken k w rest → n ≡ length w → Stands (w ++ rest) (Token k n)
  fault : {cs : List ℕ} {f : Flaw} {n : ℕ} → ((at : ℕ) → IsFault at cs (fault_at f (at + width (take n cs)))) → n ≤ length cs → Stands cs (Fault f n)

-- by a test
pub by_test : (P : Piece → Type 0) (b : Bool) (x y : Piece) → (b ≡ true → P x) → (b ≡ false → P y) → P (if b then x else y)
by_test P true x y a b = a refl
by_test P false x y a b = b refl

pub token_at : (cs : List ℕ) (k : TokenKind) (n : ℕ) → n ≤ length cs → IsToken k (take n cs) (drop n cs) → Stands cs (Token k n)
token_at cs k n h d = subst (λ xs. Stands xs (Token k n)) (take-append-drop n cs) (token d (sym (length-take-le n cs h)))

pub comment_at : (cs : List ℕ) (n : ℕ) → n ≤ length cs → IsComment (take n cs) (drop n cs) → Stands cs (Gap n)
comment_at cs n h d = subst (λ xs. Stands xs (Gap n)) (take-append-drop n cs) (comment d (sym (length-take-le n cs h)))

-- a fault whose token begins here
pub fault_here : (cs : List ℕ) (f : Flaw) → ((at : ℕ) → IsFault at cs (fault_at f at)) → Stands cs (Fault f 0)
fault_here cs f d = fault (λ at. subst (λ n. IsFault at cs (fault_at f n)) (sym (add-zero at)) (d at)) (omega arith)
