-- What the tokens of the characters say of the bytes.
use Rattle.std.proofs.Common.{◌≡◌, ℕ, List, length, sym, ◌∙◌, ap, subst, Option, Some, None, Result, Ok, Err}
use Rattle.std.specs.Prelude.{IfOk}
use Rattle.std.specs.Str.{IsUtf8, chars}
use Rattle.std.proofs.lemmas.Str.{encodes-chars, scalars-chars, chars-encodes}
use Rattle.std.proofs.Math.Nat.{zero-add}
use Rattle.jn_base.specs.declared.token.Token.{Token}
use Rattle.jn_base.specs.declared.token.LexFault.{LexFault}
use Rattle.jn_base.specs.declared.token.LexFault.TheVariants.{BadChar, BadNumber, OpenComment, OpenText, Memory}
use Rattle.jn_base.specs.Tokens.{width, Lexes, TokensOf}
use Rattle.jn_lexer.specs.declared.Scanned.{Scanned}
use Rattle.jn_lexer.specs.Lexing.{IsAnswer, IsFaultOf, AreInOrder}
use Rattle.jn_lexer.proofs.Once.{AreSame, once}
use Rattle.jn_lexer.proofs.Order.{lexes_order}

of_bytes : (bytes : List ℕ) (ts : List Token) (f : Option LexFault) → IsUtf8 bytes → Lexes 0 (chars bytes) ts f → TokensOf bytes ts f
of_bytes bytes ts f u l = record { characters = chars bytes; scalars = scalars-chars bytes u; spelled = encodes-chars bytes u; lexed = l }

of_characters : (bytes : List ℕ) (ts : List Token) (f : Option LexFault) → TokensOf bytes ts f → Lexes 0 (chars bytes) ts f
of_characters bytes ts f t = subst (λ (cs : List ℕ). Lexes 0 cs ts f) (sym (chars-encodes t.characters t.scalars) ∙ ap chars t.spelled) t.lexed

pub scanned_of : {E : Type 0} (bytes cs : List ℕ) (r : Result Scanned E) → IsUtf8 bytes → cs ≡ chars bytes → IfOk r (λ s. Lexes 0 cs s.tokens.items s.fault) → IfOk r (λ s. TokensOf bytes s.tokens.items s.fault)
scanned_of bytes cs (Ok s) u e l = of_bytes bytes s.tokens.items s.fault u (subst (λ (xs : List ℕ). Lexes 0 xs s.tokens.items s.fault) e l)
scanned_of bytes cs (Err f) u e l = tt

pub order_of : {E : Type 0} (bytes cs : List ℕ) (r : Result Scanned E) → IsUtf8 bytes → cs ≡ chars bytes → IfOk r (λ s. Lexes 0 cs s.tokens.items s.fault) → IfOk r (λ s. AreInOrder 0 s.tokens.items (length bytes))
order_of bytes cs (Ok s) u e l = subst (λ n. AreInOrder 0 s.tokens.items n) (zero-add (width cs) ∙ ap width e ∙ ap length (encodes-chars bytes u)) (lexes_order l)
order_of bytes cs (Err f) u e l = tt

pub fault_of : (bytes : List ℕ) (ts : List Token) (g : LexFault) → TokensOf bytes ts (Some g) → IsFaultOf bytes g
fault_of bytes ts (BadChar at) t = (ts, t)
fault_of bytes ts (BadNumber at) t = (ts, t)
fault_of bytes ts (OpenComment at) t = (ts, t)
fault_of bytes ts (OpenText at) t = (ts, t)
fault_of bytes ts Memory t = tt

-- one list of tokens, and one fault or none
pub same_tokens : (bytes : List ℕ) (ts us : List Token) (f g : Option LexFault) → TokensOf bytes ts f → TokensOf bytes us g → AreSame ts us f g
same_tokens bytes ts us f g a b = once 0 (chars bytes) ts us f g (of_characters bytes ts f a) (of_characters bytes us g b)

pub only_found : {V : Type 0} (view : V → List Token) (bytes : List ℕ) (v : V) → TokensOf bytes (view v) None → (ts : List Token) (f : Option LexFault) → TokensOf bytes ts f → IsAnswer {V = V} view (Ok v) ts f
only_found view bytes v a ts None b = (same_tokens bytes (view v) ts None None a b).tokens
only_found view bytes v a ts (Some f) b = let same = (same_tokens bytes (view v) ts None (Some f) a b).faults in cc

pub only_fault : {V : Type 0} (view : V → List Token) (bytes : List ℕ) (us : List Token) (g : LexFault) → TokensOf bytes us (Some g) → (ts : List Token) (f : Option LexFault) → TokensOf bytes ts f → IsAnswer {V = V} view (Err g) ts f
only_fault {V} view bytes us g a ts f b = by_fault g f ((same_tokens bytes us ts (Some g) f a b).faults)
  where
    by_fault : (g : LexFault) (f : Option LexFault) → Some g ≡ f → IsAnswer {V = V} view (Err g) ts f
    by_fault Memory f e = tt
    by_fault (BadChar at) None e = cc
    by_fault (BadChar at) (Some f) e = cc
    by_fault (BadNumber at) None e = cc
    by_fault (BadNumber at) (Some f) e = cc
    by_fault (OpenComment at) None e = cc
    by_fault (OpenComment at) (Some f) e = cc
    by_fault (OpenText at) None e = cc
    by_fault (OpenText at) (Some f) e = cc

pub width_of : (bytes cs : List ℕ) → IsUtf8 bytes → cs ≡ chars bytes → width cs ≡ length bytes
width_of bytes cs u e = ap width e ∙ ap length (encodes-chars bytes u)
