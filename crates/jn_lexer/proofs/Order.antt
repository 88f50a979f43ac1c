-- What the tokens of a source are beside: in order.
use Rattle.std.proofs.Common.{◌≡◌, ℕ, ◌+◌, ◌<◌, ◌≤◌, List, [], ◌∷◌, ◌++◌, length, subst, arith, Option}
use Rattle.std.proofs.lemmas.Str.{length-le-encodes}
use Rattle.jn_base.specs.declared.token.Token.{Token as Lexed}
use Rattle.jn_base.specs.declared.token.LexFault.{LexFault}
use Rattle.jn_base.specs.Tokens.{width, Lexes, at_end, fault, blank, comment, token}
use Rattle.jn_lexer.specs.Lexing.{AreInOrder}
use Rattle.jn_lexer.proofs.Once.{token_some}
use Rattle.jn_lexer.proofs.Widths.{width-append}

-- they may begin earlier
earlier : (from from' to : ℕ) (ts : List Lexed) → from' ≤ from → AreInOrder from ts to → AreInOrder from' ts to
earlier from from' to [] h o = omega arith
earlier from from' to (t ∷ ts) h o = (omega arith, o.1, o.2)

pub lexes_order : {at : ℕ} {cs : List ℕ} {ts : List Lexed} {f : Option LexFault} → Lexes at cs ts f → AreInOrder at ts (at + width cs)
lexes_order at_end = omega arith
lexes_order (fault d) = omega arith
lexes_order (blank {at = at} {c = c} {cs = cs} {ts = ts} b l) =
    let e : at + width (c ∷ []) + width cs ≡ at + width (c ∷ cs) = omega (arith, width-append (c ∷ []) cs) in
    earlier (at + width (c ∷ [])) at _ ts (omega arith) (subst (λ n. AreInOrder (at + width (c ∷ [])) ts n) e (lexes_order l))
lexes_order (comment {at = at} {w = w} {rest = rest} {ts = ts} d l) =
    let e : at + width w + width rest ≡ at + width (w ++ rest) = omega (arith, width-append w rest) in
    earlier (at + width w) at _ ts (omega arith) (subst (λ n. AreInOrder (at + width w) ts n) e (lexes_order l))
lexes_order (token {at = at} {w = w} {rest = rest} {ts = ts} d l) =
    let e : at + width w + width rest ≡ at + width (w ++ rest) = omega (arith, width-append w rest) in
    let some : 0 < length w = token_some d in
    (omega arith, omega (arith, length-le-encodes w), subst (λ n. AreInOrder (at + width w) ts n) e (lexes_order l))
