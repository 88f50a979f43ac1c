-- Each UTF-8 source has tokens, and each other one a first byte that is none of UTF-8.
use Rattle.std.proofs.Common.{◌≡◌, ◌<◌, ◌≤◌, ◌+◌, ◌⊎◌, inl, inr, ℕ, zero, suc, Bool, true, false, List, [], ◌∷◌, length, take, refl, sym, ap, ◌∙◌, subst, arith, length-append, Option, None}
use Rattle.std.specs.Str.{IsUtf8, IsValidUpTo, is_utf8, chars}
use Rattle.std.proofs.lemmas.Bool.{cases_lt}
use Rattle.std.proofs.lemmas.List.{take_all}
use Rattle.std.proofs.lemmas.Str.{encodes-chars, scalars-chars, IsUtf8-from_is_utf8, is_utf8-from_IsUtf8}
use Rattle.std.proofs.Math.Seq.{take-length}
use Rattle.jn_base.specs.declared.token.Token.{Token}
use Rattle.jn_base.specs.declared.token.LexFault.{LexFault}
use Rattle.jn_base.specs.Tokens.{width, Lexes, at_end, fault, blank, comment, token, TokensOf}
use Rattle.jn_lexer.specs.declared.front.Piece.{Piece}
use Rattle.jn_lexer.proofs.Stands.{Stands}
use Rattle.jn_lexer.proofs.FrontFound.{front_stands}
use Rattle.jn_lexer.proofs.Once.{comment_some, token_some}

-- the characters are tokens, up to their end or a fault
pub record Lexed (at : ℕ) (cs : List ℕ) : Type 0 where
  pub tokens : List Token
  pub found : Option LexFault
  pub lexes : Lexes at cs tokens found

-- by what stands in front, where all shorter rests are lexed
by_front : (n at : ℕ) {cs : List ℕ} {p : Piece} → Stands cs p → length cs ≤ suc n
    → ((to : ℕ) (rest : List ℕ) → length rest ≤ n → Lexed to rest) → Lexed at cs
by_front n at (Stands.blank {c = c} {cs = cs} b) h more =
    let r = more (at + width (c ∷ [])) cs
    (omega (arith, h)) in record { tokens = r.tokens; found = r.found; lexes = blank b r.lexes }
by_front n at (Stands.comment {w = w} {rest = rest} d e) h more =
    let some : 0 < length w = comment_some d in
    let r = more (at + width w) rest
    (omega (arith, h, some, length-append w rest)) in record {
      tokens = r.tokens;
      found = r.found;
      lexes =
          comment d r.lexes;
    }
by_front n at (Stands.token {w = w} {rest = rest} d e) h more =
    let some : 0 < length w = token_some d in
    let r = more (at + width w) rest
    (omega (arith, h, some, length-append w rest)) in record {
      tokens = _;
      found = r.found;
      lexes =
          token d r.lexes;
    }
by_front n at (Stands.fault d k) h more = record { tokens = []; found = _; lexes = fault (d at) }

lexed_up_to : (n at : ℕ) (cs : List ℕ) → length cs ≤ n → Lexed at cs
lexed_up_to n at [] h = record { tokens = []; found = None; lexes = at_end }
lexed_up_to zero at (c ∷ cs) h = absurd (omega (arith, h))
lexed_up_to (suc n) at (c ∷ cs) h = by_front n at (front_stands c cs) h (lexed_up_to n)

pub tokens_there : (bytes : List ℕ) → IsUtf8 bytes → (ts : List Token) × (f : Option LexFault) × TokensOf bytes ts f
tokens_there bytes u =
    let l = lexed_up_to (length (chars bytes)) 0 (chars bytes) (omega arith) in (
      l.tokens,
      l.found,
      record {
        characters = chars bytes;
        scalars = scalars-chars bytes u;
        spelled =
            encodes-chars bytes u;
        lexed = l.lexes;
      },
    )

-- ---- bytes that are no UTF-8

-- no front of at least m bytes is UTF-8
abbrev NoneFrom : List ℕ → ℕ → Type 0
NoneFrom bs m = (k : ℕ) → m ≤ k → k ≤ length bs → is_utf8 (take k bs) ≡ false

not_utf8 : (bs : List ℕ) → is_utf8 bs ≡ false → IsUtf8 bs → ⊥
not_utf8 bs e u = cc (e, is_utf8-from_IsUtf8 bs u)

take_none : (bs : List ℕ) → take 0 bs ≡ []
take_none [] = refl
take_none (b ∷ bs) = refl

nothing_utf8 : IsUtf8 []
nothing_utf8 = ([], (refl, refl))

longest_front : (bs : List ℕ) (m : ℕ) → m ≤ length bs → NoneFrom bs m → (n : ℕ) × IsValidUpTo bs n
longest_front bs zero h none = absurd
    (not_utf8 (take 0 bs) (none 0 (omega arith) (omega arith)) (subst IsUtf8 (sym (take_none bs)) nothing_utf8))
longest_front bs (suc m) h none = by (is_utf8 (take m bs)) refl (longest_front bs m (omega (arith, h))) where
  beyond : (k : ℕ) → m < k → IsUtf8 (take k bs) → ⊥
  beyond k l u = elim (cases_lt (length bs) k) [
    | inl past ↦ not_utf8 (take (length bs) bs) (none (length bs) h (omega arith))
        (subst IsUtf8 (take_all k bs (omega (arith, past)) ∙ sym (take-length bs)) u)
    | inr within ↦ not_utf8 (take k bs) (none k (omega (arith, l)) within) u
  ]

  by : (b : Bool) → is_utf8 (take m bs) ≡ b → (NoneFrom bs m → (n : ℕ) × IsValidUpTo bs n) → (n : ℕ) × IsValidUpTo bs n
  by true e shorter =
      (m, record { short = omega (arith, h); front = IsUtf8-from_is_utf8 (take m bs) e; longest = beyond })
  by false e shorter = shorter (λ k l j. elim (cases_lt m k) [
    | inl more ↦ none k (omega (arith, more)) j
    | inr same ↦ subst (λ (i : ℕ). is_utf8 (take i bs) ≡ false) (let q : m ≡ k = omega (arith, l, same) in q) e
  ])

pub utf8_or_not : (bs : List ℕ) → IsUtf8 bs ⊎ ((n : ℕ) × IsValidUpTo bs n)
utf8_or_not bs = by (is_utf8 bs) refl where
  by : (b : Bool) → is_utf8 bs ≡ b → IsUtf8 bs ⊎ ((n : ℕ) × IsValidUpTo bs n)
  by true e = inl (IsUtf8-from_is_utf8 bs e)
  by false e = inr (longest_front bs (length bs) (omega arith) (λ k l j.
      let q : length bs ≡ k = omega (arith, l, j) in
      subst (λ (i : ℕ). is_utf8 (take i bs) ≡ false) q (ap is_utf8 (take-length bs) ∙ e)))
