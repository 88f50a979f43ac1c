-- A source has one list of tokens, and one first fault or none.
use Rattle.std.proofs.Common.{◌≡◌, ℕ, zero, suc, ◌+◌, ◌<◌, ◌≤◌, true, false, List, [], ◌∷◌, ◌++◌, length, take, drop, refl, sym, ◌∙◌, ap, subst, arith, length-append, length-drop, Option, Some, None}
use Rattle.std.proofs.Math.Seq.{take-append_seam, drop-append_seam}
use Rattle.jn_base.specs.declared.token.TokenKind.{TokenKind}
use Rattle.jn_base.specs.declared.token.Token.{Token as Lexed}
use Rattle.jn_base.specs.declared.token.LexFault.{LexFault}
use Rattle.jn_base.specs.Tokens.{width, IsComment, to_line_end, to_end, IsToken, name, keyword, number, text, mark, IsFault, bad_number, open_comment, open_text, bad_escape, bad_char, is_mark, Lexes, at_end, fault, blank, comment, token}
use Rattle.jn_lexer.specs.declared.front.Piece.{Piece}
use Rattle.jn_lexer.specs.declared.front.Piece.TheVariants.{Gap, Token, Fault}
use Rattle.jn_lexer.specs.Front.{fault_at, len_of, front}
use Rattle.jn_lexer.proofs.Marks.{mark_shape}
use Rattle.jn_lexer.proofs.Stands.{Stands}
use Rattle.jn_lexer.proofs.Stands as stands
use Rattle.jn_lexer.proofs.FrontFound.{front_stands}
use Rattle.jn_lexer.proofs.FrontAgain.{blank_again, comment_again, token_again, fault_again}

-- comments and tokens have characters
pub comment_some : {w rest : List ℕ} → IsComment w rest → 0 < length w
comment_some (to_line_end {w = w} a s) = omega arith
comment_some (to_end w h) = omega arith

some_of_mark : (w : List ℕ) → is_mark w ≡ true → 0 < length w
some_of_mark [] m = let shape : false ≡ true = mark_shape [] m in absurd (cc)
some_of_mark (c ∷ w) m = omega arith

pub token_some : {k : TokenKind} {w rest : List ℕ} → IsToken k w rest → 0 < length w
token_some (name b a s e) = omega arith
token_some (keyword b a s e) = omega arith
token_some (number a s e) = omega arith
token_some (text d) = omega arith
token_some (mark {w = w} m b l) = some_of_mark w m

-- how far it goes
pub Moves : List ℕ → Piece → Type 0
Moves cs (Gap n) = (0 < n) × (n ≤ length cs)
Moves cs (Token k n) = (0 < n) × (n ≤ length cs)
Moves cs (Fault f n) = n ≤ length cs

stands_moves : {cs : List ℕ} {p : Piece} → Stands cs p → Moves cs p
unfolding Moves
stands_moves (stands.blank b) = (omega arith, omega arith)
stands_moves (stands.comment {w = w} {rest = rest} d e) = let some : 0 < length w = comment_some d in (omega arith, omega (arith, length-append w rest))
stands_moves (stands.token {w = w} {rest = rest} d e) = let some : 0 < length w = token_some d in (omega arith, omega (arith, length-append w rest))
stands_moves (stands.fault d h) = h

pub front_moves : (c : ℕ) (cs : List ℕ) → Moves (c ∷ cs) (front (c ∷ cs))
front_moves c cs = stands_moves (front_stands c cs)

abbrev lexed : TokenKind → ℕ → ℕ → Lexed
lexed k start end = record { kind = k; start = start; end = end }

within_of : (cs : List ℕ) (p : Piece) → Moves cs p → len_of p ≤ length cs
unfolding Moves
within_of cs (Gap n) m = m.1
within_of cs (Token k n) m = m.1
within_of cs (Fault f n) m = m

front_of_nothing : len_of (front []) ≡ 0
unfolding front
front_of_nothing = refl

-- it stays within the characters, and goes on where there is no fault
pub front_within : (cs : List ℕ) → len_of (front cs) ≤ length cs
front_within [] = omega (arith, front_of_nothing)
front_within (c ∷ cs) = within_of (c ∷ cs) (front (c ∷ cs)) (front_moves c cs)

pub gap_goes_on : (cs : List ℕ) (n : ℕ) → 0 < length cs → front cs ≡ Gap n → 0 < n
unfolding Moves
gap_goes_on [] n h e = absurd (omega arith)
gap_goes_on (c ∷ cs) n h e = (subst (Moves (c ∷ cs)) e (front_moves c cs)).0

pub token_goes_on : (cs : List ℕ) (k : TokenKind) (n : ℕ) → 0 < length cs → front cs ≡ Token k n → 0 < n
unfolding Moves
token_goes_on [] k n h e = absurd (omega arith)
token_goes_on (c ∷ cs) k n h e = (subst (Moves (c ∷ cs)) e (front_moves c cs)).0

-- What a piece at the front says of the tokens.
Reads : ℕ → List ℕ → List Lexed → Option LexFault → Piece → Type 0
Reads at cs ts f (Gap n) = Lexes (at + width (take n cs)) (drop n cs) ts f
Reads at cs ts f (Token k n) = (us : List Lexed) × (ts ≡ lexed k at (at + width (take n cs)) ∷ us) × Lexes (at + width (take n cs)) (drop n cs) us f
Reads at cs ts f (Fault g n) = (ts ≡ []) × (f ≡ Some (fault_at g (at + width (take n cs))))

-- the rest, behind characters of this length
behind : {ts : List Lexed} {f : Option LexFault} (at : ℕ) (w rest : List ℕ) → Lexes (at + width w) rest ts f → Lexes (at + width (take (length w) (w ++ rest))) (drop (length w) (w ++ rest)) ts f
behind {ts} {f} at w rest l = subst (λ (v : List ℕ). Lexes (at + width v) (drop (length w) (w ++ rest)) ts f) (sym (take-append_seam w rest)) (subst (λ (v : List ℕ). Lexes (at + width w) v ts f) (sym (drop-append_seam w rest)) l)

reads : {at : ℕ} {cs : List ℕ} {ts : List Lexed} {f : Option LexFault} → Lexes at cs ts f → (0 < length cs) → Reads at cs ts f (front cs)
unfolding Reads
reads at_end h = absurd (omega arith)
reads (fault {at = at} {cs = cs} {f = f} d) h = let r = fault_again d in subst (λ (p : Piece). Reads at cs [] (Some f) p) (sym r.found) (refl, ap Some r.same)
reads (blank {at = at} {c = c} {cs = cs} {ts = ts} {f = f} b l) h = subst (λ (p : Piece). Reads at (c ∷ cs) ts f p) (sym (blank_again c cs b)) l
reads (comment {at = at} {w = w} {rest = rest} {ts = ts} {f = f} d l) h = subst (λ (p : Piece). Reads at (w ++ rest) ts f p) (sym (comment_again d)) (behind at w rest l)
reads (token {at = at} {k = k} {w = w} {rest = rest} {ts = ts} {f = f} d l) h =
    subst (λ (p : Piece). Reads at (w ++ rest) (lexed k at (at + width w) ∷ ts) f p) (sym (token_again d))
    (ts, ap (λ (v : List ℕ). lexed k at (at + width v) ∷ ts) (sym (take-append_seam w rest)), behind at w rest l)

-- both are the same
pub record AreSame (ts us : List Lexed) (f g : Option LexFault) : Type 0 where
  pub tokens : ts ≡ us
  pub faults : f ≡ g

nothing_left : {at : ℕ} {cs : List ℕ} {ts : List Lexed} {f : Option LexFault} → Lexes at cs ts f → length cs ≡ 0 → (ts ≡ []) × (f ≡ None)
nothing_left at_end e = (refl, refl)
nothing_left (fault d) e = absurd (some_fault d e)
  where
    some_fault : {at : ℕ} {cs : List ℕ} {g : LexFault} → IsFault at cs g → length cs ≡ 0 → ⊥
    some_fault (bad_number w rest a s k) e = omega arith
    some_fault (open_comment h) e = omega arith
    some_fault (open_text rest d b) e = omega arith
    some_fault (bad_escape rest d b) e = omega arith
    some_fault (bad_char b n d q none) e = omega arith
nothing_left (blank b l) e = absurd (omega arith)
nothing_left (comment {w = w} {rest = rest} d l) e = let some : 0 < length w = comment_some d in absurd (omega (arith, length-append w rest))
nothing_left (token {w = w} {rest = rest} d l) e = let some : 0 < length w = token_some d in absurd (omega (arith, length-append w rest))

-- it is so of at most n characters
Once : ℕ → Type 0
Once n = (at : ℕ) (cs : List ℕ) → length cs ≤ n → (ts us : List Lexed) (f g : Option LexFault) → Lexes at cs ts f → Lexes at cs us g → AreSame ts us f g

by_piece : (n at c : ℕ) (cs : List ℕ) → Once n → length cs ≤ n → (ts us : List Lexed) (f g : Option LexFault) (p : Piece) → Moves (c ∷ cs) p
    → Reads at (c ∷ cs) ts f p → Reads at (c ∷ cs) us g p → AreSame ts us f g
unfolding Moves Reads Once
by_piece n at c cs once h ts us f g (Gap m) mv a b = once _ (drop m (c ∷ cs)) (omega (arith, length-drop m (c ∷ cs))) ts us f g a b
by_piece n at c cs once h ts us f g (Token k m) mv (ts', e, a) (us', e', b) =
    let same = once _ (drop m (c ∷ cs)) (omega (arith, length-drop m (c ∷ cs))) ts' us' f g a b in
    record { tokens = e ∙ ap (λ (xs : List Lexed). lexed k at (at + width (take m (c ∷ cs))) ∷ xs) same.tokens ∙ sym e'; faults = same.faults }
by_piece n at c cs once h ts us f g (Fault w m) mv a b = record { tokens = a.0 ∙ sym b.0; faults = a.1 ∙ sym b.1 }

once_all : (n : ℕ) → Once n
unfolding Once
once_all zero at cs h ts us f g a b = let x = nothing_left a (omega arith) in let y = nothing_left b (omega arith) in record { tokens = x.0 ∙ sym y.0; faults = x.1 ∙ sym y.1 }
once_all (suc n) at [] h ts us f g a b = let x = nothing_left a (omega arith) in let y = nothing_left b (omega arith) in record { tokens = x.0 ∙ sym y.0; faults = x.1 ∙ sym y.1 }
once_all (suc n) at (c ∷ cs) h ts us f g a b =
    by_piece n at c cs (once_all n) (omega arith) ts us f g (front (c ∷ cs)) (front_moves c cs) (reads a (omega arith)) (reads b (omega arith))

pub once : (at : ℕ) (cs : List ℕ) (ts us : List Lexed) (f g : Option LexFault) → Lexes at cs ts f → Lexes at cs us g → AreSame ts us f g
unfolding Once
once at cs = once_all (length cs) at cs (omega arith)
