-- What the loop over the pieces of a source keeps.
use Rattle.std.proofs.Common.{◌≡◌, ℕ, zero, suc, ◌+◌, ◌<◌, ◌≤◌, Bool, true, false, ◌==◌, List, [], ◌∷◌, ◌++◌, length, take, drop, refl, sym, ◌∙◌, ap, subst, arith, length-drop, append_assoc, Option, Some, None}
use Rattle.std.proofs.lemmas.Bool.{eqb-true}
use Rattle.std.proofs.lemmas.List.{append-nil, take-append-drop}
use Rattle.std.proofs.Math.Seq.{take-append_seam, drop-append_seam}
use Rattle.jn_base.specs.declared.token.TokenKind.{TokenKind}
use Rattle.jn_base.specs.declared.token.Token.{Token as Lexed}
use Rattle.jn_base.specs.declared.token.LexFault.{LexFault}
use Rattle.jn_base.specs.Tokens.{width, Lexes, at_end, fault, blank, comment, token}
use Rattle.jn_lexer.specs.declared.front.Flaw.{Flaw}
use Rattle.jn_lexer.specs.declared.front.Piece.{Piece}
use Rattle.jn_lexer.specs.declared.front.Piece.TheVariants.{Gap, Token, Fault}
use Rattle.jn_lexer.specs.Front.{fault_at, front}
use Rattle.jn_lexer.proofs.Stands.{Stands}
use Rattle.jn_lexer.proofs.Stands as stands
use Rattle.jn_lexer.proofs.FrontFound.{front_stands}
use Rattle.jn_lexer.proofs.Once.{gap_goes_on, token_goes_on}
use Rattle.jn_lexer.proofs.Widths.{width-append}

abbrev pub lexed : TokenKind → ℕ → ℕ → Lexed
lexed k start end = record { kind = k; start = start; end = end }

-- What a piece at the front says of the tokens.
Says : ℕ → List ℕ → Piece → Type 0
Says at cs (Gap n) = (ts : List Lexed) (f : Option LexFault) → Lexes (at + width (take n cs)) (drop n cs) ts f → Lexes at cs ts f
Says at cs (Token k n) = (ts : List Lexed) (f : Option LexFault) → Lexes (at + width (take n cs)) (drop n cs) ts f → Lexes at cs (lexed k at (at + width (take n cs)) ∷ ts) f
Says at cs (Fault g n) = Lexes at cs [] (Some (fault_at g (at + width (take n cs))))

stands_says : {cs : List ℕ} {p : Piece} (at : ℕ) → Stands cs p → Says at cs p
unfolding Says
stands_says at (stands.blank b) = λ ts f l. blank b l
stands_says at (stands.comment {w = w} {rest = rest} {n = n} d e) =
    subst (λ m. (ts : List Lexed) (f : Option LexFault) → Lexes (at + width (take m (w ++ rest))) (drop m (w ++ rest)) ts f → Lexes at (w ++ rest) ts f) (sym e)
    (λ ts f l. comment d (subst (λ (v : List ℕ). Lexes (at + width v) rest ts f) (take-append_seam w rest) (subst (λ (v : List ℕ). Lexes (at + width (take (length w) (w ++ rest))) v ts f) (drop-append_seam w rest) l)))
stands_says at (stands.token {k = k} {w = w} {rest = rest} {n = n} d e) =
    subst (λ m. (ts : List Lexed) (f : Option LexFault) → Lexes (at + width (take m (w ++ rest))) (drop m (w ++ rest)) ts f → Lexes at (w ++ rest) (lexed k at (at + width (take m (w ++ rest))) ∷ ts) f) (sym e)
    (λ ts f l. subst (λ (v : List ℕ). Lexes at (w ++ rest) (lexed k at (at + width v) ∷ ts) f) (sym (take-append_seam w rest))
    (token d (subst (λ (v : List ℕ). Lexes (at + width v) rest ts f) (take-append_seam w rest) (subst (λ (v : List ℕ). Lexes (at + width (take (length w) (w ++ rest))) v ts f) (drop-append_seam w rest) l))))
stands_says at (stands.fault d h) = fault (d at)

front_says : (at : ℕ) (cs : List ℕ) → 0 < length cs → Says at cs (front cs)
front_says at [] h = absurd (omega arith)
front_says at (c ∷ cs) h = stands_says at (front_stands c cs)

-- The tokens so far are those in front of the rest, which begins at this byte.
pub record IsSoFar (cs : List ℕ) (at : ℕ) (rest : List ℕ) (found : List Lexed) : Type 0 where
  pub place : at + width rest ≡ width cs
  pub goes_on : (ts : List Lexed) (f : Option LexFault) → Lexes at rest ts f → Lexes 0 cs (found ++ ts) f

pub so_far_starts : (cs : List ℕ) → IsSoFar cs 0 cs []
so_far_starts cs = record { place = omega arith; goes_on = λ ts f l. l }

-- a piece passed, and what is behind it
pub record Passes (at : ℕ) (rest : List ℕ) (n : ℕ) (passed after : List ℕ) (end : ℕ) : Type 0 where
  pub some : 0 < length rest
  pub passed_is : passed ≡ take n rest
  pub after_is : after ≡ drop n rest
  pub end_is : end ≡ at + width passed

pub passes : (at : ℕ) (rest : List ℕ) (n m : ℕ) (passed after : List ℕ) (w : ℕ) → 0 < length rest → passed ≡ take m rest → after ≡ drop m rest → m ≡ n → w ≡ width passed
    → Passes at rest n passed after (at + w)
passes at rest n m passed after w some t d e is = record {
  some = some;
  passed_is = t ∙ ap (λ k. take k rest) e;
  after_is = d ∙ ap (λ k. drop k rest) e;
  end_is = ap (λ k. at + k) is;
}

passes_place : (cs : List ℕ) {at : ℕ} {rest : List ℕ} {n : ℕ} {passed after : List ℕ} {end : ℕ} → Passes at rest n passed after end → at + width rest ≡ width cs → end + width after ≡ width cs
passes_place cs {rest = rest} {n = n} {passed = passed} {after = after} p e =
    let whole : passed ++ after ≡ rest = ap (λ (v : List ℕ). v ++ after) p.passed_is ∙ ap (λ (v : List ℕ). take n rest ++ v) p.after_is ∙ take-append-drop n rest in
    let sums : width rest ≡ width passed + width after = ap width (sym whole) ∙ width-append passed after in
    omega (arith, p.end_is)

end_of : {at : ℕ} {rest : List ℕ} {n : ℕ} {passed after : List ℕ} {end : ℕ} → Passes at rest n passed after end → end ≡ at + width (take n rest)
end_of {at = at} p = p.end_is ∙ ap (λ (v : List ℕ). at + width v) p.passed_is

rest_of : {at : ℕ} {rest : List ℕ} {n : ℕ} {passed after : List ℕ} {end : ℕ} (ts : List Lexed) (f : Option LexFault) → Passes at rest n passed after end → Lexes end after ts f
    → Lexes (at + width (take n rest)) (drop n rest) ts f
rest_of {at = at} {rest} {n} {passed} {after} {end} ts f p l = subst (λ m. Lexes m (drop n rest) ts f) (end_of p) (subst (λ (v : List ℕ). Lexes end v ts f) p.after_is l)

pub so_far_gap : {cs : List ℕ} {at : ℕ} {rest : List ℕ} {found : List Lexed} {n : ℕ} {passed after : List ℕ} {end : ℕ}
    → IsSoFar cs at rest found → front rest ≡ Gap n → Passes at rest n passed after end → IsSoFar cs end after found
unfolding Says
so_far_gap {cs} {at = at} {rest = rest} s e p = record {
  place = passes_place cs p s.place;
  goes_on = λ ts f l. s.goes_on ts f (subst (Says at rest) e (front_says at rest p.some) ts f (rest_of ts f p l));
}

pub so_far_token : {cs : List ℕ} {at : ℕ} {rest : List ℕ} {found : List Lexed} {k : TokenKind} {n : ℕ} {passed after : List ℕ} {end : ℕ}
    → IsSoFar cs at rest found → front rest ≡ Token k n → Passes at rest n passed after end → IsSoFar cs end after (found ++ lexed k at end ∷ [])
unfolding Says
so_far_token {cs} {at = at} {rest = rest} {found = found} {k = k} {end = end} s e p = record {
  place = passes_place cs p s.place;
  goes_on = λ ts f l. subst (λ (xs : List Lexed). Lexes 0 cs xs f) (sym (append_assoc found (lexed k at end ∷ []) ts))
      (s.goes_on (lexed k at end ∷ ts) f (subst (λ m. Lexes at rest (lexed k at m ∷ ts) f) (sym (end_of p)) (subst (Says at rest) e (front_says at rest p.some) ts f (rest_of ts f p l))));
}

pub so_far_fault : {cs : List ℕ} {at : ℕ} {rest : List ℕ} {found : List Lexed} {g : Flaw} {n : ℕ} {passed after : List ℕ} {end : ℕ}
    → IsSoFar cs at rest found → front rest ≡ Fault g n → Passes at rest n passed after end → Lexes 0 cs (found ++ []) (Some (fault_at g end))
unfolding Says
so_far_fault {at = at} {rest = rest} {g = g} s e p =
    s.goes_on [] (Some (fault_at g _)) (subst (λ m. Lexes at rest [] (Some (fault_at g m))) (sym (end_of p)) (subst (Says at rest) e (front_says at rest p.some)))

ends_at : (cs : List ℕ) (at : ℕ) (rest : List ℕ) (found : List Lexed) → IsSoFar cs at rest found → length rest ≡ 0 → Lexes 0 cs found None
ends_at cs at [] found s e = subst (λ (xs : List Lexed). Lexes 0 cs xs None) (append-nil found) (s.goes_on [] None at_end)
ends_at cs at (c ∷ rest) found s e = absurd (omega arith)

pub nonempty : (n : ℕ) (b : Bool) → b ≡ (n == 0) → b ≡ false → 0 < n
nonempty zero b e h = absurd (cc)
nonempty (suc n) b e h = omega arith

pub is_empty_at : (n : ℕ) (b : Bool) → b ≡ (n == 0) → b ≡ true → n ≡ 0
is_empty_at zero b e h = refl
is_empty_at (suc n) b e h = absurd (let x : (suc n == 0) ≡ true = sym e ∙ h in let y : suc n ≡ 0 = eqb-true (suc n) 0 x in omega arith)

pub so_far_ends : {cs : List ℕ} {at : ℕ} {rest : List ℕ} {found : List Lexed} → IsSoFar cs at rest found → length rest ≡ 0 → Lexes 0 cs found None
so_far_ends s e = ends_at _ _ _ _ s e

pub less_at_gap : {at : ℕ} {rest : List ℕ} {n : ℕ} {passed after : List ℕ} {end : ℕ} → front rest ≡ Gap n → Passes at rest n passed after end → length after < length rest
less_at_gap {rest = rest} {n = n} {after = after} e p =
    let on : 0 < n = gap_goes_on rest n p.some e in
    let len : length after ≡ length (drop n rest) = ap length p.after_is in
    let some : 0 < length rest = p.some in
    omega (arith, length-drop n rest)

pub less_at_token : {at : ℕ} {rest : List ℕ} {k : TokenKind} {n : ℕ} {passed after : List ℕ} {end : ℕ} → front rest ≡ Token k n → Passes at rest n passed after end → length after < length rest
less_at_token {rest = rest} {k = k} {n = n} {after = after} e p =
    let on : 0 < n = token_goes_on rest k n p.some e in
    let len : length after ≡ length (drop n rest) = ap length p.after_is in
    let some : 0 < length rest = p.some in
    omega (arith, length-drop n rest)

pub place_within : {cs : List ℕ} {at : ℕ} {rest : List ℕ} {found : List Lexed} {n : ℕ} {passed after : List ℕ} {end : ℕ}
    → IsSoFar cs at rest found → Passes at rest n passed after end → (end ≤ width cs) × (width passed ≤ width cs)
place_within {cs} {passed = passed} {after = after} {end = end} s p =
    let e : end + width after ≡ width cs = passes_place cs p s.place in
    (omega arith, omega (arith, p.end_is))

-- up to the fault that is given
pub faulty : (cs : List ℕ) (found : List Lexed) (g : Flaw) (at : ℕ) (f : LexFault) → Lexes 0 cs (found ++ []) (Some (fault_at g at)) → f ≡ fault_at g at → Lexes 0 cs found (Some f)
faulty cs found g at f l e = subst (λ h. Lexes 0 cs found (Some h)) (sym e) (subst (λ (xs : List Lexed). Lexes 0 cs xs (Some (fault_at g at))) (append-nil found) l)
