-- Output, one part behind another.
use Rattle.std.proofs.Common.{◌≡◌, refl, sym, ap, ◌∙◌, ℕ, zero, suc, ◌+◌, ◌<◌, List, [], ◌∷◌, ◌++◌, length, take, drop, get_or, subst, arith, Option, Some, None, Result, Ok, Err}
use Rattle.std.specs.Prelude.{OnOk, OnErr}
use Rattle.std.specs.Io.KnownBytes.{append_known}
use Rattle.std.proofs.lemmas.List.{append_assoc, append-nil, length-append}
use Rattle.std.proofs.lemmas.Grind.{common_steps}
use Rattle.jn_io.specs.Told.{Takes}
use Rattle.jn_output.specs.Writes.{Wrote, Cut}

nothing_more : (t : Option (List ℕ)) → t ≡ append_known t []
nothing_more None = refl
nothing_more (Some bytes) = ap Some (sym (append-nil bytes))

pub append_twice : (t : Option (List ℕ)) (xs ys : List ℕ) → append_known (append_known t xs) ys ≡ append_known t (xs ++ ys)
append_twice None xs ys = refl
append_twice (Some zs) xs ys = ap Some (append_assoc zs xs ys)

-- the bytes wait
pub waits : (t : Option (List ℕ)) (b c bytes : List ℕ) → c ≡ b ++ bytes → Wrote t t b c bytes
waits t b c bytes e = record { gone = []; pieces = 0; whole = refl; took = nothing_more t; same = e }

-- a piece went out
pub sent : {E : Type 0} (t u : Option (List ℕ)) (b c bytes piece : List ℕ) (r : Result Unit E) → piece ≡ b ++ bytes → length piece ≡ 8192 → c ≡ [] → Takes t u piece r → OnOk r (Wrote t u b c bytes)
sent t u b c bytes piece (Ok v) e n z k =
    record { gone = piece; pieces = 1; whole = n; took = k; same = ap (λ (c : List ℕ). piece ++ c) z ∙ append-nil piece ∙ e }
sent t u b c bytes piece (Err x) e n z k = tt

take_drop : (n : ℕ) (xs : List ℕ) → take n xs ++ drop n xs ≡ xs
take_drop zero xs = refl
take_drop (suc n) [] = refl
take_drop (suc n) (x ∷ xs) = ap (λ ys. x ∷ ys) (take_drop n xs)

pub broken : {E : Type 0} (t u : Option (List ℕ)) (all piece : List ℕ) (r : Result Unit E) → piece ≡ all → Takes t u piece r → OnErr r (Cut t u all)
broken t u all piece (Ok v) e k = tt
broken t u all piece (Err x) e k =
    record { gone = take k.0 piece; took = k.1; first = (drop k.0 piece, take_drop k.0 piece ∙ e) }

pub both : (r s t : Option (List ℕ)) (a b c xs ys : List ℕ) → Wrote r s a b xs → Wrote s t b c ys → Wrote r t a c (xs ++ ys)
both r s t a b c xs ys p q =
    let l = length-append p.gone q.gone in
    let m = p.whole in
    let n = q.whole in
    record {
      gone = p.gone ++ q.gone;
      pieces = p.pieces + q.pieces;
      whole = omega arith;
      took = q.took ∙ ap (λ z. append_known z q.gone) p.took ∙ append_twice r p.gone q.gone;
      same =
          append_assoc p.gone q.gone c ∙ ap (λ (z : List ℕ). p.gone ++ z) q.same ∙ sym (append_assoc p.gone b ys) ∙ ap (λ (z : List ℕ). z ++ ys) p.same ∙ append_assoc a xs ys;
    }

-- the sink failed behind what it had taken
pub later_cut : (r s t : Option (List ℕ)) (a b xs ys : List ℕ) → Wrote r s a b xs → Cut s t (b ++ ys) → Cut r t (a ++ (xs ++ ys))
later_cut r s t a b xs ys p q = record {
  gone = p.gone ++ q.gone;
  took = q.took ∙ ap (λ z. append_known z q.gone) p.took ∙ append_twice r p.gone q.gone;
  first = (
    q.first.0,
    append_assoc p.gone q.gone q.first.0 ∙ ap (λ (z : List ℕ). p.gone ++ z) q.first.1 ∙ sym (append_assoc p.gone b ys) ∙ ap (λ (z : List ℕ). z ++ ys) p.same ∙ append_assoc a xs ys,
  );
}

-- and more was to come
pub cut_before : (t u : Option (List ℕ)) (all more : List ℕ) → Cut t u all → Cut t u (all ++ more)
cut_before t u all more k = record {
  gone = k.gone;
  took = k.took;
  first = (k.first.0 ++ more, sym (append_assoc k.gone k.first.0 more) ∙ ap (λ (z : List ℕ). z ++ more) k.first.1);
}

pub then_ok : {T E : Type 0} (r : Result T E) (P Q : Type 0) → (P → Q) → OnOk r P → OnOk r Q
then_ok (Ok v) P Q f p = f p
then_ok (Err e) P Q f p = p

pub then_err : {T E : Type 0} (r : Result T E) (P Q : Type 0) → (P → Q) → OnErr r P → OnErr r Q
then_err (Ok v) P Q f p = p
then_err (Err e) P Q f p = f p

pub one_more : (xs : List ℕ) (k : ℕ) → k < length xs → take (k + 1) xs ≡ take k xs ++ get_or xs k 0 ∷ []
one_more xs k h = grind (arith, common_steps)

-- the sink failed at byte k
pub cut_at : (r s t : Option (List ℕ)) (a b bytes : List ℕ) (k : ℕ) → k < length bytes → Wrote r s a b (take k bytes) → Cut s t (b ++ get_or bytes k 0 ∷ []) → Cut r t (a ++ bytes)
cut_at r s t a b bytes k h p q =
    let x : List ℕ = get_or bytes k 0 ∷ [] in
    let w = cut_before r t (a ++ (take k bytes ++ x)) (drop (k + 1) bytes) (later_cut r s t a b (take k bytes) x p q) in
    let e : (a ++ (take k bytes ++ x)) ++ drop (k + 1) bytes ≡ a ++ bytes =
    append_assoc a (take k bytes ++ x) (drop (k + 1) bytes) ∙ ap (λ (ys : List ℕ). a ++ ys) (ap (λ (ys : List ℕ). ys ++ drop (k + 1) bytes) (sym (one_more bytes k h)) ∙ take_drop (k + 1) bytes) in
    subst (λ (ys : List ℕ). Cut r t ys) e w

pub more_written : (r s t : Option (List ℕ)) (a b c bytes : List ℕ) (k : ℕ) → k < length bytes → Wrote r s a b (take k bytes) → Wrote s t b c (get_or bytes k 0 ∷ []) → Wrote r t a c (take (k + 1) bytes)
more_written r s t a b c bytes k h p q =
    subst (λ (ys : List ℕ). Wrote r t a c ys) (sym (one_more bytes k h)) (both r s t a b c (take k bytes) (get_or bytes k 0 ∷ []) p q)

pub on_err : {T E : Type 0} (r : Result T E) (P : Type 0) → P → OnErr r P
on_err (Ok v) P p = tt
on_err (Err e) P p = p
