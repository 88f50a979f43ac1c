-- The code of a whole body, from what is emitted one behind another.
use Rattle.std.proofs.Common.{◌≡◌, ◌++◌, ℕ, zero, suc, ◌+◌, List, [], ◌∷◌, length, refl, sym, ap, subst, arith}
use Rattle.std.specs.Prelude.{Some, slice_get}
use Rattle.jn_sem.specs.Acts.{path_behind}
use Rattle.jn_code.specs.declared.image.Code.{Code}
use Rattle.jn_rules.specs.Stmts.{body_in, at_start}
use Rattle.jn_agree.specs.Places.{tests, last_return, Run}
use Rattle.jn_lower.specs.Placed.{Are, Behind}
use Rattle.jn_lower.specs.Composed.{Stmts}
use Rattle.jn_lower.specs.Whole.{LocalsFit, BodyStands}
use Rattle.jn_lower.proofs.Growing.{behind, added}
use Rattle.jn_lower.proofs.Holding.{at_front}

at_back : (xs more : List ℕ) (j k i : ℕ) → i ≡ length xs + j → slice_get more j ≡ Some k → slice_get (xs ++ more) i ≡ Some k
at_back [] more j k i is e =
    let same : j ≡ i = omega (arith, is) in
    subst (λ m. slice_get more m ≡ Some k) same e
at_back (x ∷ xs) more j k zero is e = absurd (omega (arith, is))
at_back (x ∷ xs) more j k (suc i) is e = at_back xs more j k i (omega (arith, is)) e

pub locals_fit : LocalsFit
locals_fit x c e long = record {
  kinds = λ q k h. subst (λ ks. slice_get ks q ≡ Some k) (sym e) (at_front x.kinds x.spare q k h);
  spare = λ j k h.
      subst (λ s. slice_get (c.params ++ c.locals) (s + j) ≡ Some k) long
      (subst (λ ks. slice_get ks (length x.kinds + j) ≡ Some k) (sym e) (at_back x.kinds x.spare j k (length x.kinds + j) refl h));
}

pub body_so : BodyStands
body_so p n b k code shape c0 c1 c2 c3 is params result empty tested stmts over same fits = record {
  shape = shape;
  is_shape = is;
  params = params;
  result = result;
  first = r.0;
  last = r.2.0;
  tested = subst (λ s. Run code.instrs (tests k.vars) s r.0) (ap length empty) r.1;
  stmts = r.2.1;
  over = subst (λ xs. Run code.instrs (last_return code.result) r.2.0 (length xs)) (sym same) r.2.2;
}
  where
    T : Code → ℕ → ℕ → Type 0
    T = Are (tests k.vars)

    S : Code → ℕ → ℕ → Type 0
    S = Stmts p n (path_behind b.method.body (suc (length k.vars))) (body_in b k) (at_start b k) b.method.body

    L : Code → ℕ → ℕ → Type 0
    L = Are (last_return code.result)

    r : Behind T (Behind S L) code (length c0.instrs) (length c3.instrs)
    r =
        (behind T (Behind S L) c0 c1 c3 (added (tests k.vars) c0 c1 tested)
        (behind S L c1 c2 c3 stmts (added (last_return code.result) c2 c3 over))).there code fits
        (record { by = λ i _ _. ap (λ xs. slice_get xs i) (sym same) })
