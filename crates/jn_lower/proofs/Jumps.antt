-- Jumps that are patched once what they pass is emitted.
use Rattle.std.proofs.Common.{◌≡◌, ◌≢◌, ℕ, ◌+◌, ◌<◌, length, Some, sym, ap, ◌∙◌, subst, arith, length-set}
use Rattle.std.specs.Prelude.{slice_get}
use Rattle.jn_code.specs.declared.instr.Instr.TheVariants as ins
use Rattle.jn_lower.specs.PlacedLaws.{BranchesStand, TurnsStand}
use Rattle.jn_lower.proofs.Seams.{last_at, set_other, set_here, grown, pushed}

pub branches : BranchesStand
branches jump One Other x y c0 c1 c2 c3 c4 c5 new e1 one e3 other e5 e6 = record {
  longer = omega (arith, n1, one.longer, n3, other.longer, n6);
  kept = record { by = λ k _ lt. from0 k lt ∙ set k (omega arith) (omega (arith, n1, one.longer)) };
  there = λ c same. (
    length c2,
    sym (same.by (length c0) (omega arith) (omega (arith, n1, one.longer, n3, other.longer, n6))) ∙ at_test,
    subst (λ s. One c s (length c2)) n1 (one.there c (record {
      by = λ k ge lt. from2 k lt
          ∙ set k (omega (arith, n1)) (omega arith)
          ∙ same.by k (omega (arith, n1)) (omega (arith, n3, other.longer, n6));
    })),
    sym (same.by (length c2) (omega (arith, n1, one.longer)) (omega (arith, n3, other.longer, n6))) ∙ at_jump,
    subst (λ s. Other c s (length new)) n3 (subst (λ t. Other c (length c3) t) (sym n6) (other.there c (record {
      by = λ k ge lt.
          set k (omega (arith, n1, one.longer, n3)) (omega (arith, n3))
          ∙ same.by k (omega (arith, n1, one.longer, n3)) (omega (arith, n6));
    }))),
  );
}
  where
    n1 : length c1 ≡ length c0 + 1
    n1 = grown c0 c1 x e1

    n3 : length c3 ≡ length c2 + 1
    n3 = grown c2 c3 y e3

    n5 : length c5 ≡ length c4
    n5 = ap length e5 ∙ length-set c4 (length c0) (jump (length c3))

    n6 : length new ≡ length c4
    n6 = ap length e6 ∙ length-set c5 (length c2) (ins.Jump (length c4)) ∙ n5

    from2 : (k : ℕ) → k < length c2 → slice_get c2 k ≡ slice_get c4 k
    from2 k lt = (pushed c2 c3 y e3).kept.by k (omega arith) lt ∙ other.kept.by k (omega arith) (omega (arith, n3))

    from0 : (k : ℕ) → k < length c0 → slice_get c0 k ≡ slice_get c4 k
    from0 k lt =
        (pushed c0 c1 x e1).kept.by k (omega arith) lt ∙ one.kept.by k (omega arith) (omega (arith, n1))
        ∙ from2 k (omega (arith, n1, one.longer))

    set : (k : ℕ) → k ≢ length c0 → k ≢ length c2 → slice_get c4 k ≡ slice_get new k
    set k ne0 ne2 =
        set_other c4 (length c0) k (jump (length c3)) ne0 ∙ ap (λ c. slice_get c k) (sym e5)
        ∙ set_other c5 (length c2) k (ins.Jump (length c4)) ne2 ∙ ap (λ c. slice_get c k) (sym e6)

    at_test : slice_get new (length c0) ≡ Some (jump (length c2 + 1))
    at_test =
        let ne : length c0 ≢ length c2 = omega (arith, n1, one.longer) in
        let lt : length c0 < length c4 = omega (arith, n1, one.longer, n3, other.longer) in
        ap (λ c. slice_get c (length c0)) e6
        ∙ sym (set_other c5 (length c2) (length c0) (ins.Jump (length c4)) ne)
        ∙ ap (λ c. slice_get c (length c0)) e5 ∙ set_here c4 (length c0) (jump (length c3)) lt
        ∙ ap (λ k. Some (jump k)) n3

    at_jump : slice_get new (length c2) ≡ Some (ins.Jump (length new))
    at_jump =
        let lt : length c2 < length c5 = omega (arith, n3, other.longer, n5) in
        ap (λ c. slice_get c (length c2)) e6 ∙ set_here c5 (length c2) (ins.Jump (length c4)) lt
        ∙ ap (λ k. Some (ins.Jump k)) (sym n6)

pub turns : TurnsStand
turns Asks Body x c0 c1 c2 c3 c4 new asks e2 body e4 e5 = record {
  longer = omega (arith, asks.longer, n2, body.longer, n4, n5);
  kept = record {
    by = λ k _ lt. asks.kept.by k (omega arith) lt ∙ from1 k (omega (arith, asks.longer))
        ∙ set k (omega (arith, asks.longer));
  };
  there = λ c same. (
    length c1,
    length c3,
    asks.there c (record {
      by = λ k ge lt. from1 k lt ∙ set k (omega arith)
          ∙ same.by k ge (omega (arith, n2, body.longer, n4, n5));
    }),
    sym (same.by (length c1) (omega (arith, asks.longer)) (omega (arith, n2, body.longer, n4, n5))) ∙ at_test,
    subst (λ s. Body c s (length c3)) n2 (body.there c (record {
      by = λ k ge lt. from3 k lt ∙ set k (omega (arith, n2))
          ∙ same.by k (omega (arith, asks.longer, n2)) (omega (arith, n4, n5));
    })),
    sym (same.by (length c3) (omega (arith, asks.longer, n2, body.longer)) (omega (arith, n4, n5))) ∙ at_jump,
    n5 ∙ n4,
  );
}
  where
    n2 : length c2 ≡ length c1 + 1
    n2 = grown c1 c2 x e2

    n4 : length c4 ≡ length c3 + 1
    n4 = grown c3 c4 (ins.Jump (length c0)) e4

    n5 : length new ≡ length c4
    n5 = ap length e5 ∙ length-set c4 (length c1) (ins.Jfalse (length c4))

    from3 : (k : ℕ) → k < length c3 → slice_get c3 k ≡ slice_get c4 k
    from3 k lt = (pushed c3 c4 (ins.Jump (length c0)) e4).kept.by k (omega arith) lt

    from1 : (k : ℕ) → k < length c1 → slice_get c1 k ≡ slice_get c4 k
    from1 k lt =
        (pushed c1 c2 x e2).kept.by k (omega arith) lt ∙ body.kept.by k (omega arith) (omega (arith, n2))
        ∙ from3 k (omega (arith, n2, body.longer))

    set : (k : ℕ) → k ≢ length c1 → slice_get c4 k ≡ slice_get new k
    set k ne = set_other c4 (length c1) k (ins.Jfalse (length c4)) ne ∙ ap (λ c. slice_get c k) (sym e5)

    at_test : slice_get new (length c1) ≡ Some (ins.Jfalse (length c3 + 1))
    at_test =
        let lt : length c1 < length c4 = omega (arith, n2, body.longer, n4) in
        ap (λ c. slice_get c (length c1)) e5 ∙ set_here c4 (length c1) (ins.Jfalse (length c4)) lt
        ∙ ap (λ k. Some (ins.Jfalse k)) n4

    at_jump : slice_get new (length c3) ≡ Some (ins.Jump (length c0))
    at_jump =
        let ne : length c3 ≢ length c1 = omega (arith, n2, body.longer) in
        sym (set (length c3) ne) ∙ ap (λ c. slice_get c (length c3)) e4 ∙ last_at c3 (ins.Jump (length c0))
