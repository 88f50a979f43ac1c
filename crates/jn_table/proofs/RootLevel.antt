-- The level of the program itself.
use Rattle.std.proofs.Common.{◌≡◌, ℕ, List, [], ◌∷◌, length, slice_get, Some, arith, sym, subst, refl, Contains, zero, suc, All, ◌<◌, ap, ◌∙◌}
use Rattle.std.specs.List.Sorted.{IsStrictlyIncreasing}
use Rattle.std.specs.declared.vec.Vec.{Vec}
use Rattle.std.specs.declared.alloc.Global.{Global}
use Rattle.std.proofs.lemmas.List.Elements.{All-nil, All-cons}
use Rattle.jn_reach.specs.Graph.{HasEdge, Graph}
use Rattle.jn_reach.specs.Numbers.{Numbers}
use Rattle.jn_base.specs.declared.tree.Program.{Program}
use Rattle.jn_base.specs.Paths.{Path}
use Rattle.jn_base.specs.Supers.{Direct, Sup, itself, above}
use Rattle.jn_base.specs.Universe.{IsNamespace}
use Rattle.jn_table.specs.Level.{IsShaped}
use Rattle.jn_table.specs.Exact.{IsLevel}
use Rattle.jn_table.specs.declared.level.Level.{Level}

Contains-none : (b : ℕ) → Contains [] b → ⊥
Contains-none b c = omega (arith, c.1)

Contains-one : (a b : ℕ) → Contains (a ∷ []) b → b ≡ a
Contains-one a b (zero, l, e) = sym e
Contains-one a b (suc k, l, e) = absurd (omega (arith, l))

sup_root : {p : Program} {S : Path} → Sup p [] S → S ≡ []
sup_root itself = refl
sup_root (above d s) = elim d [ ]

only_zero : {X : Type 0} (x y : X) (i : ℕ) → slice_get (x ∷ []) i ≡ Some y → (i ≡ 0) × (y ≡ x)
only_zero x y zero e = (refl, cc)
only_zero x y (suc i) e = absurd (cc)

no_direct : {p : Program} {S : Path} → Direct p [] S → ⊥
no_direct d = elim d [ ]

module _ (p : Program) (d s : Vec ℕ Global) (none : d.items ≡ []) (own : s.items ≡ 0 ∷ []) where
  root_paths : List Path
  root_paths = [] ∷ []

  root_direct : Numbers (Direct p) ([] ∷ []) (HasEdge (d ∷ []))
  root_direct = record {
    sound = λ i j x at e.
        let r = (only_zero d e.row i e.at).1 in
        let c : Contains d.items j = subst (λ (v : Vec ℕ Global). Contains v.items j) r e.in_row in
        absurd (Contains-none j (subst (λ (l : List ℕ). Contains l j) none c));
    complete = λ i x y at up. absurd (no_direct (subst (λ (R : Path). Direct p R y) (only_zero [] x i at).1 up));
  }

  root_sups : Numbers (Sup p) ([] ∷ []) (HasEdge (s ∷ []))
  root_sups = record {
    sound = λ i j x at e.
        let r = (only_zero s e.row i e.at).1 in
        let c : Contains s.items j = subst (λ (v : Vec ℕ Global). Contains v.items j) r e.in_row in
        let z : j ≡ 0 = Contains-one 0 j (subst (λ (l : List ℕ). Contains l j) own c) in
        let here : slice_get ([] ∷ []) j ≡ Some [] = subst
        (λ k. ◌≡◌ {A = _} (slice_get {X = Path} ([] ∷ []) k) (Some [])) (sym z) refl in
        ([], here, subst (λ (R : Path). Sup p R []) (sym (only_zero [] x i at).1) itself);
    complete = λ i x y at up.
        let root = only_zero [] x i at in
        let end = sup_root (subst (λ (R : Path). Sup p R y) root.1 up) in
        let has : Contains s.items 0 = subst (λ (l : List ℕ). Contains l 0) (sym own) (0, omega arith, refl) in (
          0,
          subst (λ (R : Path). ◌≡◌ {A = _} (slice_get {X = Path} ([] ∷ []) 0) (Some R)) (sym end) refl,
          subst (λ k. HasEdge (s ∷ []) k 0) (sym root.0) (record { row = s; at = refl; in_row = has }),
        );
  }

pub empty_length : {P : Path} → length P ≡ 0 → P ≡ []
empty_length {P} e = go P e where
  go : (Q : Path) → length Q ≡ 0 → Q ≡ []
  go [] z = refl
  go (C ∷ Q) z = absurd (omega (arith, z))

pub root_level : (p : Program) (level : Level) (d s : Vec ℕ Global) → d.items ≡ [] → s.items ≡ 0 ∷ []
    → level.paths.items ≡ [] ∷ [] → level.direct.items ≡ d ∷ [] → level.sups.items ≡ s ∷ [] → IsLevel p 0 level
root_level p level d s none own ep ed es = record {
  paths_sound = λ i P at.
      let e = (only_zero [] P i (subst (λ (l : List Path). slice_get l i ≡ Some P) ep at)).1 in
      subst (λ (Q : Path). IsNamespace p Q × (length Q ≡ 0)) (sym e) (tt, refl);
  paths_complete = λ P n e. (
    0,
    subst (λ (l : List Path). slice_get l 0 ≡ Some P) (sym ep)
        (subst (λ (Q : Path). ◌≡◌ {A = _} (slice_get {X = Path} ([] ∷ []) 0) (Some Q)) (sym (empty_length e)) refl),
  );
  distinct = λ i j x a b.
      let u = (only_zero [] x i (subst (λ (l : List Path). slice_get l i ≡ Some x) ep a)).0 in
      let v = (only_zero [] x j (subst (λ (l : List Path). slice_get l j ≡ Some x) ep b)).0 in
      omega (arith, u, v);
  direct = subst (λ (l : List Path). Numbers (Direct p) l (HasEdge level.direct.items)) (sym ep)
      (subst (λ (g : Graph). Numbers (Direct p) ([] ∷ []) (HasEdge g)) (sym ed) (root_direct p d s none own));
  sups = subst (λ (l : List Path). Numbers (Sup p) l (HasEdge level.sups.items)) (sym ep)
      (subst (λ (g : Graph). Numbers (Sup p) ([] ∷ []) (HasEdge g)) (sym es) (root_sups p d s none own));
}

pub root_shaped : (level : Level) (d s : Vec ℕ Global) → d.items ≡ [] → s.items ≡ 0 ∷ []
    → level.paths.items ≡ [] ∷ [] → level.direct.items ≡ d ∷ [] → level.sups.items ≡ s ∷ [] → IsShaped level
root_shaped level d s none own ep ed es = record {
  direct = ap length ed ∙ sym (ap length ep);
  sups = ap length es ∙ sym (ap length ep);
  direct_in = rw ed (All-cons (λ (row : Vec ℕ Global). All (λ (j : ℕ). j < length level.paths.items) row.items) d []
      (rw none (All-nil _)) (All-nil _));
  ascending = rw ed (All-cons (λ (row : Vec ℕ Global). IsStrictlyIncreasing row.items) d []
      (rw none (λ k l. absurd (omega (arith, l)))) (All-nil _));
  sups_in = rw es (All-cons (λ (row : Vec ℕ Global). All (λ (j : ℕ). j < length level.paths.items) row.items) s []
      (rw own (All-cons (λ (j : ℕ). j < length level.paths.items) 0 [] (let l = ap length ep in omega (arith, l))
      (All-nil _))) (All-nil _));
}
