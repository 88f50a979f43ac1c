-- The laws of supers: Levels, Heirs, and what the rules say by members.
use Rattle.std.proofs.Common.{◌≡◌, ℕ, List, [], ◌∷◌, ◌++◌, length, refl, sym, ap, ◌∙◌, zero, suc, drop, take, arith, subst, ◌↔◌, ◌≤◌, length-append}
use Rattle.std.proofs.lemmas.List.{take-append-drop}
use Rattle.jn_base.specs.declared.tree.Name.{Name}
use Rattle.jn_base.specs.declared.tree.Program.{Program}
use Rattle.jn_base.specs.Paths.{Path, Declared, Extends}
use Rattle.jn_base.specs.Supers.{Direct, inherited, written, Sup, itself, above, Member, Above, by_heir, by_text}
use Rattle.jn_base.specs.Universe.{IsNamespace}

mutual
  pub direct_level : {p : Program} {R S : Path} → Direct p R S → length S ≡ length R
  direct_level (inherited d s x) = ap suc (direct_level d)
  direct_level (written s e t x) = refl

  pub sup_level : {p : Program} {R S : Path} → Sup p R S → length S ≡ length R
  sup_level itself = refl
  sup_level (above d s) = sup_level s ∙ direct_level d

pub sup_joined : {p : Program} {R S T : Path} → Sup p R S → Sup p S T → Sup p R T
sup_joined itself q = q
sup_joined (above d s) q = above d (sup_joined s q)

-- the enclosing namespace of a super is a super of the heir's
pub direct_up : {p : Program} {R S : Path} → Direct p R S → Sup p (drop 1 R) (drop 1 S)
direct_up (inherited d s x) = above d itself
direct_up (written s e t x) = itself

pub sup_up : {p : Program} {R S : Path} → Sup p R S → Sup p (drop 1 R) (drop 1 S)
sup_up itself = itself
sup_up (above d s) = sup_joined (direct_up d) (sup_up s)

drop_more : (k : ℕ) (R : Path) → drop (suc k) R ≡ drop k (drop 1 R)
drop_more zero R = refl
drop_more (suc k) [] = refl
drop_more (suc k) (C ∷ P) = refl

-- Levels: the prefix of a super without its last k names is a super of the heir's
pub sup_prefix : {p : Program} (k : ℕ) {R S : Path} → Sup p R S → Sup p (drop k R) (drop k S)
sup_prefix zero s = s
sup_prefix {p} (suc k) {R} {S} s = rw (drop_more k R, drop_more k S) (sup_prefix k (sup_up s))

-- a member of a super is a member
pub member_heir : {p : Program} {R S : Path} {C : Name} → Sup p R S → Member p S C → Member p R C
member_heir s m = record { at = m.at; super = sup_joined s m.super; declared = m.declared }

-- where C is a member of Q, Q.C is a super of P.C for each heir P of Q
pub sup_inherited : {p : Program} {P Q : Path} {C : Name} → Sup p P Q → Member p Q C → Sup p (C ∷ P) (C ∷ Q)
sup_inherited itself m = itself
sup_inherited (above d s) m =
    let n = member_heir s m in
    above (inherited d n.super n.declared) (sup_inherited s m)

-- a super of a member is a member of its own namespace
pub sup_member : {p : Program} {P Q : Path} {C D : Name} → Member p P C → Sup p (C ∷ P) (D ∷ Q) → Member p Q D
sup_member m itself = m
sup_member m (above (inherited d s x) q) = sup_member (record { at = _; super = s; declared = x }) q
sup_member m (above (written s e t x) q) = sup_member (record { at = _; super = t; declared = x }) q

-- Heirs, for one name: what P.C has above it in the namespace B of a super, it has in P's own
pub heir_by_one : {p : Program} {E B Q : Path} {C D : Name} → Sup p E B → Sup p (C ∷ B) (D ∷ Q) → Sup p (C ∷ E) (D ∷ E)
heir_by_one b itself = itself
heir_by_one b (above (inherited d s x) q) = heir_by_one (sup_joined b (above d itself)) q
heir_by_one b (above (written s e t x) q) = above (written (sup_joined b s) e (sup_joined b t) x) (heir_by_one b q)

-- the supers of a namespace are namespaces
pub direct_namespace : {p : Program} {R S : Path} → Direct p R S → IsNamespace p R → IsNamespace p S
direct_namespace (inherited d s x) r = (direct_namespace d r.0, record { at = _; super = s; declared = x })
direct_namespace (written s e t x) r = (r.0, record { at = _; super = t; declared = x })

pub sup_namespace : {p : Program} {R S : Path} → Sup p R S → IsNamespace p R → IsNamespace p S
sup_namespace itself r = r
sup_namespace (above d s) r = sup_namespace s (direct_namespace d r)

-- Heirs, second part: where B is a super of E and B + t is in the universe, it is a super of E + t
pub heirs_base : {p : Program} {E B : Path} (t : List Name) → Sup p E B → IsNamespace p (t ++ B) → Sup p (t ++ E) (t ++ B)
heirs_base [] b n = b
heirs_base (C ∷ u) b n = sup_inherited (heirs_base u b n.0) n.1

heirs_base_at : {p : Program} {E R : Path} (m : ℕ) → Sup p E (drop m R) → IsNamespace p R → Sup p (take m R ++ E) R
heirs_base_at {p} {E} {R} m b n =
    subst (Sup p (take m R ++ E)) (take-append-drop m R)
    (heirs_base (take m R) b (subst (IsNamespace p) (sym (take-append-drop m R)) n))

heirs_in : {p : Program} {E : Path} (m : ℕ)
    → ((R S : Path) → Sup p R S → Sup p E (drop m R) → IsNamespace p R → m ≤ length R → Sup p (take m R ++ E) (take m S ++ E))
    → {R S : Path} → Sup p R S → Sup p E (drop (suc m) R) → IsNamespace p R → suc m ≤ length R
    → Sup p (take (suc m) R ++ E) (take (suc m) S ++ E)
heirs_in m ih itself b r l = itself
heirs_in {p} {E} m ih (above (inherited {P = P} {Q = Q} {C = C} d s x) q) b r l =
    let up = ih P Q (above d itself) b r.0 (omega (arith, l)) in
    let b' = sup_joined b (sup_prefix m (above d itself)) in
    let n' = direct_namespace (inherited d s x) r in
    let c = member_heir (heirs_base_at m b' n'.0) n'.1 in
    sup_joined (sup_inherited up c) (heirs_in m ih q b' n' (omega (arith, l, direct_level d)))
heirs_in {p} {E} m ih (above (written {P = P} s e t x) q) b r l =
    let base = heirs_base_at m b r.0 in
    above (written (sup_joined base s) e (sup_joined base t) x) (heirs_in m ih q b (r.0, record { at = _; super = t; declared = x }) l)

heirs_at : {p : Program} {E : Path} (n : ℕ) (R S : Path) → Sup p R S → Sup p E (drop n R) → IsNamespace p R → n ≤ length R
    → Sup p (take n R ++ E) (take n S ++ E)
heirs_at zero R S s b r l = itself
heirs_at (suc m) R S s b r l = heirs_in m (heirs_at m) s b r l

front_of : (t : List Name) (B : Path) → take (length t) (t ++ B) ≡ t
front_of [] B = refl
front_of (C ∷ t) B = ap (λ u. C ∷ u) (front_of t B)

back_of : (t : List Name) (B : Path) → drop (length t) (t ++ B) ≡ B
back_of [] B = refl
back_of (C ∷ t) B = back_of t B

-- Heirs, first part: what B + t has above it in the namespace B of a super, E + t has in its own
pub heirs_above : {p : Program} {E B : Path} (t t' : List Name) → length t' ≡ length t → Sup p E B → IsNamespace p (t ++ B)
    → Sup p (t ++ B) (t' ++ B) → Sup p (t ++ E) (t' ++ E)
heirs_above {p} {E} {B} t t' e b n s =
    subst (λ (x : Path). Sup p (x ++ E) (t' ++ E)) (front_of t B)
    (subst (λ (x : Path). Sup p (take (length t) (t ++ B) ++ E) (x ++ E)) ends
    (heirs_at (length t) (t ++ B) (t' ++ B) s (subst (Sup p E) (sym (back_of t B)) b) n (omega (arith, length-append t B)))) where
      ends : take (length t) (t' ++ B) ≡ t'
      ends = subst (λ k. take k (t' ++ B) ≡ t') e (front_of t' B)

pub sup_root : {p : Program} {S : Path} → Sup p [] S → S ≡ []
sup_root itself = refl
sup_root (above d s) = elim d [ ]

top_written : {p : Program} {A : Name} {S : Path} → Direct p (A ∷ []) S
    → (D : Name) × Extends p (A ∷ []) D × Declared p (D ∷ []) × (S ≡ D ∷ [])
top_written (inherited d s x) = elim d [ ]
top_written {p} {A} (written {D = D} s e t x) =
    (D, subst (λ (Q : Path). Extends p (A ∷ Q) D) (sup_root s) e, subst (λ (Q : Path). Declared p (D ∷ Q)) (sup_root t) x, refl)

-- the direct supers of a top-level name are its written ones that are declared
pub top_direct : (p : Program) (A : Name) (S : Path)
    → Direct p (A ∷ []) S ↔ ((D : Name) × Extends p (A ∷ []) D × Declared p (D ∷ []) × (S ≡ D ∷ []))
top_direct p A S = (λ d. top_written d, λ r. subst (Direct p (A ∷ [])) (sym r.3) (written itself r.1 itself r.2))

-- the direct supers of P.C, said by members
pub direct_cases : {p : Program} {P S : Path} {C : Name} → Direct p (C ∷ P) S → Above p P C S
direct_cases (inherited {Q = Q} d s x) = by_heir Q d (record { at = _; super = s; declared = x }) refl
direct_cases (written {S = T} {D = D} s e t x) = by_text D T s e (record { at = _; super = t; declared = x }) refl

pub direct_above : {p : Program} {P S : Path} {C : Name} → Above p P C S → Direct p (C ∷ P) S
direct_above {p} {P} {C = C} (by_heir Q d m e) = subst (Direct p (C ∷ P)) (sym e) (inherited d m.super m.declared)
direct_above {p} {P} {C = C} (by_text D T s x m e) = subst (Direct p (C ∷ P)) (sym e) (written s x m.super m.declared)
