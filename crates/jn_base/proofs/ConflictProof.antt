-- The example of a method without a least declaration.
use Rattle.std.proofs.Common.{◌≡◌, List, [], ◌∷◌, refl, sym, subst, Bool, true, ◌⊎◌, inl, inr, Contains, ◌↔◌}
use Rattle.jn_base.specs.declared.tree.Name.{Name}
use Rattle.jn_base.specs.declared.tree.Method.{Method}
use Rattle.jn_base.specs.declared.tree.Member.TheVariants.{outs-Inner, outs-Body}
use Rattle.jn_base.specs.Paths.{Path, Extends}
use Rattle.jn_base.specs.Supers.{Direct, Sup, itself, above, Member, Above, by_heir, by_text}
use Rattle.jn_base.specs.Universe.{InUniverse}
use Rattle.jn_base.specs.Members.{MethodAt, Least}
use Rattle.jn_base.specs.Duplicates.{has_name}
use Rattle.jn_base.specs.SmallExamples.{a, b, c, d, E, n, conflicting, settled}
use Rattle.jn_base.proofs.SuperLaws.{sup_inherited, member_heir, top_direct, direct_cases, direct_above}
use Rattle.jn_base.proofs.ExampleTools.{OneOf, one, sups_kept, top_edge, top_extends, inner_extends, inner_member, top_member, inner_method, method_in, tops, keeps, top_sup, of_each, one_package}
use Rattle.jn_base.proofs.NameTests.{in_cons, in_none, has_in}

d_b : Direct conflicting (d ∷ []) (b ∷ [])
d_b = top_edge conflicting d b refl refl

d_c : Direct conflicting (d ∷ []) (c ∷ [])
d_c = top_edge conflicting d c refl refl

written_d : (D : Name) → Contains (b ∷ c ∷ []) D → (◌≡◌ {A = Path} (D ∷ []) (b ∷ [])) ⊎ (◌≡◌ {A = Path} (D ∷ []) (c ∷ []))
written_d D h = of_two (in_cons b (c ∷ []) D h) where
  of_one : (c ≡ D) ⊎ Contains [] D → (◌≡◌ {A = Path} (D ∷ []) (b ∷ [])) ⊎ (◌≡◌ {A = Path} (D ∷ []) (c ∷ []))
  of_one (inl e) = inr (rw (← e) refl)
  of_one (inr k) = absurd (in_none D k)

  of_two : (b ≡ D) ⊎ Contains (c ∷ []) D → (◌≡◌ {A = Path} (D ∷ []) (b ∷ [])) ⊎ (◌≡◌ {A = Path} (D ∷ []) (c ∷ []))
  of_two (inl e) = inl (rw (← e) refl)
  of_two (inr k) = of_one (in_cons c [] D k)

pub joins_to : (S : Path) → Direct conflicting (d ∷ []) S → (S ≡ b ∷ []) ⊎ (S ≡ c ∷ [])
joins_to S h =
    let r = (top_direct conflicting d S).0 h in
    subst (λ (P : Path). (P ≡ b ∷ []) ⊎ (P ≡ c ∷ [])) (sym r.3)
    (written_d r.0 (has_in (b ∷ c ∷ []) r.0 (top_extends conflicting d (b ∷ c ∷ []) refl r.0 r.1)))

joins_from : (S : Path) → (S ≡ b ∷ []) ⊎ (S ≡ c ∷ []) → Direct conflicting (d ∷ []) S
joins_from S (inl e) = subst (Direct conflicting (d ∷ [])) (sym e) d_b
joins_from S (inr e) = subst (Direct conflicting (d ∷ [])) (sym e) d_c

pub joins : (S : Path) → Direct conflicting (d ∷ []) S ↔ ((S ≡ b ∷ []) ⊎ (S ≡ c ∷ []))
joins S = (joins_to S, joins_from S)

-- ---- inside d

b_e : Member conflicting (b ∷ []) E
b_e = inner_member conflicting b b E itself (simp outs-Inner)

c_e : Member conflicting (c ∷ []) E
c_e = inner_member conflicting c c E itself (simp outs-Inner)

inside_of : (Q S : Path) → (Q ≡ b ∷ []) ⊎ (Q ≡ c ∷ []) → S ≡ E ∷ Q → (S ≡ E ∷ b ∷ []) ⊎ (S ≡ E ∷ c ∷ [])
inside_of Q S (inl h) e = inl (subst (λ (P : Path). S ≡ E ∷ P) h e)
inside_of Q S (inr h) e = inr (subst (λ (P : Path). S ≡ E ∷ P) h e)

inside_to : (S : Path) → Above conflicting (d ∷ []) E S → (S ≡ E ∷ b ∷ []) ⊎ (S ≡ E ∷ c ∷ [])
inside_to S (by_heir Q h m e) = inside_of Q S (joins_to Q h) e
inside_to S (by_text D T s x m e) =
    let t = top_sup conflicting d T s in
    let x' = subst (λ (P : Path). Extends conflicting (E ∷ P) D) t.1 x in
    let h = inner_extends conflicting E [] (λ A. true) (simp outs-Inner) t.0 D refl x' in
    cc h

inside_from : (S : Path) → (S ≡ E ∷ b ∷ []) ⊎ (S ≡ E ∷ c ∷ []) → Direct conflicting (E ∷ d ∷ []) S
inside_from S (inl e) = subst (Direct conflicting (E ∷ d ∷ [])) (sym e) (direct_above (by_heir (b ∷ []) d_b b_e refl))
inside_from S (inr e) = subst (Direct conflicting (E ∷ d ∷ [])) (sym e) (direct_above (by_heir (c ∷ []) d_c c_e refl))

pub joins_inside : (S : Path) → Direct conflicting (E ∷ d ∷ []) S ↔ ((S ≡ E ∷ b ∷ []) ⊎ (S ≡ E ∷ c ∷ []))
joins_inside S = (λ h. inside_to S (direct_cases h), inside_from S)

pub class : InUniverse conflicting (E ∷ d ∷ [])
class = ((tt, top_member conflicting d refl), member_heir (above d_b itself) b_e)

-- ---- no least method

all_four : List Name
all_four = d ∷ b ∷ c ∷ a ∷ []

not_d : Name → Name → Bool
not_d C A = has_name (b ∷ c ∷ a ∷ []) A

n_in : (C A : Name) (m : Method) → MethodAt conflicting (C ∷ A ∷ []) n m → not_d C A ≡ true
unfolding not_d
n_in C A m x = method_in conflicting n not_d (simp (outs-Inner, outs-Body)) C A m x

-- the supers of each E are among the packages that the list names
supers_in : (As : List Name) → tops (keeps As) conflicting ≡ true → (C A : Name) → has_name (E ∷ []) C ≡ true → has_name As A ≡ true
    → (S : Path) → Sup conflicting (C ∷ A ∷ []) S → OneOf (E ∷ []) As S
supers_in As t C A c a S s = sups_kept conflicting (E ∷ []) As t (simp outs-Inner) C A c a S s

none_above : (C A : Name) → has_name (E ∷ []) C ≡ true → has_name (b ∷ c ∷ a ∷ []) A ≡ true
    → Sup conflicting (C ∷ A ∷ []) (E ∷ b ∷ []) → Sup conflicting (C ∷ A ∷ []) (E ∷ c ∷ []) → ⊥
none_above C A h k s t = of_each (b ∷ c ∷ a ∷ []) (λ B. Sup conflicting (C ∷ B ∷ []) (E ∷ b ∷ []) → Sup conflicting (C ∷ B ∷ []) (E ∷ c ∷ []) → ⊥)
    (at_b, (at_c, (at_a, tt))) A (has_in (b ∷ c ∷ a ∷ []) A k) s t where
      at_b : Sup conflicting (C ∷ b ∷ []) (E ∷ b ∷ []) → Sup conflicting (C ∷ b ∷ []) (E ∷ c ∷ []) → ⊥
      at_b s t = let e = one_package (supers_in (b ∷ a ∷ []) refl C b h refl (E ∷ c ∷ []) t) in cc e

      at_c : Sup conflicting (C ∷ c ∷ []) (E ∷ b ∷ []) → Sup conflicting (C ∷ c ∷ []) (E ∷ c ∷ []) → ⊥
      at_c s t = let e = one_package (supers_in (c ∷ a ∷ []) refl C c h refl (E ∷ b ∷ []) s) in cc e

      at_a : Sup conflicting (C ∷ a ∷ []) (E ∷ b ∷ []) → Sup conflicting (C ∷ a ∷ []) (E ∷ c ∷ []) → ⊥
      at_a s t = let e = one_package (supers_in (a ∷ []) refl C a h refl (E ∷ b ∷ []) s) in cc e

least_none : (Q : Path) → OneOf (E ∷ []) all_four Q → (m : Method) → MethodAt conflicting Q n m
    → Sup conflicting Q (E ∷ b ∷ []) → Sup conflicting Q (E ∷ c ∷ []) → ⊥
unfolding not_d
least_none Q (one C A h k) m x s t = none_above C A h (n_in C A m x) s t

pub conflict : (Q : Path) → Least conflicting (E ∷ d ∷ []) n Q → ⊥
unfolding all_four
conflict Q l =
    let q = supers_in (d ∷ b ∷ c ∷ a ∷ []) refl E d refl refl Q l.among.super in
    let u = inner_method conflicting b E n (simp (outs-Inner, outs-Body)) in
    let v = inner_method conflicting c E n (simp (outs-Inner, outs-Body)) in
    let above_b = sup_inherited (above d_b itself) b_e in
    let above_c = sup_inherited (above d_c itself) c_e in
    least_none Q q l.among.method l.among.at
    (l.below (E ∷ b ∷ []) (record { super = above_b; method = u.0; at = u.1 }))
    (l.below (E ∷ c ∷ []) (record { super = above_c; method = v.0; at = v.1 }))

-- what is above d.E is below d.E's own method
pub settled_by_heir : Least settled (E ∷ d ∷ []) n (E ∷ d ∷ [])
settled_by_heir =
    let x = inner_method settled d E n (simp (outs-Inner, outs-Body)) in
    record {
      among = record { super = itself; method = x.0; at = x.1 };
      below = λ S h. h.super;
    }
