-- The example of the families.
use Rattle.std.proofs.Common.{◌≡◌, List, [], ◌∷◌, refl, sym, subst, Bool, true, ◌⊎◌, inl, inr, Contains, ◌↔◌, ◌&&◌, ◌||◌, arith}
use Rattle.jn_base.specs.declared.tree.Name.{Name}
use Rattle.jn_base.specs.declared.tree.Member.TheVariants.{outs-Inner, outs-Slot, outs-Body}
use Rattle.jn_base.specs.Paths.{Path}
use Rattle.jn_base.specs.Supers.{Sup, itself, Member}
use Rattle.jn_base.specs.Members.{MethodAt, FieldAt, Least, IsField}
use Rattle.jn_base.specs.Universe.{InUniverse}
use Rattle.jn_base.specs.Duplicates.{has_name}
use Rattle.jn_base.specs.declared.tree.Method.{Method}
use Rattle.jn_base.specs.declared.tree.Field.{Field}
use Rattle.jn_base.specs.FamiliesExample.{families, all_four, Lit, Exp, Add, base, both, shower, doubler, eval, show, v, IsClassOf}
use Rattle.jn_base.proofs.SuperLaws.{sup_joined, sup_inherited, member_heir}
use Rattle.jn_base.proofs.ExampleTools.{tops, inners, keeps, OneOf, one, sups_kept, top_above, inner_member, inner_above, EachOf, of_each, same, method_in, field_in, inner_method, inner_field, least_from, field_from, top_member}
use Rattle.jn_base.proofs.NameTests.{has_in, in_cons, in_none}

tops_ok : tops (keeps all_four) families ≡ true
tops_ok = refl

lits_ok : inners (λ A. keeps (Lit ∷ Exp ∷ [])) families ≡ true
lits_ok = simp (outs-Inner, outs-Slot, outs-Body)

adds_ok : inners (λ A. keeps (Add ∷ Exp ∷ [])) families ≡ true
adds_ok = simp (outs-Inner, outs-Slot, outs-Body)

-- the four families
both_shower : Sup families (both ∷ []) (shower ∷ [])
both_shower = top_above families both shower refl refl

both_doubler : Sup families (both ∷ []) (doubler ∷ [])
both_doubler = top_above families both doubler refl refl

shower_base : Sup families (shower ∷ []) (base ∷ [])
shower_base = top_above families shower base refl refl

doubler_base : Sup families (doubler ∷ []) (base ∷ [])
doubler_base = top_above families doubler base refl refl

base_has : (C : Name) → Contains (Lit ∷ Add ∷ Exp ∷ []) C → Member families (base ∷ []) C
base_has C c = of_three (in_cons Lit (Add ∷ Exp ∷ []) C c) where
  of_one : (Exp ≡ C) ⊎ Contains [] C → Member families (base ∷ []) C
  of_one (inl e) = subst (Member families (base ∷ [])) e (inner_member families base base Exp itself (simp (outs-Inner, outs-Slot, outs-Body)))
  of_one (inr h) = absurd (in_none C h)

  of_two : (Add ≡ C) ⊎ Contains (Exp ∷ []) C → Member families (base ∷ []) C
  of_two (inl e) = subst (Member families (base ∷ [])) e (inner_member families base base Add itself (simp (outs-Inner, outs-Slot, outs-Body)))
  of_two (inr h) = of_one (in_cons Exp [] C h)

  of_three : (Lit ≡ C) ⊎ Contains (Add ∷ Exp ∷ []) C → Member families (base ∷ []) C
  of_three (inl e) = subst (Member families (base ∷ [])) e (inner_member families base base Lit itself (simp (outs-Inner, outs-Slot, outs-Body)))
  of_three (inr h) = of_two (in_cons Add (Exp ∷ []) C h)

packages : EachOf all_four (λ A. Sup families (both ∷ []) (A ∷ []) × Sup families (A ∷ []) (base ∷ []))
packages = (
  (itself, sup_joined both_shower shower_base),
  (
    (both_shower, shower_base),
    (
      (both_doubler, doubler_base),
      (
        (sup_joined both_shower shower_base, itself),
        tt,
      ),
    ),
  ),
)

-- the class C of both has the class C of each of the four above it
in_each : (C A : Name) → Contains (Lit ∷ Add ∷ Exp ∷ []) C → Contains all_four A → Sup families (C ∷ both ∷ []) (C ∷ A ∷ [])
in_each C A c a =
    let s = of_each all_four (λ B. Sup families (both ∷ []) (B ∷ []) × Sup families (B ∷ []) (base ∷ [])) packages A a in
    sup_inherited s.0 (member_heir s.1 (base_has C c))

both_base : Sup families (both ∷ []) (base ∷ [])
both_base = sup_joined both_shower shower_base

both_exp : Member families (both ∷ []) Exp
both_exp = member_heir both_base (base_has Exp (2, omega arith, refl))

lit_names : EachOf (Lit ∷ Exp ∷ []) (λ C. Contains (Lit ∷ Add ∷ Exp ∷ []) C × Sup families (Lit ∷ both ∷ []) (C ∷ both ∷ []))
lit_names = (
  ((0, omega arith, refl), itself),
  (
    ((2, omega arith, refl), inner_above families both base Lit Exp both_base (simp outs-Inner) both_exp),
    tt,
  ),
)

add_names : EachOf (Add ∷ Exp ∷ []) (λ C. Contains (Lit ∷ Add ∷ Exp ∷ []) C × Sup families (Add ∷ both ∷ []) (C ∷ both ∷ []))
add_names = (
  ((1, omega arith, refl), itself),
  (
    ((2, omega arith, refl), inner_above families both base Add Exp both_base (simp outs-Inner) both_exp),
    tt,
  ),
)

class_of : (Cs As : List Name) (S : Path) → OneOf Cs As S → IsClassOf Cs As S
class_of Cs As S (one C A c a) = record { C = C; A = A; is = refl; class = has_in Cs C c; package_in = has_in As A a }

lit_one : (S : Path) → Sup families (Lit ∷ both ∷ []) S → OneOf (Lit ∷ Exp ∷ []) all_four S
lit_one S s = sups_kept families (Lit ∷ Exp ∷ []) all_four tops_ok lits_ok Lit both refl refl S s

add_one : (S : Path) → Sup families (Add ∷ both ∷ []) S → OneOf (Add ∷ Exp ∷ []) all_four S
add_one S s = sups_kept families (Add ∷ Exp ∷ []) all_four tops_ok adds_ok Add both refl refl S s

above_from : (N : Name) (Cs : List Name)
    → EachOf Cs (λ C. Contains (Lit ∷ Add ∷ Exp ∷ []) C × Sup families (N ∷ both ∷ []) (C ∷ both ∷ []))
    → (S : Path) → IsClassOf Cs all_four S → Sup families (N ∷ both ∷ []) S
above_from N Cs all S k =
    let n = of_each Cs (λ C. Contains (Lit ∷ Add ∷ Exp ∷ []) C × Sup families (N ∷ both ∷ []) (C ∷ both ∷ [])) all k.C k.class in
    subst (Sup families (N ∷ both ∷ [])) (sym k.is) (sup_joined n.1 (in_each k.C k.A n.0 k.package_in))

pub lit_supers : (S : Path) → Sup families (Lit ∷ both ∷ []) S ↔ IsClassOf (Lit ∷ Exp ∷ []) all_four S
lit_supers S = (λ s. class_of (Lit ∷ Exp ∷ []) all_four S (lit_one S s), λ k. above_from Lit (Lit ∷ Exp ∷ []) lit_names S k)

pub add_supers : (S : Path) → Sup families (Add ∷ both ∷ []) S ↔ IsClassOf (Add ∷ Exp ∷ []) all_four S
add_supers S = (λ s. class_of (Add ∷ Exp ∷ []) all_four S (add_one S s), λ k. above_from Add (Add ∷ Exp ∷ []) add_names S k)

-- ---- where eval, show, v and the constructor stand

evals : Name → Name → Bool
evals C A = (same A base && has_name (Exp ∷ Lit ∷ Add ∷ []) C) || (same A doubler && same C Lit)

eval_in : (C A : Name) (m : Method) → MethodAt families (C ∷ A ∷ []) eval m → evals C A ≡ true
unfolding evals
eval_in C A m x = method_in families eval evals (simp (outs-Inner, outs-Slot, outs-Body)) C A m x

base_exp : Member families (base ∷ []) Exp
base_exp = base_has Exp (2, omega arith, refl)

doubler_lit : Sup families (Lit ∷ doubler ∷ []) (Lit ∷ base ∷ [])
doubler_lit = sup_inherited doubler_base (base_has Lit (0, omega arith, refl))

lit_exp : (A : Name) → Sup families (A ∷ []) (base ∷ []) → Sup families (Lit ∷ A ∷ []) (Exp ∷ A ∷ [])
lit_exp A s = inner_above families A base Lit Exp s (simp outs-Inner) (member_heir s base_exp)

doubler_exp : Sup families (Lit ∷ doubler ∷ []) (Exp ∷ base ∷ [])
doubler_exp = sup_joined (lit_exp doubler doubler_base) (sup_inherited doubler_base base_exp)

lit_doubler : Sup families (Lit ∷ both ∷ []) (Lit ∷ doubler ∷ [])
lit_doubler = in_each Lit doubler (0, omega arith, refl) (2, omega arith, refl)

pub lit_eval : Least families (Lit ∷ both ∷ []) eval (Lit ∷ doubler ∷ [])
unfolding evals
lit_eval =
    let x = inner_method families doubler Lit eval (simp (outs-Inner, outs-Body)) in
    least_from families (Lit ∷ Exp ∷ []) all_four evals eval (Lit ∷ both ∷ []) (Lit ∷ doubler ∷ []) lit_one eval_in (
      (λ e. cc e, (λ e. cc e, (λ e. itself, (λ e. doubler_lit, tt)))),
      (
        (λ e. cc e, (λ e. cc e, (λ e. cc e, (λ e. doubler_exp, tt)))),
        tt,
      ),
    )
    lit_doubler x.0 x.1

add_exp : (A : Name) → Sup families (A ∷ []) (base ∷ []) → Sup families (Add ∷ A ∷ []) (Exp ∷ A ∷ [])
add_exp A s = inner_above families A base Add Exp s (simp outs-Inner) (member_heir s base_exp)

pub add_eval : Least families (Add ∷ both ∷ []) eval (Add ∷ base ∷ [])
unfolding evals
add_eval =
    let x = inner_method families base Add eval (simp (outs-Inner, outs-Body, outs-Slot)) in
    least_from families (Add ∷ Exp ∷ []) all_four evals eval (Add ∷ both ∷ []) (Add ∷ base ∷ []) add_one eval_in (
      (λ e. cc e, (λ e. cc e, (λ e. cc e, (λ e. itself, tt)))),
      (
        (λ e. cc e, (λ e. cc e, (λ e. cc e, (λ e. add_exp base itself, tt)))),
        tt,
      ),
    )
    (in_each Add base (1, omega arith, refl) (3, omega arith, refl)) x.0 x.1

shows : Name → Name → Bool
shows C A = same A shower

show_in : (C A : Name) (m : Method) → MethodAt families (C ∷ A ∷ []) show m → shows C A ≡ true
unfolding shows
show_in C A m x = method_in families show shows (simp (outs-Inner, outs-Slot, outs-Body)) C A m x

pub lit_show : Least families (Lit ∷ both ∷ []) show (Lit ∷ shower ∷ [])
unfolding shows
lit_show =
    let x = inner_method families shower Lit show (simp (outs-Inner, outs-Body)) in
    least_from families (Lit ∷ Exp ∷ []) all_four shows show (Lit ∷ both ∷ []) (Lit ∷ shower ∷ []) lit_one show_in (
      (λ e. cc e, (λ e. itself, (λ e. cc e, (λ e. cc e, tt)))),
      (
        (λ e. cc e, (λ e. lit_exp shower shower_base, (λ e. cc e, (λ e. cc e, tt)))),
        tt,
      ),
    )
    (in_each Lit shower (0, omega arith, refl) (1, omega arith, refl)) x.0 x.1

pub add_show : Least families (Add ∷ both ∷ []) show (Add ∷ shower ∷ [])
unfolding shows
add_show =
    let x = inner_method families shower Add show (simp (outs-Inner, outs-Body)) in
    least_from families (Add ∷ Exp ∷ []) all_four shows show (Add ∷ both ∷ []) (Add ∷ shower ∷ []) add_one show_in (
      (λ e. cc e, (λ e. itself, (λ e. cc e, (λ e. cc e, tt)))),
      (
        (λ e. cc e, (λ e. add_exp shower shower_base, (λ e. cc e, (λ e. cc e, tt)))),
        tt,
      ),
    )
    (in_each Add shower (1, omega arith, refl) (1, omega arith, refl)) x.0 x.1

at_base_lit : Name → Name → Bool
at_base_lit C A = same A base && same C Lit

v_in : (C A : Name) (f : Field) → FieldAt families (C ∷ A ∷ []) v f → at_base_lit C A ≡ true
unfolding at_base_lit
v_in C A f x = field_in families v at_base_lit (simp (outs-Inner, outs-Slot, outs-Body)) C A f x

pub lit_v : IsField families (Lit ∷ both ∷ []) v (Lit ∷ base ∷ [])
unfolding at_base_lit
lit_v =
    let x = inner_field families base Lit v (simp (outs-Inner, outs-Slot, outs-Body)) in
    field_from families (Lit ∷ Exp ∷ []) all_four at_base_lit v (Lit ∷ both ∷ []) (Lit ∷ base ∷ []) lit_one v_in (
      (λ e. cc e, (λ e. cc e, (λ e. cc e, (λ e. refl, tt)))),
      (
        (λ e. cc e, (λ e. cc e, (λ e. cc e, (λ e. cc e, tt)))),
        tt,
      ),
    )
    (in_each Lit base (0, omega arith, refl) (3, omega arith, refl)) x.0 x.1

made_in : (C A : Name) (m : Method) → MethodAt families (C ∷ A ∷ []) Lit m → at_base_lit C A ≡ true
unfolding at_base_lit
made_in C A m x = method_in families Lit at_base_lit (simp (outs-Inner, outs-Slot, outs-Body)) C A m x

pub lit_made : Least families (Lit ∷ both ∷ []) Lit (Lit ∷ base ∷ [])
unfolding at_base_lit
lit_made =
    let x = inner_method families base Lit Lit (simp (outs-Inner, outs-Slot, outs-Body)) in
    least_from families (Lit ∷ Exp ∷ []) all_four at_base_lit Lit (Lit ∷ both ∷ []) (Lit ∷ base ∷ []) lit_one made_in (
      (λ e. cc e, (λ e. cc e, (λ e. cc e, (λ e. itself, tt)))),
      (
        (λ e. cc e, (λ e. cc e, (λ e. cc e, (λ e. cc e, tt)))),
        tt,
      ),
    )
    (in_each Lit base (0, omega arith, refl) (3, omega arith, refl)) x.0 x.1

pub both_has : (C : Name) → Contains (Lit ∷ Add ∷ Exp ∷ []) C → InUniverse families (C ∷ both ∷ [])
both_has C c = ((tt, top_member families both refl), member_heir both_base (base_has C c))
