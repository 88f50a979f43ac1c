-- The small rows of types.
use Rattle.std.proofs.Common.{zero, suc, ℤ, pos, ◌≡◌, ◌||◌, ℕ, Bool, true, false, not, [], ◌∷◌, length, nat_eq, eqb-true, refl, sym, ap, ◌∙◌, subst, arith}
use Rattle.jn_base.specs.declared.tree.Name.{Name}
use Rattle.jn_base.specs.declared.tree.Decl.{Decl}
use Rattle.jn_base.specs.declared.tree.Member.TheVariants.{outs-Inner}
use Rattle.jn_base.specs.declared.types.Anchor.{Anchor}
use Rattle.jn_base.specs.declared.types.Anchor.TheVariants.{Root, Up}
use Rattle.jn_base.specs.Paths.{Path, Declared, nested}
use Rattle.jn_base.specs.Supers.{Sup, itself, Member}
use Rattle.jn_base.specs.Universe.{InUniverse}
use Rattle.jn_base.specs.Atoms.{no_masks, Atom, atom, atoms_in, Among, first, later}
use Rattle.jn_base.specs.Scopes.{this_bind, Binds, Bind, bound}
use Rattle.jn_base.specs.FamiliesExample.{v, families, base, both, Exp, Lit, Add}
use Rattle.jn_base.proofs.ExampleTools.{OneOf, one, sups_kept, same, at_inner, deep_declared, has_only}
use Rattle.jn_base.proofs.FamiliesProof.{lit_v, add_supers, both_has}
use Rattle.jn_base.proofs.SuperLaws.{sup_up, sup_inherited}
use Rattle.jn_base.proofs.NameTests.{itself_named}
use Rattle.jn_sem.specs.Sets.{InAtom, Seen, view_at, InType}
use Rattle.jn_sem.specs.Values.{Value, Number, Truth, Null, Reference, ValueIn, number, no_object, object, Masked, HasField}
use Rattle.jn_sem.specs.Widening.{replaced, loosened, raised, opened, widened}
use Rattle.jn_sem.specs.RootClosure.{Opens, closed, through, InClosure}
use Rattle.jn_sem_rows.specs.BelowExample.{v_masked, class_of, in_add}
use Rattle.jn_sem_rows.specs.TypesExample.{ValuesExample, all_but_v, a_lit, BoundsExample, SetsExample, seen_both, NormalExample, StepsExample, ClosureExample, nested_x, in_main, x_of_p, a, C, D, X, both_c_and_d}
use Rattle.jn_sem.proofs.Widenings.{declared_namespace}
use Rattle.jn_sem_rows.proofs.BelowProof.{no_mask, alone, base_lit, base_exp, lit_exp, to_base_lit}

pub bounds : BoundsExample
bounds = record { class_of_p = refl; lit_of_p = refl; class_of_this = refl }

-- sets

in_one : (x : Atom) (V : Path) → InAtom families seen_both x V → (z : Atom) → Among (x ∷ []) z → InAtom families seen_both z V
in_one x V i z m = subst (λ (y : Atom). InAtom families seen_both y V) (sym (alone m)) i

outer_of : Path → ℕ
outer_of [] = 0
outer_of (n ∷ ns) = n.0

not_exact_lit : InAtom families seen_both (atom Root (base ∷ []) (Lit ∷ [])) (Lit ∷ both ∷ []) → ⊥
unfolding outer_of
not_exact_lit i = absurd (omega (arith, ap outer_of i.inside.exact))

not_family : InAtom families seen_both (atom (Up 1 1) [] (Lit ∷ [])) (Lit ∷ base ∷ []) → ⊥
unfolding outer_of
not_family i = absurd (omega (arith, ap outer_of i.inside.exact))

-- the two views

both_add : InUniverse families (Add ∷ both ∷ [])
both_add = both_has Add (1, omega arith, refl)

to_base_add : Sup families (Add ∷ both ∷ []) (Add ∷ base ∷ [])
to_base_add = (add_supers (Add ∷ base ∷ [])).1 (record { C = Add; A = base; is = refl; class = (0, omega arith, refl); package_in = (3, omega arith, refl) })

both_exp : InUniverse families (Exp ∷ both ∷ [])
both_exp = both_has Exp (2, omega arith, refl)

both_base : Sup families (both ∷ []) (base ∷ [])
both_base = sup_up to_base_lit

to_base_exp : Sup families (Exp ∷ both ∷ []) (Exp ∷ base ∷ [])
to_base_exp = sup_inherited both_base base_exp.1

seen_bound : (q : ℕ) → Seen seen_both q → Binds in_add q
seen_bound zero h = record { bind = this_bind (Add ∷ base ∷ []); among = later first; is = refl }
seen_bound (suc zero) h = record { bind = record { path = 1; ty = class_of base Exp }; among = first; is = refl }
seen_bound (suc (suc q)) h = cc h

seen_universe : (q : ℕ) → Seen seen_both q → InUniverse families (view_at seen_both q)
seen_universe zero h = both_add
seen_universe (suc zero) h = both_exp
seen_universe (suc (suc q)) h = cc h

seen_holds : (b : Bind) → Among in_add b → Seen seen_both b.path → InType families seen_both b.ty (view_at seen_both b.path)
seen_holds _ first h = in_one (atom Root [] (Exp ∷ base ∷ [])) (Exp ∷ both ∷ []) (record { seen = tt; inside = record { exact = refl; super = to_base_exp } })
seen_holds _ (later first) h = in_one (atom Root [] (Add ∷ base ∷ [])) (Add ∷ both ∷ []) (record { seen = tt; inside = record { exact = refl; super = to_base_add } })
seen_holds b (later (later m)) h = elim m [ ]

pub sets : SetsExample
sets = record {
  respects = record { bound = seen_bound; universe = seen_universe; holds = seen_holds };
  inexact = in_one (atom Root [] (Lit ∷ base ∷ [])) (Lit ∷ both ∷ []) (record { seen = tt; inside = record { exact = refl; super = to_base_lit } });
  exact = in_one (atom Root (base ∷ []) (Lit ∷ [])) (Lit ∷ base ∷ []) (record { seen = tt; inside = record { exact = refl; super = itself } });
  not_exact = λ i. not_exact_lit (i (atom Root (base ∷ []) (Lit ∷ [])) first);
  of_family = in_one (atom (Up 1 1) [] (Lit ∷ [])) (Lit ∷ both ∷ []) (record { seen = refl; inside = record { exact = refl; super = itself } });
  not_of_family = λ i. not_family (i (atom (Up 1 1) [] (Lit ∷ [])) first);
}

-- values

-- true of all values but numbers, and of null alone
NotNumber : Value → Type 0
NotNumber (Number z) = ⊥
NotNumber (Truth b) = Unit {0}
NotNumber Null = Unit {0}
NotNumber (Reference o V) = Unit {0}

IsNull : Value → Type 0
IsNull (Number z) = ⊥
IsNull (Truth b) = ⊥
IsNull Null = Unit {0}
IsNull (Reference o V) = ⊥

view_of : Value → Path
view_of (Number z) = []
view_of (Truth b) = []
view_of Null = []
view_of (Reference o V) = V

mask_v : Masked (v ∷ []) v_masked v
mask_v = record { number = 0; has = refl; name = refl }

not_masked : (f : Name) → Masked (v ∷ []) no_masks f → ⊥
not_masked f m = no_mask m.number m.has

number_in_none : (value : Value) (z : ℤ) → value ≡ Number z → ValueIn families (v ∷ []) seen_both all_but_v (class_of base Lit) value → ⊥
unfolding NotNumber
number_in_none _ z e no_object = subst NotNumber e tt
number_in_none _ z e (object i f) = subst NotNumber e tt

lit_without : ValueIn families (v ∷ []) seen_both all_but_v (class_of base Lit) a_lit → ⊥
unfolding IsNull view_of
lit_without i = at a_lit refl i where
  at : (value : Value) → value ≡ a_lit → ValueIn families (v ∷ []) seen_both all_but_v (class_of base Lit) value → ⊥
  at _ e no_object = subst IsNull e tt
  at _ e (object {o = o} {V = V} h f) = f v (subst (λ (R : Path). HasField families R v) (sym (ap view_of e)) (record { at = Lit ∷ base ∷ []; declares = lit_v.declares }))
      (not_masked v) refl

pub values : ValuesExample
values = record {
  null_in = no_object;
  number_in = number;
  number_out = number_in_none (Number (pos 7)) (pos 7) refl;
  masked_in = object (in_one (atom Root [] (Lit ∷ base ∷ [])) (Lit ∷ both ∷ []) (record { seen = tt; inside = record { exact = refl; super = to_base_lit } }))
      (λ f has free e. free (subst (Masked (v ∷ []) v_masked) (sym e) mask_v));
  unmasked_out = lit_without;
}

pub normals : NormalExample
normals = record { by_exact = refl; stays = refl; by_levels = refl; by_none = refl; in_order = refl }

pub steps : StepsExample
steps = record {
  loosens = loosened base [] refl refl;
  raises = raised 1 0 Exp base [] refl refl refl base_exp;
  opens = opened (record { path = 1; ty = class_of base Exp }) 1 (atom Root [] (Exp ∷ base ∷ [])) first refl first refl base_lit;
  widens = widened (Exp ∷ []) refl (omega arith) refl lit_exp;
}

-- the root closure

only_class : (S : Path) → Sup nested_x (D ∷ a ∷ []) S → OneOf (D ∷ []) (a ∷ []) S
only_class S s = sups_kept nested_x (D ∷ []) (a ∷ []) refl (simp outs-Inner) D a refl refl S s

-- a.D has no member X

plain_d : Name → Decl → Bool
plain_d B d = not (same d.name.name D) || nat_eq (length (nested d.members)) 0

no_x_in_d : Declared nested_x (X ∷ D ∷ a ∷ []) → ⊥
unfolding plain_d
no_x_in_d x = go (at_inner nested_x plain_d (simp outs-Inner) D a x.stands.0.0 (x.stands.0.1, x.stands.0.2)) where
  named : same x.stands.0.0.name.name D ≡ true
  named = subst (λ (n : Name). same n D ≡ true) (sym x.stands.0.2) (itself_named D)

  at : (b t : Bool) → b ≡ true → (not b || t) ≡ true → t ≡ true
  at true t h k = k
  at false t h k = cc h

  go : (not (same x.stands.0.0.name.name D) || nat_eq (length (nested x.stands.0.0.members)) 0) ≡ true → ⊥
  go h =
      let none : length (nested x.stands.0.0.members) ≡ 0 = eqb-true _ 0 (at (same x.stands.0.0.name.name D) _ named h) in
      absurd (omega (arith, none, x.stands.0.3.1))

not_member : Member nested_x (D ∷ a ∷ []) X → ⊥
not_member m = at m.at (only_class m.at m.super) m.declared where
  at : (S : Path) → OneOf (D ∷ []) (a ∷ []) S → Declared nested_x (X ∷ S) → ⊥
  at _ (one c b h k) x = no_x_in_d (subst (λ (n : Name). Declared nested_x (X ∷ n ∷ a ∷ [])) (sym (has_only D c h))
      (subst (λ (n : Name). Declared nested_x (X ∷ c ∷ n ∷ [])) (sym (has_only a b k)) x))

x_declared : Declared nested_x (X ∷ C ∷ a ∷ [])
x_declared = deep_declared nested_x a C X (simp outs-Inner)

x_in : InUniverse nested_x (X ∷ C ∷ a ∷ [])
x_in = (declared_namespace nested_x (C ∷ a ∷ []) x_declared.decl x_declared.stands.0, record { at = C ∷ a ∷ []; super = itself; declared = x_declared })

IsUp : Anchor → Type 0
IsUp Root = ⊥
IsUp (Up q k) = Unit {0}

path_of : Anchor → ℕ
path_of Root = 0
path_of (Up q k) = q

levels_of : Anchor → ℕ
levels_of Root = 0
levels_of (Up q k) = k

root_not_up : {q k : ℕ} → Root ≡ Up q k → ⊥
unfolding IsUp
root_not_up e = subst IsUp (sym e) tt

levels_same : {q r j k : ℕ} → Up q j ≡ Up r k → j ≡ k
unfolding levels_of
levels_same e = ap levels_of e

path_same : {q r j k : ℕ} → Up q j ≡ Up r k → q ≡ r
unfolding path_of
path_same e = ap path_of e

from_root : {x z : Atom} → x.anchor ≡ Root → Opens nested_x in_main x z → (z ≡ x) × InUniverse nested_x (bound in_main x)
unfolding IsUp
from_root r (closed e n) = (refl, n)
from_root r (through b k w n m e c o) = absurd (subst IsUp (sym e ∙ r) tt)

pub closure : ClosureExample
closure z = (λ c. to (alone c.among) c.opens, λ e. subst (InClosure nested_x in_main x_of_p) (sym e) back) where
  opened_c : (k : ℕ) (w : Atom) → 0 ≡ k → Among (atoms_in both_c_and_d) w → Opens nested_x in_main (replaced w k (atom (Up 1 0) [] (X ∷ []))) z
      → z ≡ atom Root [] (X ∷ C ∷ a ∷ [])
  opened_c k w e c o = by w c (subst (λ (j : ℕ). Opens nested_x in_main (replaced w j (atom (Up 1 0) [] (X ∷ []))) z) (sym e) o) where
    by : (u : Atom) → Among (atoms_in both_c_and_d) u → Opens nested_x in_main (replaced u 0 (atom (Up 1 0) [] (X ∷ []))) z → z ≡ atom Root [] (X ∷ C ∷ a ∷ [])
    by _ first q = (from_root refl q).0
    by _ (later first) q = absurd (not_member (from_root refl q).1.1)
    by u (later (later m)) q = elim m [ ]

  by_bind : (b : Bind) (k : ℕ) (w : Atom) → Among in_main b → Up 1 0 ≡ Up b.path k → Among (atoms_in b.ty) w
      → Opens nested_x in_main (replaced w k (atom (Up 1 0) [] (X ∷ []))) z → z ≡ atom Root [] (X ∷ C ∷ a ∷ [])
  by_bind _ k w first e c o = opened_c k w (levels_same e) c o
  by_bind _ k w (later first) e c o = absurd (omega (arith, path_same e))
  by_bind b k w (later (later m)) e c o = elim m [ ]

  to : {y : Atom} → y ≡ atom (Up 1 0) [] (X ∷ []) → Opens nested_x in_main y z → z ≡ atom Root [] (X ∷ C ∷ a ∷ [])
  to i (closed e n) = absurd (root_not_up (sym e ∙ ap (λ (t : Atom). t.anchor) i))
  to i (through b k w n m e c o) = by_bind b k w m (sym (ap (λ (t : Atom). t.anchor) i) ∙ e) c
      (subst (λ (t : Atom). Opens nested_x in_main (replaced w k t) z) i o)

  back : InClosure nested_x in_main x_of_p (atom Root [] (X ∷ C ∷ a ∷ []))
  back = record {
    from = atom (Up 1 0) [] (X ∷ []);
    among = first;
    opens = through (record { path = 1; ty = both_c_and_d }) 0 (atom Root [] (C ∷ a ∷ [])) x_in first refl first (closed refl x_in);
  }
