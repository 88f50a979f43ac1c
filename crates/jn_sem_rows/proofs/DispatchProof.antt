-- Calls of one method at two views.
use Rattle.std.proofs.Common.{◌≡◌, ℕ, List, [], ◌∷◌, Contains, true, refl, sym, subst}
use Rattle.jn_base.specs.declared.tree.Member.{Member as Inside}
use Rattle.jn_base.specs.declared.tree.Member.TheVariants as member
use Rattle.jn_base.specs.declared.tree.Member.TheVariants.{outs-Inner, outs-Slot, outs-Body}
use Rattle.jn_base.specs.ExampleTrees.{class_in, declaration}
use Rattle.jn_base.specs.Duplicates.{duplicates}
use Rattle.jn_base.specs.Duplicates.{in_stmt, InStmt, stmt_step}
use Rattle.jn_base.specs.declared.tree.Decl.{Decl}
use Rattle.jn_base.specs.declared.tree.Method.{Method}
use Rattle.jn_base.specs.declared.tree.Kind.TheVariants as kind
use Rattle.jn_base.specs.declared.tree.Stmt.{Stmt, out-Stmt}
use Rattle.jn_base.specs.declared.tree.Stmt.TheVariants.{outs-Return}
use Rattle.jn_base.specs.declared.tree.Stmt.TheFolds.{fold_out-Stmt, map-Stmt}
use Rattle.jn_base.specs.Paths.{Path, nested, methods}
use Rattle.jn_base.specs.Supers.{Sup, itself, Member}
use Rattle.jn_base.specs.Members.{MethodAt, Least}
use Rattle.jn_base.specs.Universe.{InUniverse}
use Rattle.jn_base.proofs.Unique.{decl_opened, member_opened}
use Rattle.jn_base.proofs.NameTests.{first as at_first}
use Rattle.jn_base.proofs.SuperLaws.{sup_inherited, member_heir}
use Rattle.jn_base.proofs.ExampleTools.{inner_has, inner_member, anything, is_class, sups_kept, least_from}
use Rattle.jn_sem.specs.Asks.{Only}
use Rattle.jn_sem.specs.Sharing.{Related}
use Rattle.jn_sem.specs.Does.{Body, IsBody}
use Rattle.jn_sem_rows.specs.SlotsExample.{base, disp, Lit, eval, in_base, in_disp}
use Rattle.jn_sem_rows.specs.Views.{dispatch, evaluating}
use Rattle.jn_sem_rows.proofs.SlotTools.{above_base, the_related, stands_in_base, stands_in_disp}
use Rattle.jn_sem_rows.proofs.LitFamilies.{Lits, Families, IsTested, found_once}

abbrev pub own : List Inside
own = class_in Lit [] (member.Body (evaluating 1) ∷ []) ∷ []

abbrev pub further : List Inside
further = class_in Lit [] (member.Body (evaluating 2) ∷ []) ∷ []

stmt_opened : (s : Stmt) → in_stmt s ≡ stmt_step (map-Stmt _ _ in_stmt (out-Stmt s))
stmt_opened s = fold_out-Stmt InStmt stmt_step s

once : duplicates dispatch ≡ []
once = simp (decl_opened, member_opened, stmt_opened, outs-Inner, outs-Body, outs-Return)

pub tested : IsTested own further
tested = record {
  flat = simp (outs-Inner, outs-Body);
  lits = simp (outs-Inner);
  bare_tops = simp (outs-Inner);
  plain = simp (outs-Inner, outs-Body);
  keeps = simp (outs-Inner);
  written = simp (outs-Inner);
  classes = simp (outs-Inner);
  known = simp (outs-Inner);
  once = once;
}

-- ---- what is declared

abbrev lit_of : ℕ → Decl
lit_of z = declaration kind.Class 1 Lit [] (member.Body (evaluating z) ∷ [])

own_are : nested own ≡ lit_of 1 ∷ []
own_are = simp (outs-Inner)

further_are : nested further ≡ lit_of 2 ∷ []
further_are = simp (outs-Inner)

its_methods : (z : ℕ) → methods (lit_of z).members ≡ evaluating z ∷ []
its_methods z = simp (outs-Body)

eval_has : (z : ℕ) → Contains (methods (lit_of z).members) (evaluating z)
eval_has z = subst (λ (ms : List Method). Contains ms (evaluating z)) (sym (its_methods z)) (at_first (evaluating z) [])

at_base : MethodAt dispatch (in_base Lit) eval (evaluating 1)
at_base = record {
  decl = lit_of 1;
  stands = stands_in_base own further (lit_of 1) (subst (λ (ds : List Decl). Contains ds (lit_of 1)) (sym own_are) (at_first (lit_of 1) []));
  has = eval_has 1;
  name = refl;
}

at_disp : MethodAt dispatch (in_disp Lit) eval (evaluating 2)
at_disp = record {
  decl = lit_of 2;
  stands = stands_in_disp own further (lit_of 2) (subst (λ (ds : List Decl). Contains ds (lit_of 2)) (sym further_are) (at_first (lit_of 2) []));
  has = eval_has 2;
  name = refl;
}

has_lit : inner_has dispatch base Lit anything ≡ true
has_lit = simp (outs-Inner)

lit_class : inner_has dispatch base Lit is_class ≡ true
lit_class = simp (outs-Inner)

pub lits : Related dispatch (in_disp Lit) (in_base Lit)
lits = the_related own further Lit has_lit lit_class

pub lit_member : Member dispatch (disp ∷ []) Lit
lit_member = member_heir (above_base own further) (inner_member dispatch base base Lit itself has_lit)

lit_above : Sup dispatch (in_disp Lit) (in_base Lit)
lit_above = sup_inherited (above_base own further) (inner_member dispatch base base Lit itself has_lit)

-- ---- the bodies at the two views

abbrev pub body : Path → ℕ → Body
body V z = record { class = V; method = evaluating z }

base_least : Least dispatch (in_base Lit) eval (in_base Lit)
base_least = least_from dispatch Lits (base ∷ []) (λ C A. true) eval (in_base Lit) (in_base Lit)
    (λ S s. sups_kept dispatch Lits (base ∷ []) refl tested.keeps Lit base refl refl S s) (λ C A x h. refl) (((λ e. itself), tt), tt) itself (evaluating 1) at_base

disp_least : Least dispatch (in_disp Lit) eval (in_disp Lit)
disp_least = least_from dispatch Lits Families (λ C A. true) eval (in_disp Lit) (in_disp Lit)
    (λ S s. sups_kept dispatch Lits Families refl tested.keeps Lit disp refl refl S s) (λ C A x h. refl) (((λ e. lit_above), ((λ e. itself), tt)), tt) itself (evaluating 2) at_disp

only_body : (V : Path) (z : ℕ) → InUniverse dispatch V → IsBody dispatch V eval (body V z) → Only (IsBody dispatch V eval) (body V z)
only_body V z u i = record { is = i; one = λ b x. (found_once own further tested).body V eval u b (body V z) x i }

pub base_body : Only (IsBody dispatch (in_base Lit) eval) (body (in_base Lit) 1)
base_body = only_body (in_base Lit) 1 lits.other.universe (record { least = base_least; at = at_base })

pub disp_body : Only (IsBody dispatch (in_disp Lit) eval) (body (in_disp Lit) 2)
disp_body = only_body (in_disp Lit) 2 lits.one.universe (record { least = disp_least; at = at_disp })
