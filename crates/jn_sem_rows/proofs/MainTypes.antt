-- The types `int` and `Main` in a body of Main.
use Rattle.std.proofs.Common.{◌≡◌, ◌<◌, ℕ, zero, suc, List, [], ◌∷◌, drop, None, refl, sym, subst, arith}
use Rattle.std.specs.Prelude.{Ok}
use Rattle.std.specs.List.Sorted.{IsStrictlySortedBy}
use Rattle.jn_base.specs.declared.tree.Name.{Name}
use Rattle.jn_base.specs.declared.tree.Text.{Text}
use Rattle.jn_base.specs.declared.tree.Method.{Method}
use Rattle.jn_base.specs.declared.tree.TypeTerm.{TypeTerm}
use Rattle.jn_base.specs.declared.tree.TypeTerm.TheVariants as type
use Rattle.jn_base.specs.declared.tree.Program.{Program}
use Rattle.jn_base.specs.declared.names.Var.{Var}
use Rattle.jn_base.specs.declared.types.Anchor.TheVariants.{Root}
use Rattle.jn_base.specs.declared.types.Ty.{Ty}
use Rattle.jn_base.specs.declared.types.Ty.TheVariants as ty
use Rattle.jn_base.specs.Supers.{Member}
use Rattle.jn_base.specs.Scopes.{Scope}
use Rattle.jn_base.specs.Atoms.{Atom, atom, shown_atom, no_masks, Among, first, later}
use Rattle.jn_base.specs.Resolve.{found, in_class}
use Rattle.jn_base.specs.ResolveTypes.{mask_names, none, first as first_term, one}
use Rattle.jn_sem.specs.Asks.{Only}
use Rattle.jn_sem.specs.Normal.{normal, moved, same_path, IsSubst}
use Rattle.jn_sem.specs.Terms.{Site, TypeIs}
use Rattle.jn_sem.proofs.FindingLaws.{finds_one}
use Rattle.jn_sem_rows.specs.MainAlone.{Main, main_alone, of_main}
use Rattle.jn_sem_rows.proofs.SlotTools.{one_depth, masks_none}
use Rattle.jn_sem_rows.proofs.MainTools.{is_class, the_member, nothing_in}

abbrev pub main_atom : Atom
main_atom = atom Root [] (Main ∷ [])

abbrev pub main_type : Ty
main_type = ty.Class (shown_atom main_atom ∷ []) no_masks

root_normal : (s : Scope) → normal s main_atom ≡ main_atom
root_normal [] = refl
root_normal (b ∷ s) = root_normal s

-- one atom that begins at nothing is its own normal form
its_own : (s : Scope) → IsSubst s same_path (main_atom ∷ []) (main_atom ∷ [])
unfolding IsStrictlySortedBy
its_own s = record { each = each; only = only; sorted = (tt, tt) } where
  each : (x : Atom) → Among (main_atom ∷ []) x → Among (main_atom ∷ []) (normal s (moved same_path x))
  each x first = subst (Among (main_atom ∷ [])) (sym (root_normal s)) first
  each x (later m) = elim m [ ]

  only : (y : Atom) → Among (main_atom ∷ []) y → (x : Atom) × Among (main_atom ∷ []) x × (y ≡ normal s (moved same_path x))
  only y first = (main_atom, first, sym (root_normal s))
  only y (later m) = elim m [ ]

-- `int` anywhere
pub int_anywhere : (p : Program) (at : Site) → Only (TypeIs p at type.Int) ty.Int
int_anywhere p at = record { is = int_is; one = λ w k. (finds_one p).type at type.Int w ty.Int k int_is } where
  int_is : TypeIs p at type.Int ty.Int
  int_is = record { given = ty.Int; resolved = refl; normal = refl }

module _ (names : List Text) (ms : List Method) (m : Name) (vars : List Var) where
  abbrev here : Site
  here = record { class = Main ∷ []; method = m; vars = vars }

  only_type : (t : TypeTerm) (u : Ty) → TypeIs (main_alone names ms) here t u → Only (TypeIs (main_alone names ms) here t) u
  only_type t u h = record { is = h; one = λ w k. (finds_one (main_alone names ms)).type here t w u k h }

  pub int_type : Only (TypeIs (main_alone names ms) here type.Int) ty.Int
  int_type = int_anywhere (main_alone names ms) here

  inner : (j : ℕ) → j < 1 → Member (main_alone names ms) (drop j (Main ∷ [])) Main → ⊥
  inner zero l h = nothing_in names ms Main h
  inner (suc j) l h = absurd (omega (arith, l))

  pub class_type : Only (TypeIs (main_alone names ms) here of_main) main_type
  class_type = only_type of_main main_type (record {
    given = main_type;
    resolved = record {
      atoms = Ok (shown_atom main_atom ∷ []);
      all = first_term (shown_atom main_atom) (Ok []) (record {
        anchor = Ok Root;
        given = record {
          found = Ok 1;
          sought = found 1 None (record { within = omega arith; member = the_member names ms; innermost = inner }) refl refl;
          gives = refl;
        };
        gives = in_class (is_class names ms).kind refl;
      }) (none refl) refl;
      gives = one (one_depth (Main ∷ [])) (record { first = None; unfit = refl; gives = record { masks = no_masks; are = masks_none (mask_names (main_alone names ms)); gives = refl } });
    };
    normal = (its_own _, refl);
  })
