-- A name that stands twice, and a mask that is no field.
use Rattle.std.proofs.Common.{◌≡◌, ◌<◌, ℕ, zero, suc, List, [], ◌∷◌, length, Contains, Some, None, false, refl, sym, ap, ◌∙◌, inl, inr, arith}
use Rattle.std.specs.Prelude.{Ok, Err, drop}
use Rattle.jn_base.specs.declared.tree.TypeTerm.TheVariants as type
use Rattle.jn_base.specs.declared.tree.Head.TheVariants as head
use Rattle.jn_base.specs.declared.tree.Term.{Term}
use Rattle.jn_base.specs.declared.tree.Node.TheVariants as node
use Rattle.jn_base.specs.declared.tree.Stmt.{Stmt}
use Rattle.jn_base.specs.declared.tree.Stmt.TheVariants as stmt
use Rattle.jn_base.specs.declared.tree.Stmt.TheVariants.{outs-Local}
use Rattle.jn_base.specs.declared.tree.Member.TheVariants.{outs-Body}
use Rattle.jn_base.specs.declared.types.Anchor.TheVariants.{Root}
use Rattle.jn_base.specs.declared.types.Atom.{Atom as ShownAtom}
use Rattle.jn_base.specs.declared.names.Role.TheVariants as role
use Rattle.jn_base.specs.declared.names.Spot.{Spot}
use Rattle.jn_base.specs.declared.refusal.Rule.TheVariants as rule
use Rattle.jn_base.specs.Paths.{Path}
use Rattle.jn_base.specs.Supers.{Member, itself}
use Rattle.jn_base.specs.Duplicates.{duplicates, duplicate}
use Rattle.jn_base.specs.Parts.{expr}
use Rattle.jn_base.specs.Resolve.{found, in_class, Resolve}
use Rattle.jn_base.specs.ResolveTypes.{mask_names, first, none, one, ResolveType}
use Rattle.jn_base.proofs.NameTests.{in_cons, in_none}
use Rattle.jn_base.proofs.Unique.{decl_opened, member_opened}
use Rattle.jn_sem.specs.Terms.{spot_at, vars_at}
use Rattle.jn_rules.specs.Exprs.{site_here}
use Rattle.jn_rules.specs.Verdict.{twice}
use Rattle.jn_rules.proofs.FormLaws.{stmt_forms}
use Rattle.jn_rule_rows.specs.OneMain.{Main, x, f, main_class, main_with}
use Rattle.jn_rule_rows.specs.Rows.{column, named, number, shows, Refuses, masked_main, NameRows}
use Rattle.jn_rule_rows.proofs.OneMain.{stands_at, declared, sup_same, main_there, no_field}
use Rattle.jn_rule_rows.proofs.MainRows.{stmt_open, b, y, h, by_form, refused_first, alone}

abbrev one_x : Stmt
one_x = stmt.Local false type.Int (named x 32) (number 1 36)

abbrev two_x : Stmt
two_x = stmt.Local false type.Int (named x 43) (number 2 47)

twice_x : duplicates (main_with (one_x ∷ two_x ∷ [])) ≡ duplicate (Main ∷ []) (named x 43) ∷ []
twice_x = simp (decl_opened, member_opened, outs-Body, stmt_open, outs-Local)

x_twice : Refuses one_x (two_x ∷ []) (shows rule.E05 43 x)
x_twice = twice (record { others = []; is = twice_x })

-- ---- the mask

module _ (ss : List Stmt) where
  abbrev the_term : Term
  the_term = record { head = head.Plain; exact = []; names = Main ∷ []; at = column 28 }

  abbrev at : Spot
  at = spot_at (site_here (h ss)) role.Value

  not_inside : Member (main_with ss) (Main ∷ []) Main → ⊥
  not_inside m =
      let e = (stands_at ss (Main ∷ m.at) m.declared.decl m.declared.stands).0 in
      let l : suc (length m.at) ≡ 1 = ap length e in omega (arith, l, ap length (sup_same ss m.super))

  not_before : (j : ℕ) → j < 1 → Member (main_with ss) (drop j (Main ∷ [])) Main → ⊥
  not_before zero l m = not_inside m
  not_before (suc j) l m = omega (arith, l)

  abbrev main_atom : ShownAtom
  main_atom = record { anchor = Root; exact = []; names = Main ∷ [] }

  main_resolves : Resolve (main_with ss) at (vars_at (site_here (h ss))) the_term (Ok main_atom)
  main_resolves = record {
    anchor = Ok Root;
    given = record {
      found = Ok 1;
      sought = found 1 None (record { within = omega arith; member = (main_there ss).1; innermost = not_before }) refl refl;
      gives = refl;
    };
    gives = in_class (record { at = Main ∷ []; super = itself; decl = main_class ss; stands = declared ss; is = refl }) refl;
  }

  one_bound : (B C : Path) → Contains ((Main ∷ []) ∷ []) B → Contains ((Main ∷ []) ∷ []) C → length B ≡ length C
  one_bound B C k l = ap length (sym (the_bound B k) ∙ the_bound C l) where
    the_bound : (B : Path) → Contains ((Main ∷ []) ∷ []) B → Main ∷ [] ≡ B
    the_bound B c = elim (in_cons (Main ∷ []) [] B c) [ inl e ↦ e | inr n ↦ absurd (in_none B n) ]

  mask_refused : ResolveType (main_with ss) (mask_names (main_with ss)) at (vars_at (site_here (h ss))) (masked_main 28 33) (Err (shows rule.E27 33 f))
  mask_refused = record {
    atoms = Ok (main_atom ∷ []);
    all = first main_atom (Ok []) main_resolves (none refl) refl;
    gives = one one_bound (record {
      first = Some (named f 33);
      unfit = inr (λ m. no_field ss m.0.at f m.0.declares.field m.0.declares.at, refl);
      gives = refl;
    });
  }

mask_unfit : Refuses (stmt.Local false (masked_main 28 33) (named x 35) (expr (column 39) node.Null)) [] (shows rule.E27 33 f)
mask_unfit =
    let s = stmt.Local false (masked_main 28 33) (named x 35) (expr (column 39) node.Null) in
    refused_first s [] (shows rule.E27 33 f) (simp (stmt_open, outs-Local))
    (by_form (main_with (alone s)) _ _ _ ((stmt_forms (b (alone s)) (y (alone s))).local false (masked_main 28 33) (named x 35) (expr (column 39) node.Null))
    (Err (shows rule.E27 33 f), mask_refused (alone s), refl))

pub name_rows : NameRows
name_rows = record { twice = x_twice; mask = mask_unfit }
