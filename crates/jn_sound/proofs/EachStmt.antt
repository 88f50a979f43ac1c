-- Each statement of a body fits, by the tree.
use Rattle.std.proofs.Common.{List, [], ◌∷◌, map, sym, subst}
use Rattle.jn_base.specs.declared.tree.Program.{Program}
use Rattle.jn_base.specs.declared.tree.Stmt.{Stmt, roll-Stmt}
use Rattle.jn_base.specs.declared.tree.Stmt.TheOpen.{Stmt-F}
use Rattle.jn_base.specs.declared.tree.Stmt.TheFolds.{map-Stmt, ind-Stmt}
use Rattle.jn_base.specs.declared.tree.Stmt.TheVariants as stmt
use Rattle.jn_base.specs.Atoms.{first, later}
use Rattle.jn_rules.specs.Stmts.{In}
use Rattle.jn_sound.specs.Stmts.{BodyKnown, StmtFits, EachFits}
use Rattle.jn_sound.proofs.Stmts.{prints, prints_text, calls, returns}
use Rattle.jn_sound.proofs.LocalsFit.{local_fits}
use Rattle.jn_sound.proofs.AssignsFit.{assign_fits}
use Rattle.jn_sound.proofs.Stores.{set_fits}
use Rattle.jn_sound.proofs.Blocks.{block_fits, loop_fits}
use Rattle.jn_sound.proofs.Choices.{choice_fits}

module _ (p : Program) (b : In) (its : BodyKnown p b) where
  abbrev Told : Type 0
  Told = List ((s : Stmt) × StmtFits p b s)

  abbrev trees_of : Told → List Stmt
  trees_of ss = map (λ s. s.0) ss

  each_told : (ss : Told) → EachFits p b (trees_of ss)
  each_told [] s m = elim m [ ]
  each_told (z ∷ zs) _ first = z.1
  each_told (z ∷ zs) s (later m) = each_told zs s m

  abbrev layer : Stmt-F ((s : Stmt) × StmtFits p b s) → Stmt-F Stmt
  layer = map-Stmt _ _ (λ s. s.0)

  told : (y : Stmt-F ((s : Stmt) × StmtFits p b s)) → StmtFits p b (roll-Stmt (layer y))
  told (Stmt-F.Block ss) = subst (StmtFits p b) (sym (stmt.rolls-Block (trees_of ss)))
      (block_fits p b its (trees_of ss) (each_told ss))
  told (Stmt-F.Local fixed t n e) = subst (StmtFits p b) (sym (stmt.rolls-Local fixed t n e))
      (local_fits p b its fixed t n e)
  told (Stmt-F.Assign n e) = subst (StmtFits p b) (sym (stmt.rolls-Assign n e)) (assign_fits p b its n e)
  told (Stmt-F.Set r f e) = subst (StmtFits p b) (sym (stmt.rolls-Set r f e)) (set_fits p b its r f e)
  told (Stmt-F.Do e) = subst (StmtFits p b) (sym (stmt.rolls-Do e)) (calls p b its e)
  told (Stmt-F.If e one other at) =
      subst (StmtFits p b) (sym (stmt.rolls-If e (trees_of one) (trees_of other) at))
      (choice_fits p b its e (trees_of one) (trees_of other) at (each_told one) (each_told other))
  told (Stmt-F.While e body at) = subst (StmtFits p b) (sym (stmt.rolls-While e (trees_of body) at))
      (loop_fits p b its e (trees_of body) at)
  told (Stmt-F.Return e at) = subst (StmtFits p b) (sym (stmt.rolls-Return e at)) (returns p b its e at)
  told (Stmt-F.Print e at) = subst (StmtFits p b) (sym (stmt.rolls-Print e at)) (prints p b its e at)
  told (Stmt-F.PrintText t at) = subst (StmtFits p b) (sym (stmt.rolls-PrintText t at)) (prints_text p b its t at)

  pub all_fit : (s : Stmt) → StmtFits p b s
  all_fit = ind-Stmt (StmtFits p b) (λ x y is. subst (λ z. StmtFits p b (roll-Stmt z)) is (told y))
