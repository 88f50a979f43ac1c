-- The places of what stands twice in a method, in the order of its words.
use Rattle.std.proofs.Common.{◌≡◌, ℕ, List, [], ◌∷◌, ◌++◌, map, sym, ap, ◌∙◌, subst, Bool, true, false, Some, None}
use Rattle.jn_base.specs.declared.tree.Name.{Name}
use Rattle.jn_base.specs.declared.tree.Place.{Place}
use Rattle.jn_base.specs.declared.tree.Param.{Param}
use Rattle.jn_base.specs.declared.tree.Stmt.{Stmt, out-Stmt}
use Rattle.jn_base.specs.declared.tree.Stmt.TheOpen.{Stmt-F}
use Rattle.jn_base.specs.declared.tree.Stmt.TheVariants.{outs-Block, outs-Local, outs-Assign, outs-Set, outs-Do, outs-If, outs-While, outs-Return, outs-Print, outs-PrintText}
use Rattle.jn_base.specs.declared.tree.Stmt.TheFolds.{fold_out-Stmt, map-Stmt}
use Rattle.jn_base.specs.Parts.{Part, Role, mark, named, new_name}
use Rattle.jn_base.specs.declared.word.Mark.TheVariants.{CloseBrace}
use Rattle.jn_base.specs.GrammarStmt.{IsStmt, IsElse, IsStmts}
use Rattle.jn_base.specs.GrammarDecl.{IsParam, IsParams, IsMoreParams}
use Rattle.jn_base.specs.Duplicates.{InStmt, in_block, stmt_step, in_stmt, only_if, has_name, param_name}
use Rattle.jn_sources.proofs.Subsequence.{Sub, at_of, skip, take, none, both, before, behind, places_both}

-- what a statement of this form has twice
abbrev Found : List Part → Stmt-F Stmt → Type 0
Found w o = (scope : List Name) → Sub (map at_of ((stmt_step (map-Stmt _ _ in_stmt o)).found scope)) w

found_in : (w : List Part) (s : Stmt) (o : Stmt-F Stmt) → out-Stmt s ≡ o → Found w o → (scope : List Name)
    → Sub (map at_of ((in_stmt s).found scope)) w
found_in w s o e f scope =
    subst (λ (x : InStmt). Sub (map at_of (x.found scope)) w)
    (sym (fold_out-Stmt InStmt stmt_step s ∙ ap (λ (x : Stmt-F Stmt). stmt_step (map-Stmt _ _ in_stmt x)) e)) (f scope)

abbrev InBlock : List Part → List Stmt → Type 0
InBlock w ss = (scope : List Name) → Sub (map at_of (in_block (map in_stmt ss) scope)) w

-- a local, where its name is in scope
local_sub : (scope : List Name) (r : Role) (x : Name) (p : Place) (w : List Part)
    → Sub (map at_of (only_if (has_name scope x) (named x p ∷ []))) (new_name r x p ∷ w)
local_sub scope r x p w = by (has_name scope x) where
  by : (b : Bool) → Sub (map at_of (only_if b (named x p ∷ []))) (new_name r x p ∷ w)
  by true = take (none w)
  by false = none (new_name r x p ∷ w)

-- what one block has and then what another has
blocks_sub : (scope : List Name) (ss rs : List Stmt) {w u : List Part} (t : Part) → InBlock w ss → InBlock u rs
    → Sub (map at_of (in_block (map in_stmt ss) scope ++ in_block (map in_stmt rs) scope)) (w ++ t ∷ u)
blocks_sub scope ss rs {w} {u} t a b =
    subst (λ (ps : List Place). Sub ps (w ++ t ∷ u))
    (sym (places_both at_of (in_block (map in_stmt ss) scope) (in_block (map in_stmt rs) scope)))
    (both (a scope) (skip (b scope)))

mutual
  stmt_found : {d k m : ℕ} (w : List Part) (s : Stmt) → IsStmt d k w s m → (scope : List Name)
      → Sub (map at_of ((in_stmt s).found scope)) w
  stmt_found _ _ (IsStmt.block c {ss = ss} i) =
      found_in _ _ _ (outs-Block ss) (λ scope. skip (before (_ ∷ []) (stmts_found _ ss i scope)))
  stmt_found _ _ (IsStmt.local {x = x} {p = p} o s {u = u} {v = v} {fixed = fixed} {t = t} {e = e} f i j) =
      found_in _ _ _ (outs-Local fixed t (named x p) e) (λ scope. behind u (behind v (local_sub scope _ x p _)))
  stmt_found _ _ (IsStmt.assign {x = x} {p = p} s {e = e} i) =
      found_in _ _ _ (outs-Assign (named x p) e) (λ scope. none _)
  stmt_found _ _ (IsStmt.set_field {x = x} b n o s {t = t} {e = e} i j) =
      found_in _ _ _ (outs-Set t (named x n) e) (λ scope. none _)
  stmt_found _ _ (IsStmt.act s {e = e} i) = found_in _ _ _ (outs-Do e) (λ scope. none _)
  stmt_found _ _ (IsStmt.choice {p = p} c b e {v = v} {w = w} {t = t} {ss = ss} {rs = rs} i j k) =
      found_in _ _ _ (outs-If t ss rs p)
      (λ scope. skip (skip (behind v (skip
      (skip (blocks_sub scope ss rs (mark CloseBrace e) (stmts_found _ ss j) (else_found _ rs k)))))))
  stmt_found _ _ (IsStmt.turns {p = p} c b e {v = v} {t = t} {ss = ss} i j) =
      found_in _ _ _ (outs-While t ss p)
      (λ scope. skip (skip (behind v (skip (skip (before (_ ∷ []) (stmts_found _ ss j scope)))))))
  stmt_found _ _ (IsStmt.leave {p = p}) = found_in _ _ _ (outs-Return None p) (λ scope. none _)
  stmt_found _ _ (IsStmt.give {p = p} s {e = e} i) = found_in _ _ _ (outs-Return (Some e) p) (λ scope. none _)
  stmt_found _ _ (IsStmt.print {p = p} c s {e = e} i) = found_in _ _ _ (outs-Print e p) (λ scope. none _)
  stmt_found _ _ (IsStmt.print_text {n = n} {p = p}) = found_in _ _ _ (outs-PrintText n p) (λ scope. none _)

  else_found : {d k m : ℕ} (w : List Part) (ss : List Stmt) → IsElse d k w ss m → InBlock w ss
  else_found _ _ IsElse.no_else scope = none []
  else_found _ _ (IsElse.otherwise c {ss = ss} i) scope = skip (skip (before (_ ∷ []) (stmts_found _ ss i scope)))

  pub stmts_found : {d k m : ℕ} (w : List Part) (ss : List Stmt) → IsStmts d k w ss m → InBlock w ss
  stmts_found _ _ IsStmts.no_stmt scope = none []
  stmts_found _ _ (IsStmts.then_stmt {v = v} {w = w} {s = s} {ss = ss} i j) scope =
      subst (λ (ps : List Place). Sub ps (v ++ w))
      (sym (places_both at_of ((in_stmt s).found scope) (in_block (map in_stmt ss) ((in_stmt s).binds ++ scope))))
      (both (stmt_found v s i scope) (stmts_found w ss j ((in_stmt s).binds ++ scope)))

-- ---- parameters

param_sub : {d k : ℕ} (w : List Part) (t : Param) → IsParam d k w t → Sub ((param_name t).at ∷ []) w
param_sub _ _ (IsParam.param p {u = u} {v = v} f i) = behind u (behind v (take (none [])))

more_params_sub : {d k : ℕ} (w : List Part) (ts : List Param) → IsMoreParams d k w ts
    → Sub (map at_of (map param_name ts)) w
more_params_sub _ _ IsMoreParams.no_more_param = none []
more_params_sub _ _ (IsMoreParams.then_param {v = v} {w = w} {t = t} {ts = ts} i j) =
    skip (both (param_sub v t i) (more_params_sub w ts j))

pub params_sub : {d : ℕ} (w : List Part) (ts : List Param) → IsParams d w ts → Sub (map at_of (map param_name ts)) w
params_sub _ _ IsParams.no_param = none []
params_sub _ _ (IsParams.params {v = v} {w = w} {t = t} {ts = ts} i j) =
    both (param_sub v t i) (more_params_sub w ts j)
