-- A body declares no more locals than it has tokens.
use Rattle.std.proofs.Common.{◌≡◌, ℕ, suc, ◌+◌, ◌≤◌, List, [], ◌∷◌, ◌++◌, length, sym, ap, ◌∙◌, arith, Some}
use Rattle.std.proofs.lemmas.List.{length-append}
use Rattle.jn_base.specs.declared.tree.Stmt.{Stmt, roll-Stmt}
use Rattle.jn_base.specs.declared.tree.Stmt.TheOpen.{Stmt-F}
use Rattle.jn_base.specs.declared.tree.Stmt.TheFolds.{map-Stmt, para-roll-Stmt}
use Rattle.jn_base.specs.declared.tree.Stmt.TheVariants as stmt
use Rattle.jn_base.specs.declared.word.Mark.TheVariants.{CloseBrace, CloseParen, Equals, OpenBrace, Semicolon}
use Rattle.jn_base.specs.Parts.{Part, Local, mark, opening, new_name, named}
use Rattle.jn_base.specs.GrammarStmt as s
use Rattle.jn_sem.specs.Acts.{InBody, in_body, with_work, stmt_step, path_behind}

behind : Stmt → ℕ → ℕ
behind s n = (in_body s).path_after n

behind_is : (s : Stmt) (f : Stmt-F Stmt) → roll-Stmt f ≡ s → (n : ℕ) →
    behind s n ≡ (stmt_step (map-Stmt Stmt (Stmt × InBody) with_work f)).path_after n
unfolding behind
behind_is s f e n =
    ap (λ (t : Stmt). (in_body t).path_after n) (sym e)
    ∙ ap (λ (x : InBody). x.path_after n) (para-roll-Stmt InBody stmt_step f)

mutual
  unfolding behind

  stmt_few : (d k m : ℕ) (w : List Part) (z : Stmt) (n : ℕ) → s.IsStmt d k w z m → behind z n ≤ n + length w
  stmt_few d k m w z n (s.block c {w = u} {ss = ss} body) =
      let q = behind_is z _ (stmt.rolls-Block ss) n in
      let a = stmts_few (suc d) k m u ss n body in
      let l = length-append u (mark CloseBrace c ∷ []) in
      omega (arith, q, a, l)
  stmt_few d k m w z n (s.local {x = x} {p = p} {q = q} o y {u = f} {v = v} {w = u} {fixed = final} {t = t} {e = e}
      is type value) =
      let h = behind_is z _ (stmt.rolls-Local final t (named x p) e) n in
      let l = length-append f (v ++ (new_name (Local (suc k)) x p ∷ mark Equals o ∷ (u ++ mark Semicolon y ∷ []))) in
      let r = length-append v (new_name (Local (suc k)) x p ∷ mark Equals o ∷ (u ++ mark Semicolon y ∷ [])) in
      omega (arith, h, l, r)
  stmt_few d k m w z n (s.assign {x = x} {p = p} y {e = e} value) =
      let h = behind_is z _ (stmt.rolls-Assign (named x p) e) n in omega (arith, h)
  stmt_few d k m w z n (s.set_field {x = x} b f o y {t = t} {e = e} receiver value) =
      let h = behind_is z _ (stmt.rolls-Set t (named x f) e) n in omega (arith, h)
  stmt_few d k m w z n (s.act y {e = e} value) = let h = behind_is z _ (stmt.rolls-Do e) n in omega (arith, h)
  stmt_few d k m w z n (s.choice {m = m1} {p = p} {o = o} c b y {v = v} {w = u} {u = x} {t = t} {ss = ss} {rs = rs}
      test one other) =
      let q = behind_is z _ (stmt.rolls-If t ss rs p) n in
      let f = stmts_few (suc d) k m1 u ss n one in
      let h = else_few d m1 m x rs (path_behind ss n) other in
      let l = length-append v (mark CloseParen c ∷ opening d OpenBrace b ∷ (u ++ (mark CloseBrace y ∷ x))) in
      let r = length-append u (mark CloseBrace y ∷ x) in
      omega (arith, q, f, h, l, r)
  stmt_few d k m w z n (s.turns {p = p} {o = o} c b y {v = v} {w = u} {t = t} {ss = ss} test body) =
      let q = behind_is z _ (stmt.rolls-While t ss p) n in
      let f = stmts_few (suc d) k m u ss n body in
      let l = length-append v (mark CloseParen c ∷ opening d OpenBrace b ∷ (u ++ mark CloseBrace y ∷ [])) in
      let r = length-append u (mark CloseBrace y ∷ []) in
      omega (arith, q, f, l, r)
  stmt_few d k m w z n (s.leave {p = p}) = let h = behind_is z _ (stmt.rolls-Return _ p) n in omega (arith, h)
  stmt_few d k m w z n (s.give {p = p} y {e = e} value) =
      let h = behind_is z _ (stmt.rolls-Return (Some e) p) n in omega (arith, h)
  stmt_few d k m w z n (s.print {p = p} c y {e = e} value) =
      let h = behind_is z _ (stmt.rolls-Print e p) n in omega (arith, h)
  stmt_few d k m w z n (s.print_text {n = x} {p = p}) =
      let h = behind_is z _ (stmt.rolls-PrintText x p) n in omega (arith, h)

  else_few : (d k m : ℕ) (w : List Part) (ss : List Stmt) (n : ℕ) → s.IsElse d k w ss m →
      path_behind ss n ≤ n + length w
  else_few d k m w ss n s.no_else = omega arith
  else_few d k m w ss n (s.otherwise {o = o} c {w = u} body) =
      let a = stmts_few (suc d) k m u ss n body in
      let l = length-append u (mark CloseBrace c ∷ []) in
      omega (arith, a, l)

  pub stmts_few : (d k m : ℕ) (w : List Part) (ss : List Stmt) (n : ℕ) → s.IsStmts d k w ss m →
      path_behind ss n ≤ n + length w
  stmts_few d k m w ss n s.no_stmt = omega arith
  stmts_few d k m w ss n (s.then_stmt {m = m1} {v = v} {w = u} {s = z} {ss = more} one rest) =
      let a = stmt_few d k m1 v z n one in
      let b = stmts_few d m1 m u more (behind z n) rest in
      let l = length-append v u in
      omega (arith, a, b, l)
