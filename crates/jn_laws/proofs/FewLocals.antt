-- The numbers of locals: the grammar counts them as paths are numbered, and the limit keeps them small.
use Rattle.std.proofs.Common.{◌≡◌, ◌≤◌, ◌+◌, ℕ, suc, List, length, refl, sym, ap, ◌∙◌, arith, Some}
use Rattle.jn_base.specs.declared.tree.Stmt.{Stmt, roll-Stmt}
use Rattle.jn_base.specs.declared.tree.Stmt.TheOpen.{Stmt-F}
use Rattle.jn_base.specs.declared.tree.Stmt.TheFolds.{map-Stmt, para-roll-Stmt}
use Rattle.jn_base.specs.declared.tree.Stmt.TheVariants as stmt
use Rattle.jn_base.specs.declared.refusal.Limit.TheVariants as limit
use Rattle.jn_base.specs.Parts.{Part, Local, new_name, named}
use Rattle.jn_base.specs.GrammarStmt.{IsStmt, IsElse, IsStmts}
use Rattle.jn_base.specs.Spelling.{limit_of}
use Rattle.jn_base.specs.Atoms.{Among, first, later}
use Rattle.jn_sem.proofs.FindingLaws.{contains_of}
use Rattle.jn_sem.specs.Acts.{InBody, in_body, with_work, stmt_step, path_behind}
use Rattle.jn_laws.specs.LawsOfBodies.{TextsHaveFewLocals}
use Rattle.jn_laws.proofs.Lists.{among_left, among_right}
use Rattle.jn_laws.proofs.SpelledForms.{Within, MethodIn, method_formed}
use Rattle.jn_laws.proofs.CleanTexts.{at_most, within_limits, texts_keep_limits}

-- ---- paths go on by the number of locals

behind : Stmt → ℕ → ℕ
behind s n = (in_body s).path_after n

behind_is : (s : Stmt) (f : Stmt-F Stmt) → roll-Stmt f ≡ s → (n : ℕ) → behind s n ≡ (stmt_step (map-Stmt Stmt (Stmt × InBody) with_work f)).path_after n
unfolding behind
behind_is s f e n = ap (λ (t : Stmt). (in_body t).path_after n) (sym e) ∙ ap (λ (x : InBody). x.path_after n) (para-roll-Stmt InBody stmt_step f)

mutual
  unfolding behind

  stmt_counts : {d k m : ℕ} {w : List Part} {s : Stmt} (n : ℕ) → IsStmt d k w s m → behind s (n + k) ≡ n + m
  stmt_counts n (IsStmt.block c {ss = ss} i) = behind_is _ _ (stmt.rolls-Block ss) _ ∙ stmts_count n i
  stmt_counts n (IsStmt.local {x = x} {p = p} o s {fixed = fixed} {t = t} {e = e} f i j) = behind_is _ _ (stmt.rolls-Local fixed t (named x p) e) _ ∙ omega arith
  stmt_counts n (IsStmt.assign {x = x} {p = p} s {e = e} i) = behind_is _ _ (stmt.rolls-Assign (named x p) e) _
  stmt_counts n (IsStmt.set_field {x = x} b f o s {t = t} {e = e} i j) = behind_is _ _ (stmt.rolls-Set t (named x f) e) _
  stmt_counts n (IsStmt.act s {e = e} i) = behind_is _ _ (stmt.rolls-Do e) _
  stmt_counts n (IsStmt.choice {p = p} c b e {t = t} {ss = ss} {rs = rs} i j k) =
      behind_is _ _ (stmt.rolls-If t ss rs p) _ ∙ ap (path_behind rs) (stmts_count n j) ∙ else_counts n k
  stmt_counts n (IsStmt.turns {p = p} c b e {t = t} {ss = ss} i j) = behind_is _ _ (stmt.rolls-While t ss p) _ ∙ stmts_count n j
  stmt_counts n (IsStmt.leave {p = p}) = behind_is _ _ (stmt.rolls-Return _ p) _
  stmt_counts n (IsStmt.give {p = p} s {e = e} i) = behind_is _ _ (stmt.rolls-Return (Some e) p) _
  stmt_counts n (IsStmt.print {p = p} c s {e = e} i) = behind_is _ _ (stmt.rolls-Print e p) _
  stmt_counts n (IsStmt.print_text {n = t} {p = p}) = behind_is _ _ (stmt.rolls-PrintText t p) _

  else_counts : {d k m : ℕ} {w : List Part} {ss : List Stmt} (n : ℕ) → IsElse d k w ss m → path_behind ss (n + k) ≡ n + m
  else_counts n IsElse.no_else = refl
  else_counts n (IsElse.otherwise c i) = stmts_count n i

  stmts_count : {d k m : ℕ} {w : List Part} {ss : List Stmt} (n : ℕ) → IsStmts d k w ss m → path_behind ss (n + k) ≡ n + m
  stmts_count n IsStmts.no_stmt = refl
  stmts_count n (IsStmts.then_stmt {ss = ss} i more) = ap (path_behind ss) (stmt_counts n i) ∙ stmts_count n more

-- ---- the last local counts them all

-- no local stands in the words, or one counts so many
data Last (w : List Part) (k m : ℕ) : Type 0 where
  no_local : m ≡ k → Last w k m
  last_local : (t : Part) → Among w t → t.role ≡ Local m → Last w k m

within : {v w : List Part} {k m : ℕ} → ((t : Part) → Among v t → Among w t) → Last v k m → Last w k m
within h (no_local e) = no_local e
within h (last_local t c e) = last_local t (h t c) e

then_more : {v u w : List Part} {k m n : ℕ} → ((t : Part) → Among v t → Among w t) → ((t : Part) → Among u t → Among w t) → Last v k m → Last u m n → Last w k n
then_more f g a (last_local t c e) = last_local t (g t c) e
then_more f g (no_local i) (no_local e) = no_local (e ∙ i)
then_more {m = m} f g (last_local t c i) (no_local e) = last_local t (f t c) (i ∙ ap Local (sym e))

mutual
  stmt_last : {d k m : ℕ} {w : List Part} {s : Stmt} → IsStmt d k w s m → Last w k m
  stmt_last (IsStmt.block {o = o} c {w = w} i) = within (λ t a. later (among_left w _ a)) (stmts_last i)
  stmt_last (IsStmt.local {k = k} {x = x} {p = p} o s {u = u} {v = v} f i j) =
      last_local (new_name (Local (suc k)) x p) (among_right u _ (among_right v _ first)) refl
  stmt_last (IsStmt.assign s i) = no_local refl
  stmt_last (IsStmt.set_field b f o s i j) = no_local refl
  stmt_last (IsStmt.act s i) = no_local refl
  stmt_last (IsStmt.choice c b e {v = v} {w = w} {u = u} i j k) =
      then_more
      (λ t a. later (later (among_right v _ (later (later (among_left w _ a))))))
      (λ t a. later (later (among_right v _ (later (later (among_right w _ (later a)))))))
      (stmts_last j) (else_last k)
  stmt_last (IsStmt.turns c b e {v = v} {w = w} i j) = within (λ t a. later (later (among_right v _ (later (later (among_left w _ a)))))) (stmts_last j)
  stmt_last IsStmt.leave = no_local refl
  stmt_last (IsStmt.give s i) = no_local refl
  stmt_last (IsStmt.print c s i) = no_local refl
  stmt_last IsStmt.print_text = no_local refl

  else_last : {d k m : ℕ} {w : List Part} {ss : List Stmt} → IsElse d k w ss m → Last w k m
  else_last IsElse.no_else = no_local refl
  else_last (IsElse.otherwise c {w = w} i) = within (λ t a. later (later (among_left w _ a))) (stmts_last i)

  stmts_last : {d k m : ℕ} {w : List Part} {ss : List Stmt} → IsStmts d k w ss m → Last w k m
  stmts_last IsStmts.no_stmt = no_local refl
  stmts_last (IsStmts.then_stmt {v = v} {w = w} i more) = then_more (λ t a. among_left v w a) (λ t a. among_right v w a) (stmt_last i) (stmts_last more)

pub texts_have_few_locals : TextsHaveFewLocals
unfolding Within
texts_have_few_locals p bytes text Q m x at = few (stmts_last f.formed.body) where
  f : MethodIn text.spelled.parts x
  f = method_formed p text.spelled.parts text.spelled.is_program Q m x at

  n : ℕ
  n = suc (length x.params)

  whole : path_behind x.body n ≡ n + f.formed.locals
  whole = ap (path_behind x.body) (zero_more n) ∙ stmts_count n f.formed.body where
    zero_more : (k : ℕ) → k ≡ k + 0
    zero_more k = omega arith

  params : length x.params ≤ 15
  params = (texts_keep_limits p bytes text).params Q m x at

  few : Last f.formed.body_words 0 f.formed.locals → path_behind x.body n ≤ 216
  few (no_local e) = omega (arith, whole, params, e)
  few (last_local t c e) =
      let l = at_most 200 f.formed.locals limit.Locals (λ i. within_limits p bytes text t (f.body_within t (contains_of f.formed.body_words t c)) limit.Locals (ap limit_of e ∙ i)) in
      omega (arith, whole, params, l)
