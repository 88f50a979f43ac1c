-- The grammar of statements. `IsX d k w t m`: the words w are an X with the tree t, where d marks and prefix operators
-- are open around them, k locals stand before them in the body and m with theirs.
use Rattle.std.specs.Prelude.{ℕ, suc, Bool, true, false, List, [], ◌∷◌, ◌++◌, Some, None}
use Rattle.jn_base.specs.declared.tree.Name.{Name}
use Rattle.jn_base.specs.declared.tree.Place.{Place}
use Rattle.jn_base.specs.declared.tree.TypeTerm.{TypeTerm}
use Rattle.jn_base.specs.declared.tree.Expr.{Expr}
use Rattle.jn_base.specs.declared.tree.Stmt.{Stmt}
use Rattle.jn_base.specs.declared.tree.Stmt.TheVariants as stmt
use Rattle.jn_base.specs.declared.word.Keyword.TheVariants.{Else, Final, If, Print, Return, While}
use Rattle.jn_base.specs.declared.word.Mark.TheVariants.{CloseBrace, CloseParen, Dot, Equals, OpenBrace, OpenParen, Semicolon}
use Rattle.jn_base.specs.Parts.{Part, Local, key, mark, name, text, opening, new_name, named}
use Rattle.jn_base.specs.GrammarTypes.{IsType}
use Rattle.jn_base.specs.GrammarExpr.{IsExpr, IsPost, IsCall}

-- ["final"]
pub data IsFinal : List Part → Bool → Type 0 where
  not_final : IsFinal [] false
  final : {p : Place} → IsFinal (key Final p ∷ []) true

mutual
  pub data IsStmt : ℕ → ℕ → List Part → Stmt → ℕ → Type 0 where
    -- Block
    block : {d k m : ℕ} {o : Place} (c : Place) {w : List Part} {ss : List Stmt} → IsStmts (suc d) k w ss m
        → IsStmt d k (opening d OpenBrace o ∷ (w ++ mark CloseBrace c ∷ [])) (stmt.Block ss) m
    -- ["final"] Type Name "=" Expr ";"
    local : {d k : ℕ} {x : Name} {p q : Place} (o s : Place) {u v w : List Part} {fixed : Bool} {t : TypeTerm} {e : Expr}
        → IsFinal u fixed → IsType d v t → IsExpr d q w e
        → IsStmt d k (u ++ (v ++ (new_name (Local (suc k)) x p ∷ mark Equals o ∷ (w ++ mark Semicolon s ∷ []))))
        (stmt.Local fixed t (named x p) e) (suc k)
    -- Name "=" Expr ";"
    assign : {d k : ℕ} {x : Name} {p q o : Place} (s : Place) {w : List Part} {e : Expr} → IsExpr d q w e
        → IsStmt d k (name x p ∷ mark Equals o ∷ (w ++ mark Semicolon s ∷ [])) (stmt.Assign (named x p) e) k
    -- Post "." Name "=" Expr ";"
    set_field : {d k : ℕ} {x : Name} {p q : Place} (b n o s : Place) {v w : List Part} {t e : Expr} → IsPost d p v t → IsExpr d q w e
        → IsStmt d k (v ++ (mark Dot b ∷ name x n ∷ mark Equals o ∷ (w ++ mark Semicolon s ∷ []))) (stmt.Set t (named x n) e) k
    -- Call ";"
    act : {d k : ℕ} (s : Place) {w : List Part} {e : Expr} → IsCall d w e → IsStmt d k (w ++ mark Semicolon s ∷ []) (stmt.Do e) k
    -- "if" "(" Expr ")" Block ["else" Block]
    choice : {d k m n : ℕ} {p q o : Place} (c b e : Place) {v w u : List Part} {t : Expr} {ss rs : List Stmt}
        → IsExpr (suc d) q v t → IsStmts (suc d) k w ss m → IsElse d m u rs n
        → IsStmt d k (key If p ∷ opening d OpenParen o ∷ (v ++ (mark CloseParen c ∷ opening d OpenBrace b ∷ (w ++ (mark CloseBrace e ∷ u)))))
        (stmt.If t ss rs p) n
    -- "while" "(" Expr ")" Block
    turns : {d k m : ℕ} {p q o : Place} (c b e : Place) {v w : List Part} {t : Expr} {ss : List Stmt}
        → IsExpr (suc d) q v t → IsStmts (suc d) k w ss m
        → IsStmt d k (key While p ∷ opening d OpenParen o ∷ (v ++ (mark CloseParen c ∷ opening d OpenBrace b ∷ (w ++ mark CloseBrace e ∷ []))))
        (stmt.While t ss p) m
    -- "return" [Expr] ";"
    leave : {d k : ℕ} {p s : Place} → IsStmt d k (key Return p ∷ mark Semicolon s ∷ []) (stmt.Return None p) k
    give : {d k : ℕ} {p q : Place} (s : Place) {w : List Part} {e : Expr} → IsExpr d q w e
        → IsStmt d k (key Return p ∷ (w ++ mark Semicolon s ∷ [])) (stmt.Return (Some e) p) k
    -- "print" "(" (Expr | Text) ")" ";"
    print : {d k : ℕ} {p q o : Place} (c s : Place) {w : List Part} {e : Expr} → IsExpr (suc d) q w e
        → IsStmt d k (key Print p ∷ opening d OpenParen o ∷ (w ++ mark CloseParen c ∷ mark Semicolon s ∷ [])) (stmt.Print e p) k
    print_text : {d k n : ℕ} {p o q c s : Place}
        → IsStmt d k (key Print p ∷ opening d OpenParen o ∷ text n q ∷ mark CloseParen c ∷ mark Semicolon s ∷ []) (stmt.PrintText n p) k

  -- ["else" Block]: none is the same as an empty block
  pub data IsElse : ℕ → ℕ → List Part → List Stmt → ℕ → Type 0 where
    no_else : {d k : ℕ} → IsElse d k [] [] k
    otherwise : {d k m : ℕ} {p o : Place} (c : Place) {w : List Part} {ss : List Stmt} → IsStmts (suc d) k w ss m
        → IsElse d k (key Else p ∷ opening d OpenBrace o ∷ (w ++ mark CloseBrace c ∷ [])) ss m

  -- { Stmt }
  pub data IsStmts : ℕ → ℕ → List Part → List Stmt → ℕ → Type 0 where
    no_stmt : {d k : ℕ} → IsStmts d k [] [] k
    then_stmt : {d k m n : ℕ} {v w : List Part} {s : Stmt} {ss : List Stmt} → IsStmt d k v s m → IsStmts d m w ss n
        → IsStmts d k (v ++ w) (s ∷ ss) n
