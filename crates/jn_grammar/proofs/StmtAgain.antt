-- What is in the grammar of statements and blocks is read, with its tree, whatever fits behind it.
use Rattle.std.proofs.Common.{◌≡◌, ℕ, zero, suc, ◌+◌, ◌≤◌, true, false, List, [], ◌∷◌, ◌++◌, length, Option, Some, None, Ok, refl, sym, ◌∙◌, ap, subst, append_assoc, arith}
use Rattle.std.specs.Prelude.{IsSome, not}
use Rattle.jn_base.specs.declared.tree.Name.{Name}
use Rattle.jn_base.specs.declared.tree.Place.{Place}
use Rattle.jn_base.specs.declared.tree.Named.{Named}
use Rattle.jn_base.specs.declared.tree.TypeTerm.{TypeTerm}
use Rattle.jn_base.specs.declared.tree.Term.{Term}
use Rattle.jn_base.specs.declared.tree.Expr.{Expr}
use Rattle.jn_base.specs.declared.tree.Suffix.{Suffix, out-Suffix}
use Rattle.jn_base.specs.declared.tree.Stmt.{Stmt}
use Rattle.jn_base.specs.declared.tree.Stmt.TheVariants as stmt
use Rattle.jn_base.specs.declared.word.Keyword.TheVariants.{Else, False, If, New, Null, Super, This, True, While}
use Rattle.jn_base.specs.declared.word.Mark.TheVariants.{Bang, CloseBrace, CloseParen, Dot, Equals, Minus, OpenBrace, OpenParen, Semicolon}
use Rattle.jn_base.specs.declared.word.Word.{Word}
use Rattle.jn_base.specs.declared.word.Word.TheVariants.{Name as Named_, Keyword as Key, Number, Text, Mark as Marked}
use Rattle.jn_base.specs.declared.word.Lexeme.{Lexeme}
use Rattle.jn_base.specs.Words.{lexeme}
use Rattle.jn_base.specs.Parts.{Part, key, mark, name, text, opening, atom, named, suffix, posted}
use Rattle.jn_base.specs.GrammarTypes.{IsType, int, boolean, class}
use Rattle.jn_base.specs.GrammarExpr.{IsForm, new_object, super_call, IsPrim, constant, yes, no, null, this_object, variable, parens, form, IsSuffixes, no_suffix, then_suffix, field, call, post, EndsInCall, IsCall, called, formed}
use Rattle.jn_base.specs.GrammarStmt.{not_final, final, IsStmt, block, local, assign, set_field, act, choice, turns, leave, give, print, print_text, IsElse, no_else, otherwise, IsStmts, no_stmt, then_stmt}
use Rattle.jn_grammar.specs.Begins.{begins, behind, lexemes, is_word}
use Rattle.jn_grammar.specs.Answers.{Answer, ◌>>=◌, expect, row}
use Rattle.jn_grammar.specs.ReadExprs.{level, prim_in, suffix_in, expr_in}
use Rattle.jn_grammar.specs.ReadTypes.{is_head}
use Rattle.jn_grammar.specs.ReadStmts.{Shape, in_body, value_in, tested_in, test_in, return_in, printed_by, printed_in, print_open_in, print_in, grow_by, grown, shape_of, named_of, but_last, last_name, begins_class, assign_in, set_in, simple_by, simple_in, led_in, block_in, else_in, if_in, while_in, block_stmt_in, same_count, stmt_by, stmt_in, stmts_in, stmts_of}
use Rattle.jn_grammar.specs.declared.shape.Shape.TheVariants as shape
use Rattle.jn_grammar.proofs.FirstWords.{never}
use Rattle.jn_grammar.proofs.Tools.{Below}
use Rattle.jn_grammar.proofs.Counting.{Counted, none, next, counted_again}
use Rattle.jn_grammar.proofs.TermsSound.{IsAtom, one_atom}
use Rattle.jn_grammar.proofs.Meets.{meets, words_append, Reads, then_reads, if_true, if_false}
use Rattle.jn_grammar.proofs.TermsAgain.{read_then}
use Rattle.jn_grammar.proofs.TypesAgain.{TermHead, term_head, head_of, AtomsRow, atoms_row, row_atoms}
use Rattle.jn_grammar.proofs.ChainAgain.{is_start, Starts, starts}
use Rattle.jn_grammar.proofs.ExprAgain.{EndsPost, paren_ends, denied_again, allowed_again, deeper, prim_again, suffixes_again}
use Rattle.jn_grammar.proofs.LevelsAgain.{prim_starts, expr_starts, expr_again, agains_below}
use Rattle.jn_grammar.proofs.Shapes.{IsField, IsCalled, args_of_suffix, name_of_suffix}
use Rattle.jn_grammar.proofs.LocalSound.{StmtOf, one_new_name, IsValue, valued}
use Rattle.jn_grammar.proofs.StmtSound.{IsTest, tested, IsBlock, braced, around, IsShown, shown_expr, shown_text}
use Rattle.jn_grammar.proofs.LocalAgain.{value_again, local_again, type_local_again}

-- ---- how statements begin

pub data StmtHead : List Part → Type 0 where
  stmt_head : {t : Part} {w : List Part} → is_word (Marked CloseBrace) t.word ≡ false → is_word (Key Else) t.word ≡ false → StmtHead (t ∷ w)

pub head_append : {w : List Part} → StmtHead w → (u : List Part) → StmtHead (w ++ u)
head_append (stmt_head a b) u = stmt_head a b

start_head : (k : Word) → is_start k ≡ true → (is_word (Marked CloseBrace) k ≡ false) × (is_word (Key Else) k ≡ false)
start_head (Number v) h = (refl, refl)
start_head (Named_ x) h = (refl, refl)
start_head (Key True) h = (refl, refl)
start_head (Key False) h = (refl, refl)
start_head (Key Null) h = (refl, refl)
start_head (Key This) h = (refl, refl)
start_head (Key New) h = (refl, refl)
start_head (Key Super) h = (refl, refl)
start_head (Key k) h = absurd (never h)
start_head (Marked OpenParen) h = (refl, refl)
start_head (Marked Bang) h = (refl, refl)
start_head (Marked Minus) h = (refl, refl)
start_head (Marked m) h = absurd (never h)
start_head k h = absurd (never h)

pub starts_head : {p : Place} {w : List Part} → Starts p w → StmtHead w
starts_head (starts {t} h e) = let r = start_head t.word h in stmt_head r.0 r.1

pub atom_head : {d k : ℕ} {w : List Part} {t : Term} → IsAtom d k w t → StmtHead w
atom_head {k = k} (one_atom {w = w} i) = by_head (head_of i)
  where
    by_word : (k : Word) → is_head k ≡ true → (is_word (Marked CloseBrace) k ≡ false) × (is_word (Key Else) k ≡ false)
    by_word (Key This) h = (refl, refl)
    by_word (Named_ x) h = (refl, refl)
    by_word k h = absurd (never h)

    by_head : {w : List Part} → TermHead w → StmtHead (atom k w)
    by_head (term_head {t} h q) = let r = by_word t.word h in stmt_head r.0 r.1

pub type_head : {d : ℕ} {w : List Part} {t : TypeTerm} → IsType d w t → StmtHead w
type_head int = stmt_head refl refl
type_head boolean = stmt_head refl refl
type_head (class {v = u} {w} i m) = head_append (by_row (row_atoms i)) w
  where
    by_row : {d : ℕ} {u : List Part} {ts : List Term} → AtomsRow d 1 u ts → StmtHead u
    by_row (atoms_row {w = w} a as_) = head_append (atom_head a) w

call_head : {d : ℕ} {w : List Part} {e : Expr} → IsCall d w e → StmtHead w
call_head (called {w = u} i is c) = head_append (starts_head (prim_starts i)) u
call_head (formed i) = starts_head (prim_starts (form i))

pub stmt_starts : {d k m : ℕ} {w : List Part} {s : Stmt} → IsStmt d k w s m → StmtHead w
stmt_starts (block c i) = stmt_head refl refl
stmt_starts (local o s {v = u} not_final i j) = head_append (type_head i) _
stmt_starts (local o s final i j) = stmt_head refl refl
stmt_starts (assign s i) = stmt_head refl refl
stmt_starts (set_field b n o s (post {w = u} i is) j) = head_append (head_append (starts_head (prim_starts i)) u) _
stmt_starts (act s i) = head_append (call_head i) _
stmt_starts (choice c b e i j u) = stmt_head refl refl
stmt_starts (turns c b e i j) = stmt_head refl refl
stmt_starts leave = stmt_head refl refl
stmt_starts (give s i) = stmt_head refl refl
stmt_starts (print c s i) = stmt_head refl refl
stmt_starts print_text = stmt_head refl refl

pub by_head : {w : List Part} → StmtHead w → (v : List Lexeme) → (in_body (lexemes w ++ v) ≡ true) × (1 ≤ length w) × (begins (Key Else) (lexemes w ++ v) ≡ false)
by_head (stmt_head a b) v = (ap not a, omega arith, b)

-- ---- statements that begin with a Prim

-- a Prim and its parts, and what follows them
simple_again : (n d k : ℕ) → d + n ≡ 200 → {p : Place} {w u : List Part} {e : Expr} {ss : List Suffix} → IsPrim d p w e → IsSuffixes d u ss → (z : List Part) (v : List Lexeme) → EndsPost (lexemes z ++ v) → (x : Stmt × ℕ)
    → let whole : List Lexeme = lexemes (w ++ (u ++ z)) ++ v in simple_by true n (grown (shape_of whole) ss) k (named_of whole) e ss (lexemes z ++ v) ≡ meets z v (Ok (x, v)) → Reads (simple_in true n k) (w ++ (u ++ z)) v x
unfolding simple_in
simple_again n d k room {p} {w} {u} {e} {ss} i is z v a x h =
    let whole : List Lexeme = lexemes (w ++ (u ++ z)) ++ v in
    then_reads (prim_in (level n)) (λ e. row (begins (Marked Dot)) (suffix_in (level n)) 1 e.1 >>= λ ss. simple_by true n (grown (shape_of whole) ss.0) k (named_of whole) e.0 ss.0 ss.1) w (u ++ z) v e _
    (prim_again n (agains_below n) i room (lexemes (u ++ z) ++ v))
    (then_reads (row (begins (Marked Dot)) (suffix_in (level n)) 1) (λ ss. simple_by true n (grown (shape_of whole) ss.0) k (named_of whole) e ss.0 ss.1) u z v ss _
    (suffixes_again n (agains_below n) is room (lexemes z ++ v) a) h)

set_by : (n k : ℕ) (z : Shape) → IsField z → (first : Named) (e : Expr) (ss : List Suffix) (ts : List Lexeme) → begins (Marked Equals) ts ≡ true → simple_by true n z k first e ss ts ≡ set_in true n k first.at e ss (behind ts)
unfolding simple_by
set_by n k shape.Name h first e ss ts q = absurd h
set_by n k shape.Path h first e ss ts q = if_true (begins (Marked Equals) ts) _ _ q
set_by n k shape.Call h first e ss ts q = absurd h
set_by n k shape.Part h first e ss ts q = if_true (begins (Marked Equals) ts) _ _ q
set_by n k shape.Bare h first e ss ts q = absurd h

act_by : (n k : ℕ) (z : Shape) → IsCalled z → (first : Named) (e : Expr) (ss : List Suffix) (ts : List Lexeme) → begins (Marked Semicolon) ts ≡ true → simple_by true n z k first e ss ts ≡ Ok ((stmt.Do (posted first.at e ss), k), behind ts)
unfolding simple_by
act_by n k shape.Name h first e ss ts q = absurd h
act_by n k shape.Path h first e ss ts q = absurd h
act_by n k shape.Call h first e ss ts q = if_true (begins (Marked Semicolon) ts) _ _ q
act_by n k shape.Part h first e ss ts q = absurd h
act_by n k shape.Bare h first e ss ts q = absurd h

named_at : {p : Place} {w : List Part} → Starts p w → (v : List Lexeme) → (named_of (lexemes w ++ v)).at ≡ p
named_at (starts h e) v = e

-- a field behind a row of parts
with_field : {d : ℕ} {u : List Part} {ss : List Suffix} → IsSuffixes d u ss → (o : Place) (x : Name) (p : Place) → IsSuffixes d (u ++ mark Dot o ∷ name x p ∷ []) (ss ++ suffix x p None ∷ [])
with_field no_suffix o x p = then_suffix field no_suffix
with_field (then_suffix {d = d} {v = w} {w = u} {s = s} {ss} i is) o x p =
    subst (λ z. IsSuffixes d z (s ∷ (ss ++ suffix x p None ∷ []))) (sym (append_assoc w u (mark Dot o ∷ name x p ∷ []))) (then_suffix i (with_field is o x p))

field_shape : (z : Shape) → IsField (grow_by None z)
field_shape shape.Name = tt
field_shape shape.Path = tt
field_shape shape.Call = tt
field_shape shape.Part = tt
field_shape shape.Bare = tt

ends_field : (ss : List Suffix) (z : Shape) (x : Name) (p : Place) → IsField (grown z (ss ++ suffix x p None ∷ []))
ends_field [] z x p = subst (λ a. IsField (grow_by a z)) (sym (args_of_suffix x p None)) (field_shape z)
ends_field (s ∷ ss) z x p = ends_field ss (grow_by (out-Suffix s).args z) x p

pub but_last_of : (ss : List Suffix) (s : Suffix) → but_last (ss ++ s ∷ []) ≡ ss
but_last_of [] s = refl
but_last_of (r ∷ []) s = refl
but_last_of (r ∷ q ∷ ss) s = ap (λ (z : List Suffix). r ∷ z) (but_last_of (q ∷ ss) s)

pub last_name_of : (ss : List Suffix) (s : Suffix) → last_name (ss ++ s ∷ []) ≡ (out-Suffix s).name
last_name_of [] s = refl
last_name_of (r ∷ []) s = refl
last_name_of (r ∷ q ∷ ss) s = last_name_of (q ∷ ss) s

ends_called : (ss : List Suffix) → EndsInCall ss → (z : Shape) → IsCalled (grown z ss)
ends_called [] c z = absurd c
ends_called (s ∷ []) c z = by_args (out-Suffix s).args z c
  where
    by_args : (a : Option (List Expr)) (z : Shape) → IsSome a → IsCalled (grow_by a z)
    by_args None z c = cc
    by_args (Some es) z c = tt
ends_called (s ∷ r ∷ ss) c z = ends_called (r ∷ ss) c (grow_by (out-Suffix s).args z)

form_shape : {d : ℕ} {p : Place} {w : List Part} {e : Expr} → IsForm d p w e → (v : List Lexeme) → IsCalled (shape_of (lexemes w ++ v))
form_shape (new_object o c i j) v = tt
form_shape (super_call b s o n u c i j) v = tt

-- no "class" stands behind the Prim
parts_no_class : {d : ℕ} {u : List Part} {ss : List Suffix} → IsSuffixes d u ss → (v : List Lexeme) → begins_class v ≡ false → begins_class (lexemes u ++ v) ≡ false
parts_no_class no_suffix v e = e
parts_no_class (then_suffix field is) v e = refl
parts_no_class (then_suffix (call c i) is) v e = refl

prim_simple : (n k : ℕ) (dp : ℕ → List Lexeme → Answer (List Stmt × ℕ)) {d : ℕ} {p : Place} {w : List Part} {e : Expr} → IsPrim d p w e → (z : List Lexeme) → begins_class z ≡ false
    → stmt_in true n dp k (lexemes w ++ z) ≡ simple_in true n k (lexemes w ++ z)
unfolding stmt_in stmt_by led_in
prim_simple n k dp constant z e = refl
prim_simple n k dp yes z e = refl
prim_simple n k dp no z e = refl
prim_simple n k dp null z e = refl
prim_simple n k dp this_object z e = if_false (begins_class z) _ _ e
prim_simple n k dp variable z e = if_false (begins_class z) _ _ e
prim_simple n k dp (parens c i) z e = refl
prim_simple n k dp (form (new_object o c i j)) z e = refl
prim_simple n k dp (form (super_call b s o m u c i j)) z e = refl

form_simple : (n k : ℕ) (dp : ℕ → List Lexeme → Answer (List Stmt × ℕ)) {d : ℕ} {p : Place} {w : List Part} {e : Expr} → IsForm d p w e → (z : List Lexeme)
    → stmt_in true n dp k (lexemes w ++ z) ≡ simple_in true n k (lexemes w ++ z)
unfolding stmt_in stmt_by
form_simple n k dp (new_object o c i j) z = refl
form_simple n k dp (super_call b s o m u c i j) z = refl

-- Name "=" Expr ";"
assign_again : (n d k : ℕ) (dp : ℕ → List Lexeme → Answer (List Stmt × ℕ)) → d + n ≡ 200 → (x : Name) (p o : Place) {w : List Part} {e : Expr} → IsValue d w e → (v : List Lexeme)
    → Reads (stmt_in true n dp k) (name x p ∷ mark Equals o ∷ w) v (stmt.Assign (named x p) e, k)
unfolding assign_in simple_by
assign_again n d k dp room x p o {w} {e} i v =
    prim_simple n k dp (variable {d = d} {x = x} {p = p}) (lexeme (Marked Equals) o ∷ (lexemes w ++ v)) refl
    ∙ simple_again n d k room (variable {d = d} {x = x} {p = p}) no_suffix (mark Equals o ∷ w) v (record { dot = refl; open_paren = refl }) (stmt.Assign (named x p) e, k)
    (read_then (value_in n) (λ y. Ok ((stmt.Assign (named x p) y.0, k), y.1)) w v e _ (value_again n i room v) refl)

-- a value that is set
set_in_again : (n d k : ℕ) → d + n ≡ 200 → (p : Place) (e : Expr) (ss : List Suffix) (x : Name) (m o : Place) {w : List Part} {f : Expr} → IsValue d w f → (v : List Lexeme)
    → set_in true n k p e (ss ++ suffix x m None ∷ []) (lexemes w ++ v) ≡ meets w v (Ok ((stmt.Set (posted p e ss) (named x m) f, k), v))
unfolding set_in
set_in_again n d k room p e ss x m o {w} {f} i v =
    read_then (value_in n) (λ y. Ok ((stmt.Set (posted p e (but_last (ss ++ suffix x m None ∷ []))) (last_name (ss ++ suffix x m None ∷ [])) y.0, k), y.1)) w v f _ (value_again n i room v)
    (ap (λ (z : List Suffix). Ok ((stmt.Set (posted p e z) (last_name (ss ++ suffix x m None ∷ [])) f, k), v)) (but_last_of ss (suffix x m None))
    ∙ ap (λ (z : Named). Ok ((stmt.Set (posted p e ss) z f, k), v)) (last_name_of ss (suffix x m None) ∙ name_of_suffix x m None))

set_again : (n d k : ℕ) (dp : ℕ → List Lexeme → Answer (List Stmt × ℕ)) → d + n ≡ 200 → {p : Place} (b m o : Place) (x : Name) {y u w : List Part} {e f : Expr} {ss : List Suffix} → IsPrim d p y e → IsSuffixes d u ss → IsValue d w f → (v : List Lexeme)
    → Reads (stmt_in true n dp k) ((y ++ u) ++ (mark Dot b ∷ name x m ∷ mark Equals o ∷ w)) v (stmt.Set (posted p e ss) (named x m) f, k)
set_again n d k dp room {p} b m o x {y} {u} {w} {e} {f} {ss} i is j v =
    let z : List Part = mark Equals o ∷ w in
    let parts : List Part = u ++ mark Dot b ∷ name x m ∷ [] in
    let ss' : List Suffix = ss ++ suffix x m None ∷ [] in
    let whole : (y ++ u) ++ (mark Dot b ∷ name x m ∷ mark Equals o ∷ w) ≡ y ++ (parts ++ z) = simp append_assoc in
    let ts : List Lexeme = lexemes (y ++ (parts ++ z)) ++ v in
    let js = with_field is b x m in
    let at : (named_of ts).at ≡ p = ap (λ (i : List Lexeme). (named_of i).at) (words_append y (parts ++ z) v) ∙ named_at (prim_starts i) (lexemes (parts ++ z) ++ v) in
    let tail : begins_class (lexemes (parts ++ z) ++ v) ≡ false = ap begins_class (words_append parts z v) ∙ parts_no_class js (lexemes z ++ v) refl in
    subst (λ (i : List Part). Reads (stmt_in true n dp k) i v (stmt.Set (posted p e ss) (named x m) f, k)) (sym whole)
    (ap (λ (i : List Lexeme). stmt_in true n dp k i) (words_append y (parts ++ z) v) ∙ prim_simple n k dp i (lexemes (parts ++ z) ++ v) tail ∙ ap (λ (i : List Lexeme). simple_in true n k i) (sym (words_append y (parts ++ z) v))
    ∙ simple_again n d k room i js z v (record { dot = refl; open_paren = refl }) (stmt.Set (posted p e ss) (named x m) f, k)
    (set_by n k (grown (shape_of ts) ss') (ends_field ss (shape_of ts) x m) (named_of ts) e ss' (lexemes z ++ v) refl
    ∙ ap (λ (q : Place). set_in true n k q e ss' (lexemes w ++ v)) at
    ∙ set_in_again n d k room p e ss x m o j v))

called_again : (n d k : ℕ) (dp : ℕ → List Lexeme → Answer (List Stmt × ℕ)) → d + n ≡ 200 → {p : Place} (s : Place) {y u : List Part} {e : Expr} {ss : List Suffix} → IsPrim d p y e → IsSuffixes d u ss → EndsInCall ss → (v : List Lexeme)
    → Reads (stmt_in true n dp k) ((y ++ u) ++ mark Semicolon s ∷ []) v (stmt.Do (posted p e ss), k)
called_again n d k dp room {p} s {y} {u} {e} {ss} i is c v =
    let z : List Part = mark Semicolon s ∷ [] in
    let ts : List Lexeme = lexemes (y ++ (u ++ z)) ++ v in
    let at : (named_of ts).at ≡ p = ap (λ (i : List Lexeme). (named_of i).at) (words_append y (u ++ z) v) ∙ named_at (prim_starts i) (lexemes (u ++ z) ++ v) in
    let tail : begins_class (lexemes (u ++ z) ++ v) ≡ false = ap begins_class (words_append u z v) ∙ parts_no_class is (lexemes z ++ v) refl in
    subst (λ (i : List Part). Reads (stmt_in true n dp k) i v (stmt.Do (posted p e ss), k)) (sym (append_assoc y u z))
    (ap (λ (i : List Lexeme). stmt_in true n dp k i) (words_append y (u ++ z) v) ∙ prim_simple n k dp i (lexemes (u ++ z) ++ v) tail ∙ ap (λ (i : List Lexeme). simple_in true n k i) (sym (words_append y (u ++ z) v))
    ∙ simple_again n d k room i is z v (record { dot = refl; open_paren = refl }) (stmt.Do (posted p e ss), k)
    (act_by n k (grown (shape_of ts) ss) (ends_called ss c (shape_of ts)) (named_of ts) e ss (lexemes z ++ v) refl
    ∙ ap (λ (q : Place). Ok ((stmt.Do (posted q e ss), k), v)) at))

formed_again : (n d k : ℕ) (dp : ℕ → List Lexeme → Answer (List Stmt × ℕ)) → d + n ≡ 200 → {p : Place} (s : Place) {y : List Part} {e : Expr} → IsForm d p y e → (v : List Lexeme)
    → Reads (stmt_in true n dp k) (y ++ mark Semicolon s ∷ []) v (stmt.Do e, k)
formed_again n d k dp room {p} s {y} {e} i v =
    let z : List Part = mark Semicolon s ∷ [] in
    let ts : List Lexeme = lexemes (y ++ z) ++ v in
    ap (λ (i : List Lexeme). stmt_in true n dp k i) (words_append y z v) ∙ form_simple n k dp i (lexemes z ++ v) ∙ ap (λ (i : List Lexeme). simple_in true n k i) (sym (words_append y z v))
    ∙ simple_again n d k room (form i) no_suffix z v (record { dot = refl; open_paren = refl }) (stmt.Do e, k)
    (act_by n k (shape_of ts) (subst (λ (i : List Lexeme). IsCalled (shape_of i)) (sym (words_append y z v)) (form_shape i (lexemes z ++ v))) (named_of ts) e [] (lexemes z ++ v) refl)

-- ---- statements of a keyword

semicolon_not_start : (k : Word) → is_start k ≡ true → is_word (Marked Semicolon) k ≡ false
semicolon_not_start (Marked OpenParen) h = refl
semicolon_not_start (Marked Bang) h = refl
semicolon_not_start (Marked Minus) h = refl
semicolon_not_start (Marked m) h = absurd (never h)
semicolon_not_start k h = refl

no_semicolon : {p : Place} {w : List Part} → Starts p w → (v : List Lexeme) → begins (Marked Semicolon) (lexemes w ++ v) ≡ false
no_semicolon (starts {t} h e) v = semicolon_not_start t.word h

value_no_semicolon : {d : ℕ} {w : List Part} {e : Expr} → IsValue d w e → (v : List Lexeme) → begins (Marked Semicolon) (lexemes w ++ v) ≡ false
value_no_semicolon (valued s {w} i) v = ap (begins (Marked Semicolon)) (words_append w (mark Semicolon s ∷ []) v) ∙ no_semicolon (expr_starts i) (lexeme (Marked Semicolon) s ∷ v)

give_again : (n d : ℕ) (p : Place) {w : List Part} {e : Expr} → IsValue d w e → d + n ≡ 200 → (v : List Lexeme) → Reads (return_in n p) w v (stmt.Return (Some e) p)
unfolding return_in
give_again n d p {w} {e} i room v = if_false (begins (Marked Semicolon) (lexemes w ++ v)) _ _ (value_no_semicolon i v)
    ∙ read_then (value_in n) (λ e. Ok (stmt.Return (Some e.0) p, e.1)) w v e _ (value_again n i room v) refl

-- what is printed
shown_is : (n : ℕ) (p : Place) (k : Word) → is_start k ≡ true → (t : Lexeme) (ts : List Lexeme) → printed_by n p k t ts ≡ (expr_in (level n) (t ∷ ts) >>= λ e. Ok (stmt.Print e.0 p, e.1))
unfolding printed_by
shown_is n p (Text m) h t ts = absurd (never h)
shown_is n p k h t ts = refl

expr_printed : (n : ℕ) (p : Place) {q : Place} {w : List Part} → Starts q w → (v : List Lexeme) → printed_in n p (lexemes w ++ v) ≡ (expr_in (level n) (lexemes w ++ v) >>= λ e. Ok (stmt.Print e.0 p, e.1))
unfolding printed_in
expr_printed n p (starts {t} {w} h e) v = shown_is n p t.word h (record { word = t.word; at = t.at }) (lexemes w ++ v)

printed_again : (n d : ℕ) (p : Place) {w : List Part} {x : Stmt} → IsShown d p w x → d + n ≡ 200 → (c : Place) (v : List Lexeme) → Reads (printed_in n p) w (lexeme (Marked CloseParen) c ∷ v) x
printed_again n d p (shown_text) room c v = unfold printed_in printed_by in refl
printed_again n d p (shown_expr {w = w} {e} i) room c v =
    expr_printed n p (expr_starts i) (lexeme (Marked CloseParen) c ∷ v)
    ∙ read_then (expr_in (level n)) (λ e. Ok (stmt.Print e.0 p, e.1)) w (lexeme (Marked CloseParen) c ∷ v) e _ (expr_again n (agains_below n) i room (lexeme (Marked CloseParen) c ∷ v) (paren_ends c v)) refl

print_again : (n d : ℕ) (p o c s : Place) {w : List Part} {x : Stmt} → IsShown (suc d) p w x → d + n ≡ 200 → (v : List Lexeme)
    → Reads (print_in n p) (opening d OpenParen o ∷ (w ++ mark CloseParen c ∷ mark Semicolon s ∷ [])) v x
unfolding print_in print_open_in
print_again zero d p o c s {w} {x} i room v = denied_again d room (Marked OpenParen) o (w ++ mark CloseParen c ∷ mark Semicolon s ∷ []) v x
print_again (suc n) d p o c s {w} {x} i room v =
    allowed_again d n room (w ++ mark CloseParen c ∷ mark Semicolon s ∷ []) v x _
    (then_reads (printed_in n p) (λ x. expect (Marked CloseParen) x.1 >>= λ shut. expect (Marked Semicolon) shut.1 >>= λ semi. Ok (x.0, semi.1)) w (mark CloseParen c ∷ mark Semicolon s ∷ []) v x (Ok (x, v))
    (printed_again n (suc d) p i (deeper d n room) c (lexeme (Marked Semicolon) s ∷ v)) refl)

test_again : (n d : ℕ) {w : List Part} {e : Expr} → IsTest d w e → d + n ≡ 200 → (v : List Lexeme) → Reads (test_in n) w v e
unfolding test_in tested_in
test_again zero d (tested o c {w} {e} i) room v = denied_again d room (Marked OpenParen) o (w ++ mark CloseParen c ∷ []) v e
test_again (suc n) d (tested o c {w} {e} i) room v =
    allowed_again d n room (w ++ mark CloseParen c ∷ []) v e _
    (then_reads (expr_in (level n)) (λ e. expect (Marked CloseParen) e.1 >>= λ shut. Ok (e.0, shut.1)) w (mark CloseParen c ∷ []) v e (Ok (e, v)) (expr_again n (agains_below n) i (deeper d n room) (lexeme (Marked CloseParen) c ∷ v) (paren_ends c v)) refl)

-- ---- blocks

-- What holds of the statements where n more may open.
pub record StmtAgains (n : ℕ) : Type 0 where
  pub stmts_again : {d k m : ℕ} {w : List Part} {ss : List Stmt} → IsStmts d k w ss m → d + n ≡ 200 → (c : Place) (v : List Lexeme) → Reads (stmts_in true n (stmts_of true n) k) w (lexeme (Marked CloseBrace) c ∷ v) (ss, m)

pub block_again : (n : ℕ) → Below StmtAgains n → {d k : ℕ} {w : List Part} {ss : List Stmt × ℕ} → IsBlock d k w ss → d + n ≡ 200 → (v : List Lexeme) → Reads (block_in true n (stmts_of true n) k) w v ss
unfolding block_in stmts_of
block_again zero b {d} {k} (braced {m} o c {w} {ss} i) room v = denied_again d room (Marked OpenBrace) o (w ++ mark CloseBrace c ∷ []) v (ss, m)
block_again (suc n) b {d} {k} (braced {m} o c {w} {ss} i) room v =
    allowed_again d n room (w ++ mark CloseBrace c ∷ []) v (ss, m) _
    (then_reads (stmts_in true n (stmts_of true n) k) (λ ss. expect (Marked CloseBrace) ss.1 >>= λ shut. Ok (ss.0, shut.1)) w (mark CloseBrace c ∷ []) v (ss, m) (Ok ((ss, m), v)) (b.stmts_again i (deeper d n room) c v) refl)

else_again : (n : ℕ) → Below StmtAgains n → {d k m : ℕ} {w : List Part} {ss : List Stmt} → IsElse d k w ss m → d + n ≡ 200 → (v : List Lexeme) → begins (Key Else) v ≡ false → Reads (else_in true n (stmts_of true n) k) w v (ss, m)
unfolding else_in
else_again n b no_else room v h = if_false (begins (Key Else) v) _ _ h
else_again n b (otherwise {o = o} c i) room v h = block_again n b (braced o c i) room v

if_again : (n : ℕ) → Below StmtAgains n → {d k m : ℕ} (p : Place) {v w u : List Part} {e : Expr} {ss : List Stmt × ℕ} {rs : List Stmt} → IsTest d v e → IsBlock d k w ss → IsElse d ss.1 u rs m → d + n ≡ 200 → (z : List Lexeme) → begins (Key Else) z ≡ false
    → Reads (if_in true n (stmts_of true n) k p) (v ++ (w ++ u)) z (stmt.If e ss.0 rs p, m)
unfolding if_in
if_again n b {d} {k} {m} p {v} {w} {u} {e} {ss} {rs} i j q room z h =
    then_reads (test_in n) (λ e. block_in true n (stmts_of true n) k e.1 >>= λ ss. else_in true n (stmts_of true n) ss.0.1 ss.1 >>= λ rs. Ok ((stmt.If e.0 ss.0.0 rs.0.0 p, rs.0.1), rs.1)) v (w ++ u) z e _
    (test_again n d i room (lexemes (w ++ u) ++ z))
    (then_reads (block_in true n (stmts_of true n) k) (λ ss. else_in true n (stmts_of true n) ss.0.1 ss.1 >>= λ rs. Ok ((stmt.If e ss.0.0 rs.0.0 p, rs.0.1), rs.1)) w u z ss _
    (block_again n b j room (lexemes u ++ z))
    (read_then (else_in true n (stmts_of true n) ss.1) (λ rs. Ok ((stmt.If e ss.0 rs.0.0 p, rs.0.1), rs.1)) u z (rs, m) _ (else_again n b q room z h) refl))

while_again : (n : ℕ) → Below StmtAgains n → {d k : ℕ} (p : Place) {v w : List Part} {e : Expr} {ss : List Stmt × ℕ} → IsTest d v e → IsBlock d k w ss → d + n ≡ 200 → (z : List Lexeme)
    → Reads (while_in true n (stmts_of true n) k p) (v ++ w) z (stmt.While e ss.0 p, ss.1)
unfolding while_in
while_again n b {d} {k} p {v} {w} {e} {ss} i j room z =
    then_reads (test_in n) (λ e. block_in true n (stmts_of true n) k e.1 >>= λ ss. Ok ((stmt.While e.0 ss.0.0 p, ss.0.1), ss.1)) v w z e _
    (test_again n d i room (lexemes w ++ z))
    (read_then (block_in true n (stmts_of true n) k) (λ ss. Ok ((stmt.While e ss.0.0 p, ss.0.1), ss.1)) w z ss _ (block_again n b j room z) refl)

-- with the count as before
same_again : (n k : ℕ) (f : List Lexeme → Answer Stmt) (w : List Part) (v : List Lexeme) (x : Stmt) → Reads f w v x → same_count true n (stmts_of true n) k (f (lexemes w ++ v)) ≡ meets w v (Ok ((x, k), v))
same_again n k f w v x r = read_then f (λ s. Ok ((s.0, k), s.1)) w v x _ r refl

-- ---- all statements

pub stmt_again : (n : ℕ) → Below StmtAgains n → {d k m : ℕ} {w : List Part} {s : Stmt} → IsStmt d k w s m → d + n ≡ 200 → (v : List Lexeme) → begins (Key Else) v ≡ false → Reads (stmt_in true n (stmts_of true n) k) w v (s, m)
unfolding stmt_in stmt_by block_stmt_in
stmt_again n b {d} {k} {m} (block {o = o} c {w} {ss} i) room v h =
    read_then (block_in true n (stmts_of true n) k) (λ ss. Ok ((stmt.Block ss.0.0, ss.0.1), ss.1)) (opening d OpenBrace o ∷ (w ++ mark CloseBrace c ∷ [])) v (ss, m) _ (block_again n b (braced o c i) room v) refl
stmt_again n b {d} {k} (local {x = x} {p} o s {fixed = fixed} not_final i j) room v h = type_local_again n d k (stmts_of true n) room o i (one_new_name {x = x} {p = p}) (valued s j) v
stmt_again n b {d} {k} (local {x = x} {p} o s final i j) room v h = local_again n k true o i (one_new_name {x = x} {p = p}) (valued s j) room v
stmt_again n b {d} {k} (assign {x = x} {p} {o = o} s i) room v h = assign_again n d k (stmts_of true n) room x p o (valued s i) v
stmt_again n b {d} {k} (set_field {x = x} c m o s (post i is) j) room v h = set_again n d k (stmts_of true n) room c m o x i is (valued s j) v
stmt_again n b {d} {k} (act s (called i is c)) room v h = called_again n d k (stmts_of true n) room s i is c v
stmt_again n b {d} {k} (act s (formed i)) room v h = formed_again n d k (stmts_of true n) room s i v
stmt_again n b {d} {k} {m} (choice {p = p} {o = o} c q e {v = y} {w} {u} {t} {ss} {rs} i j z) room v h =
    subst (λ (g : List Part). Reads (stmt_in true n (stmts_of true n) k) (key If p ∷ opening d OpenParen o ∷ g) v (stmt.If t ss rs p, m)) (around y w u (mark CloseParen c) (opening d OpenBrace q) (mark CloseBrace e))
    (if_again n b p (tested o c i) (braced q e j) z room v h)
stmt_again n b {d} {k} {m} (turns {p = p} {o = o} c q e {v = y} {w} {t} {ss} i j) room v h =
    subst (λ (g : List Part). Reads (stmt_in true n (stmts_of true n) k) (key While p ∷ opening d OpenParen o ∷ g) v (stmt.While t ss p, m)) (append_assoc y (mark CloseParen c ∷ []) (opening d OpenBrace q ∷ (w ++ mark CloseBrace e ∷ [])))
    (while_again n b p (tested o c i) (braced q e j) room v)
stmt_again n b {d} {k} (leave {p = p}) room v h = unfold return_in in refl
stmt_again n b {d} {k} (give {p = p} s {w} {e} i) room v h = same_again n k (return_in n p) (w ++ mark Semicolon s ∷ []) v (stmt.Return (Some e) p) (give_again n d p (valued s i) room v)
stmt_again n b {d} {k} (print {p = p} {o = o} c s {w} {e} i) room v h =
    same_again n k (print_in n p) (opening d OpenParen o ∷ (w ++ mark CloseParen c ∷ mark Semicolon s ∷ [])) v (stmt.Print e p) (print_again n d p o c s (shown_expr i) room v)
stmt_again n b {d} {k} (print_text {n = i} {p} {o} {q} {c} {s}) room v h =
    same_again n k (print_in n p) (opening d OpenParen o ∷ text i q ∷ mark CloseParen c ∷ mark Semicolon s ∷ []) v (stmt.PrintText i p) (print_again n d p o c s (shown_text {m = i} {q = q}) room v)

counted_stmts : {d k m : ℕ} {w : List Part} {ss : List Stmt} → IsStmts d k w ss m → Counted (StmtOf d) k w (ss, m)
counted_stmts no_stmt = none
counted_stmts (then_stmt i is) = next i (counted_stmts is)

stmts_again : (n : ℕ) → Below StmtAgains n → {d k m : ℕ} {w : List Part} {ss : List Stmt} → IsStmts d k w ss m → d + n ≡ 200 → (c : Place) (v : List Lexeme) → Reads (stmts_in true n (stmts_of true n) k) w (lexeme (Marked CloseBrace) c ∷ v) (ss, m)
stmts_again n b {d} is room c v = counted_again (StmtOf d) in_body (stmt_in true n (stmts_of true n)) (λ v. begins (Key Else) v ≡ false)
    (λ k w x i v. by_head (stmt_starts i) v) (λ k w x i v h. stmt_again n b i room v h) (counted_stmts is) (lexeme (Marked CloseBrace) c ∷ v) refl refl

pub stmt_agains : (n : ℕ) → StmtAgains n
stmt_agains zero = record { stmts_again = λ is room c v. stmts_again zero tt is room c v }
stmt_agains (suc n) = record { stmts_again = λ is room c v. stmts_again (suc n) (stmt_agains n) is room c v }

pub stmt_agains_below : (n : ℕ) → Below StmtAgains n
stmt_agains_below zero = tt
stmt_agains_below (suc n) = stmt_agains n
