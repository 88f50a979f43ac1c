-- Loops over the operators of a chain, and over statements.
use Rattle.std.proofs.Common.{◌≡◌, ℕ, suc, ◌+◌, ◌<◌, ◌≤◌, List, [], ◌∷◌, length, drop, get_or, Bool, refl, sym, ap, ◌∙◌, subst, add-one, arith}
use Rattle.std.proofs.Math.Seq.{drop-cons}
use Rattle.std.proofs.lemmas.List.{drop_all, length-drop}
use Rattle.jn_base.specs.declared.tree.Link.{Link}
use Rattle.jn_base.specs.declared.tree.Expr.{Expr}
use Rattle.jn_base.specs.declared.tree.Suffix.{Suffix}
use Rattle.jn_base.specs.declared.tree.Stmt.{Stmt}
use Rattle.jn_base.specs.declared.names.Var.{Var}
use Rattle.jn_lower.specs.declared.walk.Parts.{Parts}
use Rattle.jn_lower.specs.declared.walk.Walk.{Walk}
use Rattle.jn_lower.specs.Walks.{LowersValue, LowersLinks, LowersLink, LowersPart, LowersParts, LowersTail, LowersArgs, IsKept, LowersStmts, LowersStmt}
use Rattle.jn_lower.proofs.Chains.{no_links_done}
use Rattle.jn_lower.proofs.Posts.{last_part_done, one_part_done}
use Rattle.jn_lower.proofs.Passing.{no_args_done, one_arg_done}
use Rattle.jn_lower.proofs.Blocks.{no_stmts_done, more_done}

pub at_index : {A : Type 0} (xs : List A) (i : ℕ) (x : A) → i < length xs → x ≡ get_or xs i x
    → drop i xs ≡ x ∷ drop (i + 1) xs
at_index xs i x h e =
    drop-cons xs i x h ∙ (ap (λ (y : _). y ∷ drop (suc i) xs) (sym e) ∙ ap (λ (n : ℕ). x ∷ drop n xs) (sym (add-one i)))

-- ---- operators

pub links_on : (g : Parts) (ls : List Link) (i : ℕ) (l : Link) (w0 w1 w2 : Walk)
    → ((new : Walk) → LowersLinks g (drop i ls) w1 new → LowersLinks g ls w0 new) → i < length ls
    → l ≡ get_or ls i l → LowersLink g l w1 w2 → (new : Walk) → LowersLinks g (drop (i + 1) ls) w2 new
    → LowersLinks g ls w0 new
links_on g ls i l w0 w1 w2 so lt is one new more =
    so new (subst (λ (xs : List Link). LowersLinks g xs w1 new) (sym (at_index ls i l lt is)) (one (drop (i + 1) ls) new more))

pub links_over : (g : Parts) (ls : List Link) (i : ℕ) (w0 w1 : Walk)
    → ((new : Walk) → LowersLinks g (drop i ls) w1 new → LowersLinks g ls w0 new) → length ls ≤ i
    → LowersLinks g ls w0 w1
links_over g ls i w0 w1 so le =
    so w1 (subst (λ (xs : List Link). LowersLinks g xs w1 w1) (sym (drop_all i ls le)) (no_links_done g w1))

-- ---- statements

pub stmts_on : (g : Parts) (ss : List Stmt) (i : ℕ) (s : Stmt) (us vs ws : List Var) (w0 w1 w2 : Walk)
    → ((xs : List Var) (new : Walk) → LowersStmts g (drop i ss) vs xs w1 new → LowersStmts g ss us xs w0 new)
    → i < length ss → s ≡ get_or ss i s → LowersStmt g s vs ws w1 w2 → (xs : List Var) (new : Walk)
    → LowersStmts g (drop (i + 1) ss) ws xs w2 new → LowersStmts g ss us xs w0 new
stmts_on g ss i s us vs ws w0 w1 w2 so lt is one xs new more =
    so xs new (subst (λ (l : List Stmt). LowersStmts g l vs xs w1 new) (sym (at_index ss i s lt is))
    (more_done g s (drop (i + 1) ss) vs ws xs w1 w2 new one more))

pub stmts_over : (g : Parts) (ss : List Stmt) (i : ℕ) (us vs : List Var) (w0 w1 : Walk)
    → ((xs : List Var) (new : Walk) → LowersStmts g (drop i ss) vs xs w1 new → LowersStmts g ss us xs w0 new)
    → length ss ≤ i → LowersStmts g ss us vs w0 w1
stmts_over g ss i us vs w0 w1 so le =
    so vs w1 (subst (λ (l : List Stmt). LowersStmts g l vs vs w1 w1) (sym (drop_all i ss le)) (no_stmts_done g vs w1))

-- ---- arguments

pub args_on : (g : Parts) (es : List Expr) (i : ℕ) (e : Expr) (w0 w1 w2 : Walk)
    → ((new : Walk) → LowersArgs g (drop i es) w1 new → LowersArgs g es w0 new) → i < length es
    → e ≡ get_or es i e → LowersValue g e w1 w2 → (new : Walk) → LowersArgs g (drop (i + 1) es) w2 new
    → LowersArgs g es w0 new
args_on g es i e w0 w1 w2 so lt is one new more =
    so new (subst (λ (xs : List Expr). LowersArgs g xs w1 new) (sym (at_index es i e lt is))
    (one_arg_done g e (drop (i + 1) es) w1 w2 new one more))

pub args_over : (g : Parts) (es : List Expr) (i : ℕ) (w0 w1 : Walk)
    → ((new : Walk) → LowersArgs g (drop i es) w1 new → LowersArgs g es w0 new) → length es ≤ i
    → LowersArgs g es w0 w1
args_over g es i w0 w1 so le =
    so w1 (subst (λ (xs : List Expr). LowersArgs g xs w1 w1) (sym (drop_all i es le)) (no_args_done g w1))

-- ---- parts behind a receiver

no_parts_left : {X : Type 0} (z : X) (zs : List X) → length (z ∷ zs) ≡ 0 → ⊥
no_parts_left z zs e = cc

tail_step : (g : Parts) (keeps kept : Bool) (z : Suffix) (zs : List Suffix) (w1 w2 new : Walk) → LowersPart g kept z w1 w2
    → IsKept keeps (length zs) kept → LowersTail g keeps zs w2 new → LowersParts g keeps (z ∷ zs) w1 new
tail_step g keeps kept z [] w1 w2 new one k more =
    subst (λ (w : Walk). LowersParts g keeps (z ∷ []) w1 w) (sym more)
    (last_part_done g keeps z w1 w2 (subst (λ (b : Bool). LowersPart g b z w1 w2) (k.last refl) one))
tail_step g keeps kept z (y ∷ ys) w1 w2 new one k more =
    one_part_done g keeps z y ys w1 w2 new
    (subst (λ (b : Bool). LowersPart g b z w1 w2) (k.other (no_parts_left y ys)) one) more

pub parts_begin : (g : Parts) (keeps : Bool) (zs : List Suffix) (w0 new : Walk) → (length zs ≡ 0 → ⊥)
    → LowersTail g keeps zs w0 new → LowersParts g keeps zs w0 new
parts_begin g keeps [] w0 new f t = absurd (f refl)
parts_begin g keeps (z ∷ zs) w0 new f t = t

pub parts_on : (g : Parts) (keeps kept : Bool) (zs : List Suffix) (i left : ℕ) (z : Suffix) (w0 w1 w2 : Walk)
    → ((new : Walk) → LowersTail g keeps (drop i zs) w1 new → LowersParts g keeps zs w0 new) → i < length zs
    → z ≡ get_or zs i z → left ≡ length (drop (i + 1) zs) → IsKept keeps left kept → LowersPart g kept z w1 w2
    → (new : Walk) → LowersTail g keeps (drop (i + 1) zs) w2 new → LowersParts g keeps zs w0 new
parts_on g keeps kept zs i left z w0 w1 w2 so lt is count k one new more =
    so new (subst (λ (xs : List Suffix). LowersTail g keeps xs w1 new) (sym (at_index zs i z lt is))
    (tail_step g keeps kept z (drop (i + 1) zs) w1 w2 new one (subst (λ (n : ℕ). IsKept keeps n kept) count k) more))

pub parts_over : (g : Parts) (keeps : Bool) (zs : List Suffix) (i : ℕ) (w0 w1 : Walk)
    → ((new : Walk) → LowersTail g keeps (drop i zs) w1 new → LowersParts g keeps zs w0 new) → length zs ≤ i
    → LowersParts g keeps zs w0 w1
parts_over g keeps zs i w0 w1 so le =
    so w1 (subst (λ (xs : List Suffix). LowersTail g keeps xs w1 w1) (sym (drop_all i zs le)) refl)

-- as many are left as stand behind the first i
pub left_behind : (zs : List Suffix) (i left : ℕ) → left + i ≡ length zs → left ≡ length (drop i zs)
left_behind zs i left e =
    let d = length-drop i zs in
    omega (arith, e, d)

pub parts_step : (g : Parts) (keeps kept : Bool) (zs : List Suffix) (i left : ℕ) (z : Suffix) (w0 w1 w2 : Walk)
    → ((new : Walk) → LowersTail g keeps (drop i zs) w1 new → LowersParts g keeps zs w0 new) → i < length zs
    → z ≡ get_or zs i z → left + (i + 1) ≡ length zs → IsKept keeps left kept → LowersPart g kept z w1 w2
    → (new : Walk) → LowersTail g keeps (drop (i + 1) zs) w2 new → LowersParts g keeps zs w0 new
parts_step g keeps kept zs i left z w0 w1 w2 so lt is count k one new more =
    parts_on g keeps kept zs i left z w0 w1 w2 so lt is (left_behind zs (i + 1) left count) k one new more
