-- Reading locals, assignments and calls is what the machine does with their symbols.
use Rattle.std.proofs.Common.{◌≡◌, ℕ, suc, ◌≤◌, Bool, true, false, List, [], ◌∷◌, ◌++◌, length, Option, Some, None, Ok, refl, sym, ◌∙◌, ap, arith, if◌then◌else◌}
use Rattle.std.specs.Prelude.{◌&&◌}
use Rattle.jn_base.specs.declared.tree.Name.{Name}
use Rattle.jn_base.specs.declared.tree.Place.{Place}
use Rattle.jn_base.specs.declared.tree.Named.{Named}
use Rattle.jn_base.specs.declared.tree.Term.{Term as TermTree}
use Rattle.jn_base.specs.declared.tree.TypeTerm.{TypeTerm}
use Rattle.jn_base.specs.declared.tree.Expr.{Expr as ExprTree}
use Rattle.jn_base.specs.declared.tree.Suffix.{Suffix, out-Suffix}
use Rattle.jn_base.specs.declared.tree.Stmt.{Stmt}
use Rattle.jn_base.specs.declared.tree.Level.TheVariants as level_
use Rattle.jn_base.specs.declared.refusal.Limit.{Limit}
use Rattle.jn_base.specs.declared.word.Keyword.TheVariants.{Class, New, Super, This}
use Rattle.jn_base.specs.declared.word.Mark.TheVariants.{Ampersand, Backslash, Bang, CloseParen, Dot, Equals, OpenBracket, OpenParen, Semicolon}
use Rattle.jn_base.specs.declared.word.Word.{Word}
use Rattle.jn_base.specs.declared.word.Word.TheVariants.{Name as Named_, Keyword as Key, Mark as Marked}
use Rattle.jn_base.specs.declared.word.Lexeme.{Lexeme}
use Rattle.jn_base.specs.Words.{lexeme}
use Rattle.jn_base.specs.Parts.{Role, Local, named}
use Rattle.jn_grammar.specs.declared.fault.Fault.TheVariants.{Syntax, Passed}
use Rattle.jn_grammar.specs.Begins.{begins, behind, place, is_word}
use Rattle.jn_grammar.specs.Answers.{Answer, ◌>>=◌, name_by, name_in, passed, within_by, row}
use Rattle.jn_grammar.specs.ReadExprs.{level, call_in, suffix_in}
use Rattle.jn_grammar.specs.ReadStmts.{Shape, new_name_in, value_in, grow_by, grown, shape_by, shape_of, named_of, begins_class, local_end_in, local_in, type_rest_in, path_local_in, assign_in, set_in, simple_by, simple_in, led_in}
use Rattle.jn_grammar.specs.declared.shape.Shape.TheVariants as shape
use Rattle.jn_grammar.specs.Expected.{Symbol, Expects, Shuts, AfterNames, Masks, Type_, Atoms, Prim, Expr, Args, Body, Stmts, FirstName, OneName, Path, PathName, AfterThis, Bare, PartName, AfterPart, AfterCall, NewName, value, local_value, local_end, type_rest, opened, counts_by, Going, Fails, run}
use Rattle.jn_grammar.proofs.FirstWords.{never, begins_is, behind_less}
use Rattle.jn_grammar.proofs.Machine.{Comes, Does, run_fails, comes_then, comes_if, comes_both, from, expects}
use Rattle.jn_grammar.proofs.TermsRuns.{after_names_run, masks_run, more_atoms_run, type_runs}
use Rattle.jn_grammar.proofs.ExprRuns.{shut_args_run, prim_runs, suffix_less}
use Rattle.jn_grammar.proofs.LevelsRuns.{expr_runs, runs_below}
use Rattle.jn_grammar.proofs.Shapes.{IsField, args_of_suffix}
use Rattle.jn_grammar.proofs.Growing.{holds_at, many_ends, parts_run, Behind, behind_parts}

abbrev pub body : ℕ → List Bool → Body
body k blocks = record { used = k; blocks = blocks }

-- What an answer says of the machine: it comes to the rest of the body, with the count that is read.
abbrev pub Goes : Bool → ℕ → List Bool → List Symbol → List Lexeme → List Symbol → Answer (Stmt × ℕ) → Type 0
Goes s n blocks at ts below r = Comes (run s ts (Going n at)) (λ y. run s y.1 (Going n (Stmts (body y.0.1 blocks) ∷ below))) r

pub new_name_runs : (s : Bool) (n : ℕ) (r : Role) (ts : List Lexeme) (below : List Symbol) → Does s (NewName r) n ts below (new_name_in s r ts)
unfolding new_name_in
new_name_runs s n r [] below = record { eq = refl }
new_name_runs s n r (t ∷ ts) below = by_word t.word
  where
    by_limit : (l : Option Limit) (x : Name) → Comes (run s ts (counts_by l n below (suc (length ts)))) (λ y. run s y.1 (Going n below)) (within_by l (lexeme (Named_ x) t.at ∷ ts) (Ok (named x t.at, ts)))
    by_limit (Some l) x = record { eq = run_fails s ts (Passed l (suc (length ts))) }
    by_limit None x = record { eq = refl }

    by_word : (w : Word) → Does s (NewName r) n (lexeme w t.at ∷ ts) below (new_name_in s r (lexeme w t.at ∷ ts))
    by_word (Named_ x) = by_limit (passed s r) x
    by_word w = record { eq = run_fails s ts (Syntax (suc (length ts))) }

pub value_runs : (s : Bool) (n : ℕ) (ts : List Lexeme) (below : List Symbol) → Comes (run s ts (Going n (Expr level_.Or ∷ Expects (Marked Semicolon) ∷ below))) (λ y. run s y.1 (Going n below)) (value_in n ts)
unfolding value_in
value_runs s n ts below = comes_then (expr_runs s n (runs_below s n) ts (Expects (Marked Semicolon) ∷ below)) (λ e _. comes_then (expects s (Marked Semicolon) n e.1 below) (λ _ _. record { eq = refl }))

pub local_end_runs : (s : Bool) (n k : ℕ) (bs : List Bool) (fixed : Bool) (ty : TypeTerm) (ts : List Lexeme) (below : List Symbol) → Goes s n bs (local_end (body k bs) ++ below) ts below (local_end_in s n k fixed ty ts)
unfolding local_end_in
local_end_runs s n k bs fixed ty ts below =
    comes_then (new_name_runs s n (Local (suc k)) ts (local_value (body k bs) ++ below))
    (λ x _. comes_then (expects s (Marked Equals) n x.1 (value (body (suc k) bs) ++ below))
    (λ eq _. comes_then (value_runs s n eq.1 (Stmts (body (suc k) bs) ∷ below)) (λ _ _. record { eq = refl })))

pub local_runs : (s : Bool) (n k : ℕ) (bs : List Bool) (fixed : Bool) (ts : List Lexeme) (below : List Symbol) → Goes s n bs (Type_ ∷ (local_end (body k bs) ++ below)) ts below (local_in s n k fixed ts)
unfolding local_in
local_runs s n k bs fixed ts below = comes_then (type_runs s n ts (local_end (body k bs) ++ below)) (λ ty _. local_end_runs s n k bs fixed ty.0 ty.1 below)

type_rest_runs : (s : Bool) (n : ℕ) (t : TermTree) (ts : List Lexeme) (below : List Symbol) → Comes (run s ts (Going n (Atoms 2 ∷ Masks ∷ below))) (λ y. run s y.1 (Going n below)) (type_rest_in s n t ts)
unfolding type_rest_in
type_rest_runs s n t ts below = comes_then (more_atoms_run s n 2 ts (Masks ∷ below)) (λ others _. comes_then (masks_run s n others.1 below) (λ _ _. record { eq = refl }))

path_local_runs : (s : Bool) (n k : ℕ) (bs : List Bool) (p : Place) (xs : List Name) (ts : List Lexeme) (below : List Symbol) → Goes s n bs (AfterNames ∷ (type_rest (body k bs) ++ below)) ts below (path_local_in s n k p xs ts)
unfolding path_local_in
path_local_runs s n k bs p xs ts below =
    comes_then (after_names_run s n p xs ts (type_rest (body k bs) ++ below))
    (λ t _. comes_then (type_rest_runs s n t.0 t.1 (local_end (body k bs) ++ below))
    (λ ty _. local_end_runs s n k bs false ty.0 ty.1 below))

assign_runs : (s : Bool) (n k : ℕ) (bs : List Bool) (x : Named) (ts : List Lexeme) (below : List Symbol) → Goes s n bs (value (body k bs) ++ below) ts below (assign_in s n k x ts)
unfolding assign_in
assign_runs s n k bs x ts below = comes_then (value_runs s n ts (Stmts (body k bs) ∷ below)) (λ _ _. record { eq = refl })

set_runs : (s : Bool) (n k : ℕ) (bs : List Bool) (p : Place) (e : ExprTree) (ss : List Suffix) (ts : List Lexeme) (below : List Symbol) → Goes s n bs (value (body k bs) ++ below) ts below (set_in s n k p e ss ts)
unfolding set_in
set_runs s n k bs p e ss ts below = comes_then (value_runs s n ts (Stmts (body k bs) ∷ below)) (λ _ _. record { eq = refl })

-- ---- the shapes and their symbols

-- where the machine stands behind what has been read, and behind a further dot
abbrev symbol : Shape → Body → Symbol
symbol shape.Name b = OneName b
symbol shape.Path b = Path b
symbol shape.Call b = AfterCall b
symbol shape.Part b = AfterPart b
symbol shape.Bare b = Bare b

abbrev dotted : Shape → Body → Symbol
dotted shape.Name b = PathName b
dotted shape.Path b = PathName b
dotted shape.Call b = PartName b
dotted shape.Part b = PartName b
dotted shape.Bare b = PartName b

takes_dot : (s : Bool) (n : ℕ) (z : Shape) (b : Body) (ts : List Lexeme) (below : List Symbol) → begins (Marked Dot) ts ≡ true → run s ts (Going n (symbol z b ∷ below)) ≡ run s (behind ts) (Going n (dotted z b ∷ below))
takes_dot s n z b ts below h = ap (λ v. run s v (Going n (symbol z b ∷ below))) (begins_is (Marked Dot) ts h) ∙ by_shape z
  where
    by_shape : (z : Shape) → run s (lexeme (Marked Dot) (place ts) ∷ behind ts) (Going n (symbol z b ∷ below)) ≡ run s (behind ts) (Going n (dotted z b ∷ below))
    by_shape shape.Name = refl
    by_shape shape.Path = refl
    by_shape shape.Call = refl
    by_shape shape.Part = refl
    by_shape shape.Bare = refl

opens_args : (s : Bool) (n : ℕ) (z : Shape) (b : Body) (ts : List Lexeme) (below : List Symbol) → begins (Marked OpenParen) ts ≡ true
    → run s ts (Going n (symbol (grow_by None z) b ∷ below)) ≡ run s (behind ts) (opened n (Args ∷ Shuts (Marked CloseParen) ∷ AfterCall b ∷ below) (suc (length (behind ts))))
opens_args s n z b ts below h = ap (λ v. run s v (Going n (symbol (grow_by None z) b ∷ below))) (begins_is (Marked OpenParen) ts h) ∙ by_shape z
  where
    by_shape : (z : Shape) → run s (lexeme (Marked OpenParen) (place ts) ∷ behind ts) (Going n (symbol (grow_by None z) b ∷ below)) ≡ run s (behind ts) (opened n (Args ∷ Shuts (Marked CloseParen) ∷ AfterCall b ∷ below) (suc (length (behind ts))))
    by_shape shape.Name = refl
    by_shape shape.Path = refl
    by_shape shape.Call = refl
    by_shape shape.Part = refl
    by_shape shape.Bare = refl

part_call_runs : (s : Bool) (n : ℕ) (z : Shape) (b : Body) (x : Named) (ts : List Lexeme) (below : List Symbol)
    → Comes (run s ts (Going n (symbol (grow_by None z) b ∷ below))) (λ y. run s y.1 (Going n (symbol (grow_by (out-Suffix y.0).args z) b ∷ below))) (call_in (level n) x ts)
unfolding call_in
part_call_runs s n z b x ts below = comes_if (begins (Marked OpenParen) ts)
    (λ h. from (opens_args s n z b ts below h ∙ ap (λ l. run s (behind ts) (opened n (Args ∷ Shuts (Marked CloseParen) ∷ AfterCall b ∷ below) l)) (behind_less (Marked OpenParen) ts h))
    (comes_then (shut_args_run s n (runs_below s n) ts (AfterCall b ∷ below))
    (λ es _. record { eq = ap (λ a. run s es.1 (Going n (symbol (grow_by a z) b ∷ below))) (sym (args_of_suffix x.name x.at (Some es.0))) })))
    (λ h. record { eq = ap (λ a. run s ts (Going n (symbol (grow_by a z) b ∷ below))) (sym (args_of_suffix x.name x.at None)) })

part_runs : (s : Bool) (n : ℕ) (z : Shape) (b : Body) (ts : List Lexeme) (below : List Symbol)
    → Comes (run s ts (Going n (dotted z b ∷ below))) (λ y. run s y.1 (Going n (symbol (grow_by (out-Suffix y.0).args z) b ∷ below))) (name_in ts >>= λ x. call_in (level n) x.0 x.1)
part_runs s n z b [] below = record { eq = refl }
part_runs s n z b (t ∷ ts) below = by_word z t.word
  where
    by_word : (z : Shape) (w : Word) → Comes (run s (lexeme w t.at ∷ ts) (Going n (dotted z b ∷ below))) (λ y. run s y.1 (Going n (symbol (grow_by (out-Suffix y.0).args z) b ∷ below))) (name_by w (lexeme w t.at) ts >>= λ x. call_in (level n) x.0 x.1)
    by_word shape.Name (Named_ x) = part_call_runs s n shape.Name b (named x t.at) ts below
    by_word shape.Path (Named_ x) = part_call_runs s n shape.Path b (named x t.at) ts below
    by_word shape.Call (Named_ x) = part_call_runs s n shape.Call b (named x t.at) ts below
    by_word shape.Part (Named_ x) = part_call_runs s n shape.Part b (named x t.at) ts below
    by_word shape.Bare (Named_ x) = part_call_runs s n shape.Bare b (named x t.at) ts below
    by_word shape.Name w = record { eq = run_fails s ts (Syntax (suc (length ts))) }
    by_word shape.Path w = record { eq = run_fails s ts (Syntax (suc (length ts))) }
    by_word shape.Call w = record { eq = run_fails s ts (Syntax (suc (length ts))) }
    by_word shape.Part w = record { eq = run_fails s ts (Syntax (suc (length ts))) }
    by_word shape.Bare w = record { eq = run_fails s ts (Syntax (suc (length ts))) }

all_parts_run : (s : Bool) (n : ℕ) (z : Shape) (b : Body) (ts : List Lexeme) (below : List Symbol)
    → Comes (run s ts (Going n (symbol z b ∷ below))) (λ xs. run s xs.1 (Going n (symbol (grown z xs.0) b ∷ below))) (row (begins (Marked Dot)) (suffix_in (level n)) 1 ts)
unfolding suffix_in
all_parts_run s n z b ts below =
    let fits : length ts ≤ length ts = omega arith in
    parts_run s n (begins (Marked Dot)) (suffix_in (level n)) (λ z. symbol z b ∷ below)
    (λ z k ts h. from (takes_dot s n z b ts below h) (part_runs s n z b (behind ts) below))
    (suffix_less n) (length ts) 1 z ts fits

no_dot : (n : ℕ) (ts : List Lexeme) (xs : List Suffix × List Lexeme) → row (begins (Marked Dot)) (suffix_in (level n)) 1 ts ≡ Ok xs → begins (Marked Dot) xs.1 ≡ false
no_dot n ts xs e = let fits : length ts ≤ length ts = omega arith in
    holds_at (λ xs. begins (Marked Dot) xs.1 ≡ false) (row (begins (Marked Dot)) (suffix_in (level n)) 1 ts) xs (many_ends (begins (Marked Dot)) (suffix_in (level n)) (suffix_less n) refl (length ts) 1 ts fits) e

-- ---- what the machine does behind the parts

no_true : true ≡ false → ⊥
no_true e = cc

one_name_is : (s : Bool) (n : ℕ) (b : Body) (ts : List Lexeme) (below : List Symbol) → begins (Marked Dot) ts ≡ false
    → run s ts (Going n (OneName b ∷ below)) ≡ (if begins (Marked Equals) ts then run s (behind ts) (Going n (value b ++ below)) else run s ts (Going n (AfterNames ∷ (type_rest b ++ below))))
one_name_is s n b [] below h = refl
one_name_is s n b (t ∷ ts) below h = by_word t.word h
  where
    by_word : (w : Word) → is_word (Marked Dot) w ≡ false → run s (lexeme w t.at ∷ ts) (Going n (OneName b ∷ below))
        ≡ (if is_word (Marked Equals) w then run s ts (Going n (value b ++ below)) else run s (lexeme w t.at ∷ ts) (Going n (AfterNames ∷ (type_rest b ++ below))))
    by_word (Marked Dot) h = absurd (no_true h)
    by_word (Marked Bang) h = refl
    by_word (Marked OpenBracket) h = refl
    by_word (Marked Ampersand) h = refl
    by_word (Marked Backslash) h = refl
    by_word (Marked Equals) h = refl
    by_word (Marked m) h = refl
    by_word (Named_ x) h = refl
    by_word w h = refl

path_is : (s : Bool) (n : ℕ) (b : Body) (ts : List Lexeme) (below : List Symbol) → begins (Marked Dot) ts ≡ false → begins (Marked OpenParen) ts ≡ false
    → run s ts (Going n (Path b ∷ below)) ≡ (if begins (Marked Equals) ts then run s (behind ts) (Going n (value b ++ below)) else run s ts (Going n (AfterNames ∷ (type_rest b ++ below))))
path_is s n b [] below h i = refl
path_is s n b (t ∷ ts) below h i = by_word t.word h i
  where
    by_word : (w : Word) → is_word (Marked Dot) w ≡ false → is_word (Marked OpenParen) w ≡ false → run s (lexeme w t.at ∷ ts) (Going n (Path b ∷ below))
        ≡ (if is_word (Marked Equals) w then run s ts (Going n (value b ++ below)) else run s (lexeme w t.at ∷ ts) (Going n (AfterNames ∷ (type_rest b ++ below))))
    by_word (Marked Dot) h i = absurd (no_true h)
    by_word (Marked OpenParen) h i = absurd (no_true i)
    by_word (Marked Bang) h i = refl
    by_word (Marked OpenBracket) h i = refl
    by_word (Marked Ampersand) h i = refl
    by_word (Marked Backslash) h i = refl
    by_word (Marked Equals) h i = refl
    by_word (Marked m) h i = refl
    by_word (Named_ x) h i = refl
    by_word w h i = refl

part_is : (s : Bool) (n : ℕ) (b : Body) (ts : List Lexeme) (below : List Symbol) → begins (Marked Dot) ts ≡ false → begins (Marked OpenParen) ts ≡ false
    → run s ts (Going n (AfterPart b ∷ below)) ≡ (if begins (Marked Equals) ts then run s (behind ts) (Going n (value b ++ below)) else Fails (Syntax (length ts)))
part_is s n b [] below h i = refl
part_is s n b (t ∷ ts) below h i = by_word t.word h i
  where
    by_word : (w : Word) → is_word (Marked Dot) w ≡ false → is_word (Marked OpenParen) w ≡ false → run s (lexeme w t.at ∷ ts) (Going n (AfterPart b ∷ below))
        ≡ (if is_word (Marked Equals) w then run s ts (Going n (value b ++ below)) else Fails (Syntax (suc (length ts))))
    by_word (Marked Dot) h i = absurd (no_true h)
    by_word (Marked OpenParen) h i = absurd (no_true i)
    by_word (Marked Equals) h i = refl
    by_word (Marked m) h i = run_fails s ts (Syntax (suc (length ts)))
    by_word w h i = run_fails s ts (Syntax (suc (length ts)))

call_is : (s : Bool) (n : ℕ) (b : Body) (ts : List Lexeme) (below : List Symbol) → begins (Marked Dot) ts ≡ false
    → run s ts (Going n (AfterCall b ∷ below)) ≡ (if begins (Marked Semicolon) ts then run s (behind ts) (Going n (Stmts b ∷ below)) else Fails (Syntax (length ts)))
call_is s n b [] below h = refl
call_is s n b (t ∷ ts) below h = by_word t.word h
  where
    by_word : (w : Word) → is_word (Marked Dot) w ≡ false → run s (lexeme w t.at ∷ ts) (Going n (AfterCall b ∷ below))
        ≡ (if is_word (Marked Semicolon) w then run s ts (Going n (Stmts b ∷ below)) else Fails (Syntax (suc (length ts))))
    by_word (Marked Dot) h = absurd (no_true h)
    by_word (Marked Semicolon) h = refl
    by_word (Marked m) h = run_fails s ts (Syntax (suc (length ts)))
    by_word w h = run_fails s ts (Syntax (suc (length ts)))

bare_is : (s : Bool) (n : ℕ) (b : Body) (ts : List Lexeme) (below : List Symbol) → begins (Marked Dot) ts ≡ false → run s ts (Going n (Bare b ∷ below)) ≡ Fails (Syntax (length ts))
bare_is s n b [] below h = refl
bare_is s n b (t ∷ ts) below h = by_word t.word h
  where
    by_word : (w : Word) → is_word (Marked Dot) w ≡ false → run s (lexeme w t.at ∷ ts) (Going n (Bare b ∷ below)) ≡ Fails (Syntax (suc (length ts)))
    by_word (Marked Dot) h = absurd (no_true h)
    by_word (Marked m) h = run_fails s ts (Syntax (suc (length ts)))
    by_word w h = run_fails s ts (Syntax (suc (length ts)))

simple_by_runs : (s : Bool) (n k : ℕ) (bs : List Bool) (z : Shape) (first : Named) (e : ExprTree) (ss : List Suffix) (ts : List Lexeme) (below : List Symbol) → begins (Marked Dot) ts ≡ false → Behind z ts
    → Goes s n bs (symbol z (body k bs) ∷ below) ts below (simple_by s n z k first e ss ts)
unfolding simple_by
simple_by_runs s n k bs shape.Name first e ss ts below h i = comes_both (begins (Marked Equals) ts) (one_name_is s n (body k bs) ts below h) (λ q. assign_runs s n k bs first (behind ts) below) (λ q. path_local_runs s n k bs first.at _ ts below)
simple_by_runs s n k bs shape.Path first e ss ts below h i = comes_both (begins (Marked Equals) ts) (path_is s n (body k bs) ts below h (i tt)) (λ q. set_runs s n k bs first.at e ss (behind ts) below) (λ q. path_local_runs s n k bs first.at _ ts below)
simple_by_runs s n k bs shape.Call first e ss ts below h i = comes_both (begins (Marked Semicolon) ts) (call_is s n (body k bs) ts below h) (λ q. record { eq = refl }) (λ q. record { eq = refl })
simple_by_runs s n k bs shape.Part first e ss ts below h i = comes_both (begins (Marked Equals) ts) (part_is s n (body k bs) ts below h (i tt)) (λ q. set_runs s n k bs first.at e ss (behind ts) below) (λ q. record { eq = refl })
simple_by_runs s n k bs shape.Bare first e ss ts below h i = record { eq = bare_is s n (body k bs) ts below h }

no_field : (ts : List Lexeme) → IsField (shape_of ts) → ⊥
no_field [] h = h
no_field (t ∷ ts) h = by_word t.word h
  where
    by_word : (w : Word) → IsField (shape_by w) → ⊥
    by_word (Named_ x) h = h
    by_word (Key New) h = h
    by_word (Key Super) h = h
    by_word (Key w) h = h
    by_word w h = h

pub simple_runs : (s : Bool) (n k : ℕ) (bs : List Bool) (ts : List Lexeme) (below : List Symbol) → Goes s n bs (Prim ∷ symbol (shape_of ts) (body k bs) ∷ below) ts below (simple_in s n k ts)
unfolding simple_in
simple_runs s n k bs ts below = comes_then (prim_runs s n (runs_below s n) ts (symbol (shape_of ts) (body k bs) ∷ below))
    (λ e _. comes_then (all_parts_run s n (shape_of ts) (body k bs) e.1 below)
    (λ ss is. simple_by_runs s n k bs (grown (shape_of ts) ss.0) (named_of ts) e.0 ss.0 ss.1 below (no_dot n e.1 ss is) (behind_parts n (shape_of ts) e.1 (no_field ts) ss is)))

-- ---- a name or "this" in front

both : (a c : Bool) → (a && c) ≡ true → (a ≡ true) × (c ≡ true)
both true true h = (refl, refl)
both true false h = absurd (never h)
both false c h = absurd (never h)

class_there : (ts : List Lexeme) → begins_class ts ≡ true → ts ≡ lexeme (Marked Dot) (place ts) ∷ lexeme (Key Class) (place (behind ts)) ∷ behind (behind ts)
class_there ts h = let two = both (begins (Marked Dot) ts) (begins (Key Class) (behind ts)) h in
    begins_is (Marked Dot) ts two.0 ∙ ap (λ (v : List Lexeme). lexeme (Marked Dot) (place ts) ∷ v) (begins_is (Key Class) (behind ts) two.1)

name_class : (s : Bool) (n : ℕ) (b : Body) (x : Name) (p q r : Place) (ts : List Lexeme) (below : List Symbol)
    → run s (lexeme (Named_ x) p ∷ lexeme (Marked Dot) q ∷ lexeme (Key Class) r ∷ ts) (Going n (Stmts b ∷ below)) ≡ run s (lexeme (Named_ x) p ∷ lexeme (Marked Dot) q ∷ lexeme (Key Class) r ∷ ts) (Going n (Type_ ∷ (local_end b ++ below)))
name_class true n b x p q r ts below = refl
name_class false n b x p q r ts below = refl

this_class : (s : Bool) (n : ℕ) (b : Body) (p q r : Place) (ts : List Lexeme) (below : List Symbol)
    → run s (lexeme (Key This) p ∷ lexeme (Marked Dot) q ∷ lexeme (Key Class) r ∷ ts) (Going n (Stmts b ∷ below)) ≡ run s (lexeme (Key This) p ∷ lexeme (Marked Dot) q ∷ lexeme (Key Class) r ∷ ts) (Going n (Type_ ∷ (local_end b ++ below)))
this_class true n b p q r ts below = refl
this_class false n b p q r ts below = refl

first_is : (s : Bool) (n : ℕ) (b : Body) (ts : List Lexeme) (below : List Symbol) → begins_class ts ≡ false → run s ts (Going n (FirstName b ∷ below)) ≡ run s ts (Going n (OneName b ∷ below))
first_is s n b [] below h = refl
first_is s n b (t ∷ ts) below h = by_word t.word h
  where
    behind_dot : (ts : List Lexeme) (p : Place) → begins (Key Class) ts ≡ false → run s (lexeme (Marked Dot) p ∷ ts) (Going n (FirstName b ∷ below)) ≡ run s (lexeme (Marked Dot) p ∷ ts) (Going n (OneName b ∷ below))
    behind_dot [] p h = refl
    behind_dot (u ∷ ts) p h = by_next u.word h
      where
        by_next : (w : Word) → is_word (Key Class) w ≡ false → run s (lexeme (Marked Dot) p ∷ lexeme w u.at ∷ ts) (Going n (FirstName b ∷ below)) ≡ run s (lexeme (Marked Dot) p ∷ lexeme w u.at ∷ ts) (Going n (OneName b ∷ below))
        by_next (Named_ x) h = refl
        by_next (Key Class) h = absurd (no_true h)
        by_next (Key w) h = refl
        by_next w h = refl

    by_word : (w : Word) → begins_class (lexeme w t.at ∷ ts) ≡ false → run s (lexeme w t.at ∷ ts) (Going n (FirstName b ∷ below)) ≡ run s (lexeme w t.at ∷ ts) (Going n (OneName b ∷ below))
    by_word (Marked Dot) h = behind_dot ts t.at h
    by_word (Marked m) h = refl
    by_word w h = refl

this_is : (s : Bool) (n : ℕ) (b : Body) (ts : List Lexeme) (below : List Symbol) → begins_class ts ≡ false → run s ts (Going n (AfterThis b ∷ below)) ≡ run s ts (Going n (Bare b ∷ below))
this_is s n b [] below h = refl
this_is s n b (t ∷ ts) below h = by_word t.word h
  where
    behind_dot : (ts : List Lexeme) (p : Place) → begins (Key Class) ts ≡ false → run s (lexeme (Marked Dot) p ∷ ts) (Going n (AfterThis b ∷ below)) ≡ run s (lexeme (Marked Dot) p ∷ ts) (Going n (Bare b ∷ below))
    behind_dot [] p h = refl
    behind_dot (u ∷ ts) p h = by_next u.word h
      where
        by_next : (w : Word) → is_word (Key Class) w ≡ false → run s (lexeme (Marked Dot) p ∷ lexeme w u.at ∷ ts) (Going n (AfterThis b ∷ below)) ≡ run s (lexeme (Marked Dot) p ∷ lexeme w u.at ∷ ts) (Going n (Bare b ∷ below))
        by_next (Named_ x) h = refl
        by_next (Key Class) h = absurd (no_true h)
        by_next (Key w) h = refl
        by_next w h = refl

    by_word : (w : Word) → begins_class (lexeme w t.at ∷ ts) ≡ false → run s (lexeme w t.at ∷ ts) (Going n (AfterThis b ∷ below)) ≡ run s (lexeme w t.at ∷ ts) (Going n (Bare b ∷ below))
    by_word (Marked Dot) h = behind_dot ts t.at h
    by_word (Marked m) h = refl
    by_word w h = refl

pub name_runs : (s : Bool) (n k : ℕ) (bs : List Bool) (x : Name) (p : Place) (ts : List Lexeme) (below : List Symbol) → Goes s n bs (Stmts (body k bs) ∷ below) (lexeme (Named_ x) p ∷ ts) below (led_in s n k (lexeme (Named_ x) p ∷ ts))
unfolding led_in
name_runs s n k bs x p ts below = comes_if (begins_class ts)
    (λ h. from (ap (λ (v : List Lexeme). run s (lexeme (Named_ x) p ∷ v) (Going n (Stmts (body k bs) ∷ below))) (class_there ts h) ∙ name_class s n (body k bs) x p (place ts) (place (behind ts)) (behind (behind ts)) below
    ∙ ap (λ (v : List Lexeme). run s (lexeme (Named_ x) p ∷ v) (Going n (Type_ ∷ (local_end (body k bs) ++ below)))) (sym (class_there ts h))) (local_runs s n k bs false (lexeme (Named_ x) p ∷ ts) below))
    (λ h. from (first_is s n (body k bs) ts below h) (simple_runs s n k bs (lexeme (Named_ x) p ∷ ts) below))

pub this_runs : (s : Bool) (n k : ℕ) (bs : List Bool) (p : Place) (ts : List Lexeme) (below : List Symbol) → Goes s n bs (Stmts (body k bs) ∷ below) (lexeme (Key This) p ∷ ts) below (led_in s n k (lexeme (Key This) p ∷ ts))
unfolding led_in
this_runs s n k bs p ts below = comes_if (begins_class ts)
    (λ h. from (ap (λ (v : List Lexeme). run s (lexeme (Key This) p ∷ v) (Going n (Stmts (body k bs) ∷ below))) (class_there ts h) ∙ this_class s n (body k bs) p (place ts) (place (behind ts)) (behind (behind ts)) below
    ∙ ap (λ (v : List Lexeme). run s (lexeme (Key This) p ∷ v) (Going n (Type_ ∷ (local_end (body k bs) ++ below)))) (sym (class_there ts h))) (local_runs s n k bs false (lexeme (Key This) p ∷ ts) below))
    (λ h. from (this_is s n (body k bs) ts below h) (simple_runs s n k bs (lexeme (Key This) p ∷ ts) below))
