-- Reading expressions and arguments is what the machine does with their symbols.
use Rattle.std.proofs.Common.{◌≡◌, ℕ, zero, suc, ◌≤◌, ◌<◌, Bool, true, List, [], ◌∷◌, ◌++◌, length, Option, Some, None, Ok, refl, sym, ◌∙◌, ap, arith, if◌then◌else◌}
use Rattle.std.specs.Prelude.{is_some}
use Rattle.jn_base.specs.declared.tree.Place.{Place}
use Rattle.jn_base.specs.declared.tree.Expr.{Expr as ExprTree}
use Rattle.jn_base.specs.declared.tree.Level.{Level}
use Rattle.jn_base.specs.declared.tree.Level.TheVariants as level_
use Rattle.jn_base.specs.declared.tree.Op.{Op}
use Rattle.jn_base.specs.declared.tree.Link.{Link}
use Rattle.jn_base.specs.declared.word.Keyword.TheVariants.{False, New, Null, Super, This, True}
use Rattle.jn_base.specs.declared.word.Mark.TheVariants.{Bang, CloseParen, Comma, Minus, OpenParen}
use Rattle.jn_base.specs.declared.word.Word.{Word}
use Rattle.jn_base.specs.declared.word.Word.TheVariants.{Keyword as Key, Mark as Marked}
use Rattle.jn_base.specs.declared.word.Lexeme.{Lexeme}
use Rattle.jn_base.specs.Words.{lexeme}
use Rattle.jn_base.specs.Parts.{Part}
use Rattle.jn_base.specs.GrammarExpr.{IsUnary, IsProduct, IsEquality, IsConjunction}
use Rattle.jn_grammar.specs.Begins.{begins, behind, place, is_word}
use Rattle.jn_grammar.specs.Answers.{Answer, row}
use Rattle.jn_grammar.specs.ReadExprs.{operator, operator_of, goes_on, link_by, link_in, chain_in, pair_in, unary_in, product_in, sum_in, comparison_in, equality_in, conjunction_in, expr_in, arg_in, args_in, level}
use Rattle.jn_grammar.specs.Expected.{Symbol, Unary, Expr, Rest, Args, MoreArgs, Takes, linked, rests, on_operator, led, step, Going, run}
use Rattle.jn_grammar.proofs.Tools.{Below, Sound, strictly}
use Rattle.jn_grammar.proofs.ExprSound.{unary_sound}
use Rattle.jn_grammar.proofs.ChainSound.{IsLink, one_link, link_sound, product_sound, equality_sound, conjunction_sound, IsArg, one_arg, arg_sound, sounds_below}
use Rattle.jn_grammar.proofs.Meets.{if_true, if_false}
use Rattle.jn_grammar.proofs.Machine.{Comes, Does, comes_then, comes_both, from, takes_or_leaves, row_runs}
use Rattle.jn_grammar.proofs.ExprRuns.{Runs, unary_runs}

-- the machine at an operator of the level
pub rest_takes : (s : Bool) (l : Level) (n : ℕ) (ts : List Lexeme) (below : List Symbol)
    → run s ts (Going n (Rest l ∷ below)) ≡ (if goes_on l ts then run s (behind ts) (Going n (linked l ++ below)) else run s ts (Going n below))
rest_takes s l n [] below = refl
rest_takes s l n (t ∷ ts) below = by_operator (operator l t.word)
  where
    by_operator : (o : Option Op) → run s ts (led s (on_operator (Takes (linked l)) o) n below (suc (length ts)) (λ i. step s below i t.word (suc (length ts))))
        ≡ (if is_some o then run s ts (Going n (linked l ++ below)) else run s ts (step s below n t.word (suc (length ts))))
    by_operator (Some o) = refl
    by_operator None = refl

-- What the machine does with the operands of a level: it goes from `first` to what is below.
abbrev pub OperandRuns : Bool → ℕ → (List Symbol → List Symbol) → (List Lexeme → Answer ExprTree) → Type 0
OperandRuns s n first operand = (ts : List Lexeme) (below : List Symbol) → Comes (run s ts (Going n (first below))) (λ y. run s y.1 (Going n below)) (operand ts)

link_runs : (s : Bool) (l : Level) (n : ℕ) (first : List Symbol → List Symbol) (operand : List Lexeme → Answer ExprTree) → OperandRuns s n first operand
    → (k : ℕ) (ts : List Lexeme) (below : List Symbol) → goes_on l ts ≡ true → Comes (run s (behind ts) (Going n (first below))) (λ y. run s y.1 (Going n below)) (link_in l operand k ts)
unfolding link_in
link_runs s l n first operand h k ts below e = by_operator (operator_of l ts) e
  where
    by_operator : (o : Option Op) → is_some o ≡ true → Comes (run s (behind ts) (Going n (first below))) (λ y. run s y.1 (Going n below)) (link_by o operand ts)
    by_operator (Some o) e = comes_then (h (behind ts) below) (λ _ _. record { eq = refl })
    by_operator None e = cc

link_long : (l : Level) (Is : Place → List Part → ExprTree → Type 0) (w : List Part) (x : Link) → IsLink l Is w x → 1 ≤ length w
link_long l Is w x (one_link p q o i) = omega arith

link_less : (l : Level) (Is : Place → List Part → ExprTree → Type 0) (operand : List Lexeme → Answer ExprTree) → ((ts : List Lexeme) → Sound (Is (place ts)) ts (operand ts))
    → (k : ℕ) (ts : List Lexeme) (x : Link × List Lexeme) → goes_on l ts ≡ true → link_in l operand k ts ≡ Ok x → length x.1 < length ts
link_less l Is operand h k ts x e = strictly (IsLink l Is) ts _ x (λ w. link_long l Is w x.0) (link_sound l Is operand h k ts)

chain_runs : (s : Bool) (l : Level) (n : ℕ) (first : List Symbol → List Symbol) (operand : List Lexeme → Answer ExprTree) (Is : Place → List Part → ExprTree → Type 0)
    → ((ts : List Lexeme) → Sound (Is (place ts)) ts (operand ts)) → OperandRuns s n first operand → ((below : List Symbol) → linked l ++ below ≡ first (Rest l ∷ below))
    → OperandRuns s n (λ below. first (Rest l ∷ below)) (chain_in l operand)
unfolding chain_in
chain_runs s l n first operand Is sound h same ts below =
    comes_then (h ts (Rest l ∷ below))
    (λ e _. comes_then (row_runs s n (goes_on l) (link_in l operand) (λ _. Rest l ∷ below) below
    (λ k us stop. rest_takes s l n us below ∙ if_false (goes_on l us) _ _ stop)
    (λ k us more. from (rest_takes s l n us below ∙ if_true (goes_on l us) _ _ more ∙ ap (λ i. run s (behind us) (Going n i)) (same below)) (link_runs s l n first operand h k us (Rest l ∷ below) more))
    (link_less l Is operand sound) refl 1 e.1)
    (λ _ _. record { eq = refl }))

pair_runs : (s : Bool) (l : Level) (n : ℕ) (first : List Symbol → List Symbol) (operand : List Lexeme → Answer ExprTree)
    → OperandRuns s n first operand → ((below : List Symbol) → linked l ++ below ≡ first below)
    → OperandRuns s n (λ below. first (Rest l ∷ below)) (pair_in l operand)
unfolding pair_in
pair_runs s l n first operand h same ts below =
    comes_then (h ts (Rest l ∷ below))
    (λ e _. comes_both (goes_on l e.1) (rest_takes s l n e.1 below)
    (λ more. from (ap (λ i. run s (behind e.1) (Going n i)) (same below)) (comes_then (link_runs s l n first operand h 1 e.1 below more) (λ _ _. record { eq = refl })))
    (λ stop. record { eq = refl }))

-- an expression of a level begins as an operand
as_unary : (s : Bool) (l : Level) (n : ℕ) (ts : List Lexeme) (below : List Symbol) → run s ts (Going n (Expr l ∷ below)) ≡ run s ts (Going n (Unary ∷ (rests l ++ below)))
as_unary s l n [] below = refl
as_unary s l n (t ∷ ts) below = by_word t.word
  where
    by_word : (k : Word) → run s (lexeme k t.at ∷ ts) (Going n (Expr l ∷ below)) ≡ run s (lexeme k t.at ∷ ts) (Going n (Unary ∷ (rests l ++ below)))
    by_word (Marked Bang) = refl
    by_word (Marked Minus) = refl
    by_word (Marked OpenParen) = refl
    by_word (Marked m) = refl
    by_word (Key True) = refl
    by_word (Key False) = refl
    by_word (Key Null) = refl
    by_word (Key This) = refl
    by_word (Key New) = refl
    by_word (Key Super) = refl
    by_word (Key k) = refl
    by_word k = refl

pub product_runs : (s : Bool) (n : ℕ) → Below (Runs s) n → OperandRuns s n (λ below. Expr level_.Product ∷ below) (product_in (level n))
unfolding product_in
product_runs s n b ts below = from (as_unary s level_.Product n ts below)
    (chain_runs s level_.Product n (λ z. Unary ∷ z) (unary_in (level n)) (IsUnary 0) (unary_sound n (sounds_below n) 0) (unary_runs s n b) (λ z. refl) ts below)

pub sum_runs : (s : Bool) (n : ℕ) → Below (Runs s) n → OperandRuns s n (λ below. Expr level_.Sum ∷ below) (sum_in (level n))
unfolding sum_in
sum_runs s n b ts below = from (as_unary s level_.Sum n ts below ∙ sym (as_unary s level_.Product n ts (Rest level_.Sum ∷ below)))
    (chain_runs s level_.Sum n (λ z. Expr level_.Product ∷ z) (product_in (level n)) (IsProduct 0) (product_sound n (sounds_below n) 0) (product_runs s n b) (λ z. refl) ts below)

pub comparison_runs : (s : Bool) (n : ℕ) → Below (Runs s) n → OperandRuns s n (λ below. Expr level_.Compare ∷ below) (comparison_in (level n))
unfolding comparison_in
comparison_runs s n b ts below = from (as_unary s level_.Compare n ts below ∙ sym (as_unary s level_.Sum n ts (Rest level_.Compare ∷ below)))
    (pair_runs s level_.Compare n (λ z. Expr level_.Sum ∷ z) (sum_in (level n)) (sum_runs s n b) (λ z. refl) ts below)

pub equality_runs : (s : Bool) (n : ℕ) → Below (Runs s) n → OperandRuns s n (λ below. Expr level_.Equal ∷ below) (equality_in (level n))
unfolding equality_in
equality_runs s n b ts below = from (as_unary s level_.Equal n ts below ∙ sym (as_unary s level_.Compare n ts (Rest level_.Equal ∷ below)))
    (pair_runs s level_.Equal n (λ z. Expr level_.Compare ∷ z) (comparison_in (level n)) (comparison_runs s n b) (λ z. refl) ts below)

pub conjunction_runs : (s : Bool) (n : ℕ) → Below (Runs s) n → OperandRuns s n (λ below. Expr level_.And ∷ below) (conjunction_in (level n))
unfolding conjunction_in
conjunction_runs s n b ts below = from (as_unary s level_.And n ts below ∙ sym (as_unary s level_.Equal n ts (Rest level_.And ∷ below)))
    (chain_runs s level_.And n (λ z. Expr level_.Equal ∷ z) (equality_in (level n)) (IsEquality 0) (equality_sound n (sounds_below n) 0) (equality_runs s n b) (λ z. refl) ts below)

pub expr_runs : (s : Bool) (n : ℕ) → Below (Runs s) n → (ts : List Lexeme) (below : List Symbol) → Does s (Expr level_.Or) n ts below (expr_in (level n) ts)
unfolding expr_in
expr_runs s n b ts below = from (as_unary s level_.Or n ts below ∙ sym (as_unary s level_.And n ts (Rest level_.Or ∷ below)))
    (chain_runs s level_.Or n (λ z. Expr level_.And ∷ z) (conjunction_in (level n)) (IsConjunction 0) (conjunction_sound n (sounds_below n) 0) (conjunction_runs s n b) (λ z. refl) ts below)

arg_long : (w : List Part) (x : ExprTree) → IsArg 0 w x → 1 ≤ length w
arg_long w x (one_arg i) = omega arith

arg_less : (n k : ℕ) (ts : List Lexeme) (x : ExprTree × List Lexeme) → begins (Marked Comma) ts ≡ true → arg_in (level n) k ts ≡ Ok x → length x.1 < length ts
arg_less n k ts x h = strictly (IsArg 0) ts _ x (λ w. arg_long w x.0) (arg_sound n (sounds_below n) 0 k ts h)

more_args_run : (s : Bool) (n : ℕ) → Below (Runs s) n → (ts : List Lexeme) (below : List Symbol) → Does s MoreArgs n ts below (row (begins (Marked Comma)) (arg_in (level n)) 1 ts)
unfolding arg_in
more_args_run s n b ts below = row_runs s n (begins (Marked Comma)) (arg_in (level n)) (λ _. MoreArgs ∷ below) below
    (λ k ts h. takes_or_leaves s (Marked Comma) (Expr level_.Or ∷ MoreArgs ∷ []) below n ts MoreArgs (λ k. refl) ∙ if_false (begins (Marked Comma) ts) _ _ h)
    (λ k ts h. from (takes_or_leaves s (Marked Comma) (Expr level_.Or ∷ MoreArgs ∷ []) below n ts MoreArgs (λ k. refl) ∙ if_true (begins (Marked Comma) ts) _ _ h) (expr_runs s n b (behind ts) (MoreArgs ∷ below)))
    (arg_less n) refl 1 ts

pub args_run : (s : Bool) (n : ℕ) → Below (Runs s) n → (ts : List Lexeme) (below : List Symbol) → Does s Args n ts below (args_in (level n) ts)
unfolding args_in
args_run s n b ts below = comes_both (begins (Marked CloseParen) ts) (as_expr ts)
    (λ h. record { eq = refl })
    (λ h. comes_then (expr_runs s n b ts (MoreArgs ∷ below)) (λ e _. comes_then (more_args_run s n b e.1 below) (λ _ _. record { eq = refl })))
  where
    as_expr : (ts : List Lexeme) → run s ts (Going n (Args ∷ below)) ≡ (if begins (Marked CloseParen) ts then run s ts (Going n below) else run s ts (Going n (Expr level_.Or ∷ MoreArgs ∷ below)))
    as_expr [] = refl
    as_expr (t ∷ ts) = by_word t.word
      where
        by_word : (k : Word) → run s (lexeme k t.at ∷ ts) (Going n (Args ∷ below))
            ≡ (if is_word (Marked CloseParen) k then run s (lexeme k t.at ∷ ts) (Going n below) else run s (lexeme k t.at ∷ ts) (Going n (Expr level_.Or ∷ MoreArgs ∷ below)))
        by_word (Marked CloseParen) = refl
        by_word (Marked Bang) = refl
        by_word (Marked Minus) = refl
        by_word (Marked OpenParen) = refl
        by_word (Marked m) = refl
        by_word (Key True) = refl
        by_word (Key False) = refl
        by_word (Key Null) = refl
        by_word (Key This) = refl
        by_word (Key New) = refl
        by_word (Key Super) = refl
        by_word (Key k) = refl
        by_word k = refl

pub runs : (s : Bool) (n : ℕ) → Runs s n
runs s zero = record { expr_does = expr_runs s zero tt; unary_does = unary_runs s zero tt; args_does = args_run s zero tt }
runs s (suc n) = record { expr_does = expr_runs s (suc n) (runs s n); unary_does = unary_runs s (suc n) (runs s n); args_does = args_run s (suc n) (runs s n) }

pub runs_below : (s : Bool) (n : ℕ) → Below (Runs s) n
runs_below s zero = tt
runs_below s (suc n) = runs s n
