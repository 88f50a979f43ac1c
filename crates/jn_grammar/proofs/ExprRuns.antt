-- Reading primaries, parts and operands is what the machine does with their symbols.
use Rattle.std.proofs.Common.{◌≡◌, ℕ, zero, suc, ◌≤◌, ◌<◌, Bool, true, false, List, [], ◌∷◌, length, Ok, refl, sym, ◌∙◌, ap, arith}
use Rattle.jn_base.specs.declared.tree.Place.{Place}
use Rattle.jn_base.specs.declared.tree.Named.{Named}
use Rattle.jn_base.specs.declared.tree.Term.{Term as TermTree}
use Rattle.jn_base.specs.declared.tree.Suffix.{Suffix}
use Rattle.jn_base.specs.declared.tree.Level.TheVariants as level_
use Rattle.jn_base.specs.declared.refusal.Limit.TheVariants.{Nesting}
use Rattle.jn_base.specs.declared.word.Keyword.TheVariants.{False, New, Null, Super, This, True, View as ViewKey}
use Rattle.jn_base.specs.declared.word.Mark.TheVariants.{Bang, CloseBracket, CloseParen, Dot, Minus, OpenBracket, OpenParen}
use Rattle.jn_base.specs.declared.word.Word.{Word}
use Rattle.jn_base.specs.declared.word.Word.TheVariants.{Name as Named_, Keyword as Key, Number, Mark as Marked}
use Rattle.jn_base.specs.declared.word.Lexeme.{Lexeme}
use Rattle.jn_base.specs.Words.{lexeme}
use Rattle.jn_base.specs.Parts.{Part, named}
use Rattle.jn_base.specs.GrammarExpr.{IsSuffix, field, call}
use Rattle.jn_grammar.specs.declared.fault.Fault.TheVariants.{Syntax, Passed}
use Rattle.jn_grammar.specs.Begins.{begins, behind, is_word}
use Rattle.jn_grammar.specs.Answers.{◌>>=◌, name_by, name_in, row}
use Rattle.jn_grammar.specs.ReadExprs.{begins_view, shut_args_in, call_args_in, new_in, super_call_in, super_in, parens_in, prim_by, prim_in, call_in, suffix_in, post_in, viewed_in, inverse_in, negative_in, unary_in, expr_in, args_in, level}
use Rattle.jn_grammar.specs.Expected.{Symbol, Expects, Shuts, AName, Term, Prim, Suffixes, SuffixName, MayCall, InParens, Unary, OperandEnd, Expr, CallArgs, Args, SuperTerm, opened, Going, run}
use Rattle.jn_grammar.proofs.Tools.{Below, strictly}
use Rattle.jn_grammar.proofs.ExprSound.{suffix_sound}
use Rattle.jn_grammar.proofs.ChainSound.{sounds_below}
use Rattle.jn_grammar.proofs.Meets.{if_true, if_false}
use Rattle.jn_grammar.proofs.Machine.{Comes, Does, run_fails, comes_then, comes_both, from, takes_or_leaves, opens_or_leaves, opens_or_refuses, expects, shuts, names, operand_ends, row_runs}
use Rattle.jn_grammar.proofs.TermsRuns.{term_runs, view_runs}

-- What holds of the readers where n more may open.
pub record Runs (s : Bool) (n : ℕ) : Type 0 where
  pub expr_does : (ts : List Lexeme) (below : List Symbol) → Does s (Expr level_.Or) n ts below (expr_in (level n) ts)
  pub unary_does : (ts : List Lexeme) (below : List Symbol) → Does s Unary n ts below (unary_in (level n) ts)
  pub args_does : (ts : List Lexeme) (below : List Symbol) → Does s Args n ts below (args_in (level n) ts)

-- arguments from their "(" on, which stands there
pub shut_args_run : (s : Bool) (n : ℕ) → Below (Runs s) n → (ts : List Lexeme) (below : List Symbol)
    → Comes (run s (behind ts) (opened n (Args ∷ Shuts (Marked CloseParen) ∷ below) (length ts))) (λ y. run s y.1 (Going n below)) (shut_args_in (level n) ts)
unfolding shut_args_in level
shut_args_run s zero b ts below = record { eq = run_fails s (behind ts) (Passed Nesting (length ts)) }
shut_args_run s (suc n) b ts below = comes_then (b.args_does (behind ts) (Shuts (Marked CloseParen) ∷ below)) (λ es _. comes_then (shuts s (Marked CloseParen) n es.1 below) (λ _ _. record { eq = refl }))

pub call_args_run : (s : Bool) (n : ℕ) → Below (Runs s) n → (ts : List Lexeme) (below : List Symbol) → Does s CallArgs n ts below (call_args_in (level n) ts)
unfolding call_args_in
call_args_run s n b ts below = comes_both (begins (Marked OpenParen) ts) (opens_or_refuses s (Marked OpenParen) (Args ∷ Shuts (Marked CloseParen) ∷ []) below n ts CallArgs (λ k. refl))
    (λ h. shut_args_run s n b ts below) (λ h. record { eq = refl })

at_runs : (s : Bool) (n : ℕ) (ts : List Lexeme) (below : List Symbol) → Does s Term n ts below ((level n).term_at ts)
unfolding level
at_runs s zero ts below = term_runs s zero ts below
at_runs s (suc n) ts below = term_runs s (suc n) ts below

pub new_runs : (s : Bool) (n : ℕ) → Below (Runs s) n → (p : Place) (ts : List Lexeme) (below : List Symbol) → Comes (run s ts (Going n (Term ∷ CallArgs ∷ below))) (λ y. run s y.1 (Going n below)) (new_in (level n) p ts)
unfolding new_in
new_runs s n b p ts below = comes_then (at_runs s n ts (CallArgs ∷ below)) (λ t _. comes_then (call_args_run s n b t.1 below) (λ _ _. record { eq = refl }))

pub super_call_runs : (s : Bool) (n : ℕ) → Below (Runs s) n → (p : Place) (t : TermTree) (m : ℕ) → n ≡ suc m → (ts : List Lexeme) (below : List Symbol)
    → Comes (run s ts (Going m (Shuts (Marked CloseBracket) ∷ Expects (Marked Dot) ∷ AName ∷ CallArgs ∷ below))) (λ y. run s y.1 (Going n below)) (super_call_in (level n) p t ts)
unfolding super_call_in
super_call_runs s n b p t m e ts below =
    comes_then (shuts s (Marked CloseBracket) m ts (Expects (Marked Dot) ∷ AName ∷ CallArgs ∷ below))
    (λ z _. comes_then (expects s (Marked Dot) (suc m) z.1 (AName ∷ CallArgs ∷ below))
    (λ o _. comes_then (names s (suc m) o.1 (CallArgs ∷ below))
    (λ x _. from (ap (λ i. run s x.1 (Going i (CallArgs ∷ below))) (sym e)) (comes_then (call_args_run s n b x.1 below) (λ _ _. record { eq = refl })))))

pub super_runs : (s : Bool) (n : ℕ) → Below (Runs s) n → (p : Place) (ts : List Lexeme) (below : List Symbol) → Does s SuperTerm n ts below (super_in (level n) p ts)
unfolding super_in level
super_runs s n b p ts below = comes_both (begins (Marked OpenBracket) ts) (opens_or_refuses s (Marked OpenBracket) (Term ∷ Shuts (Marked CloseBracket) ∷ Expects (Marked Dot) ∷ AName ∷ CallArgs ∷ []) below n ts SuperTerm (λ k. refl))
    (λ h. by_left n b) (λ h. record { eq = refl })
  where
    by_left : (n : ℕ) → Below (Runs s) n
        → Comes (run s (behind ts) (opened n (Term ∷ Shuts (Marked CloseBracket) ∷ Expects (Marked Dot) ∷ AName ∷ CallArgs ∷ below) (length ts))) (λ y. run s y.1 (Going n below)) ((level n).term_of ts >>= λ t. super_call_in (level n) p t.0 t.1)
    by_left zero b = record { eq = run_fails s (behind ts) (Passed Nesting (length ts)) }
    by_left (suc n) b = comes_then (term_runs s n (behind ts) (Shuts (Marked CloseBracket) ∷ Expects (Marked Dot) ∷ AName ∷ CallArgs ∷ below)) (λ t _. super_call_runs s (suc n) b p t.0 n refl t.1 below)

parens_run : (s : Bool) (n : ℕ) → Below (Runs s) n → (p : Place) (ts : List Lexeme) (below : List Symbol)
    → Comes (run s ts (opened n (Expr level_.Or ∷ Shuts (Marked CloseParen) ∷ below) (suc (length ts)))) (λ y. run s y.1 (Going n below)) (parens_in (level n) (lexeme (Marked OpenParen) p ∷ ts))
unfolding parens_in level
parens_run s zero b p ts below = record { eq = run_fails s ts (Passed Nesting (suc (length ts))) }
parens_run s (suc n) b p ts below = comes_then (b.expr_does ts (Shuts (Marked CloseParen) ∷ below)) (λ e _. comes_then (shuts s (Marked CloseParen) n e.1 below) (λ _ _. record { eq = refl }))

pub prim_runs : (s : Bool) (n : ℕ) → Below (Runs s) n → (ts : List Lexeme) (below : List Symbol) → Does s Prim n ts below (prim_in (level n) ts)
unfolding prim_in prim_by
prim_runs s n b [] below = record { eq = refl }
prim_runs s n b (t ∷ ts) below = by_word t.word
  where
    by_word : (k : Word) → Does s Prim n (lexeme k t.at ∷ ts) below (prim_by (level n) k (lexeme k t.at) ts)
    by_word (Number v) = record { eq = refl }
    by_word (Named_ x) = record { eq = refl }
    by_word (Key True) = record { eq = refl }
    by_word (Key False) = record { eq = refl }
    by_word (Key Null) = record { eq = refl }
    by_word (Key This) = record { eq = refl }
    by_word (Key New) = new_runs s n b t.at ts below
    by_word (Key Super) = super_runs s n b t.at ts below
    by_word (Marked OpenParen) = parens_run s n b t.at ts below
    by_word k = record { eq = run_fails s ts (Syntax (suc (length ts))) }

pub call_runs : (s : Bool) (n : ℕ) → Below (Runs s) n → (x : Named) (ts : List Lexeme) (below : List Symbol) → Does s MayCall n ts below (call_in (level n) x ts)
unfolding call_in
call_runs s n b x ts below = comes_both (begins (Marked OpenParen) ts) (opens_or_leaves s (Marked OpenParen) (Args ∷ Shuts (Marked CloseParen) ∷ []) below n ts MayCall (λ k. refl))
    (λ h. comes_then (shut_args_run s n b ts below) (λ _ _. record { eq = refl }))
    (λ h. record { eq = refl })

pub suffix_name_runs : (s : Bool) (n : ℕ) → Below (Runs s) n → (ts : List Lexeme) (below : List Symbol) → Does s SuffixName n ts below (name_in ts >>= λ x. call_in (level n) x.0 x.1)
suffix_name_runs s n b [] below = record { eq = refl }
suffix_name_runs s n b (t ∷ ts) below = by_word t.word
  where
    by_word : (k : Word) → Does s SuffixName n (lexeme k t.at ∷ ts) below (name_by k (lexeme k t.at) ts >>= λ x. call_in (level n) x.0 x.1)
    by_word (Named_ x) = call_runs s n b (named x t.at) ts below
    by_word k = record { eq = run_fails s ts (Syntax (suc (length ts))) }

suffix_long : (w : List Part) (x : Suffix) → IsSuffix 0 w x → 1 ≤ length w
suffix_long w x field = omega arith
suffix_long w x (call c i) = omega arith

pub suffix_less : (n k : ℕ) (ts : List Lexeme) (x : Suffix × List Lexeme) → begins (Marked Dot) ts ≡ true → suffix_in (level n) k ts ≡ Ok x → length x.1 < length ts
suffix_less n k ts x h = strictly (IsSuffix 0) ts _ x (λ w. suffix_long w x.0) (suffix_sound n (sounds_below n) 0 k ts h)

pub suffixes_run : (s : Bool) (n : ℕ) → Below (Runs s) n → (ts : List Lexeme) (below : List Symbol) → Does s Suffixes n ts below (row (begins (Marked Dot)) (suffix_in (level n)) 1 ts)
unfolding suffix_in
suffixes_run s n b ts below = row_runs s n (begins (Marked Dot)) (suffix_in (level n)) (λ _. Suffixes ∷ below) below
    (λ k ts h. takes_or_leaves s (Marked Dot) (SuffixName ∷ Suffixes ∷ []) below n ts Suffixes (λ k. refl) ∙ if_false (begins (Marked Dot) ts) _ _ h)
    (λ k ts h. from (takes_or_leaves s (Marked Dot) (SuffixName ∷ Suffixes ∷ []) below n ts Suffixes (λ k. refl) ∙ if_true (begins (Marked Dot) ts) _ _ h) (suffix_name_runs s n b (behind ts) (Suffixes ∷ below)))
    (suffix_less n) refl 1 ts

pub post_runs : (s : Bool) (n : ℕ) → Below (Runs s) n → (ts : List Lexeme) (below : List Symbol) → Comes (run s ts (Going n (Prim ∷ Suffixes ∷ below))) (λ y. run s y.1 (Going n below)) (post_in (level n) ts)
unfolding post_in
post_runs s n b ts below = comes_then (prim_runs s n b ts (Suffixes ∷ below)) (λ e _. comes_then (suffixes_run s n b e.1 below) (λ _ _. record { eq = refl }))

-- "!" and "-", from there on
inverse_runs : (s : Bool) (n : ℕ) → Below (Runs s) n → (p : Place) (ts : List Lexeme) (below : List Symbol)
    → Comes (run s ts (opened n (Unary ∷ OperandEnd ∷ below) (suc (length ts)))) (λ y. run s y.1 (Going n below)) (inverse_in (level n) (lexeme (Marked Bang) p ∷ ts))
unfolding inverse_in level
inverse_runs s zero b p ts below = record { eq = run_fails s ts (Passed Nesting (suc (length ts))) }
inverse_runs s (suc n) b p ts below = comes_then (b.unary_does ts (OperandEnd ∷ below)) (λ e _. record { eq = operand_ends s n e.1 below })

negative_runs : (s : Bool) (n : ℕ) → Below (Runs s) n → (p : Place) (ts : List Lexeme) (below : List Symbol)
    → Comes (run s ts (opened n (Unary ∷ OperandEnd ∷ below) (suc (length ts)))) (λ y. run s y.1 (Going n below)) (negative_in (level n) (lexeme (Marked Minus) p ∷ ts))
unfolding negative_in level
negative_runs s zero b p ts below = record { eq = run_fails s ts (Passed Nesting (suc (length ts))) }
negative_runs s (suc n) b p ts below = comes_then (b.unary_does ts (OperandEnd ∷ below)) (λ e _. record { eq = operand_ends s n e.1 below })

-- "(": "view" behind it, or not
view_opens : (s : Bool) (n : ℕ) → Below (Runs s) n → (p o : Place) (ts : List Lexeme) (below : List Symbol)
    → Comes (run s (lexeme (Key ViewKey) o ∷ ts) (opened n (InParens ∷ below) (suc (suc (length ts))))) (λ y. run s y.1 (Going n below)) (viewed_in (level n) (lexeme (Marked OpenParen) p ∷ lexeme (Key ViewKey) o ∷ ts))
unfolding viewed_in level
view_opens s zero b p o ts below = record { eq = refl }
view_opens s (suc n) b p o ts below = comes_then (view_runs s n ts (Expects (Marked CloseParen) ∷ Unary ∷ OperandEnd ∷ below))
    (λ t _. comes_then (expects s (Marked CloseParen) n t.1 (Unary ∷ OperandEnd ∷ below))
    (λ c _. comes_then (b.unary_does c.1 (OperandEnd ∷ below)) (λ e _. record { eq = operand_ends s n e.1 below })))

-- where no "view" stands, it is an expression in parentheses, and parts
in_parens_is : (s : Bool) (n : ℕ) (ts : List Lexeme) (below : List Symbol) → begins (Key ViewKey) ts ≡ false
    → run s ts (Going n (InParens ∷ below)) ≡ run s ts (Going n (Expr level_.Or ∷ Shuts (Marked CloseParen) ∷ Suffixes ∷ below))
in_parens_is s n [] below h = refl
in_parens_is s n (t ∷ ts) below h = by_word t.word h
  where
    by_word : (k : Word) → is_word (Key ViewKey) k ≡ false → run s (lexeme k t.at ∷ ts) (Going n (InParens ∷ below)) ≡ run s (lexeme k t.at ∷ ts) (Going n (Expr level_.Or ∷ Shuts (Marked CloseParen) ∷ Suffixes ∷ below))
    by_word (Key ViewKey) h = cc
    by_word (Key k) h = refl
    by_word (Marked OpenParen) h = refl
    by_word (Marked Bang) h = refl
    by_word (Marked Minus) h = refl
    by_word (Marked m) h = refl
    by_word (Number v) h = refl
    by_word (Named_ x) h = refl
    by_word k h = refl

parens_open : (s : Bool) (n : ℕ) → Below (Runs s) n → (p : Place) (ts : List Lexeme) (below : List Symbol) → begins (Key ViewKey) ts ≡ false
    → Comes (run s ts (opened n (InParens ∷ below) (suc (length ts)))) (λ y. run s y.1 (Going n below)) (post_in (level n) (lexeme (Marked OpenParen) p ∷ ts))
parens_open s n b p ts below h = from (as_expr n) (post_runs s n b (lexeme (Marked OpenParen) p ∷ ts) below)
  where
    as_expr : (n : ℕ) → run s ts (opened n (InParens ∷ below) (suc (length ts))) ≡ run s (lexeme (Marked OpenParen) p ∷ ts) (Going n (Prim ∷ Suffixes ∷ below))
    as_expr zero = refl
    as_expr (suc n) = in_parens_is s n ts below h

begins_view_not : (p : Place) (ts : List Lexeme) → begins (Key ViewKey) ts ≡ false → begins_view (lexeme (Marked OpenParen) p ∷ ts) ≡ false
begins_view_not p ts h = h

paren_runs : (s : Bool) (n : ℕ) → Below (Runs s) n → (p : Place) (ts : List Lexeme) (below : List Symbol)
    → Comes (run s ts (opened n (InParens ∷ below) (suc (length ts)))) (λ y. run s y.1 (Going n below)) (unary_in (level n) (lexeme (Marked OpenParen) p ∷ ts))
unfolding unary_in
paren_runs s n b p [] below = parens_open s n b p [] below refl
paren_runs s n b p (t ∷ ts) below = by_word t.word
  where
    by_word : (k : Word) → Comes (run s (lexeme k t.at ∷ ts) (opened n (InParens ∷ below) (suc (suc (length ts))))) (λ y. run s y.1 (Going n below)) (unary_in (level n) (lexeme (Marked OpenParen) p ∷ lexeme k t.at ∷ ts))
    by_word (Key ViewKey) = view_opens s n b p t.at ts below
    by_word (Key k) = parens_open s n b p (lexeme (Key k) t.at ∷ ts) below refl
    by_word k = parens_open s n b p (lexeme k t.at ∷ ts) below refl

pub unary_runs : (s : Bool) (n : ℕ) → Below (Runs s) n → (ts : List Lexeme) (below : List Symbol) → Does s Unary n ts below (unary_in (level n) ts)
unfolding unary_in
unary_runs s n b [] below = post_runs s n b [] below
unary_runs s n b (t ∷ ts) below = by_word t.word
  where
    by_word : (k : Word) → Does s Unary n (lexeme k t.at ∷ ts) below (unary_in (level n) (lexeme k t.at ∷ ts))
    by_word (Marked Bang) = inverse_runs s n b t.at ts below
    by_word (Marked Minus) = negative_runs s n b t.at ts below
    by_word (Marked OpenParen) = paren_runs s n b t.at ts below
    by_word (Marked m) = record { eq = (post_runs s n b (lexeme (Marked m) t.at ∷ ts) below).eq }
    by_word (Key True) = record { eq = (post_runs s n b (lexeme (Key True) t.at ∷ ts) below).eq }
    by_word (Key False) = record { eq = (post_runs s n b (lexeme (Key False) t.at ∷ ts) below).eq }
    by_word (Key Null) = record { eq = (post_runs s n b (lexeme (Key Null) t.at ∷ ts) below).eq }
    by_word (Key This) = record { eq = (post_runs s n b (lexeme (Key This) t.at ∷ ts) below).eq }
    by_word (Key New) = record { eq = (post_runs s n b (lexeme (Key New) t.at ∷ ts) below).eq }
    by_word (Key Super) = record { eq = (post_runs s n b (lexeme (Key Super) t.at ∷ ts) below).eq }
    by_word (Key k) = record { eq = (post_runs s n b (lexeme (Key k) t.at ∷ ts) below).eq }
    by_word k = record { eq = (post_runs s n b (lexeme k t.at ∷ ts) below).eq }
