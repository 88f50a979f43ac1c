-- Reading parameters, constraints, lists of names and methods is what the machine does with their symbols.
use Rattle.std.proofs.Common.{◌≡◌, ℕ, zero, suc, ◌≤◌, ◌<◌, Bool, true, false, List, [], ◌∷◌, length, Option, Some, None, Ok, refl, ◌∙◌, arith, if◌then◌else◌}
use Rattle.jn_base.specs.declared.tree.Named.{Named}
use Rattle.jn_base.specs.declared.tree.TypeTerm.{TypeTerm}
use Rattle.jn_base.specs.declared.tree.Param.{Param as ParamTree}
use Rattle.jn_base.specs.declared.tree.Constraint.{Constraint}
use Rattle.jn_base.specs.declared.refusal.Limit.TheVariants.{Nesting}
use Rattle.jn_base.specs.declared.word.Keyword.{Keyword}
use Rattle.jn_base.specs.declared.word.Keyword.TheVariants.{Boolean, Final, Int, Sharing as SharingKey, This}
use Rattle.jn_base.specs.declared.word.Mark.TheVariants.{Ampersand, Arrow, CloseParen, Comma, OpenBrace, OpenParen, Semicolon}
use Rattle.jn_base.specs.declared.word.Word.{Word}
use Rattle.jn_base.specs.declared.word.Word.TheVariants.{Name as Named_, Keyword as Key, Mark as Marked}
use Rattle.jn_base.specs.declared.word.Lexeme.{Lexeme}
use Rattle.jn_base.specs.Words.{lexeme}
use Rattle.jn_base.specs.Parts.{Part, Parameter}
use Rattle.jn_base.specs.GrammarDecl.{IsParam, IsRel}
use Rattle.jn_grammar.specs.declared.fault.Fault.TheVariants.{Syntax, Passed}
use Rattle.jn_grammar.specs.Begins.{begins, behind, is_word}
use Rattle.jn_grammar.specs.Answers.{row}
use Rattle.jn_grammar.specs.ReadDecls.{final_in, param_in, next_param_in, params_in, params_of, rel_in, next_rel_in, sharing_in, next_name_in, listed_in, list_in, method_in, void_in, typed_end_in, typed_in}
use Rattle.jn_grammar.specs.Expected.{Symbol, Expects, Shuts, AName, View, Type_, Stmts, NewName, Params, Param, MoreParams, Sharing, MoreRels, ListOf, MoreNames, SlotOrMethod, MethodOpen, MethodBody, a_rel, opened, Going, Fails, run}
use Rattle.jn_grammar.proofs.Tools.{strictly}
use Rattle.jn_grammar.proofs.Meets.{if_true, if_false}
use Rattle.jn_grammar.proofs.MethodSound.{IsAfter, after, IsComma, next_param_sound, next_rel_sound, IsNextName, next_name, next_name_sound}
use Rattle.jn_grammar.proofs.Machine.{Comes, Does, run_fails, comes_then, comes_both, from, takes_or_leaves, opens_or_refuses, expects, shuts, names, row_runs}
use Rattle.jn_grammar.proofs.TermsRuns.{type_runs, view_runs}
use Rattle.jn_grammar.proofs.LocalRuns.{body, new_name_runs}
use Rattle.jn_grammar.proofs.StmtRuns.{block_runs, stmts_run_below}

-- ---- parameters

-- at the k-th parameter: "final" may stand, and a type comes
param_is : (s : Bool) (n k : ℕ) (ts : List Lexeme) (below : List Symbol)
    → run s ts (Going n (Param k ∷ below)) ≡ (if begins (Key Final) ts then run s (behind ts) (Going n (Type_ ∷ NewName (Parameter k) ∷ below)) else run s ts (Going n (Type_ ∷ NewName (Parameter k) ∷ below)))
param_is s n k [] below = refl
param_is s n k (t ∷ ts) below = by_word t.word
  where
    by_word : (w : Word) → run s (lexeme w t.at ∷ ts) (Going n (Param k ∷ below))
        ≡ (if is_word (Key Final) w then run s ts (Going n (Type_ ∷ NewName (Parameter k) ∷ below)) else run s (lexeme w t.at ∷ ts) (Going n (Type_ ∷ NewName (Parameter k) ∷ below)))
    by_word (Key Final) = refl
    by_word (Key Int) = refl
    by_word (Key Boolean) = refl
    by_word (Key This) = refl
    by_word (Key w) = refl
    by_word (Named_ x) = refl
    by_word w = refl

param_starts : (s : Bool) (n k : ℕ) (ts : List Lexeme) (below : List Symbol) → run s ts (Going n (Param k ∷ below)) ≡ run s (final_in ts).1 (Going n (Type_ ∷ NewName (Parameter k) ∷ below))
param_starts s n k ts below = param_is s n k ts below ∙ by_bool (begins (Key Final) ts)
  where
    by_bool : (c : Bool) → let r : Bool × List Lexeme = if c then (true, behind ts) else (false, ts) in
        (if c then run s (behind ts) (Going n (Type_ ∷ NewName (Parameter k) ∷ below)) else run s ts (Going n (Type_ ∷ NewName (Parameter k) ∷ below))) ≡ run s r.1 (Going n (Type_ ∷ NewName (Parameter k) ∷ below))
    by_bool true = refl
    by_bool false = refl

param_runs : (s : Bool) (n k : ℕ) (ts : List Lexeme) (below : List Symbol) → Does s (Param k) n ts below (param_in s n k ts)
unfolding param_in
param_runs s n k ts below = from (param_starts s n k ts below)
    (comes_then (type_runs s n (final_in ts).1 (NewName (Parameter k) ∷ below)) (λ ty _. comes_then (new_name_runs s n (Parameter k) ty.1 below) (λ _ _. record { eq = refl })))

comma_long : {A : Type 0} (Is : List Part → A → Type 0) (w : List Part) (x : A) → IsAfter IsComma Is w x → 1 ≤ length w
comma_long Is w x (after a i) = omega arith

next_param_less : (s : Bool) (n k : ℕ) (ts : List Lexeme) (x : ParamTree × List Lexeme) → begins (Marked Comma) ts ≡ true → next_param_in s n k ts ≡ Ok x → length x.1 < length ts
next_param_less s n k ts x h = strictly (IsAfter IsComma (IsParam 0 k)) ts _ x (λ w. comma_long (IsParam 0 k) w x.0) (next_param_sound s n 0 k ts h)

more_params_run : (s : Bool) (n k : ℕ) (ts : List Lexeme) (below : List Symbol) → Does s (MoreParams k) n ts below (row (begins (Marked Comma)) (next_param_in s n) k ts)
unfolding next_param_in
more_params_run s n k ts below = row_runs s n (begins (Marked Comma)) (next_param_in s n) (λ k. MoreParams k ∷ below) below
    (λ k ts h. takes_or_leaves s (Marked Comma) (Param k ∷ MoreParams (suc k) ∷ []) below n ts (MoreParams k) (λ k. refl) ∙ if_false (begins (Marked Comma) ts) _ _ h)
    (λ k ts h. from (takes_or_leaves s (Marked Comma) (Param k ∷ MoreParams (suc k) ∷ []) below n ts (MoreParams k) (λ k. refl) ∙ if_true (begins (Marked Comma) ts) _ _ h) (param_runs s n k (behind ts) (MoreParams (suc k) ∷ below)))
    (next_param_less s n) refl k ts

params_is : (s : Bool) (n : ℕ) (ts : List Lexeme) (below : List Symbol)
    → run s ts (Going n (Params ∷ below)) ≡ (if begins (Marked CloseParen) ts then run s ts (Going n below) else run s ts (Going n (Param 1 ∷ MoreParams 2 ∷ below)))
params_is s n [] below = refl
params_is s n (t ∷ ts) below = by_word t.word
  where
    by_word : (w : Word) → run s (lexeme w t.at ∷ ts) (Going n (Params ∷ below))
        ≡ (if is_word (Marked CloseParen) w then run s (lexeme w t.at ∷ ts) (Going n below) else run s (lexeme w t.at ∷ ts) (Going n (Param 1 ∷ MoreParams 2 ∷ below)))
    by_word (Marked CloseParen) = refl
    by_word (Marked m) = refl
    by_word (Key Final) = refl
    by_word (Key Int) = refl
    by_word (Key Boolean) = refl
    by_word (Key This) = refl
    by_word (Key w) = refl
    by_word (Named_ x) = refl
    by_word w = refl

params_run : (s : Bool) (n : ℕ) (ts : List Lexeme) (below : List Symbol) → Does s Params n ts below (params_in s n ts)
unfolding params_in
params_run s n ts below = comes_both (begins (Marked CloseParen) ts) (params_is s n ts below) (λ h. record { eq = refl })
    (λ h. comes_then (param_runs s n 1 ts (MoreParams 2 ∷ below)) (λ p _. comes_then (more_params_run s n 2 p.1 below) (λ _ _. record { eq = refl })))

params_of_run : (s : Bool) (n : ℕ) (ts : List Lexeme) (below : List Symbol)
    → Comes (run s (behind ts) (opened n (Params ∷ Shuts (Marked CloseParen) ∷ below) (length ts))) (λ y. run s y.1 (Going n below)) (params_of s n ts)
unfolding params_of
params_of_run s zero ts below = record { eq = run_fails s (behind ts) (Passed Nesting (length ts)) }
params_of_run s (suc n) ts below = comes_then (params_run s n (behind ts) (Shuts (Marked CloseParen) ∷ below)) (λ ps _. comes_then (shuts s (Marked CloseParen) n ps.1 below) (λ _ _. record { eq = refl }))

-- ---- constraints

rel_runs : (s : Bool) (n : ℕ) (ts : List Lexeme) (below : List Symbol) → Comes (run s ts (Going n (View ∷ Expects (Marked Arrow) ∷ View ∷ below))) (λ y. run s y.1 (Going n below)) (rel_in n ts)
unfolding rel_in
rel_runs s n ts below = comes_then (view_runs s n ts (Expects (Marked Arrow) ∷ View ∷ below))
    (λ v _. comes_then (expects s (Marked Arrow) n v.1 (View ∷ below)) (λ o _. comes_then (view_runs s n o.1 below) (λ _ _. record { eq = refl })))

next_rel_less : (n k : ℕ) (ts : List Lexeme) (x : Constraint × List Lexeme) → begins (Marked Comma) ts ≡ true → next_rel_in n k ts ≡ Ok x → length x.1 < length ts
next_rel_less n k ts x h = strictly (IsAfter IsComma (IsRel 0)) ts _ x (λ w. comma_long (IsRel 0) w x.0) (next_rel_sound n 0 k ts h)

more_rels_run : (s : Bool) (n : ℕ) (ts : List Lexeme) (below : List Symbol) → Does s MoreRels n ts below (row (begins (Marked Comma)) (next_rel_in n) 1 ts)
unfolding next_rel_in
more_rels_run s n ts below = row_runs s n (begins (Marked Comma)) (next_rel_in n) (λ _. MoreRels ∷ below) below
    (λ k ts h. takes_or_leaves s (Marked Comma) a_rel below n ts MoreRels (λ k. refl) ∙ if_false (begins (Marked Comma) ts) _ _ h)
    (λ k ts h. from (takes_or_leaves s (Marked Comma) a_rel below n ts MoreRels (λ k. refl) ∙ if_true (begins (Marked Comma) ts) _ _ h) (rel_runs s n (behind ts) (MoreRels ∷ below)))
    (next_rel_less n) refl 1 ts

sharing_runs : (s : Bool) (n : ℕ) (ts : List Lexeme) (below : List Symbol) → Does s Sharing n ts below (sharing_in n ts)
unfolding sharing_in
sharing_runs s n ts below = comes_both (begins (Key SharingKey) ts) (takes_or_leaves s (Key SharingKey) a_rel below n ts Sharing (λ k. refl))
    (λ h. comes_then (rel_runs s n (behind ts) (MoreRels ∷ below)) (λ r _. comes_then (more_rels_run s n r.1 below) (λ _ _. record { eq = refl })))
    (λ h. record { eq = refl })

-- ---- lists of names

next_name_long : (w : List Part) (x : Named) → IsNextName w x → 1 ≤ length w
next_name_long w x next_name = omega arith

next_name_less : (k : ℕ) (ts : List Lexeme) (x : Named × List Lexeme) → begins (Marked Ampersand) ts ≡ true → next_name_in k ts ≡ Ok x → length x.1 < length ts
next_name_less k ts x h = strictly IsNextName ts _ x (λ w. next_name_long w x.0) (next_name_sound k ts h)

more_names_run : (s : Bool) (n : ℕ) (ts : List Lexeme) (below : List Symbol) → Does s MoreNames n ts below (row (begins (Marked Ampersand)) next_name_in 1 ts)
unfolding next_name_in
more_names_run s n ts below = row_runs s n (begins (Marked Ampersand)) next_name_in (λ _. MoreNames ∷ below) below
    (λ k ts h. takes_or_leaves s (Marked Ampersand) (AName ∷ MoreNames ∷ []) below n ts MoreNames (λ k. refl) ∙ if_false (begins (Marked Ampersand) ts) _ _ h)
    (λ k ts h. from (takes_or_leaves s (Marked Ampersand) (AName ∷ MoreNames ∷ []) below n ts MoreNames (λ k. refl) ∙ if_true (begins (Marked Ampersand) ts) _ _ h) (names s n (behind ts) (MoreNames ∷ below)))
    next_name_less refl 1 ts

pub list_runs : (s : Bool) (n : ℕ) (k : Keyword) (ts : List Lexeme) (below : List Symbol) → Does s (ListOf k) n ts below (list_in k ts)
unfolding list_in listed_in
list_runs s n k ts below = comes_both (begins (Key k) ts) (takes_or_leaves s (Key k) (AName ∷ MoreNames ∷ []) below n ts (ListOf k) (λ k. refl))
    (λ h. comes_then (names s n (behind ts) (MoreNames ∷ below)) (λ x _. comes_then (more_names_run s n x.1 below) (λ _ _. record { eq = refl })))
    (λ h. record { eq = refl })

-- ---- methods

method_runs : (s : Bool) (n : ℕ) (res : Option TypeTerm) (x : Named) (ts : List Lexeme) (below : List Symbol)
    → Comes (run s (behind ts) (opened n (Params ∷ Shuts (Marked CloseParen) ∷ Sharing ∷ MethodBody ∷ below) (length ts))) (λ y. run s y.1 (Going n below)) (method_in s n res x ts)
unfolding method_in
method_runs s n res x ts below = comes_then (params_of_run s n ts (Sharing ∷ MethodBody ∷ below))
    (λ ps _. comes_then (sharing_runs s n ps.1 (MethodBody ∷ below))
    (λ cs _. comes_then (block_runs s n (stmts_run_below s n) MethodBody 0 [] cs.1 below (opens_or_refuses s (Marked OpenBrace) (Stmts (body 0 []) ∷ []) below n cs.1 MethodBody (λ k. refl))) (λ _ _. record { eq = refl })))

pub void_runs : (s : Bool) (n : ℕ) (ts : List Lexeme) (below : List Symbol) → Comes (run s ts (Going n (AName ∷ MethodOpen ∷ below))) (λ y. run s y.1 (Going n below)) (void_in s n ts)
unfolding void_in
void_runs s n ts below = comes_then (names s n ts (MethodOpen ∷ below))
    (λ x _. comes_both (begins (Marked OpenParen) x.1) (opens_or_refuses s (Marked OpenParen) (Params ∷ Shuts (Marked CloseParen) ∷ Sharing ∷ MethodBody ∷ []) below n x.1 MethodOpen (λ k. refl))
    (λ h. method_runs s n None x.0 x.1 below) (λ h. record { eq = refl }))

slot_is : (s : Bool) (n : ℕ) (ts : List Lexeme) (below : List Symbol)
    → run s ts (Going n (SlotOrMethod ∷ below)) ≡ (if begins (Marked Semicolon) ts then run s (behind ts) (Going n below)
    else (if begins (Marked OpenParen) ts then run s (behind ts) (opened n (Params ∷ Shuts (Marked CloseParen) ∷ Sharing ∷ MethodBody ∷ below) (length ts)) else Fails (Syntax (length ts))))
slot_is s n [] below = refl
slot_is s n (t ∷ ts) below = by_word t.word
  where
    by_word : (w : Word) → run s (lexeme w t.at ∷ ts) (Going n (SlotOrMethod ∷ below)) ≡ (if is_word (Marked Semicolon) w then run s ts (Going n below)
        else (if is_word (Marked OpenParen) w then run s ts (opened n (Params ∷ Shuts (Marked CloseParen) ∷ Sharing ∷ MethodBody ∷ below) (suc (length ts))) else Fails (Syntax (suc (length ts)))))
    by_word (Marked Semicolon) = refl
    by_word (Marked OpenParen) = refl
    by_word (Marked m) = run_fails s ts (Syntax (suc (length ts)))
    by_word w = run_fails s ts (Syntax (suc (length ts)))

typed_end_runs : (s : Bool) (n : ℕ) (ty : TypeTerm) (x : Named) (ts : List Lexeme) (below : List Symbol) → Does s SlotOrMethod n ts below (typed_end_in s n ty x ts)
unfolding typed_end_in
typed_end_runs s n ty x ts below = comes_both (begins (Marked Semicolon) ts) (slot_is s n ts below) (λ h. record { eq = refl })
    (λ h. comes_both (begins (Marked OpenParen) ts) refl (λ h. method_runs s n (Some ty) x ts below) (λ h. record { eq = refl }))

pub typed_runs : (s : Bool) (n : ℕ) (ts : List Lexeme) (below : List Symbol) → Comes (run s ts (Going n (Type_ ∷ AName ∷ SlotOrMethod ∷ below))) (λ y. run s y.1 (Going n below)) (typed_in s n ts)
unfolding typed_in
typed_runs s n ts below = comes_then (type_runs s n ts (AName ∷ SlotOrMethod ∷ below))
    (λ ty _. comes_then (names s n ty.1 (SlotOrMethod ∷ below)) (λ x _. typed_end_runs s n ty.0 x.0 x.1 below))
