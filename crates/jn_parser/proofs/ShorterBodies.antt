-- What the items of rows leave is shorter: statements and the parts of declarations.
use Rattle.std.proofs.Common.{◌≡◌, ℕ, ◌≤◌, ◌<◌, true, List, ◌∷◌, ◌++◌, length, Ok, ap, ◌∙◌, length-append, arith}
use Rattle.jn_base.specs.declared.tree.Named.{Named}
use Rattle.jn_base.specs.declared.tree.Kind.{Kind}
use Rattle.jn_base.specs.declared.tree.Param.{Param}
use Rattle.jn_base.specs.declared.tree.Constraint.{Constraint}
use Rattle.jn_base.specs.declared.tree.Stmt.{Stmt}
use Rattle.jn_base.specs.declared.tree.Member.{Member}
use Rattle.jn_base.specs.declared.tree.Decl.{Decl}
use Rattle.jn_base.specs.declared.word.Mark.TheVariants.{Ampersand, Arrow, Comma}
use Rattle.jn_base.specs.declared.word.Word.TheVariants.{Mark as Marked}
use Rattle.jn_base.specs.declared.word.Lexeme.{Lexeme}
use Rattle.jn_base.specs.Words.{lexeme}
use Rattle.jn_base.specs.Parts.{Part, mark}
use Rattle.jn_base.specs.GrammarTypes.{IsView}
use Rattle.jn_base.specs.GrammarStmt.{block, local, assign, set_field, act, choice, turns, leave, give, print, print_text}
use Rattle.jn_base.specs.GrammarDecl.{IsParam, IsRel, rel, IsInner, inner, IsMember, declared, slot, method, IsTop, top}
use Rattle.jn_grammar.specs.Begins.{begins, behind}
use Rattle.jn_grammar.specs.ReadStmts.{stmt_in, stmts_of}
use Rattle.jn_grammar.specs.ReadDecls.{next_param_in, rel_in, next_rel_in, next_name_in, member_in, members_of, top_in}
use Rattle.jn_grammar.proofs.Tools.{Sound, sound_bind, sound_expect, glue, strictly}
use Rattle.jn_grammar.proofs.TermsSound.{view_sound}
use Rattle.jn_grammar.proofs.LocalSound.{StmtOf}
use Rattle.jn_grammar.proofs.StmtSound.{stmt_sound, stmt_sounds_below}
use Rattle.jn_grammar.proofs.MethodSound.{IsAfter, after, IsComma, comma_sound, param_sound, IsNextName, next_name, next_name_sound}
use Rattle.jn_grammar.proofs.DeclSound.{member_sound, members_sounds_below, top_sound}

-- ---- statements

stmt_long : (k : ℕ) (w : List Part) (x : Stmt × ℕ) → StmtOf 0 k w x → 1 ≤ length w
stmt_long k w x (block c d) = omega arith
stmt_long k w x (local o s f t e) = omega (arith, length-append {A = Part})
stmt_long k w x (assign s e) = omega arith
stmt_long k w x (set_field b n o s t e) = omega (arith, length-append {A = Part})
stmt_long k w x (act s c) = omega (arith, length-append {A = Part})
stmt_long k w x (choice c b e t d r) = omega arith
stmt_long k w x (turns c b e t d) = omega arith
stmt_long k w x leave = omega arith
stmt_long k w x (give s e) = omega arith
stmt_long k w x (print c s e) = omega arith
stmt_long k w x print_text = omega arith

pub stmt_less : (n k : ℕ) (ts : List Lexeme) (x : (Stmt × ℕ) × List Lexeme) → stmt_in true n (stmts_of true n) k ts ≡ Ok x → length x.1 < length ts
stmt_less n k ts x h = strictly (StmtOf 0 k) ts _ x (λ w. stmt_long k w x.0) (stmt_sound true n (stmt_sounds_below true n) 0 k ts) h

-- ---- headers

after_long : {A : Type 0} (m : Part → Type 0) (Is : List Part → A → Type 0) (w : List Part) (x : A) → IsAfter m Is w x → 1 ≤ length w
after_long m Is w x (after c i) = omega arith

next_param_sound : (n k : ℕ) (ts : List Lexeme) → begins (Marked Comma) ts ≡ true → Sound (IsAfter IsComma (IsParam 0 k)) ts (next_param_in true n k ts)
unfolding next_param_in
next_param_sound n k ts h = comma_sound (IsParam 0 k) ts _ h (param_sound true n 0 k (behind ts))

pub next_param_less : (n k : ℕ) (ts : List Lexeme) (x : Param × List Lexeme) → begins (Marked Comma) ts ≡ true → next_param_in true n k ts ≡ Ok x → length x.1 < length ts
next_param_less n k ts x h = strictly (IsAfter IsComma (IsParam 0 k)) ts _ x (λ w. after_long IsComma (IsParam 0 k) w x.0) (next_param_sound n k ts h)

rel_sound : (n : ℕ) (ts : List Lexeme) → Sound (IsRel 0) ts (rel_in n ts)
unfolding rel_in
rel_sound n ts = sound_bind (IsView 0) (IsRel 0) ts ts _ _ (view_sound 0 n ts)
    (λ s ts1. sound_expect (IsRel 0) (Marked Arrow) s.1 ts _
    (λ o rest q. sound_bind (IsView 0) (IsRel 0) rest ts _ _ (view_sound 0 n rest)
    (λ t tt1. record {
      words = ts1.words ++ mark Arrow o ∷ tt1.words;
      split = glue ts ts1.words (mark Arrow o ∷ tt1.words) s.1 t.1 ts1.split (q ∙ ap (λ (v : List Lexeme). lexeme (Marked Arrow) o ∷ v) tt1.split);
      is = rel o ts1.is tt1.is;
    })))

next_rel_sound : (n k : ℕ) (ts : List Lexeme) → begins (Marked Comma) ts ≡ true → Sound (IsAfter IsComma (IsRel 0)) ts (next_rel_in n k ts)
unfolding next_rel_in
next_rel_sound n k ts h = comma_sound (IsRel 0) ts (rel_in n (behind ts)) h (rel_sound n (behind ts))

pub next_rel_less : (n k : ℕ) (ts : List Lexeme) (x : Constraint × List Lexeme) → begins (Marked Comma) ts ≡ true → next_rel_in n k ts ≡ Ok x → length x.1 < length ts
next_rel_less n k ts x h = strictly (IsAfter IsComma (IsRel 0)) ts _ x (λ w. after_long IsComma (IsRel 0) w x.0) (next_rel_sound n k ts h)

next_name_long : (w : List Part) (x : Named) → IsNextName w x → 1 ≤ length w
next_name_long w x next_name = omega arith

pub next_name_less : (k : ℕ) (ts : List Lexeme) (x : Named × List Lexeme) → begins (Marked Ampersand) ts ≡ true → next_name_in k ts ≡ Ok x → length x.1 < length ts
next_name_less k ts x h = strictly IsNextName ts _ x (λ w. next_name_long w x.0) (next_name_sound k ts h)

-- ---- declarations

inner_long : (i : ℕ) (w : List Part) (x : Decl) → IsInner 0 i w x → 1 ≤ length w
inner_long i w x (inner o c k es ss ms) = omega arith

member_long : (k : Kind) (i : ℕ) (w : List Part) (x : Member) → IsMember k 0 i w x → 1 ≤ length w
member_long k i w x (declared {t = t} d) = inner_long i w t d
member_long k i w x (slot p s t) = omega (arith, length-append {A = Part})
member_long k i w x (method p o c b e t ps cs ss) = omega (arith, length-append {A = Part})

pub member_less : (n : ℕ) (k : Kind) (i j : ℕ) (ts : List Lexeme) (x : Member × List Lexeme) → member_in true n (members_of true n) k i j ts ≡ Ok x → length x.1 < length ts
member_less n k i j ts x h = strictly (IsMember k 0 i) ts _ x (λ w. member_long k i w x.0) (member_sound true n (members_sounds_below true n) k 0 i j ts) h

top_long : (w : List Part) (x : Decl) → IsTop w x → 1 ≤ length w
top_long w x (top o c k es ss ms) = omega arith

pub top_less : (n j : ℕ) (ts : List Lexeme) (x : Decl × List Lexeme) → top_in true n j ts ≡ Ok x → length x.1 < length ts
top_less n j ts x h = strictly IsTop ts _ x (λ w. top_long w x.0) (top_sound true n j ts) h
