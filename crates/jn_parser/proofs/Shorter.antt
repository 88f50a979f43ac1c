-- What the items of rows leave is shorter.
use Rattle.std.proofs.Common.{◌≡◌, ℕ, ◌≤◌, ◌<◌, true, List, [], ◌∷◌, length, Ok, arith}
use Rattle.jn_base.specs.declared.tree.Name.{Name}
use Rattle.jn_base.specs.declared.tree.Named.{Named}
use Rattle.jn_base.specs.declared.tree.Term.{Term}
use Rattle.jn_base.specs.declared.tree.Place.{Place}
use Rattle.jn_base.specs.declared.tree.Expr.{Expr}
use Rattle.jn_base.specs.declared.tree.Suffix.{Suffix}
use Rattle.jn_base.specs.declared.tree.Link.{Link}
use Rattle.jn_base.specs.declared.tree.Level.{Level}
use Rattle.jn_base.specs.declared.tree.Level.TheVariants as levels
use Rattle.jn_base.specs.declared.word.Mark.TheVariants.{Ampersand, Backslash, Comma, Dot}
use Rattle.jn_base.specs.declared.word.Word.{Word}
use Rattle.jn_base.specs.declared.word.Word.TheVariants.{Mark as Marked}
use Rattle.jn_base.specs.declared.word.Lexeme.{Lexeme}
use Rattle.jn_base.specs.Parts.{Part}
use Rattle.jn_base.specs.GrammarExpr.{IsSuffix, field, call, IsUnary, IsProduct, IsSum, IsComparison, IsEquality, IsConjunction}
use Rattle.jn_grammar.specs.Begins.{begins, place}
use Rattle.jn_grammar.specs.ReadExprs.{level, suffix_in, arg_in, goes_on, link_in}
use Rattle.jn_grammar.specs.ReadTypes.{dot_in, mask_in, next_atom_in}
use Rattle.jn_grammar.proofs.FirstWords.{behind_less}
use Rattle.jn_grammar.proofs.Tools.{Sound, strictly}
use Rattle.jn_grammar.proofs.TypesSound.{IsDot, one_dot, dot_sound}
use Rattle.jn_grammar.proofs.ExprSound.{suffix_sound, unary_sound}
use Rattle.jn_grammar.proofs.ChainSound.{IsLink, one_link, link_sound, product_sound, sum_sound, comparison_sound, equality_sound, conjunction_sound, IsArg, one_arg, arg_sound, sounds_below}
use Rattle.jn_parser.specs.Levels.{operand_in}
use Rattle.jn_grammar.proofs.TermsSound.{IsMask, one_mask, mask_sound, IsNextAtom, next_atom, next_atom_sound}

pub some_there : (f : Word) (ts : List Lexeme) → begins f ts ≡ true → 0 < length ts
some_there f ts h = let less = behind_less f ts h in omega arith

dot_long : (k : ℕ) (w : List Part) (x : Name) → IsDot k w x → 1 ≤ length w
dot_long k w x one_dot = omega arith

pub dot_less : (k : ℕ) (ts : List Lexeme) (x : Name × List Lexeme) → begins (Marked Dot) ts ≡ true → dot_in k ts ≡ Ok x → length x.1 < length ts
dot_less k ts x h = strictly (IsDot k) ts _ x (λ w. dot_long k w x.0) (dot_sound k ts h)

mask_long : (k : ℕ) (w : List Part) (x : Named) → IsMask k w x → 1 ≤ length w
mask_long k w x one_mask = omega arith

pub mask_less : (k : ℕ) (ts : List Lexeme) (x : Named × List Lexeme) → begins (Marked Backslash) ts ≡ true → mask_in k ts ≡ Ok x → length x.1 < length ts
mask_less k ts x h = strictly (IsMask k) ts _ x (λ w. mask_long k w x.0) (mask_sound k ts h)

next_atom_long : (k : ℕ) (w : List Part) (x : Term) → IsNextAtom 0 k w x → 1 ≤ length w
next_atom_long k w x (next_atom i) = omega arith

pub next_atom_less : (left k : ℕ) (ts : List Lexeme) (x : Term × List Lexeme) → begins (Marked Ampersand) ts ≡ true → next_atom_in true left k ts ≡ Ok x → length x.1 < length ts
next_atom_less left k ts x h = strictly (IsNextAtom 0 k) ts _ x (λ w. next_atom_long k w x.0) (next_atom_sound true 0 left k ts h)

suffix_long : (w : List Part) (x : Suffix) → IsSuffix 0 w x → 1 ≤ length w
suffix_long w x field = omega arith
suffix_long w x (call c i) = omega arith

pub suffix_less : (n k : ℕ) (ts : List Lexeme) (x : Suffix × List Lexeme) → begins (Marked Dot) ts ≡ true → suffix_in (level n) k ts ≡ Ok x → length x.1 < length ts
suffix_less n k ts x h = strictly (IsSuffix 0) ts _ x (λ w. suffix_long w x.0) (suffix_sound n (sounds_below n) 0 k ts h)

arg_long : (w : List Part) (x : Expr) → IsArg 0 w x → 1 ≤ length w
arg_long w x (one_arg i) = omega arith

pub arg_less : (n k : ℕ) (ts : List Lexeme) (x : Expr × List Lexeme) → begins (Marked Comma) ts ≡ true → arg_in (level n) k ts ≡ Ok x → length x.1 < length ts
arg_less n k ts x h = strictly (IsArg 0) ts _ x (λ w. arg_long w x.0) (arg_sound n (sounds_below n) 0 k ts h)

-- the operands of a level
abbrev IsOperand : Level → Place → List Part → Expr → Type 0
IsOperand levels.Or = IsConjunction 0
IsOperand levels.And = IsEquality 0
IsOperand levels.Equal = IsComparison 0
IsOperand levels.Compare = IsSum 0
IsOperand levels.Sum = IsProduct 0
IsOperand levels.Product = IsUnary 0

operand_sound : (n : ℕ) (l : Level) (ts : List Lexeme) → Sound (IsOperand l (place ts)) ts (operand_in (level n) l ts)
operand_sound n levels.Or ts = conjunction_sound n (sounds_below n) 0 ts
operand_sound n levels.And ts = equality_sound n (sounds_below n) 0 ts
operand_sound n levels.Equal ts = comparison_sound n (sounds_below n) 0 ts
operand_sound n levels.Compare ts = sum_sound n (sounds_below n) 0 ts
operand_sound n levels.Sum ts = product_sound n (sounds_below n) 0 ts
operand_sound n levels.Product ts = unary_sound n (sounds_below n) 0 ts

link_long : (l : Level) (w : List Part) (x : Link) → IsLink l (IsOperand l) w x → 1 ≤ length w
link_long l w x (one_link p q o i) = omega arith

pub link_less : (n : ℕ) (l : Level) (k : ℕ) (ts : List Lexeme) (x : Link × List Lexeme) → goes_on l ts ≡ true → link_in l (operand_in (level n) l) k ts ≡ Ok x → length x.1 < length ts
link_less n l k ts x h = strictly (IsLink l (IsOperand l)) ts _ x (λ w. link_long l w x.0) (link_sound l (IsOperand l) (operand_in (level n) l) (operand_sound n l) k ts)

pub operator_there : (l : Level) (ts : List Lexeme) → goes_on l ts ≡ true → 0 < length ts
operator_there l [] h = cc
operator_there l (t ∷ ts) h = omega arith
