-- Where one more may open, what is expected comes.
use Rattle.std.proofs.Common.{◌≡◌, ℕ, suc, Bool, true, false, List, [], ◌∷◌, ◌++◌, length, refl, sym, ◌∙◌, ap, if◌then◌else◌}
use Rattle.jn_base.specs.declared.tree.Level.{Level}
use Rattle.jn_base.specs.declared.tree.Level.TheVariants as level_
use Rattle.jn_base.specs.declared.word.Mark.TheVariants.{Ampersand, Backslash, Bang, CloseBrace, CloseParen, Comma, Dot, OpenBrace, OpenBracket, OpenParen}
use Rattle.jn_base.specs.declared.word.Word.{Word}
use Rattle.jn_base.specs.declared.tree.Kind.{Kind}
use Rattle.jn_base.specs.declared.tree.Kind.TheVariants as kind
use Rattle.jn_base.specs.declared.word.Keyword.{Keyword}
use Rattle.jn_base.specs.declared.word.Keyword.TheVariants.{Sharing as SharingKey}
use Rattle.jn_base.specs.declared.word.Word.TheVariants.{Keyword as Key, Mark as Marked, End}
use Rattle.jn_base.specs.declared.word.Lexeme.{Lexeme}
use Rattle.jn_base.specs.Words.{lexeme}
use Rattle.jn_grammar.specs.Begins.{begins, is_word}
use Rattle.jn_grammar.specs.ReadExprs.{goes_on}
use Rattle.jn_grammar.specs.Expected.{Symbol, Expects, Shuts, AName, Dots, MayBang, Tail, Names, Term, AfterName, NameOrClass, AfterNames, Ref, Masks, View, Type_, Atom, Atoms, Prim, Suffixes, SuffixName, MayCall, Post, InParens, Unary, OperandEnd, Expr, Rest, CallArgs, Args, MoreArgs, SuperTerm, Body, Stmts, MayElse, FirstName, NameOrClassPart, OneName, Path, PathName, AfterThis, ThisPart, Bare, PartName, AfterPart, AfterCall, Block, Test, Returned, Printed, TextOrExpr, NewName, Params, Param, MoreParams, Sharing, MoreRels, ListOf, MoreNames, Members, DeclBody, SlotOrMethod, MethodOpen, MethodBody, Tops, EndOfFile, a_rel, Takes, Closes, Refuses, rests, led, step, Going, Done, run}
use Rattle.jn_grammar.proofs.FirstWords.{never, word_is}
use Rattle.jn_grammar.proofs.Meets.{if_false}
use Rattle.jn_grammar.proofs.Machine.{takes_or_leaves, opens_or_leaves, operand_ends}
use Rattle.jn_grammar.proofs.LevelsRuns.{rest_takes}
use Rattle.jn_grammar.proofs.TermsAgain.{EndsTerm}
use Rattle.jn_grammar.proofs.Finish.{word, closing, finish, fixed_same, Follow, Tidy, EndsLevel, post_of}

-- WHAT LEAVES THE NEXT WORD
dots_leave : (n : ℕ) (v : List Lexeme) (below : List Symbol) → begins (Marked Dot) v ≡ false → run false v (Going n (Dots ∷ below)) ≡ run false v (Going n below)
dots_leave n v below e = takes_or_leaves false (Marked Dot) (AName ∷ Dots ∷ []) below n v Dots (λ k. refl) ∙ if_false (begins (Marked Dot) v) _ _ e

bang_leaves : (n : ℕ) (v : List Lexeme) (below : List Symbol) → begins (Marked Bang) v ≡ false → run false v (Going n (MayBang ∷ below)) ≡ run false v (Going n below)
bang_leaves n v below e = takes_or_leaves false (Marked Bang) (Dots ∷ []) below n v MayBang (λ k. refl) ∙ if_false (begins (Marked Bang) v) _ _ e

tail_leaves : (n : ℕ) (v : List Lexeme) (below : List Symbol) → begins (Marked Dot) v ≡ false → run false v (Going n (Tail ∷ below)) ≡ run false v (Going n below)
tail_leaves n v below e = takes_or_leaves false (Marked Dot) (Names ∷ []) below n v Tail (λ k. refl) ∙ if_false (begins (Marked Dot) v) _ _ e

masks_leave : (n : ℕ) (v : List Lexeme) (below : List Symbol) → begins (Marked Backslash) v ≡ false → run false v (Going n (Masks ∷ below)) ≡ run false v (Going n below)
masks_leave n v below e = takes_or_leaves false (Marked Backslash) (AName ∷ Masks ∷ []) below n v Masks (λ k. refl) ∙ if_false (begins (Marked Backslash) v) _ _ e

atoms_leave : (n k : ℕ) (v : List Lexeme) (below : List Symbol) → begins (Marked Ampersand) v ≡ false → run false v (Going n (Atoms k ∷ below)) ≡ run false v (Going n below)
atoms_leave n k v below e = takes_or_leaves false (Marked Ampersand) (Atom k ∷ Atoms (suc k) ∷ []) below n v (Atoms k) (λ k. refl) ∙ if_false (begins (Marked Ampersand) v) _ _ e

suffixes_leave : (n : ℕ) (v : List Lexeme) (below : List Symbol) → begins (Marked Dot) v ≡ false → run false v (Going n (Suffixes ∷ below)) ≡ run false v (Going n below)
suffixes_leave n v below e = takes_or_leaves false (Marked Dot) (SuffixName ∷ Suffixes ∷ []) below n v Suffixes (λ k. refl) ∙ if_false (begins (Marked Dot) v) _ _ e

call_leaves : (n : ℕ) (v : List Lexeme) (below : List Symbol) → begins (Marked OpenParen) v ≡ false → run false v (Going n (MayCall ∷ below)) ≡ run false v (Going n below)
call_leaves n v below e = opens_or_leaves false (Marked OpenParen) (Args ∷ Shuts (Marked CloseParen) ∷ []) below n v MayCall (λ k. refl) ∙ if_false (begins (Marked OpenParen) v) _ _ e

more_leave : (n : ℕ) (v : List Lexeme) (below : List Symbol) → begins (Marked CloseParen) v ≡ true → run false v (Going n (MoreArgs ∷ below)) ≡ run false v (Going n below)
more_leave n v below e = takes_or_leaves false (Marked Comma) (Expr level_.Or ∷ MoreArgs ∷ []) below n v MoreArgs (λ k. refl) ∙ if_false (begins (Marked Comma) v) _ _ (no_comma v e)
  where
    no_comma : (v : List Lexeme) → begins (Marked CloseParen) v ≡ true → begins (Marked Comma) v ≡ false
    no_comma [] h = refl
    no_comma (t ∷ ts) h = by_word t.word h
      where
        by_word : (k : Word) → is_word (Marked CloseParen) k ≡ true → is_word (Marked Comma) k ≡ false
        by_word (Marked Comma) h = cc
        by_word (Marked m) h = refl
        by_word k h = refl

args_leave : (n : ℕ) (v : List Lexeme) (below : List Symbol) → begins (Marked CloseParen) v ≡ true → run false v (Going n (Args ∷ below)) ≡ run false v (Going n below)
args_leave n [] below h = refl
args_leave n (t ∷ ts) below h = by_word t.word h
  where
    by_word : (k : Word) → is_word (Marked CloseParen) k ≡ true → run false (lexeme k t.at ∷ ts) (Going n (Args ∷ below)) ≡ run false (lexeme k t.at ∷ ts) (Going n below)
    by_word (Marked CloseParen) h = refl
    by_word (Marked m) h = cc
    by_word k h = absurd (never h)

no_true : true ≡ false → ⊥
no_true e = cc

names_leave : (n : ℕ) (v : List Lexeme) (below : List Symbol) → EndsTerm v → run false v (Going n (AfterNames ∷ below)) ≡ run false v (Going n below)
names_leave n [] below a = refl
names_leave n (t ∷ ts) below a = by_word t.word a.names.bang a.bracket
  where
    by_word : (k : Word) → is_word (Marked Bang) k ≡ false → is_word (Marked OpenBracket) k ≡ false → run false (lexeme k t.at ∷ ts) (Going n (AfterNames ∷ below)) ≡ run false (lexeme k t.at ∷ ts) (Going n below)
    by_word (Marked Bang) h i = absurd (no_true h)
    by_word (Marked OpenBracket) h i = absurd (no_true i)
    by_word (Marked m) h i = refl
    by_word k h i = refl

name_leaves : (n : ℕ) (v : List Lexeme) (below : List Symbol) → EndsTerm v → run false v (Going n (AfterName ∷ below)) ≡ run false v (Going n below)
name_leaves n [] below a = refl
name_leaves n (t ∷ ts) below a = by_word t.word a.names.dot a.names.bang a.bracket
  where
    by_word : (k : Word) → is_word (Marked Dot) k ≡ false → is_word (Marked Bang) k ≡ false → is_word (Marked OpenBracket) k ≡ false → run false (lexeme k t.at ∷ ts) (Going n (AfterName ∷ below)) ≡ run false (lexeme k t.at ∷ ts) (Going n below)
    by_word (Marked Dot) h i j = absurd (no_true h)
    by_word (Marked Bang) h i j = absurd (no_true i)
    by_word (Marked OpenBracket) h i j = absurd (no_true j)
    by_word (Marked m) h i j = refl
    by_word k h i j = refl

rest_leaves : (l : Level) (n : ℕ) (v : List Lexeme) (below : List Symbol) → goes_on l v ≡ false → run false v (Going n (Rest l ∷ below)) ≡ run false v (Going n below)
rest_leaves l n v below e = rest_takes false l n v below ∙ if_false (goes_on l v) _ _ e

last_of : (l : Level) (v : List Lexeme) → EndsLevel l v → goes_on l v ≡ false
last_of level_.Product v a = a.product
last_of level_.Sum v a = a.sum
last_of level_.Compare v a = a.compare
last_of level_.Equal v a = a.equal
last_of level_.And v a = a.and
last_of level_.Or v a = a.or

rests_leave : (l : Level) (n : ℕ) (v : List Lexeme) (below : List Symbol) → EndsLevel l v → run false v (Going n (rests l ++ below)) ≡ run false v (Going n below)
rests_leave level_.Product n v below a = rest_leaves level_.Product n v below a.product
rests_leave level_.Sum n v below a = rest_leaves level_.Product n v (Rest level_.Sum ∷ below) a.below.product ∙ rest_leaves level_.Sum n v below a.sum
rests_leave level_.Compare n v below a = rest_leaves level_.Product n v (Rest level_.Sum ∷ Rest level_.Compare ∷ below) a.below.below.product
    ∙ rest_leaves level_.Sum n v (Rest level_.Compare ∷ below) a.below.sum ∙ rest_leaves level_.Compare n v below a.compare
rests_leave level_.Equal n v below a = rest_leaves level_.Product n v (Rest level_.Sum ∷ Rest level_.Compare ∷ Rest level_.Equal ∷ below) a.below.below.below.product
    ∙ rest_leaves level_.Sum n v (Rest level_.Compare ∷ Rest level_.Equal ∷ below) a.below.below.sum ∙ rest_leaves level_.Compare n v (Rest level_.Equal ∷ below) a.below.compare ∙ rest_leaves level_.Equal n v below a.equal
rests_leave level_.And n v below a = rest_leaves level_.Product n v (Rest level_.Sum ∷ Rest level_.Compare ∷ Rest level_.Equal ∷ Rest level_.And ∷ below) a.below.below.below.below.product
    ∙ rest_leaves level_.Sum n v (Rest level_.Compare ∷ Rest level_.Equal ∷ Rest level_.And ∷ below) a.below.below.below.sum ∙ rest_leaves level_.Compare n v (Rest level_.Equal ∷ Rest level_.And ∷ below) a.below.below.compare
    ∙ rest_leaves level_.Equal n v (Rest level_.And ∷ below) a.below.equal ∙ rest_leaves level_.And n v below a.and
rests_leave level_.Or n v below a = rest_leaves level_.Product n v (Rest level_.Sum ∷ Rest level_.Compare ∷ Rest level_.Equal ∷ Rest level_.And ∷ Rest level_.Or ∷ below) a.below.below.below.below.below.product
    ∙ rest_leaves level_.Sum n v (Rest level_.Compare ∷ Rest level_.Equal ∷ Rest level_.And ∷ Rest level_.Or ∷ below) a.below.below.below.below.sum ∙ rest_leaves level_.Compare n v (Rest level_.Equal ∷ Rest level_.And ∷ Rest level_.Or ∷ below) a.below.below.below.compare
    ∙ rest_leaves level_.Equal n v (Rest level_.And ∷ Rest level_.Or ∷ below) a.below.below.equal ∙ rest_leaves level_.And n v (Rest level_.Or ∷ below) a.below.and ∙ rest_leaves level_.Or n v below a.or

-- ---- bodies

-- as many more may open as blocks end
abbrev raised : List Bool → ℕ → ℕ
raised [] n = suc n
raised (x ∷ blocks) n = raised blocks (suc n)

raised_suc : (blocks : List Bool) (n : ℕ) → raised blocks (suc n) ≡ suc (raised blocks n)
raised_suc [] n = refl
raised_suc (x ∷ blocks) n = raised_suc blocks (suc n)

no_else : (used : ℕ) (blocks : List Bool) (n : ℕ) (v : List Lexeme) (below : List Symbol)
    → run false (closing blocks ++ v) (Going n (MayElse (record { used = used; blocks = blocks }) ∷ below)) ≡ run false (closing blocks ++ v) (Going n (Stmts (record { used = used; blocks = blocks }) ∷ below))
no_else used [] n v below = refl
no_else used (x ∷ blocks) n v below = refl

closes : (used : ℕ) (blocks : List Bool) (n : ℕ) (v : List Lexeme) (below : List Symbol)
    → run false (closing blocks ++ v) (Going n (Stmts (record { used = used; blocks = blocks }) ∷ below)) ≡ run false v (Going (raised blocks n) below)
closes used [] n v below = refl
closes used (true ∷ blocks) n v below = no_else used blocks (suc n) v below ∙ closes used blocks (suc n) v below
closes used (false ∷ blocks) n v below = closes used blocks (suc n) v below

body_ends : (b : Body) (n : ℕ) (below : List Symbol) (v : List Lexeme) → ((m : ℕ) → run false v (Going (suc m) below) ≡ Done) → run false (closing b.blocks ++ v) (Going (suc n) (Stmts b ∷ below)) ≡ Done
body_ends b n below v h = closes b.used b.blocks (suc n) v below ∙ ap (λ m. run false v (Going m below)) (raised_suc b.blocks n) ∙ h (raised b.blocks n)

-- ---- what leaves the next word in declarations

brace_not : (u : Word) (v : List Lexeme) → begins (Marked OpenBrace) v ≡ true → is_word u (Marked OpenBrace) ≡ false → begins u v ≡ false
brace_not u [] h g = refl
brace_not u (t ∷ ts) h g = ap (λ k. is_word u k) (word_is (Marked OpenBrace) t.word h) ∙ g

paren_not : (u : Word) (v : List Lexeme) → begins (Marked CloseParen) v ≡ true → is_word u (Marked CloseParen) ≡ false → begins u v ≡ false
paren_not u [] h g = refl
paren_not u (t ∷ ts) h g = ap (λ k. is_word u k) (word_is (Marked CloseParen) t.word h) ∙ g

sharing_leaves : (n : ℕ) (v : List Lexeme) (below : List Symbol) → begins (Marked OpenBrace) v ≡ true → run false v (Going n (Sharing ∷ below)) ≡ run false v (Going n below)
sharing_leaves n v below e = takes_or_leaves false (Key SharingKey) a_rel below n v Sharing (λ k. refl) ∙ if_false (begins (Key SharingKey) v) _ _ (brace_not (Key SharingKey) v e refl)

rels_leave : (n : ℕ) (v : List Lexeme) (below : List Symbol) → begins (Marked OpenBrace) v ≡ true → run false v (Going n (MoreRels ∷ below)) ≡ run false v (Going n below)
rels_leave n v below e = takes_or_leaves false (Marked Comma) a_rel below n v MoreRels (λ k. refl) ∙ if_false (begins (Marked Comma) v) _ _ (brace_not (Marked Comma) v e refl)

list_leaves : (i : Keyword) (n : ℕ) (v : List Lexeme) (below : List Symbol) → begins (Marked OpenBrace) v ≡ true → run false v (Going n (ListOf i ∷ below)) ≡ run false v (Going n below)
list_leaves i n v below e = takes_or_leaves false (Key i) (AName ∷ MoreNames ∷ []) below n v (ListOf i) (λ k. refl) ∙ if_false (begins (Key i) v) _ _ (brace_not (Key i) v e refl)

listed_leave : (n : ℕ) (v : List Lexeme) (below : List Symbol) → begins (Marked OpenBrace) v ≡ true → run false v (Going n (MoreNames ∷ below)) ≡ run false v (Going n below)
listed_leave n v below e = takes_or_leaves false (Marked Ampersand) (AName ∷ MoreNames ∷ []) below n v MoreNames (λ k. refl) ∙ if_false (begins (Marked Ampersand) v) _ _ (brace_not (Marked Ampersand) v e refl)

more_params_leave : (i n : ℕ) (v : List Lexeme) (below : List Symbol) → begins (Marked CloseParen) v ≡ true → run false v (Going n (MoreParams i ∷ below)) ≡ run false v (Going n below)
more_params_leave i n v below e = takes_or_leaves false (Marked Comma) (Param i ∷ MoreParams (suc i) ∷ []) below n v (MoreParams i) (λ k. refl) ∙ if_false (begins (Marked Comma) v) _ _ (paren_not (Marked Comma) v e refl)

params_leave : (n : ℕ) (v : List Lexeme) (below : List Symbol) → begins (Marked CloseParen) v ≡ true → run false v (Going n (Params ∷ below)) ≡ run false v (Going n below)
params_leave n [] below h = refl
params_leave n (t ∷ ts) below h = ap (λ k. run false (lexeme k t.at ∷ ts) (Going n (Params ∷ below))) (word_is (Marked CloseParen) t.word h) ∙ ap (λ k. run false (lexeme k t.at ∷ ts) (Going n below)) (sym (word_is (Marked CloseParen) t.word h))

members_leave : (k : Kind) (i n : ℕ) (v : List Lexeme) (below : List Symbol) → begins (Marked CloseBrace) v ≡ true → run false v (Going n (Members k i ∷ below)) ≡ run false v (Going n below)
members_leave k i n [] below h = refl
members_leave k i n (t ∷ ts) below h = ap (λ w. run false (lexeme w t.at ∷ ts) (Going n (Members k i ∷ below))) (word_is (Marked CloseBrace) t.word h) ∙ by_kind k ∙ ap (λ w. run false (lexeme w t.at ∷ ts) (Going n below)) (sym (word_is (Marked CloseBrace) t.word h))
  where
    by_kind : (k : Kind) → run false (lexeme (Marked CloseBrace) t.at ∷ ts) (Going n (Members k i ∷ below)) ≡ run false (lexeme (Marked CloseBrace) t.at ∷ ts) (Going n below)
    by_kind kind.Class = refl
    by_kind kind.Package = refl

tops_leave : (n : ℕ) (v : List Lexeme) (below : List Symbol) → begins End v ≡ true → run false v (Going n (Tops ∷ below)) ≡ run false v (Going n below)
tops_leave n [] below h = refl
tops_leave n (t ∷ ts) below h = ap (λ w. run false (lexeme w t.at ∷ ts) (Going n (Tops ∷ below))) (word_is End t.word h) ∙ ap (λ w. run false (lexeme w t.at ∷ ts) (Going n below)) (sym (word_is End t.word h))

-- WHAT IS EXPECTED COMES
pub finishes : (expected : List Symbol) → Tidy expected → (n : ℕ) → run false (finish expected) (Going (suc n) expected) ≡ Done
unfolding Tidy finish word Follow
finishes [] t n = absurd t
finishes (EndOfFile ∷ []) t n = refl
finishes (EndOfFile ∷ x ∷ below) t n = absurd t
finishes (Expects w ∷ below) t n = ap (λ c. run false (finish below) (led false (if c then Takes [] else Refuses) (suc n) below (suc (length (finish below))) (λ i. step false below i w (suc (length (finish below)))))) (fixed_same w t.0) ∙ finishes below t.1 n
finishes (Shuts w ∷ below) t n = ap (λ c. run false (finish below) (led false (if c then Closes [] else Refuses) (suc n) below (suc (length (finish below))) (λ i. step false below i w (suc (length (finish below)))))) (fixed_same w t.0) ∙ finishes below t.1 (suc n)
finishes (AName ∷ below) t n = finishes below t.1 n
finishes (Dots ∷ below) t n = dots_leave (suc n) (finish below) below t.0 ∙ finishes below t.1 n
finishes (MayBang ∷ below) t n = bang_leaves (suc n) (finish below) below t.0.bang ∙ finishes below t.1 n
finishes (Tail ∷ below) t n = tail_leaves (suc n) (finish below) below t.0.dot ∙ finishes below t.1 n
finishes (Names ∷ below) t n = dots_leave (suc n) (finish below) (MayBang ∷ below) t.0.dot ∙ bang_leaves (suc n) (finish below) below t.0.bang ∙ finishes below t.1 n
finishes (Term ∷ below) t n = name_leaves (suc n) (finish below) below t.0 ∙ finishes below t.1 n
finishes (AfterName ∷ below) t n = name_leaves (suc n) (finish below) below t.0 ∙ finishes below t.1 n
finishes (NameOrClass ∷ below) t n = dots_leave (suc n) (finish below) (AfterNames ∷ below) t.0.names.dot ∙ names_leave (suc n) (finish below) below t.0 ∙ finishes below t.1 n
finishes (AfterNames ∷ below) t n = names_leave (suc n) (finish below) below t.0 ∙ finishes below t.1 n
finishes (Ref ∷ below) t n = finishes below t.1 n
finishes (Masks ∷ below) t n = masks_leave (suc n) (finish below) below t.0 ∙ finishes below t.1 n
finishes (View ∷ below) t n = name_leaves (suc n) (finish below) (Masks ∷ below) t.0.term ∙ masks_leave (suc n) (finish below) below t.0.mask ∙ finishes below t.1 n
finishes (Type_ ∷ below) t n = finishes below t.1 n
finishes (Atom k ∷ below) t n = name_leaves (suc n) (finish below) below t.0 ∙ finishes below t.1 n
finishes (Atoms k ∷ below) t n = atoms_leave (suc n) k (finish below) below t.0.1 ∙ finishes below t.1 n
finishes (Prim ∷ below) t n = finishes below t.1 n
finishes (Suffixes ∷ below) t n = suffixes_leave (suc n) (finish below) below t.0.dot ∙ finishes below t.1 n
finishes (SuffixName ∷ below) t n = call_leaves (suc n) (finish below) below t.0 ∙ finishes below t.1 n
finishes (MayCall ∷ below) t n = call_leaves (suc n) (finish below) below t.0 ∙ finishes below t.1 n
finishes (Post ∷ below) t n = suffixes_leave (suc n) (finish below) below t.0.dot ∙ finishes below t.1 n
finishes (InParens ∷ below) t n = suffixes_leave (suc (suc n)) (finish below) below t.0.dot ∙ finishes below t.1 (suc n)
finishes (Unary ∷ below) t n = suffixes_leave (suc n) (finish below) below t.0.dot ∙ finishes below t.1 n
finishes (OperandEnd ∷ below) t n = operand_ends false (suc n) (finish below) below ∙ finishes below t.1 (suc n)
finishes (Expr l ∷ below) t n = suffixes_leave (suc n) (finish below) (rests l ++ below) (post_of l (finish below) t.0).dot ∙ rests_leave l (suc n) (finish below) below t.0 ∙ finishes below t.1 n
finishes (Rest l ∷ below) t n = rest_leaves l (suc n) (finish below) below (last_of l (finish below) t.0) ∙ finishes below t.1 n
finishes (CallArgs ∷ below) t n = finishes below t.1 n
finishes (Args ∷ below) t n = args_leave (suc n) (finish below) below t.0 ∙ finishes below t.1 n
finishes (MoreArgs ∷ below) t n = more_leave (suc n) (finish below) below t.0 ∙ finishes below t.1 n
finishes (SuperTerm ∷ below) t n = finishes below t.1 n
finishes (Stmts b ∷ below) t n = body_ends b n below (finish below) (finishes below t.1)
finishes (MayElse b ∷ below) t n = no_else b.used b.blocks (suc n) (finish below) below ∙ body_ends b n below (finish below) (finishes below t.1)
finishes (FirstName b ∷ below) t n = body_ends b n below (finish below) (finishes below t.1)
finishes (NameOrClassPart b ∷ below) t n = body_ends b n below (finish below) (finishes below t.1)
finishes (OneName b ∷ below) t n = body_ends b n below (finish below) (finishes below t.1)
finishes (Path b ∷ below) t n = body_ends b n below (finish below) (finishes below t.1)
finishes (PathName b ∷ below) t n = body_ends b n below (finish below) (finishes below t.1)
finishes (AfterThis b ∷ below) t n = body_ends b n below (finish below) (finishes below t.1)
finishes (ThisPart b ∷ below) t n = body_ends b n below (finish below) (finishes below t.1)
finishes (Bare b ∷ below) t n = body_ends b n below (finish below) (finishes below t.1)
finishes (PartName b ∷ below) t n = body_ends b n below (finish below) (finishes below t.1)
finishes (AfterPart b ∷ below) t n = body_ends b n below (finish below) (finishes below t.1)
finishes (AfterCall b ∷ below) t n = body_ends b n below (finish below) (finishes below t.1)
finishes (Block true b ∷ below) t n = no_else b.used b.blocks (suc n) (finish below) below ∙ body_ends b n below (finish below) (finishes below t.1)
finishes (Block false b ∷ below) t n = body_ends b n below (finish below) (finishes below t.1)
finishes (Test ∷ below) t n = finishes below t.1 n
finishes (Returned ∷ below) t n = finishes below t.1 n
finishes (Printed ∷ below) t n = finishes below t.1 n
finishes (TextOrExpr ∷ below) t n = suffixes_leave (suc n) (finish below) (rests level_.Or ++ below) (post_of level_.Or (finish below) t.0).dot ∙ rests_leave level_.Or (suc n) (finish below) below t.0 ∙ finishes below t.1 n
finishes (NewName r ∷ below) t n = finishes below t.1 n
finishes (Params ∷ below) t n = params_leave (suc n) (finish below) below t.0 ∙ finishes below t.1 n
finishes (Param i ∷ below) t n = finishes below t.1 n
finishes (MoreParams i ∷ below) t n = more_params_leave i (suc n) (finish below) below t.0 ∙ finishes below t.1 n
finishes (Sharing ∷ below) t n = sharing_leaves (suc n) (finish below) below t.0 ∙ finishes below t.1 n
finishes (MoreRels ∷ below) t n = rels_leave (suc n) (finish below) below t.0 ∙ finishes below t.1 n
finishes (ListOf i ∷ below) t n = list_leaves i (suc n) (finish below) below t.0 ∙ finishes below t.1 n
finishes (MoreNames ∷ below) t n = listed_leave (suc n) (finish below) below t.0 ∙ finishes below t.1 n
finishes (Members k i ∷ below) t n = members_leave k i (suc n) (finish below) below t.0 ∙ finishes below t.1 n
finishes (DeclBody kind.Class i ∷ below) t n = finishes below t.1 n
finishes (DeclBody kind.Package i ∷ below) t n = finishes below t.1 n
finishes (SlotOrMethod ∷ below) t n = finishes below t.1 n
finishes (MethodOpen ∷ below) t n = finishes below t.1 n
finishes (MethodBody ∷ below) t n = finishes below t.1 n
finishes (Tops ∷ below) t n = tops_leave (suc n) (finish below) below t.0 ∙ finishes below t.1 n
