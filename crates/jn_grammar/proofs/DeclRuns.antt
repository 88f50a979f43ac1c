-- Reading declarations is what the machine does with their symbols.
use Rattle.std.proofs.Common.{◌≡◌, ℕ, zero, suc, ◌≤◌, ◌<◌, Bool, true, false, List, [], ◌∷◌, ◌++◌, length, Ok, refl}
use Rattle.std.specs.Prelude.{not}
use Rattle.jn_base.specs.declared.tree.Kind.{Kind}
use Rattle.jn_base.specs.declared.tree.Kind.TheVariants as kind
use Rattle.jn_base.specs.declared.tree.Decl.{Decl}
use Rattle.jn_base.specs.declared.tree.Member.{Member}
use Rattle.jn_base.specs.declared.refusal.Limit.TheVariants.{Nesting}
use Rattle.jn_base.specs.declared.word.Keyword.TheVariants.{Adapts, Boolean, Class, Extends, Int, Package, Shares, This, Void}
use Rattle.jn_base.specs.declared.word.Mark.TheVariants.{CloseBrace, OpenBrace}
use Rattle.jn_base.specs.declared.word.Word.{Word}
use Rattle.jn_base.specs.declared.word.Word.TheVariants.{Name as Named_, Keyword as Key, Mark as Marked, End}
use Rattle.jn_base.specs.declared.word.Lexeme.{Lexeme}
use Rattle.jn_base.specs.Words.{lexeme}
use Rattle.jn_base.specs.Parts.{Part, Declares}
use Rattle.jn_base.specs.GrammarDecl.{IsMember, IsTop}
use Rattle.jn_grammar.specs.declared.fault.Fault.TheVariants.{Syntax, Passed}
use Rattle.jn_grammar.specs.Begins.{begins, behind, is_word}
use Rattle.jn_grammar.specs.Answers.{◌>>=◌, expect}
use Rattle.jn_grammar.specs.ReadStmts.{in_body}
use Rattle.jn_grammar.specs.ReadDecls.{typed_in, body_in, inner_in, top_decl_in, inner_member_in, member_by, member_in, members_in, members_of, top_by, top_in, in_file, tops_in}
use Rattle.jn_grammar.specs.Expected.{Symbol, Shuts, AName, Type_, SlotOrMethod, ListOf, Members, DeclBody, Tops, inner_rest, top_rest, opened, Going, run}
use Rattle.jn_grammar.proofs.FirstWords.{never}
use Rattle.jn_grammar.proofs.Tools.{Below, strictly}
use Rattle.jn_grammar.proofs.DeclSound.{member_sound, members_sounds_below, top_sound}
use Rattle.jn_grammar.proofs.DeclAgain.{member_goes, top_goes}
use Rattle.jn_grammar.proofs.Machine.{Comes, Does, run_fails, comes_then, comes_both, opens_or_refuses, shuts, row_runs}
use Rattle.jn_grammar.proofs.LocalRuns.{new_name_runs}
use Rattle.jn_grammar.proofs.MethodRuns.{list_runs, void_runs, typed_runs}

-- What holds of the members where n more may open.
pub record MembersRun (s : Bool) (n : ℕ) : Type 0 where
  pub members_do : (k : Kind) (i : ℕ) (ts : List Lexeme) (below : List Symbol) → Does s (Members k i) n ts below (members_in s n (members_of s n) k i ts)

body_runs : (s : Bool) (n : ℕ) → Below (MembersRun s) n → (k : Kind) (i : ℕ) (ts : List Lexeme) (below : List Symbol) → Does s (DeclBody k i) n ts below (body_in s n (members_of s n) k i ts)
unfolding body_in members_of
body_runs s n b k i ts below = comes_both (begins (Marked OpenBrace) ts) (opens_or_refuses s (Marked OpenBrace) (Members k i ∷ Shuts (Marked CloseBrace) ∷ []) below n ts (DeclBody k i) (λ k. refl))
    (λ h. opens n b) (λ h. record { eq = refl })
  where
    opens : (n : ℕ) → Below (MembersRun s) n
        → Comes (run s (behind ts) (opened n (Members k i ∷ Shuts (Marked CloseBrace) ∷ below) (length ts))) (λ y. run s y.1 (Going n below)) (members_of s n k i ts >>= λ ms. expect (Marked CloseBrace) ms.1 >>= λ shut. Ok (ms.0, shut.1))
    opens zero b = record { eq = run_fails s (behind ts) (Passed Nesting (length ts)) }
    opens (suc n) b = comes_then (b.members_do k i (behind ts) (Shuts (Marked CloseBrace) ∷ below)) (λ ms _. comes_then (shuts s (Marked CloseBrace) n ms.1 below) (λ _ _. record { eq = refl }))

inner_runs : (s : Bool) (n : ℕ) → Below (MembersRun s) n → (k : Kind) (i : ℕ) (ts : List Lexeme) (below : List Symbol) → Comes (run s ts (Going n (inner_rest k i ++ below))) (λ y. run s y.1 (Going n below)) (inner_in s n (members_of s n) k i ts)
unfolding inner_in
inner_runs s n b k i ts below = comes_then (new_name_runs s n (Declares i) ts (ListOf Extends ∷ ListOf Shares ∷ DeclBody k (suc i) ∷ below))
    (λ x _. comes_then (list_runs s n Extends x.1 (ListOf Shares ∷ DeclBody k (suc i) ∷ below))
    (λ es _. comes_then (list_runs s n Shares es.1 (DeclBody k (suc i) ∷ below))
    (λ ss _. comes_then (body_runs s n b k (suc i) ss.1 below) (λ _ _. record { eq = refl }))))

top_decl_runs : (s : Bool) (n : ℕ) → Below (MembersRun s) n → (k : Kind) (ts : List Lexeme) (below : List Symbol) → Comes (run s ts (Going n (top_rest k ++ below))) (λ y. run s y.1 (Going n below)) (top_decl_in s n (members_of s n) k ts)
unfolding top_decl_in
top_decl_runs s n b k ts below = comes_then (new_name_runs s n (Declares 1) ts (ListOf Extends ∷ ListOf Adapts ∷ DeclBody k 2 ∷ below))
    (λ x _. comes_then (list_runs s n Extends x.1 (ListOf Adapts ∷ DeclBody k 2 ∷ below))
    (λ es _. comes_then (list_runs s n Adapts es.1 (DeclBody k 2 ∷ below))
    (λ ss _. comes_then (body_runs s n b k 2 ss.1 below) (λ _ _. record { eq = refl }))))

inner_member_runs : (s : Bool) (n : ℕ) → Below (MembersRun s) n → (k : Kind) (i : ℕ) (ts : List Lexeme) (below : List Symbol) → Comes (run s ts (Going n (inner_rest k i ++ below))) (λ y. run s y.1 (Going n below)) (inner_member_in s n (members_of s n) k i ts)
unfolding inner_member_in
inner_member_runs s n b k i ts below = comes_then (inner_runs s n b k i ts below) (λ _ _. record { eq = refl })

-- a member, and the others
member_runs : (s : Bool) (n : ℕ) → Below (MembersRun s) n → (k : Kind) (i j : ℕ) (ts : List Lexeme) (below : List Symbol) → in_body ts ≡ true
    → Comes (run s ts (Going n (Members k i ∷ below))) (λ y. run s y.1 (Going n (Members k i ∷ below))) (member_in s n (members_of s n) k i j ts)
unfolding member_in member_by
member_runs s n b k i j [] below h = absurd (never h)
member_runs s n b k i j (t ∷ ts) below h = by_word k t.word h
  where
    typed : (u : Lexeme) → Comes (run s (u ∷ ts) (Going n (Type_ ∷ AName ∷ SlotOrMethod ∷ Members kind.Class i ∷ below))) (λ y. run s y.1 (Going n (Members kind.Class i ∷ below))) (typed_in s n (u ∷ ts))
    typed u = typed_runs s n (u ∷ ts) (Members kind.Class i ∷ below)

    by_word : (k : Kind) (w : Word) → not (is_word (Marked CloseBrace) w) ≡ true
        → Comes (run s (lexeme w t.at ∷ ts) (Going n (Members k i ∷ below))) (λ y. run s y.1 (Going n (Members k i ∷ below))) (member_by s n (members_of s n) k i w (lexeme w t.at) ts)
    by_word k (Marked CloseBrace) h = absurd (never h)
    by_word k (Key Class) h = inner_member_runs s n b kind.Class i ts (Members k i ∷ below)
    by_word k (Key Package) h = inner_member_runs s n b kind.Package i ts (Members k i ∷ below)
    by_word kind.Class (Key Void) h = void_runs s n ts (Members kind.Class i ∷ below)
    by_word kind.Class (Key Int) h = record { eq = (typed (lexeme (Key Int) t.at)).eq }
    by_word kind.Class (Key Boolean) h = record { eq = (typed (lexeme (Key Boolean) t.at)).eq }
    by_word kind.Class (Key This) h = record { eq = (typed (lexeme (Key This) t.at)).eq }
    by_word kind.Class (Key w) h = record { eq = (typed (lexeme (Key w) t.at)).eq }
    by_word kind.Class (Named_ x) h = record { eq = (typed (lexeme (Named_ x) t.at)).eq }
    by_word kind.Class (Marked m) h = record { eq = (typed (lexeme (Marked m) t.at)).eq }
    by_word kind.Class w h = record { eq = (typed (lexeme w t.at)).eq }
    by_word kind.Package (Key w) h = record { eq = run_fails s ts (Syntax (suc (length ts))) }
    by_word kind.Package (Marked m) h = record { eq = run_fails s ts (Syntax (suc (length ts))) }
    by_word kind.Package w h = record { eq = run_fails s ts (Syntax (suc (length ts))) }

members_leave : (s : Bool) (n : ℕ) (k : Kind) (i : ℕ) (ts : List Lexeme) (below : List Symbol) → in_body ts ≡ false → run s ts (Going n (Members k i ∷ below)) ≡ run s ts (Going n below)
members_leave s n k i [] below h = refl
members_leave s n k i (t ∷ ts) below h = by_word k t.word h
  where
    by_word : (k : Kind) (w : Word) → not (is_word (Marked CloseBrace) w) ≡ false → run s (lexeme w t.at ∷ ts) (Going n (Members k i ∷ below)) ≡ run s (lexeme w t.at ∷ ts) (Going n below)
    by_word k (Marked CloseBrace) h = refl
    by_word k (Marked m) h = cc
    by_word k w h = cc

member_long : (k : Kind) (i : ℕ) (w : List Part) (x : Member) → IsMember k 0 i w x → 1 ≤ length w
member_long k i w x h = (member_goes h []).1

member_less : (s : Bool) (n : ℕ) (k : Kind) (i j : ℕ) (ts : List Lexeme) (x : Member × List Lexeme) → in_body ts ≡ true → member_in s n (members_of s n) k i j ts ≡ Ok x → length x.1 < length ts
member_less s n k i j ts x h = strictly (IsMember k 0 i) ts _ x (λ w. member_long k i w x.0) (member_sound s n (members_sounds_below s n) k 0 i j ts)

members_run : (s : Bool) (n : ℕ) → Below (MembersRun s) n → (k : Kind) (i : ℕ) (ts : List Lexeme) (below : List Symbol) → Does s (Members k i) n ts below (members_in s n (members_of s n) k i ts)
members_run s n b k i ts below = row_runs s n in_body (member_in s n (members_of s n) k i) (λ _. Members k i ∷ below) below
    (λ j ts h. members_leave s n k i ts below h) (λ j ts h. member_runs s n b k i j ts below h) (member_less s n k i) refl 1 ts

pub members_all_run : (s : Bool) (n : ℕ) → MembersRun s n
members_all_run s zero = record { members_do = members_run s zero tt }
members_all_run s (suc n) = record { members_do = members_run s (suc n) (members_all_run s n) }

pub members_run_below : (s : Bool) (n : ℕ) → Below (MembersRun s) n
members_run_below s zero = tt
members_run_below s (suc n) = members_all_run s n

-- ---- declarations at the top

top_runs : (s : Bool) (n j : ℕ) (ts : List Lexeme) (below : List Symbol) → in_file ts ≡ true → Comes (run s ts (Going n (Tops ∷ below))) (λ y. run s y.1 (Going n (Tops ∷ below))) (top_in s n j ts)
unfolding top_in top_by
top_runs s n j [] below h = absurd (never h)
top_runs s n j (t ∷ ts) below h = by_word t.word h
  where
    by_word : (w : Word) → not (is_word End w) ≡ true → Comes (run s (lexeme w t.at ∷ ts) (Going n (Tops ∷ below))) (λ y. run s y.1 (Going n (Tops ∷ below))) (top_by s n w (lexeme w t.at) ts)
    by_word (Key Class) h = top_decl_runs s n (members_run_below s n) kind.Class ts (Tops ∷ below)
    by_word (Key Package) h = top_decl_runs s n (members_run_below s n) kind.Package ts (Tops ∷ below)
    by_word (Key w) h = record { eq = run_fails s ts (Syntax (suc (length ts))) }
    by_word (Marked m) h = record { eq = run_fails s ts (Syntax (suc (length ts))) }
    by_word End h = absurd (never h)
    by_word w h = record { eq = run_fails s ts (Syntax (suc (length ts))) }

tops_leave : (s : Bool) (n : ℕ) (ts : List Lexeme) (below : List Symbol) → in_file ts ≡ false → run s ts (Going n (Tops ∷ below)) ≡ run s ts (Going n below)
tops_leave s n [] below h = refl
tops_leave s n (t ∷ ts) below h = by_word t.word h
  where
    by_word : (w : Word) → not (is_word End w) ≡ false → run s (lexeme w t.at ∷ ts) (Going n (Tops ∷ below)) ≡ run s (lexeme w t.at ∷ ts) (Going n below)
    by_word End h = refl
    by_word w h = cc

top_long : (w : List Part) (x : Decl) → IsTop w x → 1 ≤ length w
top_long w x h = (top_goes h []).1

top_less : (s : Bool) (n j : ℕ) (ts : List Lexeme) (x : Decl × List Lexeme) → in_file ts ≡ true → top_in s n j ts ≡ Ok x → length x.1 < length ts
top_less s n j ts x h = strictly IsTop ts _ x (λ w. top_long w x.0) (top_sound s n j ts)

pub tops_run : (s : Bool) (n : ℕ) (ts : List Lexeme) (below : List Symbol) → Does s Tops n ts below (tops_in s n ts)
unfolding tops_in
tops_run s n ts below = row_runs s n in_file (top_in s n) (λ _. Tops ∷ below) below
    (λ j ts h. tops_leave s n ts below h) (λ j ts h. top_runs s n j ts below h) (top_less s n) refl 1 ts
