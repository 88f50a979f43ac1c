-- Reading names, terms, views and types is what the machine does with their symbols.
use Rattle.std.proofs.Common.{◌≡◌, ℕ, zero, suc, ◌≤◌, ◌<◌, Bool, true, List, [], ◌∷◌, length, Option, Some, None, Ok, refl, ◌∙◌, arith, if◌then◌else◌}
use Rattle.jn_base.specs.declared.tree.Name.{Name}
use Rattle.jn_base.specs.declared.tree.Place.{Place}
use Rattle.jn_base.specs.declared.tree.Named.{Named}
use Rattle.jn_base.specs.declared.tree.Ref.{Ref as RefTree}
use Rattle.jn_base.specs.declared.tree.Ref.TheVariants as ref
use Rattle.jn_base.specs.declared.tree.Term.{Term as TermTree}
use Rattle.jn_base.specs.declared.refusal.Limit.{Limit}
use Rattle.jn_base.specs.declared.refusal.Limit.TheVariants.{Nesting}
use Rattle.jn_base.specs.declared.word.Keyword.TheVariants.{Boolean, Class, Int, This}
use Rattle.jn_base.specs.declared.word.Mark.TheVariants.{Ampersand, Backslash, Bang, CloseBracket, Dot, OpenBracket}
use Rattle.jn_base.specs.declared.word.Word.{Word}
use Rattle.jn_base.specs.declared.word.Word.TheVariants.{Name as Named_, Keyword as Key, Mark as Marked}
use Rattle.jn_base.specs.declared.word.Lexeme.{Lexeme}
use Rattle.jn_base.specs.Words.{lexeme}
use Rattle.jn_base.specs.Parts.{Part, Atom as AtomRole}
use Rattle.jn_grammar.specs.declared.fault.Fault.TheVariants.{Syntax, Passed}
use Rattle.jn_grammar.specs.Begins.{begins, behind, is_word}
use Rattle.jn_grammar.specs.Answers.{Answer, ◌>>=◌, name_by, passed, within_by, row}
use Rattle.jn_grammar.specs.ReadTypes.{dot_in, dots_in, bang_in, names_in, tail_in, ref_by, ref_in, class_in, own_in, prefix_in, after_names_in, name_or_class_in, after_name_in, term_by, term_in, mask_in, masks_in, view_in, atom_in, next_atom_in, atoms_in, class_type_in, type_in}
use Rattle.jn_grammar.specs.Expected.{Symbol, Expects, Shuts, AName, Dots, MayBang, Tail, Names, Term, AfterName, NameOrClass, AfterNames, Ref, Masks, View, Type_, Atom, Atoms, opened, counts_by, Going, run}
use Rattle.jn_grammar.proofs.Tools.{strictly}
use Rattle.jn_grammar.proofs.TypesSound.{IsDot, one_dot, dot_sound}
use Rattle.jn_grammar.proofs.TermsSound.{IsMask, one_mask, mask_sound, IsNextAtom, next_atom, next_atom_sound}
use Rattle.jn_grammar.proofs.Meets.{if_true, if_false}
use Rattle.jn_grammar.proofs.Machine.{Comes, Does, run_fails, comes_then, comes_both, from, takes_or_leaves, expects, shuts, names, row_runs}

dot_long : (k : ℕ) (w : List Part) (x : Name) → IsDot k w x → 1 ≤ length w
dot_long k w x one_dot = omega arith

dot_less : (k : ℕ) (ts : List Lexeme) (x : Name × List Lexeme) → begins (Marked Dot) ts ≡ true → dot_in k ts ≡ Ok x → length x.1 < length ts
dot_less k ts x h = strictly (IsDot k) ts _ x (λ w. dot_long k w x.0) (dot_sound k ts h)

pub dots_run : (s : Bool) (n : ℕ) (ts : List Lexeme) (below : List Symbol) → Does s Dots n ts below (dots_in ts)
unfolding dot_in
dots_run s n ts below = row_runs s n (begins (Marked Dot)) dot_in (λ _. Dots ∷ below) below
    (λ k ts h. takes_or_leaves s (Marked Dot) (AName ∷ Dots ∷ []) below n ts Dots (λ k. refl) ∙ if_false (begins (Marked Dot) ts) _ _ h)
    goes dot_less refl 1 ts
  where
    goes : (k : ℕ) (ts : List Lexeme) → begins (Marked Dot) ts ≡ true → Comes (run s ts (Going n (Dots ∷ below))) (λ x. run s x.1 (Going n (Dots ∷ below))) (dot_in k ts)
    goes k ts h = from (takes_or_leaves s (Marked Dot) (AName ∷ Dots ∷ []) below n ts Dots (λ k. refl) ∙ if_true (begins (Marked Dot) ts) _ _ h)
        (comes_then (names s n (behind ts) (Dots ∷ below)) (λ _ _. record { eq = refl }))

pub bang_runs : (s : Bool) (n : ℕ) (xs : List Name) (ts : List Lexeme) (below : List Symbol) → Does s MayBang n ts below (bang_in xs ts)
unfolding bang_in
bang_runs s n xs ts below = comes_both (begins (Marked Bang) ts) (takes_or_leaves s (Marked Bang) (Dots ∷ []) below n ts MayBang (λ k. refl))
    (λ h. comes_then (dots_run s n (behind ts) below) (λ _ _. record { eq = refl }))
    (λ h. record { eq = refl })

pub names_run : (s : Bool) (n : ℕ) (ts : List Lexeme) (below : List Symbol) → Does s Names n ts below (names_in ts)
unfolding names_in
names_run s n [] below = record { eq = refl }
names_run s n (t ∷ ts) below = by_word t.word
  where
    by_word : (k : Word) → Does s Names n (lexeme k t.at ∷ ts) below (name_by k (lexeme k t.at) ts >>= λ x. dots_in x.1 >>= λ xs. bang_in (x.0.name ∷ xs.0) xs.1)
    by_word (Named_ x) = comes_then (dots_run s n ts (MayBang ∷ below)) (λ xs _. bang_runs s n (x ∷ xs.0) xs.1 below)
    by_word k = record { eq = run_fails s ts (Syntax (suc (length ts))) }

pub tail_runs : (s : Bool) (n : ℕ) (ts : List Lexeme) (below : List Symbol) → Does s Tail n ts below (tail_in ts)
unfolding tail_in
tail_runs s n ts below = comes_both (begins (Marked Dot) ts) (takes_or_leaves s (Marked Dot) (Names ∷ []) below n ts Tail (λ k. refl))
    (λ h. names_run s n (behind ts) below)
    (λ h. record { eq = refl })

pub ref_runs : (s : Bool) (n : ℕ) (ts : List Lexeme) (below : List Symbol) → Does s Ref n ts below (ref_in ts)
unfolding ref_in
ref_runs s n [] below = record { eq = refl }
ref_runs s n (t ∷ ts) below = by_word t.word
  where
    by_word : (k : Word) → Does s Ref n (lexeme k t.at ∷ ts) below (ref_by k (lexeme k t.at) ts)
    by_word (Named_ x) = record { eq = refl }
    by_word (Key This) = record { eq = refl }
    by_word k = record { eq = run_fails s ts (Syntax (suc (length ts))) }

pub class_runs : (s : Bool) (n : ℕ) (ts : List Lexeme) (below : List Symbol) → Comes (run s ts (Going n (Expects (Marked Dot) ∷ Expects (Key Class) ∷ below))) (λ y. run s y.1 (Going n below)) (class_in ts)
unfolding class_in
class_runs s n ts below = comes_then (expects s (Marked Dot) n ts (Expects (Key Class) ∷ below)) (λ o _. expects s (Key Class) n o.1 below)

pub own_runs : (s : Bool) (n : ℕ) (p : Place) (r : RefTree) (ts : List Lexeme) (below : List Symbol) → Does s Tail n ts below (own_in p r ts)
unfolding own_in
own_runs s n p r ts below = comes_then (tail_runs s n ts below) (λ _ _. record { eq = refl })

prefix_runs : (s : Bool) (n : ℕ) (p : Place) (xs : List Name) (q : Place) (ts : List Lexeme) (below : List Symbol)
    → Comes (run s ts (opened n (Ref ∷ Expects (Marked Dot) ∷ Expects (Key Class) ∷ Shuts (Marked CloseBracket) ∷ Tail ∷ below) (suc (length ts)))) (λ y. run s y.1 (Going n below)) (prefix_in n p xs (lexeme (Marked OpenBracket) q ∷ ts))
unfolding prefix_in
prefix_runs s zero p xs q ts below = record { eq = run_fails s ts (Passed Nesting (suc (length ts))) }
prefix_runs s (suc n) p xs q ts below = comes_then (ref_runs s n ts (Expects (Marked Dot) ∷ Expects (Key Class) ∷ Shuts (Marked CloseBracket) ∷ Tail ∷ below))
    (λ r _. comes_then (class_runs s n r.1 (Shuts (Marked CloseBracket) ∷ Tail ∷ below))
    (λ c _. comes_then (shuts s (Marked CloseBracket) n c.1 (Tail ∷ below))
    (λ z _. comes_then (tail_runs s (suc n) z.1 below) (λ _ _. record { eq = refl }))))

pub after_names_run : (s : Bool) (n : ℕ) (p : Place) (xs : List Name) (ts : List Lexeme) (below : List Symbol) → Does s AfterNames n ts below (after_names_in n p xs ts)
unfolding after_names_in bang_in
after_names_run s n p xs [] below = record { eq = refl }
after_names_run s n p xs (t ∷ ts) below = by_word t.word
  where
    by_word : (k : Word) → Does s AfterNames n (lexeme k t.at ∷ ts) below (after_names_in n p xs (lexeme k t.at ∷ ts))
    by_word (Marked OpenBracket) = prefix_runs s n p xs t.at ts below
    by_word (Marked Bang) = comes_then (bang_runs s n xs (lexeme (Marked Bang) t.at ∷ ts) below) (λ _ _. record { eq = refl })
    by_word (Marked m) = record { eq = refl }
    by_word k = record { eq = refl }

pub name_or_class_runs : (s : Bool) (n : ℕ) (p : Place) (x : Name) (ts : List Lexeme) (below : List Symbol) → Does s NameOrClass n ts below (name_or_class_in n p x ts)
unfolding name_or_class_in
name_or_class_runs s n p x [] below = record { eq = refl }
name_or_class_runs s n p x (t ∷ ts) below = by_word t.word
  where
    by_word : (k : Word) → Does s NameOrClass n (lexeme k t.at ∷ ts) below (name_or_class_in n p x (lexeme k t.at ∷ ts))
    by_word (Key Class) = own_runs s n p (ref.Var x) ts below
    by_word (Named_ y) = comes_then (dots_run s n ts (AfterNames ∷ below)) (λ ys _. after_names_run s n p (x ∷ y ∷ ys.0) ys.1 below)
    by_word k = record { eq = run_fails s ts (Syntax (suc (length ts))) }

pub after_name_runs : (s : Bool) (n : ℕ) (p : Place) (x : Name) (ts : List Lexeme) (below : List Symbol) → Does s AfterName n ts below (after_name_in n p x ts)
unfolding after_name_in
after_name_runs s n p x ts below = comes_both (begins (Marked Dot) ts) (as_names ts)
    (λ h. name_or_class_runs s n p x (behind ts) below)
    (λ h. after_names_run s n p (x ∷ []) ts below)
  where
    as_names : (ts : List Lexeme) → run s ts (Going n (AfterName ∷ below)) ≡ (if begins (Marked Dot) ts then run s (behind ts) (Going n (NameOrClass ∷ below)) else run s ts (Going n (AfterNames ∷ below)))
    as_names [] = refl
    as_names (t ∷ ts) = by_word t.word
      where
        by_word : (k : Word) → run s (lexeme k t.at ∷ ts) (Going n (AfterName ∷ below)) ≡ (if is_word (Marked Dot) k then run s ts (Going n (NameOrClass ∷ below)) else run s (lexeme k t.at ∷ ts) (Going n (AfterNames ∷ below)))
        by_word (Marked Dot) = refl
        by_word (Marked Bang) = refl
        by_word (Marked OpenBracket) = refl
        by_word (Marked m) = refl
        by_word k = refl

pub term_runs : (s : Bool) (n : ℕ) (ts : List Lexeme) (below : List Symbol) → Does s Term n ts below (term_in n ts)
unfolding term_in term_by
term_runs s n [] below = record { eq = refl }
term_runs s n (t ∷ ts) below = by_word t.word
  where
    by_word : (k : Word) → Does s Term n (lexeme k t.at ∷ ts) below (term_by n k (lexeme k t.at) ts)
    by_word (Named_ x) = after_name_runs s n t.at x ts below
    by_word (Key This) = comes_then (class_runs s n ts (Tail ∷ below)) (λ c _. own_runs s n t.at ref.This c.1 below)
    by_word k = record { eq = run_fails s ts (Syntax (suc (length ts))) }

mask_long : (k : ℕ) (w : List Part) (x : Named) → IsMask k w x → 1 ≤ length w
mask_long k w x one_mask = omega arith

mask_less : (k : ℕ) (ts : List Lexeme) (x : Named × List Lexeme) → begins (Marked Backslash) ts ≡ true → mask_in k ts ≡ Ok x → length x.1 < length ts
mask_less k ts x h = strictly (IsMask k) ts _ x (λ w. mask_long k w x.0) (mask_sound k ts h)

pub masks_run : (s : Bool) (n : ℕ) (ts : List Lexeme) (below : List Symbol) → Does s Masks n ts below (masks_in ts)
unfolding mask_in
masks_run s n ts below = row_runs s n (begins (Marked Backslash)) mask_in (λ _. Masks ∷ below) below
    (λ k ts h. takes_or_leaves s (Marked Backslash) (AName ∷ Masks ∷ []) below n ts Masks (λ k. refl) ∙ if_false (begins (Marked Backslash) ts) _ _ h)
    (λ k ts h. from (takes_or_leaves s (Marked Backslash) (AName ∷ Masks ∷ []) below n ts Masks (λ k. refl) ∙ if_true (begins (Marked Backslash) ts) _ _ h) (names s n (behind ts) (Masks ∷ below)))
    mask_less refl 1 ts

pub view_runs : (s : Bool) (n : ℕ) (ts : List Lexeme) (below : List Symbol) → Does s View n ts below (view_in n ts)
unfolding view_in
view_runs s n ts below = from (as_term ts) (comes_then (term_runs s n ts (Masks ∷ below)) (λ t _. comes_then (masks_run s n t.1 below) (λ _ _. record { eq = refl })))
  where
    as_term : (ts : List Lexeme) → run s ts (Going n (View ∷ below)) ≡ run s ts (Going n (Term ∷ Masks ∷ below))
    as_term [] = refl
    as_term (t ∷ ts) = by_word t.word
      where
        by_word : (k : Word) → run s (lexeme k t.at ∷ ts) (Going n (View ∷ below)) ≡ run s (lexeme k t.at ∷ ts) (Going n (Term ∷ Masks ∷ below))
        by_word (Named_ x) = refl
        by_word (Key This) = refl
        by_word k = refl

pub atom_runs : (s : Bool) (n k : ℕ) (ts : List Lexeme) (below : List Symbol) → Does s (Atom k) n ts below (atom_in s n k ts)
unfolding atom_in
atom_runs s n k [] below = record { eq = refl }
atom_runs s n k (t ∷ ts) below = by_word t.word
  where
    by_limit : (l : Option Limit) (u : Lexeme) (then_ : List Symbol) (r : Answer TermTree) → Comes (run s ts (Going n then_)) (λ y. run s y.1 (Going n below)) r
        → Comes (run s ts (counts_by l n then_ (suc (length ts)))) (λ y. run s y.1 (Going n below)) (within_by l (u ∷ ts) r)
    by_limit (Some l) u then_ r c = record { eq = run_fails s ts (Passed l (suc (length ts))) }
    by_limit None u then_ r c = c

    by_word : (w : Word) → Does s (Atom k) n (lexeme w t.at ∷ ts) below (atom_in s n k (lexeme w t.at ∷ ts))
    by_word (Named_ x) = by_limit (passed s (AtomRole k)) (lexeme (Named_ x) t.at) (AfterName ∷ below) (term_in n (lexeme (Named_ x) t.at ∷ ts)) (record { eq = (term_runs s n (lexeme (Named_ x) t.at ∷ ts) below).eq })
    by_word (Key This) = by_limit (passed s (AtomRole k)) (lexeme (Key This) t.at) (Expects (Marked Dot) ∷ Expects (Key Class) ∷ Tail ∷ below) (term_in n (lexeme (Key This) t.at ∷ ts)) (record { eq = (term_runs s n (lexeme (Key This) t.at ∷ ts) below).eq })
    by_word w = record { eq = run_fails s ts (Syntax (suc (length ts))) }

next_atom_long : (d k : ℕ) (w : List Part) (x : TermTree) → IsNextAtom d k w x → 1 ≤ length w
next_atom_long d k w x (next_atom i) = omega arith

next_atom_less : (s : Bool) (n k : ℕ) (ts : List Lexeme) (x : TermTree × List Lexeme) → begins (Marked Ampersand) ts ≡ true → next_atom_in s n k ts ≡ Ok x → length x.1 < length ts
next_atom_less s n k ts x h = strictly (IsNextAtom 0 k) ts _ x (λ w. next_atom_long 0 k w x.0) (next_atom_sound s 0 n k ts h)

pub more_atoms_run : (s : Bool) (n k : ℕ) (ts : List Lexeme) (below : List Symbol) → Does s (Atoms k) n ts below (row (begins (Marked Ampersand)) (next_atom_in s n) k ts)
unfolding next_atom_in
more_atoms_run s n k ts below = row_runs s n (begins (Marked Ampersand)) (next_atom_in s n) (λ k. Atoms k ∷ below) below
    (λ k ts h. takes_or_leaves s (Marked Ampersand) (Atom k ∷ Atoms (suc k) ∷ []) below n ts (Atoms k) (λ k. refl) ∙ if_false (begins (Marked Ampersand) ts) _ _ h)
    (λ k ts h. from (takes_or_leaves s (Marked Ampersand) (Atom k ∷ Atoms (suc k) ∷ []) below n ts (Atoms k) (λ k. refl) ∙ if_true (begins (Marked Ampersand) ts) _ _ h) (atom_runs s n k (behind ts) (Atoms (suc k) ∷ below)))
    (next_atom_less s n) refl k ts

pub atoms_run : (s : Bool) (n : ℕ) (ts : List Lexeme) (below : List Symbol) → Comes (run s ts (Going n (Atom 1 ∷ Atoms 2 ∷ below))) (λ y. run s y.1 (Going n below)) (atoms_in s n ts)
unfolding atoms_in
atoms_run s n ts below = comes_then (atom_runs s n 1 ts (Atoms 2 ∷ below)) (λ t _. comes_then (more_atoms_run s n 2 t.1 below) (λ _ _. record { eq = refl }))

pub class_type_runs : (s : Bool) (n : ℕ) (ts : List Lexeme) (below : List Symbol) → Comes (run s ts (Going n (Atom 1 ∷ Atoms 2 ∷ Masks ∷ below))) (λ y. run s y.1 (Going n below)) (class_type_in s n ts)
unfolding class_type_in
class_type_runs s n ts below = comes_then (atoms_run s n ts (Masks ∷ below)) (λ a _. comes_then (masks_run s n a.1 below) (λ _ _. record { eq = refl }))

pub type_runs : (s : Bool) (n : ℕ) (ts : List Lexeme) (below : List Symbol) → Does s Type_ n ts below (type_in s n ts)
unfolding type_in
type_runs s n [] below = class_type_runs s n [] below
type_runs s n (t ∷ ts) below = by_word t.word
  where
    by_word : (k : Word) → Does s Type_ n (lexeme k t.at ∷ ts) below (type_in s n (lexeme k t.at ∷ ts))
    by_word (Key Int) = record { eq = refl }
    by_word (Key Boolean) = record { eq = refl }
    by_word (Key k) = record { eq = (class_type_runs s n (lexeme (Key k) t.at ∷ ts) below).eq }
    by_word (Named_ x) = record { eq = (class_type_runs s n (lexeme (Named_ x) t.at ∷ ts) below).eq }
    by_word k = record { eq = (class_type_runs s n (lexeme k t.at ∷ ts) below).eq }
