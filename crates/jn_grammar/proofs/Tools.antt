-- How the proofs compose that what is read is in the grammar.
use Rattle.std.proofs.Common.{◌≡◌, ℕ, zero, suc, ◌≤◌, ◌<◌, Bool, true, false, List, [], ◌∷◌, ◌++◌, length, Result, Ok, Err, refl, sym, ◌∙◌, ap, subst, append_assoc, length-append, arith, if◌then◌else◌}
use Rattle.jn_base.specs.declared.tree.Name.{Name}
use Rattle.jn_base.specs.declared.tree.Place.{Place}
use Rattle.jn_base.specs.declared.tree.Named.{Named}
use Rattle.jn_base.specs.declared.word.Word.{Word}
use Rattle.jn_base.specs.declared.word.Word.TheVariants as word
use Rattle.jn_base.specs.declared.word.Lexeme.{Lexeme}
use Rattle.jn_base.specs.Parts.{Part, lexeme_of, named}
use Rattle.jn_base.specs.Words.{lexeme}
use Rattle.jn_grammar.specs.declared.fault.Fault.{Fault}
use Rattle.jn_grammar.specs.Begins.{begins, behind, place, lexemes}
use Rattle.jn_grammar.specs.Answers.{Answer, ◌>>=◌, here, expect, name_by, name_in}
use Rattle.jn_grammar.proofs.FirstWords.{begins_is}

-- what holds one depth below
abbrev pub Below : (ℕ → Type 0) → ℕ → Type 0
Below R zero = Unit {0}
Below R (suc n) = R n

-- What an answer says of the grammar: the words that it took are an X with its tree.
pub record Took {A : Type 0} (Is : List Part → A → Type 0) (ts : List Lexeme) (x : A × List Lexeme) : Type 0 where
  pub words : List Part
  pub split : ts ≡ lexemes words ++ x.1
  pub is : Is words x.0

abbrev pub Sound : {A : Type 0} → (List Part → A → Type 0) → List Lexeme → Answer A → Type 0
Sound Is ts (Ok x) = Took Is ts x
Sound Is ts (Err f) = Unit {0}

pub sound_bind : {A B : Type 0} (Is : List Part → A → Type 0) (Js : List Part → B → Type 0) (ts us : List Lexeme)
    (r : Answer A) (g : A × List Lexeme → Answer B)
    → Sound Is ts r → ((x : A × List Lexeme) → Took Is ts x → Sound Js us (g x)) → Sound Js us (r >>= g)
sound_bind Is Js ts us (Ok x) g s h = h x s
sound_bind Is Js ts us (Err f) g s h = tt

-- by a test
pub sound_if : {A : Type 0} (Is : List Part → A → Type 0) (ts : List Lexeme) (c : Bool) (x y : Answer A)
    → (c ≡ true → Sound Is ts x) → (c ≡ false → Sound Is ts y) → Sound Is ts (if c then x else y)
sound_if Is ts true x y a b = a refl
sound_if Is ts false x y a b = b refl

pub sound_map : {A : Type 0} (Is Js : List Part → A → Type 0) (ts : List Lexeme) (r : Answer A)
    → ((w : List Part) (x : A) → Is w x → Js w x) → Sound Is ts r → Sound Js ts r
sound_map Is Js ts (Ok x) h s = record { words = s.words; split = s.split; is = h s.words x.0 s.is }
sound_map Is Js ts (Err f) h s = tt

pub lexemes_append : (w v : List Part) → lexemes (w ++ v) ≡ lexemes w ++ lexemes v
lexemes_append [] v = refl
lexemes_append (t ∷ w) v = ap (λ (s : List Lexeme). lexeme_of t ∷ s) (lexemes_append w v)

-- words behind words
pub glue : (ts : List Lexeme) (w v : List Part) (mid rest : List Lexeme) → ts ≡ lexemes w ++ mid → mid ≡ lexemes v ++ rest → ts ≡ lexemes (w ++ v) ++ rest
glue ts w v mid rest a b = a ∙ ap (λ (s : List Lexeme). lexemes w ++ s) b ∙ sym (append_assoc (lexemes w) (lexemes v) rest) ∙ ap (λ (s : List Lexeme). s ++ rest) (sym (lexemes_append w v))

pub sound_expect : {B : Type 0} (Js : List Part → B → Type 0) (f : Word) (ts us : List Lexeme) (g : Place × List Lexeme → Answer B)
    → ((p : Place) (rest : List Lexeme) → ts ≡ lexeme f p ∷ rest → Sound Js us (g (p, rest))) → Sound Js us (expect f ts >>= g)
sound_expect Js f ts us g h = by_bool (begins f ts) (λ e. h (place ts) (behind ts) (begins_is f ts e))
  where
    by_bool : (c : Bool) → (c ≡ true → Sound Js us (g (place ts, behind ts))) → Sound Js us ((if c then Ok (place ts, behind ts) else here ts) >>= g)
    by_bool true a = a refl
    by_bool false a = tt

pub sound_name : {B : Type 0} (Js : List Part → B → Type 0) (ts us : List Lexeme) (g : Named × List Lexeme → Answer B)
    → ((x : Name) (p : Place) (rest : List Lexeme) → ts ≡ lexeme (word.Name x) p ∷ rest → Sound Js us (g (named x p, rest))) → Sound Js us (name_in ts >>= g)
sound_name Js [] us g h = tt
sound_name Js (t ∷ ts) us g h = by_word t.word (λ x e. h x t.at ts (ap (λ (k : Word). lexeme k t.at ∷ ts) e))
  where
    by_word : (k : Word) → ((x : Name) → k ≡ word.Name x → Sound Js us (g (named x t.at, ts))) → Sound Js us (name_by k (lexeme k t.at) ts >>= g)
    by_word (word.Name x) a = a x refl
    by_word k a = tt

-- what is taken is not longer than what was there
pub took_of : {A : Type 0} (Is : List Part → A → Type 0) (ts : List Lexeme) (r : Answer A) (x : A × List Lexeme)
    → Sound Is ts r → r ≡ Ok x → Took Is ts x
took_of Is ts (Ok y) x s e = subst (λ z. Took Is ts z) (ok_is y x e) s
  where
    ok_is : {B : Type 0} (y x : B) → ◌≡◌ {A = Result B Fault} (Ok y) (Ok x) → y ≡ x
    ok_is y x e = cc
took_of Is ts (Err f) x s e = cc

pub length_lexemes : (w : List Part) → length (lexemes w) ≡ length w
length_lexemes [] = refl
length_lexemes (t ∷ w) = ap suc (length_lexemes w)

pub strictly : {A : Type 0} (Is : List Part → A → Type 0) (ts : List Lexeme) (r : Answer A) (x : A × List Lexeme)
    → ((w : List Part) → Is w x.0 → 1 ≤ length w) → Sound Is ts r → r ≡ Ok x → length x.1 < length ts
strictly Is ts r x long s e = let tk = took_of Is ts r x s e in let l = long tk.words tk.is in
    omega (arith, ap length tk.split, length-append (lexemes tk.words) x.1, length_lexemes tk.words)
