-- What is read of names, terms, views and types is in the grammar.
use Rattle.std.proofs.Common.{◌≡◌, ℕ, Bool, true, false, List, [], ◌∷◌, ◌++◌, length, Ok, Err, refl, ◌∙◌, ap, if◌then◌else◌}
use Rattle.jn_base.specs.declared.tree.Name.{Name}
use Rattle.jn_base.specs.declared.tree.Place.{Place}
use Rattle.jn_base.specs.declared.tree.Ref.{Ref}
use Rattle.jn_base.specs.declared.word.Keyword.TheVariants.{Class, This}
use Rattle.jn_base.specs.declared.word.Mark.TheVariants.{Bang, Dot}
use Rattle.jn_base.specs.declared.word.Word.{Word}
use Rattle.jn_base.specs.declared.word.Word.TheVariants.{Name as Named_, Keyword as Key, Mark as Marked}
use Rattle.jn_base.specs.declared.word.Lexeme.{Lexeme}
use Rattle.jn_base.specs.Words.{lexeme}
use Rattle.jn_base.specs.Parts.{Part, lexeme_of, key, mark, name}
use Rattle.jn_base.specs.GrammarTypes.{IsDotted, one_name, more_names, IsDots, no_dot, dot, IsNames, loose, exact, IsTail, no_tail, tail, IsRef, this, variable, IsTerm, own}
use Rattle.jn_grammar.specs.Begins.{begins, behind, place, lexemes}
use Rattle.jn_grammar.specs.Answers.{Answer, ◌>>=◌, here}
use Rattle.jn_grammar.specs.ReadTypes.{dot_in, dots_in, bang_in, names_in, tail_in, ref_by, ref_in, class_in, own_in}
use Rattle.jn_grammar.proofs.FirstWords.{begins_is}
use Rattle.jn_grammar.proofs.Tools.{Sound, sound_bind, sound_if, sound_map, sound_expect, sound_name, glue}
use Rattle.jn_grammar.proofs.Row.{Row, none, next, many_sound}

-- one further name with its dot
pub data IsDot : ℕ → List Part → Name → Type 0 where
  one_dot : {k : ℕ} {x : Name} {o p : Place} → IsDot k (mark Dot o ∷ name x p ∷ []) x

pub dot_sound : (k : ℕ) (ts : List Lexeme) → begins (Marked Dot) ts ≡ true → Sound (IsDot k) ts (dot_in k ts)
unfolding dot_in
dot_sound k ts h = sound_name (IsDot k) (behind ts) ts _
    (λ x p rest s. record { words = mark Dot (place ts) ∷ name x p ∷ []; split = begins_is (Marked Dot) ts h ∙ ap (λ (v : List Lexeme). lexeme (Marked Dot) (place ts) ∷ v) s; is = one_dot })

pub dotted_of : {k : ℕ} {w : List Part} {xs : List Name} (x : Name) (p : Place) → Row IsDot k w xs → IsDotted p (name x p ∷ w) (x ∷ xs)
dotted_of x p none = one_name
dotted_of x p (next (one_dot {k} {x = y} {o} {p = q}) ds) = more_names o (dotted_of y q ds)

pub dots_of : {k : ℕ} {w : List Part} {xs : List Name} → Row IsDot k w xs → IsDots w xs
dots_of none = no_dot
dots_of (next one_dot ds) = dot (dots_of ds)

pub row_dots_sound : (ts : List Lexeme) → Sound (Row IsDot 1) ts (dots_in ts)
row_dots_sound ts = many_sound IsDot (begins (Marked Dot)) dot_in dot_sound (length ts) 1 ts

-- both lists of names, as one tree
abbrev pub NamesAt : Place → List Part → List Name × List Name → Type 0
NamesAt p w x = IsNames p w x.0 x.1

abbrev pub TailOf : List Part → List Name × List Name → Type 0
TailOf w x = IsTail w x.0 x.1

pub bang_sound : (p : Place) (xs : List Name) (w : List Part) → IsDotted p w xs → (ts us : List Lexeme) → us ≡ lexemes w ++ ts → Sound (NamesAt p) us (bang_in xs ts)
unfolding bang_in
bang_sound p xs w d ts us e = sound_if (NamesAt p) us (begins (Marked Bang) ts) _ (Ok (([], xs), ts))
    (λ h. sound_bind (Row IsDot 1) (NamesAt p) (behind ts) us _ _ (row_dots_sound (behind ts))
    (λ ys tys. record {
      words = w ++ mark Bang (place ts) ∷ tys.words;
      split = glue us w (mark Bang (place ts) ∷ tys.words) ts ys.1 e (begins_is (Marked Bang) ts h ∙ ap (λ (v : List Lexeme). lexeme (Marked Bang) (place ts) ∷ v) tys.split);
      is = exact (place ts) d (dots_of tys.is);
    }))
    (λ h. record { words = w; split = e; is = loose d })

-- the names behind the first of them
pub more_sound : (x : Name) (p : Place) (ts us : List Lexeme) → us ≡ lexeme (Named_ x) p ∷ ts → Sound (NamesAt p) us (dots_in ts >>= λ xs. bang_in (x ∷ xs.0) xs.1)
more_sound x p ts us e = sound_bind (Row IsDot 1) (NamesAt p) ts us _ _ (row_dots_sound ts)
    (λ xs txs. bang_sound p (x ∷ xs.0) (name x p ∷ txs.words) (dotted_of x p txs.is) xs.1 us (e ∙ ap (λ (v : List Lexeme). lexeme (Named_ x) p ∷ v) txs.split))

-- ... with the place found
pub data IsNamesThere : List Part → List Name × List Name → Type 0 where
  there : {p : Place} {w : List Part} {x : List Name × List Name} → IsNames p w x.0 x.1 → IsNamesThere w x

pub names_sound : (ts : List Lexeme) → Sound IsNamesThere ts (names_in ts)
unfolding names_in
names_sound ts = sound_name IsNamesThere ts ts _
    (λ x p rest s. sound_map (NamesAt p) IsNamesThere ts _ (λ w y. there) (more_sound x p rest ts s))

tail_of : (o : Place) (w : List Part) (x : List Name × List Name) → IsNamesThere w x → IsTail (mark Dot o ∷ w) x.0 x.1
tail_of o w x (there d) = tail d

pub tail_sound : (ts : List Lexeme) → Sound TailOf ts (tail_in ts)
unfolding tail_in
tail_sound ts = sound_if TailOf ts (begins (Marked Dot) ts) (names_in (behind ts)) (Ok (([], []), ts))
    (λ h. by_answer (names_in (behind ts)) h (names_sound (behind ts)))
    (λ h. record { words = []; split = refl; is = no_tail })
  where
    by_answer : (r : Answer (List Name × List Name)) → begins (Marked Dot) ts ≡ true → Sound IsNamesThere (behind ts) r → Sound TailOf ts r
    by_answer (Ok x) h t = record { words = mark Dot (place ts) ∷ t.words; split = begins_is (Marked Dot) ts h ∙ ap (λ (v : List Lexeme). lexeme (Marked Dot) (place ts) ∷ v) t.split; is = tail_of (place ts) t.words x.0 t.is }
    by_answer (Err f) h t = tt

-- one word that is a variable or "this"
pub data IsRefWord : List Part → Ref → Type 0 where
  ref_word : {p : Place} {t : Part} {r : Ref} → IsRef p t r → IsRefWord (t ∷ []) r

pub ref_sound : (ts : List Lexeme) → Sound IsRefWord ts (ref_in ts)
unfolding ref_in
ref_sound [] = tt
ref_sound (t ∷ ts) = by_word t.word
  where
    by_word : (k : Word) → Sound IsRefWord (lexeme k t.at ∷ ts) (ref_by k (lexeme k t.at) ts)
    by_word (Key This) = record { words = key This t.at ∷ []; split = refl; is = ref_word this }
    by_word (Named_ x) = record { words = name x t.at ∷ []; split = refl; is = ref_word variable }
    by_word k = tt

-- "." "class"
pub data IsClassWord : List Part → Place → Type 0 where
  class_word : {o c : Place} → IsClassWord (mark Dot o ∷ key Class c ∷ []) c

pub class_sound : (ts : List Lexeme) → Sound IsClassWord ts (class_in ts)
unfolding class_in
class_sound ts = sound_expect IsClassWord (Marked Dot) ts ts _
    (λ o rest s. by_answer o rest (begins (Key Class) rest) s (begins_is (Key Class) rest))
  where
    by_answer : (o : Place) (rest : List Lexeme) (c : Bool) → ts ≡ lexeme (Marked Dot) o ∷ rest → (c ≡ true → rest ≡ lexeme (Key Class) (place rest) ∷ behind rest)
        → Sound IsClassWord ts (if c then Ok (place rest, behind rest) else here rest)
    by_answer o rest true s a = record { words = mark Dot o ∷ key Class (place rest) ∷ []; split = s ∙ ap (λ (v : List Lexeme). lexeme (Marked Dot) o ∷ v) (a refl); is = class_word }
    by_answer o rest false s a = tt

-- a term behind its "class"
pub own_sound : (d : ℕ) (p o c : Place) (t : Part) (r : Ref) → IsRef p t r → (ts us : List Lexeme) → us ≡ lexeme_of t ∷ lexeme (Marked Dot) o ∷ lexeme (Key Class) c ∷ ts
    → Sound (IsTerm d p) us (own_in p r ts)
unfolding own_in
own_sound d p o c t r ir ts us e = sound_bind TailOf (IsTerm d p) ts us _ _ (tail_sound ts)
    (λ x tx. record { words = t ∷ mark Dot o ∷ key Class c ∷ tx.words; split = e ∙ ap (λ (v : List Lexeme). lexeme_of t ∷ lexeme (Marked Dot) o ∷ lexeme (Key Class) c ∷ v) tx.split; is = own o c ir tx.is })
