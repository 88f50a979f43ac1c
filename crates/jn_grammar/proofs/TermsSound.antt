-- What is read of terms, views and types is in the grammar.
use Rattle.std.proofs.Common.{◌≡◌, ℕ, zero, suc, Bool, true, List, [], ◌∷◌, ◌++◌, length, Option, Some, None, Ok, Err, refl, sym, ◌∙◌, ap, subst}
use Rattle.std.proofs.lemmas.List.{append-nil}
use Rattle.jn_base.specs.declared.tree.Name.{Name}
use Rattle.jn_base.specs.declared.tree.Place.{Place}
use Rattle.jn_base.specs.declared.tree.Named.{Named}
use Rattle.jn_base.specs.declared.tree.Ref.{Ref}
use Rattle.jn_base.specs.declared.tree.Ref.TheVariants as ref
use Rattle.jn_base.specs.declared.tree.Head.TheVariants as head
use Rattle.jn_base.specs.declared.tree.Term.{Term}
use Rattle.jn_base.specs.declared.tree.TypeTerm.TheVariants as type_term
use Rattle.jn_base.specs.declared.refusal.Limit.{Limit}
use Rattle.jn_base.specs.declared.word.Keyword.TheVariants.{Boolean, Class, Int, This}
use Rattle.jn_base.specs.declared.word.Mark.TheVariants.{Ampersand, Backslash, CloseBracket, Dot, OpenBracket}
use Rattle.jn_base.specs.declared.word.Word.{Word}
use Rattle.jn_base.specs.declared.word.Word.TheVariants.{Name as Named_, Keyword as Key, Mark as Marked}
use Rattle.jn_base.specs.declared.word.Lexeme.{Lexeme}
use Rattle.jn_base.specs.Words.{lexeme}
use Rattle.jn_base.specs.Parts.{Part, Role, Atom, key, mark, name, opening, atom, named, term}
use Rattle.jn_base.specs.GrammarTypes.{IsDotted, one_name, more_names, IsTail, this, variable, IsTerm, plain, in_prefix, IsMasks, no_mask, mask, IsView, view, IsAtoms, last_atom, then_atom, IsType, int, boolean, class}
use Rattle.jn_grammar.specs.Begins.{begins, behind, place, lexemes}
use Rattle.jn_grammar.specs.Answers.{Answer, ◌>>=◌, here, name_in, passed, within, within_by}
use Rattle.jn_grammar.specs.ReadTypes.{own_in, prefix_in, after_names_in, name_or_class_in, after_name_in, term_by, term_in, mask_in, masks_in, view_in, begins_term, atom_in, next_atom_in, atoms_in, class_type_in, type_in}
use Rattle.jn_grammar.proofs.FirstWords.{begins_is}
use Rattle.jn_grammar.proofs.Tools.{Sound, sound_bind, sound_if, sound_map, sound_expect, sound_name, glue}
use Rattle.jn_grammar.proofs.Row.{Row, none, next, many_sound}
use Rattle.jn_grammar.proofs.TypesSound.{IsDot, dotted_of, row_dots_sound, NamesAt, TailOf, bang_sound, tail_sound, IsRefWord, ref_word, ref_sound, IsClassWord, class_word, class_sound, own_sound}

prefix_is : {d : ℕ} {p : Place} {v wr wc wt : List Part} {xs es ns : List Name} {r : Ref} {c : Place} (b s : Place)
    → IsDotted p v xs → IsRefWord wr r → IsClassWord wc c → IsTail wt es ns
    → IsTerm d p (v ++ opening d OpenBracket b ∷ (wr ++ (wc ++ mark CloseBracket s ∷ wt))) (term (head.Prefix xs r) es ns p)
prefix_is b s dv (ref_word ir) (class_word {o} {c}) it = in_prefix b o c s dv ir it

pub prefix_sound : (d left : ℕ) (p : Place) (xs : List Name) (v : List Part) → IsDotted p v xs → (ts us : List Lexeme) → us ≡ lexemes v ++ ts
    → begins (Marked OpenBracket) ts ≡ true → Sound (IsTerm d p) us (prefix_in left p xs ts)
unfolding prefix_in
prefix_sound d zero p xs v dv ts us e h = tt
prefix_sound d (suc left) p xs v dv ts us e h =
    sound_bind IsRefWord (IsTerm d p) (behind ts) us _ _ (ref_sound (behind ts))
    (λ r tr. sound_bind IsClassWord (IsTerm d p) r.1 us _ _ (class_sound r.1)
    (λ c tc. sound_expect (IsTerm d p) (Marked CloseBracket) c.1 us _
    (λ s rest q. sound_bind TailOf (IsTerm d p) rest us _ _ (tail_sound rest)
    (λ x tx. record {
      words = v ++ opening d OpenBracket (place ts) ∷ (tr.words ++ (tc.words ++ mark CloseBracket s ∷ tx.words));
      split = glue us v (opening d OpenBracket (place ts) ∷ (tr.words ++ (tc.words ++ mark CloseBracket s ∷ tx.words))) ts x.1 e
          (begins_is (Marked OpenBracket) ts h ∙ ap (λ (i : List Lexeme). lexeme (Marked OpenBracket) (place ts) ∷ i)
          (glue (behind ts) tr.words (tc.words ++ mark CloseBracket s ∷ tx.words) r.1 x.1 tr.split
          (glue r.1 tc.words (mark CloseBracket s ∷ tx.words) c.1 x.1 tc.split (q ∙ ap (λ (i : List Lexeme). lexeme (Marked CloseBracket) s ∷ i) tx.split))));
      is = prefix_is (place ts) s dv tr.is tc.is tx.is;
    }))))

pub after_names_sound : (d left : ℕ) (p : Place) (xs : List Name) (v : List Part) → IsDotted p v xs → (ts us : List Lexeme) → us ≡ lexemes v ++ ts
    → Sound (IsTerm d p) us (after_names_in left p xs ts)
unfolding after_names_in
after_names_sound d left p xs v dv ts us e = sound_if (IsTerm d p) us (begins (Marked OpenBracket) ts) (prefix_in left p xs ts) _
    (λ h. prefix_sound d left p xs v dv ts us e h)
    (λ h. sound_bind (NamesAt p) (IsTerm d p) us us _ _ (bang_sound p xs v dv ts us e)
    (λ x tx. record { words = tx.words; split = tx.split; is = plain tx.is }))

pub name_or_class_sound : (d left : ℕ) (p o : Place) (x : Name) (ts us : List Lexeme) → us ≡ lexeme (Named_ x) p ∷ lexeme (Marked Dot) o ∷ ts
    → Sound (IsTerm d p) us (name_or_class_in left p x ts)
unfolding name_or_class_in
name_or_class_sound d left p o x ts us e = sound_if (IsTerm d p) us (begins (Key Class) ts) (own_in p (ref.Var x) (behind ts)) _
    (λ h. own_sound d p o (place ts) (name x p) (ref.Var x) variable (behind ts) us
    (e ∙ ap (λ (i : List Lexeme). lexeme (Named_ x) p ∷ lexeme (Marked Dot) o ∷ i) (begins_is (Key Class) ts h)))
    (λ h. sound_name (IsTerm d p) ts us _
    (λ y q rest s. sound_bind (Row IsDot 1) (IsTerm d p) rest us _ _ (row_dots_sound rest)
    (λ ys tys. after_names_sound d left p (x ∷ y ∷ ys.0) (name x p ∷ mark Dot o ∷ name y q ∷ tys.words) (more_names o (dotted_of y q tys.is)) ys.1 us
    (e ∙ ap (λ (i : List Lexeme). lexeme (Named_ x) p ∷ lexeme (Marked Dot) o ∷ i) s
    ∙ ap (λ (i : List Lexeme). lexeme (Named_ x) p ∷ lexeme (Marked Dot) o ∷ lexeme (Named_ y) q ∷ i) tys.split))))

pub after_name_sound : (d left : ℕ) (p : Place) (x : Name) (ts us : List Lexeme) → us ≡ lexeme (Named_ x) p ∷ ts
    → Sound (IsTerm d p) us (after_name_in left p x ts)
unfolding after_name_in
after_name_sound d left p x ts us e = sound_if (IsTerm d p) us (begins (Marked Dot) ts) (name_or_class_in left p x (behind ts)) (after_names_in left p (x ∷ []) ts)
    (λ h. name_or_class_sound d left p (place ts) x (behind ts) us (e ∙ ap (λ (i : List Lexeme). lexeme (Named_ x) p ∷ i) (begins_is (Marked Dot) ts h)))
    (λ h. after_names_sound d left p (x ∷ []) (name x p ∷ []) one_name ts us e)

this_sound : (d : ℕ) (p c : Place) (w : List Part) → IsClassWord w c → (ts rest : List Lexeme) → ts ≡ lexemes w ++ rest
    → Sound (IsTerm d p) (lexeme (Key This) p ∷ ts) (own_in p ref.This rest)
this_sound d p c w (class_word {o}) ts rest s = own_sound d p o c (key This p) ref.This this rest (lexeme (Key This) p ∷ ts) (ap (λ (i : List Lexeme). lexeme (Key This) p ∷ i) s)

pub term_sound : (d left : ℕ) (ts : List Lexeme) → Sound (IsTerm d (place ts)) ts (term_in left ts)
unfolding term_in term_by
term_sound d left [] = tt
term_sound d left (t ∷ ts) = by_word t.word
  where
    by_word : (k : Word) → Sound (IsTerm d t.at) (lexeme k t.at ∷ ts) (term_by left k (lexeme k t.at) ts)
    by_word (Key This) = sound_bind IsClassWord (IsTerm d t.at) ts (lexeme (Key This) t.at ∷ ts) _ _ (class_sound ts)
        (λ c tc. this_sound d t.at c.0 tc.words tc.is ts c.1 tc.split)
    by_word (Named_ x) = after_name_sound d left t.at x ts (lexeme (Named_ x) t.at ∷ ts) refl
    by_word k = tt

-- one mask with its backslash
pub data IsMask : ℕ → List Part → Named → Type 0 where
  one_mask : {k : ℕ} {x : Name} {o p : Place} → IsMask k (mark Backslash o ∷ name x p ∷ []) (named x p)

pub mask_sound : (k : ℕ) (ts : List Lexeme) → begins (Marked Backslash) ts ≡ true → Sound (IsMask k) ts (mask_in k ts)
unfolding mask_in
mask_sound k ts h = sound_map_name (sound_name (IsMask k) (behind ts) ts (λ y. Ok y)
    (λ x p rest s. record { words = mark Backslash (place ts) ∷ name x p ∷ []; split = begins_is (Marked Backslash) ts h ∙ ap (λ (v : List Lexeme). lexeme (Marked Backslash) (place ts) ∷ v) s; is = one_mask }))
  where
    by_answer : (r : Answer Named) → Sound (IsMask k) ts (r >>= λ y. Ok y) → Sound (IsMask k) ts r
    by_answer (Ok x) s = s
    by_answer (Err f) s = s

    sound_map_name : Sound (IsMask k) ts (name_in (behind ts) >>= λ y. Ok y) → Sound (IsMask k) ts (name_in (behind ts))
    sound_map_name s = by_answer (name_in (behind ts)) s

pub masks_of : {k : ℕ} {w : List Part} {ms : List Named} → Row IsMask k w ms → IsMasks w ms
masks_of none = no_mask
masks_of (next one_mask ds) = mask (masks_of ds)

pub masks_sound : (ts : List Lexeme) → Sound IsMasks ts (masks_in ts)
masks_sound ts = sound_map (Row IsMask 1) IsMasks ts _ (λ w x. masks_of) (many_sound IsMask (begins (Marked Backslash)) mask_in mask_sound (length ts) 1 ts)

pub view_sound : (d left : ℕ) (ts : List Lexeme) → Sound (IsView d) ts (view_in left ts)
unfolding view_in
view_sound d left ts = sound_bind (IsTerm d (place ts)) (IsView d) ts ts _ _ (term_sound d left ts)
    (λ t tt. sound_bind IsMasks (IsView d) t.1 ts _ _ (masks_sound t.1)
    (λ ms tms. record { words = tt.words ++ tms.words; split = glue _ _ _ _ _ tt.split tms.split; is = view tt.is tms.is }))

-- the k-th term of a type
pub data IsAtom (d k : ℕ) : List Part → Term → Type 0 where
  one_atom : {p : Place} {w : List Part} {t : Term} → IsTerm d p w t → IsAtom d k (atom k w) t

pub lexemes_atom : (k : ℕ) (w : List Part) → lexemes (atom k w) ≡ lexemes w
lexemes_atom k [] = refl
lexemes_atom k (t ∷ w) = refl

pub within_sound : {A : Type 0} (Is : List Part → A → Type 0) (strict : Bool) (role : Role) (us ts : List Lexeme) (r : Answer A) → Sound Is us r → Sound Is us (within strict role ts r)
within_sound Is strict role us ts r s = by_limit (passed strict role)
  where
    by_limit : (l : Option Limit) → Sound Is us (within_by l ts r)
    by_limit (Some l) = tt
    by_limit None = s

pub atom_sound : (strict : Bool) (d left k : ℕ) (ts : List Lexeme) → Sound (IsAtom d k) ts (atom_in strict left k ts)
unfolding atom_in
atom_sound strict d left k ts = sound_if (IsAtom d k) ts (begins_term ts) _ (here ts)
    (λ h. within_sound (IsAtom d k) strict (Atom k) ts ts (term_in left ts) (by_answer (term_in left ts) (term_sound d left ts)))
    (λ h. tt)
  where
    by_answer : (r : Answer Term) → Sound (IsTerm d (place ts)) ts r → Sound (IsAtom d k) ts r
    by_answer (Ok x) s = record { words = atom k s.words; split = s.split ∙ ap (λ (i : List Lexeme). i ++ x.1) (sym (lexemes_atom k s.words)); is = one_atom s.is }
    by_answer (Err f) s = tt

-- a further one with its ampersand
pub data IsNextAtom (d k : ℕ) : List Part → Term → Type 0 where
  next_atom : {o : Place} {w : List Part} {t : Term} → IsAtom d k w t → IsNextAtom d k (mark Ampersand o ∷ w) t

pub next_atom_sound : (strict : Bool) (d left k : ℕ) (ts : List Lexeme) → begins (Marked Ampersand) ts ≡ true → Sound (IsNextAtom d k) ts (next_atom_in strict left k ts)
unfolding next_atom_in
next_atom_sound strict d left k ts h = by_answer (atom_in strict left k (behind ts)) (atom_sound strict d left k (behind ts))
  where
    by_answer : (r : Answer Term) → Sound (IsAtom d k) (behind ts) r → Sound (IsNextAtom d k) ts r
    by_answer (Ok x) s = record { words = mark Ampersand (place ts) ∷ s.words; split = begins_is (Marked Ampersand) ts h ∙ ap (λ (i : List Lexeme). lexeme (Marked Ampersand) (place ts) ∷ i) s.split; is = next_atom s.is }
    by_answer (Err f) s = tt

pub atoms_of : {d k : ℕ} {v w : List Part} {t : Term} {ts : List Term} → IsAtom d k v t → Row (IsNextAtom d) (suc k) w ts → IsAtoms d k (v ++ w) (t ∷ ts)
atoms_of {d} {k} {t = t} (one_atom {w = u} i) none = subst (λ (s : List Part). IsAtoms d k s (t ∷ [])) (sym (append-nil (atom k u))) (last_atom i)
atoms_of (one_atom i) (next (next_atom {o} a) ds) = then_atom o i (atoms_of a ds)

pub atoms_sound : (strict : Bool) (d left : ℕ) (ts : List Lexeme) → Sound (IsAtoms d 1) ts (atoms_in strict left ts)
unfolding atoms_in
atoms_sound strict d left ts = sound_bind (IsAtom d 1) (IsAtoms d 1) ts ts _ _ (atom_sound strict d left 1 ts)
    (λ t tt. sound_bind (Row (IsNextAtom d) 2) (IsAtoms d 1) t.1 ts _ _ (many_sound (IsNextAtom d) (begins (Marked Ampersand)) (next_atom_in strict left) (next_atom_sound strict d left) (length t.1) 2 t.1)
    (λ others to. record { words = tt.words ++ to.words; split = glue _ _ _ _ _ tt.split to.split; is = atoms_of tt.is to.is }))

pub class_type_sound : (strict : Bool) (d left : ℕ) (ts : List Lexeme) → Sound (IsType d) ts (class_type_in strict left ts)
unfolding class_type_in
class_type_sound strict d left ts = sound_bind (IsAtoms d 1) (IsType d) ts ts _ _ (atoms_sound strict d left ts)
    (λ a ta. sound_bind IsMasks (IsType d) a.1 ts _ _ (masks_sound a.1)
    (λ ms tms. record { words = ta.words ++ tms.words; split = glue _ _ _ _ _ ta.split tms.split; is = class ta.is tms.is }))

pub type_sound : (strict : Bool) (d left : ℕ) (ts : List Lexeme) → Sound (IsType d) ts (type_in strict left ts)
unfolding type_in
type_sound strict d left ts = sound_if (IsType d) ts (begins (Key Int) ts) (Ok (type_term.Int, behind ts)) _
    (λ h. record { words = key Int (place ts) ∷ []; split = begins_is (Key Int) ts h; is = int })
    (λ h. sound_if (IsType d) ts (begins (Key Boolean) ts) (Ok (type_term.Bool, behind ts)) (class_type_in strict left ts)
    (λ h. record { words = key Boolean (place ts) ∷ []; split = begins_is (Key Boolean) ts h; is = boolean })
    (λ h. class_type_sound strict d left ts))
