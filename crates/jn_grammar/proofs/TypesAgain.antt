-- What is in the grammar of masks, views and types is read, with its tree, whatever fits behind it.
use Rattle.std.proofs.Common.{◌≡◌, ℕ, suc, true, false, List, [], ◌∷◌, ◌++◌, length, Option, Some, None, Ok, Err, refl, ◌∙◌, ap, subst, ◌+◌, ◌≤◌, arith, length-append}
use Rattle.std.proofs.lemmas.List.{append-nil}
use Rattle.jn_base.specs.declared.tree.Name.{Name}
use Rattle.jn_base.specs.declared.tree.Place.{Place}
use Rattle.jn_base.specs.declared.tree.Named.{Named}
use Rattle.jn_base.specs.declared.tree.Term.{Term}
use Rattle.jn_base.specs.declared.tree.ViewTerm.{ViewTerm}
use Rattle.jn_base.specs.declared.tree.TypeTerm.{TypeTerm}
use Rattle.jn_base.specs.declared.tree.TypeTerm.TheVariants as type_term
use Rattle.jn_base.specs.declared.refusal.Limit.{Limit}
use Rattle.jn_base.specs.declared.word.Keyword.TheVariants.{Boolean, Class, Int, This}
use Rattle.jn_base.specs.declared.word.Mark.TheVariants.{Ampersand, Backslash, Bang, CloseBracket, Dot, OpenBracket}
use Rattle.jn_base.specs.declared.word.Word.{Word}
use Rattle.jn_base.specs.declared.word.Word.TheVariants.{Name as Named_, Keyword as Key, Mark as Marked}
use Rattle.jn_base.specs.declared.word.Lexeme.{Lexeme}
use Rattle.jn_base.specs.Words.{lexeme}
use Rattle.jn_base.specs.Parts.{Part, Role, Plain, Atom, key, mark, opening, atom}
use Rattle.jn_base.specs.GrammarTypes.{IsDotted, one_name, more_names, IsNames, loose, exact, this, variable, IsTerm, plain, own, in_prefix, IsMasks, no_mask, mask, IsView, view, IsAtoms, last_atom, then_atom, IsType, int, boolean, class}
use Rattle.jn_grammar.specs.Begins.{begins, lexemes}
use Rattle.jn_grammar.specs.Answers.{Answer, ◌>>=◌, within_by, row}
use Rattle.jn_grammar.specs.ReadTypes.{term_in, mask_in, masks_in, view_in, atom_in, next_atom_in, atoms_in, class_type_in, type_in}
use Rattle.jn_base.specs.Spelling.{limit_of}
use Rattle.jn_grammar.specs.declared.fault.Fault.TheVariants.{Passed}
use Rattle.jn_grammar.specs.ReadTypes.{is_head}
use Rattle.jn_grammar.proofs.FirstWords.{never}
use Rattle.jn_grammar.proofs.Tools.{length_lexemes}
use Rattle.jn_grammar.proofs.Row.{Row, none, next}
use Rattle.jn_grammar.proofs.TermsSound.{IsMask, one_mask, IsAtom, one_atom, IsNextAtom, next_atom}
use Rattle.jn_grammar.proofs.Meets.{met, meets, words_append, Reads, then_reads, if_true, if_false}
use Rattle.jn_grammar.proofs.TermsAgain.{EndsTerm, row_again, read_then, term_again}

mask_again : (k : ℕ) (w : List Part) (x : Named) → IsMask k w x → (v : List Lexeme) → Unit {0} → Reads (mask_in k) w v x
unfolding mask_in
mask_again k w x one_mask v u = refl

mask_head : (k : ℕ) (w : List Part) (x : Named) → IsMask k w x → (v : List Lexeme) → (begins (Marked Backslash) (lexemes w ++ v) ≡ true) × (1 ≤ length w) × Unit {0}
mask_head k w x one_mask v = (refl, omega arith, tt)

row_masks : {k : ℕ} {w : List Part} {ms : List Named} → IsMasks w ms → Row IsMask k w ms
row_masks no_mask = none
row_masks (mask ds) = next one_mask (row_masks ds)

pub masks_again : {w : List Part} {ms : List Named} → IsMasks w ms → (v : List Lexeme) → begins (Marked Backslash) v ≡ false → Reads masks_in w v ms
masks_again ds v e = row_again IsMask (begins (Marked Backslash)) mask_in (λ _. Unit {0}) mask_head mask_again (row_masks {k = 1} ds) v e tt

-- what no view and no type go on with
pub record EndsView (v : List Lexeme) : Type 0 where
  pub term : EndsTerm v
  pub mask : begins (Marked Backslash) v ≡ false

pub record EndsType (v : List Lexeme) : Type 0 where
  pub view : EndsView v
  pub ampersand : begins (Marked Ampersand) v ≡ false

pub masks_end : {w : List Part} {ms : List Named} → IsMasks w ms → (v : List Lexeme) → EndsTerm v → EndsTerm (lexemes w ++ v)
masks_end no_mask v a = a
masks_end (mask ds) v a = record { names = record { dot = refl; bang = refl }; bracket = refl }

pub view_again : {d : ℕ} {w : List Part} {x : ViewTerm} → IsView d w x → (n : ℕ) → d + n ≡ 200 → (v : List Lexeme) → EndsView v → Reads (view_in n) w v x
unfolding view_in
view_again (view {v = t} {w} {t = x} {ms} i j) n room v a =
    then_reads (term_in n) (λ s. masks_in s.1 >>= λ ms. Ok (record { term = s.0; masks = ms.0 }, ms.1)) t w v x _ (term_again i n room (lexemes w ++ v) (masks_end j v a.term))
    (read_then masks_in (λ ms. Ok (record { term = x; masks = ms.0 }, ms.1)) w v ms _ (masks_again j v a.mask) refl)

-- How a term begins.
pub data TermHead : List Part → Type 0 where
  term_head : {t : Part} {w : List Part} → is_head t.word ≡ true → t.role ≡ Plain → TermHead (t ∷ w)

dotted_head : {p : Place} {w : List Part} {xs : List Name} → IsDotted p w xs → (u : List Part) → TermHead (w ++ u)
dotted_head one_name u = term_head refl refl
dotted_head (more_names o d) u = term_head refl refl

names_head : {p : Place} {w : List Part} {es ns : List Name} → IsNames p w es ns → TermHead w
names_head (loose one_name) = term_head refl refl
names_head (loose (more_names o d)) = term_head refl refl
names_head (exact o {w = u} d ds) = dotted_head d (mark Bang o ∷ u)

pub head_of : {d : ℕ} {p : Place} {w : List Part} {t : Term} → IsTerm d p w t → TermHead w
head_of (plain i) = names_head i
head_of (own o c this i) = term_head refl refl
head_of (own o c variable i) = term_head refl refl
head_of {d} (in_prefix b o c s {w = w} {t = t} i j k) = dotted_head i (opening d OpenBracket b ∷ t ∷ mark Dot o ∷ key Class c ∷ mark CloseBracket s ∷ w)

pub atom_again : (d k : ℕ) (w : List Part) (t : Term) → IsAtom d k w t → (n : ℕ) → d + n ≡ 200 → (v : List Lexeme) → EndsTerm v → Reads (atom_in true n k) w v t
unfolding atom_in
atom_again d k w t (one_atom {w = u} i) n room v a = by_head u (head_of i) (term_again i n room v a)
  where
    by_limit : (l : Option Limit) (x : Part) (u : List Part) (r : Answer Term) → r ≡ meets u v (Ok (t, v)) → within_by l (lexemes (x ∷ u) ++ v) r ≡ met l (suc (length u + length v)) (meets u v (Ok (t, v)))
    by_limit (Some l) x u r e = let same : length (lexemes (x ∷ u) ++ v) ≡ suc (length u + length v) = omega (arith, length-append (lexemes u) v, length_lexemes u) in ap (λ i. Err (Passed l i)) same
    by_limit None x u r e = e

    plain_first : (x : Part) (u : List Part) → x.role ≡ Plain → meets (x ∷ u) v (Ok (t, v)) ≡ meets u v (Ok (t, v))
    plain_first x u e = ap (λ (r : Role). met (limit_of r) (suc (length u + length v)) (meets u v (Ok (t, v)))) e

    by_head : (u : List Part) → TermHead u → Reads (term_in n) u v t → atom_in true n k (lexemes (atom k u) ++ v) ≡ meets (atom k u) v (Ok (t, v))
    by_head u (term_head {t = x} {w = z} h p) r = if_true (is_head x.word) _ _ h ∙ by_limit (limit_of (Atom k)) x z (term_in n (lexemes (x ∷ z) ++ v)) (r ∙ plain_first x z p)

pub next_atom_again : (d n : ℕ) → d + n ≡ 200 → (k : ℕ) (w : List Part) (t : Term) → IsNextAtom d k w t → (v : List Lexeme) → EndsTerm v → Reads (next_atom_in true n k) w v t
unfolding next_atom_in
next_atom_again d n room k w t (next_atom i) v a = atom_again d k _ t i n room v a

pub next_atom_head : (d k : ℕ) (w : List Part) (t : Term) → IsNextAtom d k w t → (v : List Lexeme) → (begins (Marked Ampersand) (lexemes w ++ v) ≡ true) × (1 ≤ length w) × EndsTerm (lexemes w ++ v)
next_atom_head d k w t (next_atom i) v = (refl, omega arith, record { names = record { dot = refl; bang = refl }; bracket = refl })

-- a first term and the others
pub data AtomsRow (d k : ℕ) : List Part → List Term → Type 0 where
  atoms_row : {v w : List Part} {t : Term} {ts : List Term} → IsAtom d k v t → Row (IsNextAtom d) (suc k) w ts → AtomsRow d k (v ++ w) (t ∷ ts)

longer : {d k : ℕ} (o : Place) {u w : List Part} {t : Term} {ts : List Term} → IsAtom d k u t → AtomsRow d (suc k) w ts → AtomsRow d k (u ++ mark Ampersand o ∷ w) (t ∷ ts)
longer o i (atoms_row j js) = atoms_row i (next (next_atom {o = o} j) js)

pub row_atoms : {d k : ℕ} {w : List Part} {ts : List Term} → IsAtoms d k w ts → AtomsRow d k w ts
row_atoms {d} {k} (last_atom {w = w} {t} i) = subst (λ (s : List Part). AtomsRow d k s (t ∷ [])) (append-nil (atom k w)) (atoms_row (one_atom i) none)
row_atoms {d} {k} (then_atom o {v = u} {w} {t} {ts} i is) = longer o (one_atom i) (row_atoms is)

pub next_atoms_end : {d k : ℕ} {w : List Part} {ts : List Term} → Row (IsNextAtom d) k w ts → (v : List Lexeme) → EndsTerm v → EndsTerm (lexemes w ++ v)
next_atoms_end none v a = a
next_atoms_end (next (next_atom i) is) v a = record { names = record { dot = refl; bang = refl }; bracket = refl }

pub atoms_again : {d : ℕ} {w : List Part} {ts : List Term} → IsAtoms d 1 w ts → (n : ℕ) → d + n ≡ 200 → (v : List Lexeme) → EndsTerm v → begins (Marked Ampersand) v ≡ false
    → Reads (atoms_in true n) w v ts
unfolding atoms_in
atoms_again {d} i n room v a e = by_row (row_atoms i)
  where
    by_row : {w : List Part} {ts : List Term} → AtomsRow d 1 w ts → Reads (atoms_in true n) w v ts
    by_row (atoms_row {v = u} {w} {t} {ts} j js) =
        then_reads (atom_in true n 1) (λ s. row (begins (Marked Ampersand)) (next_atom_in true n) 2 s.1 >>= λ others. Ok (s.0 ∷ others.0, others.1)) u w v t _ (atom_again d 1 u t j n room (lexemes w ++ v) (next_atoms_end js v a))
        (read_then (row (begins (Marked Ampersand)) (next_atom_in true n) 2) (λ others. Ok (t ∷ others.0, others.1)) w v ts _
        (row_again (IsNextAtom d) (begins (Marked Ampersand)) (next_atom_in true n) EndsTerm (next_atom_head d) (next_atom_again d n room) js v e a) refl)

class_head : {d : ℕ} {w : List Part} {ts : List Term} → IsAtoms d 1 w ts → (u : List Lexeme) → (begins (Key Int) (lexemes w ++ u) ≡ false) × (begins (Key Boolean) (lexemes w ++ u) ≡ false)
class_head {d} {w} i u = by_row (row_atoms i)
  where
    by_word : (k : Word) → is_head k ≡ true → (z : List Lexeme) (p : Place) → (begins (Key Int) (lexeme k p ∷ z) ≡ false) × (begins (Key Boolean) (lexeme k p ∷ z) ≡ false)
    by_word (Key This) h z p = (refl, refl)
    by_word (Named_ x) h z p = (refl, refl)
    by_word k h z p = absurd (never h)

    by_atom : {v : List Part} {t : Term} → IsAtom d 1 v t → (z : List Part) → (begins (Key Int) (lexemes (v ++ z) ++ u) ≡ false) × (begins (Key Boolean) (lexemes (v ++ z) ++ u) ≡ false)
    by_atom (one_atom {w = w} i) z = by_head w (head_of i)
      where
        by_head : (w : List Part) → TermHead w → (begins (Key Int) (lexemes (atom 1 w ++ z) ++ u) ≡ false) × (begins (Key Boolean) (lexemes (atom 1 w ++ z) ++ u) ≡ false)
        by_head w (term_head {t = x} {w = y} h p) = by_word x.word h (lexemes (y ++ z) ++ u) x.at

    by_row : {w : List Part} {ts : List Term} → AtomsRow d 1 w ts → (begins (Key Int) (lexemes w ++ u) ≡ false) × (begins (Key Boolean) (lexemes w ++ u) ≡ false)
    by_row (atoms_row {w = z} j js) = by_atom j z

pub masks_no_ampersand : {w : List Part} {ms : List Named} → IsMasks w ms → (v : List Lexeme) → begins (Marked Ampersand) v ≡ false → begins (Marked Ampersand) (lexemes w ++ v) ≡ false
masks_no_ampersand no_mask v e = e
masks_no_ampersand (mask ds) v e = refl

pub class_type_again : {d : ℕ} {u w : List Part} {ts : List Term} {ms : List Named} → IsAtoms d 1 u ts → IsMasks w ms → (n : ℕ) → d + n ≡ 200 → (v : List Lexeme) → EndsType v
    → Reads (class_type_in true n) (u ++ w) v (type_term.Class ts ms)
unfolding class_type_in
class_type_again {d} {u} {w} {ts} {ms} i j n room v a =
    then_reads (atoms_in true n) (λ s. masks_in s.1 >>= λ ms. Ok (type_term.Class s.0 ms.0, ms.1)) u w v ts _ (atoms_again i n room (lexemes w ++ v) (masks_end j v a.view.term) (masks_no_ampersand j v a.ampersand))
    (read_then masks_in (λ ms. Ok (type_term.Class ts ms.0, ms.1)) w v ms _ (masks_again j v a.view.mask) refl)

pub type_again : {d : ℕ} {w : List Part} {t : TypeTerm} → IsType d w t → (n : ℕ) → d + n ≡ 200 → (v : List Lexeme) → EndsType v → Reads (type_in true n) w v t
unfolding type_in
type_again int n room v a = refl
type_again boolean n room v a = refl
type_again (class {v = u} {w} {ts} {ms} i j) n room v a =
    let h = class_head i (lexemes w ++ v) in
    if_false (begins (Key Int) (lexemes (u ++ w) ++ v)) _ _ (ap (λ (s : List Lexeme). begins (Key Int) s) (words_append u w v) ∙ h.0)
    ∙ if_false (begins (Key Boolean) (lexemes (u ++ w) ++ v)) _ _ (ap (λ (s : List Lexeme). begins (Key Boolean) s) (words_append u w v) ∙ h.1)
    ∙ class_type_again i j n room v a
