-- What is in the grammar of names and terms is read, with its tree, whatever fits behind it.
use Rattle.std.proofs.Common.{◌≡◌, ℕ, zero, suc, Bool, true, false, List, [], ◌∷◌, ◌++◌, length, Option, Some, None, Ok, Err, refl, sym, ◌∙◌, ap, ◌+◌, ◌≤◌, arith, length-append, if◌then◌else◌}
use Rattle.std.specs.Prelude.{nat_lt}
use Rattle.jn_base.specs.declared.tree.Name.{Name}
use Rattle.jn_base.specs.declared.tree.Place.{Place}
use Rattle.jn_base.specs.declared.tree.Ref.{Ref}
use Rattle.jn_base.specs.declared.tree.Ref.TheVariants as ref
use Rattle.jn_base.specs.declared.tree.Head.TheVariants as head
use Rattle.jn_base.specs.declared.tree.Term.{Term}
use Rattle.jn_base.specs.declared.refusal.Limit.{Limit}
use Rattle.jn_base.specs.declared.word.Keyword.TheVariants.{Class}
use Rattle.jn_base.specs.declared.word.Mark.TheVariants.{Bang, CloseBracket, Dot, OpenBracket}
use Rattle.jn_base.specs.declared.word.Word.TheVariants.{Mark as Marked}
use Rattle.jn_base.specs.declared.word.Lexeme.{Lexeme}
use Rattle.jn_base.specs.Parts.{Part, Opens, key, mark, name, opening, term}
use Rattle.jn_base.specs.GrammarTypes.{IsDotted, one_name, more_names, IsDots, no_dot, dot, IsNames, loose, exact, IsTail, no_tail, tail, IsRef, this, variable, IsTerm, plain, own, in_prefix}
use Rattle.jn_grammar.specs.Begins.{begins, lexemes}
use Rattle.jn_grammar.specs.Answers.{Answer, ◌>>=◌, row}
use Rattle.jn_grammar.specs.ReadTypes.{dot_in, dots_in, bang_in, names_in, tail_in, ref_in, class_in, own_in, prefix_in, after_names_in, name_or_class_in, after_name_in, term_by, term_in}
use Rattle.jn_base.specs.declared.refusal.Limit.TheVariants.{Nesting}
use Rattle.jn_base.specs.Spelling.{limit_of}
use Rattle.jn_grammar.specs.declared.fault.Fault.TheVariants.{Passed}
use Rattle.jn_grammar.proofs.Tools.{length_lexemes}
use Rattle.jn_grammar.proofs.Row.{Row, none, next}
use Rattle.jn_grammar.proofs.TypesSound.{IsDot, one_dot}
use Rattle.jn_grammar.proofs.Meets.{met, meets, meets_bind, meets_append, words_append, Reads, then_reads, if_false, many_again}

-- what no row of dots, no names and no term go on with
pub record EndsNames (v : List Lexeme) : Type 0 where
  pub dot : begins (Marked Dot) v ≡ false
  pub bang : begins (Marked Bang) v ≡ false

pub record EndsTerm (v : List Lexeme) : Type 0 where
  pub names : EndsNames v
  pub bracket : begins (Marked OpenBracket) v ≡ false

-- a row with as many turns as there are words
pub row_again : {A : Type 0} (Is : ℕ → List Part → A → Type 0) (more : List Lexeme → Bool) (item : ℕ → List Lexeme → Answer A) (Fits : List Lexeme → Type 0)
    → ((k : ℕ) (w : List Part) (x : A) → Is k w x → (v : List Lexeme) → (more (lexemes w ++ v) ≡ true) × (1 ≤ length w) × Fits (lexemes w ++ v))
    → ((k : ℕ) (w : List Part) (x : A) → Is k w x → (v : List Lexeme) → Fits v → Reads (item k) w v x)
    → {k : ℕ} {w : List Part} {xs : List A} → Row Is k w xs → (v : List Lexeme) → more v ≡ false → Fits v → Reads (row more item k) w v xs
row_again Is more item Fits goes again {k} {w} ds v e f =
    let fits : length w + length v ≤ length (lexemes w ++ v) = omega (arith, length-append (lexemes w) v, length_lexemes w) in
    many_again Is more item Fits goes again ds v e f (length (lexemes w ++ v)) fits

-- a second reader that takes no words
pub read_then : {A B : Type 0} (f : List Lexeme → Answer A) (g : A × List Lexeme → Answer B) (w : List Part) (v : List Lexeme) (x : A) (r : Answer B)
    → Reads f w v x → g (x, v) ≡ r → (f (lexemes w ++ v) >>= g) ≡ meets w v r
read_then {A} {B} f g w v x r a b = ap (λ (s : Answer A). s >>= g) a ∙ meets_bind w v (Ok (x, v)) g ∙ ap (λ (s : Answer B). meets w v s) b

dot_again : (k : ℕ) (w : List Part) (x : Name) → IsDot k w x → (v : List Lexeme) → Unit {0} → Reads (dot_in k) w v x
unfolding dot_in
dot_again k w x one_dot v u = refl

dot_head : (k : ℕ) (w : List Part) (x : Name) → IsDot k w x → (v : List Lexeme) → (begins (Marked Dot) (lexemes w ++ v) ≡ true) × (1 ≤ length w) × Unit {0}
dot_head k w x one_dot v = (refl, omega arith, tt)

pub row_dots_again : {w : List Part} {xs : List Name} → Row IsDot 1 w xs → (v : List Lexeme) → begins (Marked Dot) v ≡ false → Reads dots_in w v xs
row_dots_again ds v e = row_again IsDot (begins (Marked Dot)) dot_in (λ _. Unit {0}) dot_head dot_again ds v e tt

row_dots : {k : ℕ} {w : List Part} {xs : List Name} → IsDots w xs → Row IsDot k w xs
row_dots no_dot = none
row_dots (dot ds) = next one_dot (row_dots ds)

pub dots_again : {w : List Part} {xs : List Name} → IsDots w xs → (v : List Lexeme) → begins (Marked Dot) v ≡ false → Reads dots_in w v xs
dots_again ds v e = row_dots_again (row_dots ds) v e

-- a name at p and a row of dots behind it
pub data DottedRow (p : Place) (k : ℕ) : List Part → List Name → Type 0 where
  dotted_row : {x : Name} {u : List Part} {xs : List Name} → Row IsDot k u xs → DottedRow p k (name x p ∷ u) (x ∷ xs)

longer : {q : Place} {k : ℕ} {w : List Part} {xs : List Name} (x : Name) (p o : Place) → DottedRow q (suc k) w xs → DottedRow p k (name x p ∷ mark Dot o ∷ w) (x ∷ xs)
longer x p o (dotted_row r) = dotted_row (next one_dot r)

pub row_of : {p : Place} {k : ℕ} {w : List Part} {xs : List Name} → IsDotted p w xs → DottedRow p k w xs
row_of one_name = dotted_row none
row_of {p} {k} (more_names {x} {q = q} o {w} {xs} d) = longer x p o (row_of {k = suc k} d)

pub bang_loose : (xs : List Name) (v : List Lexeme) → begins (Marked Bang) v ≡ false → bang_in xs v ≡ Ok (([], xs), v)
unfolding bang_in
bang_loose xs v e = if_false (begins (Marked Bang) v) _ _ e

pub bang_exact : (xs : List Name) (o : Place) {w : List Part} {ys : List Name} → IsDots w ys → (v : List Lexeme) → EndsNames v → Reads (bang_in xs) (mark Bang o ∷ w) v (xs, ys)
unfolding bang_in
bang_exact xs o {w} {ys} ds v a = read_then dots_in (λ i. Ok ((xs, i.0), i.1)) w v ys _ (dots_again ds v a.dot) refl

pub names_again : {p : Place} {w : List Part} {es ns : List Name} → IsNames p w es ns → (v : List Lexeme) → EndsNames v → Reads names_in w v (es, ns)
unfolding names_in
names_again {p} (loose {w = w} {xs} d) v a = by_row (row_of {k = 1} d)
  where
    by_row : {w : List Part} {xs : List Name} → DottedRow p 1 w xs → Reads names_in w v ([], xs)
    by_row (dotted_row {x} {u} {xs} r) = read_then dots_in (λ i. bang_in (x ∷ i.0) i.1) u v xs _ (row_dots_again r v a.dot) (bang_loose (x ∷ xs) v a.bang)
names_again {p} (exact o {v = t} {w} {xs} {ys} d ds) v a = by_row (row_of {k = 1} d)
  where
    by_row : {t : List Part} {xs : List Name} → DottedRow p 1 t xs → Reads names_in (t ++ mark Bang o ∷ w) v (xs, ys)
    by_row (dotted_row {x} {u} {xs} r) = then_reads dots_in (λ i. bang_in (x ∷ i.0) i.1) u (mark Bang o ∷ w) v xs _ (row_dots_again r (lexemes (mark Bang o ∷ w) ++ v) refl) (bang_exact (x ∷ xs) o ds v a)

pub tail_again : {w : List Part} {es ns : List Name} → IsTail w es ns → (v : List Lexeme) → EndsNames v → Reads tail_in w v (es, ns)
unfolding tail_in
tail_again no_tail v a = if_false (begins (Marked Dot) v) _ _ a.dot
tail_again (tail d) v a = names_again d v a

own_again : (p : Place) (r : Ref) {w : List Part} {es ns : List Name} → IsTail w es ns → (v : List Lexeme) → EndsNames v → Reads (own_in p r) w v (term (head.Own r) es ns p)
unfolding own_in
own_again p r {w} {es} {ns} d v a = read_then tail_in (λ i. Ok (term (head.Own r) i.0.0 i.0.1 p, i.1)) w v (es, ns) _ (tail_again d v a) refl

-- names and then something
pub dotted_then : (n : ℕ) (p : Place) {w : List Part} {xs : List Name} → DottedRow p 0 w xs → (z : List Lexeme) → begins (Marked Dot) z ≡ false
    → term_in n (lexemes w ++ z) ≡ meets w z (after_names_in n p xs z)
unfolding term_in term_by after_name_in name_or_class_in
dotted_then n p (dotted_row none) z e = if_false (begins (Marked Dot) z) _ _ e
dotted_then n p (dotted_row {x} (next {v = u} {xs = ys} (one_dot {x = y}) r)) z e =
    read_then dots_in (λ i. after_names_in n p (x ∷ y ∷ i.0) i.1) u z ys _ (row_dots_again r z e) refl

-- the 201st that is open passes the limit
pub deep : (d : ℕ) → d + 0 ≡ 200 → limit_of (Opens (suc d)) ≡ Some Nesting
deep d e = let same : d ≡ 200 = omega (arith, e) in ap (λ i. limit_of (Opens (suc i))) same

pub shallow : (d n : ℕ) → d + suc n ≡ 200 → limit_of (Opens (suc d)) ≡ None
shallow d n e = by_bool (nat_lt 200 (suc d)) (not_less d n e)
  where
    not_less : (d n : ℕ) → d + suc n ≡ 200 → nat_lt 200 (suc d) ≡ false
    not_less d n e = grind arith

    by_bool : (c : Bool) → c ≡ false → ◌≡◌ {A = Option Limit} (if c then Some Nesting else None) None
    by_bool true h = cc
    by_bool false h = refl

pub prefix_again : (d n : ℕ) → d + n ≡ 200 → (p q b o c s : Place) (xs : List Name) {t : Part} {r : Ref} {w : List Part} {es ns : List Name} → IsRef q t r → IsTail w es ns → (v : List Lexeme) → EndsNames v
    → Reads (prefix_in n p xs) (opening d OpenBracket b ∷ t ∷ mark Dot o ∷ key Class c ∷ mark CloseBracket s ∷ w) v (term (head.Prefix xs r) es ns p)
unfolding prefix_in ref_in class_in
prefix_again d zero room p q b o c s xs {t} {r} {w} {es} {ns} i j v a =
    let same : suc (length (t ∷ mark Dot o ∷ key Class c ∷ mark CloseBracket s ∷ w) + length v) ≡ length (lexemes (opening d OpenBracket b ∷ t ∷ mark Dot o ∷ key Class c ∷ mark CloseBracket s ∷ w) ++ v) = omega (arith, length-append (lexemes w) v, length_lexemes w) in
    sym (ap (λ l. met l (suc (length (t ∷ mark Dot o ∷ key Class c ∷ mark CloseBracket s ∷ w) + length v)) (meets (t ∷ mark Dot o ∷ key Class c ∷ mark CloseBracket s ∷ w) v (Ok (term (head.Prefix xs r) es ns p, v)))) (deep d room)
    ∙ ap (λ i. Err (Passed Nesting i)) same)
prefix_again d (suc n) room p q b o c s xs {t} {r} {w} {es} {ns} i j v a =
    by_ref i ∙ sym (ap (λ l. met l (suc (length (t ∷ mark Dot o ∷ key Class c ∷ mark CloseBracket s ∷ w) + length v)) (meets (t ∷ mark Dot o ∷ key Class c ∷ mark CloseBracket s ∷ w) v (Ok (term (head.Prefix xs r) es ns p, v)))) (shallow d n room))
  where
    by_ref : {t : Part} {r : Ref} → IsRef q t r
        → prefix_in (suc n) p xs (lexemes (opening d OpenBracket b ∷ t ∷ mark Dot o ∷ key Class c ∷ mark CloseBracket s ∷ w) ++ v) ≡ meets (t ∷ mark Dot o ∷ key Class c ∷ mark CloseBracket s ∷ w) v (Ok (term (head.Prefix xs r) es ns p, v))
    by_ref this = read_then tail_in (λ i. Ok (term (head.Prefix xs ref.This) i.0.0 i.0.1 p, i.1)) w v (es, ns) _ (tail_again j v a) refl
    by_ref (variable {x}) = read_then tail_in (λ i. Ok (term (head.Prefix xs (ref.Var x)) i.0.0 i.0.1 p, i.1)) w v (es, ns) _ (tail_again j v a) refl

-- names in front of the rest of a term
front_then : (n : ℕ) (p : Place) {t : List Part} {xs : List Name} → IsDotted p t xs → (u : List Part) (v : List Lexeme) (r : Answer Term) → begins (Marked Dot) (lexemes u ++ v) ≡ false
    → after_names_in n p xs (lexemes u ++ v) ≡ meets u v r → term_in n (lexemes (t ++ u) ++ v) ≡ meets (t ++ u) v r
front_then n p {t} {xs} d u v r e f =
    ap (λ (i : List Lexeme). term_in n i) (words_append t u v) ∙ dotted_then n p (row_of {k = 0} d) (lexemes u ++ v) e ∙ ap (λ (s : Answer Term). meets t (lexemes u ++ v) s) f ∙ sym (meets_append t u v r)

pub term_again : {d : ℕ} {p : Place} {w : List Part} {t : Term} → IsTerm d p w t → (n : ℕ) → d + n ≡ 200 → (v : List Lexeme) → EndsTerm v → Reads (term_in n) w v t
unfolding after_names_in term_in term_by after_name_in name_or_class_in class_in
term_again {p = p} (plain (loose {w = w} {xs} i)) n room v a =
    dotted_then n p (row_of {k = 0} i) v a.names.dot
    ∙ ap (λ (s : Answer Term). meets w v s) (if_false (begins (Marked OpenBracket) v) _ _ a.bracket ∙ ap (λ (s : Answer (List Name × List Name)). s >>= λ i. Ok (term head.Plain i.0.0 i.0.1 p, i.1)) (bang_loose xs v a.names.bang))
term_again {p = p} (plain (exact o {v = u} {w} {xs} {ys} i ds)) n room v a =
    front_then n p i (mark Bang o ∷ w) v _ refl (read_then (bang_in xs) (λ i. Ok (term head.Plain i.0.0 i.0.1 p, i.1)) (mark Bang o ∷ w) v (xs, ys) _ (bang_exact xs o ds v a.names) refl)
term_again {d} {p} (own o c {t} {r} {w} {es} {ns} i j) n room v a = by_ref i
  where
    by_ref : {t : Part} {r : Ref} → IsRef p t r → Reads (term_in n) (t ∷ mark Dot o ∷ key Class c ∷ w) v (term (head.Own r) es ns p)
    by_ref this = own_again p ref.This j v a.names
    by_ref (variable {x}) = own_again p (ref.Var x) j v a.names
term_again {d} {p} (in_prefix {q = q} b o c s {v = u} {w} {xs} {es} {ns} {t} {r} i k j) n room v a =
    front_then n p i (opening d OpenBracket b ∷ t ∷ mark Dot o ∷ key Class c ∷ mark CloseBracket s ∷ w) v _ refl (prefix_again d n room p q b o c s xs k j v a.names)
