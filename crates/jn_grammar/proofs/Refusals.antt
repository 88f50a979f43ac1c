-- THE FIRST REFUSAL of syntax and limits: what the program's reader answers, with the limits of masks and names.
use Rattle.std.proofs.Common.{◌≡◌, ℕ, zero, suc, ◌-◌, ◌≤◌, ◌<◌, Bool, true, false, List, [], ◌∷◌, ◌++◌, length, Option, Some, None, Ok, Err, refl, sym, ◌∙◌, ap, subst, append_assoc, length-append, arith, if◌then◌else◌}
use Rattle.std.specs.Prelude.{nat_lt, drop}
use Rattle.jn_base.specs.declared.tree.Place.{Place}
use Rattle.jn_base.specs.declared.tree.Decl.{Decl}
use Rattle.jn_base.specs.declared.refusal.Limit.{Limit}
use Rattle.jn_base.specs.declared.refusal.Limit.TheVariants as limit
use Rattle.jn_base.specs.declared.refusal.Rule.{Rule}
use Rattle.jn_base.specs.declared.refusal.Rule.TheVariants.{E04}
use Rattle.jn_base.specs.declared.word.Lexeme.{Lexeme}
use Rattle.jn_base.specs.Parts.{Role, Plain, Opens, Declares, Parameter, Local, Atom}
use Rattle.jn_base.specs.GrammarDecl.{IsProgram}
use Rattle.jn_base.specs.Spelling.{limit_of, Begins, Passes, counted, masks, names, rank, IsClean, IsRefusedAt, syntax_fault, limit_passed, IsFirstRefused}
use Rattle.jn_grammar.specs.declared.fault.Fault.{Fault}
use Rattle.jn_grammar.specs.declared.fault.Fault.TheVariants.{Syntax, Passed}
use Rattle.jn_grammar.specs.Begins.{place}
use Rattle.jn_grammar.specs.Answers.{Answer}
use Rattle.jn_grammar.specs.ReadDecls.{tops_in}
use Rattle.jn_grammar.specs.ReadWhole.{program_in, whole_in, first}
use Rattle.jn_grammar.specs.Expected.{Tops}
use Rattle.jn_grammar.specs.Places.{BeginsSo, PassesSo, IsCleanSo, IsSyntaxAt, IsLimitAt}
use Rattle.jn_grammar.specs.TokenLimits.{token_limit, left_of, earlier, checked_in, rule_of, limit_shown, place_left, IsLast, SameRefusal, AreClean, IsFirstFault}
use Rattle.jn_grammar.proofs.Steps.{count_of}
use Rattle.jn_grammar.proofs.FirstFault.{all_clean, syntax_at, limit_at}
use Rattle.jn_grammar.proofs.Programs.{program_reader}
use Rattle.jn_grammar.proofs.LastWord.{fault_there}
use Rattle.jn_grammar.proofs.TokenFaults.{TokenClean, TokenPasses, by_masks, by_names, TokenLimitAt, token_limit_at, token_clean}

-- ---- the definitions of the language and those of any grammar

begins_of : {ws : List Lexeme} → BeginsSo IsProgram ws → Begins ws
begins_of b = record { parts = b.parts; are_words = b.are_words; begins = record { others = b.begun.others; decls = b.begun.tree; is_program = b.begun.is } }

begins_so : {ws : List Lexeme} → Begins ws → BeginsSo IsProgram ws
begins_so b = record { parts = b.parts; are_words = b.are_words; begun = record { others = b.begins.others; tree = b.begins.decls; is = b.begins.is_program } }

passes_of : {front : List Lexeme} {t : Lexeme} {l : Limit} → PassesSo IsProgram front t l → Passes front t l
passes_of g = counted g.before g.part g.are_words g.is_word (record { others = g.begun.others; decls = g.begun.tree; is_program = g.begun.is }) g.limit

clean_of : {front : List Lexeme} {t : Lexeme} → IsCleanSo IsProgram front t → TokenClean front t → IsClean front t
clean_of {front} {t} c k = record { begins = begins_of c.begins; within = λ l p. none l p }
  where
    none : (l : Limit) → Passes front t l → ⊥
    none l (counted ts p a b g e) = c.within l (record { before = ts; part = p; are_words = a; is_word = b; begun = record { others = g.others; tree = g.decls; is = g.is_program }; limit = e })
    none l (masks d e) = k.masks d
    none l (names n e g) = k.names n e g

-- what the grammar counts comes before masks and names
counted_rank : (r : Role) (l : Limit) → limit_of r ≡ Some l → rank l ≤ 4
counted_rank Plain l e = cc
counted_rank (Declares n) l e = by_bool (nat_lt 8 n) e
  where
    some_is : (k : Limit) → Some k ≡ Some l → k ≡ l
    some_is k e = cc

    by_bool : (c : Bool) → (if c then Some limit.Declarations else None) ≡ Some l → rank l ≤ 4
    by_bool true e = subst (λ k. rank k ≤ 4) (some_is limit.Declarations e) (omega arith)
    by_bool false e = cc
counted_rank (Opens n) l e = by_bool (nat_lt 200 n) e
  where
    some_is : (k : Limit) → Some k ≡ Some l → k ≡ l
    some_is k e = cc

    by_bool : (c : Bool) → (if c then Some limit.Nesting else None) ≡ Some l → rank l ≤ 4
    by_bool true e = subst (λ k. rank k ≤ 4) (some_is limit.Nesting e) (omega arith)
    by_bool false e = cc
counted_rank (Parameter n) l e = by_bool (nat_lt 15 n) e
  where
    some_is : (k : Limit) → Some k ≡ Some l → k ≡ l
    some_is k e = cc

    by_bool : (c : Bool) → (if c then Some limit.Parameters else None) ≡ Some l → rank l ≤ 4
    by_bool true e = subst (λ k. rank k ≤ 4) (some_is limit.Parameters e) (omega arith)
    by_bool false e = cc
counted_rank (Local n) l e = by_bool (nat_lt 200 n) e
  where
    some_is : (k : Limit) → Some k ≡ Some l → k ≡ l
    some_is k e = cc

    by_bool : (c : Bool) → (if c then Some limit.Locals else None) ≡ Some l → rank l ≤ 4
    by_bool true e = subst (λ k. rank k ≤ 4) (some_is limit.Locals e) (omega arith)
    by_bool false e = cc
counted_rank (Atom n) l e = by_bool (nat_lt 8 n) e
  where
    some_is : (k : Limit) → Some k ≡ Some l → k ≡ l
    some_is k e = cc

    by_bool : (c : Bool) → (if c then Some limit.Atoms else None) ≡ Some l → rank l ≤ 4
    by_bool true e = subst (λ k. rank k ≤ 4) (some_is limit.Atoms e) (omega arith)
    by_bool false e = cc

-- a limit of the grammar, at its word
refused_limit : {front : List Lexeme} {t : Lexeme} {l : Limit} → BeginsSo IsProgram (front ++ t ∷ []) → PassesSo IsProgram front t l → ((m : Limit) → PassesSo IsProgram front t m → m ≡ l) → IsRefusedAt front t E04 (Some l)
refused_limit {front} {t} {l} b g alone = limit_passed (begins_of b) (record { passes = passes_of g; first = λ m p. least m p })
  where
    least : (m : Limit) → Passes front t m → rank l ≤ rank m
    least m (counted ts p a b h e) =
        let same = ap rank (alone m (record { before = ts; part = p; are_words = a; is_word = b; begun = record { others = h.others; tree = h.decls; is = h.is_program }; limit = e })) in
        omega (arith, same)
    least m (masks d e) = let r = counted_rank g.part.role l g.limit in omega (arith, r)
    least m (names n e h) = let r = counted_rank g.part.role l g.limit in omega (arith, r)

-- a limit of masks or names, at a word that the grammar has nothing against
refused_token : {front : List Lexeme} {t : Lexeme} {l : Limit} → IsCleanSo IsProgram front t → TokenPasses front t l → IsRefusedAt front t E04 (Some l)
refused_token {front} {t} c (by_masks d e) = limit_passed (begins_of c.begins) (record { passes = masks d e; first = λ m p. least m p })
  where
    least : (m : Limit) → Passes front t m → 5 ≤ rank m
    least m (counted ts p a b h e) = absurd (c.within m (record { before = ts; part = p; are_words = a; is_word = b; begun = record { others = h.others; tree = h.decls; is = h.is_program }; limit = e }))
    least m (masks d e) = omega arith
    least m (names n e h) = omega arith
refused_token {front} {t} c (by_names i q g few) = limit_passed (begins_of c.begins) (record { passes = names i q g; first = λ m p. least m p })
  where
    least : (m : Limit) → Passes front t m → 6 ≤ rank m
    least m (counted ts p a b h e) = absurd (c.within m (record { before = ts; part = p; are_words = a; is_word = b; begun = record { others = h.others; tree = h.decls; is = h.is_program }; limit = e }))
    least m (masks d e) = absurd (few d)
    least m (names n e h) = omega arith

-- ---- splits of one list

head_is : (a b : Lexeme) (xs ys : List Lexeme) → a ∷ xs ≡ b ∷ ys → a ≡ b
head_is a b xs ys e = cc

tail_is : (a b : Lexeme) (xs ys : List Lexeme) → a ∷ xs ≡ b ∷ ys → xs ≡ ys
tail_is a b xs ys e = cc

too_short : (z y : Lexeme) (a : List Lexeme) (x : Lexeme) (u v : List Lexeme) → z ∷ (a ++ x ∷ u) ≡ y ∷ v → length v ≤ length u → ⊥
too_short z y a x u v e l = let same = ap length e in omega (arith, l, same, length-append a (x ∷ u))

record Prefix (a b : List Lexeme) : Type 0 where
  more : List Lexeme
  is : b ≡ a ++ more

prefix_of : (a b : List Lexeme) (x y : Lexeme) (u v : List Lexeme) → a ++ x ∷ u ≡ b ++ y ∷ v → length v ≤ length u → Prefix a b
prefix_of [] b x y u v e l = record { more = b; is = refl }
prefix_of (z ∷ a) [] x y u v e l = absurd (too_short z y a x u v e l)
prefix_of (z ∷ a) (w ∷ b) x y u v e l =
    let r = prefix_of a b x y u v (tail_is z w (a ++ x ∷ u) (b ++ y ∷ v) e) l in
    record { more = r.more; is = ap (λ (h : Lexeme). h ∷ b) (sym (head_is z w (a ++ x ∷ u) (b ++ y ∷ v) e)) ∙ ap (λ (i : List Lexeme). z ∷ i) r.is }

record Inside (a b : List Lexeme) (x : Lexeme) : Type 0 where
  rest : List Lexeme
  is : b ≡ a ++ x ∷ rest

inside_of : (a b : List Lexeme) (x y : Lexeme) (u v : List Lexeme) → a ++ x ∷ u ≡ b ++ y ∷ v → length v < length u → Inside a b x
inside_of [] [] x y u v e l = absurd (let same = ap length e in omega (arith, l, same))
inside_of [] (w ∷ b) x y u v e l = record { rest = b; is = ap (λ (h : Lexeme). h ∷ b) (sym (head_is x w u (b ++ y ∷ v) e)) }
inside_of (z ∷ a) [] x y u v e l = absurd (let m : length v ≤ length u = omega (arith, l) in too_short z y a x u v e m)
inside_of (z ∷ a) (w ∷ b) x y u v e l =
    let r = inside_of a b x y u v (tail_is z w (a ++ x ∷ u) (b ++ y ∷ v) e) l in
    record { rest = r.rest; is = ap (λ (h : Lexeme). h ∷ b) (sym (head_is z w (a ++ x ∷ u) (b ++ y ∷ v) e)) ∙ ap (λ (i : List Lexeme). z ∷ i) r.is }

record Same (a b : List Lexeme) (x y : Lexeme) : Type 0 where
  fronts : a ≡ b
  words : x ≡ y

same_of : (a b : List Lexeme) (x y : Lexeme) (u v : List Lexeme) → a ++ x ∷ u ≡ b ++ y ∷ v → length u ≡ length v → Same a b x y
same_of [] [] x y u v e l = record { fronts = refl; words = head_is x y u v e }
same_of [] (w ∷ b) x y u v e l = absurd (let m : length u ≤ length v = omega (arith, l) in too_short w x b y v u (sym e) m)
same_of (z ∷ a) [] x y u v e l = absurd (let m : length v ≤ length u = omega (arith, l) in too_short z y a x u v e m)
same_of (z ∷ a) (w ∷ b) x y u v e l =
    let r = same_of a b x y u v (tail_is z w (a ++ x ∷ u) (b ++ y ∷ v) e) l in
    record { fronts = ap (λ (h : Lexeme). h ∷ a) (head_is z w (a ++ x ∷ u) (b ++ y ∷ v) e) ∙ ap (λ (i : List Lexeme). w ∷ i) r.fronts; words = r.words }

-- the place of a word by how many stand from it to the end
drop_front : (front : List Lexeme) (t : Lexeme) (others : List Lexeme) → drop (length front) (front ++ t ∷ others) ≡ t ∷ others
drop_front [] t others = refl
drop_front (x ∷ front) t others = drop_front front t others

place_is : (front : List Lexeme) (t : Lexeme) (others : List Lexeme) → place_left (front ++ t ∷ others) (suc (length others)) ≡ t.at
place_is front t others =
    let count : length (front ++ t ∷ others) - suc (length others) ≡ length front = omega (arith, length-append front (t ∷ others)) in
    ap (λ i. place (drop i (front ++ t ∷ others))) count ∙ ap place (drop_front front t others)

place_there : (ws front : List Lexeme) (t : Lexeme) (others : List Lexeme) (left : ℕ) → ws ≡ front ++ t ∷ others → left ≡ suc (length others) → place_left ws left ≡ t.at
place_there ws front t others left e c = ap (λ (v : List Lexeme). place_left v left) e ∙ ap (λ i. place_left (front ++ t ∷ others) i) c ∙ place_is front t others

-- ---- the fault of reading

record ReadFault (ws : List Lexeme) (f : Fault) : Type 0 where
  front : List Lexeme
  word_there : Lexeme
  others : List Lexeme
  split : ws ≡ front ++ word_there ∷ others
  count : left_of f ≡ suc (length others)
  clean : (before behind : List Lexeme) (t : Lexeme) → front ≡ before ++ t ∷ behind → IsCleanSo IsProgram before t
  refused : IsRefusedAt front word_there (rule_of f) (limit_shown f)

of_syntax : (ws : List Lexeme) (i : ℕ) → IsSyntaxAt IsProgram ws i → ReadFault ws (Syntax i)
of_syntax ws i r = record { front = r.front; word_there = r.word_there; others = r.others; split = r.split; count = r.count; clean = r.clean; refused = syntax_fault (λ b. r.no_more (begins_so b)) }

of_limit : (ws : List Lexeme) (l : Limit) (i : ℕ) → IsLimitAt IsProgram ws l i → ReadFault ws (Passed l i)
of_limit ws l i r = record { front = r.front; word_there = r.word_there; others = r.others; split = r.split; count = r.count; clean = r.clean; refused = refused_limit r.begins r.passes r.alone }

read_fault : (ws : List Lexeme) (f : Fault) → program_in ws ≡ Err f → 1 ≤ left_of f → ReadFault ws f
read_fault ws (Syntax zero) e l = absurd (omega (arith, l))
read_fault ws (Syntax (suc i)) e l = of_syntax ws (suc i) (syntax_at IsProgram (whole_in tops_in) (first Tops) program_reader ws i e)
read_fault ws (Passed k zero) e l = absurd (omega (arith, l))
read_fault ws (Passed k (suc i)) e l = of_limit ws k (suc i) (limit_at IsProgram (whole_in tops_in) (first Tops) program_reader ws k i e)

-- ---- the first of all

-- the fault of reading, where no limit of words is passed before
read_first : (ws : List Lexeme) (f : Fault) (r : ReadFault ws f) → ((before behind : List Lexeme) (t : Lexeme) → r.front ≡ before ++ t ∷ behind → TokenClean before t) → IsFirstFault ws f
read_first ws f r k = record {
  front = r.front;
  word_there = r.word_there;
  others = r.others;
  split = r.split;
  clean = λ before behind t e. clean_of (r.clean before behind t e) (k before behind t e);
  refused = r.refused;
  place = place_there ws r.front r.word_there r.others (left_of f) r.split r.count;
}

-- a limit of words, where the grammar has nothing against the words up to it
token_first : (ws : List Lexeme) (l : Limit) (left : ℕ) (r : TokenLimitAt [] ws l left) → ((before behind : List Lexeme) (t : Lexeme) → r.front ≡ before ++ t ∷ behind → IsCleanSo IsProgram before t) → IsCleanSo IsProgram r.front r.word_there
    → IsFirstFault ws (Passed l left)
token_first ws l left r k c = record {
  front = r.front;
  word_there = r.word_there;
  others = r.others;
  split = r.split;
  clean = λ before behind t e. clean_of (k before behind t e) (r.clean before behind t e);
  refused = refused_token c r.passes;
  place = place_there ws r.front r.word_there r.others left r.split r.count;
}

lt_true : (a b : ℕ) → nat_lt a b ≡ true → a < b
lt_true a b h = grind arith

lt_false : (a b : ℕ) → nat_lt a b ≡ false → b ≤ a
lt_false a b h = grind arith

err_is : (f g : Fault) → ◌≡◌ {A = Answer (List Decl)} (Err f) (Err g) → f ≡ g
err_is f g e = cc

-- both faults: the earlier
both_first : (ws : List Lexeme) (l : Limit) (left : ℕ) (g : Fault) → TokenLimitAt [] ws l left → ReadFault ws g → (c : Bool) → nat_lt (left_of g) left ≡ c → (f : Fault) → ◌≡◌ {A = Answer (List Decl)} (if c then Err (Passed l left) else Err g) (Err f) → IsFirstFault ws f
both_first ws l left g r h true q f e =
    let less : length h.others < length r.others = (let a = lt_true (left_of g) left q in omega (arith, a, h.count, r.count)) in
    let i = inside_of r.front h.front r.word_there h.word_there r.others h.others (sym r.split ∙ h.split) less in
    subst (λ k. IsFirstFault ws k) (err_is (Passed l left) f e)
    (token_first ws l left r
    (λ before behind t p. h.clean before (behind ++ r.word_there ∷ i.rest) t (i.is ∙ ap (λ (v : List Lexeme). v ++ r.word_there ∷ i.rest) p ∙ append_assoc before (t ∷ behind) (r.word_there ∷ i.rest)))
    (h.clean r.front i.rest r.word_there i.is))
both_first ws l left g r h false q f e =
    let less : length r.others ≤ length h.others = (let a = lt_false (left_of g) left q in omega (arith, a, h.count, r.count)) in
    let i = prefix_of h.front r.front h.word_there r.word_there h.others r.others (sym h.split ∙ r.split) less in
    subst (λ k. IsFirstFault ws k) (err_is g f e)
    (read_first ws g h (λ before behind t p. r.clean before (behind ++ i.more) t (i.is ∙ ap (λ (v : List Lexeme). v ++ i.more) p ∙ append_assoc before (t ∷ behind) i.more)))

-- what is refused
pub refused_first : (ws : List Lexeme) (f : Fault) → ((g : Fault) → program_in ws ≡ Err g → 1 ≤ left_of g) → checked_in ws ≡ Err f → IsFirstFault ws f
unfolding checked_in
refused_first ws f there e = by_both (token_limit ws) (program_in ws) refl refl e
  where
    by_both : (o : Option (Limit × ℕ)) (r : Answer (List Decl)) → token_limit ws ≡ o → program_in ws ≡ r → earlier o r ≡ Err f → IsFirstFault ws f
    by_both None (Ok x) p q e = cc
    by_both None (Err g) p q e =
        let h = read_fault ws g q (there g q) in
        subst (λ k. IsFirstFault ws k) (err_is g f e)
        (read_first ws g h (λ before behind t i. token_clean ws p before (behind ++ h.word_there ∷ h.others) t (h.split ∙ ap (λ (v : List Lexeme). v ++ h.word_there ∷ h.others) i ∙ append_assoc before (t ∷ behind) (h.word_there ∷ h.others))))
    by_both (Some l) (Ok x) p q e =
        let r = token_limit_at ws l.0 l.1 p in
        let clean = all_clean IsProgram (whole_in tops_in) (first Tops) program_reader ws x q in
        subst (λ k. IsFirstFault ws k) (err_is (Passed l.0 l.1) f e)
        (token_first ws l.0 l.1 r
        (λ before behind t i. clean before (behind ++ r.word_there ∷ r.others) t (r.split ∙ ap (λ (v : List Lexeme). v ++ r.word_there ∷ r.others) i ∙ append_assoc before (t ∷ behind) (r.word_there ∷ r.others)))
        (clean r.front r.others r.word_there r.split))
    by_both (Some l) (Err g) p q e = both_first ws l.0 l.1 g (token_limit_at ws l.0 l.1 p) (read_fault ws g q (there g q)) (nat_lt (left_of g) l.1) refl f e

pub refused_there : (front : List Lexeme) (last : Lexeme) (f : Fault) → IsLast last.word → checked_in (front ++ last ∷ []) ≡ Err f → IsFirstFault (front ++ last ∷ []) f
refused_there front last f h e = refused_first (front ++ last ∷ []) f (λ g q. there g (fault_there front last g h q)) e
  where
    there : (g : Fault) → 1 ≤ count_of g → 1 ≤ left_of g
    there (Syntax i) l = l
    there (Passed k i) l = l

-- ---- what is read with all limits is clean

-- reading alone gave it, and no limit of words is passed
pub checked_reads : (ws : List Lexeme) (x : List Decl × List Lexeme) → checked_in ws ≡ Ok x → (program_in ws ≡ Ok x) × (token_limit ws ≡ None)
unfolding checked_in
checked_reads ws x e = by_both (token_limit ws) (program_in ws) refl refl e
  where
    by_less : (c : Bool) (a b : Fault) → ◌≡◌ {A = Answer (List Decl)} (if c then Err a else Err b) (Ok x) → ⊥
    by_less true a b e = cc
    by_less false a b e = cc

    by_both : (o : Option (Limit × ℕ)) (r : Answer (List Decl)) → token_limit ws ≡ o → program_in ws ≡ r → earlier o r ≡ Ok x → (program_in ws ≡ Ok x) × (token_limit ws ≡ None)
    by_both None (Ok y) p q e = (q ∙ e, p)
    by_both None (Err g) p q e = cc
    by_both (Some l) (Ok y) p q e = cc
    by_both (Some l) (Err g) p q e = absurd (by_less (nat_lt (left_of g) l.1) (Passed l.0 l.1) g e)

pub checked_clean : (ws : List Lexeme) (x : List Decl × List Lexeme) → checked_in ws ≡ Ok x → AreClean ws
checked_clean ws x e before behind t q =
    let r = checked_reads ws x e in
    clean_of (all_clean IsProgram (whole_in tops_in) (first Tops) program_reader ws x r.0 before behind t q) (token_clean ws r.1 before behind t q)

clean_not_refused : {front : List Lexeme} {t : Lexeme} {r : Rule} {l : Option Limit} → IsClean front t → IsRefusedAt front t r l → ⊥
clean_not_refused c (syntax_fault h) = h c.begins
clean_not_refused c (limit_passed {l} b p) = c.within l p.passes

pub checked_not_refused : (ws : List Lexeme) (x : List Decl × List Lexeme) → checked_in ws ≡ Ok x → (r : Rule) (at : Place) (l : Option Limit) → IsFirstRefused ws r at l → ⊥
checked_not_refused ws x e r at l h = clean_not_refused (checked_clean ws x e h.front h.others h.word_there h.split) h.refused

-- ---- words have one first refusal

abbrev limit_of_rank : ℕ → Limit
limit_of_rank zero = limit.Declarations
limit_of_rank (suc zero) = limit.Nesting
limit_of_rank (suc (suc zero)) = limit.Parameters
limit_of_rank (suc (suc (suc zero))) = limit.Locals
limit_of_rank (suc (suc (suc (suc zero)))) = limit.Atoms
limit_of_rank (suc (suc (suc (suc (suc zero))))) = limit.Masks
limit_of_rank (suc (suc (suc (suc (suc (suc zero)))))) = limit.Names
limit_of_rank (suc (suc (suc (suc (suc (suc (suc zero))))))) = limit.Entries
limit_of_rank (suc (suc (suc (suc (suc (suc (suc (suc n)))))))) = limit.Slots

rank_back : (l : Limit) → limit_of_rank (rank l) ≡ l
rank_back limit.Declarations = refl
rank_back limit.Nesting = refl
rank_back limit.Parameters = refl
rank_back limit.Locals = refl
rank_back limit.Atoms = refl
rank_back limit.Masks = refl
rank_back limit.Names = refl
rank_back limit.Entries = refl
rank_back limit.Slots = refl

rank_once : (l m : Limit) → rank l ≤ rank m → rank m ≤ rank l → l ≡ m
rank_once l m a b = let same : rank l ≡ rank m = omega (arith, a, b) in sym (rank_back l) ∙ ap limit_of_rank same ∙ rank_back m

at_one_word : {front : List Lexeme} {t : Lexeme} {r q : Rule} {l m : Option Limit} (at : Place) → IsRefusedAt front t r l → IsRefusedAt front t q m → SameRefusal r q at at l m
at_one_word at (syntax_fault h) (syntax_fault g) = record { rules = refl; places = refl; limits = refl }
at_one_word at (syntax_fault h) (limit_passed b p) = absurd (h b)
at_one_word at (limit_passed b p) (syntax_fault h) = absurd (h b)
at_one_word at (limit_passed {l} b p) (limit_passed {l = m} c q) = record { rules = refl; places = refl; limits = ap Some (rank_once l m (p.first m q.passes) (q.first l p.passes)) }

pub refused_once : (ws : List Lexeme) (r q : Rule) (at p : Place) (l m : Option Limit) → IsFirstRefused ws r at l → IsFirstRefused ws q p m → SameRefusal r q at p l m
refused_once ws r q at p l m g h = by_less (nat_lt (length h.others) (length g.others)) refl (nat_lt (length g.others) (length h.others)) refl
  where
    together : g.front ++ g.word_there ∷ g.others ≡ h.front ++ h.word_there ∷ h.others
    together = sym g.split ∙ h.split

    by_less : (c : Bool) → nat_lt (length h.others) (length g.others) ≡ c → (d : Bool) → nat_lt (length g.others) (length h.others) ≡ d → SameRefusal r q at p l m
    by_less true e d f =
        let i = inside_of g.front h.front g.word_there h.word_there g.others h.others together (lt_true (length h.others) (length g.others) e) in
        absurd (clean_not_refused (h.clean g.front i.rest g.word_there i.is) g.refused)
    by_less false e true f =
        let i = inside_of h.front g.front h.word_there g.word_there h.others g.others (sym together) (lt_true (length g.others) (length h.others) f) in
        absurd (clean_not_refused (g.clean h.front i.rest h.word_there i.is) h.refused)
    by_less false e false f =
        let a = lt_false (length h.others) (length g.others) e in
        let b = lt_false (length g.others) (length h.others) f in
        let equal : length g.others ≡ length h.others = omega (arith, a, b) in
        let s = same_of g.front h.front g.word_there h.word_there g.others h.others together equal in
        let there : IsRefusedAt h.front h.word_there r l = subst (λ (v : List Lexeme). IsRefusedAt v h.word_there r l) s.fronts (subst (λ (t : Lexeme). IsRefusedAt g.front t r l) s.words g.refused) in
        let one = at_one_word at there h.refused in
        record { rules = one.rules; places = g.place ∙ ap (λ (t : Lexeme). t.at) s.words ∙ sym h.place; limits = one.limits }
