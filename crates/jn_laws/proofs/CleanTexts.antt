-- In a text that no limit refuses each word is within the limits.
use Rattle.std.proofs.Common.{◌≡◌, ◌<◌, ◌≤◌, ◌+◌, Bool, true, false, ℕ, suc, List, [], ◌∷◌, ◌++◌, length, map, refl, sym, ap, ◌∙◌, subst, ◌⊎◌, inl, inr, arith, Contains, Some, None, append_assoc, length-append}
use Rattle.std.specs.declared.cmp.Ordering.TheVariants.{Less}
use Rattle.std.specs.Ordering.{nat_cmp, on}
use Rattle.std.specs.Cmp.{nat_cmp_is, nat_cmp_total, on_total}
use Rattle.std.specs.Prelude.{nat_lt, if◌then◌else◌, Option}
use Rattle.std.specs.List.{filter_map, cons_option}
use Rattle.std.proofs.lemmas.Bool.{ltb-true, ltb-false}
use Rattle.std.proofs.lemmas.List.{map-append}
use Rattle.jn_base.specs.declared.tree.Name.{Name}
use Rattle.jn_base.specs.declared.tree.Param.{Param}
use Rattle.jn_base.specs.declared.tree.Method.{Method}
use Rattle.jn_base.specs.declared.tree.Program.{Program}
use Rattle.jn_base.specs.declared.refusal.Limit.{Limit}
use Rattle.jn_base.specs.declared.refusal.Limit.TheVariants as limit
use Rattle.jn_base.specs.declared.word.Lexeme.{Lexeme}
use Rattle.jn_base.specs.Parts.{Part, Parameter, lexeme_of, new_name, mark}
use Rattle.jn_base.specs.declared.word.Mark.TheVariants.{Comma}
use Rattle.jn_base.specs.Limits.{greatest}
use Rattle.jn_base.specs.Words.{name_number, AreByMention, last_word}
use Rattle.jn_base.specs.Words as mention
use Rattle.jn_base.specs.Paths.{Path}
use Rattle.jn_base.specs.Universe.{InUniverse}
use Rattle.jn_base.specs.Members.{MethodAt}
use Rattle.jn_base.specs.Atoms.{Among, first, later}
use Rattle.jn_base.specs.GrammarDecl.{IsParam, param, IsMoreParams, no_more_param, then_param, IsParams, no_param, params, IsProgram}
use Rattle.jn_base.specs.Spelling.{Begins, Passes, counted, rank, limit_of, IsFirstPassed, IsClean, limit_passed, too_long, word_refused, IsTextOf, greatest_source, names}
use Rattle.jn_base.proofs.NameTests.{first as first_part}
use Rattle.jn_base.proofs.Reaching.{universe_depth}
use Rattle.jn_sem.proofs.FindingLaws.{among_of}
use Rattle.std.proofs.lemmas.List.Elements.{Contains-append_left, Contains-append_right}
use Rattle.jn_laws.specs.Surely.{Surely}
use Rattle.jn_laws.specs.LawsOfSources.{TextsKeepLimits, TextsNameFew}
use Rattle.jn_laws.proofs.Sures.{map_surely}
use Rattle.jn_laws.proofs.Lists.{chosen, Chosen}
use Rattle.jn_laws.proofs.Firsts.{first_by}
use Rattle.jn_laws.proofs.SpelledForms.{Within, MethodIn, declared_at, method_formed}

-- ---- of the limits that a word passes, one is the first

all_limits : List Limit
all_limits = limit.Declarations ∷ limit.Nesting ∷ limit.Parameters ∷ limit.Locals ∷ limit.Atoms ∷ limit.Masks ∷ limit.Names ∷ limit.Entries ∷ limit.Slots ∷ []

every_limit : (l : Limit) → Among all_limits l
unfolding all_limits
every_limit limit.Declarations = first
every_limit limit.Nesting = later first
every_limit limit.Parameters = later (later first)
every_limit limit.Locals = later (later (later first))
every_limit limit.Atoms = later (later (later (later first)))
every_limit limit.Masks = later (later (later (later (later first))))
every_limit limit.Names = later (later (later (later (later (later first)))))
every_limit limit.Entries = later (later (later (later (later (later (later first))))))
every_limit limit.Slots = later (later (later (later (later (later (later (later first)))))))

below_is : (a b : ℕ) → a < b → nat_cmp a b ≡ Less
below_is a b l = sym (nat_cmp_is a b Less l)

first_passed : (front : List Lexeme) (t : Lexeme) (l : Limit) → Passes front t l → Surely ((m : Limit) × IsFirstPassed front t m)
first_passed front t l h = map_surely (chosen (Passes front t) all_limits) (λ c. at c c.items refl (c.all l (every_limit l) h)) where
  at : (c : Chosen (Passes front t) all_limits) (ls : List Limit) → c.items ≡ ls → Among ls l → (m : Limit) × IsFirstPassed front t m
  at c [] e m = elim m [ ]
  at c (k ∷ ls) e m =
      let r = first_by (on rank nat_cmp) (on_total rank nat_cmp_total) k ls in (
        r.0,
        record {
          passes = c.holds r.0 (subst (λ (xs : List Limit). Among xs r.0) (sym e) r.1.among);
          first = λ n q. not_below r.0 n (λ b. r.1.none n (subst (λ (xs : List Limit). Among xs n) e (c.all n (every_limit n) q)) (below_is (rank n) (rank r.0) b));
        },
      ) where
        not_below : (a b : Limit) → (rank b < rank a → ⊥) → rank a ≤ rank b
        not_below a b no_less = by (nat_lt (rank b) (rank a)) refl where
          by : (t : Bool) → nat_lt (rank b) (rank a) ≡ t → rank a ≤ rank b
          by true e = absurd (no_less (ltb-true (rank b) (rank a) e))
          by false e = omega (arith, ltb-false (rank b) (rank a) e)

-- ---- each word of the text is clean

module _ (p : Program) (bytes : List ℕ) (text : IsTextOf p bytes) where
  short : length bytes ≤ greatest_source
  short = by (nat_lt greatest_source (length bytes)) refl where
    by : (t : Bool) → nat_lt greatest_source (length bytes) ≡ t → length bytes ≤ greatest_source
    by true e = absurd (text.not_refused _ (too_long (ltb-true greatest_source (length bytes) e)))
    by false e = omega (arith, ltb-false greatest_source (length bytes) e)

  AllClean : List Lexeme → Type 0
  AllClean ws = (before behind : List Lexeme) (t : Lexeme) → ws ≡ before ++ t ∷ behind → IsClean before t

  no_limit : (done rest : List Part) (t : Part) → text.spelled.parts ≡ done ++ t ∷ rest → AllClean (map lexeme_of done) → Begins (map lexeme_of done ++ lexeme_of t ∷ [])
      → (l : Limit) → Passes (map lexeme_of done) (lexeme_of t) l → ⊥
  unfolding AllClean
  no_limit done rest t e clean b l h = first_passed (map lexeme_of done) (lexeme_of t) l h (λ m. text.not_refused _ (word_refused p.names p.texts short text.spelled.are_words (record {
    front = map lexeme_of done;
    word_there = lexeme_of t;
    others = map lexeme_of rest;
    split = ap (map lexeme_of) e ∙ map-append lexeme_of done (t ∷ rest);
    clean = clean;
    refused = limit_passed b m.1;
    place = refl;
  })))

  begins_there : (done rest : List Part) (t : Part) → text.spelled.parts ≡ done ++ t ∷ rest → Begins (map lexeme_of done ++ lexeme_of t ∷ [])
  begins_there done rest t e = record {
    parts = done ++ t ∷ [];
    are_words = map-append lexeme_of done (t ∷ []);
    begins = record { others = rest; decls = p.decls; is_program = subst (λ (w : List Part). IsProgram w p.decls) (e ∙ sym (append_assoc done (t ∷ []) rest)) text.spelled.is_program };
  }

  -- a split of a list with one more element at its end
  split_more : (xs : List Lexeme) (x : Lexeme) (before behind : List Lexeme) (t : Lexeme) → xs ++ x ∷ [] ≡ before ++ t ∷ behind
      → ((before ≡ xs) × (t ≡ x)) ⊎ ((rest : List Lexeme) × (xs ≡ before ++ t ∷ rest))
  split_more [] x [] behind t e = inl (refl, head x t [] behind e) where
    head : (x t : Lexeme) (us vs : List Lexeme) → x ∷ us ≡ t ∷ vs → t ≡ x
    head x t us vs e = cc
  split_more [] x (y ∷ before) behind t e = absurd (omega (arith, ap length e, length-append before (t ∷ behind)))
  split_more (z ∷ xs) x [] behind t e = inr (xs, same z t (xs ++ x ∷ []) behind e) where
    same : (z t : Lexeme) (us vs : List Lexeme) → z ∷ us ≡ t ∷ vs → z ∷ xs ≡ t ∷ xs
    same z t us vs e = cc
  split_more (z ∷ xs) x (y ∷ before) behind t e = at (split_more xs x before behind t (tail z y (xs ++ x ∷ []) (before ++ t ∷ behind) e)) where
    tail : (z y : Lexeme) (us vs : List Lexeme) → z ∷ us ≡ y ∷ vs → us ≡ vs
    tail z y us vs e = cc

    head : (z y : Lexeme) (us vs : List Lexeme) → z ∷ us ≡ y ∷ vs → z ≡ y
    head z y us vs e = cc

    at : ((before ≡ xs) × (t ≡ x)) ⊎ ((rest : List Lexeme) × (xs ≡ before ++ t ∷ rest)) → ((y ∷ before ≡ z ∷ xs) × (t ≡ x)) ⊎ ((rest : List Lexeme) × (z ∷ xs ≡ (y ∷ before) ++ t ∷ rest))
    at (inl b) = let h = head z y (xs ++ x ∷ []) (before ++ t ∷ behind) e in inl (cc (h, b.0), b.1)
    at (inr r) = let h = head z y (xs ++ x ∷ []) (before ++ t ∷ behind) e in inr (r.0, cc (h, r.1))

  clean_more : (done rest : List Part) (t : Part) → text.spelled.parts ≡ done ++ t ∷ rest → AllClean (map lexeme_of done) → AllClean (map lexeme_of (done ++ t ∷ []))
  unfolding AllClean
  clean_more done rest t e clean before behind w i = at (split_more (map lexeme_of done) (lexeme_of t) before behind w (sym (map-append lexeme_of done (t ∷ [])) ∙ i)) where
    at : ((before ≡ map lexeme_of done) × (w ≡ lexeme_of t)) ⊎ ((others : List Lexeme) × (map lexeme_of done ≡ before ++ w ∷ others)) → IsClean before w
    at (inl b) =
        let begins = begins_there done rest t e in
        subst (λ (u : Lexeme). IsClean before u) (sym b.1)
        (subst (λ (u : List Lexeme). IsClean u (lexeme_of t)) (sym b.0) (record { begins = begins; within = no_limit done rest t e clean begins }))
    at (inr r) = clean before r.0 w r.1

  -- so no word passes a limit
  within_all : (done rest : List Part) → text.spelled.parts ≡ done ++ rest → AllClean (map lexeme_of done) → (t : Part) → Among rest t → (l : Limit) → limit_of t.role ≡ Some l → ⊥
  within_all done _ e clean t (first {xs = rest}) l i =
      let begins = begins_there done rest t e in
      no_limit done rest t e clean begins l
      (counted done t refl refl (record { others = rest; decls = p.decls; is_program = subst (λ (w : List Part). IsProgram w p.decls) (e ∙ sym (append_assoc done (t ∷ []) rest)) text.spelled.is_program }) i)
  within_all done _ e clean t (later {y = s} {xs = rest} m) l i =
      within_all (done ++ s ∷ []) rest (e ∙ sym (append_assoc done (s ∷ []) rest)) (clean_more done rest s e clean) t m l i

  -- and each name has a number below the limit
  named_all : (done rest : List Part) → text.spelled.parts ≡ done ++ rest → AllClean (map lexeme_of done) → (w : Lexeme) → Among (map lexeme_of rest) w
      → (n : ℕ) → name_number w.word ≡ Some n → greatest limit.Names ≤ n → ⊥
  named_all done [] e clean w m n i le = elim m [ ]
  named_all done (t ∷ rest) e clean _ first n i le = no_limit done rest t e clean (begins_there done rest t e) limit.Names (names n i le)
  named_all done (t ∷ rest) e clean w (later m) n i le =
      named_all (done ++ t ∷ []) rest (e ∙ sym (append_assoc done (t ∷ []) rest)) (clean_more done rest t e clean) w m n i le

  names_below : (w : Lexeme) → Among (map lexeme_of text.spelled.parts) w → (n : ℕ) → name_number w.word ≡ Some n → n < 65535
  unfolding AllClean
  names_below w m n i = by (nat_lt n 65535) refl where
    nothing : (before behind : List Lexeme) (w : Lexeme) → [] ≡ before ++ w ∷ behind → ⊥
    nothing before behind w i = omega (arith, ap length i, length-append before (w ∷ behind))

    by : (t : Bool) → nat_lt n 65535 ≡ t → n < 65535
    by true e = ltb-true n 65535 e
    by false e = absurd (named_all [] text.spelled.parts refl (λ before behind w i. absurd (nothing before behind w i)) w m n i
        (omega (arith, ltb-false n 65535 e)))

  pub within_limits : (t : Part) → Contains text.spelled.parts t → (l : Limit) → limit_of t.role ≡ Some l → ⊥
  unfolding AllClean
  within_limits t c l e = within_all [] text.spelled.parts refl (λ before behind w i. absurd (nothing before behind w i)) t (among_of text.spelled.parts t c) l e where
    nothing : (before behind : List Lexeme) (w : Lexeme) → [] ≡ before ++ w ∷ behind → ⊥
    nothing before behind w i = omega (arith, ap length i, length-append before (w ∷ behind))

-- ---- names by mention

-- the numbers of the names of the words
numbered : List Lexeme → List ℕ
numbered = filter_map (λ (w : Lexeme). name_number w.word)

-- Where all numbers are below a bound, no more are mentioned.
mentioned_few : (k : ℕ) (ws : List Lexeme) (a b : ℕ) → AreByMention a (numbered ws) b
    → ((w : Lexeme) → Among ws w → (n : ℕ) → name_number w.word ≡ Some n → n < k) → a ≤ k → b ≤ k
unfolding numbered
mentioned_few k [] a _ mention.all_mentioned below le = le
mentioned_few k (w ∷ ws) a b m below le = by (name_number w.word) refl m (λ c more few. mentioned_few k ws c b more (λ v i. below v (later i)) few) where
  by_number : (n : ℕ) → name_number w.word ≡ Some n → AreByMention a (n ∷ numbered ws) b
      → ((c : ℕ) → AreByMention c (numbered ws) b → c ≤ k → b ≤ k) → b ≤ k
  by_number n e (mention.again less more) others = others a more le
  by_number _ e (mention.first more) others = others (a + 1) more (omega (arith, below w first a e))

  by : (o : Option ℕ) → name_number w.word ≡ o → AreByMention a (cons_option o (numbered ws)) b
      → ((c : ℕ) → AreByMention c (numbered ws) b → c ≤ k → b ≤ k) → b ≤ k
  by (Some n) e m others = by_number n e m others
  by None e m others = others a m le

among_left : (xs ys : List Lexeme) (w : Lexeme) → Among xs w → Among (xs ++ ys) w
among_left [] ys w m = elim m [ ]
among_left (x ∷ xs) ys _ first = first
among_left (x ∷ xs) ys w (later m) = later (among_left xs ys w m)

pub texts_name_few : TextsNameFew
unfolding numbered
texts_name_few p bytes text =
    let are = text.spelled.are_words in
    mentioned_few 65535 are.words 0 (length p.names) are.names_numbered.by_mention
    (λ w m n e. names_below p bytes text w
    (subst (λ (ws : List Lexeme). Among ws w) (sym are.whole) (among_left are.words (last_word bytes are.fault ∷ []) w m)) n e)
    (omega arith)

-- ---- numbers

over : (m n : ℕ) (l : Limit) → m < n → (if nat_lt m n then Some l else None) ≡ Some l
over m n l h = by (nat_lt m n) refl where
  by : (t : Bool) → nat_lt m n ≡ t → (if t then Some l else None) ≡ Some l
  by true e = refl
  by false e = absurd (omega (arith, h, ltb-false m n e))

pub at_most : (m n : ℕ) (l : Limit) → ((if nat_lt m n then Some l else None) ≡ Some l → ⊥) → n ≤ m
at_most m n l h = by (nat_lt m n) refl where
  by : (t : Bool) → nat_lt m n ≡ t → n ≤ m
  by true e = absurd (h (over m n l (ltb-true m n e)))
  by false e = omega (arith, ltb-false m n e)

-- the last parameter counts them all
pub record Counted (w : List Part) (k : ℕ) : Type 0 where
  pub part : Part
  pub among : Contains w part
  pub role : part.role ≡ Parameter k

param_counted : (d k : ℕ) (w : List Part) (x : Param) → IsParam d k w x → Counted w k
param_counted d k _ _ (param {x = x} p {u = u} {v = v} f i) = record {
  part = new_name (Parameter k) x p;
  among = Contains-append_right u (v ++ new_name (Parameter k) x p ∷ []) _ (Contains-append_right v (new_name (Parameter k) x p ∷ []) _ (first_part (new_name (Parameter k) x p) []));
  role = refl;
}

counted_left : (u v : List Part) (k : ℕ) → Counted u k → Counted (u ++ v) k
counted_left u v k c = record { part = c.part; among = Contains-append_left u v c.part c.among; role = c.role }

counted_right : (u v : List Part) (k : ℕ) → Counted v k → Counted (u ++ v) k
counted_right u v k c = record { part = c.part; among = Contains-append_right u v c.part c.among; role = c.role }

some_or_none : (xs : List Param) → (0 < length xs) ⊎ (length xs ≡ 0)
some_or_none [] = inr refl
some_or_none (x ∷ xs) = inl (omega arith)

more_counted : (d k : ℕ) (w : List Part) (xs : List Param) → IsMoreParams d (suc k) w xs → 0 < length xs → Counted w (k + length xs)
more_counted d k _ _ no_more_param l = absurd (omega (arith, l))
more_counted d k _ _ (then_param {o = o} {v = v} {w = w} {t = t} {ts = ts} i more) l = at (some_or_none ts) (more_counted d (suc k) w ts more) where
  at : (0 < length ts) ⊎ (length ts ≡ 0) → (0 < length ts → Counted w (suc k + length ts)) → Counted (mark Comma o ∷ (v ++ w)) (k + suc (length ts))
  at (inl n) again =
      subst (Counted (mark Comma o ∷ (v ++ w))) (omega arith) (counted_right (mark Comma o ∷ []) (v ++ w) _ (counted_right v w _ (again n)))
  at (inr e) again =
      subst (Counted (mark Comma o ∷ (v ++ w))) (omega (arith, e)) (counted_right (mark Comma o ∷ []) (v ++ w) _ (counted_left v w _ (param_counted d (suc k) v t i)))

params_counted : (d : ℕ) (w : List Part) (xs : List Param) → IsParams d w xs → 0 < length xs → Counted w (length xs)
params_counted d _ _ no_param l = absurd (omega (arith, l))
params_counted d _ _ (params {v = v} {w = w} {t = t} {ts = ts} i more) l = at (some_or_none ts) where
  at : (0 < length ts) ⊎ (length ts ≡ 0) → Counted (v ++ w) (suc (length ts))
  at (inl n) = counted_right v w _ (subst (Counted w) (omega arith) (more_counted d 1 w ts more n))
  at (inr e) = subst (Counted (v ++ w)) (omega (arith, e)) (counted_left v w _ (param_counted d 1 v t i))

pub texts_keep_limits : TextsKeepLimits
unfolding Within
texts_keep_limits p bytes text = record { depth = depth; params = params_few } where
  depth : (R : Path) → InUniverse p R → length R ≤ 8
  depth R u =
      let d = universe_depth p R u in
      let n = declared_at p text.spelled.parts text.spelled.is_program d.path d.declared.decl d.declared.stands in
      let few = at_most 8 (length d.path) limit.Declarations (λ e. within_limits p bytes text n.name_part n.name_in limit.Declarations (ap limit_of n.name_role ∙ e)) in
      omega (arith, few, d.long)

  params_few : (Q : Path) (m : Name) (x : Method) → MethodAt p Q m x → length x.params ≤ 15
  params_few Q m x at = by (some_or_none x.params) where
    f : MethodIn text.spelled.parts x
    f = method_formed p text.spelled.parts text.spelled.is_program Q m x at

    by : (0 < length x.params) ⊎ (length x.params ≡ 0) → length x.params ≤ 15
    by (inl n) =
        let c = params_counted (suc f.formed.around) f.formed.param_words x.params f.formed.params n in
        at_most 15 (length x.params) limit.Parameters (λ e. within_limits p bytes text c.part (f.within c.part c.among) limit.Parameters (ap limit_of c.role ∙ e))
    by (inr e) = omega (arith, e)
