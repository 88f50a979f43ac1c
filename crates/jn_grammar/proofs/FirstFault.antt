-- THE PLACE OF A FAULT, once for all: from a reader, its grammar and its machine. No nonterminal is named.
use Rattle.std.proofs.Common.{◌≡◌, ℕ, suc, ◌+◌, ◌≤◌, Bool, true, false, List, [], ◌∷◌, ◌++◌, length, Option, Some, None, Ok, Err, refl, sym, ◌∙◌, ap, subst, append_assoc, length-append, arith}
use Rattle.jn_base.specs.declared.refusal.Limit.{Limit}
use Rattle.jn_base.specs.declared.word.Lexeme.{Lexeme}
use Rattle.jn_base.specs.Parts.{Part, lexeme_of}
use Rattle.jn_base.specs.Spelling.{limit_of}
use Rattle.jn_grammar.specs.declared.fault.Fault.{Fault}
use Rattle.jn_grammar.specs.declared.fault.Fault.TheVariants.{Syntax, Passed}
use Rattle.jn_grammar.specs.Begins.{lexemes}
use Rattle.jn_grammar.specs.Answers.{Answer}
use Rattle.jn_grammar.specs.Expected.{Symbol, State, Going, Done, Fails, read, ended, run}
use Rattle.jn_grammar.specs.Places.{IsSpelled, IsBegun, BeginsSo, PassesSo, IsCleanSo, IsSyntaxAt, IsLimitAt}
use Rattle.jn_grammar.proofs.Tools.{lexemes_append, length_lexemes}
use Rattle.jn_grammar.proofs.Meets.{met, meets}
use Rattle.jn_grammar.proofs.Steps.{next_state, read_next, read_fails, next_going, next_done, Alive, count_of, stops, read_on, stops_with, fault_within, freed, passed_free, read_free}

abbrev pub done_of : {A : Type 0} → Answer A → State
done_of (Ok x) = Done
done_of (Err f) = Fails f

ended_done : (u : State) → ended u ≡ Done → u ≡ Done
ended_done (Going n e) q = cc
ended_done Done q = refl
ended_done (Fails f) q = cc

-- what is expected can come
pub record IsEnded (m : ℕ) (expected : List Symbol) : Type 0 where
  pub finish : List Lexeme
  pub ends : run false finish (Going (suc m) expected) ≡ Done

-- What has to be known of the reader of whole inputs, and of what the machine expects at first.
pub record IsReader {A : Type 0} (Is : List Part → A → Type 0) (reader : Bool → ℕ → List Lexeme → Answer A) (first : List Symbol) : Type 0 where
  pub sound : (s : Bool) (n : ℕ) (ts : List Lexeme) (x : A × List Lexeme) → reader s n ts ≡ Ok x → IsSpelled Is ts x.0
  pub again : (parts : List Part) (x : A) → Is parts x → reader true 200 (lexemes parts) ≡ meets parts [] (Ok (x, []))
  pub does : (s : Bool) (n : ℕ) (ts : List Lexeme) → run s ts (Going n first) ≡ done_of (reader s n ts)
  pub goes_on : (front : List Lexeme) (n m : ℕ) (expected : List Symbol) → read false front (Going n first) ≡ Going (suc m) expected → IsEnded m expected

-- FACTS OF LISTS OF PARTS
pub record SplitParts (parts : List Part) (front others : List Lexeme) : Type 0 where
  pub before : List Part
  pub behind : List Part
  pub whole : parts ≡ before ++ behind
  pub first : lexemes before ≡ front
  pub last : lexemes behind ≡ others

head_is : (a b : Lexeme) (xs ys : List Lexeme) → a ∷ xs ≡ b ∷ ys → a ≡ b
head_is a b xs ys e = cc

tail_is : (a b : Lexeme) (xs ys : List Lexeme) → a ∷ xs ≡ b ∷ ys → xs ≡ ys
tail_is a b xs ys e = cc

nothing_is : (b : Lexeme) (ys : List Lexeme) → [] ≡ b ∷ ys → ⊥
nothing_is b ys e = cc

pub split_parts : (front others : List Lexeme) (parts : List Part) → lexemes parts ≡ front ++ others → SplitParts parts front others
split_parts [] others parts e = record { before = []; behind = parts; whole = refl; first = refl; last = e }
split_parts (t ∷ front) others [] e = absurd (nothing_is t (front ++ others) e)
split_parts (t ∷ front) others (p ∷ parts) e =
    let r = split_parts front others parts (tail_is (lexeme_of p) t (lexemes parts) (front ++ others) e) in
    record {
      before = p ∷ r.before;
      behind = r.behind;
      whole = ap (λ (v : List Part). p ∷ v) r.whole;
      first = ap (λ (x : Lexeme). x ∷ lexemes r.before) (head_is (lexeme_of p) t (lexemes parts) (front ++ others) e) ∙ ap (λ (v : List Lexeme). t ∷ v) r.first;
      last = r.last;
    }

-- WHAT MEETING A LIMIT SAYS
same_fault : (f g : Fault) → ◌≡◌ {A = State} (Fails f) (Fails g) → f ≡ g
same_fault f g e = cc

done_not : (f : Fault) → Done ≡ Fails f → ⊥
done_not f e = cc

passed_limit : (k l : Limit) (i j : ℕ) → ◌≡◌ {A = Fault} (Passed k i) (Passed l j) → k ≡ l
passed_limit k l i j e = cc

passed_not_syntax : (k : Limit) (i j : ℕ) → ◌≡◌ {A = Fault} (Passed k i) (Syntax j) → ⊥
passed_not_syntax k i j e = cc

-- it is no syntax fault
pub meets_no_syntax : {A : Type 0} (w : List Part) (v : List Lexeme) (x : A × List Lexeme) (l : ℕ) → done_of (meets w v (Ok x)) ≡ Fails (Syntax l) → ⊥
meets_no_syntax [] v x l e = done_not (Syntax l) e
meets_no_syntax (t ∷ w) v x l e = by_limit (limit_of t.role) e (meets_no_syntax w v x l)
  where
    by_limit : (k : Option Limit) → done_of (met k (suc (length w + length v)) (meets w v (Ok x))) ≡ Fails (Syntax l) → (done_of (meets w v (Ok x)) ≡ Fails (Syntax l) → ⊥) → ⊥
    by_limit (Some k) e h = passed_not_syntax k (suc (length w + length v)) l (same_fault (Passed k (suc (length w + length v))) (Syntax l) e)
    by_limit None e h = h e

-- it stands at one of the words
pub meets_within : {A : Type 0} (w : List Part) (v : List Lexeme) (x : A × List Lexeme) (f : Fault) → done_of (meets w v (Ok x)) ≡ Fails f → count_of f ≤ length w + length v
meets_within [] v x f e = absurd (done_not f e)
meets_within (t ∷ w) v x f e = by_limit (limit_of t.role) e (meets_within w v x f)
  where
    by_limit : (k : Option Limit) → done_of (met k (suc (length w + length v)) (meets w v (Ok x))) ≡ Fails f → (done_of (meets w v (Ok x)) ≡ Fails f → count_of f ≤ length w + length v) → count_of f ≤ suc (length w) + length v
    by_limit (Some k) e h = let c = ap count_of (same_fault (Passed k (suc (length w + length v))) f e) in omega (arith, c)
    by_limit None e h = let i = h e in omega (arith, i)

-- a fault with the count of a word is that word's limit
pub meets_at : {A : Type 0} (w : List Part) (p : Part) (u : List Part) (x : A × List Lexeme) (l : Limit) → done_of (meets (w ++ p ∷ u) [] (Ok x)) ≡ Fails (Passed l (suc (length u))) → limit_of p.role ≡ Some l
meets_at [] p u x l e = by_limit (limit_of p.role) e
  where
    by_limit : (k : Option Limit) → done_of (met k (suc (length u + 0)) (meets u [] (Ok x))) ≡ Fails (Passed l (suc (length u))) → k ≡ Some l
    by_limit (Some k) e = ap Some (passed_limit k l (suc (length u + 0)) (suc (length u)) (same_fault (Passed k (suc (length u + 0))) (Passed l (suc (length u))) e))
    by_limit None e = absurd (let h = meets_within u [] x (Passed l (suc (length u))) e in omega (arith, h))
meets_at (t ∷ w) p u x l e = by_limit (limit_of t.role) e (meets_at w p u x l)
  where
    by_limit : (k : Option Limit) → done_of (met k (suc (length (w ++ p ∷ u) + 0)) (meets (w ++ p ∷ u) [] (Ok x))) ≡ Fails (Passed l (suc (length u)))
        → (done_of (meets (w ++ p ∷ u) [] (Ok x)) ≡ Fails (Passed l (suc (length u))) → limit_of p.role ≡ Some l) → limit_of p.role ≡ Some l
    by_limit (Some k) e h = absurd (let c = ap count_of (same_fault (Passed k (suc (length (w ++ p ∷ u) + 0))) (Passed l (suc (length u))) e) in omega (arith, c, length-append w (p ∷ u)))
    by_limit None e h = h e

-- a word that passes a limit makes a fault, there or before
pub record IsStopped (s : State) (left : ℕ) : Type 0 where
  pub fault : Fault
  pub is : s ≡ Fails fault
  pub there : left ≤ count_of fault

pub meets_stops : {A : Type 0} (w : List Part) (p : Part) (u : List Part) (x : A × List Lexeme) (l : Limit) → limit_of p.role ≡ Some l → IsStopped (done_of (meets (w ++ p ∷ u) [] (Ok x))) (suc (length u))
meets_stops [] p u x l e = subst (λ k. IsStopped (done_of (met k (suc (length u + 0)) (meets u [] (Ok x)))) (suc (length u))) (sym e)
    (record { fault = Passed l (suc (length u + 0)); is = refl; there = omega arith })
meets_stops (t ∷ w) p u x l e = by_limit (limit_of t.role) (meets_stops w p u x l e)
  where
    by_limit : (k : Option Limit) → IsStopped (done_of (meets (w ++ p ∷ u) [] (Ok x))) (suc (length u)) → IsStopped (done_of (met k (suc (length (w ++ p ∷ u) + 0)) (meets (w ++ p ∷ u) [] (Ok x)))) (suc (length u))
    by_limit (Some k) r = record { fault = Passed k (suc (length (w ++ p ∷ u) + 0)); is = refl; there = omega (arith, length-append w (p ∷ u)) }
    by_limit None r = r

some_limit : (m k : Limit) → Some m ≡ Some k → m ≡ k
some_limit m k e = cc

one_at_least : (l : ℕ) → 1 ≤ suc l
one_at_least l = omega arith

alive_freed : (u : State) → Alive u → Alive (freed u)
alive_freed (Going n e) a = tt
alive_freed Done a = tt
alive_freed (Fails f) a = a

-- a beginning of what is read is read
pub alive_front : (a b : List Lexeme) (st : State) → Alive (read true (a ++ b) st) → Alive (read true a st)
alive_front [] b (Going n e) h = tt
alive_front [] b Done h = tt
alive_front [] [] (Fails f) h = h
alive_front [] (t ∷ b) (Fails f) h = h
alive_front (t ∷ a) b st h = by_state (next_state true st t.word (suc (length (a ++ b)))) refl (subst (λ (v : State). Alive v) (read_next true t (a ++ b) st) h) (λ u. alive_front a b u)
  where
    by_state : (u : State) → next_state true st t.word (suc (length (a ++ b))) ≡ u → Alive (read true (a ++ b) (next_state true st t.word (suc (length (a ++ b)))))
        → ((u : State) → Alive (read true (a ++ b) u) → Alive (read true a u)) → Alive (read true (t ∷ a) st)
    by_state (Going m e) q x r = subst (λ (v : State). Alive v) (sym (read_next true t a st ∙ ap (λ (v : State). read true a v) (next_going true st t.word (suc (length (a ++ b))) (suc (length a)) m e q))) (r (Going m e) (subst (λ (v : State). Alive (read true (a ++ b) v)) q x))
    by_state Done q x r = subst (λ (v : State). Alive v) (sym (read_next true t a st ∙ ap (λ (v : State). read true a v) (next_done true st t.word (suc (length (a ++ b))) (suc (length a)) q))) (r Done (subst (λ (v : State). Alive (read true (a ++ b) v)) q x))
    by_state (Fails f) q x r = absurd (subst (λ (v : State). Alive v) (ap (λ (v : State). read true (a ++ b) v) q ∙ read_fails true (a ++ b) f) x)

-- THE THEOREMS
module _ {A : Type 0} (Is : List Part → A → Type 0) (reader : Bool → ℕ → List Lexeme → Answer A) (first : List Symbol) (h : IsReader Is reader first) where
  -- a run that ends well has read an input
  pub done_begins : (front others : List Lexeme) → run false (front ++ others) (Going 202 first) ≡ Done → BeginsSo Is front
  done_begins front others q = by_answer (reader false 202 (front ++ others)) (λ x e. h.sound false 202 (front ++ others) x e) (sym (h.does false 202 (front ++ others)) ∙ q)
    where
      of_split : (parts : List Part) (x : A) → Is parts x → SplitParts parts front others → BeginsSo Is front
      of_split parts x i r = record { parts = r.before; are_words = r.first; begun = record { others = r.behind; tree = x; is = subst (λ (w : List Part). Is w x) r.whole i } }

      by_answer : (r : Answer A) → ((x : A × List Lexeme) → r ≡ Ok x → IsSpelled Is (front ++ others) x.0) → done_of r ≡ Done → BeginsSo Is front
      by_answer (Ok x) s e = let i = s x refl in of_split i.parts x.0 i.is (split_parts front others i.parts i.are_words)
      by_answer (Err f) s e = absurd (done_not f (sym e))

  -- what the machine has read begins an input, also without limits
  pub room_begins : (front : List Lexeme) (m : ℕ) (expected : List Symbol) → read false front (Going 202 first) ≡ Going (suc m) expected → BeginsSo Is front
  room_begins front m expected q = let z = h.goes_on front 202 m expected q in
      done_begins front z.finish (ap ended (read_on false front z.finish (Going 202 first) (Going (suc m) expected) q tt) ∙ z.ends)

  pub viable : (front : List Lexeme) (before : State) → read true front (Going 200 first) ≡ before → Alive before → BeginsSo Is front
  viable front (Going m expected) q a = room_begins front (suc m) expected (read_free front (Going 200 first) (Going m expected) q tt)
  viable front Done q a = done_begins front [] (ap ended (read_on false front [] (Going 202 first) Done (read_free front (Going 200 first) Done q tt) tt))
  viable front (Fails f) q a = absurd a

  -- the run over an input that begins so
  whole_run : (front : List Lexeme) (t : Lexeme) (ts : List Part) (p : Part) (others : List Part) (x : A) → lexemes ts ≡ front → lexeme_of p ≡ t → Is ((ts ++ p ∷ []) ++ others) x
      → run true (front ++ t ∷ lexemes others) (Going 200 first) ≡ done_of (meets (ts ++ p ∷ others) [] (Ok (x, [])))
  whole_run front t ts p others x a b i =
      let same : (ts ++ p ∷ []) ++ others ≡ ts ++ p ∷ others = append_assoc ts (p ∷ []) others in
      let words : lexemes (ts ++ p ∷ others) ≡ front ++ t ∷ lexemes others = lexemes_append ts (p ∷ others) ∙ ap (λ (v : List Lexeme). v ++ lexeme_of p ∷ lexemes others) a ∙ ap (λ (u : Lexeme). front ++ u ∷ lexemes others) b in
      ap (λ (v : List Lexeme). run true v (Going 200 first)) (sym words) ∙ h.does true 200 (lexemes (ts ++ p ∷ others)) ∙ ap done_of (h.again (ts ++ p ∷ others) x (subst (λ (w : List Part). Is w x) same i))

  -- the last word of an input's beginning
  pub record LastPart (front : List Lexeme) (t : Lexeme) : Type 0 where
    pub ts : List Part
    pub p : Part
    pub are_words : lexemes ts ≡ front
    pub is_word : lexeme_of p ≡ t
    pub begun : IsBegun Is (ts ++ p ∷ [])

  last_part : (front : List Lexeme) (t : Lexeme) → BeginsSo Is (front ++ t ∷ []) → LastPart front t
  last_part front t b = of_split b.parts b.begun (split_parts front (t ∷ []) b.parts b.are_words)
    where
      of_behind : (before behind : List Part) → lexemes before ≡ front → lexemes behind ≡ t ∷ [] → IsBegun Is (before ++ behind) → LastPart front t
      of_behind before [] a e g = absurd (nothing_is t [] e)
      of_behind before (p ∷ []) a e g = record { ts = before; p = p; are_words = a; is_word = head_is (lexeme_of p) t [] [] e; begun = g }
      of_behind before (p ∷ q ∷ u) a e g = absurd (nothing_is (lexeme_of q) (lexemes u) (sym (tail_is (lexeme_of p) t (lexeme_of q ∷ lexemes u) [] e)))

      of_split : (parts : List Part) → IsBegun Is parts → SplitParts parts front (t ∷ []) → LastPart front t
      of_split parts g r = of_behind r.before r.behind r.first r.last (subst (λ (w : List Part). IsBegun Is w) r.whole g)

  -- what it refuses does not
  pub not_viable : (front : List Lexeme) (t : Lexeme) (l i : ℕ) (before : State) → read true front (Going 200 first) ≡ before → Alive before → next_state true before t.word l ≡ Fails (Syntax i) → BeginsSo Is (front ++ t ∷ []) → ⊥
  not_viable front t l i before q a stuck b =
      let z = last_part front t b in
      let o : List Part = z.begun.others in
      meets_no_syntax (z.ts ++ z.p ∷ o) [] (z.begun.tree, []) (suc (length (lexemes o)))
      (sym (whole_run front t z.ts z.p o z.begun.tree z.are_words z.is_word z.begun.is) ∙ stops_with true front t (lexemes o) (Going 200 first) before l (Syntax i) q a stuck)

  -- where it meets a limit, that is the limit of the word
  pub limit_is : (front : List Lexeme) (t : Lexeme) (l i : ℕ) (k : Limit) (before : State) → read true front (Going 200 first) ≡ before → Alive before → next_state true before t.word l ≡ Fails (Passed k i)
      → (ts : List Part) (p : Part) → lexemes ts ≡ front → lexeme_of p ≡ t → IsBegun Is (ts ++ p ∷ []) → limit_of p.role ≡ Some k
  limit_is front t l i k before q a stuck ts p b c g =
      let o : List Part = g.others in
      let e = sym (whole_run front t ts p o g.tree b c g.is) ∙ stops_with true front t (lexemes o) (Going 200 first) before l (Passed k i) q a stuck in
      meets_at ts p o (g.tree, []) k (e ∙ ap (λ j. Fails (Passed k (suc j))) (length_lexemes o))

  -- a word that is read passes no limit
  pub none_passed : (front : List Lexeme) (t : Lexeme) (u : State) → read true (front ++ t ∷ []) (Going 200 first) ≡ u → Alive u → (l : Limit) → PassesSo Is front t l → ⊥
  none_passed front t u q a l g =
      let o : List Part = g.begun.others in
      let r = meets_stops g.before g.part o (g.begun.tree, []) l g.limit in
      let e : run true (front ++ t ∷ lexemes o) (Going 200 first) ≡ Fails r.fault = whole_run front t g.before g.part o g.begun.tree g.are_words g.is_word g.begun.is ∙ r.is in
      let on : run true (lexemes o) u ≡ Fails r.fault = sym (ap ended (ap (λ (v : List Lexeme). read true v (Going 200 first)) (sym (append_assoc front (t ∷ []) (lexemes o))) ∙ read_on true (front ++ t ∷ []) (lexemes o) (Going 200 first) u q a)) ∙ e in
      let c = fault_within true (lexemes o) u r.fault a on in
      let there = r.there in
      omega (arith, c, there, length_lexemes o)

  -- all that is read is clean
  pub clean_of : (front : List Lexeme) (u : State) → read true front (Going 200 first) ≡ u → Alive u → (before behind : List Lexeme) (t : Lexeme) → front ≡ before ++ t ∷ behind → IsCleanSo Is before t
  clean_of front u q a before behind t e =
      let whole : (before ++ t ∷ []) ++ behind ≡ front = append_assoc before (t ∷ []) behind ∙ sym e in
      let living : Alive (read true (before ++ t ∷ []) (Going 200 first)) = alive_front (before ++ t ∷ []) behind (Going 200 first) (subst (λ (v : State). Alive v) (sym (ap (λ (w : List Lexeme). read true w (Going 200 first)) whole ∙ q)) a) in
      record {
        begins = viable (before ++ t ∷ []) (read true (before ++ t ∷ []) (Going 200 first)) refl living;
        within = none_passed before t (read true (before ++ t ∷ []) (Going 200 first)) refl living;
      }

  -- where an input is read, each word is clean
  pub all_clean : (ws : List Lexeme) (x : A × List Lexeme) → reader true 200 ws ≡ Ok x → (before behind : List Lexeme) (t : Lexeme) → ws ≡ before ++ t ∷ behind → IsCleanSo Is before t
  all_clean ws x e = clean_of ws Done (ended_done (read true ws (Going 200 first)) (h.does true 200 ws ∙ ap done_of e)) tt

  -- THE PLACE OF A SYNTAX FAULT
  pub syntax_at : (ws : List Lexeme) (l : ℕ) → reader true 200 ws ≡ Err (Syntax (suc l)) → IsSyntaxAt Is ws (suc l)
  syntax_at ws l e =
      let st = stops true (Syntax (suc l)) (one_at_least l) ws (Going 200 first) tt (h.does true 200 ws ∙ ap done_of e) in
      record {
        front = st.front;
        word_there = st.at;
        others = st.others;
        split = st.split;
        count = st.count;
        clean = clean_of st.front st.before st.comes st.alive;
        no_more = not_viable st.front st.at (suc (length st.others)) (suc l) st.before st.comes st.alive st.stuck;
      }

  -- THE PLACE OF A LIMIT
  passed_begins : (front : List Lexeme) (t : Lexeme) (l i : ℕ) (k : Limit) (before : State) → read true front (Going 200 first) ≡ before → Alive before → next_state true before t.word l ≡ Fails (Passed k i) → BeginsSo Is (front ++ t ∷ [])
  passed_begins front t l i k before q a stuck =
      let r = passed_free before t.word l 1 k i stuck a in
      room_begins (front ++ t ∷ []) r.left r.expected
      (read_on false front (t ∷ []) (Going 202 first) (freed before) (read_free front (Going 200 first) before q a) (alive_freed before a) ∙ read_next false t [] (freed before) ∙ r.is)

  passes_of : (front : List Lexeme) (t : Lexeme) (k : Limit) → ((ts : List Part) (p : Part) → lexemes ts ≡ front → lexeme_of p ≡ t → IsBegun Is (ts ++ p ∷ []) → limit_of p.role ≡ Some k) → LastPart front t → PassesSo Is front t k
  passes_of front t k f z = record { before = z.ts; part = z.p; are_words = z.are_words; is_word = z.is_word; begun = z.begun; limit = f z.ts z.p z.are_words z.is_word z.begun }

  pub limit_at : (ws : List Lexeme) (k : Limit) (l : ℕ) → reader true 200 ws ≡ Err (Passed k (suc l)) → IsLimitAt Is ws k (suc l)
  limit_at ws k l e =
      let st = stops true (Passed k (suc l)) (one_at_least l) ws (Going 200 first) tt (h.does true 200 ws ∙ ap done_of e) in
      let is = limit_is st.front st.at (suc (length st.others)) (suc l) k st.before st.comes st.alive st.stuck in
      let begins = passed_begins st.front st.at (suc (length st.others)) (suc l) k st.before st.comes st.alive st.stuck in
      record {
        front = st.front;
        word_there = st.at;
        others = st.others;
        split = st.split;
        count = st.count;
        clean = clean_of st.front st.before st.comes st.alive;
        begins = begins;
        passes = passes_of st.front st.at k is (last_part st.front st.at begins);
        alone = λ m g. some_limit m k (sym g.limit ∙ is g.before g.part g.are_words g.is_word g.begun);
      }
