-- The machine from one word to the next: where it stops, and that without limits it goes on. No nonterminal is named.
use Rattle.std.proofs.Common.{◌≡◌, ℕ, zero, suc, ◌≤◌, Bool, true, false, List, [], ◌∷◌, ◌++◌, length, Option, Some, None, refl, sym, ◌∙◌, ap, subst, length-append, arith}
use Rattle.jn_base.specs.declared.refusal.Limit.{Limit}
use Rattle.jn_base.specs.declared.word.Word.{Word}
use Rattle.jn_base.specs.declared.word.Lexeme.{Lexeme}
use Rattle.jn_base.specs.Spelling.{limit_of}
use Rattle.jn_grammar.specs.declared.fault.Fault.{Fault}
use Rattle.jn_grammar.specs.declared.fault.Fault.TheVariants.{Syntax, Passed}
use Rattle.jn_grammar.specs.Answers.{passed}
use Rattle.jn_grammar.specs.Expected.{Symbol, Act, Takes, Counts, Opens, Closes, Leaves, Ends, Finishes, Refuses, does, led, counts_by, step, State, Going, Done, Fails, read, ended, run}

-- one word from any state
abbrev pub next_state : Bool → State → Word → ℕ → State
next_state s (Going n expected) k left = step s expected n k left
next_state s Done k left = Fails (Syntax left)
next_state s (Fails f) k left = Fails f

pub read_fails : (s : Bool) (ts : List Lexeme) (f : Fault) → read s ts (Fails f) ≡ Fails f
read_fails s [] f = refl
read_fails s (t ∷ ts) f = refl

pub read_next : (s : Bool) (t : Lexeme) (ts : List Lexeme) (st : State) → read s (t ∷ ts) st ≡ read s ts (next_state s st t.word (suc (length ts)))
read_next s t ts (Going n expected) = refl
read_next s t ts Done = sym (read_fails s ts (Syntax (suc (length ts))))
read_next s t ts (Fails f) = sym (read_fails s ts f)

abbrev pub Alive : State → Type 0
Alive (Going n expected) = Unit {0}
Alive Done = Unit {0}
Alive (Fails f) = ⊥

abbrev pub count_of : Fault → ℕ
count_of (Syntax l) = l
count_of (Passed k l) = l

-- the fault with another count
abbrev pub counted_as : ℕ → Fault → Fault
counted_as l (Syntax i) = Syntax l
counted_as l (Passed k i) = Passed k l

-- The same step with another count of words, and a fault of it at its word.
Keep : ℕ → State → State → Type 0
Keep l (Going n expected) u = u ≡ Going n expected
Keep l Done u = u ≡ Done
Keep l (Fails f) u = u ≡ Fails (counted_as l f)

AtWord : ℕ → State → Type 0
AtWord l (Going n expected) = Unit {0}
AtWord l Done = Unit {0}
AtWord l (Fails f) = count_of f ≡ l

led_keep : (s : Bool) (a : Act) (n : ℕ) (below : List Symbol) (l l' : ℕ) (others others' : ℕ → State) → ((m : ℕ) → Keep l' (others m) (others' m)) → Keep l' (led s a n below l others) (led s a n below l' others')
unfolding Keep
led_keep s (Takes z) n below l l' o o' h = refl
led_keep s (Counts r z) n below l l' o o' h = by_limit (passed s r)
  where
    by_limit : (k : Option Limit) → Keep l' (counts_by k n (z ++ below) l) (counts_by k n (z ++ below) l')
    by_limit (Some k) = refl
    by_limit None = refl
led_keep s (Opens z) zero below l l' o o' h = refl
led_keep s (Opens z) (suc n) below l l' o o' h = refl
led_keep s (Closes z) n below l l' o o' h = refl
led_keep s Leaves n below l l' o o' h = h n
led_keep s Ends n below l l' o o' h = h (suc n)
led_keep s Finishes n below l l' o o' h = refl
led_keep s Refuses n below l l' o o' h = refl

step_keep : (s : Bool) (expected : List Symbol) (n : ℕ) (k : Word) (l l' : ℕ) → Keep l' (step s expected n k l) (step s expected n k l')
step_keep s [] n k l l' = unfold Keep in refl
step_keep s (x ∷ below) n k l l' = led_keep s (does x k) n below l l' (λ m. step s below m k l) (λ m. step s below m k l') (λ m. step_keep s below m k l l')

led_at : (s : Bool) (a : Act) (n : ℕ) (below : List Symbol) (l : ℕ) (others : ℕ → State) → ((m : ℕ) → AtWord l (others m)) → AtWord l (led s a n below l others)
unfolding AtWord
led_at s (Takes z) n below l o h = tt
led_at s (Counts r z) n below l o h = by_limit (passed s r)
  where
    by_limit : (k : Option Limit) → AtWord l (counts_by k n (z ++ below) l)
    by_limit (Some k) = refl
    by_limit None = tt
led_at s (Opens z) zero below l o h = refl
led_at s (Opens z) (suc n) below l o h = tt
led_at s (Closes z) n below l o h = tt
led_at s Leaves n below l o h = h n
led_at s Ends n below l o h = h (suc n)
led_at s Finishes n below l o h = tt
led_at s Refuses n below l o h = refl

step_at : (s : Bool) (expected : List Symbol) (n : ℕ) (k : Word) (l : ℕ) → AtWord l (step s expected n k l)
step_at s [] n k l = unfold AtWord in refl
step_at s (x ∷ below) n k l = led_at s (does x k) n below l (λ m. step s below m k l) (λ m. step_at s below m k l)

pub next_at : (s : Bool) (st : State) (k : Word) (l : ℕ) (f : Fault) → Alive st → next_state s st k l ≡ Fails f → count_of f ≡ l
unfolding AtWord
next_at s (Going n expected) k l f a q = subst (λ u. AtWord l u) q (step_at s expected n k l)
next_at s Done k l f a q = ap count_of (same_fault (Syntax l) f q)
  where
    same_fault : (f g : Fault) → ◌≡◌ {A = State} (Fails f) (Fails g) → g ≡ f
    same_fault f g e = cc
next_at s (Fails g) k l f a q = absurd a

pub next_going : (s : Bool) (st : State) (k : Word) (l l' m : ℕ) (expected : List Symbol) → next_state s st k l ≡ Going m expected → next_state s st k l' ≡ Going m expected
unfolding Keep
next_going s (Going n before) k l l' m expected q = subst (λ u. Keep l' u (step s before n k l')) q (step_keep s before n k l l')
next_going s Done k l l' m expected q = cc
next_going s (Fails f) k l l' m expected q = cc

pub next_done : (s : Bool) (st : State) (k : Word) (l l' : ℕ) → next_state s st k l ≡ Done → next_state s st k l' ≡ Done
unfolding Keep
next_done s (Going n before) k l l' q = subst (λ u. Keep l' u (step s before n k l')) q (step_keep s before n k l l')
next_done s Done k l l' q = cc
next_done s (Fails f) k l l' q = cc

same_fault : (f g : Fault) → ◌≡◌ {A = State} (Fails f) (Fails g) → f ≡ g
same_fault f g e = cc

pub next_stuck : (s : Bool) (st : State) (k : Word) (l l' : ℕ) (f : Fault) → Alive st → next_state s st k l ≡ Fails f → next_state s st k l' ≡ Fails (counted_as l' f)
unfolding Keep
next_stuck s (Going n before) k l l' f a q = subst (λ u. Keep l' u (step s before n k l')) q (step_keep s before n k l l')
next_stuck s Done k l l' f a q = ap (λ g. Fails (counted_as l' g)) (same_fault (Syntax l) f q)
next_stuck s (Fails g) k l l' f a q = absurd a

-- THE FIRST FAULT: before it the machine goes on or is done, and it stops at the word.
pub record Stops (s : Bool) (f : Fault) (st : State) (ts : List Lexeme) : Type 0 where
  pub front : List Lexeme
  pub at : Lexeme
  pub others : List Lexeme
  pub split : ts ≡ front ++ at ∷ others
  pub count : count_of f ≡ suc (length others)
  pub before : State
  pub comes : read s front st ≡ before
  pub alive : Alive before
  pub stuck : next_state s before at.word (suc (length others)) ≡ Fails f

not_going : (n : ℕ) (e : List Symbol) (f : Fault) → Fails (Syntax 0) ≡ Fails f → 1 ≤ count_of f → ⊥
not_going n e f q h = let c = ap count_of (same_fault (Syntax 0) f q) in omega (arith, c, h)

done_not : (f : Fault) → Done ≡ Fails f → ⊥
done_not f e = cc

pub stops : (s : Bool) (f : Fault) → 1 ≤ count_of f → (ts : List Lexeme) (st : State) → Alive st → run s ts st ≡ Fails f → Stops s f st ts
stops s f h [] (Going n expected) a e = absurd (not_going n expected f e h)
stops s f h [] Done a e = absurd (done_not f e)
stops s f h [] (Fails g) a e = absurd a
stops s f h (t ∷ ts) st a e = by_state (next_state s st t.word (suc (length ts))) refl (ap ended (sym (read_next s t ts st)) ∙ e) (λ u. stops s f h ts u)
  where
    shift : (u : State) → ((l' : ℕ) → next_state s st t.word l' ≡ u) → Stops s f u ts → Stops s f st (t ∷ ts)
    shift u q r = record {
      front = t ∷ r.front;
      at = r.at;
      others = r.others;
      split = ap (λ (v : List Lexeme). t ∷ v) r.split;
      count = r.count;
      before = r.before;
      comes = read_next s t r.front st ∙ ap (λ v. read s r.front v) (q (suc (length r.front))) ∙ r.comes;
      alive = r.alive;
      stuck = r.stuck;
    }

    by_state : (u : State) → next_state s st t.word (suc (length ts)) ≡ u → run s ts u ≡ Fails f → ((u : State) → Alive u → run s ts u ≡ Fails f → Stops s f u ts) → Stops s f st (t ∷ ts)
    by_state (Going m expected) q x r = shift (Going m expected) (λ l'. next_going s st t.word (suc (length ts)) l' m expected q) (r (Going m expected) tt x)
    by_state Done q x r = shift Done (λ l'. next_done s st t.word (suc (length ts)) l' q) (r Done tt x)
    by_state (Fails g) q x r =
        let same : g ≡ f = same_fault g f (ap ended (sym (read_fails s ts g)) ∙ x) in
        let q' : next_state s st t.word (suc (length ts)) ≡ Fails f = q ∙ ap Fails same in
        record { front = []; at = t; others = ts; split = refl; count = next_at s st t.word (suc (length ts)) f a q'; before = st; comes = refl; alive = a; stuck = q' }

-- reading on
pub read_on : (s : Bool) (a b : List Lexeme) (st u : State) → read s a st ≡ u → Alive u → read s (a ++ b) st ≡ read s b u
read_on s [] b st u q h = ap (λ v. read s b v) q
read_on s (t ∷ a) b st u q h = read_next s t (a ++ b) st ∙ by_state (next_state s st t.word (suc (length a))) refl (sym (read_next s t a st) ∙ q) (λ v. read_on s a b v u)
  where
    dead : (u : State) (f : Fault) → Alive u → u ≡ Fails f → ⊥
    dead u f h e = subst (λ v. Alive v) e h

    by_state : (v : State) → next_state s st t.word (suc (length a)) ≡ v → read s a v ≡ u → ((v : State) → read s a v ≡ u → Alive u → read s (a ++ b) v ≡ read s b u)
        → read s (a ++ b) (next_state s st t.word (suc (length (a ++ b)))) ≡ read s b u
    by_state (Going i e) q x r = ap (λ v. read s (a ++ b) v) (next_going s st t.word (suc (length a)) (suc (length (a ++ b))) i e q) ∙ r (Going i e) x h
    by_state Done q x r = ap (λ v. read s (a ++ b) v) (next_done s st t.word (suc (length a)) (suc (length (a ++ b))) q) ∙ r Done x h
    by_state (Fails f) q x r = absurd (dead u f h (sym x ∙ read_fails s a f))

-- where the machine stops with a word, it stops with whatever stands behind it
pub stops_with : (s : Bool) (front : List Lexeme) (t : Lexeme) (others : List Lexeme) (st before : State) (l : ℕ) (f : Fault) → read s front st ≡ before → Alive before → next_state s before t.word l ≡ Fails f
    → run s (front ++ t ∷ others) st ≡ Fails (counted_as (suc (length others)) f)
stops_with s front t others st before l f q a stuck =
    ap ended (read_on s front (t ∷ others) st before q a ∙ read_next s t others before ∙ ap (λ v. read s others v) (next_stuck s before t.word l (suc (length others)) f a stuck) ∙ read_fails s others (counted_as (suc (length others)) f))

-- a fault stands at one of the words
pub fault_within : (s : Bool) (ts : List Lexeme) (st : State) (f : Fault) → Alive st → run s ts st ≡ Fails f → count_of f ≤ length ts
fault_within s ts st f a e = by_count (count_of f) refl
  where
    of_stops : Stops s f st ts → count_of f ≤ length ts
    of_stops r = omega (arith, r.count, ap length r.split, length-append r.front (r.at ∷ r.others))

    by_count : (c : ℕ) → count_of f ≡ c → count_of f ≤ length ts
    by_count zero h = omega (arith, h)
    by_count (suc c) h = of_stops (let one : 1 ≤ count_of f = omega (arith, h) in stops s f one ts st a e)

-- WITHOUT LIMITS, and with two more that may open, it goes on with what passes a limit.
abbrev pub freed : State → State
freed (Going n expected) = Going (suc (suc n)) expected
freed Done = Done
freed (Fails f) = Fails f

-- it goes on, and one more may open
pub record IsRoomy (u : State) : Type 0 where
  pub left : ℕ
  pub expected : List Symbol
  pub is : u ≡ Going (suc left) expected

Free : State → State → Type 0
Free (Going n expected) u = u ≡ Going (suc (suc n)) expected
Free Done u = u ≡ Done
Free (Fails (Syntax i)) u = Unit {0}
Free (Fails (Passed k i)) u = IsRoomy u

led_free : (a : Act) (n : ℕ) (below : List Symbol) (l l' : ℕ) (others others' : ℕ → State) → ((m : ℕ) → Free (others m) (others' (suc (suc m)))) → Free (led true a n below l others) (led false a (suc (suc n)) below l' others')
unfolding Free
led_free (Takes z) n below l l' o o' h = refl
led_free (Counts r z) n below l l' o o' h = by_limit (limit_of r)
  where
    by_limit : (k : Option Limit) → Free (counts_by k n (z ++ below) l) (Going (suc (suc n)) (z ++ below))
    by_limit (Some k) = record { left = suc n; expected = z ++ below; is = refl }
    by_limit None = refl
led_free (Opens z) zero below l l' o o' h = record { left = 0; expected = z ++ below; is = refl }
led_free (Opens z) (suc n) below l l' o o' h = refl
led_free (Closes z) n below l l' o o' h = refl
led_free Leaves n below l l' o o' h = h n
led_free Ends n below l l' o o' h = h (suc n)
led_free Finishes n below l l' o o' h = refl
led_free Refuses n below l l' o o' h = tt

step_free : (expected : List Symbol) (n : ℕ) (k : Word) (l l' : ℕ) → Free (step true expected n k l) (step false expected (suc (suc n)) k l')
step_free [] n k l l' = unfold Free in tt
step_free (x ∷ below) n k l l' = led_free (does x k) n below l l' (λ m. step true below m k l) (λ m. step false below m k l') (λ m. step_free below m k l l')

pub next_free : (st : State) (k : Word) (l l' : ℕ) (u : State) → next_state true st k l ≡ u → Alive u → next_state false (freed st) k l' ≡ freed u
unfolding Free
next_free (Going n e) k l l' (Going m f) q a = subst (λ v. Free v (step false e (suc (suc n)) k l')) q (step_free e n k l l')
next_free (Going n e) k l l' Done q a = subst (λ v. Free v (step false e (suc (suc n)) k l')) q (step_free e n k l l')
next_free (Going n e) k l l' (Fails f) q a = absurd a
next_free Done k l l' (Going m f) q a = cc
next_free Done k l l' Done q a = cc
next_free Done k l l' (Fails f) q a = absurd a
next_free (Fails f) k l l' (Going m g) q a = cc
next_free (Fails f) k l l' Done q a = cc
next_free (Fails f) k l l' (Fails g) q a = absurd a

passed_not_syntax : (i : ℕ) (k : Limit) (j : ℕ) → ◌≡◌ {A = State} (Fails (Syntax i)) (Fails (Passed k j)) → ⊥
passed_not_syntax i k j e = cc

-- at a word that passes a limit
pub passed_free : (st : State) (w : Word) (l l' : ℕ) (k : Limit) (i : ℕ) → next_state true st w l ≡ Fails (Passed k i) → Alive st → IsRoomy (next_state false (freed st) w l')
unfolding Free
passed_free (Going n e) w l l' k i q a = subst (λ v. Free v (step false e (suc (suc n)) w l')) q (step_free e n w l l')
passed_free Done w l l' k i q a = absurd (passed_not_syntax l k i q)
passed_free (Fails f) w l l' k i q a = absurd a

pub read_free : (ts : List Lexeme) (st u : State) → read true ts st ≡ u → Alive u → read false ts (freed st) ≡ freed u
read_free [] st u q a = ap freed q
read_free (t ∷ ts) st u q a = read_next false t ts (freed st) ∙ by_state (next_state true st t.word (suc (length ts))) refl (sym (read_next true t ts st) ∙ q) (λ v. read_free ts v u)
  where
    dead : (u : State) (f : Fault) → Alive u → u ≡ Fails f → ⊥
    dead u f h e = subst (λ v. Alive v) e h

    by_state : (v : State) → next_state true st t.word (suc (length ts)) ≡ v → read true ts v ≡ u → ((v : State) → read true ts v ≡ u → Alive u → read false ts (freed v) ≡ freed u)
        → read false ts (next_state false (freed st) t.word (suc (length ts))) ≡ freed u
    by_state (Going m e) p x r = ap (λ w. read false ts w) (next_free st t.word (suc (length ts)) (suc (length ts)) (Going m e) p tt) ∙ r (Going m e) x a
    by_state Done p x r = ap (λ w. read false ts w) (next_free st t.word (suc (length ts)) (suc (length ts)) Done p tt) ∙ r Done x a
    by_state (Fails f) p x r = absurd (dead u f a (sym x ∙ read_fails true ts f))
