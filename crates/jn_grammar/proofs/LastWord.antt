-- The end of the file and what is no word are taken by nothing: no fault stands behind them.
use Rattle.std.proofs.Common.{◌≡◌, ◌⊎◌, inl, inr, ℕ, suc, ◌≤◌, Bool, true, List, [], ◌∷◌, ◌++◌, length, Err, refl, sym, ◌∙◌, ap, subst, arith}
use Rattle.jn_base.specs.declared.tree.Level.TheVariants as level_
use Rattle.jn_base.specs.declared.tree.Kind.TheVariants as kind
use Rattle.jn_base.specs.declared.word.Word.{Word}
use Rattle.jn_base.specs.declared.word.Word.TheVariants.{Keyword as Key, Mark as Marked, End, Fault as Broken}
use Rattle.jn_base.specs.declared.word.Lexeme.{Lexeme}
use Rattle.jn_grammar.specs.declared.fault.Fault.{Fault}
use Rattle.jn_grammar.specs.ReadWhole.{program_in, first}
use Rattle.jn_grammar.specs.TokenLimits.{IsLast, the_end, no_word}
use Rattle.jn_grammar.specs.Expected.{Symbol, Expects, Shuts, Rest, Members, Tops, EndOfFile, Act, Takes, Counts, Opens, Closes, Leaves, Ends, Finishes, Refuses, does, led, step, State, Going, Done, Fails, read, ended}
use Rattle.jn_grammar.proofs.FirstWords.{never}
use Rattle.jn_grammar.proofs.Finish.{finish, Follow, Tidy, TidyState, parts_of, read_tidy}
use Rattle.jn_grammar.proofs.Steps.{next_state, read_next, read_fails, read_on, next_at, Alive, count_of}
use Rattle.jn_grammar.proofs.FirstFault.{done_of, alive_front}
use Rattle.jn_grammar.proofs.Programs.{tops, program_reader}

abbrev TakesNone : Act → Type 0
TakesNone (Takes s) = ⊥
TakesNone (Counts r s) = ⊥
TakesNone (Opens s) = ⊥
TakesNone (Closes s) = ⊥
TakesNone Leaves = Unit {0}
TakesNone Ends = Unit {0}
TakesNone Finishes = Unit {0}
TakesNone Refuses = Unit {0}

abbrev Stays : State → Type 0
Stays (Going n e) = ⊥
Stays Done = Unit {0}
Stays (Fails f) = Unit {0}

end_none : (x : Symbol) (v : List Lexeme) → Follow x v → TakesNone (does x End)
unfolding Follow
end_none (Expects (Marked m)) v f = tt
end_none (Expects (Key k)) v f = tt
end_none (Expects w) v f = absurd (never f)
end_none (Shuts (Marked m)) v f = tt
end_none (Shuts (Key k)) v f = tt
end_none (Shuts w) v f = absurd (never f)
end_none (Rest level_.Or) v f = tt
end_none (Rest level_.And) v f = tt
end_none (Rest level_.Equal) v f = tt
end_none (Rest level_.Compare) v f = tt
end_none (Rest level_.Sum) v f = tt
end_none (Rest level_.Product) v f = tt
end_none (Members kind.Class n) v f = tt
end_none (Members kind.Package n) v f = tt
end_none x v f = tt

broken_none : (x : Symbol) (v : List Lexeme) → Follow x v → TakesNone (does x Broken)
unfolding Follow
broken_none (Expects (Marked m)) v f = tt
broken_none (Expects (Key k)) v f = tt
broken_none (Expects w) v f = absurd (never f)
broken_none (Shuts (Marked m)) v f = tt
broken_none (Shuts (Key k)) v f = tt
broken_none (Shuts w) v f = absurd (never f)
broken_none (Rest level_.Or) v f = tt
broken_none (Rest level_.And) v f = tt
broken_none (Rest level_.Equal) v f = tt
broken_none (Rest level_.Compare) v f = tt
broken_none (Rest level_.Sum) v f = tt
broken_none (Rest level_.Product) v f = tt
broken_none (Members kind.Class n) v f = tt
broken_none (Members kind.Package n) v f = tt
broken_none x v f = tt

none_taken : (w : Word) → IsLast w → (x : Symbol) (v : List Lexeme) → Follow x v → TakesNone (does x w)
none_taken w the_end x v f = end_none x v f
none_taken w no_word x v f = broken_none x v f

led_stays : (s : Bool) (a : Act) (n : ℕ) (below : List Symbol) (l : ℕ) (others : ℕ → State) → TakesNone a → ((m : ℕ) → Stays (others m)) → Stays (led s a n below l others)
led_stays s (Takes z) n below l o a h = absurd a
led_stays s (Counts r z) n below l o a h = absurd a
led_stays s (Opens z) n below l o a h = absurd a
led_stays s (Closes z) n below l o a h = absurd a
led_stays s Leaves n below l o a h = h n
led_stays s Ends n below l o a h = h (suc n)
led_stays s Finishes n below l o a h = tt
led_stays s Refuses n below l o a h = tt

end_stays : (s : Bool) (w : Word) → IsLast w → (n : ℕ) (below : List Symbol) (l : ℕ) → Stays (step s (EndOfFile ∷ below) n w l)
end_stays s w the_end n below l = tt
end_stays s w no_word n below l = tt

step_stays : (s : Bool) (w : Word) → IsLast w → (expected : List Symbol) → Tidy expected → (n l : ℕ) → Stays (step s expected n w l)
step_stays s w h [] t n l = tt
step_stays s w h (x ∷ below) t n l = by_parts (parts_of x below t) (λ u m. step_stays s w h below u m l)
  where
    by_parts : (x ≡ EndOfFile) ⊎ (Follow x (finish below) × Tidy below) → (Tidy below → (m : ℕ) → Stays (step s below m w l)) → Stays (step s (x ∷ below) n w l)
    by_parts (inl e) g = subst (λ (y : Symbol). Stays (step s (y ∷ below) n w l)) (sym e) (end_stays s w h n below l)
    by_parts (inr p) g = led_stays s (does x w) n below l (λ m. step s below m w l) (none_taken w h x (finish below) p.0) (g p.1)

-- a fault stands at one of the words that were read
same_fault : (f g : Fault) → ◌≡◌ {A = State} (Fails f) (Fails g) → f ≡ g
same_fault f g e = cc

fails_at : (s : Bool) (ts : List Lexeme) (st : State) (f : Fault) → Alive st → read s ts st ≡ Fails f → 1 ≤ count_of f
fails_at s [] (Going n e) f a q = cc
fails_at s [] Done f a q = cc
fails_at s [] (Fails g) f a q = absurd a
fails_at s (t ∷ ts) st f a q = by_state (next_state s st t.word (suc (length ts))) refl (sym (read_next s t ts st) ∙ q) (λ u. fails_at s ts u f)
  where
    by_state : (u : State) → next_state s st t.word (suc (length ts)) ≡ u → read s ts u ≡ Fails f → ((u : State) → Alive u → read s ts u ≡ Fails f → 1 ≤ count_of f) → 1 ≤ count_of f
    by_state (Going m e) p x r = r (Going m e) tt x
    by_state Done p x r = r Done tt x
    by_state (Fails g) p x r =
        let c : count_of g ≡ suc (length ts) = next_at s st t.word (suc (length ts)) g a p in
        let same : g ≡ f = same_fault g f (sym (read_fails s ts g) ∙ x) in
        omega (arith, c, ap count_of same)

-- it does not go on behind them
not_going : (front : List Lexeme) (last : Lexeme) (m : ℕ) (e : List Symbol) → IsLast last.word → read true (front ++ last ∷ []) (Going 200 (first Tops)) ≡ Going m e → ⊥
unfolding TidyState
not_going front last m e h q = by_state (read true front start) refl (alive_front front (last ∷ []) start (subst (λ (v : State). Alive v) (sym q) tt)) (read_tidy true front start (tops.tidy 200))
  where
    start : State
    start = Going 200 (first Tops)

    stays : (v : State) → Stays v → v ≡ Going m e → ⊥
    stays v s p = subst (λ (u : State). Stays u) p s

    by_state : (u : State) → read true front start ≡ u → Alive (read true front start) → TidyState (read true front start) → ⊥
    by_state (Going i x) p a t = stays _ (step_stays true last.word h x (subst (λ (v : State). TidyState v) p t) i 1) (sym (read_on true front (last ∷ []) start (Going i x) p tt) ∙ q)
    by_state Done p a t = stays _ tt (sym (read_on true front (last ∷ []) start Done p tt) ∙ q)
    by_state (Fails f) p a t = subst (λ (v : State). Alive v) p a

-- NO FAULT STANDS BEHIND THE LAST WORD
pub fault_there : (front : List Lexeme) (last : Lexeme) (f : Fault) → IsLast last.word → program_in (front ++ last ∷ []) ≡ Err f → 1 ≤ count_of f
fault_there front last f h e = by_state (read true (front ++ last ∷ []) (Going 200 (first Tops))) refl (program_reader.does true 200 (front ++ last ∷ []) ∙ ap done_of e)
  where
    by_state : (u : State) → read true (front ++ last ∷ []) (Going 200 (first Tops)) ≡ u → ended (read true (front ++ last ∷ []) (Going 200 (first Tops))) ≡ Fails f → 1 ≤ count_of f
    by_state (Going m x) q p = absurd (not_going front last m x h q)
    by_state Done q p = absurd (done_not (sym (ap ended q) ∙ p))
      where
        done_not : Done ≡ Fails f → ⊥
        done_not e = cc
    by_state (Fails g) q p = fails_at true (front ++ last ∷ []) (Going 200 (first Tops)) f tt (q ∙ sym (ap ended q) ∙ p)
