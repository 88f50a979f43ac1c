-- A nonterminal as a whole input: its reader, its grammar and its machine, and so the place of its first fault.
use Rattle.std.proofs.Common.{◌≡◌, ℕ, suc, ◌+◌, Bool, true, false, List, [], ◌∷◌, ◌++◌, length, Ok, Err, refl, sym, ◌∙◌, ap, subst, if◌then◌else◌}
use Rattle.std.specs.Prelude.{All, None}
use Rattle.std.proofs.lemmas.List.{append-nil}
use Rattle.std.proofs.lemmas.List.Elements.{All-head, All-tail}
use Rattle.jn_base.specs.declared.tree.Place.{Place}
use Rattle.jn_base.specs.declared.word.Word.TheVariants.{End}
use Rattle.jn_base.specs.declared.word.Lexeme.{Lexeme}
use Rattle.jn_base.specs.Words.{lexeme}
use Rattle.jn_base.specs.Parts.{Part, end_of_file}
use Rattle.jn_base.specs.Spelling.{limit_of}
use Rattle.jn_grammar.specs.declared.fault.Fault.TheVariants.{Syntax}
use Rattle.jn_grammar.specs.Begins.{place, lexemes, is_word}
use Rattle.jn_grammar.specs.Answers.{Answer, ◌>>=◌, here, expect}
use Rattle.jn_grammar.specs.Expected.{Symbol, EndOfFile, Finishes, Refuses, led, step, State, Going, Done, read, run}
use Rattle.jn_grammar.specs.ReadWhole.{IsWhole, whole, last_in, whole_in, first}
use Rattle.jn_grammar.proofs.Tools.{Took, Sound, sound_bind, sound_expect, glue, took_of}
use Rattle.jn_grammar.proofs.Meets.{met, meets, Reads, then_reads}
use Rattle.jn_grammar.proofs.Machine.{into, Comes, comes_then, Does, run_fails}
use Rattle.jn_grammar.proofs.Finish.{finish, TidyState, read_tidy}
use Rattle.jn_grammar.proofs.Finishes.{finishes}
use Rattle.jn_grammar.specs.Places.{IsSpelled}
use Rattle.jn_grammar.proofs.FirstFault.{done_of, IsEnded, IsReader}

-- What is asked of the nonterminal alone.
pub record IsInner {A : Type 0} (Is : Place → List Part → A → Type 0) (inner : Bool → ℕ → List Lexeme → Answer A) (x : Symbol) : Type 0 where
  pub sound : (s : Bool) (n : ℕ) (ts : List Lexeme) → Sound (Is (place ts)) ts (inner s n ts)
  pub again : {p : Place} {w : List Part} {a : A} → Is p w a → (q : Place) → Reads (inner true 200) w (lexeme End q ∷ []) a
  pub runs : (s : Bool) (n : ℕ) (ts : List Lexeme) → Does s x n ts (EndOfFile ∷ []) (inner s n ts)
  pub tidy : (n : ℕ) → TidyState (Going n (first x))

-- nothing stays behind
nothing_left : {A : Type 0} (e : A) (ts : List Lexeme) (x : A × List Lexeme) → last_in e ts ≡ Ok x → x.1 ≡ []
nothing_left {A} e [] x h = snd_is x h
  where
    snd_is : (x : A × List Lexeme) → ◌≡◌ {A = Answer A} (Ok (e, [])) (Ok x) → x.1 ≡ []
    snd_is x h = cc
nothing_left e (t ∷ ts) x h = cc

-- where no word passes a limit, none is met
meets_none : {A : Type 0} (w : List Part) (v : List Lexeme) (r : Answer A) → All (λ (t : Part). limit_of t.role ≡ None) w → meets w v r ≡ r
meets_none [] v r h = refl
meets_none (t ∷ w) v r h = ap (λ k. met k (suc (length w + length v)) (meets w v r)) (All-head (λ (t : Part). limit_of t.role ≡ None) t w h) ∙ meets_none w v r (All-tail (λ (t : Part). limit_of t.role ≡ None) t w h)

-- the end of the file on top, and nothing below
end_runs : {A : Type 0} (s : Bool) (n : ℕ) (e : A) (ts : List Lexeme) → run s ts (Going n (EndOfFile ∷ [])) ≡ into (λ (y : A × List Lexeme). Done) (expect End ts >>= λ z. last_in e z.1)
end_runs s n e [] = refl
end_runs {A} s n e (t ∷ ts) = by_bool (is_word End t.word)
  where
    by_left : (ts : List Lexeme) → run s ts Done ≡ into (λ (y : A × List Lexeme). Done) (last_in e ts)
    by_left [] = refl
    by_left (u ∷ us) = refl

    by_bool : (c : Bool) → run s ts (led s (if c then Finishes else Refuses) n [] (suc (length ts)) (λ m. step s [] m t.word (suc (length ts))))
        ≡ into (λ (y : A × List Lexeme). Done) ((if c then Ok (t.at, ts) else here (t ∷ ts)) >>= λ z. last_in e z.1)
    by_bool true = by_left ts
    by_bool false = run_fails s ts (Syntax (suc (length ts)))

done_is : {A : Type 0} (r : Answer A) → into (λ (y : A × List Lexeme). Done) r ≡ done_of r
done_is (Ok x) = refl
done_is (Err f) = refl

module _ {A : Type 0} (Is : Place → List Part → A → Type 0) (inner : Bool → ℕ → List Lexeme → Answer A) (x : Symbol) (i : IsInner Is inner x) where
  pub whole_sound : (s : Bool) (n : ℕ) (ts : List Lexeme) → Sound (IsWhole Is) ts (whole_in inner s n ts)
  unfolding whole_in
  whole_sound s n ts = sound_bind (Is (place ts)) (IsWhole Is) ts ts _ _ (i.sound s n ts)
      (λ e te. sound_expect (IsWhole Is) End e.1 ts _
      (λ q rest z. by_rest e te q rest z))
    where
      by_rest : (e : A × List Lexeme) → Took (Is (place ts)) ts e → (q : Place) (rest : List Lexeme) → e.1 ≡ lexeme End q ∷ rest → Sound (IsWhole Is) ts (last_in e.0 rest)
      by_rest e te q [] z = record { words = te.words ++ end_of_file q ∷ []; split = glue ts te.words (end_of_file q ∷ []) e.1 [] te.split z; is = whole q te.is }
      by_rest e te q (t ∷ rest) z = tt

  whole_left : (s : Bool) (n : ℕ) (ts : List Lexeme) (y : A × List Lexeme) → whole_in inner s n ts ≡ Ok y → y.1 ≡ []
  unfolding whole_in
  whole_left s n ts y h = by_inner (inner s n ts) h
    where
      by_end : (e : A) (r : Answer Place) → (r >>= λ z. last_in e z.1) ≡ Ok y → y.1 ≡ []
      by_end e (Ok z) h = nothing_left e z.1 y h
      by_end e (Err f) h = cc

      by_inner : (r : Answer A) → (r >>= λ e. expect End e.1 >>= λ z. last_in e.0 z.1) ≡ Ok y → y.1 ≡ []
      by_inner (Ok e) h = by_end e.0 (expect End e.1) h
      by_inner (Err f) h = cc

  pub spelled : (s : Bool) (n : ℕ) (ts : List Lexeme) (y : A × List Lexeme) → whole_in inner s n ts ≡ Ok y → IsSpelled (IsWhole Is) ts y.0
  spelled s n ts y h =
      let tk = took_of (IsWhole Is) ts (whole_in inner s n ts) y (whole_sound s n ts) h in
      record { parts = tk.words; are_words = sym (tk.split ∙ ap (λ (v : List Lexeme). lexemes tk.words ++ v) (whole_left s n ts y h) ∙ append-nil (lexemes tk.words)); is = tk.is }

  again : (parts : List Part) (a : A) → IsWhole Is parts a → whole_in inner true 200 (lexemes parts) ≡ meets parts [] (Ok (a, []))
  unfolding whole_in
  again parts a (whole q {w} j) =
      ap (λ (v : List Lexeme). whole_in inner true 200 v) (sym (append-nil (lexemes (w ++ end_of_file q ∷ []))))
      ∙ then_reads (inner true 200) (λ e. expect End e.1 >>= λ z. last_in e.0 z.1) w (end_of_file q ∷ []) [] a (Ok (a, []))
      (i.again j q) refl

  pub only_so : (parts : List Part) (a : A) → IsWhole Is parts a → All (λ (t : Part). limit_of t.role ≡ None) parts → whole_in inner true 200 (lexemes parts) ≡ Ok (a, [])
  only_so parts a j h = again parts a j ∙ meets_none parts [] (Ok (a, [])) h

  whole_runs : (s : Bool) (n : ℕ) (ts : List Lexeme) → Comes (run s ts (Going n (first x))) (λ y. Done) (whole_in inner s n ts)
  unfolding whole_in
  whole_runs s n ts = comes_then (i.runs s n ts) (λ e _. record { eq = end_runs s n e.0 e.1 })

  goes_on : (front : List Lexeme) (n m : ℕ) (expected : List Symbol) → read false front (Going n (first x)) ≡ Going (suc m) expected → IsEnded m expected
  unfolding TidyState
  goes_on front n m expected q = record { finish = finish expected; ends = finishes expected (subst (λ (u : State). TidyState u) q (read_tidy false front (Going n (first x)) (i.tidy n))) m }

  -- ALL THAT THE THEOREM OF PLACES ASKS
  pub whole_reader : IsReader (IsWhole Is) (whole_in inner) (first x)
  whole_reader = record { sound = spelled; again = again; does = λ s n ts. (whole_runs s n ts).eq ∙ done_is (whole_in inner s n ts); goes_on = goes_on }
