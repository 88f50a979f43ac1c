-- Items in a row.
use Rattle.std.proofs.Common.{◌≡◌, ℕ, zero, suc, Bool, true, List, [], ◌∷◌, ◌++◌, Ok, refl}
use Rattle.jn_base.specs.declared.word.Lexeme.{Lexeme}
use Rattle.jn_base.specs.Parts.{Part}
use Rattle.jn_grammar.specs.Answers.{Answer, many}
use Rattle.jn_grammar.proofs.Tools.{Sound, sound_bind, sound_if, glue}

-- each of them an X, the first of them the k-th
pub data Row {A : Type 0} (Is : ℕ → List Part → A → Type 0) : ℕ → List Part → List A → Type 0 where
  none : {k : ℕ} → Row Is k [] []
  next : {k : ℕ} {w v : List Part} {x : A} {xs : List A} → Is k w x → Row Is (suc k) v xs → Row Is k (w ++ v) (x ∷ xs)

-- What is read is a row.
pub many_sound : {A : Type 0} (Is : ℕ → List Part → A → Type 0) (more : List Lexeme → Bool) (item : ℕ → List Lexeme → Answer A)
    → ((k : ℕ) (ts : List Lexeme) → more ts ≡ true → Sound (Is k) ts (item k ts))
    → (clock k : ℕ) (ts : List Lexeme) → Sound (Row Is k) ts (many more item clock k ts)
unfolding many
many_sound Is more item h zero k ts = record { words = []; split = refl; is = none }
many_sound {A} Is more item h (suc clock) k ts =
    sound_if (Row Is k) ts (more ts) _ (Ok ([], ts))
    (λ e. sound_bind (Is k) (Row Is k) ts ts (item k ts) _ (h k ts e)
    (λ x tx. sound_bind (Row Is (suc k)) (Row Is k) x.1 ts (many more item clock (suc k) x.1) _ (many_sound Is more item h clock (suc k) x.1)
    (λ xs txs. record { words = tx.words ++ txs.words; split = glue _ _ _ _ _ tx.split txs.split; is = next tx.is txs.is })))
    (λ e. record { words = []; split = refl; is = none })
