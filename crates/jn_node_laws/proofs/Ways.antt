-- What each word for a step leaves to show: Q holds of what is stuck, and of the rest by what was found.
use Rattle.std.proofs.Common.{◌≡◌, ℕ, zero, suc, ◌+◌, List, [], ◌∷◌, length, arith, Option, Some, None, Bool, true, false, refl, sym, ap, ◌∙◌, subst}
use Rattle.std.specs.Prelude.{ℤ}
use Rattle.jn_steps.specs.Steps.{Faults, on_args}
use Rattle.jn_base.specs.Paths.{Path}
use Rattle.jn_base.specs.declared.tree.Program.{Program}
use Rattle.jn_code.specs.Machine as machine
use Rattle.jn_sem.specs.declared.outcome.Why.{Why}
use Rattle.jn_sem.specs.declared.outcome.Why.TheVariants as why
use Rattle.jn_sem.specs.Values.{Value, Number, Truth, Null, Reference}
use Rattle.jn_sem.specs.Asks.{OnOnly, OnTest, OnSome, OnIf, OnFirst, Only, found, not_found, holds, fails}
use Rattle.jn_sem.specs.Does.{Ending, AtNull, Stuck, Did, Way, args_of, on_object, on_truth, ends}
use Rattle.jn_sem.specs.Does as does
use Rattle.jn_agree.specs.Naming.{Naming, First, IsWord, WordsAre}
use Rattle.jn_node_laws.specs.Cont.{of_frame, of_this, Layout, LaidOut, Takes, TakesAll}

module _ (Q : Did → Type 0) (no_way : (d : Did) (w : Why) → d ≡ Faults (Stuck w) → Q d) where
  pub w_only : {A : Type 0} (Is : A → Type 0) (Go : A → Way) (d : Did) → OnOnly Is does.missing Go d →
      ((a : A) → Only Is a → Go a d → Q d) → Q d
  w_only Is Go d (found a only g) on = on a only g
  w_only Is Go d (not_found none e) on = no_way d why.Missing e

  pub w_some : {A : Type 0} (o : Option A) (w : Why) (Go : A → Way) (d : Did) → OnSome o (ends (Stuck w)) Go d →
      ((a : A) → o ≡ Some a → Go a d → Q d) → Q d
  w_some None w Go d e on = no_way d w e
  w_some (Some a) w Go d g on = on a refl g

  pub w_first : (vs : List Value) (Go : Value → List Value → Way) (d : Did) → OnFirst vs does.missing Go d →
      ((v : Value) (us : List Value) → vs ≡ v ∷ us → Go v us d → Q d) → Q d
  w_first [] Go d e on = no_way d why.Missing e
  w_first (v ∷ us) Go d g on = on v us refl g

  pub w_if : (b : Bool) (Go : Way) (d : Did) → OnIf b does.missing Go d → (b ≡ true → Go d → Q d) → Q d
  w_if false Go d e on = no_way d why.Missing e
  w_if true Go d g on = on refl g

  pub w_test : (Is : Type 0) (Go : Way) (d : Did) → OnTest Is does.missing Go d → (Is → Go d → Q d) → Q d
  w_test Is Go d (holds is g) on = on is g
  w_test Is Go d (fails not_so e) on = no_way d why.Missing e

  pub w_object : (v : Value) (Go : ℕ → Path → Way) (d : Did) → on_object v Go d → (v ≡ Null → d ≡ Faults AtNull → Q d)
      → ((o : ℕ) (V : Path) → v ≡ Reference o V → Go o V d → Q d) → Q d
  w_object (Number z) Go d e null on = no_way d why.Kind e
  w_object (Truth b) Go d e null on = no_way d why.Kind e
  w_object Null Go d e null on = null refl e
  w_object (Reference o V) Go d g null on = on o V refl g

  pub w_truth : (v : Value) (Go : Bool → Way) (d : Did) → on_truth v Go d → ((b : Bool) → v ≡ Truth b → Go b d → Q d)
      → Q d
  w_truth (Number z) Go d e on = no_way d why.Kind e
  w_truth (Truth b) Go d g on = on b refl g
  w_truth Null Go d e on = no_way d why.Kind e
  w_truth (Reference o V) Go d e on = no_way d why.Kind e

-- ---- words of operands

pub record OneWord (p : Program) (n : Naming) (firsts : List First) (v : Value) (vs : List Value)
    (zs : List ℤ) : Type 0 where
  pub word : ℤ
  pub rest : List ℤ
  pub is : zs ≡ word ∷ rest
  pub first : IsWord p n firsts v word
  pub others : WordsAre p n firsts vs rest

pub one_word : (p : Program) (n : Naming) (firsts : List First) (v : Value) (us vs : List Value) (zs : List ℤ) →
    vs ≡ v ∷ us → WordsAre p n firsts vs zs → OneWord p n firsts v us zs
one_word p n firsts v us vs zs e ws = at zs (subst (λ (vs : List Value). WordsAre p n firsts vs zs) e ws)
  where
    at : (zs : List ℤ) → WordsAre p n firsts (v ∷ us) zs → OneWord p n firsts v us zs
    at [] ws = absurd ws
    at (z ∷ zs) ws = record { word = z; rest = zs; is = refl; first = ws.0; others = ws.1 }

-- the latest operand, which is the frame's, and those below it
pub record TopWord (p : Program) (n : Naming) (firsts : List First) (this : Value) (l : Layout) (v : Value)
    (vs : List Value) (zs : List ℤ) : Type 0 where
  pub word : ℤ
  pub rest : List ℤ
  pub is : zs ≡ word ∷ rest
  pub first : IsWord p n firsts v word
  pub others : LaidOut p n firsts this l vs rest

pub top_word : (p : Program) (n : Naming) (firsts : List First) (this : Value) (k l : Layout) → Takes k l →
    (v : Value) (us vs : List Value) (zs : List ℤ) → vs ≡ v ∷ us → LaidOut p n firsts this k vs zs →
    TopWord p n firsts this l v us zs
top_word p n firsts this k l takes v us vs zs e ws =
    at k takes zs (subst (λ (vs : List Value). LaidOut p n firsts this k vs zs) e ws)
  where
    at : (k : Layout) → Takes k l → (zs : List ℤ) → LaidOut p n firsts this k (v ∷ us) zs →
        TopWord p n firsts this l v us zs
    at [] tk [] ws = absurd ws
    at [] tk (z ∷ zs) ws = record {
      word = z;
      rest = zs;
      is = refl;
      first = ws.0;
      others = subst (λ (l : Layout). LaidOut p n firsts this l us zs) (sym tk) ws.1;
    }
    at (of_frame ∷ k) tk [] ws = absurd ws
    at (of_frame ∷ k) tk (z ∷ zs) ws = record {
      word = z;
      rest = zs;
      is = refl;
      first = ws.0;
      others = subst (λ (l : Layout). LaidOut p n firsts this l us zs) (sym tk) ws.1;
    }
    at (of_this ∷ k) tk zs ws = absurd tk

-- the words of arguments, which the machine takes in the same order
pub record ArgWords (p : Program) (n : Naming) (firsts : List First) (this : Value) (l : Layout) (k : ℕ)
    (taken zs : List ℤ) (args rest : List Value) : Type 0 where
  pub words : List ℤ
  pub below : List ℤ
  pub takes : (go : List ℤ → List ℤ → machine.Did) → on_args machine.Stuck k taken zs go ≡ go words below
  pub first : WordsAre p n firsts args words
  pub others : LaidOut p n firsts this l rest below

pub arg_words : (p : Program) (n : Naming) (firsts : List First) (this : Value) (k : ℕ) (j l : Layout) →
    TakesAll k j l → (taken vs : List Value) (ts zs : List ℤ)
    (x : List Value × List Value) → args_of k taken vs ≡ Some x → WordsAre p n firsts taken ts →
    LaidOut p n firsts this j vs zs → ArgWords p n firsts this l k ts zs x.0 x.1
arg_words p n firsts this zero j l tk taken vs ts zs x e tw ws =
    let s : (taken, vs) ≡ x = same (taken, vs) x e in
    record {
      words = ts;
      below = zs;
      takes = λ go. refl;
      first = subst (λ (x : List Value × List Value). WordsAre p n firsts x.0 ts) s tw;
      others = subst (λ (l : Layout). LaidOut p n firsts this l x.1 zs) (sym tk)
          (subst (λ (x : List Value × List Value). LaidOut p n firsts this j x.1 zs) s ws);
    }
  where
    same : (a b : List Value × List Value) → Some a ≡ Some b → a ≡ b
    same a b e = cc
arg_words p n firsts this (suc k) j l tk taken [] ts zs x e tw ws = cc
arg_words p n firsts this (suc k) j l tk taken (v ∷ vs) ts zs x e tw ws =
    let t = top_word p n firsts this j tk.0 tk.1 v vs (v ∷ vs) zs refl ws in
    let r = arg_words p n firsts this k tk.0 l tk.2 (v ∷ taken) vs (t.word ∷ ts) t.rest x e (t.first, tw) t.others in
    record {
      words = r.words;
      below = r.below;
      takes = λ go. ap (λ (zs : List ℤ). on_args machine.Stuck (suc k) ts zs go) t.is ∙ r.takes go;
      first = r.first;
      others = r.others;
    }

pub args_long : (k : ℕ) (taken vs : List Value) (x : List Value × List Value) → args_of k taken vs ≡ Some x →
    length x.0 ≡ length taken + k
args_long zero taken vs x e = let s = ap (λ (o : Option (List Value × List Value)). taken_in o) e in
    let t : length x.0 ≡ length taken = ap (λ (l : List Value). length l) (sym s) in omega (arith, t)
  where
    taken_in : Option (List Value × List Value) → List Value
    taken_in None = []
    taken_in (Some x) = x.0
args_long (suc k) taken [] x e = cc
args_long (suc k) taken (v ∷ vs) x e = let h = args_long k (v ∷ taken) vs x e in omega (arith, h)
