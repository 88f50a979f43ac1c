-- The bounds of a job of some words are in their ranges, and `build` has the name of the file that it makes.
use Rattle.std.proofs.Common.{◌≡◌, ◌∙◌, ℕ, ◌≤◌, List, [], ◌∷◌, ap, subst, refl, Some, None, Bool, true, false, ◌&&◌, nat_le, if◌then◌else◌, arith}
use Rattle.std.specs.Prelude.{option_and_then, option_map, IsSome}
use Rattle.std.specs.declared.option.Option.{Option}
use Rattle.std.proofs.lemmas.Bool.{leb-true}
use Rattle.std.proofs.lemmas.Option.{same_Some}
use Rattle.jn_jobs.specs.Parts.{Text, Parts, parts}
use Rattle.jn_jobs.specs.Jobs as words
use Rattle.jn_jobs.specs.declared.JobKind.{JobKind as WordKind}
use Rattle.jn_jobs.specs.declared.JobKind.TheVariants as word
use Rattle.jn_jobs.specs.Jobs.{Target, number_in, bound_in, with_bounds}
use Rattle.jn_agree.specs.Agrees.{InRange}
use Rattle.jn_drive.specs.declared.words.JobKind.{JobKind}
use Rattle.jn_drive.specs.declared.words.JobKind.TheVariants as kinds
use Rattle.jn_drive.specs.Words.{kind_here}

-- what an option is the answer of
answer_of : {A B : Type 0} (f : A → Option B) (o : Option A) (b : B) → option_and_then f o ≡ Some b → (a : A) × (f a ≡ Some b)
answer_of f None b e = absurd (cc)
answer_of f (Some a) b e = (a, e)

-- and that it answers
target_of : {A B : Type 0} (f : A → Option B) (o : Option A) (b : B) → option_and_then f o ≡ Some b → (a : A) × (o ≡ Some a) × (f a ≡ Some b)
target_of f None b e = absurd (cc)
target_of f (Some a) b e = (a, refl, e)

within : (low high n k : ℕ) (b c : Bool) → nat_le low n ≡ b → nat_le n high ≡ c → (if b && c then Some n else None) ≡ Some k → (low ≤ k) × (k ≤ high)
within low high n k true true l h e =
    subst (λ (x : ℕ). (low ≤ x) × (x ≤ high)) (same_Some _ _ e) (leb-true low n l, leb-true n high h)
within low high n k true false l h e = absurd (cc)
within low high n k false c l h e = absurd (cc)

if_digits : (b : Bool) (o : Option ℕ) (k : ℕ) → (if b then o else None) ≡ Some k → o ≡ Some k
if_digits true o k e = e
if_digits false o k e = absurd (cc)

number_within : (most low high k : ℕ) (text : Text) → number_in most low high text ≡ Some k → (low ≤ k) × (k ≤ high)
number_within most low high k text e = within low high _ k _ _ refl refl (if_digits _ _ k e)

bound_within : (default high k : ℕ) (values : List Text) → 1 ≤ default → default ≤ high → bound_in default high values ≡ Some k → (1 ≤ k) × (k ≤ high)
bound_within default high k [] lo hi e = subst (λ (x : ℕ). (1 ≤ x) × (x ≤ high)) (same_Some _ _ e) (lo, hi)
bound_within default high k (v ∷ []) lo hi e = number_within 13 1 high k v e
bound_within default high k (v ∷ w ∷ ws) lo hi e = absurd (cc)

bounds_of : (a d s : Option ℕ) (t : Target) (j : words.Job) → with_bounds a d s t ≡ Some j → (a ≡ Some j.arena) × (d ≡ Some j.depth) × (t.kind ≡ j.kind) × (t.out ≡ j.out)
bounds_of (Some a) (Some d) (Some s) t j e =
    let h : words.job t a d s ≡ j = same_Some _ _ e in
    (ap (λ (x : words.Job). Some x.arena) h, ap (λ (x : words.Job). Some x.depth) h, ap (λ (x : words.Job). x.kind) h, ap (λ (x : words.Job). x.out) h)
bounds_of (Some a) (Some d) None t j e = absurd (cc)
bounds_of (Some a) None s t j e = absurd (cc)
bounds_of None d s t j e = absurd (cc)

parts_range : (p : Parts) (j : words.Job) → words.job_in p ≡ Some j → InRange j.arena j.depth
parts_range p j e =
    let t = answer_of (with_bounds (words.arena_in p) (words.depth_in p) (words.steps_in p)) (words.target_in p.positional) j e in
    let b = bounds_of (words.arena_in p) (words.depth_in p) (words.steps_in p) t.0 j t.1 in
    let a = bound_within 1048576 67108864 j.arena p.arena (omega arith) (omega arith) b.0 in
    let d = bound_within 1000 10000 j.depth p.depth (omega arith) (omega arith) b.1 in
    record { cells = a.0; most_cells = a.1; frames = d.0; most_frames = d.1 }

pub job_range : (ws : List Text) (j : words.Job) → words.job_of ws ≡ Some j → InRange j.arena j.depth
unfolding words.job_of
job_range ws j e = let p = answer_of words.job_in (parts ws None) j e in parts_range p.0 j p.1

-- ---- the file that `build` makes

-- a job with two words isn't `build`
number_target : (o : Option ℕ) (file : Text) (t : Target) → option_map (words.target word.Big file None) o ≡ Some t → t.kind ≡ word.Build → ⊥
number_target None file t e b = absurd (cc)
number_target (Some n) file t e b = let h = ap (λ (x : Target). x.kind) (same_Some _ _ e) ∙ b in absurd (cc)

two_words : (file : Text) (kind : WordKind) (t : Target) → words.target_on file kind ≡ Some t → t.kind ≡ word.Build → ⊥
two_words file word.Build t e b = absurd (cc)
two_words file word.Big t e b = number_target (number_in 2 1 64 file) file t e b
two_words file word.Check t e b = let h = ap (λ (x : Target). x.kind) (same_Some _ _ e) ∙ b in absurd (cc)
two_words file word.Show t e b = let h = ap (λ (x : Target). x.kind) (same_Some _ _ e) ∙ b in absurd (cc)
two_words file word.Mean t e b = let h = ap (λ (x : Target). x.kind) (same_Some _ _ e) ∙ b in absurd (cc)
two_words file word.Exec t e b = let h = ap (λ (x : Target). x.kind) (same_Some _ _ e) ∙ b in absurd (cc)
two_words file word.Run t e b = let h = ap (λ (x : Target). x.kind) (same_Some _ _ e) ∙ b in absurd (cc)

-- one with three has the third
three_words : (file out : Text) (kind : WordKind) (t : Target) → words.build_target file out kind ≡ Some t → IsSome t.out
three_words file out word.Build t e = subst IsSome (ap (λ (x : Target). x.out) (same_Some _ _ e)) refl
three_words file out word.Big t e = absurd (cc)
three_words file out word.Check t e = absurd (cc)
three_words file out word.Show t e = absurd (cc)
three_words file out word.Mean t e = absurd (cc)
three_words file out word.Exec t e = absurd (cc)
three_words file out word.Run t e = absurd (cc)

target_out : (ws : List Text) (t : Target) → words.target_in ws ≡ Some t → t.kind ≡ word.Build → IsSome t.out
target_out [] t e b = absurd (cc)
target_out (w ∷ []) t e b = absurd (cc)
target_out (w ∷ file ∷ []) t e b = let k = answer_of (words.target_on file) (words.kind_of w) t e in absurd (two_words file k.0 t k.1 b)
target_out (w ∷ file ∷ out ∷ []) t e b = let k = answer_of (words.build_target file out) (words.kind_of w) t e in three_words file out k.0 t k.1
target_out (w ∷ file ∷ out ∷ more ∷ ws) t e b = absurd (cc)

parts_out : (p : Parts) (j : words.Job) → words.job_in p ≡ Some j → j.kind ≡ word.Build → IsSome j.out
parts_out p j e b =
    let t = target_of (with_bounds (words.arena_in p) (words.depth_in p) (words.steps_in p)) (words.target_in p.positional) j e in
    let k = bounds_of (words.arena_in p) (words.depth_in p) (words.steps_in p) t.0 j t.2 in
    subst IsSome k.3 (target_out p.positional t.0 t.1 (k.2 ∙ b))

out_there : (ws : List Text) (j : words.Job) → words.job_of ws ≡ Some j → j.kind ≡ word.Build → IsSome j.out
unfolding words.job_of
out_there ws j e b = let p = answer_of words.job_in (parts ws None) j e in parts_out p.0 j p.1 b

is_build : (kind : WordKind) → Some kinds.Build ≡ kind_here kind → kind ≡ word.Build
is_build word.Build e = refl
is_build word.Big e = absurd (cc)
is_build word.Check e = absurd (cc)
is_build word.Show e = absurd (cc)
is_build word.Mean e = absurd (cc)
is_build word.Exec e = absurd (cc)
is_build word.Run e = absurd (cc)

-- Where the words are `build`, the job has the name.
pub out_named : (ws : List Text) (j : words.Job) (kind : JobKind) → words.job_of ws ≡ Some j → Some kind ≡ kind_here j.kind → kind ≡ kinds.Build → IsSome j.out
out_named ws j kind of known b = out_there ws j of (is_build j.kind (subst (λ (k : JobKind). Some k ≡ kind_here j.kind) b known))
