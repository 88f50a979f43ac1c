-- What a store and a sink tell, and how each call changes it. What isn't told is `None`, and stays so.
use Rattle.std.specs.Prelude.{◌≡◌, ℕ, List, [], take, ⊤, Some, None, IsSome, IsNone, Result, MatchResult}
use Rattle.std.specs.declared.option.Option.{Option}
use Rattle.std.specs.Option.{option_map}
use Rattle.std.specs.declared.cmp.Ordering.{Ordering}
use Rattle.std.specs.Ordering.{nat_cmp}
use Rattle.std.specs.Cmp.Lexicographic.{slice_cmp}
use Rattle.std.specs.Io.KnownBytes.{prepend_known, append_known, IsAtEnd}
use Rattle.std.specs.FinMap.{FinMap, get, insert}

-- names in the order of their bytes
abbrev pub name_cmp : List ℕ → List ℕ → Ordering
name_cmp = slice_cmp nat_cmp

-- the files of a store: to each name there is, the file's bytes
abbrev pub Files : Type 0
Files = FinMap name_cmp (List ℕ)

-- The files are told, and none has this name.
abbrev pub Lacks : Option Files → List ℕ → Type 0
Lacks None name = ⊥
Lacks (Some files) name = IsNone (get files name)

-- The rest is told, and is the bytes of the file of this name, which is there. Untold files say nothing.
abbrev pub IsFileOf : Option Files → List ℕ → Option (List ℕ) → Type 0
IsFileOf None name rest = ⊤
IsFileOf (Some files) name rest = IsSome rest × (rest ≡ get files name)

-- Nothing is left, and a store that tells its files tells that too.
abbrev pub IsNothing : Option Files → Option (List ℕ) → Type 0
IsNothing None rest = IsAtEnd rest
IsNothing (Some files) rest = rest ≡ Some []

-- `begin` makes the rest the file's bytes; where it failed, nothing is left.
abbrev pub Begins : {T E : Type 0} → Option Files → List ℕ → Option (List ℕ) → Result T E → Type 0
Begins files name rest result = MatchResult result (λ _. IsFileOf files name rest) (λ _. IsNothing files rest)

-- `read` takes n bytes off the front of the rest, none only at the end; where it failed, the rest is as before.
abbrev pub Reads : {E : Type 0} → Option (List ℕ) → Option (List ℕ) → Result ℕ E → List ℕ → Type 0
Reads old new result buf =
    MatchResult result (λ n. (old ≡ prepend_known (take n buf) new) × (n ≡ 0 → IsAtEnd new)) (λ _. new ≡ old)

-- `save` makes the file of this name hold exactly the bytes; where it failed, the files are as before.
abbrev pub Saves : {T E : Type 0} → Option Files → Option Files → List ℕ → List ℕ → Result T E → Type 0
Saves old new name bytes result =
    MatchResult result (λ _. new ≡ option_map (λ files. insert files name bytes) old) (λ _. new ≡ old)

-- `put` takes all the bytes; where it failed, a prefix of them.
abbrev pub Takes : {T E : Type 0} → Option (List ℕ) → Option (List ℕ) → List ℕ → Result T E → Type 0
Takes old new bytes result =
    MatchResult result (λ _. new ≡ append_known old bytes) (λ _. (n : ℕ) × (new ≡ append_known old (take n bytes)))
